use Rattle.std.proofs.Common.{arith}
use Rattle.loop_store.proofs.FormatWrites.{brings-laid, writing-closed, front-laid}
use Rattle.loop_store.proofs.fresh.write_front.Goals as goal

pub returns : goal.returns
returns g c =
    brings-laid c.args.head.now _ _ _ c.write_at.result (λ honest. g.met.D.Disk.sound c.write_at.new.self (c.write_at.ensures.called.honest.0 honest))
    (λ honest. writing-closed 1 _ _ _ c.write_at.result (omega arith) (g.met.D.Disk.sound c.args.disk.now honest)
    (c.requires.closed honest) (c.write_at.ensures.disk honest))
    (λ honest. front-laid c.args.head.now c.put_super.new.front c.behind_gate.result.now _ _ c.write_at.result
    c.put_super.ensures c.put_super.auto.front c.behind_gate.ensures (g.met.D.Disk.sound c.args.disk.now honest)
    c.requires.fits.1 (c.write_at.ensures.disk honest))
    c.write_at.ensures.called
