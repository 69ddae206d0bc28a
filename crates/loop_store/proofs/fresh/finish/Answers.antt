use Rattle.std.proofs.lemmas.Result.{err_from_is_err_and}
use Rattle.loop_disk.proofs.Moments.{called_on, joined}
use Rattle.loop_store.proofs.FormatReads.{sync-none}
use Rattle.loop_store.proofs.fresh.finish.Goals as goal

pub returns-in_err-sync : goal.returns-in_err-sync
returns-in_err-sync g c =
    let p = err_from_is_err_and c.from_residual.result c.from_residual.ensures.1 in
    rw (p.1, p.2) (record {
      moments = λ honest. sync-none c.args.head.now _ _ (g.met.D.Disk.sound c.args.disk.now honest)
          (c.requires.laid honest).0 (c.sync.ensures.disk honest).stays;
      such = λ honest. tt;
      called = c.in_err-sync.ensures.called;
    })

pub returns : goal.returns
returns g c = record {
  moments = λ honest.
      joined _ _ _ _ (sync-none c.args.head.now _ _ (g.met.D.Disk.sound c.args.disk.now honest)
      (c.requires.laid honest).0 (c.sync.ensures.disk honest).stays)
      (c.open_gate.ensures.moments (c.sync.ensures.called.honest.0 honest));
  such = λ honest. c.open_gate.ensures.such (c.sync.ensures.called.honest.0 honest);
  called = called_on _ _ _ _ c.in_ok-sync.ensures.called c.open_gate.ensures.called;
}
