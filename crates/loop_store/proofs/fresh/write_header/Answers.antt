use Rattle.std.proofs.Common.{arith}
use Rattle.loop_record.proofs.Parts.{apart}
use Rattle.loop_store.proofs.FormatWrites.{brings-laid, writing-closed, header-laid}
use Rattle.loop_store.proofs.fresh.write_header.Goals as goal

pub write_at-requires : goal.write_at-requires
write_at-requires g c = omega (
  arith,
  c.segment_at.ensures,
  c.requires.fits.1,
  apart c.args.head.now.geometry c.args.segment c.args.head.now.geometry.segments c.requires.segment,
)

pub returns : goal.returns
returns g c =
    brings-laid c.args.head.now _ _ _ c.write_at.result (λ honest. g.met.D.Disk.sound c.write_at.new.self (c.write_at.ensures.called.honest.0 honest))
    (λ honest. writing-closed _ _ _ _ c.write_at.result (omega (arith, c.segment_at.ensures))
    (g.met.D.Disk.sound c.args.disk.now honest) (c.requires.laid honest).0 (c.write_at.ensures.disk honest))
    (λ honest. header-laid c.args.head.now _ c.args.segment _ _ c.write_at.result c.segment_at.ensures
    c.requires.segment (c.requires.laid honest).1 (c.write_at.ensures.disk honest)) c.write_at.ensures.called
