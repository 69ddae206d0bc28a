use Rattle.std.proofs.Common.{sym, arith}
use Rattle.loop_disk.proofs.Moments.{read_present}
use Rattle.loop_record.proofs.Bounds.{place-lt}
use Rattle.loop_record.proofs.OwnBytes.{slot_within}
use Rattle.loop_record.proofs.Parts.{apart}
use Rattle.loop_ring.proofs.SlotReads.{stays_on, part_read}
use Rattle.loop_ring.proofs.ring.Ring.read_part.Goals as goal

pub overflow_add-place : goal.overflow_add-place
overflow_add-place g c =
    let geometry = c.args.self.now.geometry in
    omega (
      arith,
      c.slot_at-place.ensures,
      slot_within geometry c.args.segment c.args.slot c.requires.slot,
      apart geometry c.args.segment geometry.segments c.requires.segment,
      place-lt geometry geometry.segments c.args.self.now.good (omega arith),
    )

pub overflow_add-place-2 : goal.overflow_add-place-2
overflow_add-place-2 g c =
    let geometry = c.args.self.now.geometry in
    omega (
      arith,
      c.requires.part,
      c.slot_at-place.ensures,
      slot_within geometry c.args.segment c.args.slot c.requires.slot,
      apart geometry c.args.segment geometry.segments c.requires.segment,
      place-lt geometry geometry.segments c.args.self.now.good (omega arith),
    )

pub read-requires : goal.read-requires
read-requires g c =
    let geometry = c.args.self.now.geometry in
    omega (
      arith,
      c.slot_at-place.ensures,
      c.in_ok-head.ensures.called.size,
      c.requires.extent,
      c.requires.part,
      slot_within geometry c.args.segment c.args.slot c.requires.slot,
      apart geometry c.args.segment geometry.segments c.requires.segment,
    )

pub returns-clause-part : goal.returns-clause-part
returns-clause-part g c = λ honest. (
  c.in_ok-head.ensures.head honest,
  part_read c.args.self.now.geometry c.args.segment c.args.slot _ _ c.args.at _ _ _ _ c.slot_at-place.ensures
      c.from.ensures c.requires.part (c.in_ok-head.ensures.disk honest).bytes (sym c.read.auto.buf)
      (read_present _ _ (g.met.D.Disk.sound c.read.new.self (c.in_ok-read.ensures.called.honest.0 (c.in_ok-head.ensures.called.honest.0 honest)))
      (c.in_ok-read.ensures.disk (c.in_ok-head.ensures.called.honest.0 honest)) c.in_ok-read.ensures.gives),
)

pub returns-clause-disk : goal.returns-clause-disk
returns-clause-disk g c = λ honest.
    stays_on _ _ _ (c.in_ok-head.ensures.disk honest) (c.in_ok-read.ensures.disk (c.in_ok-head.ensures.called.honest.0 honest))
