use Rattle.loop_disk.proofs.Moments.{read_present}
use Rattle.loop_ring.proofs.SlotReads.{head_read, answers_damage}
use Rattle.loop_ring.proofs.ring.Ring.read_head.Goals as goal

pub returns-in_err-head-clause-head : goal.returns-in_err-head-clause-head
returns-in_err-head-clause-head g c = λ honest.
    answers_damage _ c.in_err-head.field-0.0 _
    (head_read c.args.self.now.geometry c.args.segment c.args.slot c.args.number _ _ _ _ _
    c.slot_at-place.ensures c.frame_bytes.ensures
    (read_present c.slot_at-place.result 32
    (g.met.D.Disk.sound c.read.new.self (c.in_ok-read.ensures.called.honest.0 honest))
    (c.in_ok-read.ensures.disk honest) c.in_ok-read.ensures.gives)
    c.in_err-head.ensures.head)
    c.from_residual-in_err-head.ensures.1

pub returns-clause-head : goal.returns-clause-head
returns-clause-head g c = λ honest.
    head_read c.args.self.now.geometry c.args.segment c.args.slot c.args.number _ _ _ _ _ c.slot_at-place.ensures
    c.frame_bytes.ensures (read_present c.slot_at-place.result 32 (g.met.D.Disk.sound c.read.new.self (c.in_ok-read.ensures.called.honest.0 honest))
    (c.in_ok-read.ensures.disk honest) c.in_ok-read.ensures.gives) c.in_ok-head.ensures.head
