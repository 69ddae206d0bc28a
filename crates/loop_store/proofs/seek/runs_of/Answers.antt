use Rattle.std.proofs.Common.{ℕ, get_or, refl, subst, sym, ap, ◌∙◌}
use Rattle.loop_record.specs.Times.{is_in}
use Rattle.loop_ring.specs.declared.group.SlotStamp.{SlotStamp}
use Rattle.loop_store.specs.Times.{stamp_under}
use Rattle.loop_store.proofs.TimeRuns.{RunsSoFar, runs-all, runs-more, runs-same}
use Rattle.loop_store.proofs.seek.runs_of.Goals as goal
use Rattle.loop_store.proofs.seek.runs_of.Goals.{then-has+in_ok-add_number, else-has}

pub loop-number-preserved : goal.loop-number-preserved
loop-number-preserved g c = λ rise.
    let s = c.args.index.now in
    let p = λ (n : ℕ). is_in c.args.times (stamp_under s.ring.geometry.slots s.table.heads s.stamps.items n).time in
    let ns = c.args.numbers.now in
    let k = c.loop-number.number-index in
    let said = ap (λ (s : SlotStamp). is_in c.args.times s.time) (sym c.stamp_under.ensures) ∙ sym c.has.ensures in
    elim c.if-has.branch [
      | then-has+in_ok-add_number w ↦ runs-more p ns k (get_or ns k 0) c.loop-number.runs.items c.if-has.runs.items rise
          c.loop-number-test.true refl (said ∙ w.if-has.true) (ap (λ v. v.items) w.runs-is ∙ w.in_ok-add_number.ensures) (c.loop-number.invariant rise)
      | else-has w ↦ runs-same p ns k (get_or ns k 0) c.if-has.runs.items c.loop-number-test.true refl (said ∙ w.if-has.false)
          (subst (λ v. RunsSoFar p ns k v.items) (sym w.runs-is) (c.loop-number.invariant rise))
    ]

pub returns : goal.returns
returns g c = λ rise.
    let s = c.args.index.now in
    runs-all (λ n. is_in c.args.times (stamp_under s.ring.geometry.slots s.table.heads s.stamps.items n).time) c.args.numbers.now
    c.loop-number.number-index c.loop-number.runs.items c.loop-number-test.false (c.loop-number.invariant rise)
