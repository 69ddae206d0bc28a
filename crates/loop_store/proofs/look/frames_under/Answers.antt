use Rattle.std.proofs.Common.{◌≡◌, ◌∷◌, [], Option, length, sym, subst}
use Rattle.loop_record.specs.declared.segment.SegmentHead.{SegmentHead}
use Rattle.loop_store.specs.Numbers.{numbers_under}
use Rattle.loop_store.proofs.HeldCount.{one-header}
use Rattle.loop_store.proofs.look.frames_under.Goals as goal

pub returns-in-Some : goal.returns-in-Some
returns-in-Some c = λ slots. subst (λ (head : Option SegmentHead). c.in-Some.head.frames ≡ length
    (numbers_under slots (head ∷ []))) (sym c.in-Some.is) (one-header slots c.in-Some.head)
