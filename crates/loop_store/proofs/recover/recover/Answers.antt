use Rattle.std.proofs.Common.{◌≡◌, Ok, Err}
use Rattle.loop_record.specs.Layout.{super_in}
use Rattle.loop_record.specs.Reading.{reading}
use Rattle.loop_store.specs.Index.{IsRecoveredIn}
use Rattle.loop_store.proofs.RecoveredParts.{finds-after}
use Rattle.loop_store.proofs.recover.recover.Goals as goal

pub returns-clause-finds : goal.returns-clause-finds
returns-clause-finds g c =
    finds-after c.recover_parts.result (λ image. super_in image ≡ Ok c.in_ok-head.head)
    (λ image index. IsRecoveredIn index image) (λ image fault. reading image ≡ Err fault) _ _ _
    c.in_ok-head.ensures.finds.found c.in_ok-head.ensures.finds.gives c.in_ok-head.ensures.finds.stays
    c.in_ok-head.ensures.finds.called c.recover_parts.ensures.finds
