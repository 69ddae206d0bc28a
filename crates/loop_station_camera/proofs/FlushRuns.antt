-- Flushes, and one more.
use Rattle.std.proofs.Common.{◌++◌, List, [], ◌∷◌, Result, refl, subst}
use Rattle.loop_disk.specs.Medium.{Medium}
use Rattle.loop_store.specs.declared.fault.StoreFault.{StoreFault}
use Rattle.loop_desk.specs.declared.limits.Flushed.{Flushed}
use Rattle.loop_desk.specs.Desk.{flushed}
use Rattle.loop_desk.specs.Seen.{DeskGoes, SeenDesk}
use Rattle.loop_station_camera.specs.Keeping.{Flushes}

module _ {D : Type 0} (medium : D → Medium) (between new : SeenDesk D) (answer : Result Flushed StoreFault)
    (goes : DeskGoes medium between new (flushed answer ∷ [])) where
  pub one-more : (old : SeenDesk D) (answers : List (Result Flushed StoreFault)) → Flushes medium old answers between
      → Flushes medium old (answers ++ answer ∷ []) new
  one-more old [] same = (new, subst (λ d. DeskGoes medium d new (flushed answer ∷ [])) same goes, refl)
  one-more old (first ∷ answers) flushes =
      (flushes.0, flushes.1, one-more flushes.0 answers flushes.2)
