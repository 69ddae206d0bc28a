-- Lines of a camera are told in the order in which they came.
use Rattle.std.proofs.Common.{◌≡◌, ◌≤◌, ◌<◌, ◌≢◌, ◌+◌, ◌++◌, ℕ, Bool, true, false, List, [], ◌∷◌, length, arith, refl}
use Rattle.std.proofs.lemmas.Grind.{common_steps}
use Rattle.loop_station_core.specs.Tellings.{TellStep, comes, written, first_waiting, first_told, if_taken, if_told, if_waits, no_tellings, none_waits, orders_have_room, queue_after, queue_in, waiting_after_first, taken_by, taken_in, tellings_after, told_by, told_by_steps, told_when, LinesAreInOrder, LinesAreTakenIn}
use Rattle.loop_station_core.specs.declared.tellings.Tellings.{Tellings}
use Rattle.loop_station_core.specs.declared.tellings.ToldWhen.{ToldWhen}
use Rattle.loop_station_core.specs.declared.tellings.ToldWhen.TheVariants.{Now, Later, Full}

one-step : (t : Tellings) (q : List ℕ) (s : TellStep) → t.waiting ≡ length q
    → ((tellings_after t s).waiting ≡ length (queue_after t q s))
    × (told_by t q s ++ queue_after t q s ≡ q ++ taken_by t s)
one-step t [] (comes n true) h = grind (arith, common_steps)
one-step t [] (comes n false) h = grind (arith, common_steps)
one-step t (m ∷ q) (comes n noted) h = grind (arith, common_steps)
one-step t [] written h = grind (arith, common_steps)
one-step t (m ∷ q) written h = grind (arith, common_steps)

from-any : (t : Tellings) (q : List ℕ) (steps : List TellStep) → t.waiting ≡ length q
    → told_by_steps t q steps ++ queue_in t q steps ≡ q ++ taken_in t steps
from-any t q [] h = grind (arith, common_steps)
from-any t q (s ∷ ss) h =
    let one = one-step t q s h in
    let rest = from-any (tellings_after t s) (queue_after t q s) ss one.0 in
    grind (arith, common_steps)

pub lines-in-order : LinesAreInOrder
lines-in-order steps = from-any no_tellings [] steps (grind (arith, common_steps))

pub lines-taken : LinesAreTakenIn
lines-taken t noted = (
  (λ now. grind (arith, common_steps)),
  (λ none plain. grind (arith, common_steps)),
  (λ full. grind (arith, common_steps)),
  (λ room full. grind (arith, common_steps)),
)
