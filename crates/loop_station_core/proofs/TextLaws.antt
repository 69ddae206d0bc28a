-- A text that is told as saved is on the disk.
use Rattle.std.proofs.Common.{◌≡◌, Bool, true, false, List, [], ◌∷◌, arith, refl}
use Rattle.std.proofs.lemmas.Grind.{common_steps}
use Rattle.loop_station_core.specs.Texts.{AllThreeCame, FirstCame, after_steps}
use Rattle.loop_station_core.specs.declared.text.TextStep.{TextStep}
use Rattle.loop_station_core.specs.declared.text.TextStep.TheVariants.{SyncText, SyncName, Unname, Saved, NotSaved}
use Rattle.loop_station_core.specs.Laws.{TextsAreSaved}

-- what isn't saved stays so
stays : (replaces : Bool) (steps : List Bool) → after_steps NotSaved replaces steps ≡ NotSaved
stays replaces [] = refl
stays replaces (b ∷ bs) = stays replaces bs

-- and so does what was unnamed, at the latest a step later
unnamed : (replaces : Bool) (steps : List Bool) (x : TextStep) → after_steps Unname replaces steps ≡ x
    → (x ≡ Saved → ⊥) × (x ≡ SyncName → ⊥)
unnamed replaces [] x e = grind (arith, common_steps)
unnamed replaces (true ∷ bs) x e = let s = stays replaces bs in grind (arith, common_steps)
unnamed replaces (false ∷ bs) x e = let s = stays replaces bs in grind (arith, common_steps)

saved-stays : (replaces : Bool) (steps : List Bool) → after_steps Saved replaces steps ≡ Saved
saved-stays replaces [] = refl
saved-stays replaces (b ∷ bs) = saved-stays replaces bs

pub saved-there : (replaces : Bool) (steps : List Bool)
    → (after_steps SyncText replaces steps ≡ Saved → AllThreeCame steps)
    × (after_steps SyncText replaces steps ≡ SyncName → FirstCame steps)
saved-there replaces [] = grind (arith, common_steps)
saved-there replaces (false ∷ bs) = let s = stays replaces bs in grind (arith, common_steps)
saved-there replaces (true ∷ []) = grind (arith, common_steps)
saved-there replaces (true ∷ false ∷ bs) = let s = stays replaces bs in grind (arith, common_steps)
saved-there replaces (true ∷ true ∷ []) = grind (arith, common_steps)
saved-there replaces (true ∷ true ∷ true ∷ bs) = let s = saved-stays replaces bs in grind (arith, common_steps)
saved-there true (true ∷ true ∷ false ∷ bs) = let s = stays true bs in grind (arith, common_steps)
saved-there false (true ∷ true ∷ false ∷ bs) = let s = unnamed false bs (after_steps Unname false bs) refl in grind (arith, common_steps)

pub texts-saved : TextsAreSaved
texts-saved replaces rest = (stays-saved rest, refl, refl)
  where
    stays-saved : (rest : List Bool) → after_steps Saved replaces rest ≡ Saved
    stays-saved [] = refl
    stays-saved (done ∷ rest) = stays-saved rest
