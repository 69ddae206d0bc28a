-- A clip is saved by itself once.
use Rattle.std.proofs.Common.{◌≡◌, ◌∙◌, ap, ℕ, ◌||◌, ◌&&◌, Bool, true, false, not, List, [], ◌∷◌, Option, Some, None, is_some, zero, suc, length, nat_lt, slice_get, arith, refl}
use Rattle.std.specs.List.{position, position_or_len}
use Rattle.std.proofs.lemmas.Grind.{common_steps}
use Rattle.loop_station_core.specs.Saving.{IsByItself, Places, has_automatic, has_such, is_same, saves_itself}
use Rattle.loop_station_core.specs.declared.saves.Save.{Save}
use Rattle.loop_station_core.specs.declared.saves.SaveKey.{SaveKey}

module _ {X : Type 0} (p : X → Bool) where
  pub found : (xs : List X) (i : ℕ) (x : X) → slice_get xs i ≡ Some x → p x ≡ true → nat_lt (position_or_len p xs) (length xs) ≡ true
  found [] i x e h = grind (arith, common_steps)
  found (y ∷ ys) zero x e h = grind (arith, common_steps)
  found (y ∷ ys) (suc i) x e h = let rest = found ys i x e h in grind (arith, common_steps)

  missed : (xs : List X) → ((i : ℕ) (x : X) → slice_get xs i ≡ Some x → p x ≡ false) → nat_lt (position_or_len p xs) (length xs) ≡ false
  missed [] none = grind (arith, common_steps)
  missed (y ∷ ys) none =
      let first : p y ≡ false = none zero y refl in
      let rest = missed ys (λ i x e. none (suc i) x e) in grind (arith, common_steps)

  is-found : (xs : List X) (b : Bool) → nat_lt (position_or_len p xs) (length xs) ≡ b → is_some (position p xs) ≡ b
  is-found xs true h = grind (arith, common_steps)
  is-found xs false h = grind (arith, common_steps)

itself : (key : SaveKey) (s : Save) → IsByItself key s → saves_itself key s ≡ true
itself key s h = let a = h.0 in let c = h.1 in let k = h.2 in grind (arith, common_steps)

by-itself : (key : SaveKey) (s : Save) → saves_itself key s ≡ true → IsByItself key s
by-itself key s e = at s.automatic s.cancelled (is_same key s.key) refl refl refl e
  where
    at : (a c k : Bool) → s.automatic ≡ a → s.cancelled ≡ c → is_same key s.key ≡ k → a && (not c && k) ≡ true → IsByItself key s
    at true false true x y z e = (x, y, z)
    at true false false x y z e = absurd (cc)
    at true true k x y z e = absurd (cc)
    at false c k x y z e = absurd (cc)

isn't : (b : Bool) → (b ≡ true → ⊥) → b ≡ false
isn't true n = absurd (n refl)
isn't false n = refl

or-second : (a b : Bool) → b ≡ true → a || b ≡ true
or-second true b e = refl
or-second false b e = e

pub clips-are-saved-once : (p : Places) (key : SaveKey)
    → ((place : ℕ) (s : Save) → slice_get p.running place ≡ Some (Some s) → IsByItself key s → has_automatic p key ≡ true)
    × ((turn : ℕ) (s : Save) → slice_get p.waiting turn ≡ Some s → IsByItself key s → has_automatic p key ≡ true)
    × (((place : ℕ) (s : Save) → slice_get p.running place ≡ Some (Some s) → IsByItself key s → ⊥)
    → ((turn : ℕ) (s : Save) → slice_get p.waiting turn ≡ Some s → IsByItself key s → ⊥)
    → has_automatic p key ≡ false)
clips-are-saved-once p key = (
  (λ place s e h. ap (λ b. b || is_some (position (saves_itself key) p.waiting))
      (is-found (has_such (saves_itself key)) p.running true (found (has_such (saves_itself key)) p.running place (Some s) e (itself key s h)))),
  (λ turn s e h. or-second (is_some (position (has_such (saves_itself key)) p.running)) (is_some (position (saves_itself key) p.waiting))
      (is-found (saves_itself key) p.waiting true (found (saves_itself key) p.waiting turn s e (itself key s h)))),
  (λ runs waits. ap (λ b. b || is_some (position (saves_itself key) p.waiting))
      (is-found (has_such (saves_itself key)) p.running false (missed (has_such (saves_itself key)) p.running (none-held runs)))
      ∙ is-found (saves_itself key) p.waiting false (missed (saves_itself key) p.waiting
      (λ i s e. isn't (saves_itself key s) (λ t. waits i s e (by-itself key s t))))),
)
  where
    none-held : ((place : ℕ) (s : Save) → slice_get p.running place ≡ Some (Some s) → IsByItself key s → ⊥)
        → (i : ℕ) (o : Option Save) → slice_get p.running i ≡ Some o → has_such (saves_itself key) o ≡ false
    none-held runs i None e = refl
    none-held runs i (Some s) e = isn't (saves_itself key s) (λ t. runs i s e (by-itself key s t))
