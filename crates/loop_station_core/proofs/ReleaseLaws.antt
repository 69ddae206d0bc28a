-- Saves release a clip only where its text is there.
use Rattle.std.proofs.Common.{◌≡◌, ℕ, ◌&&◌, Bool, true, false, not, List, [], ◌∷◌, Option, Some, None, is_some, zero, suc, slice_get, slice_set, remove, replicate, arith, refl}
use Rattle.std.specs.List.{list_any, position, position_or_len}
use Rattle.std.proofs.lemmas.Grind.{common_steps}
use Rattle.loop_station_core.specs.Releases.{SaveStep, asks, cancels, clip_released_by, clip_released_in, ends, lets, lets_in, next_reader, no_saves, saves_after, says_release, stops}
use Rattle.loop_station_core.specs.Saving.{Places, after_end_of, asked, begun, cancelled, cancelled_at, earns, ended_at, freed, has_such, held_at, is_of_clip, is_same, left_to_others, new_save, picks, place_of, place_with, stopped, turn_of_clip, turn_with, update, update_held, wanted, with_cancel, with_release, with_wish}
use Rattle.loop_station_core.specs.declared.save_end.SaveEnd.{SaveEnd}
use Rattle.loop_station_core.specs.declared.saves.SaveKey.{SaveKey}
use Rattle.loop_station_core.specs.declared.saves.Save.{Save}

module _ {X : Type 0} where
  any-set : (f : X → Bool) (xs : List X) (i : ℕ) (x : X) → list_any f xs ≡ false → f x ≡ false
      → list_any f (slice_set xs i x) ≡ false
  any-set f [] i x h e = grind (arith, common_steps)
  any-set f (y ∷ ys) zero x h e = grind (arith, common_steps)
  any-set f (y ∷ ys) (suc i) x h e =
      let more : list_any f ys ≡ false = grind (arith, common_steps) in
      let rest = any-set f ys i x more e in
      grind (arith, common_steps)

  any-get : (f : X → Bool) (xs : List X) (i : ℕ) (x : X) → list_any f xs ≡ false → slice_get xs i ≡ Some x
      → f x ≡ false
  any-get f [] i x h e = grind (arith, common_steps)
  any-get f (y ∷ ys) zero x h e = grind (arith, common_steps)
  any-get f (y ∷ ys) (suc i) x h e =
      let more : list_any f ys ≡ false = grind (arith, common_steps) in
      let at : slice_get ys i ≡ Some x = grind (arith, common_steps) in
      any-get f ys i x more at

  any-remove : (f : X → Bool) (xs : List X) (i : ℕ) → list_any f xs ≡ false → list_any f (remove xs i) ≡ false
  any-remove f [] zero h = grind (arith, common_steps)
  any-remove f [] (suc i) h = grind (arith, common_steps)
  any-remove f (y ∷ ys) zero h = grind (arith, common_steps)
  any-remove f (y ∷ ys) (suc i) h =
      let more : list_any f ys ≡ false = grind (arith, common_steps) in
      let rest = any-remove f ys i more in
      grind (arith, common_steps)

  -- the first element that passes does pass
  first-passes : (p : X → Bool) (xs : List X) (x : X) → slice_get xs (position_or_len p xs) ≡ Some x → p x ≡ true
  first-passes p [] x e = grind (arith, common_steps)
  first-passes p (y ∷ ys) x e = at (p y) refl (λ there. first-passes p ys x there) where
    at : (b : Bool) → p y ≡ b → (slice_get ys (position_or_len p ys) ≡ Some x → p x ≡ true) → p x ≡ true
    at true h more = grind (arith, common_steps)
    at false h more =
        let there : slice_get ys (position_or_len p ys) ≡ Some x = grind (arith, common_steps) in
        more there

  pub first-at : (p : X → Bool) (xs : List X) (i : ℕ) (x : X) → position p xs ≡ Some i → slice_get xs i ≡ Some x
      → p x ≡ true
  first-at p xs i x e g =
      let same : position_or_len p xs ≡ i = grind (arith, common_steps) in
      let there : slice_get xs (position_or_len p xs) ≡ Some x = grind (arith, common_steps) in
      first-passes p xs x there

  -- the first element that passes is changed
  any-update : (f p : X → Bool) (g : X → X) (xs : List X) (i : ℕ) → position p xs ≡ Some i
      → ((x : X) → p x ≡ true → f x ≡ false → f (g x) ≡ false)
      → list_any f xs ≡ false → list_any f (update g i xs) ≡ false
  any-update f p g xs i e k h = at (slice_get xs i) refl where
    at : (o : Option X) → slice_get xs i ≡ o → list_any f (update g i xs) ≡ false
    at None n = grind (arith, common_steps)
    at (Some x) n =
        let passes = first-at p xs i x e n in
        let was = any-get f xs i x h n in
        let is = k x passes was in
        let rest = any-set f xs i (g x) h is in
        grind (arith, common_steps)

-- the end of a save releases a clip
abbrev pub bears : SaveKey → Save → Bool
bears key s = is_of_clip key s && s.release

-- that of no save does
abbrev Free : SaveKey → Places → Type 0
Free key p = (list_any (has_such (bears key)) p.running ≡ false)
    × (list_any (bears key) p.waiting ≡ false)

wish-of : (key k : SaveKey) → is_same key k ≡ false → (s : Save) → is_of_clip k s ≡ true
    → bears key (with_release s) ≡ false
wish-of key k d s r = grind (arith, common_steps)

wish-in : (key k : SaveKey) → is_same key k ≡ false → (o : Option Save)
    → has_such (is_of_clip k) o ≡ true → has_such (bears key) o ≡ false
    → has_such (bears key) (update_held with_release o) ≡ false
wish-in key k d None r h = grind (arith, common_steps)
wish-in key k d (Some s) r h =
    let read : is_of_clip k s ≡ true = grind (arith, common_steps) in
    let w = wish-of key k d s read in
    grind (arith, common_steps)

wanted-free : (key : SaveKey) (p : Places) (k : SaveKey) → is_same key k ≡ false → Free key p
    → Free key (wanted p k).0
wanted-free key p k d h = at (place_with p k) (turn_with p k) refl refl where
  at : (a b : Option ℕ) → place_with p k ≡ a → turn_with p k ≡ b → Free key (wanted p k).0
  at (Some place) b e n =
      let u = any-update (has_such (bears key)) (has_such (is_of_clip k)) (update_held with_release) p.running place e
      (wish-in key k d) h.0 in
      grind (arith, common_steps)
  at None (Some t) e n =
      let u = any-update (bears key) (is_of_clip k) with_release p.waiting t n
      (λ s r was. wish-of key k d s r) h.1 in
      grind (arith, common_steps)
  at None None e n = grind (arith, common_steps)

left-free : (key : SaveKey) (p : Places) (s : Save) → bears key s ≡ false → Free key p
    → Free key (left_to_others p s).0 × ((is_of_clip key s && (left_to_others p s).1) ≡ false)
left-free key p s d h = at s.release refl where
  at : (b : Bool) → s.release ≡ b
      → Free key (left_to_others p s).0 × ((is_of_clip key s && (left_to_others p s).1) ≡ false)
  at false e = grind (arith, common_steps)
  at true e =
      let other : is_same key s.key ≡ false = grind (arith, common_steps) in
      let w = wanted-free key p s.key other h in
      grind (arith, common_steps)

begun-free : (key : SaveKey) (p : Places) (place : ℕ) → Free key p → Free key (begun p place).0
begun-free key p place h = at p.waiting refl where
  at : (ws : List Save) → p.waiting ≡ ws → Free key (begun p place).0
  at [] e = grind (arith, common_steps)
  at (s ∷ ss) e =
      let one : bears key s ≡ false = grind (arith, common_steps) in
      let rest : list_any (bears key) ss ≡ false = grind (arith, common_steps) in
      let put = any-set (has_such (bears key)) p.running place (Some s) h.0 one in
      grind (arith, common_steps)

freed-free : (key : SaveKey) (p : Places) (place : ℕ) → Free key p → Free key (freed p place)
freed-free key p place h = (any-set (has_such (bears key)) p.running place None h.0 refl, h.1)

after-free : (key : SaveKey) (p : Places) (place : ℕ) (s : Save) → bears key s ≡ false → Free key p
    → Free key (after_end_of p place s).0 × ((is_of_clip key s && (after_end_of p place s).1.release) ≡ false)
after-free key p place s d h =
    let left = left-free key (freed p place) s d (freed-free key p place h) in
    (begun-free key (left_to_others (freed p place) s).0 place left.0, left.1)

held-free : (key : SaveKey) (p : Places) (place : ℕ) (s : Save) → held_at p place ≡ Some s → Free key p
    → bears key s ≡ false
held-free key p place s e h =
    let there : slice_get p.running place ≡ Some (Some s) = grind (arith, common_steps) in
    any-get (has_such (bears key)) p.running place (Some s) h.0 there

ended-free : (key : SaveKey) (p : Places) (place : ℕ) → Free key p
    → Free key (ended_at p place).0
    × ((has_such (is_of_clip key) (held_at p place) && (ended_at p place).1.release) ≡ false)
ended-free key p place h = at (held_at p place) refl where
  at : (o : Option Save) → held_at p place ≡ o → Free key (ended_at p place).0
      × ((has_such (is_of_clip key) (held_at p place) && (ended_at p place).1.release) ≡ false)
  at None e = grind (arith, common_steps)
  at (Some s) e =
      let d = held-free key p place s e h in
      let a = after-free key p place s d h in
      grind (arith, common_steps)

wish-free : (key : SaveKey) (p : Places) (place : ℕ) (end : SaveEnd) (releases : Bool) → Free key p
    → lets key p (ends place end releases) ≡ false → Free key (with_wish p place end releases)
wish-free key p place end releases h n = at (held_at p place) refl where
  by-earning : (s : Save) (b : Bool) → held_at p place ≡ Some s → earns s end releases ≡ b
      → Free key (with_wish p place end releases)
  by-earning s false e m = grind (arith, common_steps)
  by-earning s true e m =
      let other : is_same key s.key ≡ false = grind (arith, common_steps) in
      let w = wanted-free key p s.key other h in
      grind (arith, common_steps)

  at : (o : Option Save) → held_at p place ≡ o → Free key (with_wish p place end releases)
  at None e = grind (arith, common_steps)
  at (Some s) e = by-earning s (earns s end releases) e refl

-- a cancel changes nothing of what is released
cancel-in : (key : SaveKey) (c i : ℕ) (o : Option Save) → has_such (picks c i) o ≡ true
    → has_such (bears key) o ≡ false → has_such (bears key) (update_held with_cancel o) ≡ false
cancel-in key c i None r h = grind (arith, common_steps)
cancel-in key c i (Some s) r h = grind (arith, common_steps)

turned-free : (key : SaveKey) (p : Places) (c i t : ℕ) → turn_of_clip p c i ≡ Some t → Free key p
    → Free key (cancelled_at p t).0 × ((has_such (is_of_clip key) (next_reader p c i) && says_release (cancelled_at p t).1) ≡ false)
turned-free key p c i t e h = at (slice_get p.waiting t) refl where
  at : (o : Option Save) → slice_get p.waiting t ≡ o → Free key (cancelled_at p t).0
      × ((has_such (is_of_clip key) (next_reader p c i) && says_release (cancelled_at p t).1) ≡ false)
  at None n = grind (arith, common_steps)
  at (Some s) n =
      let d = any-get (bears key) p.waiting t s h.1 n in
      let gone = any-remove (bears key) p.waiting t h.1 in
      let left = left-free key (record p { waiting = remove p.waiting t }) s d (h.0, gone) in
      grind (arith, common_steps)

cancelled-free : (key : SaveKey) (p : Places) (c i : ℕ) → Free key p
    → Free key (cancelled p c i).0 × ((has_such (is_of_clip key) (next_reader p c i) && says_release (cancelled p c i).1) ≡ false)
cancelled-free key p c i h = at (place_of p c i) (turn_of_clip p c i) refl refl where
  at : (a b : Option ℕ) → place_of p c i ≡ a → turn_of_clip p c i ≡ b → Free key (cancelled p c i).0
      × ((has_such (is_of_clip key) (next_reader p c i) && says_release (cancelled p c i).1) ≡ false)
  at (Some place) b e n =
      let u = any-update (has_such (bears key)) (has_such (picks c i)) (update_held with_cancel) p.running place e
      (cancel-in key c i) h.0 in
      grind (arith, common_steps)
  at None (Some t) e n =
      let r = turned-free key p c i t n h in
      grind (arith, common_steps)
  at None None e n = grind (arith, common_steps)

stopped-free : (key : SaveKey) (p : Places) → Free key p → Free key (stopped p).0
stopped-free key p h = at (position is_some p.running) p.waiting refl refl where
  at : (a : Option ℕ) (ws : List Save) → position is_some p.running ≡ a → p.waiting ≡ ws
      → Free key (stopped p).0
  at (Some place) ws e n = let f = freed-free key p place h in grind (arith, common_steps)
  at None [] e n = grind (arith, common_steps)
  at None (s ∷ ss) e n = grind (arith, common_steps)

asked-free : (key : SaveKey) (p : Places) (new : SaveKey) (automatic : Bool) → Free key p
    → Free key (asked p new automatic).0
asked-free key p new automatic h = at (position (λ o. not (is_some o)) p.running) refl where
  at : (a : Option ℕ) → position (λ o. not (is_some o)) p.running ≡ a → Free key (asked p new automatic).0
  at (Some place) e =
      let put = any-set (has_such (bears key)) p.running place (Some (new_save new automatic)) h.0
      (grind (arith, common_steps)) in
      grind (arith, common_steps)
  at None e = grind (arith, common_steps)

one-step : (key : SaveKey) (p : Places) (s : SaveStep) → Free key p → lets key p s ≡ false
    → Free key (saves_after p s) × (clip_released_by key p s ≡ false)
one-step key p (asks new automatic) h n = (asked-free key p new automatic h, refl)
one-step key p (ends place end releases) h n =
    ended-free key (with_wish p place end releases) place (wish-free key p place end releases h n)
one-step key p (cancels c i) h n = cancelled-free key p c i h
one-step key p stops h n = (stopped-free key p h, refl)

from-free : (key : SaveKey) (p : Places) (steps : List SaveStep) → Free key p → lets_in key p steps ≡ false
    → clip_released_in key p steps ≡ false
from-free key p [] h n = refl
from-free key p (s ∷ ss) h n =
    let not_now : lets key p s ≡ false = grind (arith, common_steps) in
    let later : lets_in key (saves_after p s) ss ≡ false = grind (arith, common_steps) in
    let one = one-step key p s h not_now in
    let rest = from-free key (saves_after p s) ss one.0 later in
    grind (arith, common_steps)

none-bears : (key : SaveKey) (places : ℕ) → list_any (has_such (bears key)) (replicate places None) ≡ false
none-bears key zero = refl
none-bears key (suc n) = none-bears key n

pub releases-earned : (places : ℕ) (key : SaveKey) (steps : List SaveStep) → lets_in key (no_saves places) steps ≡ false
    → clip_released_in key (no_saves places) steps ≡ false
releases-earned places key steps n =
    from-free key (no_saves places) steps (none-bears key places, refl) n
