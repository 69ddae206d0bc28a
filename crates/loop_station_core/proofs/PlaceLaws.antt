-- No save waits while a place is free.
use Rattle.std.proofs.Common.{◌≡◌, ◌⊎◌, inl, inr, ℕ, ◌++◌, ◌==◌, Bool, true, false, not, List, [], ◌∷◌, Option, Some, None, is_some, zero, suc, length, nat_lt, slice_get, slice_set, remove, sym, ◌∙◌, ap, subst, arith, refl, if◌then◌else◌}
use Rattle.std.specs.List.{position, position_or_len}
use Rattle.std.proofs.lemmas.Grind.{common_steps}
use Rattle.loop_station_core.proofs.ReaderLaws.{passes, update-gets}
use Rattle.loop_station_core.specs.Releases.{NoneIsFree, SaveStep, asks, cancels, ends, no_saves, saves_after, saves_after_all, stops}
use Rattle.loop_station_core.specs.Saving.{Places, after_end_of, asked, begun, cancelled, cancelled_at, earns, ended_at, freed, held_at, left_to_others, new_save, place_of, place_with, stopped, turn_of_clip, turn_with, update, update_held, wanted, with_cancel, with_release, with_wish}
use Rattle.loop_station_core.specs.declared.save_end.SaveEnd.{SaveEnd}
use Rattle.loop_station_core.specs.declared.saves.Asked.{Asked}
use Rattle.loop_station_core.specs.declared.saves.Cancelled.{Cancelled}
use Rattle.loop_station_core.specs.declared.saves.Ended.{Ended}
use Rattle.loop_station_core.specs.declared.saves.Asked.TheVariants.{Begins, Waits, TooMany, Stopped}
use Rattle.loop_station_core.specs.declared.saves.Cancelled.TheVariants.{Running, Waiting, No}
use Rattle.loop_station_core.specs.declared.saves.SaveKey.{SaveKey}
use Rattle.loop_station_core.specs.declared.saves.Save.{Save}
use Rattle.loop_station_core.specs.declared.saves.StoppedSave.{StoppedSave}

abbrev free : Option Save → Bool
free o = not (is_some o)

-- no place is free, and none but one
abbrev NoFree : List (Option Save) → Type 0
NoFree os = (i : ℕ) → passes free (slice_get os i) ≡ false

abbrev But : ℕ → List (Option Save) → Type 0
But place os = (i : ℕ) → (place == i) ≡ false → passes free (slice_get os i) ≡ false

set-other : (xs : List (Option Save)) (i j : ℕ) (y : Option Save) → (i == j) ≡ false
    → slice_get (slice_set xs i y) j ≡ slice_get xs j
set-other [] i j y h = grind (arith, common_steps)
set-other (z ∷ zs) zero zero y h = grind (arith, common_steps)
set-other (z ∷ zs) zero (suc j) y h = grind (arith, common_steps)
set-other (z ∷ zs) (suc i) zero y h = grind (arith, common_steps)
set-other (z ∷ zs) (suc i) (suc j) y h =
    let apart : (i == j) ≡ false = grind (arith, common_steps) in
    let rest = set-other zs i j y apart in grind (arith, common_steps)

set-taken : (xs : List (Option Save)) (i : ℕ) (s : Save) → passes free (slice_get (slice_set xs i (Some s)) i) ≡ false
set-taken [] i s = grind (arith, common_steps)
set-taken (z ∷ zs) zero s = refl
set-taken (z ∷ zs) (suc i) s = let rest = set-taken zs i s in grind (arith, common_steps)

same : (i j : ℕ) → (i == j) ≡ true → i ≡ j
same i j h = grind (arith, common_steps)

filled : (os : List (Option Save)) (place : ℕ) (s : Save) → But place os → NoFree (slice_set os place (Some s))
filled os place s but i = at (place == i) refl
  where
    at : (b : Bool) → (place == i) ≡ b → passes free (slice_get (slice_set os place (Some s)) i) ≡ false
    at true h = subst (λ k. passes free (slice_get (slice_set os place (Some s)) k) ≡ false) (same place i h) (set-taken os place s)
    at false h = ap (passes free) (set-other os place i (Some s) h) ∙ but i h

emptied : (os : List (Option Save)) (place : ℕ) → NoFree os → But place (slice_set os place None)
emptied os place none i h = ap (passes free) (set-other os place i None h) ∙ none i

in-place-same : (f : Save → Save) (o : Option Save) → free (update_held f o) ≡ free o
in-place-same f None = refl
in-place-same f (Some s) = refl

none-closed : (f : Save → Save) (j : ℕ) (os : List (Option Save)) → NoFree os → NoFree (update (update_held f) j os)
none-closed f j os none i = update-gets free (update_held f) os j i (in-place-same f) ∙ none i

but-closed : (place : ℕ) (f : Save → Save) (j : ℕ) (os : List (Option Save)) → But place os → But place (update (update_held f) j os)
but-closed place f j os but i h = update-gets free (update_held f) os j i (in-place-same f) ∙ but i h

-- where one is free, one is found
found-free : (os : List (Option Save)) (i : ℕ) → passes free (slice_get os i) ≡ true
    → nat_lt (position_or_len free os) (length os) ≡ true
found-free [] i h = grind (arith, common_steps)
found-free (None ∷ os) i h = grind (arith, common_steps)
found-free (Some s ∷ os) zero h = absurd (cc)
found-free (Some s ∷ os) (suc i) h = let rest = found-free os i h in grind (arith, common_steps)

none-free : (os : List (Option Save)) → position free os ≡ None → NoFree os
none-free os e i = at (passes free (slice_get os i)) refl
  where
    at : (b : Bool) → passes free (slice_get os i) ≡ b → b ≡ false
    at false h = refl
    at true h = let there = found-free os i h in absurd (let no : position free os ≡ Some (position_or_len free os) = grind (arith, common_steps) in cc)

-- ---- what is kept of a property of the places

module _ (R : List (Option Save) → Type 0) (closed : (f : Save → Save) (j : ℕ) (os : List (Option Save)) → R os → R (update (update_held f) j os)) where
  abbrev Keep : Places → Type 0
  Keep p = (p.stopped ≡ true) ⊎ ((p.waiting ≡ []) ⊎ R p.running)

  still-none : (f : Save → Save) (at : ℕ) (ws : List Save) → ws ≡ [] → update f at ws ≡ []
  still-none f at ws e = subst (λ l. update f at l ≡ []) (sym e) (grind (arith, common_steps))

  running-kept : (p : Places) (f : Save → Save) (j : ℕ) → Keep p → Keep (record p { running = update (update_held f) j p.running })
  running-kept p f j (inl s) = inl s
  running-kept p f j (inr (inl w)) = inr (inl w)
  running-kept p f j (inr (inr r)) = inr (inr (closed f j p.running r))

  waiting-kept : (p : Places) (f : Save → Save) (j : ℕ) → Keep p → Keep (record p { waiting = update f j p.waiting })
  waiting-kept p f j (inl s) = inl s
  waiting-kept p f j (inr (inl w)) = inr (inl (still-none f j p.waiting w))
  waiting-kept p f j (inr (inr r)) = inr (inr r)

  wanted-kept : (p : Places) (key : SaveKey) → Keep p → Keep (wanted p key).0
  wanted-kept p key kept = at (place_with p key) (turn_with p key)
    where
      at : (a b : Option ℕ) → let r : Places × Bool = elim a [
        | Some place ↦ (record p { running = update (update_held with_release) place p.running }, true)
        | None ↦ elim b [
          | Some at ↦ (record p { waiting = update with_release at p.waiting }, true)
          | None ↦ (p, false)
        ]
      ] in Keep r.0
      at (Some place) b = running-kept p with_release place kept
      at None (Some turn) = waiting-kept p with_release turn kept
      at None None = kept

  left-kept : (p : Places) (s : Save) → Keep p → Keep (left_to_others p s).0
  left-kept p s kept = at s.release
    where
      at : (b : Bool) → let r : Places × Bool = if b then (let w = wanted p s.key in (w.0, not w.1)) else (p, false) in Keep r.0
      at true = wanted-kept p s.key kept
      at false = kept

-- what is kept
abbrev Kept : Places → Type 0
Kept p = Keep NoFree none-closed p

begun-kept : (p : Places) (place : ℕ) → Keep (But place) (but-closed place) p → Kept (begun p place).0
begun-kept p place kept = at p.stopped p.waiting refl refl kept
  where
    at : (b : Bool) (ws : List Save) → p.stopped ≡ b → p.waiting ≡ ws → Keep (But place) (but-closed place) p
        → let r : Places × Option SaveKey = if b then (p, None) else elim ws [
          | [] ↦ (p, None)
          | s ∷ ss ↦ (record p { running = slice_set p.running place (Some s); waiting = ss }, Some s.key)
        ] in Kept r.0
    at true ws e w k = inl e
    at false [] e w k = inr (inl w)
    at false (s ∷ ss) e w (inl t) = absurd (cc)
    at false (s ∷ ss) e w (inr (inl n)) = absurd (cc)
    at false (s ∷ ss) e w (inr (inr but)) = inr (inr (filled p.running place s but))

freed-kept : (p : Places) (place : ℕ) → Kept p → Keep (But place) (but-closed place) (freed p place)
freed-kept p place (inl s) = inl s
freed-kept p place (inr (inl w)) = inr (inl w)
freed-kept p place (inr (inr none)) = inr (inr (emptied p.running place none))

ended-kept : (p : Places) (place : ℕ) → Kept p → Kept (ended_at p place).0
ended-kept p place kept = at (held_at p place)
  where
    at : (o : Option Save) → let r : Places × Ended = elim o [
      | None ↦ (p, record { release = false; begun = None })
      | Some s ↦ after_end_of p place s
    ] in Kept r.0
    at None = kept
    at (Some s) = begun-kept (left_to_others (freed p place) s).0 place
        (left-kept (But place) (but-closed place) (freed p place) s (freed-kept p place kept))

wish-kept : (p : Places) (place : ℕ) (end : SaveEnd) (releases : Bool) → Kept p → Kept (with_wish p place end releases)
wish-kept p place end releases kept = at (held_at p place)
  where
    by : (s : Save) (b : Bool) → Kept (if b then (wanted p s.key).0 else p)
    by s true = wanted-kept NoFree none-closed p s.key kept
    by s false = kept

    at : (o : Option Save) → Kept (elim o [
      | None ↦ p
      | Some s ↦ if earns s end releases then (wanted p s.key).0 else p
    ])
    at None = kept
    at (Some s) = by s (earns s end releases)

asked-kept : (p : Places) (key : SaveKey) (automatic : Bool) → Kept p → Kept (asked p key automatic).0
asked-kept p key automatic kept = at p.stopped (position free p.running) automatic refl refl kept
  where
    at : (b : Bool) (f : Option ℕ) (a : Bool) → p.stopped ≡ b → position free p.running ≡ f → Kept p
        → let r : Places × Asked = if b then (p, Stopped) else elim f [
          | Some place ↦ (record p { running = slice_set p.running place (Some (new_save key automatic)) }, Begins place)
          | None ↦ if a then (record p { waiting = p.waiting ++ new_save key automatic ∷ [] }, Waits) else (p, TooMany)
        ] in Kept r.0
    at true f a e g k = inl e
    at false (Some place) a e g (inl s) = inl s
    at false (Some place) a e g (inr (inl w)) = inr (inl w)
    at false (Some place) a e g (inr (inr none)) = inr (inr (filled p.running place (new_save key automatic) (λ i h. none i)))
    at false None true e g k = inr (inr (none-free p.running g))
    at false None false e g k = k

no-longer : (p : Places) (at : ℕ) → Kept p → Kept (record p { waiting = remove p.waiting at })
no-longer p at (inl s) = inl s
no-longer p at (inr (inl w)) = inr (inl (subst (λ l. remove l at ≡ []) (sym w) (grind (arith, common_steps))))
no-longer p at (inr (inr none)) = inr (inr none)

cancelled-kept : (p : Places) (camera id : ℕ) → Kept p → Kept (cancelled p camera id).0
cancelled-kept p camera id kept = at (place_of p camera id) (turn_of_clip p camera id)
  where
    waits : (turn : ℕ) (o : Option Save) → let r : Places × Cancelled = elim o [
      | None ↦ (p, No)
      | Some s ↦ let rest = left_to_others (record p { waiting = remove p.waiting turn }) s in (rest.0, Waiting rest.1)
    ] in Kept r.0
    waits turn None = kept
    waits turn (Some s) = left-kept NoFree none-closed (record p { waiting = remove p.waiting turn }) s (no-longer p turn kept)

    at : (a b : Option ℕ) → let r : Places × Cancelled = elim a [
      | Some place ↦ (record p { running = update (update_held with_cancel) place p.running }, Running place)
      | None ↦ elim b [
        | Some turn ↦ cancelled_at p turn
        | None ↦ (p, No)
      ]
    ] in Kept r.0
    at (Some place) b = running-kept NoFree none-closed p with_cancel place kept
    at None (Some turn) = waits turn (slice_get p.waiting turn)
    at None None = kept

stopped-kept : (p : Places) → Kept (stopped p).0
stopped-kept p = at (position (λ o. is_some o) p.running) p.waiting
  where
    runs : (place : ℕ) (o : Option Save) → let r : Places × Option StoppedSave = elim o [
      | None ↦ (record p { stopped = true }, None)
      | Some s ↦ (record (freed p place) { stopped = true }, Some (record { key = s.key; place = Some place }))
    ] in Kept r.0
    runs place None = inl refl
    runs place (Some s) = inl refl

    at : (a : Option ℕ) (ws : List Save) → let r : Places × Option StoppedSave = elim a [
      | Some place ↦ elim (held_at p place) [
        | None ↦ (record p { stopped = true }, None)
        | Some s ↦ (record (freed p place) { stopped = true }, Some (record { key = s.key; place = Some place }))
      ]
      | None ↦ elim ws [
        | [] ↦ (record p { stopped = true }, None)
        | s ∷ ss ↦ (record p { waiting = ss; stopped = true }, Some (record { key = s.key; place = None }))
      ]
    ] in Kept r.0
    at (Some place) ws = runs place (held_at p place)
    at None [] = inl refl
    at None (s ∷ ss) = inl refl

step-kept : (p : Places) (s : SaveStep) → Kept p → Kept (saves_after p s)
step-kept p (asks key automatic) kept = asked-kept p key automatic kept
step-kept p (ends place end releases) kept = ended-kept (with_wish p place end releases) place (wish-kept p place end releases kept)
step-kept p (cancels camera id) kept = cancelled-kept p camera id kept
step-kept p stops kept = stopped-kept p

all-kept : (p : Places) (steps : List SaveStep) → Kept p → Kept (saves_after_all p steps)
all-kept p [] kept = kept
all-kept p (s ∷ ss) kept = all-kept (saves_after p s) ss (step-kept p s kept)

pub saves-wait : (places : ℕ) (steps : List SaveStep)
    → let p = saves_after_all (no_saves places) steps in (p.stopped ≡ true) ⊎ ((p.waiting ≡ []) ⊎ NoneIsFree p)
saves-wait places steps = at (all-kept (no_saves places) steps (inr (inl refl)))
  where
    p : Places
    p = saves_after_all (no_saves places) steps

    at : Kept p → (p.stopped ≡ true) ⊎ ((p.waiting ≡ []) ⊎ NoneIsFree p)
    at (inl s) = inl s
    at (inr (inl w)) = inr (inl w)
    at (inr (inr none)) = inr (inr (λ place e. absurd (let no = none place in
        let yes : passes free (slice_get p.running place) ≡ true = ap (passes free) e in cc)))
