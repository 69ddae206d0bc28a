-- Saves release a clip once its text is there, and no save is of it.
use Rattle.std.proofs.Common.{◌≡◌, ◌≤◌, ◌⊎◌, inl, inr, ℕ, ◌+◌, ◌&&◌, ◌||◌, Bool, true, false, not, List, [], ◌∷◌, Option, Some, None, is_some, zero, suc, length, nat_lt, slice_get, slice_set, remove, arith, refl}
use Rattle.std.specs.List.{position, position_or_len}
use Rattle.std.proofs.lemmas.Grind.{common_steps}
use Rattle.loop_station_core.proofs.ItselfLaws.{found}
use Rattle.loop_station_core.proofs.ReaderLaws.{append-counts, found-there, holds_one, left-free, remove-counts, set-counts, set-there, update-counts}
use Rattle.loop_station_core.proofs.ReleaseLaws.{bears, first-at}
use Rattle.loop_station_core.specs.Releases.{EarnedClipsAreReleased, NeverStops, SaveStep, asks, cancels, clip_released_by, clip_released_in, how_many, ends, lets, lets_in, no_saves, one_if, saves_after, saves_after_all, stops}
use Rattle.loop_station_core.specs.Saving.{Places, after_end_of, asked, begun, earns, ended_at, freed, has_such, held_at, is_of_clip, is_same, is_saving, left_to_others, new_save, place_of, place_with, turn_of_clip, turn_with, update, update_held, wanted, with_cancel, with_release, with_wish}
use Rattle.loop_station_core.specs.declared.save_end.SaveEnd.{SaveEnd}
use Rattle.loop_station_core.specs.declared.saves.SaveKey.{SaveKey}
use Rattle.loop_station_core.specs.declared.saves.Save.{Save}

module _ {X : Type 0} where
  -- what is there and passes counts
  get-counts : (f : X → Bool) (xs : List X) (i : ℕ) (x : X) → slice_get xs i ≡ Some x → f x ≡ true → 1 ≤ how_many f xs
  get-counts f [] i x e h = grind (arith, common_steps)
  get-counts f (y ∷ ys) zero x e h = grind (arith, common_steps)
  get-counts f (y ∷ ys) (suc i) x e h =
      let at : slice_get ys i ≡ Some x = grind (arith, common_steps) in
      let rest = get-counts f ys i x at h in
      grind (arith, common_steps)

  -- a change that leaves what passes so leaves as many
  update-more : (f : X → Bool) (g : X → X) (xs : List X) (i : ℕ) → ((x : X) → f x ≡ true → f (g x) ≡ true)
      → how_many f xs ≤ how_many f (update g i xs)
  update-more f g xs i k = at (slice_get xs i) refl where
    by : (x : X) (b : Bool) → slice_get xs i ≡ Some x → f x ≡ b → how_many f xs ≤ how_many f (update g i xs)
    by x true e h =
        let same : f (g x) ≡ true = k x h in
        let rest = set-counts f xs i x (g x) e in
        grind (arith, common_steps)
    by x false e h =
        let rest = set-counts f xs i x (g x) e in
        grind (arith, common_steps)

    at : (o : Option X) → slice_get xs i ≡ o → how_many f xs ≤ how_many f (update g i xs)
    at None e = grind (arith, common_steps)
    at (Some x) e = by x (f x) e refl

  -- where none is found, none counts that would be
  none-counts : (f g : X → Bool) (xs : List X) → ((x : X) → f x ≡ true → g x ≡ true)
      → nat_lt (position_or_len g xs) (length xs) ≡ false → how_many f xs ≡ 0
  none-counts f g [] k h = refl
  none-counts f g (x ∷ xs) k h = at (f x) (g x) refl refl (λ more. none-counts f g xs k more) where
    at : (a b : Bool) → f x ≡ a → g x ≡ b → (nat_lt (position_or_len g xs) (length xs) ≡ false → how_many f xs ≡ 0)
        → how_many f (x ∷ xs) ≡ 0
    at true false d e more = absurd (let is = k x d in cc)
    at a true d e more = grind (arith, common_steps)
    at false false d e more =
        let rest = more (grind (arith, common_steps)) in grind (arith, common_steps)

  not-found : (g : X → Bool) (xs : List X) → is_some (position g xs) ≡ false → nat_lt (position_or_len g xs) (length xs) ≡ false
  not-found g xs h = at (nat_lt (position_or_len g xs) (length xs)) refl where
    at : (b : Bool) → nat_lt (position_or_len g xs) (length xs) ≡ b → b ≡ false
    at false e = refl
    at true e = grind (arith, common_steps)

-- how many saves release a clip at their end
abbrev bearers : SaveKey → Places → ℕ
bearers key p = how_many (has_such (bears key)) p.running + how_many (bears key) p.waiting

-- two saves of one clip
of-one : (key k other : SaveKey) → is_same key k ≡ true → is_same k other ≡ true → is_same key other ≡ true
of-one key k other a b = grind (arith, common_steps)

release-bears : (key : SaveKey) (s : Save) → bears key s ≡ true → bears key (with_release s) ≡ true
release-bears key s h = grind (arith, common_steps)

release-held : (key : SaveKey) (o : Option Save) → has_such (bears key) o ≡ true
    → has_such (bears key) (update_held with_release o) ≡ true
release-held key None h = h
release-held key (Some s) h = release-bears key s h

-- one that is wanted to release its clip does
wanted-bears : (key : SaveKey) (p : Places) (k : SaveKey) → is_same key k ≡ true → (wanted p k).1 ≡ true
    → 1 ≤ bearers key (wanted p k).0
wanted-bears key p k same is = at (place_with p k) (turn_with p k) refl refl where
  runs : (j : ℕ) (o : Option (Option Save)) → place_with p k ≡ Some j → slice_get p.running j ≡ o
      → 1 ≤ bearers key (wanted p k).0
  runs j None e g = let there = found-there (has_such (is_of_clip k)) p.running j e in grind (arith, common_steps)
  runs j (Some None) e g = let of = first-at (has_such (is_of_clip k)) p.running j None e g in absurd (cc)
  runs j (Some (Some s)) e g =
      let of : is_same k s.key ≡ true = first-at (has_such (is_of_clip k)) p.running j (Some s) e g in
      let one = of-one key k s.key same of in
      let there = set-there p.running j (Some s) (Some (with_release s)) g in
      let bearer : has_such (bears key) (Some (with_release s)) ≡ true = grind (arith, common_steps) in
      let count = get-counts (has_such (bears key)) (slice_set p.running j (Some (with_release s))) j (Some (with_release s)) there bearer in
      grind (arith, common_steps)

  waits : (j : ℕ) (o : Option Save) → place_with p k ≡ None → turn_with p k ≡ Some j → slice_get p.waiting j ≡ o
      → 1 ≤ bearers key (wanted p k).0
  waits j None e n g = let there = found-there (is_of_clip k) p.waiting j n in grind (arith, common_steps)
  waits j (Some s) e n g =
      let of : is_same k s.key ≡ true = first-at (is_of_clip k) p.waiting j s n g in
      let one = of-one key k s.key same of in
      let there = set-there p.waiting j s (with_release s) g in
      let bearer : bears key (with_release s) ≡ true = grind (arith, common_steps) in
      let count = get-counts (bears key) (slice_set p.waiting j (with_release s)) j (with_release s) there bearer in
      grind (arith, common_steps)

  at : (a b : Option ℕ) → place_with p k ≡ a → turn_with p k ≡ b → 1 ≤ bearers key (wanted p k).0
  at (Some j) b e n = runs j (slice_get p.running j) e refl
  at None (Some t) e n = waits t (slice_get p.waiting t) e n refl
  at None None e n = grind (arith, common_steps)

wanted-keeps : (key : SaveKey) (p : Places) (k : SaveKey) → bearers key p ≤ bearers key (wanted p k).0
wanted-keeps key p k = at (place_with p k) (turn_with p k) refl refl where
  at : (a b : Option ℕ) → place_with p k ≡ a → turn_with p k ≡ b → bearers key p ≤ bearers key (wanted p k).0
  at (Some j) b e n =
      let u = update-more (has_such (bears key)) (update_held with_release) p.running j (release-held key) in
      grind (arith, common_steps)
  at None (Some t) e n =
      let u = update-more (bears key) with_release p.waiting t (release-bears key) in
      grind (arith, common_steps)
  at None None e n = grind (arith, common_steps)

-- a save that is gone leaves its wish to another one, or its clip is released
abbrev GivesOn : SaveKey → Save → Places → Bool → Type 0
GivesOn key s p release = (1 ≤ bearers key p) ⊎ ((is_of_clip key s ≡ true) × (release ≡ true))

left-gives : (key : SaveKey) (p : Places) (s : Save) → 1 ≤ bearers key p + one_if (bears key s)
    → GivesOn key s (left_to_others p s).0 (left_to_others p s).1
left-gives key p s h = at s.release (bears key s) (wanted p s.key).1 refl refl refl where
  at : (r b w : Bool) → s.release ≡ r → bears key s ≡ b → (wanted p s.key).1 ≡ w
      → GivesOn key s (left_to_others p s).0 (left_to_others p s).1
  at false true w e f g = absurd (grind (arith, common_steps))
  at false false w e f g = inl (grind (arith, common_steps))
  at true false w e f g = let k = wanted-keeps key p s.key in inl (grind (arith, common_steps))
  at true true true e f g =
      let same : is_same key s.key ≡ true = grind (arith, common_steps) in
      let k = wanted-bears key p s.key same g in inl (grind (arith, common_steps))
  at true true false e f g = inr (grind (arith, common_steps), grind (arith, common_steps))

begun-bears : (key : SaveKey) (p : Places) (place : ℕ) → holds_one p place ≡ true
    → bearers key (begun p place).0 ≡ bearers key p
begun-bears key p place h = at p.stopped p.waiting (slice_get p.running place) refl refl refl where
  at : (b : Bool) (ws : List Save) (o : Option (Option Save)) → p.stopped ≡ b → p.waiting ≡ ws
      → slice_get p.running place ≡ o → bearers key (begun p place).0 ≡ bearers key p
  at true ws o e n g = grind (arith, common_steps)
  at false [] o e n g = grind (arith, common_steps)
  at false (s ∷ ss) None e n g = grind (arith, common_steps)
  at false (s ∷ ss) (Some (Some t)) e n g = grind (arith, common_steps)
  at false (s ∷ ss) (Some None) e n g =
      let put = set-counts (has_such (bears key)) p.running place None (Some s) g in
      grind (arith, common_steps)

after-gives : (key : SaveKey) (p : Places) (place : ℕ) (s : Save) → slice_get p.running place ≡ Some (Some s)
    → 1 ≤ bearers key p → GivesOn key s (after_end_of p place s).0 (after_end_of p place s).1.release
after-gives key p place s g some =
    let gone = set-counts (has_such (bears key)) p.running place (Some s) None g in
    let there = set-there p.running place (Some s) None g in
    let free : holds_one (freed p place) place ≡ true = grind (arith, common_steps) in
    let still : holds_one (left_to_others (freed p place) s).0 place ≡ true = rw (left-free (freed p place) s place) free in
    let next = begun-bears key (left_to_others (freed p place) s).0 place still in
    let enough : 1 ≤ bearers key (freed p place) + one_if (bears key s) = grind (arith, common_steps) in
    at next (left-gives key (freed p place) s enough)
  where
    at : bearers key (begun (left_to_others (freed p place) s).0 place).0 ≡ bearers key (left_to_others (freed p place) s).0
        → GivesOn key s (left_to_others (freed p place) s).0 (left_to_others (freed p place) s).1
        → GivesOn key s (after_end_of p place s).0 (after_end_of p place s).1.release
    at next (inl more) = inl (grind (arith, common_steps))
    at next (inr is) = inr is

-- where one is earned, or was before, one still bears it, or the clip is released
abbrev Goes : SaveKey → Places → SaveStep → Type 0
Goes key p s = (1 ≤ bearers key (saves_after p s)) ⊎ (clip_released_by key p s ≡ true)

ended-goes : (key : SaveKey) (p : Places) (place : ℕ) → 1 ≤ bearers key p
    → (1 ≤ bearers key (ended_at p place).0)
    ⊎ ((has_such (is_of_clip key) (held_at p place) && (ended_at p place).1.release) ≡ true)
ended-goes key p place some = at (slice_get p.running place) refl where
  given : (s : Save) → slice_get p.running place ≡ Some (Some s)
      → GivesOn key s (after_end_of p place s).0 (after_end_of p place s).1.release
      → (1 ≤ bearers key (ended_at p place).0)
      ⊎ ((has_such (is_of_clip key) (held_at p place) && (ended_at p place).1.release) ≡ true)
  given s g (inl more) = inl (grind (arith, common_steps))
  given s g (inr is) = let of = is.0 in let released = is.1 in inr (grind (arith, common_steps))

  at : (o : Option (Option Save)) → slice_get p.running place ≡ o
      → (1 ≤ bearers key (ended_at p place).0)
      ⊎ ((has_such (is_of_clip key) (held_at p place) && (ended_at p place).1.release) ≡ true)
  at None g = inl (grind (arith, common_steps))
  at (Some None) g = inl (grind (arith, common_steps))
  at (Some (Some s)) g = given s g (after-gives key p place s g some)

-- its own clip
same-self : (key : SaveKey) → is_same key key ≡ true
same-self key = grind (arith, common_steps)

-- a clip of which a save runs is wanted by one
wanted-one : (p : Places) (place : ℕ) (s : Save) → slice_get p.running place ≡ Some (Some s) → (wanted p s.key).1 ≡ true
wanted-one p place s g =
    let self : has_such (is_of_clip s.key) (Some s) ≡ true = same-self s.key in
    let there = found (has_such (is_of_clip s.key)) p.running place (Some s) g self in
    grind (arith, common_steps)

wish-bears : (key : SaveKey) (p : Places) (place : ℕ) (end : SaveEnd) (releases : Bool)
    → (1 ≤ bearers key p) ⊎ (lets key p (ends place end releases) ≡ true)
    → 1 ≤ bearers key (with_wish p place end releases)
wish-bears key p place end releases either = at (slice_get p.running place) refl either where
  by : (s : Save) (b : Bool) → slice_get p.running place ≡ Some (Some s) → earns s end releases ≡ b
      → (1 ≤ bearers key p) ⊎ (lets key p (ends place end releases) ≡ true)
      → 1 ≤ bearers key (with_wish p place end releases)
  by s false g e (inl some) = grind (arith, common_steps)
  by s false g e (inr now) = grind (arith, common_steps)
  by s true g e (inl some) = let k = wanted-keeps key p s.key in grind (arith, common_steps)
  by s true g e (inr now) =
      let same : is_same key s.key ≡ true = grind (arith, common_steps) in
      let k = wanted-bears key p s.key same (wanted-one p place s g) in grind (arith, common_steps)

  at : (o : Option (Option Save)) → slice_get p.running place ≡ o
      → (1 ≤ bearers key p) ⊎ (lets key p (ends place end releases) ≡ true)
      → 1 ≤ bearers key (with_wish p place end releases)
  at None g (inl some) = grind (arith, common_steps)
  at None g (inr now) = grind (arith, common_steps)
  at (Some None) g (inl some) = grind (arith, common_steps)
  at (Some None) g (inr now) = grind (arith, common_steps)
  at (Some (Some s)) g either = by s (earns s end releases) g refl either

cancel-bears : (key : SaveKey) (o : Option Save) → has_such (bears key) (update_held with_cancel o) ≡ has_such (bears key) o
cancel-bears key None = refl
cancel-bears key (Some s) = refl

cancel-goes : (key : SaveKey) (p : Places) (c i : ℕ) → 1 ≤ bearers key p → Goes key p (cancels c i)
cancel-goes key p c i some = at (place_of p c i) (turn_of_clip p c i) refl refl where
  given : (t : ℕ) (s : Save) → place_of p c i ≡ None → turn_of_clip p c i ≡ Some t → slice_get p.waiting t ≡ Some s
      → (let rest = left_to_others (record p { waiting = remove p.waiting t }) s in GivesOn key s rest.0 rest.1)
      → Goes key p (cancels c i)
  given t s e n g (inl more) = inl (grind (arith, common_steps))
  given t s e n g (inr is) = let of = is.0 in let released = is.1 in inr (grind (arith, common_steps))

  turned : (t : ℕ) (o : Option Save) → place_of p c i ≡ None → turn_of_clip p c i ≡ Some t → slice_get p.waiting t ≡ o
      → Goes key p (cancels c i)
  turned t None e n g = inl (grind (arith, common_steps))
  turned t (Some s) e n g =
      let gone = remove-counts (bears key) p.waiting t s g in
      given t s e n g (left-gives key (record p { waiting = remove p.waiting t }) s (grind (arith, common_steps)))

  at : (a b : Option ℕ) → place_of p c i ≡ a → turn_of_clip p c i ≡ b → Goes key p (cancels c i)
  at (Some j) b e n =
      let u = update-counts (has_such (bears key)) (update_held with_cancel) p.running j (cancel-bears key) in
      inl (grind (arith, common_steps))
  at None (Some t) e n = turned t (slice_get p.waiting t) e n refl
  at None None e n = inl (grind (arith, common_steps))

ask-keeps : (key : SaveKey) (p : Places) (new : SaveKey) (automatic : Bool) → 1 ≤ bearers key p
    → 1 ≤ bearers key (asked p new automatic).0
ask-keeps key p new automatic some =
    at p.stopped (position (λ o. not (is_some o)) p.running) automatic refl refl refl where
      put : (place : ℕ) (o : Option (Option Save)) → p.stopped ≡ false
          → position (λ o. not (is_some o)) p.running ≡ Some place → slice_get p.running place ≡ o
          → 1 ≤ bearers key (asked p new automatic).0
      put place None s e g =
          let there = found-there (λ o. not (is_some o)) p.running place e in
          grind (arith, common_steps)
      put place (Some (Some t)) s e g =
          let free = first-at (λ o. not (is_some o)) p.running place (Some t) e g in
          grind (arith, common_steps)
      put place (Some None) s e g =
          let more = set-counts (has_such (bears key)) p.running place None (Some (new_save new automatic)) g in
          grind (arith, common_steps)

      at : (stopped : Bool) (free : Option ℕ) (own : Bool) → p.stopped ≡ stopped
          → position (λ o. not (is_some o)) p.running ≡ free → automatic ≡ own → 1 ≤ bearers key (asked p new automatic).0
      at true free own s e a = grind (arith, common_steps)
      at false (Some place) own s e a = put place (slice_get p.running place) s e refl
      at false None false s e a = grind (arith, common_steps)
      at false None true s e a =
          let more = append-counts (bears key) p.waiting (new_save new automatic) in
          grind (arith, common_steps)

or-later : (a : Bool) {b : Bool} → b ≡ true → a || b ≡ true
or-later true e = refl
or-later false e = e

-- what holds of a clip that is earned now, or in what happens
abbrev Earned : SaveKey → Places → List SaveStep → Type 0
Earned key p ss = (1 ≤ bearers key p) ⊎ (lets_in key p ss ≡ true)

-- and then
abbrev Settled : SaveKey → Places → List SaveStep → Type 0
Settled key p ss = (1 ≤ bearers key (saves_after_all p ss)) ⊎ (clip_released_in key p ss ≡ true)

lifted : (key : SaveKey) (p : Places) (s : SaveStep) (ss : List SaveStep) → Settled key (saves_after p s) ss
    → Settled key p (s ∷ ss)
lifted key p s ss (inl more) = inl more
lifted key p s ss (inr is) = inr (or-later (clip_released_by key p s) is)

then : (key : SaveKey) (p : Places) (s : SaveStep) (ss : List SaveStep)
    → (Earned key (saves_after p s) ss → Settled key (saves_after p s) ss) → Goes key p s → Settled key p (s ∷ ss)
then key p s ss rest (inl more) = lifted key p s ss (rest (inl more))
then key p s ss rest (inr is) = inr (grind (arith, common_steps))

end-then : (key : SaveKey) (p : Places) (place : ℕ) (end : SaveEnd) (releases : Bool) (ss : List SaveStep)
    → (Earned key (saves_after p (ends place end releases)) ss → Settled key (saves_after p (ends place end releases)) ss)
    → Earned key p (ends place end releases ∷ ss) → Settled key p (ends place end releases ∷ ss)
end-then key p place end releases ss rest either = by (lets key p (ends place end releases)) refl either where
  goes : (1 ≤ bearers key p) ⊎ (lets key p (ends place end releases) ≡ true) → Settled key p (ends place end releases ∷ ss)
  goes now = then key p (ends place end releases) ss rest
      (ended-goes key (with_wish p place end releases) place (wish-bears key p place end releases now))

  by : (b : Bool) → lets key p (ends place end releases) ≡ b → Earned key p (ends place end releases ∷ ss)
      → Settled key p (ends place end releases ∷ ss)
  by b e (inl some) = goes (inl some)
  by true e (inr now) = goes (inr e)
  by false e (inr now) = lifted key p (ends place end releases) ss (rest (inr (grind (arith, common_steps))))

-- what happens, as long as the program goes on
all-go : (key : SaveKey) (p : Places) (steps : List SaveStep) → NeverStops steps → Earned key p steps → Settled key p steps
all-go key p [] n (inl some) = inl some
all-go key p [] n (inr now) = absurd (cc)
all-go key p (asks new automatic ∷ ss) n (inl some) =
    all-go key (saves_after p (asks new automatic)) ss n (inl (ask-keeps key p new automatic some))
all-go key p (asks new automatic ∷ ss) n (inr later) = all-go key (saves_after p (asks new automatic)) ss n (inr later)
all-go key p (ends place end releases ∷ ss) n either =
    end-then key p place end releases ss (all-go key (saves_after p (ends place end releases)) ss n) either
all-go key p (cancels c i ∷ ss) n (inl some) =
    then key p (cancels c i) ss (all-go key (saves_after p (cancels c i)) ss n) (cancel-goes key p c i some)
all-go key p (cancels c i ∷ ss) n (inr later) =
    lifted key p (cancels c i) ss (all-go key (saves_after p (cancels c i)) ss n (inr later))
all-go key p (stops ∷ ss) n either = elim n [ ]

bearer-of : (key : SaveKey) (s : Save) → bears key s ≡ true → is_of_clip key s ≡ true
bearer-of key s h = grind (arith, common_steps)

held-of : (key : SaveKey) (o : Option Save) → has_such (bears key) o ≡ true → has_such (is_of_clip key) o ≡ true
held-of key None h = h
held-of key (Some s) h = bearer-of key s h

-- where no save is of a clip, none bears it
none-bears : (key : SaveKey) (p : Places) → is_saving p key ≡ false → bearers key p ≡ 0
none-bears key p h =
    let a : is_some (place_with p key) ≡ false = grind (arith, common_steps) in
    let b : is_some (turn_with p key) ≡ false = grind (arith, common_steps) in
    let running = none-counts (has_such (bears key)) (has_such (is_of_clip key)) p.running (held-of key) (not-found (has_such (is_of_clip key)) p.running a) in
    let waiting = none-counts (bears key) (is_of_clip key) p.waiting (bearer-of key) (not-found (is_of_clip key) p.waiting b) in
    omega (arith, running, waiting)

pub earned-released : EarnedClipsAreReleased
earned-released places key steps n earned done =
    at (all-go key (no_saves places) steps n (inr earned)) where
      at : (1 ≤ bearers key (saves_after_all (no_saves places) steps)) ⊎ (clip_released_in key (no_saves places) steps ≡ true)
          → clip_released_in key (no_saves places) steps ≡ true
      at (inl some) = absurd (let none = none-bears key (saves_after_all (no_saves places) steps) done in omega (arith, some, none))
      at (inr is) = is
