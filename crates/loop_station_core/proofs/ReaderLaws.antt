-- A clip is read by as many saves as were taken in and haven't ended.
use Rattle.std.proofs.Common.{◌≡◌, ◌⊎◌, inl, inr, ℕ, ◌+◌, ◌++◌, ◌==◌, Bool, true, false, not, List, [], ◌∷◌, Option, Some, None, is_some, option_map, zero, suc, length, nat_lt, slice_get, slice_set, remove, replicate, ap, arith, refl, sym, ◌∙◌, ◌≢◌}
use Rattle.std.specs.List.{list_any, position, position_or_len}
use Rattle.std.proofs.lemmas.Grind.{common_steps}
use Rattle.loop_station_core.proofs.ReleaseLaws.{first-at}
use Rattle.loop_station_core.specs.Clips.{RefusedReleasesAreSo, by_first, by_none, leave_for_part, may_release, may_release_saved}
use Rattle.loop_station_core.specs.Gaps.{lies_within}
use Rattle.loop_station_core.proofs.FullLaws.{allowed-clips-go, allowed-unread}
use Rattle.loop_station_core.specs.Laws.{Asks, LeavesAreForUnreadClips, leave_in, of_full, of_order, of_part, of_saved, OrdersSpareReadClips, SavedClipsAreReleased, clip_key, OrdersReleaseUnreadClips, UnreadSavedClipsAreReleased}
use Rattle.loop_station_core.specs.Releases.{SaveStep, asks, cancels, ends, no_saves, one_if, saves_after, saves_after_all, saves_ended_by, saves_ended_in, saves_taken_by, saves_taken_in, stops, SavesAddUp, how_many, readers}
use Rattle.loop_station_core.specs.Saving.{Places, after_end_of, begun, covers, earns, ended_at, freed, has_key, has_such, held_at, is_read, is_same, key_clip, left_to_others, new_save, place_of, place_with, turn_of_clip, turn_with, update, update_held, wanted, with_cancel, with_release, with_wish}
use Rattle.loop_station_core.specs.declared.clips.MayRelease.TheVariants.{NoClip, Now, Saving, Other}
use Rattle.loop_station_core.specs.declared.clips.MayRelease.{MayRelease}
use Rattle.loop_station_core.specs.declared.leave.ShownClip.{ShownClip}
use Rattle.loop_station_core.specs.declared.save_end.SaveEnd.{SaveEnd}
use Rattle.loop_station_core.specs.declared.saves.SaveKey.{SaveKey}
use Rattle.loop_station_core.specs.declared.saves.Save.{Save}

-- what there is passes
abbrev pub passes : {X : Type 0} → (X → Bool) → Option X → Bool
passes f None = false
passes f (Some x) = f x

module _ {X : Type 0} where
  pub set-counts : (f : X → Bool) (xs : List X) (i : ℕ) (x y : X) → slice_get xs i ≡ Some x
      → how_many f (slice_set xs i y) + one_if (f x) ≡ how_many f xs + one_if (f y)
  set-counts f [] i x y e = grind (arith, common_steps)
  set-counts f (z ∷ zs) zero x y e = grind (arith, common_steps)
  set-counts f (z ∷ zs) (suc i) x y e =
      let at : slice_get zs i ≡ Some x = grind (arith, common_steps) in
      let rest = set-counts f zs i x y at in
      grind (arith, common_steps)

  pub update-counts : (f : X → Bool) (g : X → X) (xs : List X) (i : ℕ) → ((x : X) → f (g x) ≡ f x)
      → how_many f (update g i xs) ≡ how_many f xs
  update-counts f g xs i k = at (slice_get xs i) refl where
    at : (o : Option X) → slice_get xs i ≡ o → how_many f (update g i xs) ≡ how_many f xs
    at None e = grind (arith, common_steps)
    at (Some x) e =
        let same : f (g x) ≡ f x = k x in
        let rest = set-counts f xs i x (g x) e in
        grind (arith, common_steps)

  set-gets : (f : X → Bool) (xs : List X) (j i : ℕ) (x y : X) → slice_get xs j ≡ Some x → f y ≡ f x
      → passes f (slice_get (slice_set xs j y) i) ≡ passes f (slice_get xs i)
  set-gets f [] j i x y e s = grind (arith, common_steps)
  set-gets f (z ∷ zs) zero zero x y e s = grind (arith, common_steps)
  set-gets f (z ∷ zs) zero (suc i) x y e s = grind (arith, common_steps)
  set-gets f (z ∷ zs) (suc j) zero x y e s = grind (arith, common_steps)
  set-gets f (z ∷ zs) (suc j) (suc i) x y e s =
      let at : slice_get zs j ≡ Some x = grind (arith, common_steps) in
      let rest = set-gets f zs j i x y at s in
      grind (arith, common_steps)

  pub update-gets : (f : X → Bool) (g : X → X) (xs : List X) (j i : ℕ) → ((x : X) → f (g x) ≡ f x)
      → passes f (slice_get (update g j xs) i) ≡ passes f (slice_get xs i)
  update-gets f g xs j i k = at (slice_get xs j) refl where
    at : (o : Option X) → slice_get xs j ≡ o → passes f (slice_get (update g j xs) i) ≡ passes f (slice_get xs i)
    at None e = grind (arith, common_steps)
    at (Some x) e =
        let rest = set-gets f xs j i x (g x) e (k x) in
        grind (arith, common_steps)

  -- what was put in a place is there
  pub set-there : (xs : List X) (i : ℕ) (x y : X) → slice_get xs i ≡ Some x → slice_get (slice_set xs i y) i ≡ Some y
  set-there [] i x y e = grind (arith, common_steps)
  set-there (z ∷ zs) zero x y e = grind (arith, common_steps)
  set-there (z ∷ zs) (suc i) x y e =
      let at : slice_get zs i ≡ Some x = grind (arith, common_steps) in
      let rest = set-there zs i x y at in
      grind (arith, common_steps)

  pub append-counts : (f : X → Bool) (xs : List X) (y : X) → how_many f (xs ++ y ∷ []) ≡ how_many f xs + one_if (f y)
  append-counts f [] y = grind (arith, common_steps)
  append-counts f (x ∷ xs) y = let rest = append-counts f xs y in grind (arith, common_steps)

  pub remove-counts : (f : X → Bool) (xs : List X) (i : ℕ) (x : X) → slice_get xs i ≡ Some x
      → how_many f (remove xs i) + one_if (f x) ≡ how_many f xs
  remove-counts f [] i x e = grind (arith, common_steps)
  remove-counts f (z ∷ zs) zero x e = grind (arith, common_steps)
  remove-counts f (z ∷ zs) (suc i) x e =
      let at : slice_get zs i ≡ Some x = grind (arith, common_steps) in
      let rest = remove-counts f zs i x at in
      grind (arith, common_steps)

  -- where none passes, none counts
  none-any : (f : X → Bool) (xs : List X) → list_any f xs ≡ false → how_many f xs ≡ 0
  none-any f [] h = refl
  none-any f (x ∷ xs) h =
      let here : f x ≡ false = grind (arith, common_steps) in
      let more : list_any f xs ≡ false = grind (arith, common_steps) in
      let rest = none-any f xs more in
      grind (arith, common_steps)

  -- where none counts, none passes
  any-none : (f : X → Bool) (xs : List X) → how_many f xs ≡ 0 → list_any f xs ≡ false
  any-none f [] h = refl
  any-none f (x ∷ xs) h = at (f x) refl (λ e. any-none f xs e) where
    at : (b : Bool) → f x ≡ b → (how_many f xs ≡ 0 → list_any f xs ≡ false) → list_any f (x ∷ xs) ≡ false
    at true e more = grind (arith, common_steps)
    at false e more = let rest = more (grind (arith, common_steps)) in grind (arith, common_steps)

  -- where one is found, it is there
  found-passes : (f : X → Bool) (xs : List X) → nat_lt (position_or_len f xs) (length xs) ≡ true
      → is_some (slice_get xs (position_or_len f xs)) ≡ true
  found-passes f [] h = grind (arith, common_steps)
  found-passes f (x ∷ xs) h = at (f x) refl (λ more. found-passes f xs more) where
    at : (b : Bool) → f x ≡ b
        → (nat_lt (position_or_len f xs) (length xs) ≡ true → is_some (slice_get xs (position_or_len f xs)) ≡ true)
        → is_some (slice_get (x ∷ xs) (position_or_len f (x ∷ xs))) ≡ true
    at true e rest = grind (arith, common_steps)
    at false e rest =
        let more : nat_lt (position_or_len f xs) (length xs) ≡ true = grind (arith, common_steps) in
        let there = rest more in
        grind (arith, common_steps)

  pub found-there : (f : X → Bool) (xs : List X) (i : ℕ) → position f xs ≡ Some i → is_some (slice_get xs i) ≡ true
  found-there f xs i e =
      let within : nat_lt (position_or_len f xs) (length xs) ≡ true = grind (arith, common_steps) in
      let same : position_or_len f xs ≡ i = grind (arith, common_steps) in
      let there = found-passes f xs within in
      grind (arith, common_steps)

release-reads : (f : SaveKey → Bool) (o : Option Save)
    → has_such (has_key f) (update_held with_release o) ≡ has_such (has_key f) o
release-reads f None = refl
release-reads f (Some s) = refl

cancel-reads : (f : SaveKey → Bool) (o : Option Save)
    → has_such (has_key f) (update_held with_cancel o) ≡ has_such (has_key f) o
cancel-reads f None = refl
cancel-reads f (Some s) = refl

wanted-counts : (f : SaveKey → Bool) (p : Places) (k : SaveKey) → readers f (wanted p k).0 ≡ readers f p
wanted-counts f p k = at (place_with p k) (turn_with p k) refl refl where
  at : (a b : Option ℕ) → place_with p k ≡ a → turn_with p k ≡ b
      → readers f (wanted p k).0 ≡ readers f p
  at (Some place) b e n =
      let u = update-counts (has_such (has_key f)) (update_held with_release) p.running place (release-reads f) in
      grind (arith, common_steps)
  at None (Some t) e n =
      let u = update-counts (has_key f) with_release p.waiting t (λ s. refl) in
      grind (arith, common_steps)
  at None None e n = grind (arith, common_steps)

-- whether what a place holds does
abbrev read_at : (SaveKey → Bool) → Places → ℕ → Bool
read_at f p place = passes (has_such (has_key f)) (slice_get p.running place)

held-read : (f : SaveKey → Bool) (p : Places) (place : ℕ) → has_such (has_key f) (held_at p place) ≡ read_at f p place
held-read f p place = at (slice_get p.running place) refl where
  at : (o : Option (Option Save)) → slice_get p.running place ≡ o
      → has_such (has_key f) (held_at p place) ≡ read_at f p place
  at None e = grind (arith, common_steps)
  at (Some o) e = grind (arith, common_steps)

wanted-held : (f : SaveKey → Bool) (p : Places) (k : SaveKey) (place : ℕ)
    → read_at f (wanted p k).0 place ≡ read_at f p place
wanted-held f p k place = at (place_with p k) (turn_with p k) refl refl where
  at : (a b : Option ℕ) → place_with p k ≡ a → turn_with p k ≡ b
      → read_at f (wanted p k).0 place ≡ read_at f p place
  at (Some j) b e n =
      let u = update-gets (has_such (has_key f)) (update_held with_release) p.running j place (release-reads f) in
      grind (arith, common_steps)
  at None (Some t) e n = grind (arith, common_steps)
  at None None e n = grind (arith, common_steps)

-- a place that is free stays so
release-stays : (o : Option Save) → is_some (update_held with_release o) ≡ is_some o
release-stays None = refl
release-stays (Some s) = refl

abbrev pub holds_one : Places → ℕ → Bool
holds_one p place = passes (λ (o : Option Save). not (is_some o)) (slice_get p.running place)

wanted-free : (p : Places) (k : SaveKey) (place : ℕ) → holds_one (wanted p k).0 place ≡ holds_one p place
wanted-free p k place = at (place_with p k) (turn_with p k) refl refl where
  kept : (o : Option Save) → not (is_some (update_held with_release o)) ≡ not (is_some o)
  kept None = refl
  kept (Some s) = refl

  at : (a b : Option ℕ) → place_with p k ≡ a → turn_with p k ≡ b
      → holds_one (wanted p k).0 place ≡ holds_one p place
  at (Some j) b e n =
      let u = update-gets (λ (o : Option Save). not (is_some o)) (update_held with_release) p.running j place kept in
      grind (arith, common_steps)
  at None (Some t) e n = grind (arith, common_steps)
  at None None e n = grind (arith, common_steps)

left-counts : (f : SaveKey → Bool) (p : Places) (s : Save) → readers f (left_to_others p s).0 ≡ readers f p
left-counts f p s = at s.release refl where
  at : (b : Bool) → s.release ≡ b → readers f (left_to_others p s).0 ≡ readers f p
  at true e = let w = wanted-counts f p s.key in grind (arith, common_steps)
  at false e = grind (arith, common_steps)

pub left-free : (p : Places) (s : Save) (place : ℕ) → holds_one (left_to_others p s).0 place ≡ holds_one p place
left-free p s place = at s.release refl where
  at : (b : Bool) → s.release ≡ b → holds_one (left_to_others p s).0 place ≡ holds_one p place
  at true e = let w = wanted-free p s.key place in grind (arith, common_steps)
  at false e = grind (arith, common_steps)

begun-counts : (f : SaveKey → Bool) (p : Places) (place : ℕ) → holds_one p place ≡ true
    → readers f (begun p place).0 ≡ readers f p
begun-counts f p place h = at p.stopped p.waiting (slice_get p.running place) refl refl refl where
  at : (b : Bool) (ws : List Save) (o : Option (Option Save)) → p.stopped ≡ b → p.waiting ≡ ws
      → slice_get p.running place ≡ o → readers f (begun p place).0 ≡ readers f p
  at true ws o e n g = grind (arith, common_steps)
  at false [] o e n g = grind (arith, common_steps)
  at false (s ∷ ss) None e n g = grind (arith, common_steps)
  at false (s ∷ ss) (Some (Some t)) e n g = grind (arith, common_steps)
  at false (s ∷ ss) (Some None) e n g =
      let put = set-counts (has_such (has_key f)) p.running place None (Some s) g in
      grind (arith, common_steps)

after-counts : (f : SaveKey → Bool) (p : Places) (place : ℕ) (s : Save) → slice_get p.running place ≡ Some (Some s)
    → readers f (after_end_of p place s).0 + one_if (has_key f s) ≡ readers f p
after-counts f p place s g =
    let gone = set-counts (has_such (has_key f)) p.running place (Some s) None g in
    let there = set-there p.running place (Some s) None g in
    let free : holds_one (freed p place) place ≡ true = grind (arith, common_steps) in
    let still : holds_one (left_to_others (freed p place) s).0 place ≡ true = rw (left-free (freed p place) s place) free in
    let left = left-counts f (freed p place) s in
    let next = begun-counts f (left_to_others (freed p place) s).0 place still in
    grind (arith, common_steps)

ended-counts : (f : SaveKey → Bool) (p : Places) (place : ℕ)
    → readers f (ended_at p place).0 + one_if (read_at f p place) ≡ readers f p
ended-counts f p place = at (slice_get p.running place) refl where
  at : (o : Option (Option Save)) → slice_get p.running place ≡ o
      → readers f (ended_at p place).0 + one_if (read_at f p place) ≡ readers f p
  at None g = grind (arith, common_steps)
  at (Some None) g = grind (arith, common_steps)
  at (Some (Some s)) g = let a = after-counts f p place s g in grind (arith, common_steps)

wish-counts : (f : SaveKey → Bool) (p : Places) (place : ℕ) (end : SaveEnd) (releases : Bool)
    → (readers f (with_wish p place end releases) ≡ readers f p)
    × (read_at f (with_wish p place end releases) place ≡ read_at f p place)
wish-counts f p place end releases = at (held_at p place) refl where
  by-earning : (s : Save) (b : Bool) → held_at p place ≡ Some s → earns s end releases ≡ b
      → (readers f (with_wish p place end releases) ≡ readers f p)
      × (read_at f (with_wish p place end releases) place ≡ read_at f p place)
  by-earning s false e m = grind (arith, common_steps)
  by-earning s true e m =
      let w = wanted-counts f p s.key in
      let h = wanted-held f p s.key place in
      grind (arith, common_steps)

  at : (o : Option Save) → held_at p place ≡ o
      → (readers f (with_wish p place end releases) ≡ readers f p)
      × (read_at f (with_wish p place end releases) place ≡ read_at f p place)
  at None e = grind (arith, common_steps)
  at (Some s) e = by-earning s (earns s end releases) e refl

-- what happens takes a save in, or ends one, or leaves as many
abbrev Adds : (SaveKey → Bool) → Places → SaveStep → Type 0
Adds f p s = readers f (saves_after p s) + saves_ended_by f p s ≡ readers f p + saves_taken_by f p s

end-adds : (f : SaveKey → Bool) (p : Places) (place : ℕ) (end : SaveEnd) (releases : Bool)
    → Adds f p (ends place end releases)
end-adds f p place end releases =
    let wish = wish-counts f p place end releases in
    let gone = ended-counts f (with_wish p place end releases) place in
    let held = held-read f p place in
    let all : readers f (saves_after p (ends place end releases)) + one_if (read_at f p place)
    ≡ readers f p = grind (arith, common_steps) in
    grind (arith, common_steps)

ask-adds : (f : SaveKey → Bool) (p : Places) (key : SaveKey) (automatic : Bool) → Adds f p (asks key automatic)
ask-adds f p key automatic =
    at p.stopped (position (λ o. not (is_some o)) p.running) automatic refl refl refl where
      put : (place : ℕ) (o : Option (Option Save)) → p.stopped ≡ false
          → position (λ o. not (is_some o)) p.running ≡ Some place → slice_get p.running place ≡ o
          → Adds f p (asks key automatic)
      put place None s e g =
          let there = found-there (λ o. not (is_some o)) p.running place e in
          grind (arith, common_steps)
      put place (Some (Some t)) s e g =
          let free = first-at (λ o. not (is_some o)) p.running place (Some t) e g in
          grind (arith, common_steps)
      put place (Some None) s e g =
          let new = set-counts (has_such (has_key f)) p.running place None (Some (new_save key automatic)) g in
          grind (arith, common_steps)

      at : (stopped : Bool) (free : Option ℕ) (own : Bool) → p.stopped ≡ stopped
          → position (λ o. not (is_some o)) p.running ≡ free → automatic ≡ own → Adds f p (asks key automatic)
      at true free own s e a = grind (arith, common_steps)
      at false (Some place) own s e a = put place (slice_get p.running place) s e refl
      at false None false s e a = grind (arith, common_steps)
      at false None true s e a =
          let new = append-counts (has_key f) p.waiting (new_save key automatic) in
          grind (arith, common_steps)

cancel-adds : (f : SaveKey → Bool) (p : Places) (c i : ℕ) → Adds f p (cancels c i)
cancel-adds f p c i = at (place_of p c i) (turn_of_clip p c i) refl refl where
  turned : (t : ℕ) (o : Option Save) → place_of p c i ≡ None → turn_of_clip p c i ≡ Some t → slice_get p.waiting t ≡ o
      → Adds f p (cancels c i)
  turned t None e n g = grind (arith, common_steps)
  turned t (Some s) e n g =
      let gone = remove-counts (has_key f) p.waiting t s g in
      let left = left-counts f (record p { waiting = remove p.waiting t }) s in
      grind (arith, common_steps)

  at : (a b : Option ℕ) → place_of p c i ≡ a → turn_of_clip p c i ≡ b → Adds f p (cancels c i)
  at (Some place) b e n =
      let u = update-counts (has_such (has_key f)) (update_held with_cancel) p.running place (cancel-reads f) in
      grind (arith, common_steps)
  at None (Some t) e n = turned t (slice_get p.waiting t) e n refl
  at None None e n = grind (arith, common_steps)

stop-adds : (f : SaveKey → Bool) (p : Places) → Adds f p stops
stop-adds f p = at (position is_some p.running) p.waiting refl refl where
  run : (place : ℕ) (o : Option (Option Save)) → position is_some p.running ≡ Some place → slice_get p.running place ≡ o
      → Adds f p stops
  run place None e g = grind (arith, common_steps)
  run place (Some None) e g = grind (arith, common_steps)
  run place (Some (Some s)) e g =
      let gone = set-counts (has_such (has_key f)) p.running place (Some s) None g in
      grind (arith, common_steps)

  at : (a : Option ℕ) (ws : List Save) → position is_some p.running ≡ a → p.waiting ≡ ws → Adds f p stops
  at (Some place) ws e n = run place (slice_get p.running place) e refl
  at None [] e n = grind (arith, common_steps)
  at None (s ∷ ss) e n = grind (arith, common_steps)

one-adds : (f : SaveKey → Bool) (p : Places) (s : SaveStep) → Adds f p s
one-adds f p (asks key automatic) = ask-adds f p key automatic
one-adds f p (ends place end releases) = end-adds f p place end releases
one-adds f p (cancels c i) = cancel-adds f p c i
one-adds f p stops = stop-adds f p

all-add : (f : SaveKey → Bool) (p : Places) (steps : List SaveStep)
    → readers f (saves_after_all p steps) + saves_ended_in f p steps ≡ readers f p + saves_taken_in f p steps
all-add f p [] = refl
all-add f p (s ∷ ss) =
    let one : readers f (saves_after p s) + saves_ended_by f p s ≡ readers f p + saves_taken_by f p s =
    one-adds f p s in
    let rest : readers f (saves_after_all (saves_after p s) ss) + saves_ended_in f (saves_after p s) ss
    ≡ readers f (saves_after p s) + saves_taken_in f (saves_after p s) ss = all-add f (saves_after p s) ss in
    omega (arith, one, rest)

none-reads : (f : SaveKey → Bool) (places : ℕ) → how_many (has_such (has_key f)) (replicate places None) ≡ 0
none-reads f zero = refl
none-reads f (suc n) = let rest = none-reads f n in omega (arith, rest)

unread : (camera id : ℕ) (tag : Option ℕ) (p : Places) → is_read p camera id tag ≡ false
    → readers (covers camera id tag) p ≡ 0
unread camera id tag p h =
    let f : SaveKey → Bool = covers camera id tag in
    let runs : list_any (has_such (has_key f)) p.running ≡ false = grind (arith, common_steps) in
    let waits : list_any (has_key f) p.waiting ≡ false = grind (arith, common_steps) in
    let running = none-any (has_such (has_key f)) p.running runs in
    let waiting = none-any (has_key f) p.waiting waits in
    omega (arith, running, waiting)

-- leave by a clip's first frame is for that clip, and the order says none or that one
meant : (said : Option ℕ) (there clip : ShownClip) → by_first said there ≡ Now clip
    → (there ≡ clip) × ((said ≡ None) ⊎ (said ≡ Some clip.from))
meant None there clip h = (grind (arith, common_steps), inl refl)
meant (Some n) there clip h = at (n == there.from) refl
  where
    at : (b : Bool) → (n == there.from) ≡ b → (there ≡ clip) × ((Some n ≡ None) ⊎ (Some n ≡ Some clip.from))
    at true e =
        let is : there ≡ clip = grind (arith, common_steps) in
        let same : n ≡ there.from = grind (arith, common_steps) in
        let first : n ≡ clip.from = grind (arith, common_steps) in
        (is, inr (ap (λ (f : ℕ). Some f) first))
    at false e = grind (arith, common_steps)

none-meant : (said : Option ℕ) (clip : ShownClip) → by_none said ≡ Now clip → ⊥
none-meant None clip h = grind (arith, common_steps)
none-meant (Some n) clip h = grind (arith, common_steps)

-- what an order may release isn't read, is there, and is what the order says
spares : (read : Bool) (said : Option ℕ) (there : Option ShownClip) (clip : ShownClip)
    → may_release read said there ≡ Now clip
    → (read ≡ false) × (there ≡ Some clip) × ((said ≡ None) ⊎ (said ≡ Some clip.from))
spares true said there clip h = grind (arith, common_steps)
spares false said None clip h = absurd (none-meant said clip h)
spares false said (Some shown) clip h =
    let is = meant said shown clip h in (refl, ap (λ (c : ShownClip). Some c) is.0, is.1)

pub orders-spare : OrdersSpareReadClips
orders-spare places camera id tag steps said there clip h =
    let f : SaveKey → Bool = covers camera id tag in
    let all-of = spares (is_read (saves_after_all (no_saves places) steps) camera id tag) said there clip h in
    let none : readers f (saves_after_all (no_saves places) steps) ≡ 0 =
    unread camera id tag (saves_after_all (no_saves places) steps) all-of.0 in
    let all : readers f (saves_after_all (no_saves places) steps) + saves_ended_in f (no_saves places) steps
    ≡ readers f (no_saves places) + saves_taken_in f (no_saves places) steps = all-add f (no_saves places) steps in
    let begin : readers f (no_saves places) ≡ 0 = let e = none-reads f places in omega (arith, e) in
    (all-of.1, all-of.2, omega (arith, none, all, begin))

pub saves-add-up : SavesAddUp
saves-add-up places f steps =
    let all : readers f (saves_after_all (no_saves places) steps) + saves_ended_in f (no_saves places) steps
    ≡ readers f (no_saves places) + saves_taken_in f (no_saves places) steps = all-add f (no_saves places) steps in
    let begin : readers f (no_saves places) ≡ 0 = let e = none-reads f places in omega (arith, e) in
    omega (arith, all, begin)

read-none : (camera id : ℕ) (tag : Option ℕ) (p : Places) → readers (covers camera id tag) p ≡ 0
    → is_read p camera id tag ≡ false
read-none camera id tag p h =
    let f : SaveKey → Bool = covers camera id tag in
    let running = any-none (has_such (has_key f)) p.running (omega (arith, h)) in
    let waiting = any-none (has_key f) p.waiting (omega (arith, h)) in
    grind (arith, common_steps)

-- an unread clip is released, where the order says none or that one
frees : (read : Bool) (said : Option ℕ) (clip : ShownClip) → read ≡ false → (said ≡ None) ⊎ (said ≡ Some clip.from)
    → may_release read said (Some clip) ≡ Now clip
frees true said clip h m = grind (arith, common_steps)
frees false None clip h m = refl
frees false (Some n) clip h (inl e) = absurd (cc)
frees false (Some n) clip h (inr e) =
    let same : n ≡ clip.from = grind (arith, common_steps) in
    let is : (n == clip.from) ≡ true = grind (arith, common_steps) in
    grind (arith, common_steps)

pub orders-release : OrdersReleaseUnreadClips
orders-release places camera id tag steps said clip e m =
    let f : SaveKey → Bool = covers camera id tag in
    let all : saves_taken_in f (no_saves places) steps
    ≡ saves_ended_in f (no_saves places) steps + readers f (saves_after_all (no_saves places) steps) =
    saves-add-up places f steps in
    let none : readers f (saves_after_all (no_saves places) steps) ≡ 0 = omega (arith, all, e) in
    frees (is_read (saves_after_all (no_saves places) steps) camera id tag) said clip
    (read-none camera id tag (saves_after_all (no_saves places) steps) none) m

-- saves that are the same are of one clip
same-keys : (a b : SaveKey) → is_same a b ≡ true → clip_key b ≡ clip_key a
same-keys a b h =
    let camera : b.camera ≡ a.camera = grind (arith, common_steps) in
    let id : b.id ≡ a.id = grind (arith, common_steps) in
    let first : b.first ≡ a.first = grind (arith, common_steps) in
    let last : b.last ≡ a.last = grind (arith, common_steps) in
    let tag : b.tag ≡ a.tag = grind (arith, common_steps) in
    let time : b.time ≡ a.time = grind (arith, common_steps) in
    grind (arith, common_steps)

-- saves that are the same have the same clip
same-clips : (a b : SaveKey) → is_same a b ≡ true → key_clip b ≡ key_clip a
same-clips a b h =
    let id : b.id ≡ a.id = grind (arith, common_steps) in
    let first : b.first ≡ a.first = grind (arith, common_steps) in
    let last : b.last ≡ a.last = grind (arith, common_steps) in
    let tag : b.tag ≡ a.tag = grind (arith, common_steps) in
    grind (arith, common_steps)

-- what saves may release isn't read, and is what was saved
spares-saved : (read : Bool) (saved : SaveKey) (there : Option SaveKey) (clip : ShownClip)
    → may_release_saved read saved there ≡ Now clip
    → (read ≡ false) × (option_map clip_key there ≡ Some (clip_key saved)) × (clip ≡ key_clip saved)
spares-saved read saved None clip h = grind (arith, common_steps)
spares-saved read saved (Some shown) clip h = at (is_same saved shown) read refl refl where
  at : (b r : Bool) → is_same saved shown ≡ b → read ≡ r
      → (read ≡ false) × (option_map clip_key (Some shown) ≡ Some (clip_key saved)) × (clip ≡ key_clip saved)
  at false r e n = grind (arith, common_steps)
  at true true e n = grind (arith, common_steps)
  at true false e n =
      let is : key_clip shown ≡ clip = grind (arith, common_steps) in
      (n, ap (λ (k : SaveKey). Some k) (same-keys saved shown e), sym is ∙ same-clips saved shown e)

pub saved-released : SavedClipsAreReleased
saved-released places saved steps there clip h =
    let tag : Option ℕ = Some saved.tag in
    let read = is_read (saves_after_all (no_saves places) steps) saved.camera saved.id tag in
    let all-of = spares-saved read saved there clip h in
    let rest = orders-spare places saved.camera saved.id tag steps None (Some clip) clip (rw all-of.0 refl) in
    (all-of.1, all-of.2, rest.2)

-- what is the same clip is released, where none reads it
frees-saved : (read : Bool) (saved there : SaveKey) → read ≡ false → is_same saved there ≡ true
    → may_release_saved read saved (Some there) ≡ Now (key_clip saved)
frees-saved true saved there h e = grind (arith, common_steps)
frees-saved false saved there h e =
    let is : may_release_saved false saved (Some there) ≡ Now (key_clip there) = grind (arith, common_steps) in
    is ∙ ap (λ (c : ShownClip). Now c) (same-clips saved there e)

alike : (saved there : SaveKey) → clip_key there ≡ clip_key saved → is_same saved there ≡ true
alike saved there e =
    let camera : there.camera ≡ saved.camera = ap (λ k. k.camera) e in
    let id : there.id ≡ saved.id = ap (λ k. k.id) e in
    let first : there.first ≡ saved.first = ap (λ k. k.first) e in
    let last : there.last ≡ saved.last = ap (λ k. k.last) e in
    let tag : there.tag ≡ saved.tag = ap (λ k. k.tag) e in
    let time : there.time ≡ saved.time = ap (λ k. k.time) e in
    grind (arith, common_steps)

pub saved-free : UnreadSavedClipsAreReleased
saved-free places saved there steps e same =
    let f : SaveKey → Bool = covers saved.camera saved.id (Some saved.tag) in
    let all : saves_taken_in f (no_saves places) steps
    ≡ saves_ended_in f (no_saves places) steps + readers f (saves_after_all (no_saves places) steps) =
    saves-add-up places f steps in
    let none : readers f (saves_after_all (no_saves places) steps) ≡ 0 = omega (arith, all, e) in
    frees-saved (is_read (saves_after_all (no_saves places) steps) saved.camera saved.id (Some saved.tag)) saved there
    (read-none saved.camera saved.id (Some saved.tag) (saves_after_all (no_saves places) steps) none) (alike saved there same)

-- where an order isn't followed, since the clip begins with another frame, or isn't there
refused-by : (said : Option ℕ) (clip : ShownClip) (number : ℕ) → let is = by_first said clip in
    (is ≡ Saving → ⊥) × (is ≡ Other number → (said ≡ Some number) × (Some clip.from ≢ said)) × (is ≡ NoClip → ⊥)
refused-by None clip number = ((λ e. absurd (cc)), (λ e. absurd (cc)), (λ e. absurd (cc)))
refused-by (Some n) clip number = at (n == clip.from) refl
  where
    at : (b : Bool) → (n == clip.from) ≡ b → let is = by_first (Some n) clip in
        (is ≡ Saving → ⊥) × (is ≡ Other number → (Some n ≡ Some number) × (Some clip.from ≢ Some n)) × (is ≡ NoClip → ⊥)
    at true e =
        ((λ h. grind (arith, common_steps)), (λ h. absurd (grind (arith, common_steps))), (λ h. grind (arith, common_steps)))
    at false e = (
      (λ h. grind (arith, common_steps)),
      (λ h. (grind (arith, common_steps), (λ same. grind (arith, common_steps)))),
      (λ h. grind (arith, common_steps)),
    )

pub refused-so : RefusedReleasesAreSo
refused-so true asked there number = ((λ e. refl), (λ e. refl), (λ e. absurd (cc)), (λ e. absurd (cc)))
refused-so false None None number =
    ((λ e. absurd (cc)), (λ e. absurd (cc)), (λ e. absurd (cc)), (λ e. refl))
refused-so false (Some n) None number =
    ((λ e. absurd (cc)), (λ e. absurd (cc)), (λ e. (grind (arith, common_steps), (λ same. absurd (cc)))), (λ e. refl))
refused-so false asked (Some clip) number =
    let by = refused-by asked clip number in
    ((λ e. absurd (by.0 e)), (λ e. absurd (cc)), by.1, (λ e. absurd (by.2 e)))

-- a part that goes isn't read, and is the part itself
part-unread : (read : Bool) (part longer clip : ShownClip) → leave_for_part read part longer ≡ Some clip
    → (part ≡ clip) × (read ≡ false)
part-unread true part longer clip e = absurd (cc)
part-unread false part longer clip e = at (lies_within part longer) refl
  where
    at : (b : Bool) → lies_within part longer ≡ b → (part ≡ clip) × (false ≡ false)
    at true is = (grind (arith, common_steps), refl)
    at false is = grind (arith, common_steps)

-- leave in an answer is the answer
in-now : (answer : MayRelease) (clip : ShownClip) → leave_in answer ≡ Some clip → answer ≡ Now clip
in-now (Now shown) clip e = grind (arith, common_steps)
in-now Saving clip e = absurd (cc)
in-now (Other number) clip e = absurd (cc)
in-now NoClip clip e = absurd (cc)

saved-shown : (saved : SaveKey) (there : Option SaveKey) → option_map clip_key there ≡ Some (clip_key saved)
    → option_map key_clip there ≡ Some (key_clip saved)
saved-shown saved None e = absurd (cc)
saved-shown saved (Some shown) e =
    let same : clip_key shown ≡ clip_key saved = grind (arith, common_steps) in
    ap (λ (c : ShownClip). Some c) (ap (λ k. key_clip k) same)

pub leaves-unread : LeavesAreForUnreadClips
leaves-unread (of_order read asked there) clip e =
    let is = spares read asked there clip (in-now (may_release read asked there) clip e) in (is.1, is.0)
leaves-unread (of_saved read saved there) clip e =
    let is = spares-saved read saved there clip (in-now (may_release_saved read saved there) clip e) in
    (saved-shown saved there is.1 ∙ ap (λ (c : ShownClip). Some c) (sym is.2), is.0)
leaves-unread (of_part read part longer) clip e = part-unread read part longer clip e
leaves-unread (of_full rule free clips) clip e =
    let gone = allowed-clips-go rule free clips clip e in
    (gone.1.3.0, gone.1.0, gone.1.3.1, sym gone.1.1, allowed-unread rule gone.1.0 gone.1.2)
