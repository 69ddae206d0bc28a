-- What happened to a camera's desks, and one thing more; what visits do happened too.
use Rattle.std.proofs.Common.{◌≡◌, ◌==◌, ◌++◌, ◌<◌, inl, inr, ℕ, zero, suc, Bool, true, false, cond, List, [], ◌∷◌, All, length, map, slice_get, slice_set, Option, Some, None, refl, sym, ap, ◌∙◌, subst, arith}
use Rattle.std.proofs.lemmas.Bool.{eqb-true, eqb-false, eq-eqb}
use Rattle.std.proofs.lemmas.Grind.{flat_map-append}
use Rattle.std.proofs.lemmas.List.{append-nil, length-set}
use Rattle.std.proofs.lemmas.List.Elements.{filter-append}
use Rattle.std.specs.List.{filter, flat_map, position}
use Rattle.loop_disk.specs.Medium.{Medium}
use Rattle.loop_desk.specs.declared.limits.Space.{Space}
use Rattle.loop_desk.specs.Desk.{DeskCall, clip_locked, clip_unlocked, flushed, frame_read, layout_upgraded, run_told, status_told, submitted}
use Rattle.loop_desk.specs.Seen.{SeenDesk}
use Rattle.loop_pipeline.specs.Backs.{GoesBy, Part, calls_of, is_placed_submit, is_submit, own, parts_at, placed_calls, visited}
use Rattle.loop_pipeline.specs.DeskEvents.{DeskEvent, DesksNow, Happened, HappensTo, IsDue, desk_in, done, end_by, part_in}
use Rattle.loop_pipeline.specs.Desks.{EachWent}
use Rattle.loop_pipeline.specs.Nexts.{IsElsewhere, IsFreeAt, TakesNext, has_free}
use Rattle.loop_pipeline.specs.Turns.{Chooses, TurnsTo, turned_by}
use Rattle.loop_pipeline.proofs.Places.{get-set-other, get-set-same, some-same, some-there}
use Rattle.loop_pipeline.proofs.Roomy.{first-passes}
use Rattle.loop_pipeline.proofs.Searching.{none-passes}

-- ---- one thing more

pub events-more : {D X : Type 0} (f : DeskEvent D → List X) (events : List (DeskEvent D)) (event : DeskEvent D)
    → flat_map f (events ++ event ∷ []) ≡ flat_map f events ++ f event
events-more f events event =
    flat_map-append f events (event ∷ []) ∙ ap (λ l. flat_map f events ++ l) (append-nil (f event))

pub events-still : {D X : Type 0} (f : DeskEvent D → List X) (events : List (DeskEvent D)) (event : DeskEvent D)
    → f event ≡ [] → flat_map f (events ++ event ∷ []) ≡ flat_map f events
events-still f events event none =
    events-more f events event ∙ (ap (λ l. flat_map f events ++ l) none ∙ append-nil (flat_map f events))

module _ {D : Type 0} (medium : D → Medium) where
  pub happened-more : (old mid new : DesksNow D) (events : List (DeskEvent D)) (event : DeskEvent D)
      → Happened medium old events mid → HappensTo medium mid event new → Happened medium old (events ++ event ∷ []) new
  happened-more old mid new [] event went happens =
      (new, subst (λ d. HappensTo medium d event new) went happens, refl)
  happened-more old mid new (first ∷ events) event went happens =
      (went.0, went.1, happened-more went.0 mid new events event went.2 happens)

  pub happened-both : (old mid new : DesksNow D) (events more : List (DeskEvent D)) → Happened medium old events mid
      → Happened medium mid more new → Happened medium old (events ++ more) new
  happened-both old mid new [] more first second = subst (λ d. Happened medium d more new) first second
  happened-both old mid new (event ∷ events) more first second =
      (first.0, first.1, happened-both first.0 mid new events more first.2 second)

-- ---- parts that bring no frame

quiet-call : (call : DeskCall) (end : ℕ) → is_submit call ≡ false → end_by (own call) end ≡ end
quiet-call (submitted p size result) end none = absurd (cc)
quiet-call (flushed result) end none = refl
quiet-call (clip_locked span result) end none = refl
quiet-call (clip_unlocked id result) end none = refl
quiet-call (frame_read number result) end none = refl
quiet-call (status_told status) end none = refl
quiet-call (layout_upgraded result) end none = refl
quiet-call (run_told times place run) end none = refl

pub one-quiet : (call : DeskCall) → filter is_submit (call ∷ []) ≡ [] → is_submit call ≡ false
one-quiet call none = go (is_submit call) none
  where
    go : (b : Bool) → cond b (call ∷ []) [] ≡ [] → b ≡ false
    go true e = absurd (cc)
    go false e = refl

pub quiet-end : (part : Part) (end : ℕ) → filter is_submit (calls_of part) ≡ [] → end ≡ end_by part end
quiet-end (own call) end none = sym (quiet-call call end (one-quiet call none))
quiet-end (visited calls) end none = refl

pub quiet-due : {D : Type 0} (medium : D → Medium) (now : DesksNow D) (place : ℕ) (part : Part)
    → filter is_submit (calls_of part) ≡ [] → IsDue medium now place part
quiet-due medium now place (own call) none =
    λ is. absurd (let e : true ≡ false = sym is ∙ one-quiet call none in cc)
quiet-due medium now place (visited calls) none = none

-- ---- the choice stays

module _ (end active : ℕ) (spaces : List Space) (place : ℕ) where
  takes-still : TakesNext end active spaces (Some place) → TakesNext end place spaces (Some place)
  takes-still (inl here) =
      let same : place ≡ active = some-same place active here.1 in
      inl (subst (IsFreeAt spaces) (sym same) here.0, refl)
  takes-still (inr rest) = go (position has_free spaces) refl rest.1
    where
      go : (o : Option ℕ) → position has_free spaces ≡ o → IsElsewhere end spaces o (Some place)
          → TakesNext end place spaces (Some place)
      go (Some free) is e =
          let same : place ≡ free = some-same place free e in
          let there = first-passes has_free spaces free is in
          inl (subst (IsFreeAt spaces) (sym same) (there.0, there.1, there.2), refl)
      go None is oldest = inr (
        λ free. absurd (let e : true ≡ false = sym free.2 ∙ none-passes has_free spaces place free.0 is free.1 in cc),
        subst (λ o. IsElsewhere end spaces o (Some place)) (sym is) oldest,
      )

module _ {D : Type 0} (medium : D → Medium) (desks : List (SeenDesk D)) (end active : ℕ) where
  pub chooses-still : (place : ℕ) → Chooses medium desks end active (Some place)
      → Chooses medium desks end place (Some place)
  chooses-still place c =
      record { spaces = c.spaces; tell = c.tell; is = takes-still end active c.spaces place c.is }

  -- after a turn another one would stay
  pub turns-still : (new : ℕ) (locked : Bool) → TurnsTo medium desks end active new locked
      → (again : Bool) × TurnsTo medium desks end new new again
  turns-still new locked turns = go turns.next turns.chosen turns.turns
    where
      go : (next : Option ℕ) → Chooses medium desks end active next → new ≡ turned_by next active
          → (again : Bool) × TurnsTo medium desks end new new again
      go (Some place) chosen is = (
        false,
        record {
          next = Some place;
          chosen = subst (λ n. Chooses medium desks end n (Some place)) (sym is) (chooses-still place chosen);
          turns = is;
          told = refl;
        },
      )
      go None chosen is = (
        true,
        record {
          next = None;
          chosen = subst (λ n. Chooses medium desks end n None) (sym is) chosen;
          turns = refl;
          told = refl;
        },
      )

-- ---- a visit

-- two lists are one if they have the same at each place
same-lists : {X : Type 0} (xs ys : List X) → length ys ≡ length xs
    → ((i : ℕ) (x y : X) → slice_get xs i ≡ Some x → slice_get ys i ≡ Some y → y ≡ x) → ys ≡ xs
same-lists [] [] count each = refl
same-lists [] (y ∷ ys) count each = absurd (omega (arith, count))
same-lists (x ∷ xs) [] count each = absurd (omega (arith, count))
same-lists (x ∷ xs) (y ∷ ys) count each =
    λ i. each zero x y refl refl i ∷ same-lists xs ys (omega (arith, count)) (λ n a b. each (suc n) a b) i

abbrev pub done_by : {D : Type 0} → ℕ × Part → DeskEvent D
done_by part = done part.0 part.1

pub parts-done : (D : Type 0) (parts : List (ℕ × Part)) → flat_map (part_in {D = D}) (map (done_by {D = D}) parts) ≡ parts
parts-done D [] = refl
parts-done D (part ∷ parts) = ap (λ l. part ∷ l) (parts-done D parts)

pub none-joined : (D : Type 0) (parts : List (ℕ × Part)) → flat_map (desk_in {D = D}) (map (done_by {D = D}) parts) ≡ []
none-joined D [] = refl
none-joined D (part ∷ parts) = none-joined D parts

-- the submits of a list of calls are none, so those of its first part are, and of the others
pub both-none : {X : Type 0} (xs ys : List X) → xs ++ ys ≡ [] → (xs ≡ []) × (ys ≡ [])
both-none [] ys e = (refl, e)
both-none (x ∷ xs) ys e = absurd (cc)

unplaced-quiet : (place : ℕ) (calls : List DeskCall)
    → filter is_placed_submit (map (λ call. (place, call)) calls) ≡ [] → filter is_submit calls ≡ []
unplaced-quiet place [] none = refl
unplaced-quiet place (call ∷ calls) none = go (is_submit call) none (unplaced-quiet place calls)
  where
    go : (b : Bool)
        → cond b ((place, call) ∷ filter is_placed_submit (map (λ c. (place, c)) calls))
        (filter is_placed_submit (map (λ c. (place, c)) calls)) ≡ []
        → (filter is_placed_submit (map (λ c. (place, c)) calls) ≡ [] → filter is_submit calls ≡ [])
        → cond b (call ∷ filter is_submit calls) (filter is_submit calls) ≡ []
    go true e more = absurd (cc)
    go false e more = more e

-- each desk, after the first part
each-then : {D : Type 0} (medium : D → Medium) (old new : List (SeenDesk D)) (part : ℕ × Part) (parts : List (ℕ × Part))
    (was mid is : SeenDesk D) → slice_get old part.0 ≡ Some was → slice_get new part.0 ≡ Some is
    → GoesBy medium mid (parts_at part.0 parts) is → EachWent medium old new (part ∷ parts)
    → EachWent medium (slice_set old part.0 mid) new parts
each-then medium old new part parts was mid is at there rest went i d e first last = go (part.0 == i) refl
  where
    go : (b : Bool) → (part.0 == i) ≡ b → GoesBy medium d (parts_at i parts) e
    go true here =
        let same : part.0 ≡ i = eqb-true part.0 i here in
        let from : d ≡ mid = some-same d mid
        (sym first ∙ (ap (λ n. slice_get (slice_set old part.0 mid) n) (sym same) ∙ get-set-same old part.0 was mid at)) in
        let to : e ≡ is = some-same e is (sym last ∙ (ap (λ n. slice_get new n) (sym same) ∙ there)) in
        subst (λ x. GoesBy medium x (parts_at i parts) e) (sym from)
        (subst (λ x. GoesBy medium mid (parts_at i parts) x) (sym to)
        (subst (λ n. GoesBy medium mid (parts_at n parts) is) same rest))
    go false apart =
        subst (λ l. GoesBy medium d l e) (ap (λ b. cond b (part.1 ∷ []) [] ++ parts_at i parts) apart)
        (went i d e (get-set-other old part.0 i mid d (λ s. eqb-false part.0 i apart (sym s)) first) last)

module _ {D : Type 0} (medium : D → Medium) (active end : ℕ) where
  pub visit-happened : (old new : List (SeenDesk D)) (parts : List (ℕ × Part)) → length new ≡ length old
      → All (λ part. part.0 < length old) parts → EachWent medium old new parts
      → filter is_placed_submit (flat_map placed_calls parts) ≡ []
      → Happened medium (record { desks = old; active = active; end = end }) (map done_by parts)
      (record { desks = new; active = active; end = end })
  visit-happened old new [] count among went quiet =
      ap (λ (l : List (SeenDesk D)). record { desks = l; active = active; end = end })
      (same-lists old new count (λ i d e first last. went i d e first last))
  visit-happened old new (part ∷ parts) count among went quiet =
      let place = part.0 in
      let less : place < length old = among zero part (omega arith) in
      let was = some-there old place less in
      let is = some-there new place (subst (λ n. place < n) (sym count) less) in
      let steps : GoesBy medium was.0 (part.1 ∷ parts_at place parts) is.0 =
      subst (λ l. GoesBy medium was.0 l is.0)
      (ap (λ b. cond b (part.1 ∷ []) [] ++ parts_at place parts) (eq-eqb place place refl))
      (went place was.0 is.0 was.1 is.1) in
      let still = both-none (filter is_placed_submit (placed_calls part))
      (filter is_placed_submit (flat_map placed_calls parts))
      (sym (filter-append is_placed_submit (placed_calls part) (flat_map placed_calls parts)) ∙ quiet) in
      let none = unplaced-quiet place (calls_of part.1) still.0 in
      let mid = slice_set old place steps.0 in (
        record { desks = mid; active = active; end = end },
        record {
          goes = record { before = was.0; after = steps.0; at = was.1; goes = steps.1; same = refl };
          active = refl;
          end = quiet-end part.1 end none;
          due = quiet-due medium (record { desks = old; active = active; end = end }) place part.1 none;
        },
        visit-happened mid new parts (count ∙ sym (length-set old place steps.0))
            (subst (λ n. All (λ p. p.0 < n) parts) (sym (length-set old place steps.0))
            (λ k d l. among (suc k) d (omega (arith, l))))
            (each-then medium old new part parts was.0 steps.0 is.0 was.1 is.1 steps.2 went) still.1,
      )
