-- Where an append goes: what the segments in memory say of the recording.
use Rattle.std.proofs.Common.{◌≡◌, ◌≢◌, ◌⊎◌, inl, inr, ℕ, zero, suc, ◌+◌, ◌*◌, ◌/◌, ◌%◌, ◌^◌, ◌<◌, ◌≤◌, Bool, true, false, cond, not, eqb, is_some, Option, Some, None, List, [], ◌∷◌, length, get_or, refl, sym, ap, ◌∙◌, arith}
use Rattle.std.proofs.Math.Nat.{add-mul, div-add-mod', mul-le-mul_right, mul_comm}
use Rattle.std.proofs.lemmas.Nat.{le-div}
use Rattle.std.proofs.lemmas.Bool.{cases_lt}
use Rattle.std.proofs.lemmas.List.Sums.{count_by-le-length, sum_by-cons}
use Rattle.std.specs.Prelude.{◌&&◌}
use Rattle.std.specs.List.{count_by, list_any, position}
use Rattle.loop_record.specs.declared.geometry.Geometry.{Geometry}
use Rattle.loop_record.specs.declared.segment.SegmentHead.{SegmentHead}
use Rattle.loop_record.specs.Layout.{Segment, is_too_high, segment_in}
use Rattle.loop_record.specs.Reading.{Holds, by_block, next_after, open_segments}
use Rattle.loop_record.specs.Parts.{is_high, parts_of}
use Rattle.loop_record.specs.Recording.{Recording, held_blocks, last_number, needs_recycling, recycling_first, ring_of, victim}
use Rattle.loop_record.proofs.Bounds.{limits}
use Rattle.loop_record.proofs.Changes.{shown_of, is_overfull}
use Rattle.loop_record.proofs.TestFacts.{differ_test, equal_test, neither, not_below, not_below_test}
use Rattle.loop_record.proofs.Parts.{reading-stages, geometry-good}
use Rattle.loop_record.proofs.Readings.{overfull_none}
use Rattle.loop_ring.specs.Heads.{IsPlaceOf, has_frame, heads_of, is_of}
use Rattle.loop_ring.proofs.Heads.{Newest, closed-found, head-some, head-there, heads-length, newest-found, newest-missing, there}
use Rattle.loop_ring.proofs.HeldBlocks.{held-count, none-closed}
use Rattle.loop_store.specs.Grow.{IsFreeFor}
use Rattle.loop_store.specs.AppendPlace.{IsNext, IsOldFor}

-- ---- the next number

next_after-most : (g : Geometry) (ss : List Segment) → list_any (is_high g) ss ≡ false
    → list_any (is_overfull g) ss ≡ false → next_after g ss ≤ 2 ^ 62
next_after-most g [] low fits = omega arith
next_after-most g (s ∷ []) low fits =
    let most : length s.slots ≤ g.slots = not_below g.slots (length s.slots) (neither (is_overfull g s) false fits).0 in
    let end : (s.block + 1) * g.slots ≤ 2 ^ 62 = not_below (2 ^ 62) ((s.block + 1) * g.slots) (neither (is_high g s) false low).0 in
    omega (arith, most, end, add-mul s.block 1 g.slots)
next_after-most g (s ∷ t ∷ ss) low fits =
    next_after-most g (t ∷ ss) (neither (is_high g s) (list_any (is_high g) (t ∷ ss)) low).1
    (neither (is_overfull g s) (list_any (is_overfull g) (t ∷ ss)) fits).1

next-most : (g : Geometry) (r : Recording) (image : List ℕ) → Holds g r image → r.next ≤ 2 ^ 62
next-most g r image e =
    let ss = by_block (open_segments (parts_of g image).segments) in
    let shown = shown_of g ss (parts_of g image).clips r (reading-stages g r image e).recording in
    let next : next_after g ss ≡ r.next = ap (λ (q : Recording). q.next) shown.is in
    omega (arith, next, next_after-most g ss shown.low_enough (overfull_none g image))

-- a block that begins at such a number is not too high, unless the numbers are spent
pub block-low : (slots next : ℕ) → 1 ≤ slots → next ≤ 2 ^ 62 → next % slots ≡ 0 → next ≢ slots * (2 ^ 62 / slots)
    → (next / slots + 1) * slots ≤ 2 ^ 62
block-low slots next some most first unspent = go (cases_lt (next / slots) (2 ^ 62 / slots))
  where
    split : next / slots * slots ≡ next
    split = omega (arith, div-add-mod' next slots, first)

    end : 2 ^ 62 / slots * slots ≤ 2 ^ 62
    end = omega (arith, div-add-mod' (2 ^ 62) slots)

    go : (next / slots < 2 ^ 62 / slots) ⊎ (2 ^ 62 / slots ≤ next / slots) → (next / slots + 1) * slots ≤ 2 ^ 62
    go (inl l) =
        let le : (next / slots + 1) * slots ≤ 2 ^ 62 / slots * slots = mul-le-mul_right slots (omega (arith, l)) in
        omega (arith, le, end)
    go (inr l) =
        let most_blocks : next / slots ≤ 2 ^ 62 / slots = le-div (next / slots) (2 ^ 62) slots some (omega (arith, split, most)) in
        let same : next / slots ≡ 2 ^ 62 / slots = omega (arith, l, most_blocks) in
        absurd (unspent (sym split ∙ ap (λ (q : ℕ). q * slots) same ∙ mul_comm (2 ^ 62 / slots) slots))

next-low : (g : Geometry) (r : Recording) (image : List ℕ) → Holds g r image → r.next % g.slots ≡ 0
    → r.next ≢ last_number (ring_of g) → is_too_high g (r.next / g.slots) ≡ false
next-low g r image e first unspent =
    let some = (limits g (geometry-good g image (reading-stages g r image e).geometry)).slots.0 in
    not_below_test (2 ^ 62) ((r.next / g.slots + 1) * g.slots) (block-low g.slots r.next some (next-most g r image e) first unspent)

-- ---- a recycling

needs-not : (g : Geometry) (r : Recording) → length (held_blocks (ring_of g) r) ≢ g.segments
    → needs_recycling (ring_of g) r ≡ false
needs-not g r fewer =
    let apart = differ_test (length (held_blocks (ring_of g) r)) g.segments fewer in
    (λ i. eqb (r.next % g.slots) 0 && apart i) ∙ and_false (eqb (r.next % g.slots) 0)
  where
    and_false : (b : Bool) → (b && false) ≡ false
    and_false true = refl
    and_false false = refl

needs-so : (g : Geometry) (r : Recording) → r.next % g.slots ≡ 0 → length (held_blocks (ring_of g) r) ≡ g.segments
    → needs_recycling (ring_of g) r ≡ true
needs-so g r first all =
    let a = equal_test (r.next % g.slots) 0 first in
    let b = equal_test (length (held_blocks (ring_of g) r)) g.segments all in
    λ i. a i && b i

count-below : {X : Type 0} (p : X → Bool) (xs : List X) (j : ℕ) (d : X) → j < length xs → p (get_or xs j d) ≡ false
    → count_by p xs < length xs
count-below {X = X} p [] j d l e = absurd (omega (arith, l))
count-below {X = X} p (x ∷ xs) zero d l e =
    let rest = count_by-le-length p xs in
    let split = sum_by-cons (λ (y : X). cond {A = ℕ} (p y) 1 0) x xs in
    let none : cond {A = ℕ} (p x) 1 0 ≡ 0 = λ i. cond {A = ℕ} (e i) 1 0 in
    omega (arith, split, none, rest)
count-below {X = X} p (x ∷ xs) (suc j) d l e =
    let rest = count-below p xs j d (omega (arith, l)) e in
    let split = sum_by-cons (λ (y : X). cond {A = ℕ} (p y) 1 0) x xs in
    omega (arith, rest, split, at_most_one (p x))
  where
    at_most_one : (b : Bool) → cond {A = ℕ} b 1 0 ≤ 1
    at_most_one true = omega arith
    at_most_one false = omega arith

-- ---- the places

pub newest-place : (g : Geometry) (r : Recording) (image : List ℕ) (j : ℕ) → Holds g r image
    → position (is_of (r.next / g.slots)) (heads_of g image) ≡ Some j → IsNext g r.next j image
    × (needs_recycling (ring_of g) r ≡ false)
newest-place g r image j e found = (
  record { segment = n.segment; there = n.is; of_next = n.block; whole = n.whole; head = n.head },
  go (cases_lt 0 (r.next % g.slots)),
)
  where
    n : Newest g r image j
    n = newest-found g r image j e found

    go : (0 < r.next % g.slots) ⊎ (r.next % g.slots ≤ 0) → needs_recycling (ring_of g) r ≡ false
    go (inl l) =
        let apart = differ_test (r.next % g.slots) 0 (λ z. absurd (omega (arith, l, z))) in
        λ i. apart i && eqb (length (held_blocks (ring_of g) r)) g.segments
    go (inr l) =
        let none : has_frame (get_or (heads_of g image) j None) ≡ false = ap has_frame n.head ∙ not_below_test 0 (r.next % g.slots) l in
        let less : count_by has_frame (heads_of g image) < length (heads_of g image) =
        count-below has_frame (heads_of g image) j None (omega (arith, n.within, heads-length g image)) none in
        needs-not g r (λ all. absurd (omega (arith, all, less, held-count g r image e, heads-length g image)))

apart-next : (g : Geometry) (r : Recording) (image : List ℕ) → Holds g r image → position (is_of (r.next / g.slots))
    (heads_of g image) ≡ None → list_any (λ (s : Segment). eqb s.block (r.next / g.slots))
    (open_segments (parts_of g image).segments) ≡ false
apart-next g r image e missing = (newest-missing g r image e missing).0

pub closed-place : (g : Geometry) (r : Recording) (image : List ℕ) (j count : ℕ) → Holds g r image
    → r.next ≢ last_number (ring_of g) → position (is_of (r.next / g.slots)) (heads_of g image) ≡ None
    → position (λ h. not (is_some h)) (heads_of g image) ≡ Some j
    → count ≡ count_by has_frame (heads_of g image) → count ≢ g.segments → IsFreeFor g r.next j image
    × ((r.next % g.slots ≡ 0) × (needs_recycling (ring_of g) r ≡ false))
closed-place g r image j count e unspent missing found counted fewer =
    let first = (newest-missing g r image e missing).1 in (
      record { closed = (closed-found g image j found).1; apart = apart-next g r image e missing; low_enough = next-low g r image e first unspent },
      (first, needs-not g r (λ all. fewer (counted ∙ held-count g r image e ∙ all))),
    )

pub victim-place : (g : Geometry) (keep : ℕ) (r : Recording) (image : List ℕ) (j count : ℕ) (heads : List (Option SegmentHead))
    → Holds g r image → heads ≡ heads_of g image → r.next ≢ last_number (ring_of g)
    → position (is_of (r.next / g.slots)) (heads_of g image) ≡ None
    → count ≡ count_by has_frame heads → count ≡ g.segments → IsPlaceOf heads (victim (ring_of g) keep r) (Some j)
    → (b : ℕ) × ((victim (ring_of g) keep r ≡ Some b) × (IsOldFor g r.next b j image × ((r.next % g.slots ≡ 0) × (needs_recycling (ring_of g) r ≡ true))))
victim-place g keep r image j count heads e is unspent missing counted all place =
    let first = (newest-missing g r image e missing).1 in
    let head : get_or (heads_of g image) j None ≡ Some place.0 = ap (λ (hs : List (Option SegmentHead)). get_or hs j None) (sym is) ∙ place.1 in
    let within = there (heads_of g image) j place.0 head in
    let s = head-some (segment_in g image j) place.0 (sym (head-there g image j (omega (arith, within, heads-length g image))) ∙ head) in (
      place.0.block,
      (
        place.2,
        (
          record { segment = s.0; there = s.1.0; block_is = s.1.1.0; apart = apart-next g r image e missing; low_enough = next-low g r image e first unspent },
          (first, needs-so g r first (sym (held-count g r image e) ∙ ap (count_by has_frame) (sym is) ∙ sym counted ∙ all)),
        ),
      ),
    )

pub no-victim : (g : Geometry) (keep : ℕ) (r : Recording) (image : List ℕ) (count : ℕ) (heads : List (Option SegmentHead))
    → Holds g r image → heads ≡ heads_of g image → position (is_of (r.next / g.slots)) (heads_of g image) ≡ None
    → count ≡ count_by has_frame heads → count ≡ g.segments
    → victim (ring_of g) keep r ≡ None → recycling_first (needs_recycling (ring_of g) r) (victim (ring_of g) keep r) ≡ None
no-victim g keep r image count heads e is missing counted all none =
    let first = (newest-missing g r image e missing).1 in
    let needs = needs-so g r first (sym (held-count g r image e) ∙ ap (count_by has_frame) (sym is) ∙ sym counted ∙ all) in
    λ i. recycling_first (needs i) (none i)

pub some-closed : (g : Geometry) (r : Recording) (image : List ℕ) (count : ℕ) → Holds g r image
    → position (is_of (r.next / g.slots)) (heads_of g image) ≡ None → count ≡ count_by has_frame (heads_of g image)
    → count ≢ g.segments → position (λ h. not (is_some h)) (heads_of g image) ≡ None → ⊥
some-closed g r image count e missing counted fewer closed = fewer (counted ∙ held-count g r image e ∙ none-closed g r image e missing closed)

-- the block of the next number, looked up in memory
pub found-of : (g : Geometry) (r : Recording) (image : List ℕ) (heads : List (Option SegmentHead)) (next slots : ℕ)
    (found result : Option ℕ) → heads ≡ heads_of g image → r.next ≡ next → slots ≡ g.slots → found ≡ result
    → found ≡ position (is_of (next / slots)) heads
    → position (is_of (r.next / g.slots)) (heads_of g image) ≡ result
found-of g r image heads next slots found result are is same answered said = (λ i. position (is_of (is i / sym same i)) (sym are i)) ∙ sym said ∙ answered
