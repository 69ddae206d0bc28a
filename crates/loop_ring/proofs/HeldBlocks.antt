-- The blocks and the numbers that a store holds, counted and found by its headers.
use Rattle.std.proofs.Common.{◌≡◌, inl, inr, ℕ, suc, ◌+◌, ◌*◌, ◌/◌, ◌%◌, ◌≤◌, Bool, true, false, not, ◌&&◌, cond, eqb, ltb, leb, is_some, Option, Some, None, List, [], ◌∷◌, ◌++◌, length, map, refl, sym, ap, ◌∙◌, subst, arith}
use Rattle.std.proofs.Math.Nat.{add-mul, div-add-mod', div-eq_of_lt-le, mul-div_cancel}
use Rattle.std.proofs.lemmas.Bool.Decides.{nat_tests}
use Rattle.std.proofs.lemmas.List.{length-map}
use Rattle.std.proofs.lemmas.List.FromFn.{length-enumerate_from}
use Rattle.std.proofs.lemmas.List.Sums.{length-filter, sum_by-cons}
use Rattle.std.specs.Prelude.{◌||◌}
use Rattle.std.specs.List.{cons_option, list_any, list_all, count_by, filter, filter_map, position, enumerate_from}
use Rattle.loop_record.specs.declared.geometry.Geometry.{Geometry}
use Rattle.loop_record.specs.declared.segment.SegmentHead.{SegmentHead}
use Rattle.loop_record.specs.Recording.{Picture, Recording, Ring, ring_of, block, held_blocks, frame_under, holds}
use Rattle.loop_record.specs.Layout.{Segment}
use Rattle.loop_record.specs.Reading.{open_segments, by_block, in_place, frames_of, next_after, lacks_frame, Holds}
use Rattle.loop_record.specs.Parts.{parts_of}
use Rattle.loop_record.proofs.Blocks.{blocks-made}
use Rattle.loop_record.proofs.Bounds.{limits}
use Rattle.loop_record.proofs.Changes.{shown_of, is_overfull}
use Rattle.loop_record.proofs.TestFacts.{clash, both, neither, untrue, equal, equal_test, differ_test, at_most, at_most_test, not_below, not_false, differ}
use Rattle.loop_record.proofs.Parts.{reading-stages, geometry-good}
use Rattle.loop_record.proofs.Readings.{overfull_none, segments_length}
use Rattle.loop_record.proofs.WithoutBlock.{is_in, frames_in}
use Rattle.loop_record.proofs.NumberOrder.{Among}
use Rattle.loop_record.proofs.Segments.{AllAbove, Rises, has_block, any-by_block, Rises-by_block, repeats-by_block}
use Rattle.loop_ring.specs.Heads.{held_block, heads_of, has_frame, has_number, is_of}
use Rattle.loop_ring.proofs.Heads.{head_of, heads-are, any-heads, position-none, newest-missing}
use Rattle.loop_record.proofs.Names.{all_frames, with_block, blocks_of}

-- ---- counts

abbrev mark : Bool → ℕ
mark t = cond t 1 0

-- the segment has a frame
abbrev pub has_slot : Segment → Bool
has_slot s = ltb 0 (length s.slots)

kept-length : {X Y : Type 0} (t : Bool) (x : X) (y : Y) (xs : List X) (ys : List Y) → length xs ≡ length ys
    → length (cond t (x ∷ xs) xs) ≡ length (cond t (y ∷ ys) ys)
kept-length true x y xs ys e = ap suc e
kept-length false x y xs ys e = e

count-heads : (ps : List (Option Segment)) → length (filter has_frame (map head_of ps)) ≡ length
    (filter has_slot (open_segments ps))
count-heads [] = refl
count-heads (None ∷ ps) = count-heads ps
count-heads (Some s ∷ ps) = kept-length (has_slot s) (head_of (Some s)) s (filter has_frame (map head_of ps))
    (filter has_slot (open_segments ps)) (count-heads ps)

kept-swap : {X : Type 0} (a b : Bool) (x y : X) (xs ys : List X) → length ys ≡ length (cond a (x ∷ xs) xs)
    → length (cond b (y ∷ ys) ys) ≡ length (cond a (x ∷ cond b (y ∷ xs) xs) (cond b (y ∷ xs) xs))
kept-swap true true x y xs ys e = ap suc e
kept-swap true false x y xs ys e = e
kept-swap false true x y xs ys e = ap suc e
kept-swap false false x y xs ys e = e

count-in_place : (p : Segment → Bool) (s : Segment) (ss : List Segment) → length (filter p (in_place s ss)) ≡ length
    (filter p (s ∷ ss))
count-in_place p s [] = refl
count-in_place p s (t ∷ ts) = go (leb s.block t.block) (count-in_place p s ts)
  where
    go : (c : Bool) → length (filter p (in_place s ts)) ≡ length (filter p (s ∷ ts))
        → length (filter p (cond c (s ∷ t ∷ ts) (t ∷ in_place s ts))) ≡ length (filter p (s ∷ t ∷ ts))
    go true h = refl
    go false h = kept-swap (p s) (p t) s t (filter p ts) (filter p (in_place s ts)) h

count-by_block : (p : Segment → Bool) (ss : List Segment) → length (filter p (by_block ss)) ≡ length (filter p ss)
count-by_block p [] = refl
count-by_block p (s ∷ ss) = count-in_place p s (by_block ss) ∙ kept-length (p s) s s (filter p (by_block ss)) (filter p ss) (count-by_block p ss)

-- ---- the blocks of the frames of segments

-- the list doesn't begin with b
abbrev pub NotFirst : ℕ → List ℕ → Type 0
NotFirst b [] = Unit {0}
NotFirst b (c ∷ cs) = eqb b c ≡ false

with-new : (b : ℕ) (bs : List ℕ) → NotFirst b bs → with_block b bs ≡ b ∷ bs
with-new b [] h = refl
with-new b (c ∷ cs) h = ap (λ (t : Bool). cond t (c ∷ cs) (b ∷ c ∷ cs)) h

with-same : (b : ℕ) (bs : List ℕ) → with_block b (b ∷ bs) ≡ b ∷ bs
with-same b bs = ap (λ (t : Bool). cond t (b ∷ bs) (b ∷ b ∷ bs)) (equal_test b b refl)

-- frames of one block before others
blocks-front : (ring : Ring) (b : ℕ) (fs gs : List (ℕ × Picture)) → list_all (is_in ring b) fs ≡ true
    → NotFirst b (blocks_of ring gs)
    → blocks_of ring (fs ++ gs) ≡ cond (ltb 0 (length fs)) (b ∷ blocks_of ring gs) (blocks_of ring gs)
blocks-front ring b [] gs all new = refl
blocks-front ring b (f ∷ []) gs all new =
    let is : block ring f.0 ≡ b = equal (block ring f.0) b (both (is_in ring b f) true all).0 in
    ap (λ (c : ℕ). with_block c (blocks_of ring gs)) is ∙ with-new b (blocks_of ring gs) new
blocks-front ring b (f ∷ h ∷ fs) gs all new =
    let k = both (is_in ring b f) (list_all (is_in ring b) (h ∷ fs)) all in
    let is : block ring f.0 ≡ b = equal (block ring f.0) b k.0 in
    let rest = blocks-front ring b (h ∷ fs) gs k.1 new in
    let some : (n : ℕ) → ltb 0 (suc n) ≡ true = λ n. at_most_test 1 (suc n) (omega arith) in
    let pick : (n : ℕ) → cond (ltb 0 (suc n)) (b ∷ blocks_of ring gs) (blocks_of ring gs) ≡ b ∷ blocks_of ring gs =
    λ n. ap (λ (t : Bool). cond t (b ∷ blocks_of ring gs) (blocks_of ring gs)) (some n) in
    (λ i. with_block (is i) (rest i)) ∙ ap (with_block b) (pick (length fs)) ∙ with-same b (blocks_of ring gs) ∙ sym (pick (suc (length fs)))

-- the blocks of the segments with a frame
abbrev pub blocks_with : List Segment → List ℕ
blocks_with ss = map (λ s. s.block) (filter has_slot ss)

with-kept : (s : Segment) (ss : List Segment) → blocks_with (s ∷ ss) ≡ cond (has_slot s) (s.block ∷ blocks_with ss)
    (blocks_with ss)
with-kept s ss = go (has_slot s)
  where
    go : (t : Bool) → map (λ s. s.block) (cond t (s ∷ filter has_slot ss) (filter has_slot ss)) ≡ cond t
        (s.block ∷ blocks_with ss) (blocks_with ss)
    go true = refl
    go false = refl

above-first : (b : ℕ) (ss : List Segment) → AllAbove b ss → NotFirst b (blocks_with ss)
above-first b [] h = tt
above-first b (s ∷ ss) h = subst (NotFirst b) (sym (with-kept s ss)) (go (has_slot s) (above-first b ss h.1))
  where
    go : (t : Bool) → NotFirst b (blocks_with ss) → NotFirst b (cond t (s.block ∷ blocks_with ss) (blocks_with ss))
    go true rest = differ_test b s.block (λ e. absurd (omega (arith, e, h.0)))
    go false rest = rest

-- the blocks of all frames, in order, are those of the segments that have a frame
pub blocks-are : (g : Geometry) (ss : List Segment) → Rises ss → list_any (is_overfull g) ss ≡ false
    → blocks_of (ring_of g) (all_frames g ss) ≡ blocks_with ss
blocks-are g [] rises fits = refl
blocks-are g (s ∷ ss) rises fits =
    let k = neither (is_overfull g s) (list_any (is_overfull g) ss) fits in
    let rest = blocks-are g ss rises.1 k.1 in
    let new : NotFirst s.block (blocks_of (ring_of g) (all_frames g ss)) = subst (NotFirst s.block) (sym rest) (above-first s.block ss rises.0) in
    let count : length (frames_of g s) ≡ length s.slots = length-enumerate_from (s.block * g.slots)
    (map (λ t. t.picture) s.slots) ∙ length-map s.slots (λ t. t.picture) in
    blocks-front (ring_of g) s.block (frames_of g s) (all_frames g ss) (frames_in (ring_of g) g s refl k.0) new
    ∙ (λ i. cond (ltb 0 (count i)) (s.block ∷ rest i) (rest i))
    ∙ sym (with-kept s ss)

-- ---- the recording of an image

-- what is known of the sorted segments of an image
pub record Sorted (g : Geometry) (r : Recording) (image : List ℕ) : Type 0 where
  pub some : 1 ≤ g.slots
  pub rises : Rises (by_block (open_segments (parts_of g image).segments))
  pub fits : list_any (is_overfull g) (by_block (open_segments (parts_of g image).segments)) ≡ false
  pub frames : all_frames g (by_block (open_segments (parts_of g image).segments)) ≡ r.frames

pub sorted : (g : Geometry) (r : Recording) (image : List ℕ) → Holds g r image → Sorted g r image
sorted g r image e =
    let ps = (parts_of g image).segments in
    let was = reading-stages g r image e in
    let shown = shown_of g (by_block (open_segments ps)) (parts_of g image).clips r was.recording in
    record {
      some = (limits g (geometry-good g image was.geometry)).slots.0;
      rises = Rises-by_block (open_segments ps) (sym (repeats-by_block (open_segments ps)) ∙ shown.single);
      fits = overfull_none g image;
      frames = ap (λ (q : Recording). q.frames) shown.is;
    }

-- the held blocks are those of the segments that have a frame
pub held-are : (g : Geometry) (r : Recording) (image : List ℕ) → Holds g r image
    → held_blocks (ring_of g) r ≡ blocks_with (by_block (open_segments (parts_of g image).segments))
held-are g r image e =
    let s = sorted g r image e in
    blocks-made (ring_of g) r.frames ∙ ap (λ (fs : List (ℕ × Picture)). blocks_of (ring_of g) fs) (sym s.frames)
    ∙ blocks-are g (by_block (open_segments (parts_of g image).segments)) s.rises s.fits

-- and are counted by their headers
pub held-count : (g : Geometry) (r : Recording) (image : List ℕ) → Holds g r image
    → count_by has_frame (heads_of g image) ≡ length (held_blocks (ring_of g) r)
held-count g r image e =
    let ps = (parts_of g image).segments in
    let ss = by_block (open_segments ps) in
    ap (count_by has_frame) (heads-are g image) ∙ sym (length-filter has_frame (map head_of ps)) ∙ count-heads ps
    ∙ sym (count-by_block has_slot (open_segments ps))
    ∙ sym (length-map (filter has_slot ss) (λ s. s.block))
    ∙ ap (λ (bs : List ℕ). length bs) (sym (held-are g r image e))

-- ---- the held blocks from one on

-- the segment has a frame, and its block is b or above it
abbrev is_from : ℕ → Segment → Bool
is_from b s = has_slot s && leb b s.block

from-heads : (b : ℕ) (ps : List (Option Segment)) → count_by (leb b) (filter_map held_block (map head_of ps)) ≡ length
    (filter (is_from b) (open_segments ps))
from-heads b [] = refl
from-heads b (None ∷ ps) = from-heads b ps
from-heads b (Some s ∷ ps) = go (has_slot s) (leb b s.block) refl (from-heads b ps)
  where
    rest : List ℕ
    rest = filter_map held_block (map head_of ps)

    go : (t u : Bool) → leb b s.block ≡ u → count_by (leb b) rest ≡ length (filter (is_from b) (open_segments ps))
        → count_by (leb b) (cons_option (cond t (Some s.block) None) rest) ≡ length (cond (t && u)
        (s ∷ filter (is_from b) (open_segments ps)) (filter (is_from b) (open_segments ps)))
    go false u is ih = ih
    go true true is ih =
        let one : mark (leb b s.block) ≡ 1 = ap mark is in
        omega (arith, one, ih, sum_by-cons (λ c. mark (leb b c)) s.block rest)
    go true false is ih =
        let none : mark (leb b s.block) ≡ 0 = ap mark is in
        omega (arith, none, ih, sum_by-cons (λ c. mark (leb b c)) s.block rest)

from-blocks : (b : ℕ) (ss : List Segment) → count_by (leb b) (blocks_with ss) ≡ length (filter (is_from b) ss)
from-blocks b [] = refl
from-blocks b (s ∷ ss) = ap (count_by (leb b)) (with-kept s ss) ∙ go (has_slot s) (leb b s.block) refl (from-blocks b ss)
  where
    go : (t u : Bool) → leb b s.block ≡ u → count_by (leb b) (blocks_with ss) ≡ length (filter (is_from b) ss)
        → count_by (leb b) (cond t (s.block ∷ blocks_with ss) (blocks_with ss)) ≡ length (cond (t && u)
        (s ∷ filter (is_from b) ss) (filter (is_from b) ss))
    go false u is ih = ih
    go true true is ih =
        let one : mark (leb b s.block) ≡ 1 = ap mark is in
        omega (arith, one, ih, sum_by-cons (λ c. mark (leb b c)) s.block (blocks_with ss))
    go true false is ih =
        let none : mark (leb b s.block) ≡ 0 = ap mark is in
        omega (arith, none, ih, sum_by-cons (λ c. mark (leb b c)) s.block (blocks_with ss))

-- as many held blocks are from one block on as the headers say
pub from-counted : (g : Geometry) (r : Recording) (image : List ℕ) (b : ℕ) → Holds g r image
    → count_by (leb b) (filter_map held_block (heads_of g image)) ≡ count_by (leb b) (held_blocks (ring_of g) r)
from-counted g r image b e =
    let ps = (parts_of g image).segments in
    ap (λ (hs : List (Option SegmentHead)). count_by (leb b) (filter_map held_block hs)) (heads-are g image)
    ∙ from-heads b ps ∙ sym (count-by_block (is_from b) (open_segments ps))
    ∙ sym (from-blocks b (by_block (open_segments ps))) ∙ ap (count_by (leb b)) (sym (held-are g r image e))

-- ---- one held block

-- the entry has a frame of block b
abbrev pub is_held : ℕ → Option SegmentHead → Bool
is_held b None = false
is_held b (Some h) = eqb h.block b && ltb 0 h.frames

pub or_true : (a c : Bool) → c ≡ true → (a || c) ≡ true
or_true true c e = refl
or_true false c e = e

among-any : (b : ℕ) (ss : List Segment) → Among b (blocks_with ss)
    → list_any (λ s. eqb s.block b && has_slot s) ss ≡ true
among-any b [] e = elim e [ ]
among-any b (s ∷ ss) e = go (has_slot s) refl (λ k. among-any b ss k) (subst (Among b) (with-kept s ss) e)
  where
    go : (t : Bool) → has_slot s ≡ t
        → (Among b (blocks_with ss) → list_any (λ s. eqb s.block b && has_slot s) ss ≡ true)
        → Among b (cond t (s.block ∷ blocks_with ss) (blocks_with ss)) → list_any (λ s. eqb s.block b && has_slot s)
        (s ∷ ss) ≡ true
    go true is rest (inl same) =
        let block = equal_test s.block b same in
        λ i. (block i && is i) || list_any (λ s. eqb s.block b && has_slot s) ss
    go true is rest (inr k) = or_true (eqb s.block b && has_slot s) _ (rest k)
    go false is rest k = or_true (eqb s.block b && has_slot s) _ (rest k)

any-among : (b : ℕ) (ss : List Segment) → list_any (λ s. eqb s.block b && has_slot s) ss ≡ true
    → Among b (blocks_with ss)
any-among b [] e = absurd cc
any-among b (s ∷ ss) e = subst (Among b) (sym (with-kept s ss)) (go (has_slot s) (eqb s.block b) refl (λ k. any-among b ss k) e)
  where
    go : (t c : Bool) → eqb s.block b ≡ c
        → (list_any (λ s. eqb s.block b && has_slot s) ss ≡ true → Among b (blocks_with ss))
        → ((c && t) || list_any (λ s. eqb s.block b && has_slot s) ss) ≡ true
        → Among b (cond t (s.block ∷ blocks_with ss) (blocks_with ss))
    go true true is rest k = inl (equal s.block b is)
    go true false is rest k = inr (rest k)
    go false true is rest k = rest k
    go false false is rest k = rest k

any-held : (g : Geometry) (image : List ℕ) (b : ℕ) → list_any (is_held b) (heads_of g image) ≡ list_any
    (λ s. eqb s.block b && has_slot s) (by_block (open_segments (parts_of g image).segments))
any-held g image b =
    let ps = (parts_of g image).segments in
    ap (list_any (is_held b)) (heads-are g image) ∙ any-heads (is_held b) ps refl ∙ sym (any-by_block (λ s. eqb s.block b && has_slot s) (open_segments ps))

-- a held block is that of some entry with a frame, and the other way round
pub held-any : (g : Geometry) (r : Recording) (image : List ℕ) (b : ℕ) → Holds g r image
    → Among b (held_blocks (ring_of g) r) → list_any (is_held b) (heads_of g image) ≡ true
held-any g r image b e at = any-held g image b ∙ among-any b (by_block (open_segments (parts_of g image).segments)) (subst (Among b) (held-are g r image e) at)

pub any-held_block : (g : Geometry) (r : Recording) (image : List ℕ) (b : ℕ) → Holds g r image
    → list_any (is_held b) (heads_of g image) ≡ true → Among b (held_blocks (ring_of g) r)
any-held_block g r image b e any = subst (Among b) (sym (held-are g r image e))
    (any-among b (by_block (open_segments (parts_of g image).segments)) (sym (any-held g image b) ∙ any))

-- ---- one held number

under-appended : (fs gs : List (ℕ × Picture)) (n : ℕ) → is_some (frame_under (fs ++ gs) n) ≡
    (is_some (frame_under fs n) || is_some (frame_under gs n))
under-appended [] gs n = refl
under-appended (f ∷ fs) gs n = go (eqb f.0 n) (under-appended fs gs n)
  where
    go : (t : Bool) → is_some (frame_under (fs ++ gs) n) ≡ (is_some (frame_under fs n) || is_some (frame_under gs n))
        → is_some (cond t (Some f.1) (frame_under (fs ++ gs) n)) ≡
        (is_some (cond t (Some f.1) (frame_under fs n)) || is_some (frame_under gs n))
    go true h = refl
    go false h = h

-- two tests with the same answer
same_test : (a b : Bool) → (a ≡ true → b ≡ true) → (b ≡ true → a ≡ true) → a ≡ b
same_test true b f h = sym (f refl)
same_test false b f h = sym (untrue b (λ e. clash false (h e) refl))

under-enumerated : (m n : ℕ) (ps : List Picture) → is_some (frame_under (enumerate_from m ps) n) ≡
    (leb m n && ltb n (m + length ps))
under-enumerated m n [] = sym (untrue (leb m n && ltb n (m + 0)) (λ e. let k = both (leb m n) (ltb n (m + 0)) e in
    absurd (apart (at_most m n k.0) (at_most (suc n) (m + 0) k.1))))
  where
    apart : m ≤ n → suc n ≤ m + 0 → ⊥
    apart low high = omega (arith, low, high)
under-enumerated m n (p ∷ ps) = go (eqb m n) refl (under-enumerated (m + 1) n ps)
  where
    go : (t : Bool) → eqb m n ≡ t → is_some (frame_under (enumerate_from (m + 1) ps) n) ≡
        (leb (m + 1) n && ltb n (m + 1 + length ps))
        → is_some (cond t (Some p) (frame_under (enumerate_from (m + 1) ps) n)) ≡
        (leb m n && ltb n (m + suc (length ps)))
    go true is h =
        let same = equal m n is in
        let low : leb m n ≡ true = at_most_test m n (omega (arith, same)) in
        let high : ltb n (m + suc (length ps)) ≡ true = at_most_test (suc n) (m + suc (length ps)) (omega (arith, same)) in
        λ i. sym low i && sym high i
    go false is h =
        h ∙ same_test (leb (m + 1) n && ltb n (m + 1 + length ps)) (leb m n && ltb n (m + suc (length ps)))
        (λ e.
        let k = both (leb (m + 1) n) (ltb n (m + 1 + length ps)) e in
        let low : leb m n ≡ true = at_most_test m n (omega (arith, at_most (m + 1) n k.0)) in
        let high : ltb n (m + suc (length ps)) ≡ true = at_most_test (suc n) (m + suc (length ps)) (omega (arith, at_most (suc n) (m + 1 + length ps) k.1)) in
        λ i. low i && high i)
        (λ e.
        let k = both (leb m n) (ltb n (m + suc (length ps))) e in
        let low : leb (m + 1) n ≡ true = at_most_test (m + 1) n (above is (at_most m n k.0)) in
        let high : ltb n (m + 1 + length ps) ≡ true = at_most_test (suc n) (m + 1 + length ps) (omega (arith, at_most (suc n) (m + suc (length ps)) k.1)) in
        λ i. low i && high i)
      where
        above : eqb m n ≡ false → m ≤ n → m + 1 ≤ n
        above e l = grind (arith, nat_tests, e, l)

-- the frames of a segment are those of its block, up to its count
number-in : (slots b count n : ℕ) → 1 ≤ slots → count ≤ slots → (leb (b * slots) n && ltb n (b * slots + count)) ≡
    (eqb b (n / slots) && ltb (n % slots) count)
number-in slots b count n some few = same_test (leb (b * slots) n && ltb n (b * slots + count)) (eqb b (n / slots) && ltb (n % slots) count) to from
  where
    split : (b + 1) * slots ≡ b * slots + slots
    split = omega (arith, add-mul b 1 slots)

    to : (leb (b * slots) n && ltb n (b * slots + count)) ≡ true → (eqb b (n / slots) && ltb (n % slots) count) ≡ true
    to e =
        let k = both (leb (b * slots) n) (ltb n (b * slots + count)) e in
        let low = at_most (b * slots) n k.0 in
        let high = at_most (suc n) (b * slots + count) k.1 in
        let is : n / slots ≡ b = div-eq_of_lt-le slots low (omega (arith, high, few, split)) in
        let product : n / slots * slots ≡ b * slots = ap (λ (x : ℕ). x * slots) is in
        let first : eqb b (n / slots) ≡ true = equal_test b (n / slots) (sym is) in
        let second : ltb (n % slots) count ≡ true = at_most_test (suc (n % slots)) count (omega (arith, product, high, div-add-mod' n slots)) in
        λ i. first i && second i

    from : (eqb b (n / slots) && ltb (n % slots) count) ≡ true → (leb (b * slots) n && ltb n (b * slots + count)) ≡ true
    from e =
        let k = both (eqb b (n / slots)) (ltb (n % slots) count) e in
        let is = equal b (n / slots) k.0 in
        let high = at_most (suc (n % slots)) count k.1 in
        let product : b * slots ≡ n / slots * slots = ap (λ (x : ℕ). x * slots) is in
        let first : leb (b * slots) n ≡ true = at_most_test (b * slots) n (omega (arith, product, div-add-mod' n slots)) in
        let second : ltb n (b * slots + count) ≡ true = at_most_test (suc n) (b * slots + count) (omega (arith, product, high, div-add-mod' n slots)) in
        λ i. first i && second i

under-frames : (g : Geometry) (n : ℕ) (ss : List Segment) → 1 ≤ g.slots → list_any (is_overfull g) ss ≡ false
    → is_some (frame_under (all_frames g ss) n) ≡ list_any
    (λ s. eqb s.block (n / g.slots) && ltb (n % g.slots) (length s.slots)) ss
under-frames g n [] some fits = refl
under-frames g n (s ∷ ss) some fits =
    let k = neither (is_overfull g s) (list_any (is_overfull g) ss) fits in
    let rest = under-frames g n ss some k.1 in
    let here = under-enumerated (s.block * g.slots) n (map (λ t. t.picture) s.slots) in
    let count = length-map s.slots (λ t. t.picture) in
    let first = here ∙ (λ i. leb (s.block * g.slots) n && ltb n (s.block * g.slots + count i))
    ∙ number-in g.slots s.block (length s.slots) n some (not_below g.slots (length s.slots) k.0) in
    under-appended (frames_of g s) (all_frames g ss) n ∙ (λ i. first i || rest i)

-- the headers decide whether a number is held
pub held-number : (g : Geometry) (r : Recording) (image : List ℕ) (n : ℕ) → Holds g r image
    → list_any (has_number g.slots n) (heads_of g image) ≡ holds r n
held-number g r image n e =
    let ps = (parts_of g image).segments in
    let s = sorted g r image e in
    ap (list_any (has_number g.slots n)) (heads-are g image) ∙ any-heads (has_number g.slots n) ps refl
    ∙ sym (any-by_block (λ s. eqb s.block (n / g.slots) && ltb (n % g.slots) (length s.slots)) (open_segments ps))
    ∙ sym (under-frames g n (by_block (open_segments ps)) s.some s.fits)
    ∙ ap (λ (fs : List (ℕ × Picture)). is_some (frame_under fs n)) s.frames

-- ---- where none is closed

pub length-in_place : (s : Segment) (ss : List Segment) → length (in_place s ss) ≡ suc (length ss)
length-in_place s [] = refl
length-in_place s (t ∷ ts) = go (leb s.block t.block) (length-in_place s ts)
  where
    go : (c : Bool) → length (in_place s ts) ≡ suc (length ts)
        → length (cond c (s ∷ t ∷ ts) (t ∷ in_place s ts)) ≡ suc (suc (length ts))
    go true h = refl
    go false h = ap suc h

length-by_block : (ss : List Segment) → length (by_block ss) ≡ length ss
length-by_block [] = refl
length-by_block (s ∷ ss) = length-in_place s (by_block ss) ∙ ap suc (length-by_block ss)

all_opened : (ps : List (Option Segment)) → list_any (λ h. not (is_some h)) (map head_of ps) ≡ false
    → length (open_segments ps) ≡ length ps
all_opened [] e = refl
all_opened (None ∷ ps) e = absurd cc
all_opened (Some s ∷ ps) e = ap suc (all_opened ps e)

-- each has a frame, where none is of the next number's block
all_held : (g : Geometry) (ss : List Segment) → 1 ≤ g.slots → lacks_frame g ss ≡ false
    → has_block (next_after g ss / g.slots) ss ≡ false → length (filter has_slot ss) ≡ length ss
all_held g [] some full none = refl
all_held g (s ∷ []) some full none = go (has_slot s) refl
  where
    go : (t : Bool) → has_slot s ≡ t → length (cond t (s ∷ []) []) ≡ 1
    go true is = refl
    go false is =
        let zero : length s.slots ≡ 0 = omega (arith, not_below 0 (length s.slots) is) in
        let next : s.block * g.slots + length s.slots ≡ s.block * g.slots = omega (arith, zero) in
        let block : (s.block * g.slots + length s.slots) / g.slots ≡ s.block = ap (λ (n : ℕ). n / g.slots) next ∙ mul-div_cancel s.block some in
        absurd (differ s.block ((s.block * g.slots + length s.slots) / g.slots)
        (neither (eqb s.block ((s.block * g.slots + length s.slots) / g.slots)) false none).0 (sym block))
all_held g (s ∷ t ∷ ss) some full none =
    let f = neither (not (eqb (length s.slots) g.slots)) (lacks_frame g (t ∷ ss)) full in
    let n = neither (eqb s.block (next_after g (t ∷ ss) / g.slots)) (has_block (next_after g (t ∷ ss) / g.slots) (t ∷ ss)) none in
    let rest = all_held g (t ∷ ss) some f.1 n.1 in
    let count = equal (length s.slots) g.slots (not_false (eqb (length s.slots) g.slots) f.0) in
    let here : has_slot s ≡ true = at_most_test 1 (length s.slots) (omega (arith, count, some)) in
    ap (λ (c : Bool). length (cond c (s ∷ filter has_slot (t ∷ ss)) (filter has_slot (t ∷ ss)))) here ∙ ap suc rest

-- Where no segment has the next number's block and none is closed, the held frames lie in as many blocks as there are segments.
pub none-closed : (g : Geometry) (r : Recording) (image : List ℕ) → Holds g r image
    → position (is_of (r.next / g.slots)) (heads_of g image) ≡ None → position (λ h. not (is_some h))
    (heads_of g image) ≡ None
    → length (held_blocks (ring_of g) r) ≡ g.segments
none-closed g r image e missing closed =
    let ps = (parts_of g image).segments in
    let ss = by_block (open_segments ps) in
    let was = reading-stages g r image e in
    let shown = shown_of g ss (parts_of g image).clips r was.recording in
    let next : next_after g ss ≡ r.next = ap (λ (q : Recording). q.next) shown.is in
    let b = r.next / g.slots in
    let none : has_block b (open_segments ps) ≡ false = (newest-missing g r image e missing).0 in
    let apart : has_block (next_after g ss / g.slots) ss ≡ false = ap (λ (n : ℕ). has_block (n / g.slots) ss) next
    ∙ any-by_block (λ t. eqb t.block b) (open_segments ps) ∙ none in
    let whole : list_any (λ h. not (is_some h)) (map head_of ps) ≡ false = ap (list_any (λ h. not (is_some h)))
    (sym (heads-are g image)) ∙ position-none (λ h. not (is_some h)) (heads_of g image) closed in
    ap (λ (bs : List ℕ). length bs) (held-are g r image e) ∙ length-map (filter has_slot ss) (λ s. s.block)
    ∙ all_held g ss (limits g (geometry-good g image was.geometry)).slots.0 shown.full apart
    ∙ length-by_block (open_segments ps) ∙ all_opened ps whole ∙ segments_length g image
