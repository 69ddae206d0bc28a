-- What the headers of a store's segments say of its image: each segment's block and the count of its whole frames.
use Rattle.std.proofs.Common.{◌≡◌, ◌⊎◌, inl, inr, ℕ, zero, suc, ◌+◌, ◌*◌, ◌/◌, ◌%◌, ◌<◌, ◌≤◌, Bool, true, false, not, cond, eqb, ltb, is_some, Option, Some, None, List, [], ◌∷◌, ◌++◌, length, set, get_or, map, refl, sym, ap, ◌∙◌, arith}
use Rattle.std.proofs.Math.Nat.{add-mul, div-add-mod', div-eq_of_lt-le}
use Rattle.std.proofs.lemmas.Bool.{cases_lt}
use Rattle.std.proofs.lemmas.Bool.Decides.{nat_tests}
use Rattle.std.proofs.lemmas.List.{length-append, length-map, map-set, get_or-map, get_or_past}
use Rattle.std.proofs.lemmas.List.Folds.{list_any_at}
use Rattle.std.proofs.lemmas.List.Quantifiers.{position-Some}
use Rattle.std.proofs.lemmas.Simd.{map-map}
use Rattle.std.specs.Prelude.{◌||◌}
use Rattle.std.specs.List.{list_any, position, position_or_len, range_with_len}
use Rattle.loop_record.specs.declared.geometry.Geometry.{Geometry}
use Rattle.loop_record.specs.declared.segment.SegmentHead.{SegmentHead}
use Rattle.loop_record.specs.Change.{ShowsSegment}
use Rattle.loop_record.specs.Geometry.{frame_bytes, segment_at}
use Rattle.loop_record.specs.Layout.{Slot, Segment, is_open, whole_frames, segment_in, header_at}
use Rattle.loop_record.specs.Recording.{Picture, Recording}
use Rattle.loop_record.specs.Reading.{open_segments, by_block, next_after, repeats, Holds}
use Rattle.loop_record.specs.Parts.{parts_of}
use Rattle.loop_record.proofs.Bounds.{limits}
use Rattle.loop_record.proofs.Changes.{shown_of, is_overfull}
use Rattle.loop_record.proofs.TestFacts.{clash, neither, equal, equal_test, differ, not_below}
use Rattle.loop_record.proofs.OwnBytes.{map_range}
use Rattle.loop_record.proofs.Parts.{parts-shows, reading-stages, geometry-good}
use Rattle.loop_record.proofs.Readings.{length-range, segments_length, segment_there, overfull_none, reading-newest, whole-length}
use Rattle.loop_record.proofs.Segments.{has_block, any-by_block, repeats-by_block}
use Rattle.loop_ring.specs.Heads.{heads_of, is_of}
use Rattle.loop_ring.specs.Writes.{slots_of, with_more, ShowsFrames}

-- ---- a header and its segment

-- what the header of a segment says
abbrev pub head_of : Option Segment → Option SegmentHead
head_of None = None
head_of (Some s) = Some (record { block = s.block; frames = length s.slots })

pub head-is : (g : Geometry) (image : List ℕ) (j : ℕ) → header_at g image (segment_at g j) ≡ head_of
    (segment_in g image j)
head-is g image j = go (is_open image (segment_at g j)) _ _
  where
    go : (t : Bool) (b : ℕ) (f : ℕ → Slot) → cond t (Some (record { block = b; frames = whole_frames g image j }))
        None ≡ head_of (cond t (Some (record {
          block = b;
          slots =
              map f (range_with_len 0 (whole_frames g image j));
        })) None)
    go true b f =
        let count : length (map f (range_with_len 0 (whole_frames g image j))) ≡ whole_frames g image j =
        length-map (range_with_len 0 (whole_frames g image j)) f ∙ length-range 0 (whole_frames g image j) in
        λ i. Some (record { block = b; frames = sym count i })
    go false b f = refl

pub heads-are : (g : Geometry) (image : List ℕ) → heads_of g image ≡ map head_of (parts_of g image).segments
heads-are g image =
    map_range (λ j. header_at g image (segment_at g j)) (λ j. head_of (segment_in g image j)) 0 g.segments (λ j low high. head-is g image j)
    ∙ sym (map-map head_of (segment_in g image) (range_with_len 0 g.segments))

pub heads-length : (g : Geometry) (image : List ℕ) → length (heads_of g image) ≡ g.segments
heads-length g image = length-map (range_with_len 0 g.segments) (λ j. header_at g image (segment_at g j)) ∙ length-range 0 g.segments

-- what is at a place of the list
pub head-there : (g : Geometry) (image : List ℕ) (j : ℕ) → j < g.segments → get_or (heads_of g image) j None ≡ head_of
    (segment_in g image j)
head-there g image j l =
    ap (λ (hs : List (Option SegmentHead)). get_or hs j None) (heads-are g image)
    ∙ get_or-map head_of (parts_of g image).segments j None None (omega (arith, l, segments_length g image))
    ∙ ap head_of (segment_there g image j l)

block_said : Option SegmentHead → ℕ
block_said None = 0
block_said (Some h) = h.block

frames_said : Option SegmentHead → ℕ
frames_said None = 0
frames_said (Some h) = h.frames

-- a segment that is open by its header
pub head-block : (s : Segment) (h : SegmentHead) → head_of (Some s) ≡ Some h → s.block ≡ h.block
unfolding block_said
head-block s h e = ap block_said e

pub head-frames : (s : Segment) (h : SegmentHead) → head_of (Some s) ≡ Some h → length s.slots ≡ h.frames
unfolding frames_said
head-frames s h e = ap frames_said e

pub head-some : (o : Option Segment) (h : SegmentHead) → head_of o ≡ Some h → (s : Segment)
    × ((o ≡ Some s) × ((s.block ≡ h.block) × (length s.slots ≡ h.frames)))
head-some None h e = absurd cc
head-some (Some s) h e = (s, (refl, (head-block s h e, head-frames s h e)))

pub head-none : (o : Option Segment) → head_of o ≡ None → o ≡ None
head-none None e = refl
head-none (Some s) e = absurd cc

-- ---- a segment that has changed

-- one entry changes with it
pub heads-shown : (g : Geometry) (j : ℕ) (part : Option Segment) (old new : List ℕ) → g.slots ≤ 256 → j < g.segments
    → ShowsSegment g j part old new → heads_of g new ≡ set (heads_of g old) j (head_of part)
heads-shown g j part old new few l shows =
    heads-are g new ∙ ap (λ p. map head_of p.segments) (parts-shows g j part old new few l shows)
    ∙ map-set head_of (parts_of g old).segments j part
    ∙ ap (λ (hs : List (Option SegmentHead)). set hs j (head_of part)) (sym (heads-are g old))

-- ---- tests of a list of headers

-- an entry that is there
pub there : {X : Type 0} (xs : List (Option X)) (j : ℕ) (x : X) → get_or xs j None ≡ Some x → j < length xs
there {X} xs j x e = go (cases_lt j (length xs))
  where
    go : (j < length xs) ⊎ (length xs ≤ j) → j < length xs
    go (inl l) = l
    go (inr l) = absurd (clash' (sym (get_or_past xs j None l) ∙ e))
      where
        clash' : (let o : Option X = None in o) ≡ Some x → ⊥
        clash' e = absurd cc

-- what some segment passes, some entry does
pub any-heads : (q : Option SegmentHead → Bool) (ps : List (Option Segment)) → q None ≡ false
    → list_any q (map head_of ps) ≡ list_any (λ s. q (head_of (Some s))) (open_segments ps)
any-heads q [] none = refl
any-heads q (None ∷ ps) none = ap (λ (t : Bool). t || list_any q (map head_of ps)) none ∙ any-heads q ps none
any-heads q (Some s ∷ ps) none = ap (λ (t : Bool). q (head_of (Some s)) || t) (any-heads q ps none)

-- an entry that passes
pub any-index : {X : Type 0} (p : Option X → Bool) (xs : List (Option X)) → list_any p xs ≡ true → (k : ℕ)
    × ((k < length xs) × (p (get_or xs k None) ≡ true))
any-index {X} p [] e = absurd cc
any-index {X} p (x ∷ xs) e = go (p x) refl (λ r. any-index p xs r) e
  where
    go : (t : Bool) → p x ≡ t → (list_any p xs ≡ true → (k : ℕ) × ((k < length xs) × (p (get_or xs k None) ≡ true)))
        → (t || list_any p xs) ≡ true → (k : ℕ) × ((k < length (x ∷ xs)) × (p (get_or (x ∷ xs) k None) ≡ true))
    go true is rest e = (0, (omega arith, is))
    go false is rest e = let k = rest e in (suc k.0, (omega (arith, k.1.0), k.1.1))

any-below : {X : Type 0} (p : X → Bool) (xs : List X) → list_any p xs ≡ true → position_or_len p xs < length xs
any-below p [] e = absurd cc
any-below {X} p (x ∷ xs) e = go (p x) (λ r. any-below p xs r) e
  where
    go : (t : Bool) → (list_any p xs ≡ true → position_or_len p xs < length xs) → (t || list_any p xs) ≡ true
        → cond (not t) (1 + position_or_len p xs) 0 < suc (length xs)
    go true rest e = omega arith
    go false rest e = omega (arith, rest e)

-- nothing is found where nothing passes
pub position-none : {X : Type 0} (p : X → Bool) (xs : List X) → position p xs ≡ None → list_any p xs ≡ false
position-none {X} p xs e = go (list_any p xs) refl
  where
    pos : ℕ
    pos = position_or_len p xs

    miss : (t : Bool) → ltb pos (length xs) ≡ t → cond t (Some pos) None ≡ None → pos < length xs → ⊥
    miss true is e l = absurd cc
    miss false is e l = absurd (below is l)
      where
        below : ltb pos (length xs) ≡ false → pos < length xs → ⊥
        below is l = grind (arith, nat_tests, is, l)

    go : (t : Bool) → list_any p xs ≡ t → list_any p xs ≡ false
    go true is = absurd (miss (ltb pos (length xs)) refl e (any-below p xs is))
    go false is = is

-- ---- one block, one entry

of_block : (b : ℕ) (o : Option SegmentHead) (h : SegmentHead) → o ≡ Some h → h.block ≡ b → is_of b o ≡ true
of_block b o h e is = ap (is_of b) e ∙ equal_test h.block b is

-- no entry has a block that no segment has
none-of : (ps : List (Option Segment)) (b j : ℕ) (k : SegmentHead) → get_or (map head_of ps) j None ≡ Some k
    → has_block b (open_segments ps) ≡ false → k.block ≡ b → ⊥
none-of ps b j k at none is =
    clash (list_any (is_of b) (map head_of ps))
    (list_any_at (is_of b) (map head_of ps) j None (there (map head_of ps) j k at) (of_block b (get_or (map head_of ps) j None) k at is))
    (any-heads (is_of b) ps refl ∙ none)

single : (ps : List (Option Segment)) (i j : ℕ) (h k : SegmentHead) → repeats (open_segments ps) ≡ false
    → get_or (map head_of ps) i None ≡ Some h → get_or (map head_of ps) j None ≡ Some k → h.block ≡ k.block → i ≡ j
single [] i j h k e a b same = absurd (omega (arith, there (map head_of []) i h a))
single (None ∷ ps) zero j h k e a b same = absurd cc
single (None ∷ ps) (suc i) zero h k e a b same = absurd cc
single (None ∷ ps) (suc i) (suc j) h k e a b same = ap suc (single ps i j h k e a b same)
single (Some s ∷ ps) zero zero h k e a b same = refl
single (Some s ∷ ps) zero (suc j) h k e a b same =
    absurd (none-of ps s.block j k b (neither (has_block s.block (open_segments ps)) (repeats (open_segments ps)) e).0 (sym same ∙ sym (head-block s h a)))
single (Some s ∷ ps) (suc i) zero h k e a b same =
    absurd (none-of ps s.block i h a (neither (has_block s.block (open_segments ps)) (repeats (open_segments ps)) e).0 (same ∙ sym (head-block s k b)))
single (Some s ∷ ps) (suc i) (suc j) h k e a b same =
    ap suc (single ps i j h k (neither (has_block s.block (open_segments ps)) (repeats (open_segments ps)) e).1 a b
    same)

-- no two entries have one block
pub one-entry : (g : Geometry) (r : Recording) (image : List ℕ) (i j : ℕ) (h k : SegmentHead) → Holds g r image
    → get_or (heads_of g image) i None ≡ Some h → get_or (heads_of g image) j None ≡ Some k → h.block ≡ k.block → i ≡ j
one-entry g r image i j h k e a b same =
    let ps = (parts_of g image).segments in
    let was = reading-stages g r image e in
    let apart = (shown_of g (by_block (open_segments ps)) (parts_of g image).clips r was.recording).single in
    let is = heads-are g image in
    single ps i j h k (sym (repeats-by_block (open_segments ps)) ∙ apart)
    (ap (λ (hs : List (Option SegmentHead)). get_or hs i None) (sym is) ∙ a)
    (ap (λ (hs : List (Option SegmentHead)). get_or hs j None) (sym is) ∙ b) same

-- ---- the newest segment

-- how many whole frames the last segment has, if none is of the next number's block
full_next : (g : Geometry) (ss : List Segment) → 1 ≤ g.slots → list_any (is_overfull g) ss ≡ false
    → has_block (next_after g ss / g.slots) ss ≡ false → next_after g ss % g.slots ≡ 0
full_next g [] some fits none = omega arith
full_next g (s ∷ []) some fits none = go (cases_lt (length s.slots) g.slots)
  where
    next : ℕ
    next = s.block * g.slots + length s.slots

    most : length s.slots ≤ g.slots
    most = not_below g.slots (length s.slots) (neither (is_overfull g s) false fits).0

    split : (s.block + 1) * g.slots ≡ s.block * g.slots + g.slots
    split = omega (arith, add-mul s.block 1 g.slots)

    go : (length s.slots < g.slots) ⊎ (g.slots ≤ length s.slots) → next % g.slots ≡ 0
    go (inl l) =
        let is : next / g.slots ≡ s.block = div-eq_of_lt-le g.slots (omega arith) (omega (arith, split, l)) in
        absurd (differ s.block (next / g.slots) (neither (eqb s.block (next / g.slots)) false none).0 (sym is))
    go (inr l) =
        let is : next / g.slots ≡ s.block + 1 = div-eq_of_lt-le g.slots (omega (arith, split, l))
        (omega (arith, split, l, most, some, add-mul (s.block + 1) 1 g.slots)) in
        let product : next / g.slots * g.slots ≡ (s.block + 1) * g.slots = ap (λ (b : ℕ). b * g.slots) is in
        omega (arith, product, split, l, most, div-add-mod' next g.slots)
full_next g (s ∷ t ∷ ss) some fits none =
    full_next g (t ∷ ss) some (neither (is_overfull g s) (list_any (is_overfull g) (t ∷ ss)) fits).1
    (neither (eqb s.block (next_after g (t ∷ ss) / g.slots))
    (has_block (next_after g (t ∷ ss) / g.slots) (t ∷ ss)) none).1

-- what is found for the block of the next number: its segment, with the frames before that number
pub record Newest (g : Geometry) (r : Recording) (image : List ℕ) (j : ℕ) : Type 0 where
  pub within : j < g.segments
  pub head : get_or (heads_of g image) j None ≡ Some (record { block = r.next / g.slots; frames = r.next % g.slots })
  pub segment : Segment
  pub is : segment_in g image j ≡ Some segment
  pub block : segment.block ≡ r.next / g.slots
  pub whole : whole_frames g image j ≡ r.next % g.slots

pub newest-found : (g : Geometry) (r : Recording) (image : List ℕ) (j : ℕ) → Holds g r image
    → position (is_of (r.next / g.slots)) (heads_of g image) ≡ Some j → Newest g r image j
newest-found g r image j e found = go (get_or (heads_of g image) j None) refl at.1
  where
    at : (j < length (heads_of g image)) × (is_of (r.next / g.slots) (get_or (heads_of g image) j None) ≡ true)
        × ((k : ℕ) → k < j → is_of (r.next / g.slots) (get_or (heads_of g image) k None) ≡ false)
    at = position-Some (is_of (r.next / g.slots)) (heads_of g image) j None found

    within : j < g.segments
    within = omega (arith, at.0, heads-length g image)

    go : (o : Option SegmentHead) → get_or (heads_of g image) j None ≡ o → is_of (r.next / g.slots) o ≡ true
        → Newest g r image j
    go None head is = absurd cc
    go (Some h) head is =
        let block : h.block ≡ r.next / g.slots = equal h.block (r.next / g.slots) is in
        let s = head-some (segment_in g image j) h (sym (head-there g image j within) ∙ head) in
        let same : s.0.block ≡ r.next / g.slots = s.1.1.0 ∙ block in
        let whole = reading-newest g r image j s.0 e within s.1.0 same in
        let frames : h.frames ≡ r.next % g.slots = sym s.1.1.1 ∙ sym (whole-length g image j s.0 s.1.0) ∙ whole in
        record {
          within = within;
          head = head ∙ (λ i. Some (record { block = block i; frames = frames i }));
          segment = s.0;
          is = s.1.0;
          block = same;
          whole = whole;
        }

-- where nothing is found, no segment has the block, and the next number is the first of it
pub newest-missing : (g : Geometry) (r : Recording) (image : List ℕ) → Holds g r image
    → position (is_of (r.next / g.slots)) (heads_of g image) ≡ None
    → (has_block (r.next / g.slots) (open_segments (parts_of g image).segments) ≡ false) × (r.next % g.slots ≡ 0)
newest-missing g r image e missing =
    let ps = (parts_of g image).segments in
    let was = reading-stages g r image e in
    let shown = shown_of g (by_block (open_segments ps)) (parts_of g image).clips r was.recording in
    let next : next_after g (by_block (open_segments ps)) ≡ r.next = ap (λ (q : Recording). q.next) shown.is in
    let b = r.next / g.slots in
    let none : has_block b (open_segments ps) ≡ false = sym (any-heads (is_of b) ps refl)
    ∙ ap (list_any (is_of b)) (sym (heads-are g image)) ∙ position-none (is_of b) (heads_of g image) missing in
    let none' : has_block (next_after g (by_block (open_segments ps)) / g.slots) (by_block (open_segments ps)) ≡ false =
    ap (λ (n : ℕ). has_block (n / g.slots) (by_block (open_segments ps))) next ∙ any-by_block (λ t. eqb t.block b) (open_segments ps) ∙ none in
    let full = full_next g (by_block (open_segments ps)) (limits g (geometry-good g image was.geometry)).slots.0 (overfull_none g image) none' in
    (none, ap (λ (n : ℕ). n % g.slots) (sym next) ∙ full)

-- ---- a segment that gains frames

length-slots_of : (n number : ℕ) (ps : List Picture) → length (slots_of n number ps) ≡ length ps
length-slots_of n number [] = refl
length-slots_of n number (p ∷ ps) = ap suc (length-slots_of n (number + 1) ps)

-- its entry counts them
pub heads-committed : (g : Geometry) (j number : ℕ) (h : SegmentHead) (frames : List Picture) (old new : List ℕ)
    → g.slots ≤ 256 → j < g.segments → get_or (heads_of g old) j None ≡ Some h → ShowsFrames g j number frames old new
    → heads_of g new ≡ set (heads_of g old) j (Some (record { block = h.block; frames = h.frames + length frames }))
heads-committed g j number h frames old new few l is shows =
    let s = head-some (segment_in g old j) h (sym (head-there g old j l) ∙ is) in
    let more = slots_of (frame_bytes g) number frames in
    let count : length (s.0.slots ++ more) ≡ h.frames + length frames =
    omega (arith, length-append s.0.slots more, s.1.1.1, length-slots_of (frame_bytes g) number frames) in
    let head : head_of (with_more more (segment_in g old j)) ≡ Some (record { block = h.block; frames = h.frames + length frames }) =
    ap (λ (o : Option Segment). head_of (with_more more o)) s.1.0 ∙ (λ i. Some (record { block = s.1.1.0 i; frames = count i })) in
    heads-shown g j (with_more more (segment_in g old j)) old new few l shows ∙ ap (λ (o : Option SegmentHead). set (heads_of g old) j o) head

-- ---- a closed segment

not_some : {X : Type 0} (o : Option X) → not (is_some o) ≡ true → o ≡ None
not_some None e = refl
not_some (Some x) e = absurd cc

-- what is found is closed
pub closed-found : (g : Geometry) (image : List ℕ) (j : ℕ) → position (λ h. not (is_some h))
    (heads_of g image) ≡ Some j → (j < g.segments) × (segment_in g image j ≡ None)
closed-found g image j found =
    let at = position-Some (λ (h : Option SegmentHead). not (is_some h)) (heads_of g image) j None found in
    let within : j < g.segments = omega (arith, at.0, heads-length g image) in
    (within, head-none (segment_in g image j) (sym (head-there g image j within) ∙ not_some (get_or (heads_of g image) j None) at.1))
