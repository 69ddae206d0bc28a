-- What an image reads as after one segment of it has changed.
use Rattle.std.proofs.Common.{◌≡◌, ℕ, zero, suc, ◌+◌, ◌*◌, ◌/◌, ◌%◌, ◌<◌, ◌≤◌, Bool, true, false, cond, Option, Some, None, Ok, List, [], ◌∷◌, ◌++◌, length, set, get_or, map, refl, sym, ap, ◌∙◌, arith}
use Rattle.std.proofs.Math.Nat.{div-lt_iff_lt-mul, div-add-mod'}
use Rattle.std.proofs.lemmas.Bool.Decides.{nat_tests}
use Rattle.std.proofs.lemmas.List.{length-map, set-get_or}
use Rattle.std.specs.Prelude.{◌||◌}
use Rattle.std.specs.List.{list_any, range_with_len}
use Rattle.loop_record.specs.declared.geometry.Geometry.{Geometry}
use Rattle.loop_record.specs.Geometry.{frame_bytes, gate_at}
use Rattle.loop_record.specs.Recording.{Recording, store, recycle, plain, after_step, victim, ring_of}
use Rattle.loop_record.specs.Layout.{Slot, Segment, segment_in, whole_frames, is_open}
use Rattle.loop_record.specs.Reading.{open_segments, by_block, repeats, recording_or_damage, reading, empty_segment}
use Rattle.loop_record.specs.Parts.{is_high, parts_of}
use Rattle.loop_record.specs.Change.{ShowsSegment}
use Rattle.loop_record.proofs.Bounds.{limits}
use Rattle.loop_record.proofs.OwnBytes.{prefix_range-le}
use Rattle.loop_record.proofs.Parts.{these, reading-stages, geometry-good, reading-shows}
use Rattle.loop_record.proofs.Segments.{placed, placed_there, has_block, any-by_block, repeats-by_block}
use Rattle.loop_record.proofs.Changes.{shown_of, is_overfull, checked-commit, newest-next, checked-begin}
use Rattle.loop_record.proofs.WithoutBlock.{checked-retire}
use Rattle.loop_record.proofs.Names.{hold_from}

-- ---- the options that an image's segments are

pub length-range : (lo n : ℕ) → length (range_with_len lo n) ≡ n
length-range lo zero = refl
length-range lo (suc n) = omega (arith, length-range (lo + 1) n)

pub get_or-map_range : {X : Type 0} (f : ℕ → X) (lo n j : ℕ) (d : X) → j < n
    → get_or (map f (range_with_len lo n)) j d ≡ f (lo + j)
get_or-map_range f lo zero j d l = absurd (omega (arith, l))
get_or-map_range f lo (suc n) zero d l = ap f (omega arith)
get_or-map_range f lo (suc n) (suc j) d l = get_or-map_range f (lo + 1) n j d (omega (arith, l)) ∙ ap f (omega arith)

pub segments_length : (g : Geometry) (image : List ℕ) → length (parts_of g image).segments ≡ g.segments
segments_length g image = omega (arith, length-map (range_with_len 0 g.segments) (segment_in g image), length-range 0 g.segments)

pub segment_there : (g : Geometry) (image : List ℕ) (j : ℕ) → j < g.segments
    → get_or (parts_of g image).segments j None ≡ segment_in g image j
segment_there g image j l =
    let at : 0 + j ≡ j = omega arith in
    get_or-map_range (segment_in g image) 0 g.segments j None l ∙ ap (segment_in g image) at

opened_fit : (g : Geometry) (image : List ℕ) (lo n : ℕ) → list_any (is_overfull g) (open_segments (map (segment_in g image) (range_with_len lo n))) ≡ false
opened_fit g image lo zero = refl
opened_fit g image lo (suc n) = go (segment_in g image lo) (one lo) (opened_fit g image (lo + 1) n)
  where
    fits : (o : Option Segment) → Type 0
    fits None = Unit {0}
    fits (Some s) = is_overfull g s ≡ false

    one : (i : ℕ) → fits (segment_in g image i)
    one i = cases (is_open image _) _ _ most
      where
        most : length (range_with_len 0 (whole_frames g image i)) ≤ g.slots
        most = omega (arith, length-range 0 (whole_frames g image i), prefix_range-le (λ k. is_open image (gate_at g i k)) 0 g.slots)

        cases : (t : Bool) (b : ℕ) (f : ℕ → Slot) → length (range_with_len 0 (whole_frames g image i)) ≤ g.slots
            → fits (cond t (Some (record { block = b; slots = map f (range_with_len 0 (whole_frames g image i)) }))
            None)
        cases true b f le =
            let same = length-map (range_with_len 0 (whole_frames g image i)) f in
            let le' : length (map f (range_with_len 0 (whole_frames g image i))) ≤ g.slots = omega (arith, same, le) in
            grind (arith, nat_tests, le')
        cases false b f le = tt

    go : (o : Option Segment) → fits o
        → list_any (is_overfull g) (open_segments (map (segment_in g image) (range_with_len (lo + 1) n))) ≡ false
        → list_any (is_overfull g) (open_segments (o ∷ map (segment_in g image) (range_with_len (lo + 1) n))) ≡ false
    go None f rest = rest
    go (Some s) f rest = λ i. f i || rest i

-- no segment of an image has more slots than there are
pub overfull_none : (g : Geometry) (image : List ℕ)
    → list_any (is_overfull g) (by_block (open_segments (parts_of g image).segments)) ≡ false
overfull_none g image = any-by_block (is_overfull g) (open_segments (parts_of g image).segments) ∙ opened_fit g image 0 g.segments

-- ---- commit

-- Where the segment of the next number has gained slots with the next frames, the image reads as the recording with those frames stored.
pub reading-commit : (g : Geometry) (r : Recording) (old new : List ℕ) (j : ℕ) (u : Segment) (ts : List Slot)
    → reading old ≡ Ok (these g r) → j < g.segments → segment_in g old j ≡ Some u → u.block ≡ r.next / g.slots → hold_from (frame_bytes g) r.next ts ≡ true
    → ShowsSegment g j (Some (record u { slots = u.slots ++ ts })) old new
    → reading new ≡ Ok (these g (plain (ring_of g) r (map store (map (λ t. t.picture) ts))))
reading-commit g r old new j u ts e l there newest hold shows =
    let ps = (parts_of g old).segments in
    let clips = (parts_of g old).clips in
    let was = reading-stages g r old e in
    let limit = limits g (geometry-good g old was.geometry) in
    let is : get_or ps j None ≡ Some u = segment_there g old j l ∙ there in
    let single = (shown_of g (by_block (open_segments ps)) clips r was.recording).single in
    let p = placed_there u j ps (omega (arith, l, segments_length g old)) is single in
    let whole : set ps j (Some u) ≡ ps = sym (ap (λ (q : Option Segment). set ps j q) is) ∙ set-get_or ps j None in
    let sorted : by_block (open_segments ps) ≡ p.lower ++ u ∷ p.higher = sym (ap (λ qs. by_block (open_segments qs)) whole) ∙ p.with_it u refl in
    let before : recording_or_damage g (p.lower ++ u ∷ p.higher) clips ≡ Ok r = sym (ap (λ ss. recording_or_damage g ss clips) sorted) ∙ was.recording in
    let room : r.next < (u.block + 1) * g.slots = (div-lt_iff_lt-mul limit.slots.0).0 (omega (arith, newest)) in
    let after' = checked-commit (ring_of g) g ts u p.lower p.higher clips r p.above room hold before in
    reading-shows g r (plain (ring_of g) r (map store (map (λ t. t.picture) ts))) j (Some (record u { slots = u.slots ++ ts })) old new e l shows
    (ap (λ ss. recording_or_damage g ss clips) (p.with_it (record u { slots = u.slots ++ ts }) refl) ∙ after')

-- ---- begin

-- Where a closed segment has become an empty one of the next number's block, the image reads as before.
pub reading-begin : (g : Geometry) (r : Recording) (old new : List ℕ) (j b : ℕ)
    → reading old ≡ Ok (these g r) → j < g.segments → segment_in g old j ≡ None
    → has_block b (open_segments (parts_of g old).segments) ≡ false → r.next ≡ b * g.slots → is_high g (empty_segment b) ≡ false
    → ShowsSegment g j (Some (empty_segment b)) old new
    → reading new ≡ Ok (these g r)
reading-begin g r old new j b e l there apart next low shows =
    let ps = (parts_of g old).segments in
    let clips = (parts_of g old).clips in
    let was = reading-stages g r old e in
    let limit = limits g (geometry-good g old was.geometry) in
    let is : get_or ps j None ≡ None = segment_there g old j l ∙ there in
    let single = (shown_of g (by_block (open_segments ps)) clips r was.recording).single in
    let whole : set ps j None ≡ ps = sym (ap (λ (q : Option Segment). set ps j q) is) ∙ set-get_or ps j None in
    let p = placed b j ps (omega (arith, l, segments_length g old)) (ap (λ qs. has_block b (open_segments qs)) whole
    ∙ apart) (ap (λ qs. repeats (open_segments qs)) whole ∙ sym (repeats-by_block (open_segments ps)) ∙ single) in
    let sorted : by_block (open_segments ps) ≡ p.lower ++ p.higher = sym (ap (λ qs. by_block (open_segments qs)) whole) ∙ p.without in
    let before : recording_or_damage g (p.lower ++ p.higher) clips ≡ Ok r = sym (ap (λ ss. recording_or_damage g ss clips) sorted) ∙ was.recording in
    let fits : list_any (is_overfull g) (p.lower ++ p.higher) ≡ false = sym (ap (list_any (is_overfull g)) sorted) ∙ overfull_none g old in
    let after' = checked-begin g b p.lower p.higher clips r limit.slots.0 p.below p.above fits next low before in
    reading-shows g r r j (Some (empty_segment b)) old new e l shows (ap (λ ss. recording_or_damage g ss clips) (p.with_it (empty_segment b) refl) ∙ after')

-- ---- retire

-- Where the victim's segment has closed, the image reads as the recording without it.
pub reading-retire : (g : Geometry) (keep : ℕ) (r : Recording) (old new : List ℕ) (j : ℕ) (u : Segment)
    → reading old ≡ Ok (these g r) → j < g.segments → segment_in g old j ≡ Some u → victim (ring_of g) keep r ≡ Some u.block
    → ShowsSegment g j None old new
    → reading new ≡ Ok (these g (after_step (ring_of g) r (recycle u.block)))
reading-retire g keep r old new j u e l there chosen shows =
    let ps = (parts_of g old).segments in
    let clips = (parts_of g old).clips in
    let was = reading-stages g r old e in
    let limit = limits g (geometry-good g old was.geometry) in
    let is : get_or ps j None ≡ Some u = segment_there g old j l ∙ there in
    let single = (shown_of g (by_block (open_segments ps)) clips r was.recording).single in
    let p = placed_there u j ps (omega (arith, l, segments_length g old)) is single in
    let whole : set ps j (Some u) ≡ ps = sym (ap (λ (q : Option Segment). set ps j q) is) ∙ set-get_or ps j None in
    let sorted : by_block (open_segments ps) ≡ p.lower ++ u ∷ p.higher = sym (ap (λ qs. by_block (open_segments qs)) whole) ∙ p.with_it u refl in
    let before : recording_or_damage g (p.lower ++ u ∷ p.higher) clips ≡ Ok r = sym (ap (λ ss. recording_or_damage g ss clips) sorted) ∙ was.recording in
    let fits : list_any (is_overfull g) (p.lower ++ u ∷ p.higher) ≡ false = sym (ap (list_any (is_overfull g)) sorted) ∙ overfull_none g old in
    let after' = checked-retire (ring_of g) g keep u p.lower p.higher clips r refl limit.slots.0 p.below p.above fits chosen before in
    reading-shows g r (after_step (ring_of g) r (recycle u.block)) j None old new e l shows (ap (λ ss. recording_or_damage g ss clips) p.without ∙ after')

-- ---- nothing

-- Where the segment is as it was, the image reads as before.
pub reading-same : (g : Geometry) (r : Recording) (old new : List ℕ) (j : ℕ) → reading old ≡ Ok (these g r)
    → j < g.segments → ShowsSegment g j (segment_in g old j) old new → reading new ≡ Ok (these g r)
reading-same g r old new j e l shows =
    let ps = (parts_of g old).segments in
    let clips = (parts_of g old).clips in
    let whole : set ps j (segment_in g old j) ≡ ps = ap (λ (q : Option Segment). set ps j q) (sym (segment_there g old j l)) ∙ set-get_or ps j None in
    reading-shows g r r j (segment_in g old j) old new e l shows
    (ap (λ qs. recording_or_damage g (by_block (open_segments qs)) clips) whole
    ∙ (reading-stages g r old e).recording)

-- an open segment has a slot for each whole frame
pub whole-length : (g : Geometry) (image : List ℕ) (j : ℕ) (u : Segment) → segment_in g image j ≡ Some u
    → whole_frames g image j ≡ length u.slots
whole-length g image j u e = go (is_open image _) _ _ e
  where
    go : (t : Bool) (b : ℕ) (f : ℕ → Slot)
        → cond t (Some (record { block = b; slots = map f (range_with_len 0 (whole_frames g image j)) })) None ≡ Some
        u → whole_frames g image j ≡ length u.slots
    go true b f e =
        let same = length-map (range_with_len 0 (whole_frames g image j)) f in
        let there : slots_of (Some (record { block = b; slots = map f (range_with_len 0 (whole_frames g image j)) })) ≡ u.slots = ap slots_of e in
        sym (length-range 0 (whole_frames g image j)) ∙ sym same ∙ ap length there
      where
        slots_of : Option Segment → List Slot
        slots_of None = []
        slots_of (Some s) = s.slots
    go false b f e = absurd cc

-- the segment of the next number has the frames before it
pub reading-newest : (g : Geometry) (r : Recording) (image : List ℕ) (j : ℕ) (u : Segment)
    → reading image ≡ Ok (these g r) → j < g.segments → segment_in g image j ≡ Some u → u.block ≡ r.next / g.slots
    → whole_frames g image j ≡ r.next % g.slots
reading-newest g r image j u e l there newest =
    let ps = (parts_of g image).segments in
    let clips = (parts_of g image).clips in
    let was = reading-stages g r image e in
    let limit = limits g (geometry-good g image was.geometry) in
    let is : get_or ps j None ≡ Some u = segment_there g image j l ∙ there in
    let single = (shown_of g (by_block (open_segments ps)) clips r was.recording).single in
    let p = placed_there u j ps (omega (arith, l, segments_length g image)) is single in
    let whole : set ps j (Some u) ≡ ps = sym (ap (λ (q : Option Segment). set ps j q) is) ∙ set-get_or ps j None in
    let sorted : by_block (open_segments ps) ≡ p.lower ++ u ∷ p.higher = sym (ap (λ qs. by_block (open_segments qs)) whole) ∙ p.with_it u refl in
    let before : recording_or_damage g (p.lower ++ u ∷ p.higher) clips ≡ Ok r = sym (ap (λ ss. recording_or_damage g ss clips) sorted) ∙ was.recording in
    let room : r.next < (u.block + 1) * g.slots = (div-lt_iff_lt-mul limit.slots.0).0 (omega (arith, newest)) in
    let next = newest-next g u p.lower p.higher clips r p.above room before in
    let product : u.block * g.slots ≡ r.next / g.slots * g.slots = ap (λ (b : ℕ). b * g.slots) newest in
    omega (arith, next, product, div-add-mod' r.next g.slots, whole-length g image j u there)
