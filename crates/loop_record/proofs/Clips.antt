-- What an image reads as after one entry of the clip table has changed.
use Rattle.std.proofs.Common.{◌≡◌, ◌⊎◌, inl, inr, ℕ, zero, suc, ◌+◌, ◌<◌, ◌≤◌, true, false, not, ◌&&◌, ltb, leb, IsTrue, Option, Some, None, Ok, List, [], ◌∷◌, set, get_or, map, refl, sym, ap, ◌∙◌, arith}
use Rattle.std.specs.Prelude.{◌||◌}
use Rattle.std.specs.List.{list_any, range_with_len}
use Rattle.loop_record.specs.declared.clip.Span.{Span}
use Rattle.loop_record.specs.declared.geometry.Geometry.{Geometry}
use Rattle.loop_record.specs.Geometry.{segment_at, segment_size, clip_at}
use Rattle.loop_record.specs.Recording.{Recording, lock, unlock, after_step, may_lock, holds_all, clip_of, ring_of}
use Rattle.loop_record.specs.Layout.{Segment, segment_in, clip_in}
use Rattle.loop_record.specs.Reading.{recording_or_damage, recording_of, is_bad_clip, by_block, open_segments, Holds}
use Rattle.loop_record.specs.Parts.{parts_of, shown_by}
use Rattle.loop_record.specs.Change.{ShowsClip}
use Rattle.loop_record.proofs.TestFacts.{both, neither, or_false, at_most, not_below_test}
use Rattle.loop_record.proofs.Bounds.{limits}
use Rattle.loop_record.proofs.OwnBytes.{SameWithin, map_range, same_segment, same_clip, same_geometry}
use Rattle.loop_record.proofs.Changes.{shown_of, of_shown}
use Rattle.loop_record.proofs.Parts.{within_before, within_behind, map_range-set, reading-stages, stages-reading, geometry-good}
use Rattle.loop_record.proofs.Readings.{get_or-map_range}
use Rattle.loop_record.proofs.Names.{free_id}

-- the parts of the old image, except one clip
pub parts-clip : (g : Geometry) (id : ℕ) (c : Option Span) (old new : List ℕ) → g.slots ≤ 256 → id < 64
    → ShowsClip id c old new
    → parts_of g new ≡ record { segments = (parts_of g old).segments; clips = set (parts_of g old).clips id c }
parts-clip g id c old new few l s =
    let other : (i : ℕ) → (i < 0 + id) ⊎ (0 + id < i) → clip_in new i ≡ clip_in old i =
    λ i o. same_clip new old i (within_before (clip_at id) 32 44 45 old new s.outside (omega arith)) (within i o) in
    let at : 0 + id ≡ id = omega arith in
    let clips = map_range-set (clip_in new) (clip_in old) 0 64 id c l other (ap (clip_in new) at ∙ s.holds) in
    let segments = map_range (segment_in g new) (segment_in g old) 0 g.segments
    (λ j low high. same_segment g new old j few
    (within_behind (clip_at id) 32 (segment_at g j) (segment_at g j + segment_size g) old new s.outside
    (omega (arith, l)))) in
    λ i. record { segments = segments i; clips = clips i }
  where
    within : (i : ℕ) → (i < 0 + id) ⊎ (0 + id < i) → SameWithin (clip_at i) (clip_at i + 32) new old
    within i (inl a) = within_before (clip_at id) 32 (clip_at i) (clip_at i + 32) old new s.outside (omega (arith, a))
    within i (inr a) = within_behind (clip_at id) 32 (clip_at i) (clip_at i + 32) old new s.outside (omega (arith, a))

-- where one clip of an image has changed, the rest read the same
pub reading-clip : (g : Geometry) (r s : Recording) (id : ℕ) (c : Option Span) (old new : List ℕ) → Holds g r old
    → id < 64 → ShowsClip id c old new
    → shown_by g (record { segments = (parts_of g old).segments; clips = set (parts_of g old).clips id c }) ≡ Ok s → Holds g s new
reading-clip g r s id c old new e l shows is =
    let was = reading-stages g r old e in
    let limit = limits g (geometry-good g old was.geometry) in
    let parts = parts-clip g id c old new limit.slots.1 l shows in
    stages-reading g s new (record {
      geometry = same_geometry new old (within_before (clip_at id) 32 0 44 old new shows.outside (omega arith))
          (within_before (clip_at id) 32 45 512 old new shows.outside (omega arith)) ∙ was.geometry;
      size = shows.outside.size ∙ was.size;
      recording = ap (shown_by g) parts ∙ is;
    })

bad_clips-set : (r : Recording) (cs : List (Option Span)) (id : ℕ) (c : Option Span)
    → list_any (is_bad_clip r) cs ≡ false → is_bad_clip r c ≡ false → list_any (is_bad_clip r) (set cs id c) ≡ false
bad_clips-set r [] id c e f = refl
bad_clips-set r (d ∷ cs) zero c e f = or_false (is_bad_clip r c) (list_any (is_bad_clip r) cs) f (neither (is_bad_clip r d) (list_any (is_bad_clip r) cs) e).1
bad_clips-set r (d ∷ cs) (suc id) c e f =
    let k = neither (is_bad_clip r d) (list_any (is_bad_clip r) cs) e in
    or_false (is_bad_clip r d) (list_any (is_bad_clip r) (set cs id c)) k.0 (bad_clips-set r cs id c k.1 f)

-- the same segments beside clips of which one has changed to one that isn't bad
pub checked-clip : (g : Geometry) (ss : List Segment) (clips : List (Option Span)) (r : Recording) (id : ℕ)
    (c : Option Span) → recording_or_damage g ss clips ≡ Ok r → is_bad_clip r c ≡ false
    → recording_or_damage g ss (set clips id c) ≡ Ok (record r { clips = set r.clips id c })
checked-clip g ss clips r id c e good =
    let old = shown_of g ss clips r e in
    let same : r ≡ recording_of g ss clips = sym old.is in
    let good' : is_bad_clip (recording_of g ss clips) c ≡ false = sym (ap (λ (q : Recording). is_bad_clip q c) same) ∙ good in
    of_shown g ss (set clips id c) (record r { clips = set r.clips id c }) (record {
      low_enough = old.low_enough;
      single = old.single;
      full = old.full;
      right = old.right;
      held = bad_clips-set (recording_of g ss clips) clips id c old.held good';
      is = ap (λ (q : Recording). record q { clips = set q.clips id c }) old.is;
    })

-- Where the entry of the least free id has opened with a clip that may be locked, the image reads as the recording with that clip.
pub reading-lock : (g : Geometry) (r : Recording) (s : Span) (old new : List ℕ) → Holds g r old
    → IsTrue (may_lock r s) → ShowsClip (free_id r) (Some s) old new
    → Holds g (after_step (ring_of g) r (lock s)) new
reading-lock g r s old new e legal shows =
    let k = both (leb s.from s.to && holds_all r s) (ltb (free_id r) 64) legal in
    let m = both (leb s.from s.to) (holds_all r s) k.0 in
    let order = not_below_test s.to s.from (at_most s.from s.to m.0) in
    let good : is_bad_clip r (Some s) ≡ false = λ i. order i || not (m.1 i) in
    let was = reading-stages g r old e in
    reading-clip g r (after_step (ring_of g) r (lock s)) (free_id r) (Some s) old new e (below (free_id r) k.1) shows
    (checked-clip g (by_block (open_segments (parts_of g old).segments)) (parts_of g old).clips r (free_id r) (Some s) was.recording good)
  where
    below : (n : ℕ) → ltb n 64 ≡ true → n < 64
    below n t = at_most (suc n) 64 t

-- Where the entry of an id has closed, the image reads as the recording without that clip.
pub reading-unlock : (g : Geometry) (r : Recording) (id : ℕ) (old new : List ℕ) → Holds g r old → id < 64
    → ShowsClip id None old new → Holds g (after_step (ring_of g) r (unlock id)) new
reading-unlock g r id old new e l shows =
    let was = reading-stages g r old e in
    reading-clip g r (after_step (ring_of g) r (unlock id)) id None old new e l shows
    (checked-clip g (by_block (open_segments (parts_of g old).segments)) (parts_of g old).clips r id None was.recording refl)

-- the recording's clips are those of the entries
pub clips-are : (g : Geometry) (r : Recording) (image : List ℕ) → Holds g r image → r.clips ≡ map (clip_in image)
    (range_with_len 0 64)
clips-are g r image e =
    let was = reading-stages g r image e in
    sym (ap (λ (q : Recording). q.clips) (shown_of g (by_block (open_segments (parts_of g image).segments)) (parts_of g image).clips r was.recording).is)

-- the clip of an id is that of its entry
pub clip_of-entry : (g : Geometry) (r : Recording) (image : List ℕ) (id : ℕ) → Holds g r image → id < 64
    → clip_of r id ≡ clip_in image id
clip_of-entry g r image id e l =
    let at : 0 + id ≡ id = omega arith in
    ap (λ (cs : List (Option Span)). get_or cs id None) (clips-are g r image e) ∙ get_or-map_range (clip_in image) 0 64 id None l ∙ ap (clip_in image) at
