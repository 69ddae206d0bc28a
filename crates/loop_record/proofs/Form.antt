-- What an image reads as is well formed.
use Rattle.std.proofs.Common.{◌≡◌, ℕ, ◌+◌, ◌*◌, ◌≤◌, false, not, ltb, Some, List, [], ◌∷◌, length, map, sym, ap, ◌∙◌, subst, arith}
use Rattle.std.proofs.Math.Nat.{mul-le-mul_right, add-mul}
use Rattle.std.proofs.lemmas.List.{length-map}
use Rattle.std.specs.Prelude.{Contains}
use Rattle.std.specs.List.{list_any, range_with_len}
use Rattle.loop_record.specs.declared.clip.Span.{Span}
use Rattle.loop_record.specs.declared.geometry.Geometry.{Geometry}
use Rattle.loop_record.specs.Recording.{Recording, holds_all, RiseBetween, IsWellFormed}
use Rattle.loop_record.specs.Layout.{Segment, clip_in}
use Rattle.loop_record.specs.Reading.{frames_of, next_after, recording_of, is_bad_clip, open_segments, by_block, Holds}
use Rattle.loop_record.specs.Parts.{parts_of}
use Rattle.loop_record.proofs.TestFacts.{neither, not_false, not_below, at_most_test}
use Rattle.loop_record.proofs.NumberOrder.{RiseBetween-lower, RiseBetween-append, RiseBetween-enumerate, none-each}
use Rattle.loop_record.proofs.Segments.{Rises, Rises-by_block, repeats-by_block}
use Rattle.loop_record.proofs.Changes.{shown_of, is_overfull}
use Rattle.loop_record.proofs.LegalSteps.{whole_of}
use Rattle.loop_record.proofs.Parts.{reading-stages}
use Rattle.loop_record.proofs.Readings.{overfull_none, length-range}
use Rattle.loop_record.proofs.Names.{all_frames, has_bad_clip, IsWhole}

-- frames of segments whose blocks rise have numbers that rise
all_frames-rise : (g : Geometry) (low : ℕ) (s : Segment) (ss : List Segment) → Rises (s ∷ ss)
    → list_any (is_overfull g) (s ∷ ss) ≡ false → low ≤ s.block * g.slots → RiseBetween low (next_after g (s ∷ ss))
    (all_frames g (s ∷ ss))
all_frames-rise g low s [] rises fits from =
    let size = length-map s.slots (λ t. t.picture) in
    RiseBetween-append low (s.block * g.slots + length s.slots) (s.block * g.slots + length s.slots) (frames_of g s) []
    (RiseBetween-lower (s.block * g.slots) low (s.block * g.slots + length s.slots) (frames_of g s) from
    (RiseBetween-enumerate (s.block * g.slots) (s.block * g.slots + length s.slots) (map (λ t. t.picture) s.slots) (omega (arith, size)))) (omega arith)
all_frames-rise g low s (t ∷ ss) rises fits from =
    let size = length-map s.slots (λ t. t.picture) in
    let k = neither (is_overfull g s) (list_any (is_overfull g) (t ∷ ss)) fits in
    let most = not_below g.slots (length s.slots) k.0 in
    let le : (s.block + 1) * g.slots ≤ t.block * g.slots = mul-le-mul_right g.slots (omega (arith, rises.0.0)) in
    let split : (s.block + 1) * g.slots ≡ s.block * g.slots + g.slots = omega (arith, add-mul s.block 1 g.slots) in
    let end = s.block * g.slots + length s.slots in
    RiseBetween-append low end (next_after g (t ∷ ss)) (frames_of g s) (all_frames g (t ∷ ss))
    (RiseBetween-lower (s.block * g.slots) low end (frames_of g s) from
    (RiseBetween-enumerate (s.block * g.slots) end (map (λ t. t.picture) s.slots) (omega (arith, size))))
    (all_frames-rise g end t ss rises.1 k.1 (omega (arith, most, le, split)))

rising_of : (g : Geometry) (ss : List Segment) → Rises ss → list_any (is_overfull g) ss ≡ false
    → RiseBetween 0 (next_after g ss) (all_frames g ss)
rising_of g [] rises fits = omega arith
rising_of g (s ∷ ss) rises fits = all_frames-rise g 0 s ss rises fits (omega arith)

-- each clip of a recording without a bad clip is whole
pub whole_clips : (r : Recording) → has_bad_clip r ≡ false → (s : Span) → Contains r.clips (Some s) → IsWhole r s
whole_clips r e s c =
    let k = neither (ltb s.to s.from) (not (holds_all r s)) (none-each (is_bad_clip r) r.clips (Some s) e c) in
    whole_of r s (at_most_test s.from s.to (not_below s.to s.from k.0)) (not_false (holds_all r s) k.1)

-- an image that reads as a recording reads as a well-formed one
pub reading-well_formed : (g : Geometry) (r : Recording) (image : List ℕ) → Holds g r image → IsWellFormed r
reading-well_formed g r image e =
    let was = reading-stages g r image e in
    let ps = (parts_of g image).segments in
    let clips = (parts_of g image).clips in
    let ss = by_block (open_segments ps) in
    let s = shown_of g ss clips r was.recording in
    let rises = Rises-by_block (open_segments ps) (sym (repeats-by_block (open_segments ps)) ∙ s.single) in
    let rising = rising_of g ss rises (overfull_none g image) in
    let held : has_bad_clip r ≡ false = sym (ap has_bad_clip s.is) ∙ s.held in
    let few : length (recording_of g ss clips).clips ≡ 64 = length-map (range_with_len 0 64) (clip_in image) ∙ length-range 0 64 in
    record {
      rising = subst (λ (q : Recording). RiseBetween 0 q.next q.frames) s.is rising;
      clips = whole_clips r held;
      ids = subst (λ (q : Recording). length q.clips ≡ 64) s.is few;
    }
