-- The open segments of a disk in the order of their blocks, as the headers say them.
use Rattle.std.proofs.Common.{◌≡◌, ℕ, zero, suc, ◌+◌, Bool, true, false, cond, leb, All, Option, Some, None, List, [], ◌∷◌, length, map, refl, sym, ap, ◌∙◌, subst, arith}
use Rattle.std.specs.List.{range_with_len}
use Rattle.loop_record.specs.declared.geometry.Geometry.{Geometry}
use Rattle.loop_record.specs.declared.image.Found.{Found}
use Rattle.loop_record.specs.declared.segment.SegmentHead.{SegmentHead}
use Rattle.loop_record.specs.Geometry.{segment_at}
use Rattle.loop_record.specs.Layout.{Segment, header_at, is_open, segment_in, whole_frames}
use Rattle.loop_record.specs.Plain.{AreIn, IsIn, segment_of, segments_of}
use Rattle.loop_record.specs.Reading.{by_block, in_place, open_segments, put_before}
use Rattle.loop_record.specs.Parts.{parts_of}
use Rattle.byteorder.specs.Endian.{little_from}
use Rattle.loop_ring.specs.Heads.{found_at, heads_of, in_order}
use Rattle.loop_ring.proofs.SegmentOrder.{Each, order-each}
use Rattle.loop_store.specs.Found.{IsHeadIn}

-- ---- what the headers say

-- segment j, where its header says so
abbrev segment_said : Geometry → List ℕ → ℕ → Option SegmentHead → Option Segment
segment_said g image j None = None
segment_said g image j (Some h) = Some (segment_of g image (found_at j h))

-- an open segment is what its header says, and its slots
segment-said : (g : Geometry) (image : List ℕ) (j : ℕ) → segment_in g image j ≡ segment_said g image j
    (header_at g image (segment_at g j))
segment-said g image j = go (is_open image (segment_at g j))
  where
    there : SegmentHead
    there = record { block = little_from (segment_at g j + 8) 8 image; frames = whole_frames g image j }

    these : Segment
    these = segment_of g image (found_at j there)

    go : (t : Bool) → cond t (Some these) None ≡ segment_said g image j (cond t (Some there) None)
    go true = refl
    go false = refl

put-in_place : (g : Geometry) (image : List ℕ) (f : Found) (fs : List Found)
    → segments_of g image (put_before (λ (t : Found). leb f.block t.block) f fs) ≡ in_place (segment_of g image f) (segments_of g image fs)
put-in_place g image f [] = refl
put-in_place g image f (x ∷ xs) = go (leb f.block x.block) (put-in_place g image f xs)
  where
    go : (t : Bool) → segments_of g image (put_before (λ (t : Found). leb f.block t.block) f xs) ≡ in_place (segment_of g image f)
        (segments_of g image xs)
        → segments_of g image (cond t (f ∷ x ∷ xs) (x ∷ put_before (λ (t : Found). leb f.block t.block) f xs)) ≡
        cond t (segment_of g image f ∷ segment_of g image x ∷ segments_of g image xs)
        (segment_of g image x ∷ in_place (segment_of g image f) (segments_of g image xs))
    go true rest = refl
    go false rest = ap (λ (ss : List Segment). segment_of g image x ∷ ss) rest

order-said : (g : Geometry) (image : List ℕ) (j n : ℕ)
    → segments_of g image (in_order j (map (λ k. header_at g image (segment_at g k)) (range_with_len j n)))
    ≡ by_block (open_segments (map (segment_in g image) (range_with_len j n)))
order-said g image j zero = refl
order-said g image j (suc n) =
    go (header_at g image (segment_at g j)) (order-said g image (j + 1) n)
    ∙ ap (λ (o : Option Segment). by_block (open_segments (o ∷ rest))) (sym (segment-said g image j))
  where
    heads : List (Option SegmentHead)
    heads = map (λ k. header_at g image (segment_at g k)) (range_with_len (j + 1) n)

    rest : List (Option Segment)
    rest = map (segment_in g image) (range_with_len (j + 1) n)

    go : (o : Option SegmentHead) → segments_of g image (in_order (j + 1) heads) ≡ by_block (open_segments rest)
        → segments_of g image (in_order j (o ∷ heads)) ≡ by_block (open_segments (segment_said g image j o ∷ rest))
    go None so = so
    go (Some h) so = put-in_place g image (found_at j h) (in_order (j + 1) heads)
        ∙ ap (in_place (segment_of g image (found_at j h))) so

-- they are the open segments of the image in the order of their blocks
pub order-read : (g : Geometry) (image : List ℕ) (heads : List (Option SegmentHead)) → heads ≡ heads_of g image
    → segments_of g image (in_order 0 heads) ≡ by_block (open_segments (parts_of g image).segments)
order-read g image heads are =
    ap (λ (hs : List (Option SegmentHead)). segments_of g image (in_order 0 hs)) are ∙ order-said g image 0 g.segments

-- ---- each of them

each-in : (g : Geometry) (fs : List Found) → Each (IsIn g) fs → AreIn g fs
each-in g [] all = tt
each-in g (f ∷ fs) all = (all.0, each-in g fs all.1)

-- they are the geometry's
pub order-within : (g : Geometry) (heads : List (Option SegmentHead)) (fs : List Found) → length heads ≡ g.segments
    → All (IsHeadIn g) heads → fs ≡ in_order 0 heads → AreIn g fs
order-within g heads fs count all is = subst (AreIn g) (sym is) (each-in g (in_order 0 heads)
    (order-each (IsIn g) 0 heads (λ k h l at.
    let one = subst (IsHeadIn g) at (all k None l) in
    record { segment = omega (arith, l, count); few = one.0; low = one.1 })))
