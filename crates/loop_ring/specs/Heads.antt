-- The segments of a store as their headers say, in the order in which they lie on the disk.
use Rattle.std.specs.Prelude.{◌≡◌, ℕ, ◌+◌, ◌-◌, ◌/◌, ◌%◌, Bool, false, ◌&&◌, ◌==◌, nat_le, nat_lt, max, min, if◌then◌else◌, Option, None, Some, List, [], ◌∷◌, map, slice_index_or}
use Rattle.std.specs.List.{count_by, filter, filter_map, range_with_len, reduce, zip}
use Rattle.loop_record.specs.declared.clip.Span.{Span}
use Rattle.loop_record.specs.declared.geometry.Geometry.{Geometry}
use Rattle.loop_record.specs.declared.image.Found.{Found}
use Rattle.loop_record.specs.declared.segment.SegmentHead.{SegmentHead}
use Rattle.loop_record.specs.Geometry.{segment_at}
use Rattle.loop_record.specs.Layout.{header_at}
use Rattle.loop_record.specs.Reading.{put_before}
use Rattle.loop_record.specs.Recording.{Ring, meets}

-- what the header of each segment says
abbrev pub heads_of : Geometry → List ℕ → List (Option SegmentHead)
heads_of g image = map (λ j. header_at g image (segment_at g j)) (range_with_len 0 g.segments)

-- the segment is open and holds block b
abbrev pub is_of : ℕ → Option SegmentHead → Bool
is_of b None = false
is_of b (Some head) = head.block == b

-- the segment is open and has a whole frame
abbrev pub has_frame : Option SegmentHead → Bool
has_frame None = false
has_frame (Some head) = nat_lt 0 head.frames

-- the segment is open and has the frame of a number, where blocks have this many frames
abbrev pub has_number : ℕ → ℕ → Option SegmentHead → Bool
has_number slots number None = false
has_number slots number (Some head) = (head.block == number / slots) && nat_lt (number % slots) head.frames

-- ---- the open segments by block

-- segment j, as its header says
abbrev pub found_at : ℕ → SegmentHead → Found
found_at j h = record { segment = j; block = h.block; frames = h.frames }

-- the open ones of the segments numbered from j on, in the order of their blocks; those of one block in the order in
-- which they lie on the disk
abbrev pub in_order : ℕ → List (Option SegmentHead) → List Found
in_order j [] = []
in_order j (None ∷ heads) = in_order (j + 1) heads
in_order j (Some head ∷ heads) =
    put_before (λ (t : Found). nat_le head.block t.block) (found_at j head) (in_order (j + 1) heads)

-- ---- the block that goes

-- the block of a segment that is open and has a whole frame
abbrev pub held_block : Option SegmentHead → Option ℕ
held_block None = None
held_block (Some head) = if nat_lt 0 head.frames then Some head.block else None

-- the greatest of these blocks from which on there are at least `keep`, itself included: the least of the `keep`
-- greatest
abbrev pub floor_of : ℕ → List ℕ → Option ℕ
floor_of keep blocks = reduce max (filter (λ b. nat_le keep (count_by (nat_le b) blocks)) blocks)

-- the block from which on no block may go where this many of the newest are kept, if as many are held
abbrev pub floor_block : ℕ → List (Option SegmentHead) → Option ℕ
floor_block keep heads = floor_of keep (filter_map held_block heads)

-- ---- the count of clips of each segment

-- what the header of each segment says, how many clips meet the block of each, and how many of the newest blocks are
-- kept
pub record Segments : Type 0 where
  pub heads : List (Option SegmentHead)
  pub clips : List ℕ
  pub keep : ℕ

-- some number of the clip is of the segment's block
abbrev pub meets_head : Ring → Option Span → Option SegmentHead → Bool
meets_head ring clip None = false
meets_head ring clip (Some head) = meets ring head.block clip

-- how many of the clips meet the segment's block: none where it is closed
abbrev pub clips_on : Ring → List (Option Span) → Option SegmentHead → ℕ
clips_on ring clips None = 0
clips_on ring clips (Some head) = count_by (meets ring head.block) clips

-- that count for each segment
abbrev pub clip_counts : Ring → List (Option Span) → List (Option SegmentHead) → List ℕ
clip_counts ring clips heads = map (clips_on ring clips) heads

-- a segment's count once this clip is added, and once it is gone
abbrev pub with_one : Ring → Span → Option SegmentHead → ℕ → ℕ
with_one ring span head count = if meets_head ring (Some span) head then count + 1 else count

abbrev pub without_one : Ring → Span → Option SegmentHead → ℕ → ℕ
without_one ring span head count = if meets_head ring (Some span) head then count - 1 else count

-- the segments once this clip is added, and once it is gone
abbrev pub with_clip : Ring → Span → Segments → Segments
with_clip ring span s = record s { clips = map (λ x. with_one ring span x.0 x.1) (zip s.heads s.clips) }

abbrev pub without_clip : Ring → Span → Segments → Segments
without_clip ring span s = record s { clips = map (λ x. without_one ring span x.0 x.1) (zip s.heads s.clips) }

-- the segment has a whole frame, its block is below the floor, and no clip meets it
abbrev pub is_free : ℕ → Option SegmentHead → ℕ → Bool
is_free floor None count = false
is_free floor (Some head) count = nat_lt 0 head.frames && nat_lt head.block floor && (count == 0)

-- the block of such a segment
abbrev pub free_block : ℕ → Option SegmentHead → ℕ → Option ℕ
free_block floor None count = None
free_block floor (Some head) count = if is_free floor (Some head) count then Some head.block else None

-- the least of these blocks below this floor; nothing without a floor or such a block
abbrev pub least_free : Segments → Option ℕ → Option ℕ
least_free s None = None
least_free s (Some floor) = reduce min (filter_map (λ x. free_block floor x.0 x.1) (zip s.heads s.clips))

-- the block that goes when room is needed, by the headers and the counts alone
abbrev pub going_free : Segments → Option ℕ
going_free s = least_free s (floor_block s.keep s.heads)

-- the segment with this many frames
abbrev pub grown : ℕ → Option SegmentHead → Option SegmentHead
grown frames None = None
grown frames (Some head) = Some (record head { frames = frames })

-- the place of a segment that holds this block; no place where there is no block
abbrev pub IsPlaceOf : List (Option SegmentHead) → Option ℕ → Option ℕ → Type 0
IsPlaceOf heads block None = block ≡ None
IsPlaceOf heads block (Some j) =
    (head : SegmentHead) × (slice_index_or heads j None ≡ Some head) × (block ≡ Some head.block)
