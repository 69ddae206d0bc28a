-- Where an append goes. Only the store's own code uses this.
use Rattle.std.specs.Prelude.{◌≡◌, ◌≢◌, ◌⊎◌, ℕ, ◌/◌, ◌%◌, ◌==◌, false, true, Result, Ok, Err, Option, Some, None, List, slice_index_or, slice_set, [], unwrap_or}
use Rattle.std.specs.List.{list_any}
use Rattle.loop_record.specs.declared.geometry.Geometry.{Geometry}
use Rattle.loop_record.specs.declared.segment.SegmentHead.{SegmentHead}
use Rattle.loop_record.specs.Layout.{Segment, is_too_high, segment_in, version_in, whole_frames}
use Rattle.loop_record.specs.Reading.{Holds, open_segments}
use Rattle.loop_record.specs.Parts.{parts_of}
use Rattle.loop_record.specs.Recording.{Recording, Step, last_number, needs_recycling, recycling_first, ring_of, victim}
use Rattle.loop_ring.specs.Heads.{heads_of}
use Rattle.loop_store.specs.declared.fault.StoreFault.{StoreFault}
use Rattle.loop_store.specs.declared.fault.StoreFault.TheVariants.{AllLocked, NumbersSpent}
use Rattle.loop_store.specs.declared.place.AppendPlace.{AppendPlace}
use Rattle.loop_store.specs.declared.place.AppendPlace.TheVariants.{Newest, Closed, Victim}
use Rattle.loop_store.specs.Grow.{HasNoneStray, IsFreeFor}
use Rattle.loop_store.specs.Index.{head_after}

-- the segment of a place
abbrev pub place_segment : AppendPlace → ℕ
place_segment (Newest j) = j
place_segment (Closed j) = j
place_segment (Victim j) = j

-- segment j has the block of the next number, and the frames before it
pub record IsNext (g : Geometry) (next j : ℕ) (image : List ℕ) : Type 0 where
  pub segment : Segment
  pub there : segment_in g image j ≡ Some segment
  pub of_next : segment.block ≡ next / g.slots
  pub whole : whole_frames g image j ≡ next % g.slots
  pub head : slice_index_or (heads_of g image) j None
      ≡ Some (record { block = next / g.slots; frames = next % g.slots })

-- segment j has block b, no segment has the block of the next number, and that block isn't too high
pub record IsOldFor (g : Geometry) (next b j : ℕ) (image : List ℕ) : Type 0 where
  pub segment : Segment
  pub there : segment_in g image j ≡ Some segment
  pub block_is : segment.block ≡ b
  pub apart : list_any (λ s. s.block == (next / g.slots)) (open_segments (parts_of g image).segments) ≡ false
  pub low_enough : is_too_high g (next / g.slots) ≡ false

-- what a place says of the image, and of the steps before the stores, where this many blocks are kept
abbrev pub IsPlaceAt : Geometry → ℕ → Recording → List ℕ → AppendPlace → Type 0
IsPlaceAt g keep r image (Newest j) = IsNext g r.next j image × (needs_recycling (ring_of g) r ≡ false)
IsPlaceAt g keep r image (Closed j) =
    IsFreeFor g r.next j image × ((r.next % g.slots ≡ 0) × (needs_recycling (ring_of g) r ≡ false))
IsPlaceAt g keep r image (Victim j) =
    (b : ℕ) × ((victim (ring_of g) keep r ≡ Some b)
    × (IsOldFor g r.next b j image × ((r.next % g.slots ≡ 0) × (needs_recycling (ring_of g) r ≡ true))))

-- the place is such a one; where there is none, a block has to be recycled first and there is no victim
abbrev pub IsPlace : Geometry → ℕ → Recording → List ℕ → Option AppendPlace → Type 0
IsPlace g keep r image None = recycling_first (needs_recycling (ring_of g) r) (victim (ring_of g) keep r) ≡ None
IsPlace g keep r image (Some place) = IsPlaceAt g keep r image place

-- the image holds a recording with this next number, the place is such a one, and no gate is stray
pub record IsKnown (g : Geometry) (keep next : ℕ) (place : AppendPlace) (image : List ℕ) : Type 0 where
  pub recording : Recording
  pub held : Holds g recording image
  pub next_is : recording.next ≡ next
  pub is_place : IsPlaceAt g keep recording image place
  pub unstray : HasNoneStray g image

-- the steps before the stores of an append: a recycling, or none
abbrev pub steps_before : Geometry → ℕ → Recording → List Step
steps_before g keep r = unwrap_or (recycling_first (needs_recycling (ring_of g) r) (victim (ring_of g) keep r)) []

-- the header of the segment at a place, before the frames are stored
abbrev pub head_at : Geometry → ℕ → SegmentHead
head_at g next = record { block = next / g.slots; frames = next % g.slots }

-- the segments' headers are the old ones, but segment j has begun the block of the next number, with the frames before
-- it; no gate is stray, and the layout has the old version
pub record IsBegunAt (g : Geometry) (next j : ℕ) (old new : List ℕ) : Type 0 where
  pub heads : heads_of g new ≡ slice_set (heads_of g old) j (Some (head_at g next))
  pub unstray : HasNoneStray g new
  pub version : version_in new ≡ version_in old

-- the segments' headers are the old ones, but segment j has this many frames of the block of the next number from that
-- number on; no gate is stray, and the layout has the old version
pub record IsGrownAt (g : Geometry) (next count j : ℕ) (old new : List ℕ) : Type 0 where
  pub heads : heads_of g new ≡ slice_set (heads_of g old) j (Some (head_after g next count))
  pub unstray : HasNoneStray g new
  pub version : version_in new ≡ version_in old

-- why there is no place: no number is left, or otherwise a block has to be recycled first and there is no victim
abbrev pub RefusesPlace : Geometry → ℕ → Recording → StoreFault → Type 0
RefusesPlace g keep r fault =
    (fault ≡ NumbersSpent) × (r.next ≡ last_number (ring_of g))
    ⊎ (fault ≡ AllLocked)
    × ((r.next ≢ last_number (ring_of g))
    × (recycling_first (needs_recycling (ring_of g) r) (victim (ring_of g) keep r) ≡ None))

-- the answer to where the next frames go, for a recording that an image holds
abbrev pub AnswersPlace : Geometry → ℕ → Recording → List ℕ → Result AppendPlace StoreFault → Type 0
AnswersPlace g keep r image (Ok place) = (r.next ≢ last_number (ring_of g)) × IsPlaceAt g keep r image place
AnswersPlace g keep r image (Err fault) = RefusesPlace g keep r fault
