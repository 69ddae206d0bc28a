-- The times and sequences of held frames, and where an index has them: slot by slot.
use Rattle.std.specs.Prelude.{◌≡◌, ◌⊎◌, ◌==◌, if◌then◌else◌, ℕ, ◌+◌, ◌*◌, ◌/◌, ◌%◌, ◌<◌, ◌≤◌, Option, Some, None, List, [], ◌∷◌, length, slice_index, slice_index_or}
use Rattle.std.specs.List.{find, position, zip}
use Rattle.std.specs.Option.{option_map_or}
use Rattle.loop_record.specs.declared.clip.Span.{Span}
use Rattle.loop_record.specs.declared.geometry.Geometry.{Geometry}
use Rattle.loop_record.specs.declared.image.Found.{Found}
use Rattle.loop_record.specs.declared.segment.SegmentHead.{SegmentHead}
use Rattle.loop_record.specs.Geometry.{frame_bytes, slot_at}
use Rattle.loop_record.specs.Layout.{slot_in}
use Rattle.loop_record.specs.Reading.{Holds}
use Rattle.loop_record.specs.Recording.{Picture, Recording, frame_under}
use Rattle.loop_ring.specs.declared.group.SlotStamp.{SlotStamp}
use Rattle.loop_ring.specs.Groups.{slot_stamp}
use Rattle.loop_ring.specs.Heads.{is_of}

-- what is known where no frame is
abbrev pub no_stamp : SlotStamp
no_stamp = record { time = 0; sequence = 0 }

-- the stamp of a number is that of its frame: its time and its sequence
abbrev pub AreStamps : (ℕ → SlotStamp) → Recording → Type 0
AreStamps stamps r = (n : ℕ) (p : Picture) → frame_under r.frames n ≡ Some p → stamps n ≡ slot_stamp p

-- the stamp beside a number, if there is one
abbrev pub stamp_told : List ℕ → List SlotStamp → ℕ → SlotStamp
stamp_told numbers stamps n =
    option_map_or (λ beside. beside.1) (find (λ beside. beside.0 == n) (zip numbers stamps)) no_stamp

-- the stamp at the slot of a number in a segment
abbrev pub stamp_at : ℕ → List SlotStamp → ℕ → Option ℕ → SlotStamp
stamp_at slots stamps n None = no_stamp
stamp_at slots stamps n (Some j) = slice_index_or stamps (j * slots + n % slots) no_stamp

-- the same, in the segment that has the block of the number
abbrev pub stamp_under : ℕ → List (Option SegmentHead) → List SlotStamp → ℕ → SlotStamp
stamp_under slots heads stamps n = stamp_at slots stamps n (position (is_of (n / slots)) heads)

-- ---- what is read of a disk again. Only the store's own code uses this

-- the stamp of the frame in slot k of segment j
abbrev pub stamp_in : Geometry → List ℕ → ℕ → ℕ → SlotStamp
stamp_in g image j k = slot_stamp (slot_in (frame_bytes g) image (slot_at g j k)).picture

-- the stamp of that slot is known
abbrev pub IsStamped : Geometry → List ℕ → List SlotStamp → ℕ → ℕ → Type 0
IsStamped g image stamps j k = slice_index_or stamps (j * g.slots + k) no_stamp ≡ stamp_in g image j k

-- the stamps of the first slots of a segment are known
abbrev pub AreStamped : Geometry → List ℕ → List SlotStamp → ℕ → ℕ → Type 0
AreStamped g image stamps j count = (k : ℕ) → k < count → IsStamped g image stamps j k

-- what was known still is
abbrev pub KeepsStamps : Geometry → List ℕ → List SlotStamp → List SlotStamp → Type 0
KeepsStamps g image old new =
    (j k : ℕ) → k < g.slots → IsStamped g image old j k → IsStamped g image new j k

-- the stamps of the frames of found segments are known
abbrev pub AllStamped : Geometry → List ℕ → List SlotStamp → List Found → Type 0
AllStamped g image stamps [] = Unit {0}
AllStamped g image stamps (f ∷ fs) = AreStamped g image stamps f.segment f.frames × AllStamped g image stamps fs

-- the stamps of all that an image holds are known
pub record KnowsStamps (g : Geometry) (heads : List (Option SegmentHead)) (stamps : List SlotStamp) (image : List ℕ)
    : Type 0 where
  pub each : (r : Recording) → Holds g r image → AreStamps (stamp_under g.slots heads stamps) r

-- the stamps of frames, written from a place on; the others are as they were
pub record HasStamps (old new : List SlotStamp) (at : ℕ) (frames : List Picture) : Type 0 where
  pub there : (k : ℕ) (d : Picture) → k < length frames
      → slice_index_or new (at + k) no_stamp ≡ slot_stamp (slice_index_or frames k d)
  pub others : (i : ℕ) → (i < at) ⊎ (at + length frames ≤ i)
      → slice_index_or new i no_stamp ≡ slice_index_or old i no_stamp
  pub long : length new ≡ length old

-- ---- runs of numbers, while they are found. Only the store's own code uses this

-- a number after runs: it makes the last one longer, or is a run of its own
abbrev pub added : List Span → ℕ → List Span
added [] n = record { from = n; to = n; tag = 0 } ∷ []
added (s ∷ []) n =
    if s.to + 1 == n then record s { to = n } ∷ [] else s ∷ record { from = n; to = n; tag = 0 } ∷ []
added (s ∷ t ∷ spans) n = s ∷ added (t ∷ spans) n

-- each ends below this number
abbrev pub EndsBelow : ℕ → List Span → Type 0
EndsBelow high [] = Unit {0}
EndsBelow high (s ∷ spans) = (s.to < high) × EndsBelow high spans

-- the numbers rise
abbrev pub Rise : List ℕ → Type 0
Rise numbers = (i j : ℕ) → i < j → j < length numbers → slice_index numbers i < slice_index numbers j
