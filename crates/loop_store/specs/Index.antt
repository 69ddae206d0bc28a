-- What the index says of an image, and what is noted in it. Only the store's own code uses this.
use Rattle.std.specs.Prelude.{◌≡◌, ℕ, ◌+◌, ◌*◌, ◌/◌, ◌%◌, ◌≤◌, Option, Some, List, All, length, slice_set}
use Rattle.loop_record.specs.declared.clip.Span.{Span}
use Rattle.loop_record.specs.declared.geometry.Geometry.{Geometry}
use Rattle.loop_record.specs.declared.segment.SegmentHead.{SegmentHead}
use Rattle.loop_record.specs.Geometry.{disk_size}
use Rattle.loop_record.specs.Layout.{version_in}
use Rattle.loop_record.specs.Reading.{Holds}
use Rattle.loop_record.specs.Recording.{Recording, last_number, ring_of}
use Rattle.loop_ring.specs.Heads.{clip_counts, heads_of}
use Rattle.loop_store.specs.declared.index.Index.{Index}
use Rattle.loop_store.specs.Drawn.{drawn_image}
use Rattle.loop_store.specs.Found.{IsHeadIn}
use Rattle.loop_store.specs.Times.{KnowsStamps}

-- an image holds the recording, and the index says what the image says
pub record IsIndexOf {A : Type 0} (index : Index A) (r : Recording) (image : List ℕ) : Type 0 where
  pub held : Holds index.ring.geometry r image
  pub next_is : index.next ≡ r.next
  pub heads_are : index.table.heads ≡ heads_of index.ring.geometry image
  pub clips_are : index.clips ≡ r.clips

-- the index of a geometry, headers and clips, and of a next number
pub record IsOf {A : Type 0} (index : Index A) (g : Geometry) (heads : List (Option SegmentHead))
    (clips : List (Option Span)) (next : ℕ) : Type 0 where
  pub geometry : index.ring.geometry ≡ g
  pub heads_are : index.table.heads ≡ heads
  pub clips_are : index.clips ≡ clips
  pub next_is : index.next ≡ next
  pub counted : index.table.clips ≡ clip_counts (ring_of g) clips heads
  pub keep_is : index.table.keep ≡ 1

-- the image holds a recording, and the index says what the image says
pub record IsRecovered {A : Type 0} (index : Index A) (image : List ℕ) : Type 0 where
  pub recording : Recording
  pub known : IsIndexOf index recording image

-- the same, and the index has the version of the image's layout and the stamps of the frames
abbrev pub IsRecoveredIn : {A : Type 0} → Index A → List ℕ → Type 0
IsRecoveredIn index image = IsRecovered index image
    × ((version_in image ≡ index.version) × KnowsStamps index.ring.geometry index.table.heads index.stamps.items image)

-- with made-up frames, the index describes a whole recording
abbrev pub SaysRecording : {A : Type 0} → Index A → Type 0
SaysRecording index = IsRecovered index (drawn_image index.ring.geometry index.table.heads index.clips)

-- the index that keeps this many of the newest blocks
abbrev pub keeping : {A : Type 0} → ℕ → Index A → Index A
keeping keep index = record index { table = record index.table { keep = keep } }

-- Whatever a disk holds: there is a header for each segment, and each is a possible one; no block of the numbers below
-- the next one is too high; the clips that meet each segment's block are counted; and there is a stamp for each slot.
pub record IsIndex {A : Type 0} (index : Index A) : Type 0 where
  pub count : length index.table.heads ≡ index.ring.geometry.segments
  pub within : All (IsHeadIn index.ring.geometry) index.table.heads
  pub few : index.next ≤ last_number (ring_of index.ring.geometry)
  pub counted : index.table.clips ≡ clip_counts (ring_of index.ring.geometry) index.clips index.table.heads
  pub places : length index.stamps.items ≡ index.ring.geometry.segments * index.ring.geometry.slots

-- the same, for a disk of this size
pub record IsFitting {A : Type 0} (index : Index A) (size : ℕ) : Type 0 where
  pub size_is : size ≡ disk_size index.ring.geometry
  pub whole : IsIndex index

-- the header of a segment once this many frames of its block are stored from the next number on
abbrev pub head_after : Geometry → ℕ → ℕ → SegmentHead
head_after g next count = record { block = next / g.slots; frames = next % g.slots + count }

-- segment j has this many frames of the block of the next number from that number on
pub record IsNoted {A : Type 0} (old new : Index A) (j count : ℕ) : Type 0 where
  pub ring : new.ring ≡ old.ring
  pub version : new.version ≡ old.version
  pub keep : new.table.keep ≡ old.table.keep
  pub next : new.next ≡ old.next + count
  pub heads : new.table.heads ≡ slice_set old.table.heads j (Some (head_after old.ring.geometry old.next count))
  pub clips : new.clips ≡ old.clips
  pub counted : new.table.clips ≡ clip_counts (ring_of old.ring.geometry) old.clips new.table.heads

-- this id has this clip, or none
pub record IsClipNoted {A : Type 0} (old new : Index A) (id : ℕ) (clip : Option Span) : Type 0 where
  pub ring : new.ring ≡ old.ring
  pub version : new.version ≡ old.version
  pub keep : new.table.keep ≡ old.table.keep
  pub next : new.next ≡ old.next
  pub heads : new.table.heads ≡ old.table.heads
  pub clips : new.clips ≡ slice_set old.clips id clip
  pub counted : new.table.clips ≡ clip_counts (ring_of old.ring.geometry) new.clips old.table.heads
  pub stamps : new.stamps.items ≡ old.stamps.items
