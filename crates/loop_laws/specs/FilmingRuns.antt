-- When a stretch of a filming is a run of a long ring.
use Rattle.std.specs.Prelude.{◌≡◌, ◌≤◌, ◌<◌, ◌+◌, ◌%◌, ◌^◌, ℕ, Bool, true, false, Some, Ok, Err, List, [], ◌++◌, All, is_some, length, map, max, slice_get}
use Rattle.std.specs.List.{filter, flat_map, list_all, list_any}
use Rattle.loop_disk.specs.Medium.{Medium}
use Rattle.loop_record.specs.Recording.{Picture, Recording, Ring, Step, empty, plain, recycle, store}
use Rattle.loop_desk.specs.Desk.{DeskCall, accepted_in, clip_locked, clip_unlocked, flushed, frame_read, layout_upgraded, run_told, status_told, submitted}
use Rattle.loop_desk.specs.Seen.{SeenDesk}
use Rattle.loop_pipeline.specs.Backs.{Part, calls_of, own, visited}
use Rattle.loop_pipeline.specs.DeskEvents.{DeskEvent, DesksNow, Happened, done, joined_by, turned_to}
use Rattle.loop_pipeline.specs.Turns.{RoomForBlock}
use Rattle.loop_laws.specs.Filmings.{IsDeskOf, StandEach, ring_now}
use Rattle.loop_laws.specs.Laws.{HoldNewest}
use Rattle.loop_laws.specs.Stores.{AreCounted, Counted, LongRing, RingEvent, Run, empty_stores, end_after, frames_placed, started}

-- ---- what a stretch of a filming begins with

-- an append makes such steps
abbrev pub is_append : Step → Bool
is_append (store p) = true
is_append (recycle b) = true
is_append _ = false

-- whatever is appended, the store has room for a block: what is locked never fills it
abbrev pub NeverFull : Ring → ℕ → Recording → Type 0
NeverFull ring keep r =
    (made : List Step) → list_all is_append made ≡ true → RoomForBlock ring keep (plain ring r made)

-- Several desks are before these recordings, one of them is the active one, and nothing waits at any. One store has
-- always room for a block.
pub record Begins {D : Type 0} (medium : D → Medium) (ring : Ring) (keep : ℕ) (now : DesksNow D)
    (recordings : List Recording) : Type 0 where
  pub each : StandEach medium ring keep now.desks recordings
  pub several : 2 ≤ length now.desks
  pub active : now.active < length now.desks
  pub none_waits : (place : ℕ) (d : SeenDesk D) → slice_get now.desks place ≡ Some d → d.pending ≡ []
  pub roomy : ℕ
  pub recording : Recording
  pub is_roomy : slice_get recordings roomy ≡ Some recording
  pub never_full : NeverFull ring keep recording

-- ---- what happens in it

-- a call that changes no frame, no clip, and nothing that waits
abbrev pub is_quiet : DeskCall → Bool
is_quiet (clip_locked span (Err fault)) = true
is_quiet (clip_unlocked id (Err fault)) = true
is_quiet (frame_read number result) = true
is_quiet (status_told status) = true
is_quiet (layout_upgraded result) = true
is_quiet (run_told times place run) = true
is_quiet _ = false

-- Each frame is accepted, and each flush is done: one that stores the last frame of a block leaves none that waits. A
-- visit makes quiet calls alone.
abbrev pub GoesWell : Ring → Part → Type 0
GoesWell ring (own (submitted p size (Ok number))) = Unit {0}
GoesWell ring (own (flushed (Ok f))) = (f.first + f.stored) % ring.slots ≡ 0 → f.left ≡ 0
GoesWell ring (own call) = ⊥
GoesWell ring (visited calls) = list_all is_quiet calls ≡ true

-- and a desk that joins is before a store in which nothing is recorded
abbrev pub HappensWell : {D : Type 0} → (D → Medium) → Ring → ℕ → DeskEvent D → Type 0
HappensWell medium ring keep (done place part) = GoesWell ring part
HappensWell medium ring keep (turned_to place) = Unit {0}
HappensWell medium ring keep (joined_by desk) = IsDeskOf medium ring keep empty desk × (desk.pending ≡ [])

-- ---- what it is

-- frames, each with this place
abbrev pub placed_at : ℕ → List Picture → List (ℕ × Picture)
placed_at place ps = map (λ p. (place, p)) ps

-- the frames that a desk accepts, each with the place of the desk
abbrev pub placed_accepted : {D : Type 0} → DeskEvent D → List (ℕ × Picture)
placed_accepted (done place part) = placed_at place (accepted_in (calls_of part))
placed_accepted _ = []

abbrev pub is_start : RingEvent → Bool
is_start (started lost) = true
is_start _ = false

-- It is a run of the long ring: the desks stand for what is recorded then, and the frames that came to the stores are,
-- in order and each in the store of its desk, those that the desks accepted, but for those that wait at the active one.
pub record IsRun {D : Type 0} (medium : D → Medium) (ring : Ring) (keep : ℕ) (old : LongRing)
    (accepted : List (ℕ × Picture)) (new : DesksNow D) : Type 0 where
  pub happened : List RingEvent
  pub stores : LongRing
  pub run : Run ring keep old happened stores
  pub no_start : filter is_start happened ≡ []
  pub stand : StandEach medium ring keep new.desks stores.recordings
  pub desk : SeenDesk D
  pub is_active : slice_get new.desks new.active ≡ Some desk
  pub others : (place : ℕ) (d : SeenDesk D) → slice_get new.desks place ≡ Some d → (new.active ≡ place → ⊥)
      → d.pending ≡ []
  pub frames : frames_placed happened ++ placed_at new.active desk.pending ≡ accepted
  pub end : end_after stores.end desk.pending ≡ new.end

-- A stretch of a filming in which all goes well is a run.
abbrev pub FilmingIsRun : {D : Type 0} → (D → Medium) → Type 0
FilmingIsRun {D} medium =
    (ring : Ring) (keep : ℕ) (recordings : List Recording) (old new : DesksNow D) (events : List (DeskEvent D))
    → 1 ≤ ring.slots → Begins medium ring keep old recordings → Happened medium old events new
    → All (HappensWell medium ring keep) events
    → IsRun medium ring keep (ring_now old recordings) (flat_map placed_accepted events) new

-- ---- and the newest are always there

-- A store with no clip always has room for a block, where fewer blocks are kept than it has segments.
abbrev pub UnlockedNeverFull : Type 0
UnlockedNeverFull =
    (ring : Ring) (keep : ℕ) (r : Recording) → max 1 keep < ring.segments → list_any is_some r.clips ≡ false
    → NeverFull ring keep r

-- A stretch of a filming is such a run, and the stores hold the newest frames then: where they were empty at first, and
-- what happened to them since led to the recordings of the desks. The frames are counted on, as at a start.
pub record RunHoldsNewest {D : Type 0} (medium : D → Medium) (ring : Ring) (keep : ℕ) (before : List RingEvent)
    (old : LongRing) (accepted : List (ℕ × Picture)) (new : DesksNow D) : Type 0 where
  pub run : IsRun medium ring keep old accepted new
  pub holds : HoldNewest ring run.stores (frames_placed (before ++ run.happened)) (length old.recordings)
      (length (frames_placed run.happened))

abbrev pub FilmingHoldsNewest : {D : Type 0} → (D → Medium) → Type 0
FilmingHoldsNewest {D} medium =
    (ring : Ring) (keep : ℕ) (recordings : List Recording) (old new : DesksNow D) (events : List (DeskEvent D))
    (count first low mid high : ℕ) (before : List RingEvent)
    → 1 ≤ ring.slots → Begins medium ring keep old recordings → Happened medium old events new
    → All (HappensWell medium ring keep) events
    → Run ring keep (empty_stores count first (low % 2 ^ 32)) before (ring_now old recordings)
    → AreCounted low before mid → Counted mid (map (λ t. t.1) (flat_map placed_accepted events)) high
    → high ≤ low + 2 ^ 32
    → RunHoldsNewest medium ring keep before (ring_now old recordings) (flat_map placed_accepted events) new
