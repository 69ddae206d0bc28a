-- How the desks of a filming are the stores of a long ring.
use Rattle.std.specs.Prelude.{◌≡◌, ℕ, Some, None, List, length, slice_get}
use Rattle.loop_disk.specs.Medium.{Medium}
use Rattle.loop_record.specs.Recording.{Recording, Ring}
use Rattle.loop_store.specs.Seen.{StandsFor, ring_in}
use Rattle.loop_desk.specs.declared.limits.Space.{Space}
use Rattle.loop_desk.specs.Seen.{SeenDesk}
use Rattle.loop_pipeline.specs.Backs.{IsSoAt}
use Rattle.loop_pipeline.specs.DeskEvents.{DesksNow, TakesFrame, TurnsOver}
use Rattle.loop_pipeline.specs.Nexts.{TakesNext}
use Rattle.loop_pipeline.specs.Turns.{IsBetween}
use Rattle.loop_laws.specs.Stores.{EachTells, LongRing, TakesBlock}

-- a desk is before a store of this ring that keeps so many blocks, and stands for this recording
pub record IsDeskOf {D : Type 0} (medium : D → Medium) (ring : Ring) (keep : ℕ) (r : Recording) (d : SeenDesk D)
    : Type 0 where
  pub stands : StandsFor medium d.store r
  pub same_ring : ring_in d.store ≡ ring
  pub same_keep : d.store.keep ≡ keep

-- so is each, of the recording at its place
pub record StandEach {D : Type 0} (medium : D → Medium) (ring : Ring) (keep : ℕ) (desks : List (SeenDesk D))
    (recordings : List Recording) : Type 0 where
  pub all : length recordings ≡ length desks
  pub stand : (place : ℕ) (r : Recording) → slice_get recordings place ≡ Some r
      → IsSoAt place desks (IsDeskOf medium ring keep r)

-- the long ring of these recordings, as a filming's desks are now
abbrev pub ring_now : {D : Type 0} → DesksNow D → List Recording → LongRing
ring_now now recordings = record { recordings = recordings; active = now.active; end = now.end }

-- The desk to which a filming turns is the one whose store takes the next block by the rule of the long ring.
abbrev pub TurnIsChoice : {D : Type 0} → (D → Medium) → Type 0
TurnIsChoice {D} medium =
    (ring : Ring) (keep place : ℕ) (recordings : List Recording) (old new : DesksNow D)
    → StandEach medium ring keep old.desks recordings → TurnsOver medium old new place
    → TakesBlock ring keep (ring_now old recordings) place

-- And so is the one to which a frame is brought between two blocks, where any store has room for a block.
abbrev pub FrameIsChoice : {D : Type 0} → (D → Medium) → Type 0
FrameIsChoice {D} medium =
    (ring : Ring) (keep : ℕ) (recordings : List Recording) (now : DesksNow D)
    → StandEach medium ring keep now.desks recordings → TakesFrame medium now → IsSoAt now.active now.desks IsBetween
    → ((spaces : List Space) → EachTells ring keep recordings spaces → TakesNext now.end now.active spaces None → ⊥)
    → TakesBlock ring keep (ring_now now recordings) now.active
