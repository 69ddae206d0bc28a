-- What calls of a desk leave of the footage, whenever the power fails.
use Rattle.std.specs.Prelude.{◌≡◌, ℕ, ◌≤◌, false, Some, List, ◌++◌, length, take, Contains}
use Rattle.std.specs.List.{enumerate_from}
use Rattle.loop_disk.specs.Medium.{LeavesOnly, Medium}
use Rattle.loop_record.specs.declared.clip.Span.{Span}
use Rattle.loop_record.specs.declared.geometry.Geometry.{Geometry}
use Rattle.loop_record.specs.Recording.{Picture, Recording, Ring, Step, frame_under, plain, ring_of}
use Rattle.loop_store.specs.Calls.{Call, StoreState, begun_in, made_in}
use Rattle.loop_store.specs.Steps.{HoldsFrom}
use Rattle.loop_store.specs.Seen.{StandsFor}
use Rattle.loop_desk.specs.Desk.{DeskCall, accepted_in, frames_stored, store_calls_in}
use Rattle.loop_desk.specs.Seen.{SeenDesk, rules_of}

-- ---- a clip, and all its frames

-- each frame with its number: those that are held, and those that steps store, in order
abbrev pub ever : Recording → List Step → List (ℕ × Picture)
ever r steps = r.frames ++ enumerate_from r.next (frames_stored steps)

-- after the steps each number of each clip is held, and its frame is the one that was stored under it
abbrev pub AreClipsWhole : Ring → Recording → List Step → Type 0
AreClipsWhole ring r steps =
    (span : Span) → Contains (plain ring r steps).clips (Some span) → (n : ℕ) → span.from ≤ n → n ≤ span.to
    → (p : Picture) × ((frame_under (plain ring r steps).frames n ≡ Some p) × (frame_under (ever r steps) n ≡ Some p))

-- the image reads as the recording after the first of the steps, none skipped, and there each clip is whole
pub record HoldsWhole (g : Geometry) (r : Recording) (steps : List Step) (image : List ℕ) : Type 0 where
  pub held : HoldsFrom g r 0 steps image
  pub whole : AreClipsWhole (ring_of g) r (take held.count steps)

-- ---- the footage

-- the store's calls that calls of a desk make
abbrev pub stored_calls : {D : Type 0} → SeenDesk D → StoreState → List DeskCall → List Call
stored_calls d s calls = store_calls_in (rules_of d) (record { store = s; pending = d.pending }) calls

-- the steps that calls made, as they were answered, and those that they began
abbrev pub steps_made : {D : Type 0} → SeenDesk D → StoreState → List DeskCall → List Step
steps_made d s calls = made_in (ring_of d.store.geometry) s (stored_calls d s calls)

abbrev pub steps_begun : {D : Type 0} → SeenDesk D → StoreState → List DeskCall → List Step
steps_begun d s calls = begun_in (ring_of d.store.geometry) s (stored_calls d s calls)

-- What calls leave of the footage of a desk whose store stood for a state, with an honest disk.
pub record KeepsFootage {D : Type 0} (medium : D → Medium) (old new : SeenDesk D) (calls : List DeskCall)
    (s : StoreState) : Type 0 where
  -- whatever the moment at which the power fails, the image reads as the recording after a prefix of the steps, and
  -- there each clip has all its frames, each the one that was given for its number
  pub moments : s.must_reopen ≡ false → LeavesOnly (medium old.store.disk) (medium new.store.disk)
      (HoldsWhole old.store.geometry s.recording (steps_made old s calls ++ steps_begun old s calls))
  -- and at the end it reads as the recording after all that were answered, at least
  pub now : s.must_reopen ≡ false → (image : List ℕ) → (medium new.store.disk).may_leave image
      → HoldsFrom old.store.geometry s.recording (length (steps_made old s calls))
      (steps_made old s calls ++ steps_begun old s calls) image
  -- the recording is the one after all steps that were answered
  pub recording : StandsFor medium new.store
      (plain (ring_of old.store.geometry) s.recording (steps_made old s calls))
  -- what waited and then what was accepted is what was stored and then what waits
  pub none_lost : old.pending ++ accepted_in calls ≡ frames_stored (steps_made old s calls) ++ new.pending
