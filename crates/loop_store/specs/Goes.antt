-- What a sequence of calls does to a store, and what it leaves on its disk.
use Rattle.std.specs.Prelude.{◌≡◌, ◌↔◌, true, false, Option, List, map}
use Rattle.std.specs.List.{list_all}
use Rattle.loop_disk.specs.declared.fault.DiskFault.{DiskFault}
use Rattle.loop_disk.specs.declared.fault.Failures.{Failures}
use Rattle.loop_disk.specs.Calls.{Stays, with_failed}
use Rattle.loop_disk.specs.Medium.{Medium}
use Rattle.loop_record.specs.Recording.{ring_of}
use Rattle.loop_record.specs.Turns.{after_all}
use Rattle.loop_store.specs.Calls.{AreAnswered, Call, StoreState, after_calls, begun_in, failed_for, is_look, made_in, was_refused}
use Rattle.loop_store.specs.Reopen.{TellsOne}
use Rattle.loop_store.specs.Seen.{Seen, StandsFor, Tells}
use Rattle.loop_store.specs.Steps.{LeavesSteps}

-- the failures with each of these
abbrev pub with_each : List (Option DiskFault) → Failures → Failures
with_each failed failures = after_all (λ before one. with_failed one before) failures failed

-- what a run of calls keeps of a disk, where these are the calls of the disk that failed
pub record CalledEach (old new : Medium) (failed : List (Option DiskFault)) : Type 0 where
  pub size : new.size ≡ old.size
  pub honest : old.honest ↔ new.honest
  pub failures : new.failures ≡ with_each failed old.failures

-- what the store reports is what a state says
pub record TellsState {D : Type 0} (store : Seen D) (s : StoreState) : Type 0 where
  pub recording : Tells store s.recording
  pub version : store.version ≡ s.version
  pub keep : store.keep ≡ s.keep
  pub must_reopen : store.must_reopen ≡ s.must_reopen

-- the store stands for a state
pub record Stands {D : Type 0} (medium : D → Medium) (store : Seen D) (s : StoreState) : Type 0 where
  pub recording : StandsFor medium store s.recording
  pub version : store.version ≡ s.version
  pub keep : store.keep ≡ s.keep
  pub must_reopen : store.must_reopen ≡ s.must_reopen

-- The answers hold for each state that the store reported, and there is one, whatever the disk. What a crash leaves,
-- what reads give, and that reads leave the disk as it was, is said of an honest disk.
pub record Goes {D : Type 0} (medium : D → Medium) (old new : Seen D) (calls : List Call) : Type 0 where
  pub one : TellsOne old
  -- each answer is the model's; so is what a read gives, where the store stood for the state on an honest disk
  pub answers : (s : StoreState) → TellsState old s
      → AreAnswered ((medium old.disk).honest × Stands medium old s) (ring_of old.geometry) s calls
  -- the store reports the state after them
  pub tells : (s : StoreState) → TellsState old s → TellsState new (after_calls (ring_of old.geometry) s calls)
  -- and stands for it where it stood for the first
  pub stands : (s : StoreState) → Stands medium old s → Stands medium new (after_calls (ring_of old.geometry) s calls)
  -- whatever the moment of a crash, the image reads as the recording after a prefix of the steps, and at the end after
  -- all that were made
  pub leaves : (s : StoreState) → Stands medium old s → (medium old.disk).honest → s.must_reopen ≡ false
      → LeavesSteps old.geometry s.recording (made_in (ring_of old.geometry) s calls)
      (begun_in (ring_of old.geometry) s calls) (medium old.disk) (medium new.disk)
  -- calls that write nothing leave the disk as it was, with all that a crash may leave of it
  pub looks : list_all is_look calls ≡ true → (medium old.disk).honest → Stays (medium old.disk) (medium new.disk)
  -- where each was refused before the disk was called, or there is none, nothing changes
  pub unmoved : list_all was_refused calls ≡ true → new ≡ old
  pub geometry : new.geometry ≡ old.geometry
  pub called : CalledEach (medium old.disk) (medium new.disk) (map failed_for calls)
