-- The desk: frames that wait before a store, and what each call makes of them. The store's own calls say what a call
-- makes of the store.
use Rattle.std.specs.Prelude.{◌≡◌, ℕ, ◌+◌, ◌-◌, ◌%◌, ◌==◌, not, min, Bool, true, false, if◌then◌else◌, Option, Some, None, Result, Ok, Err, List, [], ◌∷◌, ◌++◌, length, slice_get, take, drop}
use Rattle.std.specs.List.{flat_map}
use Rattle.std.specs.Result.{result_map_both}
use Rattle.loop_disk.specs.declared.fault.DiskFault.{DiskFault}
use Rattle.loop_record.specs.declared.clip.Span.{Span}
use Rattle.loop_record.specs.declared.frame.FrameHead.{FrameHead}
use Rattle.loop_record.specs.declared.geometry.Geometry.{Geometry}
use Rattle.loop_record.specs.declared.times.Times.{Times}
use Rattle.loop_record.specs.Geometry.{frame_bytes}
use Rattle.loop_record.specs.Times.{AreRuns, numbers_in_time}
use Rattle.loop_record.specs.Recording.{Picture, Step, last_number, ring_of, store}
use Rattle.loop_record.specs.Turns.{after_all, told_in, EachIn}
use Rattle.loop_store.specs.Calls.{AreAnswered, Call, StoreState, after_calls, appended, locked, unlocked, upgraded, was_read}
use Rattle.loop_store.specs.Faults.{failed_in}
use Rattle.loop_store.specs.declared.fault.StoreFault.{StoreFault}
use Rattle.loop_store.specs.declared.fault.StoreFault.TheVariants.{MustReopen, NumbersSpent, PendingFull, WrongSize}
use Rattle.loop_desk.specs.declared.limits.DeskLimits.{DeskLimits}
use Rattle.loop_desk.specs.declared.limits.Flushed.{Flushed}
use Rattle.loop_desk.specs.declared.limits.Status.{Status}

-- what doesn't change: the geometry, and the limits
pub record Rules : Type 0 where
  pub geometry : Geometry
  pub limits : DeskLimits

-- A call and its answer. A submitted frame comes with the count of its bytes, so that a history without pixels says the
-- same of it. Each call returns one run of the held frames of a time, by its place, so that all answers have the same
-- size.
pub data DeskCall : Type 0 where
  submitted : Picture → ℕ → Result ℕ StoreFault → DeskCall
  flushed : Result Flushed StoreFault → DeskCall
  clip_locked : Span → Result ℕ StoreFault → DeskCall
  clip_unlocked : ℕ → Result (Unit {0}) StoreFault → DeskCall
  frame_read : ℕ → Result (FrameHead × List ℕ) StoreFault → DeskCall
  status_told : Status → DeskCall
  layout_upgraded : Result Bool StoreFault → DeskCall
  run_told : Times → ℕ → Option Span → DeskCall

-- what is recorded and in which version of the layout, how many of the newest blocks are kept, whether a call that
-- writes has failed, and what waits
pub record DeskState : Type 0 where
  pub store : StoreState
  pub pending : List Picture

-- ---- the calls of the store

-- the frames that a flush stores: the first that wait, as many as a group may have and the block of the next number has
-- room for
abbrev pub group_of : Rules → DeskState → List Picture
group_of k s =
    take (min k.limits.group (k.geometry.slots - s.store.recording.next % k.geometry.slots)) s.pending

-- a flush appends its group, if that has a frame; the append answered with the first number, or with that refusal
abbrev pub append_of : List Picture → Result Flushed StoreFault → List Call
append_of [] result = []
append_of (p ∷ ps) result = appended (p ∷ ps) (result_map_both (λ f. f.first) (λ fault. fault) result) ∷ []

-- the calls of the store that a call makes, with their answers
abbrev pub store_calls : Rules → DeskState → DeskCall → List Call
store_calls k s (flushed result) = append_of (group_of k s) result
store_calls k s (clip_locked span result) = locked span result ∷ []
store_calls k s (clip_unlocked id result) = unlocked id result ∷ []
store_calls k s (frame_read number result) = was_read number result ∷ []
store_calls k s (layout_upgraded result) = upgraded result ∷ []
store_calls k s _ = []

-- the call of the disk that failed, if the answer says that one did
abbrev pub desk_failed_for : DeskCall → Option DiskFault
desk_failed_for (submitted p size result) = failed_in result
desk_failed_for (flushed result) = failed_in result
desk_failed_for (clip_locked span result) = failed_in result
desk_failed_for (clip_unlocked id result) = failed_in result
desk_failed_for (frame_read number result) = failed_in result
desk_failed_for (layout_upgraded result) = failed_in result
desk_failed_for _ = None

-- ---- a desk after a call

-- a submitted frame waits after the others, and those that were stored no longer wait
abbrev pub pending_after : List Picture → DeskCall → List Picture
pending_after pending (submitted p size (Ok number)) = pending ++ p ∷ []
pending_after pending (flushed (Ok f)) = drop f.stored pending
pending_after pending _ = pending

abbrev pub desk_after : Rules → DeskState → DeskCall → DeskState
desk_after k s call = record {
  store = after_calls (ring_of k.geometry) s.store (store_calls k s call);
  pending = pending_after s.pending call;
}

-- ---- the answers

-- the answer to a submit of this many bytes: the number that the frame will have, or the first refusal that is due
abbrev pub submit_answer : Rules → DeskState → ℕ → Result ℕ StoreFault
submit_answer k s size =
    if s.store.must_reopen then Err MustReopen
    else if not (size == frame_bytes k.geometry) then Err WrongSize
    else if length s.pending == k.limits.pending then Err PendingFull
    else if (s.store.recording.next + length s.pending) == last_number (ring_of k.geometry) then Err NumbersSpent
    else Ok (s.store.recording.next + length s.pending)

-- the answer to a flush of a group: all of it was stored, or a refusal; an empty group is refused only because the
-- store must be reopened, any other as the append was
abbrev pub IsFlush : DeskState → List Picture → Result Flushed StoreFault → Type 0
IsFlush s group (Ok f) = (s.store.must_reopen ≡ false)
    × (f ≡ record { first = s.store.recording.next; stored = length group; left = length s.pending - length group })
IsFlush s [] (Err fault) = (fault ≡ MustReopen) × (s.store.must_reopen ≡ true)
IsFlush s (p ∷ ps) (Err fault) = Unit {0}

-- a status: the store's next number, and how many frames are held and wait
pub record IsStatus (s : DeskState) (status : Status) : Type 0 where
  pub next : status.next ≡ s.store.recording.next
  pub held : status.held ≡ length s.store.recording.frames
  pub pending : status.pending ≡ length s.pending
  pub must_reopen : status.must_reopen ≡ s.store.must_reopen

-- The desk's own part of an answer; all else is the answer of the store's call. A time's run is the one at its place,
-- from 0; none if there are no more.
abbrev pub IsDeskTold : Rules → DeskState → DeskCall → Type 0
IsDeskTold k s (submitted p size result) = result ≡ submit_answer k s size
IsDeskTold k s (flushed result) = IsFlush s (group_of k s) result
IsDeskTold k s (status_told status) = IsStatus s status
IsDeskTold k s (run_told times place run) =
    (runs : List Span) × (AreRuns (numbers_in_time times s.store.recording) runs × (slice_get runs place ≡ run))
IsDeskTold k s _ = Unit {0}

-- the whole answer of a desk whose disk is honest
abbrev pub IsDeskAnswer : Rules → DeskState → DeskCall → Type 0
IsDeskAnswer k s call =
    IsDeskTold k s call × AreAnswered (Unit {0}) (ring_of k.geometry) s.store (store_calls k s call)

-- ---- lists of calls

-- the calls of the store, one after the other
abbrev pub store_calls_in : Rules → DeskState → List DeskCall → List Call
store_calls_in k s calls = told_in (desk_after k) (store_calls k) s calls

-- the desk's own part of each answer is right at its point
abbrev pub AreTold : Rules → DeskState → List DeskCall → Type 0
AreTold k s calls = EachIn (desk_after k) (IsDeskTold k) s calls

-- the state after calls, and that each was answered so at its point
abbrev pub desk_after_calls : Rules → DeskState → List DeskCall → DeskState
desk_after_calls k s calls = after_all (desk_after k) s calls

abbrev pub AreDeskAnswers : Rules → DeskState → List DeskCall → Type 0
AreDeskAnswers k s calls = EachIn (desk_after k) (IsDeskAnswer k) s calls

-- ---- the runs of a time

-- the calls that return runs one by one, from a place on, and then that there are no more
abbrev pub runs_told : Times → ℕ → List Span → List DeskCall
runs_told times place [] = run_told times place None ∷ []
runs_told times place (run ∷ runs) = run_told times place (Some run) ∷ runs_told times (place + 1) runs

-- ---- the frames of calls

-- the frame of a submit that was answered
abbrev pub frame_accepted : DeskCall → List Picture
frame_accepted (submitted p size (Ok number)) = p ∷ []
frame_accepted _ = []

-- those of calls, in order
abbrev pub accepted_in : List DeskCall → List Picture
accepted_in calls = flat_map frame_accepted calls

-- the frame of a step that stores one
abbrev pub stored_by : Step → List Picture
stored_by (store p) = p ∷ []
stored_by _ = []

-- the frames that steps store, in order
abbrev pub frames_stored : List Step → List Picture
frames_stored steps = flat_map stored_by steps
