-- What follows from the definitions, about every state and every list of events.
use Rattle.std.specs.Prelude.{◌≡◌, ◌⊎◌, ℕ, ◌+◌, Bool, true, false, ◌==◌, cond, List, [], ◌∷◌, ◌++◌, count_by, Some, None, Ok, option_to_list}
use Rattle.std.specs.List.{flat_map, list_any}
use Rattle.loop_plane.specs.Plane.{Plane}
use Rattle.loop_plane.specs.declared.memory.Memory.TheVariants.{Mmap}
use Rattle.loop_record.specs.Turns.{EachIn}
use Rattle.loop_vb2.specs.declared.buffer.Buffer.{Buffer}
use Rattle.loop_vb2.specs.declared.planes.PlaneSet.{PlaneSet}
use Rattle.loop_vb2.specs.declared.planes.Shape.{Shape}
use Rattle.loop_vb2.specs.declared.state.BufferState.{BufferState}
use Rattle.loop_vb2.specs.declared.state.BufferState.TheVariants.{Dequeued, Prepared, Queued, Done, Error}
use Rattle.loop_vb2.specs.Owner.{Application, Device, owner, activate}
use Rattle.loop_vb2.specs.Buffers.{state_at, holds_at}
use Rattle.loop_vb2.specs.Planes.{same_memory, set_filled}
use Rattle.loop_vb2.specs.Requests.{held_sets}
use Rattle.loop_vb2.specs.State.{Body, QueueState, InStep, Lined, StandsQueue}
use Rattle.loop_vb2.specs.Events.{Event, MayHappen, after_event, dequeued_by, ended_by, stops, reqbufs, prepare_buf, qbuf, dqbuf, streamon, streamoff, take_planes, copy_plane, complete, fail}

-- an event that is accepted acts for the buffer's owner: PREPARE_BUF, planes taken out and bytes copied for the
-- application, QBUF for the application too, which may have prepared it, the device's ends for the device, and DQBUF
-- for the queue, which has it as done or failed
abbrev pub ActsForOwner : List (Buffer Plane) → Event → Type 0
ActsForOwner bs (prepare_buf index kind given None) = owner (state_at bs index) ≡ Application
ActsForOwner bs (qbuf index kind given None) =
    (owner (state_at bs index) ≡ Application) ⊎ (state_at bs index ≡ Prepared)
ActsForOwner bs (dqbuf (Ok d)) = (state_at bs d.index ≡ Done) ⊎ (state_at bs d.index ≡ Error)
ActsForOwner bs (take_planes index (Ok set)) = owner (state_at bs index) ≡ Application
ActsForOwner bs (copy_plane index plane at count (Ok bytes)) = owner (state_at bs index) ≡ Application
ActsForOwner bs (complete index stamp bytes None) = owner (state_at bs index) ≡ Device
ActsForOwner bs (fail index stamp None) = owner (state_at bs index) ≡ Device
ActsForOwner bs e = Unit {0}

-- while the device runs each queued buffer is the device's
abbrev pub run_on : Bool → BufferState → BufferState
run_on started state = cond started (activate state) state

-- what an event makes of the state of the buffer of an index, where this says whether the device runs after it
abbrev pub turned_to : Event → Bool → ℕ → BufferState → BufferState
turned_to (prepare_buf index kind given None) started i state = cond (i == index) Prepared state
turned_to (qbuf index kind given None) started i state = run_on started (cond (i == index) Queued state)
turned_to (dqbuf (Ok d)) started i state = cond (i == d.index) Dequeued state
turned_to (streamon None) started i state = run_on started state
turned_to streamoff started i state = Dequeued
turned_to (reqbufs count kind sets (Ok g)) started i state = Dequeued
turned_to (complete index stamp bytes None) started i state = cond (i == index) Done state
turned_to (fail index stamp None) started i state = cond (i == index) Error state
turned_to e started i state = state

-- An accepted event acts for the buffer's owner, and the table says whose each buffer is after it: no buffer changes
-- hands otherwise. The state is one that is in step with the device, as each that a queue stands for is.
abbrev pub HandedOverByOwners : Type 0
HandedOverByOwners =
    (s : QueueState) (event : Event) → InStep s.body → MayHappen s event
    → ActsForOwner s.body.buffers event
    × ((i : ℕ) → state_at (after_event s event).body.buffers i
    ≡ turned_to event (after_event s event).body.started i (state_at s.body.buffers i))

-- the sets of planes that an event brings into buffers
abbrev pub brought_by : Event → List (PlaneSet Plane)
brought_by (reqbufs count kind sets (Ok g)) = sets
brought_by (prepare_buf index kind given None) = option_to_list given
brought_by (qbuf index kind given None) = option_to_list given
brought_by e = []

-- those that it hands out
abbrev pub handed_by : Event → List (PlaneSet Plane)
handed_by (reqbufs count kind sets (Ok g)) = g.left
handed_by (dqbuf (Ok d)) = option_to_list d.planes
handed_by (take_planes index (Ok set)) = set ∷ []
handed_by e = []

-- those that go with their buffers: REQBUFS drops the queue's own memory
abbrev pub dropped_by : Body Plane → Event → List (PlaneSet Plane)
dropped_by b (reqbufs count kind sets (Ok g)) = cond (same_memory b.kind Mmap) (held_sets b.buffers) []
dropped_by b e = []

-- a test of sets says the same of a set before and after the device fills it, where it does
abbrev pub IsBlindTo : Event → (PlaneSet Plane → Bool) → Type 0
IsBlindTo (complete index stamp bytes None) test =
    (shape : Shape) (set : PlaneSet Plane) → test (set_filled shape bytes set) ≡ test set
IsBlindTo e test = Unit {0}

-- where a set was handed out of one buffer, that buffer holds none
abbrev pub LeavesNone : List (Buffer Plane) → Event → Type 0
LeavesNone bs (dqbuf (Ok d)) = (set : PlaneSet Plane) → d.planes ≡ Some set → holds_at bs d.index ≡ false
LeavesNone bs (take_planes index (Ok set)) = holds_at bs index ≡ false
LeavesNone bs e = Unit {0}

-- A set of planes is in one place. The sets that the buffers hold after an accepted event, those that it hands out and
-- those that it drops are just those that the buffers held before and those that it brings, counted by any test of sets
-- that the bytes of a completed frame don't change; and a buffer whose set was handed out holds none.
abbrev pub SetsAreInOnePlace : Type 0
SetsAreInOnePlace =
    (s : QueueState) (event : Event) (test : PlaneSet Plane → Bool) → MayHappen s event → IsBlindTo event test
    → (count_by test (held_sets (after_event s event).body.buffers)
    + (count_by test (handed_by event) + count_by test (dropped_by s.body event))
    ≡ count_by test (held_sets s.body.buffers) + count_by test (brought_by event))
    × LeavesNone (after_event s event).body.buffers event

-- Between two events that stop the stream, the buffers dequeued are a prefix of those completed or failed, in that
-- order.
abbrev pub DequeuedInOrder : Type 0
DequeuedInOrder =
    (s : QueueState) (stop : Event) (events : List Event) → stops stop ≡ true → list_any stops events ≡ false
    → EachIn after_event MayHappen s (stop ∷ events)
    → (rest : List ℕ) × (flat_map ended_by events ≡ flat_map dequeued_by events ++ rest)

-- Some events, and those after them: the buffers that were done before, and then those that the device completed or
-- failed, are those that were dequeued, in that order, and then others. If no event follows, these are the buffers that
-- are done now.
abbrev pub InTurn : List ℕ → List Event → List Event → List ℕ → Type 0
InTurn done part behind now =
    (others : List ℕ) × (done ++ flat_map ended_by part ≡ flat_map dequeued_by part ++ others)
    × (behind ≡ [] → others ≡ now)

-- a queue that doesn't stream has nothing done
abbrev pub IsStill : {P : Type 0} → Lined P → Type 0
IsStill code = code.body.streaming ≡ false → code.done ≡ []

-- A queue's events, from this value of the queue to that: buffers are dequeued in the order in which they ended, up
-- to the next stop of the stream,
pub record KeepsOrder {P : Type 0} (old new : Lined P) (events : List Event) : Type 0 where
  -- from the start on, if the queue streamed or nothing was done,
  pub from_start : (part behind : List Event) → events ≡ part ++ behind → list_any stops part ≡ false
      → IsStill old → InTurn old.done part behind new.done
  -- and from each stop of the stream on;
  pub from_stop : (before part behind : List Event) (stop : Event) → events ≡ before ++ stop ∷ (part ++ behind)
      → stops stop ≡ true → list_any stops part ≡ false → InTurn [] part behind new.done
  -- and where it had nothing done unless it streamed, so it is after them.
  pub still : IsStill old → IsStill new

-- A queue without buffers has nothing done.
abbrev pub NewQueuesAreStill : {P : Type 0} → (P → Plane) → Type 0
NewQueuesAreStill {P} meaning =
    (code : Lined P) (s : QueueState) → StandsQueue meaning code s → s.body.buffers ≡ [] → IsStill code
