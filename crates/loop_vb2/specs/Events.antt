-- A queue's life as a list of events, each with its answer: which answers the model gives, and the state after them.
use Rattle.std.specs.Prelude.{◌≡◌, ◌⊎◌, ℕ, Bool, true, false, ◌==◌, List, [], ◌∷◌, Option, Some, None, option_map, map, Result, Ok, Err, take, drop, slice_get}
use Rattle.std.specs.Result.{result_err}
use Rattle.loop_plane.specs.Plane.{Plane}
use Rattle.loop_plane.specs.declared.memory.Memory.{Memory}
use Rattle.loop_record.specs.Turns.{Machine, Turns}
use Rattle.loop_vb2.specs.declared.buffer.Buffer.{Buffer}
use Rattle.loop_vb2.specs.declared.buffer.BufferInfo.{BufferInfo}
use Rattle.loop_vb2.specs.declared.buffer.Dequeued.{Dequeued}
use Rattle.loop_vb2.specs.declared.buffer.Stamp.{Stamp}
use Rattle.loop_vb2.specs.declared.planes.PlaneSet.{PlaneSet}
use Rattle.loop_vb2.specs.declared.reason.Errno.{Errno}
use Rattle.loop_vb2.specs.declared.reason.Reason.TheVariants.{NoMemory}
use Rattle.loop_vb2.specs.declared.reason.Refused.{Refused}
use Rattle.loop_vb2.specs.declared.request.Granted.{Granted}
use Rattle.loop_vb2.specs.Answers.{Passes, IsRefusal, IsAnswer, IsInfo, buffer_answer, read_answer}
use Rattle.loop_vb2.specs.Buffers.{prepared_with, completed_by, failed_with, dequeued_from, bytes_at, used_at}
use Rattle.loop_vb2.specs.Checks.{queue_checks, prepare_checks, dequeue_checks, stream_on_checks, query_checks, map_checks, unmap_checks, take_checks, copy_checks, end_checks, request_checks}
use Rattle.loop_vb2.specs.Effects.{after_queue, end_buffer, on_body, change_buffer, first_ended, body_streaming, body_stopped}
use Rattle.loop_vb2.specs.Errnos.{errno}
use Rattle.loop_vb2.specs.Requests.{grants_or_none, left_in, body_requested}
use Rattle.loop_vb2.specs.State.{QueueState, Lined, StandsQueue}
use Rattle.loop_vb2.specs.Planes.{read_set, slot_filled}

-- what a request is granted: a number of buffers, and the planes that lay in the old ones
pub record Grant : Type 0 where
  pub count : ℕ
  pub left : List (PlaneSet Plane)

-- an event and its answer; where nothing else is answered, that is the refusal or None
pub data Event : Type 0 where
  -- the application's: the ioctls by their names, planes taken out of a buffer, and bytes copied out of one of
  -- its planes, from a place on
  reqbufs : ℕ → Memory → List (PlaneSet Plane) → Result Grant Errno → Event
  prepare_buf : ℕ → Memory → Option (PlaneSet Plane) → Option Errno → Event
  qbuf : ℕ → Memory → Option (PlaneSet Plane) → Option Errno → Event
  dqbuf : Result (Dequeued Plane) Errno → Event
  streamon : Option Errno → Event
  streamoff : Event
  querybuf : ℕ → Result BufferInfo Errno → Event
  mmap : ℕ → Option Errno → Event
  munmap : ℕ → Option Errno → Event
  take_planes : ℕ → Result (PlaneSet Plane) Errno → Event
  copy_plane : ℕ → ℕ → ℕ → ℕ → Result (List ℕ) Errno → Event
  -- the device's
  complete : ℕ → Stamp → List ℕ → Option Errno → Event
  fail : ℕ → Stamp → Option Errno → Event
  fatal : Event
  take_fresh : Bool → Event

-- the state after an event: one that is refused, and one that only looks, leave it
abbrev pub after_event : QueueState → Event → QueueState
after_event s (reqbufs count kind sets (Ok g)) = on_body (body_requested count kind sets) s
after_event s (prepare_buf index kind given None) = change_buffer (prepared_with given) index s
after_event s (qbuf index kind given None) = after_queue index given s
after_event s (dqbuf (Ok d)) = change_buffer (dequeued_from s.body.kind) d.index s
after_event s (streamon None) = on_body body_streaming s
after_event s streamoff = on_body body_stopped s
after_event s (mmap index None) = change_buffer (λ b. record b { mapped = true }) index s
after_event s (munmap index None) = change_buffer (λ b. record b { mapped = false }) index s
after_event s (take_planes index (Ok set)) = change_buffer (λ b. record b { planes = None }) index s
after_event s (complete index stamp bytes None) = end_buffer (completed_by slot_filled s.body.shape stamp bytes) index s
after_event s (fail index stamp None) = end_buffer (failed_with stamp) index s
after_event s fatal = on_body (λ b. record b { fatal = true }) s
after_event s (take_fresh fresh) = on_body (λ b. record b { fresh = false }) s
after_event s event = s

-- the answer is one that the model gives in this state
abbrev pub MayHappen : QueueState → Event → Type 0
MayHappen s (reqbufs count kind sets (Ok g)) =
    Passes (request_checks count kind sets s.body) × (g.count ≡ grants_or_none s.body.min_queued count)
    × (g.left ≡ left_in s.body.kind s.body.buffers)
MayHappen s (reqbufs count kind sets (Err e)) =
    IsRefusal (request_checks count kind sets s.body) (Some e)
    ⊎ (Passes (request_checks count kind sets s.body) × (e ≡ errno NoMemory))
MayHappen s (prepare_buf index kind given refusal) = IsRefusal (prepare_checks index kind given s.body) refusal
MayHappen s (qbuf index kind given refusal) = IsRefusal (queue_checks index kind given s.body) refusal
MayHappen s (dqbuf (Ok d)) =
    Passes (dequeue_checks s.body) × (first_ended s ≡ Some d.index)
    × ((b : Buffer Plane) × (slice_get s.body.buffers d.index ≡ Some b) × (d ≡ buffer_answer s.body.kind d.index b))
MayHappen s (dqbuf (Err e)) = IsRefusal (dequeue_checks s.body) (Some e)
MayHappen s (streamon refusal) = IsRefusal (stream_on_checks s.body) refusal
MayHappen s (querybuf index result) = IsAnswer (query_checks index s.body) result
    (λ info. (b : Buffer Plane) × (slice_get s.body.buffers index ≡ Some b) × IsInfo b info)
MayHappen s (mmap index refusal) = IsRefusal (map_checks index s.body) refusal
MayHappen s (munmap index refusal) = IsRefusal (unmap_checks index s.body) refusal
MayHappen s (take_planes index result) = IsAnswer (take_checks index s.body) result
    (λ set. (b : Buffer Plane) × (slice_get s.body.buffers index ≡ Some b) × (b.planes ≡ Some set))
MayHappen s (copy_plane index plane at count result) =
    IsAnswer (copy_checks index plane at count (used_at s.body.buffers index plane) s.body) result
    (λ bytes. bytes ≡ take count (drop at (bytes_at s.body.buffers index plane)))
MayHappen s (complete index stamp bytes refusal) = IsRefusal (end_checks index s.body) refusal
MayHappen s (fail index stamp refusal) = IsRefusal (end_checks index s.body) refusal
MayHappen s (take_fresh fresh) = fresh ≡ s.body.fresh
MayHappen s _ = Unit {0}

-- the model of a queue
abbrev pub queue_machine : Machine QueueState Event
queue_machine = record { after = after_event; May = MayHappen }

-- from each state that the queue stands for, the event is answered so, and the queue stands for the state after it
abbrev pub Happens : {P : Type 0} → (P → Plane) → Lined P → Lined P → Event → Type 0
Happens meaning before now event = Turns queue_machine (StandsQueue meaning before) (StandsQueue meaning now) event

-- ---- the answer of a call, as its event has it

module _ {P : Type 0} where
  -- a call that is given planes
  abbrev pub refusal_in : {U A : Type 0} → Result U (Refused P A) → Option Errno
  refusal_in result = option_map (λ r. r.errno) (result_err result)

  -- REQBUFS, DQBUF, and planes taken out, each plane read as what it means
  abbrev pub read_grant : {A : Type 0} → (P → Plane) → Result (Granted P A) (Refused P A) → Result Grant Errno
  read_grant meaning (Ok g) = Ok (record { count = g.count; left = map (read_set meaning) g.left.items })
  read_grant meaning (Err r) = Err r.errno

  abbrev pub read_frame : (P → Plane) → Result (Dequeued P) Errno → Result (Dequeued Plane) Errno
  read_frame meaning (Ok d) = Ok (read_answer meaning d)
  read_frame meaning (Err e) = Err e

  abbrev pub read_taken : (P → Plane) → Result (PlaneSet P) Errno → Result (PlaneSet Plane) Errno
  read_taken meaning (Ok set) = Ok (read_set meaning set)
  read_taken meaning (Err e) = Err e

-- bytes copied out
abbrev pub read_copy : {U : Type 0} → List ℕ → Result U Errno → Result (List ℕ) Errno
read_copy out (Ok _) = Ok out
read_copy out (Err e) = Err e

-- ---- what events say of the order of frames

-- the buffer that the device ended by the event
abbrev pub ended_by : Event → List ℕ
ended_by (complete index stamp bytes None) = index ∷ []
ended_by (fail index stamp None) = index ∷ []
ended_by _ = []

-- the buffer that the application got by the event
abbrev pub dequeued_by : Event → List ℕ
dequeued_by (dqbuf (Ok d)) = d.index ∷ []
dequeued_by _ = []

-- the event stops the stream: STREAMOFF, or REQBUFS 0
abbrev pub stops : Event → Bool
stops streamoff = true
stops (reqbufs count kind sets (Ok g)) = count == 0
stops _ = false
