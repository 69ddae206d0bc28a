-- The front of a lane: a queue with its table of fds, and the hand, which has what was taken from the queue.
use Rattle.std.specs.Prelude.{◌≡◌, ℕ, Bool, true, false, cond, ◌==◌, is_some, IfOk, MatchBool, List, [], ◌∷◌, ◌++◌, map, take, slice_get, Option, Some, None, option_to_list, Result, Ok, Err}
use Rattle.std.specs.Option.{option_map_or}
use Rattle.loop_plane.specs.Plane.{Plane}
use Rattle.loop_plane.specs.Fds.{Fds}
use Rattle.loop_plane.specs.declared.memory.Memory.{Memory}
use Rattle.loop_record.specs.Recording.{Picture, picture}
use Rattle.loop_record.specs.Turns.{Machine, Turns, after_all}
use Rattle.loop_store.specs.declared.fault.StoreFault.{StoreFault}
use Rattle.loop_store.specs.declared.fault.StoreFault.TheVariants.{NoMemory, WrongSize, HandFull, HandEmpty}
use Rattle.loop_vb2.specs.declared.buffer.Buffer.{Buffer}
use Rattle.loop_vb2.specs.declared.planes.PlaneSet.{PlaneSet}
use Rattle.loop_vb2.specs.declared.planes.Shape.{Shape}
use Rattle.loop_vb2.specs.declared.reason.Reason.TheVariants.{HandHolds}
use Rattle.loop_vb2.specs.declared.state.BufferState.{BufferState}
use Rattle.loop_vb2.specs.declared.state.BufferState.TheVariants.{Error}
use Rattle.loop_vb2.specs.Answers.{buffer_answer}
use Rattle.loop_vb2.specs.Buffers.{handed_over}
use Rattle.loop_vb2.specs.Errnos.{errno}
use Rattle.loop_vb2.specs.Events.{Event, MayHappen, after_event, dqbuf, qbuf}
use Rattle.loop_vb2.specs.Flags.{dequeue_bits}
use Rattle.loop_vb2.specs.Planes.{number_at, bytes_in, plane_in, read_given}
use Rattle.loop_vb2.specs.State.{Body, Lined, QueueState}
use Rattle.loop_ioctl.specs.declared.call.Ioctl.TheVariants as call
use Rattle.loop_ioctl.specs.declared.events.QueueEvent.{QueueEvent}
use Rattle.loop_ioctl.specs.declared.events.QueueEvent.TheVariants as event
use Rattle.loop_ioctl.specs.declared.events.QueueReply.{QueueReply}
use Rattle.loop_ioctl.specs.declared.events.QueueReply.TheVariants as answer
use Rattle.loop_ioctl.specs.Attached.{values_by_fd}
use Rattle.loop_ioctl.specs.Calls.{IoctlState, StandsIoctl, HandsBack, memory_given, planes_given, supply_given}
use Rattle.loop_ioctl.specs.Events.{is_whole, IsTold, state_after}
use Rattle.loop_ioctl.specs.Modelled.{event_of}
use Rattle.loop_desk.specs.declared.hand.Hand.{Hand}
use Rattle.loop_desk.specs.declared.hand.Hand.TheVariants as hand
use Rattle.loop_desk.specs.declared.hand.LaneFault.{LaneFault}
use Rattle.loop_desk.specs.declared.hand.LaneFault.TheVariants.{Store, Queue}

-- ---- the hand

-- nothing, a buffer with its frame, or a buffer whose frame is gone; a buffer with those of its planes that aren't the
-- queue's
pub data HandState : Type 0 where
  empty : HandState
  full : ℕ → Picture → Option (PlaneSet Plane) → HandState
  spent : ℕ → Option (PlaneSet Plane) → HandState

abbrev pub hand_state : {P A : Type 0} → (P → Plane) → Hand P A → HandState
hand_state meaning hand.Empty = empty
hand_state meaning (hand.Frame index frame planes) = full index (picture frame) (read_given meaning planes)
hand_state meaning (hand.Spent index planes) = spent index (read_given meaning planes)

-- the frame in the hand
abbrev pub hand_frame : HandState → List Picture
hand_frame (full index p planes) = p ∷ []
hand_frame h = []

-- which buffer it has
abbrev pub index_in : HandState → Option ℕ
index_in empty = None
index_in (full index p planes) = Some index
index_in (spent index planes) = Some index

-- its planes
abbrev pub planes_held : HandState → Option (PlaneSet Plane)
planes_held empty = None
planes_held (full index p planes) = planes
planes_held (spent index planes) = planes

-- ---- the front

pub record Front : Type 0 where
  pub queue : IoctlState
  pub hand : HandState

-- the kind of the queue's memory
abbrev pub kind_of : IoctlState → Memory
kind_of j = j.queue.body.kind

-- queue, table and hand stand for a front: the planes of the hand are those that are out of the queue, each with
-- its fd, which is attached
pub record StandsFront {P A : Type 0} (meaning : P → Plane) (code : Lined P) (table : Fds P) (held : Hand P A)
    (f : Front) : Type 0 where
  pub queue : StandsIoctl meaning code table f.queue
  pub hand : hand_state meaning held ≡ f.hand
  pub out : f.queue.out ≡ values_by_fd (kind_of f.queue) (option_to_list (planes_held f.hand))

-- ---- the frame of a buffer

-- its part in a plane: the bytes that were used, as far as they are there, and no more than the shape gives it
abbrev pub part : Shape → Buffer Plane → ℕ → List ℕ
part shape b i = take (number_at shape.sizes i) (take (number_at b.used i) (bytes_in (plane_in b.planes i)))

abbrev pub taken_frame : Shape → Buffer Plane → Picture
taken_frame shape b = record {
  sequence = b.stamp.sequence;
  flags = dequeue_bits b.state b.mapped;
  timestamp = b.stamp.timestamp;
  bytes = part shape b 0 ++ (part shape b 1 ++ part shape b 2);
}

-- the device gave the buffer up
abbrev pub was_given_up : BufferState → Bool
was_given_up Error = true
was_given_up state = false

-- what the hand has of a buffer that was dequeued
abbrev pub hand_of : Body Plane → ℕ → Buffer Plane → HandState
hand_of body index b =
    cond (was_given_up b.state) (spent index (handed_over body.kind b.planes))
    (full index (taken_frame body.shape b) (handed_over body.kind b.planes))

-- ---- turns

-- An event of the front with its reply.
pub data Turn (P A : Type 0) : Type 0 where
  on_queue : QueueEvent P A → Result (QueueReply P A) LaneFault → Turn P A
  dequeued : Result ℕ LaneFault → Turn P A
  requeued : Result ℕ LaneFault → Turn P A
  offered : Result ℕ StoreFault → Turn P A

module _ {P A : Type 0} where
  -- the hand forbids REQBUFS, and QBUF and PREPARE_BUF of its buffer
  abbrev pub forbids : Option ℕ → QueueEvent P A → Bool
  forbids held (event.Ioctl (call.ReqBufs type count kind supply)) = is_some held
  forbids held (event.Ioctl c) = option_map_or (λ b. option_map_or (λ i. i == b.0) held false) (memory_given c) false
  forbids held e = false

  -- the answer then: all that the call brought comes back
  abbrev pub IsForbidden : QueueEvent P A → QueueReply P A → Type 0
  IsForbidden (event.Ioctl c) (answer.Ioctl (Err r)) =
      (r.errno ≡ errno HandHolds) × HandsBack (planes_given c) (supply_given c) r
  IsForbidden e r = ⊥

-- ---- what a turn does to the front

-- the queue's own event, where the hand asks for a buffer
abbrev pub dequeue_event : IoctlState → Result ℕ LaneFault → List Event
dequeue_event j (Ok index) =
    map (λ b. dqbuf (Ok (buffer_answer (kind_of j) index b))) (option_to_list (slice_get j.queue.body.buffers index))
dequeue_event j (Err (Queue e)) = dqbuf (Err e) ∷ []
dequeue_event j (Err (Store fault)) = []

-- and where it queues its buffer again
abbrev pub requeue_event : Memory → HandState → Result ℕ LaneFault → List Event
requeue_event kind (spent index planes) (Ok i) = qbuf index kind planes None ∷ []
requeue_event kind (spent index planes) (Err (Queue e)) = qbuf index kind planes (Some e) ∷ []
requeue_event kind h result = []

-- the queue after these events, and a hand whose planes are out of it
abbrev pub with_hand : IoctlState → List Event → HandState → Front
with_hand j events h = record {
  queue = record j {
    queue = after_all after_event j.queue events;
    out = values_by_fd (kind_of j) (option_to_list (planes_held h));
  };
  hand = h;
}

-- the hand after a submit: its frame is gone where it was accepted
abbrev pub hand_given : HandState → Result ℕ StoreFault → HandState
hand_given (full index p planes) (Ok number) = spent index planes
hand_given h result = h

module _ {P A : Type 0} (meaning : P → Plane) where
  abbrev pub front_after : Front → Turn P A → Front
  front_after f (on_queue e (Ok r)) =
      record f { queue = cond (forbids (index_in f.hand) e) f.queue (state_after meaning e r f.queue) }
  front_after f (dequeued (Ok index)) =
      with_hand f.queue (dequeue_event f.queue (Ok index))
      (option_map_or (hand_of f.queue.queue.body index) (slice_get f.queue.queue.body.buffers index) empty)
  front_after f (requeued (Ok index)) = with_hand f.queue (requeue_event (kind_of f.queue) f.hand (Ok index)) empty
  front_after f (offered result) = record f { hand = hand_given f.hand result }
  front_after f t = f

  -- Which event of the queue's own model a turn is: none if the hand forbids it, or if the state of the hand or want of
  -- memory refuses it.
  abbrev pub front_event : Front → Turn P A → List Event
  front_event f (on_queue e (Ok r)) = cond (forbids (index_in f.hand) e) [] (event_of meaning e r f.queue)
  front_event f (dequeued result) = dequeue_event f.queue result
  front_event f (requeued result) = requeue_event (kind_of f.queue) f.hand result
  front_event f t = []

-- ---- the replies

-- this is one event of the queue, and it may happen
abbrev pub IsOneEvent : QueueState → List Event → Type 0
IsOneEvent s (e ∷ []) = MayHappen s e
IsOneEvent s events = ⊥

-- an empty hand takes what the queue's DQBUF answers, where there is memory for a frame
abbrev pub IsDequeue : IoctlState → HandState → Result ℕ LaneFault → Type 0
IsDequeue j empty (Err (Store fault)) = fault ≡ NoMemory
IsDequeue j empty result = IsOneEvent j.queue (dequeue_event j result)
IsDequeue j h result = result ≡ Err (Store HandFull)

-- a buffer whose frame is gone is queued again, as the queue's QBUF answers
abbrev pub IsRequeue : IoctlState → HandState → Result ℕ LaneFault → Type 0
IsRequeue j empty result = result ≡ Err (Store HandEmpty)
IsRequeue j (full i p planes) result = result ≡ Err (Store HandFull)
IsRequeue j (spent i planes) result =
    IsOneEvent j.queue (requeue_event (kind_of j) (spent i planes) result) × IfOk result (λ index. index ≡ i)

-- only a frame is offered to the desk
abbrev pub IsSubmit : HandState → Result ℕ StoreFault → Type 0
IsSubmit (full i p planes) result = Unit {0}
IsSubmit h result = result ≡ Err HandEmpty

module _ {P A : Type 0} (meaning : P → Plane) where
  -- the reply is the model's; a Complete whose length isn't a frame's is refused before all else, then what the hand
  -- forbids
  abbrev pub IsFrontTurn : Front → Turn P A → Type 0
  IsFrontTurn f (on_queue e (Ok r)) =
      (is_whole f.queue.queue.body.shape e ≡ true)
      × MatchBool (forbids (index_in f.hand) e) (IsForbidden e r) (IsTold meaning e r f.queue)
  IsFrontTurn f (on_queue e (Err fault)) = (is_whole f.queue.queue.body.shape e ≡ false) × (fault ≡ Store WrongSize)
  IsFrontTurn f (dequeued result) = IsDequeue f.queue f.hand result
  IsFrontTurn f (requeued result) = IsRequeue f.queue f.hand result
  IsFrontTurn f (offered result) = IsSubmit f.hand result

  -- the front as a machine, and one turn of it by queue, table and hand
  abbrev pub front_machine : Machine Front (Turn P A)
  front_machine = record { after = front_after meaning; May = IsFrontTurn }

  abbrev pub FrontTurns : Lined P → Fds P → Hand P A → Turn P A → Lined P → Fds P → Hand P A → Type 0
  FrontTurns code table held turn new_code new_table new_held =
      Turns front_machine (StandsFront meaning code table held) (StandsFront meaning new_code new_table new_held) turn

  -- likewise with any table, which the turn leaves
  abbrev pub TurnsBeside : Lined P → Hand P A → Turn P A → Lined P → Hand P A → Type 0
  TurnsBeside code held turn new_code new_held =
      (table : Fds P) → FrontTurns code table held turn new_code table new_held
