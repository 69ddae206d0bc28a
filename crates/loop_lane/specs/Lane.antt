-- A lane: the front, which is a queue, its table of fds and a hand, and after it a desk. What the front does never
-- depends on the desk's state; events, replies and the hand say which calls the desk gets.
use Rattle.std.specs.Prelude.{◌≡◌, ℕ, Bool, true, false, if◌then◌else◌, None, Result, Ok, List, [], ◌∷◌, ◌++◌, length, map}
use Rattle.std.specs.List.{flat_map, list_any, zip}
use Rattle.loop_plane.specs.Plane.{Plane}
use Rattle.loop_disk.specs.Medium.{Medium}
use Rattle.loop_record.specs.declared.geometry.PixelFormat.{PixelFormat}
use Rattle.loop_record.specs.Recording.{Picture}
use Rattle.loop_record.specs.Turns.{after_all, told_in, EachIn, Plays}
use Rattle.loop_store.specs.declared.fault.StoreFault.{StoreFault}
use Rattle.loop_store.specs.Calls.{StoreState}
use Rattle.loop_store.specs.Goes.{Stands}
use Rattle.loop_store.specs.Runs.{read_of}
use Rattle.loop_vb2.specs.Events as model
use Rattle.loop_vb2.specs.Events.{Event, stops}
use Rattle.loop_vb2.specs.First.{shape_of}
use Rattle.loop_vb2.specs.Laws.{KeepsOrder}
use Rattle.loop_ioctl.specs.declared.call.Ioctl.TheVariants as call
use Rattle.loop_ioctl.specs.declared.events.QueueEvent.{QueueEvent}
use Rattle.loop_ioctl.specs.declared.events.QueueEvent.TheVariants as queue_event
use Rattle.loop_ioctl.specs.Types.{same_type, type_of}
use Rattle.loop_lane.specs.declared.event.LaneEvent.{LaneEvent}
use Rattle.loop_lane.specs.declared.event.LaneEvent.TheVariants as event
use Rattle.loop_lane.specs.declared.event.LaneReply.{LaneReply}
use Rattle.loop_lane.specs.declared.event.LaneReply.TheVariants as reply
use Rattle.loop_lane.specs.declared.lane.Lane.{Lane}
use Rattle.loop_desk.specs.Desk.{DeskCall, frame_accepted, accepted_in, clip_locked, clip_unlocked, flushed, frame_read, submitted}
use Rattle.loop_desk.specs.Footage.{KeepsFootage}
use Rattle.loop_desk.specs.Front.{Front, HandState, IsFrontTurn, IsSubmit, StandsFront, Turn, dequeued, front_after, front_event, full, hand_frame, hand_state, on_queue, requeued, offered}
use Rattle.loop_desk.specs.Seen.{DeskGoes}
use Rattle.loop_desk.specs.Waiting.{completed_frame, without_flags}

-- ---- what an event and its reply are

-- A turn of the front, or a call of the desk, or a reply of another event.
pub data LaneTurn (P A : Type 0) : Type 0 where
  at_front : Turn P A → LaneTurn P A
  at_desk : DeskCall → LaneTurn P A
  mixed : LaneTurn P A

module _ {P A : Type 0} where
  -- an ioctl DQBUF of the queue's own type
  abbrev pub is_dequeue : PixelFormat → QueueEvent P A → Bool
  is_dequeue format (queue_event.Ioctl (call.DqBuf type)) = same_type type (type_of format)
  is_dequeue format e = false

  -- at a queue of this format
  abbrev pub turn_of : PixelFormat → LaneEvent P A → LaneReply P A → LaneTurn P A
  turn_of format (event.Queue e) (reply.Queue result) =
      if is_dequeue format e then mixed else at_front (on_queue e result)
  turn_of format (event.Queue e) (reply.Dequeue result) =
      if is_dequeue format e then at_front (dequeued result) else mixed
  turn_of format event.Dequeue (reply.Dequeue result) = at_front (dequeued result)
  turn_of format event.Submit (reply.Submit result) = at_front (offered result)
  turn_of format event.Requeue (reply.Requeue result) = at_front (requeued result)
  turn_of format event.Flush (reply.Flush result) = at_desk (flushed result)
  turn_of format (event.Lock span) (reply.Lock result) = at_desk (clip_locked span result)
  turn_of format (event.Unlock id) (reply.Unlock result) = at_desk (clip_unlocked id result)
  turn_of format (event.Read number) (reply.Read result) = at_desk (frame_read number (read_of result))
  turn_of format e p = mixed

  -- at this front
  abbrev pub turn_at : Front → LaneEvent P A × LaneReply P A → LaneTurn P A
  turn_at f x = turn_of f.queue.queue.body.format x.0 x.1

-- the desk's call where the hand's frame is submitted
abbrev pub submit_calls : HandState → Result ℕ StoreFault → List DeskCall
submit_calls (full index p planes) result = submitted p (length p.bytes) result ∷ []
submit_calls h result = []

module _ {P A : Type 0} where
  -- the desk's calls of a turn
  abbrev pub calls_of_turn : HandState → LaneTurn P A → List DeskCall
  calls_of_turn h (at_front (offered result)) = submit_calls h result
  calls_of_turn h (at_desk c) = c ∷ []
  calls_of_turn h t = []

module _ {P A : Type 0} (meaning : P → Plane) where
  -- the reply is the model's, as far as the front says it. The desk's calls say what the desk answers; and a frame is
  -- accepted only by a submit of the hand's.
  abbrev pub IsAtFront : Front → LaneTurn P A → Type 0
  IsAtFront f (at_front t) = IsFrontTurn meaning f t
  IsAtFront f (at_desk c) = frame_accepted c ≡ []
  IsAtFront f mixed = ⊥

  abbrev pub IsLaneTurn : Front → LaneEvent P A × LaneReply P A → Type 0
  IsLaneTurn f x = IsAtFront f (turn_at f x)

  -- the front after it
  abbrev pub after_turn : Front → LaneTurn P A → Front
  after_turn f (at_front t) = front_after meaning f t
  after_turn f t = f

  abbrev pub lane_after : Front → LaneEvent P A × LaneReply P A → Front
  lane_after f x = after_turn f (turn_at f x)

-- ---- which calls of the desk events and replies show, whatever the front

module _ {P A : Type 0} where
  -- these are a turn's calls with this hand: a submit that isn't HandEmpty is one of the hand's frame
  abbrev pub AreCallsAt : HandState → LaneTurn P A → List DeskCall → Type 0
  AreCallsAt h (at_front (offered result)) calls = IsSubmit h result × (calls ≡ submit_calls h result)
  AreCallsAt h mixed calls = ⊥
  AreCallsAt h t calls = calls ≡ calls_of_turn h t

  -- these are an event's calls at a queue of some format and some hand
  abbrev pub AreCallsOf : LaneEvent P A → LaneReply P A → List DeskCall → Type 0
  AreCallsOf e p calls = (format : PixelFormat) × ((h : HandState) × AreCallsAt h (turn_of format e p) calls)

  -- each event has its reply, and these are the calls of all, in order
  abbrev pub AreShownBy : List (LaneEvent P A) → List (LaneReply P A) → List DeskCall → Type 0
  AreShownBy [] [] calls = calls ≡ []
  AreShownBy (e ∷ es) (p ∷ ps) calls =
      (here : List DeskCall) × ((rest : List DeskCall)
      × ((calls ≡ here ++ rest) × (AreCallsOf e p here × AreShownBy es ps rest)))
  AreShownBy es ps calls = ⊥

-- ---- runs

module _ {D P A : Type 0} (meaning : P → Plane) where
  -- a lane stands for a front
  abbrev pub StandsLane : Lane D P A → Front → Type 0
  StandsLane lane f = StandsFront meaning lane.queue lane.table lane.hand f

-- What a list of events makes of a lane: the desk made the calls that events and replies show, and from each front
-- that the lane stood for, each reply was the model's at its point, the lane stands for the front after them, and the
-- calls are those that the front shows.
pub record LaneRan {D P A : Type 0} (meaning : P → Plane) (medium : D → Medium) (old new : Lane D P A)
    (es : List (LaneEvent P A)) (ps : List (LaneReply P A)) : Type 0 where
  pub calls : List DeskCall
  pub shown : AreShownBy es ps calls
  pub desk : DeskGoes medium old.desk new.desk calls
  pub front : Plays (record { after = lane_after meaning; May = IsLaneTurn meaning }) (StandsLane meaning old)
      (StandsLane meaning new) (zip es ps)
  pub are : (f : Front) → StandsLane meaning old f
      → calls ≡ told_in (lane_after meaning) (λ g x. calls_of_turn g.hand (turn_at g x)) f (zip es ps)

-- ---- frames

module _ {P A : Type 0} (meaning : P → Plane) where
  -- the frame of a buffer that was dequeued without an error
  abbrev pub frame_of_turn : Front → LaneTurn P A → List Picture
  frame_of_turn f (at_front (dequeued (Ok index))) =
      hand_frame (front_after {P = P} {A = A} meaning f (dequeued (Ok index))).hand
  frame_of_turn f t = []

  -- those of events and their replies, in order
  abbrev pub frames_taken : Front → List (LaneEvent P A × LaneReply P A) → List Picture
  frames_taken f turns = told_in (lane_after meaning) (λ g x. frame_of_turn g (turn_at g x)) f turns

-- ---- the queue

module _ {P A : Type 0} (meaning : P → Plane) where
  -- which event of the queue's own model a turn is
  abbrev pub event_at_turn : Front → LaneTurn P A → List Event
  event_at_turn f (at_front t) = front_event meaning f t
  event_at_turn f t = []

  abbrev pub event_at : Front → LaneEvent P A × LaneReply P A → List Event
  event_at f x = event_at_turn f (turn_at f x)

  -- the queue's events in a list of events and their replies, in order
  abbrev pub queue_events : Front → List (LaneEvent P A × LaneReply P A) → List Event
  queue_events f turns = told_in (lane_after meaning) event_at f turns

-- Turns, each as the front has it, are events of the queue's own model, and lead to its state.
abbrev pub LaneTurnsAreEvents : {P : Type 0} → Type 0 → (P → Plane) → Type 0
LaneTurnsAreEvents {P} A meaning =
    (f : Front) (xs : List (LaneEvent P A × LaneReply P A)) → EachIn (lane_after meaning) (IsLaneTurn meaning) f xs
    → EachIn model.after_event model.MayHappen f.queue.queue (queue_events meaning f xs)
    × ((after_all (lane_after meaning) f xs).queue.queue
    ≡ after_all model.after_event f.queue.queue (queue_events meaning f xs))

-- ---- the device's frames

module _ {P A : Type 0} (meaning : P → Plane) where
  -- the stream is new after the turns: the last of them stopped it, or there are none, and the queue had no buffers
  abbrev pub StartsAnew : Front → List (LaneEvent P A × LaneReply P A) → Type 0
  StartsAnew f [] = f.queue.queue.body.buffers ≡ []
  StartsAnew f (stop ∷ []) = (e : Event) × (event_at meaning f stop ≡ e ∷ []) × (stops e ≡ true)
  StartsAnew f (x ∷ turns) = StartsAnew (lane_after meaning f x) turns

  -- In a list of turns, from where the stream is new up to its next stop, the frames that were taken are a prefix of
  -- those that the device completed, each with its bytes.
  abbrev pub TakesFrames : Front → List (LaneEvent P A × LaneReply P A) → Type 0
  TakesFrames f turns =
      (before part behind : List (LaneEvent P A × LaneReply P A)) (now : Front) → turns ≡ before ++ (part ++ behind)
      → StartsAnew f before → now ≡ after_all (lane_after meaning) f before
      → list_any stops (queue_events meaning now part) ≡ false → (others : List Picture)
      × (flat_map completed_frame (queue_events meaning now part)
      ≡ map without_flags (frames_taken meaning now part) ++ others)

-- ---- what a list of events keeps

-- The run, and what its calls keep of the footage and of the frames' order.
pub record LaneKeeps {D P A : Type 0} (meaning : P → Plane) (medium : D → Medium) (old new : Lane D P A)
    (es : List (LaneEvent P A)) (ps : List (LaneReply P A)) : Type 0 where
  pub ran : LaneRan meaning medium old new es ps
  -- whenever the power fails, and at the end
  pub footage : (s : StoreState) → Stands medium old.desk.store s → (medium old.desk.store.disk).honest
      → KeepsFootage medium old.desk new.desk ran.calls s
  -- what the desk accepted, and then what the hand has, is what the hand had, and then what was taken from the queue
  pub in_order : (f : Front) → StandsLane meaning old f
      → accepted_in ran.calls ++ hand_frame (hand_state meaning new.hand)
      ≡ hand_frame (hand_state meaning old.hand) ++ frames_taken meaning f (zip es ps)
  -- and buffers are taken from the queue in the order in which they were completed or failed
  pub dequeues : (f : Front) → StandsLane meaning old f
      → KeepsOrder old.queue new.queue (queue_events meaning f (zip es ps))
  -- each with the frame that the device completed it with, where the queue's frames are those of a format
  pub completes : (f : Front) → StandsLane meaning old f → (format : PixelFormat) (width height : ℕ)
      → old.queue.body.shape ≡ shape_of format width height → TakesFrames meaning f (zip es ps)
