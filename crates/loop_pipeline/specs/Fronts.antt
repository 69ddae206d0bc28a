-- What one thread keeps that has a camera's device, its queue and the end of a ring.
use Rattle.std.specs.Prelude.{◌≡◌, ◌≢◌, ◌⊎◌, ℕ, ◌+◌, ◌^◌, ◌<◌, ◌≤◌, ◌&&◌, Bool, true, false, not, bit_or, get_or, List, [], ◌∷◌, ◌++◌, length, map}
use Rattle.std.specs.Global.{Global}
use Rattle.std.specs.List.{flat_map, list_any}
use Rattle.rtrb.specs.declared.AnyItems.{AnyItems}
use Rattle.rtrb.specs.declared.producer.Producer.{Producer}
use Rattle.rtrb.specs.Ring.{SameProducer, sent}
use Rattle.loop_plane.specs.Fds.{Fds}
use Rattle.loop_plane.specs.Plane.{Plane}
use Rattle.loop_record.specs.declared.frame.Frame.{Frame}
use Rattle.loop_record.specs.declared.geometry.PixelFormat.{PixelFormat}
use Rattle.loop_record.specs.Recording.{Picture, picture}
use Rattle.loop_record.specs.Turns.{EachIn, after_all}
use Rattle.loop_vb2.specs.declared.state.BufferState.TheVariants.{Dequeued}
use Rattle.loop_vb2.specs.Buffers.{state_at}
use Rattle.loop_vb2.specs.Events.{Event, after_event, stops}
use Rattle.loop_vb2.specs.First.{shape_of}
use Rattle.loop_vb2.specs.State.{Body, Lined, QueueState, StandsQueue}
use Rattle.loop_ioctl.specs.Calls.{IoctlState, StandsIoctl}
use Rattle.loop_capture.specs.declared.device.Tick.{Tick}
use Rattle.loop_capture.specs.declared.device.Tick.TheVariants.{Idle, Completed, Failed, Missed, Ended, WrongSize}
use Rattle.loop_capture.specs.declared.source.Next.{Next}
use Rattle.loop_capture.specs.declared.source.Next.TheVariants.{More, End, Bad}
use Rattle.loop_capture.specs.Ticks.{SeenDevice, sequence_after}
use Rattle.loop_desk.specs.declared.hand.Hand.{Hand}
use Rattle.loop_desk.specs.declared.hand.Hand.TheVariants as hand
use Rattle.loop_desk.specs.Front.{Front, HandState, StandsFront, empty, full, spent, hand_frame}
use Rattle.loop_pipeline.specs.declared.film.Left.{Left}
use Rattle.loop_pipeline.specs.declared.front.Begun.{Begun}
use Rattle.loop_pipeline.specs.declared.front.FrontParts.{FrontParts}
use Rattle.loop_desk.specs.Waiting.{IsCounted, IsSoundQueue, frames_dequeued, frames_waiting, completed_frame, without_flags}

-- ---- ticks of a device

-- a tick: when it was, what it did, the sequence of its frame, and the bytes that the source gave
pub record TickRecord : Type 0 where
  pub now : ℕ
  pub tick : Tick
  pub sequence : ℕ
  pub bytes : List ℕ

-- what the source answered if a tick did this
abbrev pub IsToldBy : Tick → Next → Type 0
IsToldBy (Completed i) answer = answer ≡ More
IsToldBy (Failed i) answer = answer ≡ Bad
IsToldBy Missed answer = answer ≢ End
IsToldBy Ended answer = answer ≡ End
IsToldBy _ answer = ⊥

-- at such a tick the source is asked
abbrev pub asks_source : Tick → Bool
asks_source Idle = false
asks_source WrongSize = false
asks_source tick = true

module _ {S : Type 0} (gives : S → Next → List ℕ → S → Type 0) where
  -- one tick: Idle and WrongSize change nothing; at any other the source was asked, and gave these bytes; the frame's
  -- sequence is the device's next one, or 0 where it may be the first after a start and the device doesn't go on
  abbrev pub GaveBy : Bool → Tick → ℕ → List ℕ → SeenDevice S → SeenDevice S → Type 0
  GaveBy first Idle sequence bytes d e = e ≡ d
  GaveBy first WrongSize sequence bytes d e = e ≡ d
  GaveBy first tick sequence bytes d e =
      (answer : Next) × IsToldBy tick answer × gives d.source answer bytes e.source × (e.size ≡ d.size)
      × (e.goes_on ≡ d.goes_on)
      × ((sequence ≡ d.next) ⊎ (first ≡ true) × (sequence ≡ 0) × (d.goes_on ≡ false))
      × (e.next ≡ sequence_after answer sequence)

  -- ticks, one after the other: none but the first that asks the source may be the first after a start
  abbrev pub GoesFrom : Bool → SeenDevice S → List TickRecord → SeenDevice S → Type 0
  GoesFrom first d [] e = e ≡ d
  GoesFrom first d (g ∷ gs) e =
      (between : SeenDevice S) × GaveBy first g.tick g.sequence g.bytes d between
      × GoesFrom (first && not (asks_source g.tick)) between gs e

  -- so it is of ticks between a start and a stop
  abbrev pub GoesOn : SeenDevice S → List TickRecord → SeenDevice S → Type 0
  GoesOn d given e = GoesFrom true d given e

-- what a frame shows of its source: its sequence, its time and its bytes
abbrev pub shown_of : Picture → ℕ × ℕ × List ℕ
shown_of p = (p.sequence, p.timestamp, p.bytes)

-- what a tick that completed a buffer shows
abbrev pub shown_at : Tick → ℕ × ℕ × List ℕ → List (ℕ × ℕ × List ℕ)
shown_at (Completed i) x = x ∷ []
shown_at tick x = []

abbrev pub shown_given : TickRecord → List (ℕ × ℕ × List ℕ)
shown_given g = shown_at g.tick (g.sequence, g.now, g.bytes)

-- how many ticks lost a frame because no buffer was active, and how many because their frame couldn't be got
abbrev pub misses : Tick → ℕ
misses Missed = 1
misses tick = 0

abbrev pub fails : Tick → ℕ
fails (Failed i) = 1
fails tick = 0

abbrev pub count_missed : List TickRecord → ℕ
count_missed [] = 0
count_missed (g ∷ gs) = misses g.tick + count_missed gs

abbrev pub count_failed : List TickRecord → ℕ
count_failed [] = 0
count_failed (g ∷ gs) = fails g.tick + count_failed gs

-- tick by tick, each was at a time that is due for its number
abbrev pub AreDue : (ℕ → ℕ → Type 0) → ℕ → List TickRecord → Type 0
AreDue due n [] = Unit {0}
AreDue due n (g ∷ gs) = due n g.now × AreDue due (n + 1) gs

-- the source has ended
abbrev pub is_last : Tick → Bool
is_last Ended = true
is_last tick = false

-- Why no tick comes any more: the guide ends the device here, its source has ended, or no more ticks are counted.
abbrev pub IsOver : (ℕ → Type 0) → List TickRecord → Type 0
IsOver ends given =
    ends (length given) ⊎ (list_any (λ g. is_last g.tick) given ≡ true) ⊎ (2 ^ 64 ≤ length given + 1)

-- What the guide said of ticks, and what is told of them: when each was, how many lost a frame, and why they are over.
pub record AreTicksTold (due : ℕ → ℕ → Type 0) (ends : ℕ → Type 0) (missed failed : ℕ) (over : Bool)
    (given : List TickRecord) : Type 0 where
  pub timed : AreDue due 0 given
  pub missing : count_missed given ≡ missed
  pub failing : count_failed given ≡ failed
  pub ended : over ≡ true → IsOver ends given

-- ---- what a front keeps

-- a front as its callers see it: its queue, its device and the end of its ring as they were when it was made, and its
-- guide
pub record SeenFront (S P G A : Type 0) : Type 0 where
  pub queue : Lined P
  pub device : SeenDevice S
  pub to : Producer (Frame A) A AnyItems
  pub guide : G

-- the frames of a queue have the planes of a format
abbrev pub IsShaped : {P : Type 0} → Lined P → Type 0
IsShaped queue =
    (format : PixelFormat) × (width : ℕ) × (height : ℕ) × (queue.body.shape ≡ shape_of format width height)

-- Nothing is done in a queue unless it streams, each buffer that waits for a frame holds planes, and its frames have
-- the planes of a format. A new queue is so, and stays so.
pub record IsRegular {P : Type 0} (meaning : P → Plane) (queue : Lined P) : Type 0 where
  pub state : QueueState
  pub stands : StandsQueue meaning queue state
  pub sound : IsSoundQueue queue state
  pub shaped : IsShaped queue

-- a queue and its table stand for a state
pub record StandsPort {P : Type 0} (meaning : P → Plane) (queue : Lined P) (table : Fds P) : Type 0 where
  pub state : IoctlState
  pub stands : StandsIoctl meaning queue table state

-- a queue and its table stand for a state, and the queue is regular
pub record IsOpen {P : Type 0} (meaning : P → Plane) (queue : Lined P) (table : Fds P) : Type 0 where
  pub port : StandsPort meaning queue table
  pub regular : IsRegular meaning queue

-- a queue and its table stand for a state; and the queue is regular if it was so before
abbrev pub StaysOpen : {P : Type 0} → (P → Plane) → Lined P → Lined P → Fds P → Type 0
StaysOpen meaning before queue table =
    StandsPort meaning queue table × (IsRegular meaning before → IsRegular meaning queue)

-- the application has dequeued the buffer of this index
abbrev pub IsOut : {P : Type 0} → Body P → ℕ → Type 0
IsOut body index = (index < length body.buffers) × (state_at body.buffers index ≡ Dequeued)

-- a buffer in the hand is out of the queue, and its frame is gone
abbrev pub HandIsSpent : {P A : Type 0} → Lined P → Hand P A → Type 0
HandIsSpent queue hand.Empty = Unit {0}
HandIsSpent queue (hand.Frame index frame planes) = ⊥
HandIsSpent queue (hand.Spent index planes) = IsOut queue.body index

-- What waited and then what the device completed is what was pushed into the ring, in order and with all bytes, and
-- then what waits now. What the device completed is what its source gave, at the times that are due.
pub record FrontKeeps {S P G A : Type 0} (gives : S → Next → List ℕ → S → Type 0) (meaning : P → Plane)
    (due : ℕ → ℕ → Type 0) (ends : ℕ → Type 0) (seen : SeenFront S P G A) (device : SeenDevice S) (queue : Lined P)
    (to : Producer (Frame A) A AnyItems) (missed failed : ℕ) (over : Bool) : Type 0 where
  pub first : QueueState
  pub last : QueueState
  pub stood : StandsQueue meaning seen.queue first
  pub stands : StandsQueue meaning queue last
  pub streams : queue.body.streaming ≡ seen.queue.body.streaming
  pub given : List TickRecord
  pub source : GoesOn gives seen.device given device
  pub told : AreTicksTold due ends missed failed over given
  pub completed : List Picture
  pub shows : map shown_of completed ≡ flat_map shown_given given
  pub whole : map without_flags (frames_waiting seen.queue first) ++ completed
      ≡ map without_flags (map picture (sent to)) ++ map without_flags (frames_waiting queue last)

abbrev pub made_of : {S P G A : Type 0} → Begun S P G A → SeenFront S P G A
made_of begun = record {
  queue = begun.queue.value;
  device = begun.device.value;
  to = begun.to.value;
  guide = begun.guide.value;
}

-- So it is of the parts that a front leaves, if it began with a regular queue, which is still so; and another front may
-- begin with them.
pub record Leaves {S P G A : Type 0} (gives : S → Next → List ℕ → S → Type 0) (meaning : P → Plane)
    (due : ℕ → ℕ → Type 0) (ends : ℕ → Type 0) (seen : SeenFront S P G A) (parts : FrontParts S P A) : Type 0 where
  pub ring : SameProducer seen.to parts.to
  pub keeps : IsRegular meaning seen.queue → FrontKeeps gives meaning due ends seen parts.device parts.queue parts.to
      parts.missed parts.failed parts.over
  pub port : StandsPort meaning parts.queue parts.table
  pub regular : IsRegular meaning seen.queue → IsRegular meaning parts.queue
  pub held : HandIsSpent parts.queue parts.hand

-- ---- to another thread and back (private contracts alone)

-- what came back is what a front leaves, with the end of the ring that is inside the carrier; if it isn't over, it has
-- never ticked
abbrev pub LeavesCarried : {S P G W : Type 0} → (W → Producer (Frame Global) Global AnyItems)
    → (S → Next → List ℕ → S → Type 0) → (P → Plane) → (ℕ → ℕ → Type 0) → (ℕ → Type 0) → SeenFront S P G Global
    → Left S P W → Type 0
LeavesCarried inside gives meaning due ends seen left =
    (left.over ≡ false → (left.device ≡ seen.device) × (left.queue ≡ seen.queue))
    × Leaves gives meaning due ends seen (record {
      device = left.device;
      queue = left.queue;
      table = left.table;
      hand = left.hand;
      to = inside left.to;
      missed = left.missed;
      failed = left.failed;
      over = left.over;
    })

-- ---- its events (private contracts alone)

-- the frame of a hand, if it has one
abbrev pub frame_of : {P A : Type 0} → Hand P A → List (Frame A)
frame_of (hand.Frame index frame planes) = frame ∷ []
frame_of (hand.Spent index planes) = []
frame_of hand.Empty = []

-- the same with the mark of its buffer among its flags
abbrev pub marked_frame : {P A : Type 0} → List ℕ → Hand P A → List (Frame A)
marked_frame marks (hand.Frame index frame planes) =
    record frame { flags = bit_or frame.flags (get_or marks index 0) } ∷ []
marked_frame marks (hand.Spent index planes) = []
marked_frame marks hand.Empty = []

-- the hand without its frame
abbrev pub emptied : HandState → HandState
emptied (full index p planes) = spent index planes
emptied (spent index planes) = spent index planes
emptied empty = empty

-- a buffer in the hand is out of the queue
abbrev pub IsApart : Body Plane → HandState → Type 0
IsApart body empty = Unit {0}
IsApart body (full index p planes) = IsOut body index
IsApart body (spent index planes) = IsOut body index

-- after these ticks the first that asks the source may still come
abbrev pub first_after : Bool → List TickRecord → Bool
first_after first [] = first
first_after first (g ∷ gs) = first_after (first && not (asks_source g.tick)) gs

-- the device has started, and that was noticed
abbrev pub IsNoticed : QueueState → Type 0
IsNoticed s = (s.body.started ≡ true) × (s.body.fresh ≡ false)

-- The queue's events since the front was made: each may happen at its point, none stops the stream, the frames that
-- they dequeued are in the ring, with marks in their flags, and those that they completed are the ticks'.
pub record HasMoved {S P G A : Type 0} (gives : S → Next → List ℕ → S → Type 0) (meaning : P → Plane)
    (due : ℕ → ℕ → Type 0) (ends : ℕ → Type 0) (seen : SeenFront S P G A) (device : SeenDevice S) (queue : Lined P)
    (table : Fds P) (hand : Hand P A) (to : Producer (Frame A) A AnyItems) (ticks missed failed : ℕ) (over : Bool)
    : Type 0 where
  pub first : QueueState
  pub stood : StandsQueue meaning seen.queue first
  pub formed : queue.body.shape ≡ seen.queue.body.shape
  pub ring : SameProducer seen.to to
  pub events : List Event
  pub legal : EachIn after_event IsCounted first events
  pub flows : list_any stops events ≡ false
  pub now : Front
  pub stands : StandsFront meaning queue table hand now
  pub reached : now.queue.queue ≡ after_all after_event first events
  pub free : hand_frame now.hand ≡ []
  pub apart : IsApart now.queue.queue.body now.hand
  pub streams : now.queue.queue.body.streaming ≡ first.body.streaming
  pub went : map without_flags (map picture (sent to)) ≡ map without_flags (frames_dequeued first events)
  pub given : List TickRecord
  pub source : GoesOn gives seen.device given device
  pub noticed : first_after true given ≡ false → IsNoticed now.queue.queue
  pub counted : length given ≡ ticks
  pub told : AreTicksTold due ends missed failed over given
  pub shows : map shown_of (flat_map completed_frame events) ≡ flat_map shown_given given
