-- A tick as events of the queue's model, and what it does to the device.
use Rattle.std.specs.Prelude.{◌≡◌, ◌≢◌, Bool, ℕ, ◌+◌, ◌%◌, ◌^◌, true, false, cond, List, [], ◌∷◌, length, Option, Some, None}
use Rattle.loop_plane.specs.Plane.{Plane}
use Rattle.loop_record.specs.Turns.{EachIn, Plays, after_all}
use Rattle.loop_capture.specs.declared.device.Tick.{Tick}
use Rattle.loop_capture.specs.declared.device.Tick.TheVariants.{Idle, Completed, Failed, Missed, Ended, WrongSize}
use Rattle.loop_capture.specs.declared.source.Next.{Next}
use Rattle.loop_capture.specs.declared.source.Next.TheVariants.{More, End, Bad}
use Rattle.loop_vb2.specs.declared.buffer.Stamp.{Stamp}
use Rattle.loop_vb2.specs.Effects.{longest_active}
use Rattle.loop_vb2.specs.Events.{Event, after_event, MayHappen, queue_machine, complete, fail, take_fresh}
use Rattle.loop_vb2.specs.Planes.{frame_size}
use Rattle.loop_vb2.specs.State.{Lined, QueueState, StandsQueue}

-- a device: its source, how many bytes a frame has, the sequence of its next frame, and whether that goes on at a start
pub record SeenDevice (S : Type 0) : Type 0 where
  pub source : S
  pub size : ℕ
  pub next : ℕ
  pub goes_on : Bool

-- a device without its source
pub record SeenRest : Type 0 where
  pub size : ℕ
  pub next : ℕ
  pub goes_on : Bool

-- a new device
abbrev pub IsNew : {S : Type 0} → S → ℕ → SeenDevice S → Type 0
IsNew source size d = d ≡ record { source = source; size = size; next = 0; goes_on = false }

-- a new device whose first frame has this sequence, which no start begins anew
abbrev pub GoesOnFrom : {S : Type 0} → ℕ → S → ℕ → SeenDevice S → Type 0
GoesOnFrom first source size d = d ≡ record { source = source; size = size; next = first; goes_on = true }

-- the sequence of a frame: the next one, but 0 where it is fresh, unless it goes on
abbrev pub sequence_at : Bool → Bool → ℕ → ℕ
sequence_at goes_on fresh next = cond goes_on next (cond fresh 0 next)

-- the sequence of a frame that is taken now: 0 after a start, or the next one where the device goes on
abbrev pub sequence_of : {S : Type 0} → SeenDevice S → QueueState → ℕ
sequence_of d s = sequence_at d.goes_on s.body.fresh d.next

-- the sequence of the next frame: an End takes none
abbrev pub sequence_after : Next → ℕ → ℕ
sequence_after End sequence = sequence
sequence_after More sequence = (sequence + 1) % 2 ^ 32
sequence_after Bad sequence = (sequence + 1) % 2 ^ 32

-- what a tick does, given the source's answer and the buffer that has been active longest
abbrev pub tick_of : Next → Option ℕ → Tick
tick_of End active = Ended
tick_of More (Some i) = Completed i
tick_of Bad (Some i) = Failed i
tick_of More None = Missed
tick_of Bad None = Missed

-- the one event of the queue that ends a frame, if the tick has one
abbrev pub end_event : Tick → Stamp → List ℕ → List Event
end_event (Completed i) stamp bytes = complete i stamp bytes None ∷ []
end_event (Failed i) stamp bytes = fail i stamp None ∷ []
end_event tick stamp bytes = []

-- this buffer, or none, has been active longest
abbrev pub IsLongest : {P : Type 0} → (P → Plane) → Option ℕ → Lined P → Type 0
IsLongest meaning active queue = (s : QueueState) → StandsQueue meaning queue s → active ≡ longest_active s

-- the tick is this one in each state that the queue stands for, and the end of the frame happens
abbrev pub Ends : {P : Type 0} → (P → Plane) → Next → Stamp → List ℕ → Tick → Lined P → Lined P → Type 0
Ends meaning answer stamp bytes tick before after =
    ((s : QueueState) → StandsQueue meaning before s → tick ≡ tick_of answer (longest_active s))
    × Plays queue_machine (StandsQueue meaning before) (StandsQueue meaning after) (end_event tick stamp bytes)

-- the events of the queue in a tick that asked the source: the start is noticed, and the frame is ended
abbrev pub tick_events : {S : Type 0} → ℕ → SeenDevice S → Tick → List ℕ → QueueState → List Event
tick_events now d tick bytes s =
    take_fresh s.body.fresh ∷ end_event tick (record { sequence = sequence_of d s; timestamp = now }) bytes

-- A tick that asked the source: the device had a frame's length and had started, the source gave these bytes, which are
-- a whole frame at More, and the queue's events happen.
pub record Took {S P : Type 0} (gives : S → Next → List ℕ → S → Type 0) (meaning : P → Plane) (now : ℕ) (tick : Tick)
    (d e : SeenDevice S) (before after : Lined P) (s : QueueState) : Type 0 where
  pub fits : d.size ≡ frame_size s.body.shape
  pub started : s.body.started ≡ true
  pub answer : Next
  pub bytes : List ℕ
  pub whole : answer ≡ More → length bytes ≡ d.size
  pub given : gives d.source answer bytes e.source
  pub tick_is : tick ≡ tick_of answer (longest_active s)
  pub next : e.next ≡ sequence_after answer (sequence_of d s)
  pub size : e.size ≡ d.size
  pub goes_on : e.goes_on ≡ d.goes_on
  pub happen : EachIn after_event MayHappen s (tick_events now d tick bytes s)
  pub queue : StandsQueue meaning after (after_all after_event s (tick_events now d tick bytes s))

-- a tick: WrongSize and Idle change nothing
abbrev pub Ticked : {S P : Type 0} → (S → Next → List ℕ → S → Type 0) → (P → Plane) → ℕ → Tick → SeenDevice S
    → SeenDevice S
    → Lined P → Lined P → QueueState → Type 0
Ticked gives meaning now WrongSize d e before after s =
    (d.size ≢ frame_size s.body.shape) × (e ≡ d) × (after ≡ before)
Ticked gives meaning now Idle d e before after s =
    (d.size ≡ frame_size s.body.shape) × (s.body.started ≡ false) × (e ≡ d) × (after ≡ before)
Ticked gives meaning now tick d e before after s = Took gives meaning now tick d e before after s

-- so in each state that the queue stands for
abbrev pub Ticks : {S P : Type 0} → (S → Next → List ℕ → S → Type 0) → (P → Plane) → ℕ → Tick → SeenDevice S
    → SeenDevice S
    → Lined P → Lined P → Type 0
Ticks gives meaning now tick d e before after =
    (s : QueueState) → StandsQueue meaning before s → Ticked gives meaning now tick d e before after s
