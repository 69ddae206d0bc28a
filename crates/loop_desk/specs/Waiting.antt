-- The frames that come out of a queue, and those that wait in it.
use Rattle.std.specs.Prelude.{◌≡◌, ℕ, true, false, cond, List, [], ◌∷◌, ◌++◌, length, map, is_some, Option, Some, None, Ok, slice_get}
use Rattle.std.specs.List.{flat_map, list_any}
use Rattle.loop_plane.specs.Plane.{Plane}
use Rattle.loop_record.specs.declared.geometry.PixelFormat.{PixelFormat}
use Rattle.loop_record.specs.Recording.{Picture}
use Rattle.loop_record.specs.Turns.{EachIn, after_all, told_in}
use Rattle.loop_vb2.specs.declared.buffer.Buffer.{Buffer}
use Rattle.loop_vb2.specs.declared.planes.Shape.{Shape}
use Rattle.loop_vb2.specs.Events as model
use Rattle.loop_vb2.specs.Events.{Event, MayHappen, after_event, stops}
use Rattle.loop_vb2.specs.First.{shape_of}
use Rattle.loop_vb2.specs.Laws.{IsStill}
use Rattle.loop_vb2.specs.Owner.{waits}
use Rattle.loop_vb2.specs.Planes.{frame_size}
use Rattle.loop_vb2.specs.State.{Lined, QueueState, StandsQueue}
use Rattle.loop_desk.specs.Front.{taken_frame, was_given_up}

-- ---- the device's frames

-- a frame without its flags, which show whether its buffer was mapped when it was dequeued
abbrev pub without_flags : Picture → Picture
without_flags p = record p { flags = 0 }

-- the frame that the device completed by the event
abbrev pub completed_frame : Event → List Picture
completed_frame (model.complete index stamp bytes None) =
    record { sequence = stamp.sequence; flags = 0; timestamp = stamp.timestamp; bytes = bytes } ∷ []
completed_frame e = []

-- ---- events

-- a completion brings one whole frame
abbrev pub BringsWhole : QueueState → Event → Type 0
BringsWhole s (model.complete index stamp bytes None) = length bytes ≡ frame_size s.body.shape
BringsWhole s e = Unit {0}

-- an event may happen, and brings one whole frame if it is a completion
abbrev pub IsCounted : QueueState → Event → Type 0
IsCounted s e = MayHappen s e × BringsWhole s e

-- ---- the frames that leave the queue

-- the frame of a buffer, unless the device gave it up
abbrev pub shot : Shape → Option (Buffer Plane) → List Picture
shot shape None = []
shot shape (Some b) = cond (was_given_up b.state) [] (taken_frame shape b ∷ [])

-- the frame of the buffer that an event dequeues
abbrev pub dequeued_frame : QueueState → Event → List Picture
dequeued_frame s (model.dqbuf (Ok d)) = shot s.body.shape (slice_get s.body.buffers d.index)
dequeued_frame s e = []

-- the frames that events dequeue, in order
abbrev pub frames_dequeued : QueueState → List Event → List Picture
frames_dequeued s events = told_in after_event dequeued_frame s events

-- the frames of the buffers that are done, in the order of their ends
abbrev pub frames_waiting : {P : Type 0} → Lined P → QueueState → List Picture
frames_waiting code s = flat_map (λ i. shot s.body.shape (slice_get s.body.buffers i)) code.done

-- ---- what events keep of a queue that had no buffers once

-- a buffer that waits for a frame holds planes
abbrev pub IsHeld : Buffer Plane → Type 0
IsHeld b = waits b.state ≡ true → is_some b.planes ≡ true

-- each of these is so
abbrev pub AllHeld : List (Buffer Plane) → Type 0
AllHeld [] = Unit {0}
AllHeld (b ∷ bs) = IsHeld b × AllHeld bs

-- nothing is done unless the queue streams, and each buffer that waits for a frame holds planes
pub record IsSoundQueue {P : Type 0} (code : Lined P) (s : QueueState) : Type 0 where
  pub still : IsStill code
  pub held : AllHeld s.body.buffers

-- ---- what follows

-- Events from a state on: the frames that waited, and then those that the device completed, are those that were
-- dequeued, in that order and with their bytes, and then those that wait now.
abbrev pub KeepsFrames : List Picture → QueueState → List Event → List Picture → Type 0
KeepsFrames waited s events wait =
    map without_flags waited ++ flat_map completed_frame events
    ≡ map without_flags (frames_dequeued s events) ++ map without_flags wait

-- So it is from any state of a queue whose frames are those of a format,
pub record FramesAreKept {P : Type 0} (meaning : P → Plane) : Type 0 where
  -- if it is sound, for events of which none stops the stream,
  pub from_start : (old new : Lined P) (s : QueueState) (events : List Event) (format : PixelFormat) (width height : ℕ)
      → StandsQueue meaning old s → IsSoundQueue old s → s.body.shape ≡ shape_of format width height
      → EachIn after_event IsCounted s events → StandsQueue meaning new (after_all after_event s events)
      → list_any stops events ≡ false
      → KeepsFrames (frames_waiting old s) s events (frames_waiting new (after_all after_event s events))
  -- and from each stop of the stream on, sound or not: then nothing waited.
  pub from_stop : (old new : Lined P) (s : QueueState) (before part : List Event) (stop : Event) (format : PixelFormat)
      (width height : ℕ) → StandsQueue meaning old s → s.body.shape ≡ shape_of format width height
      → EachIn after_event IsCounted s (before ++ stop ∷ part)
      → StandsQueue meaning new (after_all after_event s (before ++ stop ∷ part))
      → stops stop ≡ true → list_any stops part ≡ false
      → KeepsFrames [] (after_event (after_all after_event s before) stop) part
      (frames_waiting new (after_all after_event s (before ++ stop ∷ part)))

-- A queue without buffers is sound, and a sound one stays so, whatever happens.
pub record QueuesStaySound {P : Type 0} (meaning : P → Plane) : Type 0 where
  pub new : (code : Lined P) (s : QueueState) → StandsQueue meaning code s → s.body.buffers ≡ [] → IsSoundQueue code s
  pub after : (old new : Lined P) (s : QueueState) (events : List Event) → StandsQueue meaning old s
      → IsSoundQueue old s → EachIn after_event MayHappen s events
      → StandsQueue meaning new (after_all after_event s events)
      → IsSoundQueue new (after_all after_event s events)
