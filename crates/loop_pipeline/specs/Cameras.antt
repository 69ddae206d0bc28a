-- What one camera keeps of its frames, from its device to its disk.
use Rattle.std.specs.Prelude.{◌≡◌, ◌⊎◌, ℕ, ◌+◌, ◌<◌, Bool, Some, List, [], ◌∷◌, ◌++◌, All, length, map, slice_get}
use Rattle.std.specs.List.{filter, flat_map}
use Rattle.loop_disk.specs.Medium.{Medium}
use Rattle.loop_plane.specs.Plane.{Plane}
use Rattle.loop_record.specs.Recording.{Picture}
use Rattle.loop_store.specs.declared.fault.StoreFault.{StoreFault}
use Rattle.loop_store.specs.Calls.{StoreState}
use Rattle.loop_store.specs.Goes.{Stands}
use Rattle.loop_vb2.specs.State.{Lined, QueueState, StandsQueue}
use Rattle.loop_capture.specs.declared.source.Next.{Next}
use Rattle.loop_capture.specs.Ticks.{SeenDevice}
use Rattle.loop_desk.specs.Desk.{DeskCall, submitted}
use Rattle.loop_desk.specs.Footage.{KeepsFootage}
use Rattle.loop_desk.specs.Waiting.{frames_waiting, without_flags}
use Rattle.loop_desk.specs.Seen.{DeskGoes, SeenDesk}
use Rattle.loop_pipeline.specs.Backs.{Came, EachServed, GoesBy, IsRightful, IsSoAt, MayGiveUp, MayGiveUpAt, Part, asked, calls_at, calls_by, calls_of, is_placed_submit, is_submit, lost_by, picture_of, placed_calls, unasked, unasked_by}
use Rattle.loop_pipeline.specs.DeskEvents.{DeskEvent, Happened, desk_in, part_in}
use Rattle.loop_pipeline.specs.Fronts.{AreTicksTold, GoesOn, TickRecord, shown_of, shown_given}

-- a camera: its device, its queue, its desk, and those that joined it
pub record SeenCamera (S D P : Type 0) : Type 0 where
  pub device : SeenDevice S
  pub queue : Lined P
  pub desk : SeenDesk D
  pub joined : List (SeenDesk D)

-- all its desks, each at its place
abbrev pub desks_of : {S D P : Type 0} → SeenCamera S D P → List (SeenDesk D)
desks_of camera = camera.desk ∷ camera.joined

-- From one moment of a camera to another: the frames that waited in its queue, and those that its source gave at ticks
-- that completed a buffer, are, in order and with all bytes, those that came to a desk and those that still wait. Each
-- that came was accepted, or is counted: as given up, or as left where nobody brought it. Of the other ticks those that
-- lost a frame are counted; each was when the guide said, and they are over where guide or source said so. At each desk
-- the footage of the frames that it accepted is kept, whenever the power fails.
pub record CameraKeeps {S D P : Type 0} (medium : D → Medium) (gives : S → Next → List ℕ → S → Type 0)
    (meaning : P → Plane) (asks : DeskCall → Type 0) (gives_up : StoreFault → Type 0) (due : ℕ → ℕ → Type 0)
    (ends : ℕ → Type 0) (old new : SeenCamera S D P) (given_up left missed failed : ℕ) (over : Bool) : Type 0 where
  -- the device, by its ticks
  pub given : List TickRecord
  pub source : GoesOn gives old.device given new.device
  pub told : AreTicksTold due ends missed failed over given
  pub completed : List Picture
  pub shows : map shown_of completed ≡ flat_map shown_given given
  -- the way of the frames
  pub first : QueueState
  pub last : QueueState
  pub stood : StandsQueue meaning old.queue first
  pub stands : StandsQueue meaning new.queue last
  pub streams : new.queue.body.streaming ≡ old.queue.body.streaming
  pub came : List Came
  pub whole : map without_flags (frames_waiting old.queue first) ++ completed
      ≡ map without_flags (map picture_of came) ++ map without_flags (frames_waiting new.queue last)
  pub lost : length (flat_map lost_by came) ≡ given_up + left
  -- what happened to the desks, in order: the first was alone, and the others joined it
  pub events : List (DeskEvent D)
  pub active : ℕ
  pub end : ℕ
  pub happened : Happened medium (record { desks = old.desk ∷ []; active = 0; end = old.device.next }) events
      (record { desks = desks_of new; active = active; end = end })
  pub joins : flat_map desk_in events ≡ old.joined
  -- the desks, each by the calls of its place, in the order in which they were made over all
  pub all : length new.joined ≡ length old.joined
  pub parts : List (ℕ × Part)
  pub are : parts ≡ flat_map part_in events
  pub among : All (λ part. part.0 < length (desks_of old)) parts
  pub submits : flat_map calls_by came ≡ filter is_placed_submit (flat_map placed_calls parts)
  pub served : EachServed medium (desks_of old) (desks_of new) parts
  pub rightful : All (λ part. IsRightful asks part.1) parts
  -- a desk was asked for each frame but those that were left at the end, unless a flush was refused by a fault for
  -- which the guide gives frames up
  pub excused : (length (flat_map unasked_by came) ≡ left) ⊎ MayGiveUpAt gives_up (length (desks_of old)) parts
  pub footage : (place : ℕ) (d e : SeenDesk D) → slice_get (desks_of old) place ≡ Some d
      → slice_get (desks_of new) place ≡ Some e → (s : StoreState) → Stands medium d.store s
      → (medium d.store.disk).honest → KeepsFootage medium d e (calls_at place parts) s

-- So it is of a camera that other desks joined meanwhile, each from when it joined; none did where the door is shut.
pub record KeepsJoined {S D P : Type 0} (medium : D → Medium) (gives : S → Next → List ℕ → S → Type 0)
    (meaning : P → Plane) (asks : DeskCall → Type 0) (gives_up : StoreFault → Type 0) (due : ℕ → ℕ → Type 0)
    (ends : ℕ → Type 0) (shut : Type 0) (old new : SeenCamera S D P) (given_up left missed failed : ℕ) (over : Bool)
    : Type 0 where
  pub others : List (SeenDesk D)
  pub none : shut → others ≡ []
  pub keeps : CameraKeeps medium gives meaning asks gives_up due ends
      (record old { joined = old.joined ++ others }) new given_up left missed failed over

-- ---- nothing is left waiting

-- From one moment of a desk to a later one there were these calls, and a flush among them was refused, by a fault for
-- which the guide gives frames up.
pub record HasRefusedFlush {D : Type 0} (medium : D → Medium) (gives_up : StoreFault → Type 0) (old new : SeenDesk D)
    : Type 0 where
  pub parts : List Part
  pub went : GoesBy medium old parts new
  pub refused : MayGiveUp gives_up (flat_map calls_of parts)

-- What a filming leaves of its desk, which was `old` when it began: no frame waits there, so all that it accepted, and
-- all that waited there before, are stored; or a flush was refused so, and what still waits there isn't stored.
abbrev pub IsSettledDesk : {D : Type 0} → (D → Medium) → (StoreFault → Type 0) → SeenDesk D → SeenDesk D → Type 0
IsSettledDesk medium gives_up old new = (new.pending ≡ []) ⊎ HasRefusedFlush medium gives_up old new

-- one of several desks has refused a flush so
pub record HasRefusedOne {D : Type 0} (medium : D → Medium) (gives_up : StoreFault → Type 0)
    (old new : List (SeenDesk D)) : Type 0 where
  pub place : ℕ
  pub before : SeenDesk D
  pub after : SeenDesk D
  pub was : slice_get old place ≡ Some before
  pub is : slice_get new place ≡ Some after
  pub refused : HasRefusedFlush medium gives_up before after

-- no frame was brought to this desk
pub record GotNone {D : Type 0} (medium : D → Medium) (old new : SeenDesk D) : Type 0 where
  pub parts : List Part
  pub went : GoesBy medium old parts new
  pub none : filter is_submit (flat_map calls_of parts) ≡ []

-- at each desk but the active one no frame waits, or none was brought to it
abbrev pub AreLeft : {D : Type 0} → (D → Medium) → List (SeenDesk D) → List (SeenDesk D) → ℕ → Type 0
AreLeft {D} medium old new active =
    (place : ℕ) (d e : SeenDesk D) → slice_get old place ≡ Some d → slice_get new place ≡ Some e
    → (place ≡ active → ⊥) → (e.pending ≡ []) ⊎ GotNone medium d e

-- What a filming leaves that began with the desk `old`: `new` are this one and the others that came meanwhile, in their
-- order; none came where the door is shut. No frame waits at the last active one, or one of them has refused a flush
-- so; at each other one no frame waits, or none was brought to it since it came.
pub record EndsSettled {D : Type 0} (medium : D → Medium) (gives_up : StoreFault → Type 0) (shut : Type 0)
    (old : SeenDesk D) (new : List (SeenDesk D)) : Type 0 where
  pub others : List (SeenDesk D)
  pub none : shut → others ≡ []
  pub all : length new ≡ length (old ∷ others)
  pub active : ℕ
  pub settled : IsSoAt active new (λ desk. desk.pending ≡ []) ⊎ HasRefusedOne medium gives_up (old ∷ others) new
  pub left : AreLeft medium (old ∷ others) new active

-- ---- one desk alone

-- the desk's call, without its place
abbrev pub desk_calls_by : Came → List DeskCall
desk_calls_by (asked place p result) = submitted p (length p.bytes) result ∷ []
desk_calls_by (unasked p) = []

-- What is kept of a camera that had one desk, in that desk's own calls, without places.
pub record OneDeskKeeps {S D P : Type 0} (medium : D → Medium) (asks : DeskCall → Type 0)
    (gives_up : StoreFault → Type 0) (old : SeenDesk D) (new : SeenCamera S D P) (came : List Came) (left : ℕ)
    : Type 0 where
  pub alone : new.joined ≡ []
  pub calls : List DeskCall
  pub submits : flat_map desk_calls_by came ≡ filter is_submit calls
  pub goes : DeskGoes medium old new.desk calls
  pub parts : List Part
  pub are : calls ≡ flat_map calls_of parts
  pub went : GoesBy medium old parts new.desk
  pub rightful : All (IsRightful asks) parts
  pub excused : (length (flat_map unasked_by came) ≡ left) ⊎ MayGiveUp gives_up calls
  pub footage : (s : StoreState) → Stands medium old.store s → (medium old.store.disk).honest
      → KeepsFootage medium old new.desk calls s
