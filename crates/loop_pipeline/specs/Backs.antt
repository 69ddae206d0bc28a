-- What one thread keeps that has a camera's desks and the end of a ring.
use Rattle.std.specs.Prelude.{◌≡◌, ◌==◌, ◌<◌, ◌≤◌, ◌-◌, ◌%◌, ◌⊎◌, ℕ, Bool, true, false, if◌then◌else◌, List, [], ◌∷◌, ◌++◌, All, Contains, length, map, slice_get, slice_set, Option, Some, Result, Ok, Err}
use Rattle.std.specs.List.{filter, flat_map}
use Rattle.rtrb.specs.declared.AnyItems.{AnyItems}
use Rattle.rtrb.specs.declared.consumer.Consumer.{Consumer}
use Rattle.loop_disk.specs.Medium.{Medium}
use Rattle.loop_record.specs.declared.clip.Span.{Span}
use Rattle.loop_record.specs.declared.frame.Frame.{Frame}
use Rattle.loop_record.specs.declared.times.Times.{Times}
use Rattle.loop_record.specs.Recording.{Picture}
use Rattle.loop_store.specs.declared.fault.StoreFault.{StoreFault}
use Rattle.loop_desk.specs.Desk.{DeskCall, clip_locked, flushed, run_told, submitted}
use Rattle.loop_desk.specs.Seen.{DeskGoes, SeenDesk}
use Rattle.loop_pipeline.specs.declared.back.Brought.{Brought}
use Rattle.loop_pipeline.specs.declared.back.Brought.TheVariants.{GivenUp, Submitted}
use Rattle.loop_pipeline.specs.declared.back.LostFrame.{LostFrame}
use Rattle.loop_pipeline.specs.Nexts.{end_past}

-- ---- frames that came

-- A frame that came out of the ring: it was submitted to the desk at this place, with this answer, or it was given up
-- without that.
pub data Came : Type 0 where
  asked : ℕ → Picture → Result ℕ StoreFault → Came
  unasked : Picture → Came

abbrev pub picture_of : Came → Picture
picture_of (asked place p result) = p
picture_of (unasked p) = p

-- the desk's call, with its place
abbrev pub calls_by : Came → List (ℕ × DeskCall)
calls_by (asked place p result) = (place, submitted p (length p.bytes) result) ∷ []
calls_by (unasked p) = []

-- the frame, unless the desk accepted it
abbrev pub lost_by : Came → List Picture
lost_by (asked place p (Ok number)) = []
lost_by (asked place p (Err fault)) = p ∷ []
lost_by (unasked p) = p ∷ []

-- the frame, if it was given up without asking a desk
abbrev pub unasked_by : Came → List Picture
unasked_by (asked place p result) = []
unasked_by (unasked p) = p ∷ []

-- ---- calls of a desk

-- a flush was refused by a fault for which frames are given up
abbrev pub MayGiveUp : (StoreFault → Type 0) → List DeskCall → Type 0
MayGiveUp gives_up calls = (fault : StoreFault) × gives_up fault × Contains calls (flushed (Err fault))

abbrev pub is_submit : DeskCall → Bool
is_submit (submitted p size result) = true
is_submit call = false

-- What is done with a desk at once: a call that the filming makes by itself, or the calls of a visitor, of which the
-- answer to one order is made.
pub data Part : Type 0 where
  own : DeskCall → Part
  visited : List DeskCall → Part

abbrev pub calls_of : Part → List DeskCall
calls_of (own call) = call ∷ []
calls_of (visited calls) = calls

-- by itself a filming submits frames and flushes, and calls nothing else
abbrev pub is_own : DeskCall → Bool
is_own (submitted p size result) = true
is_own (flushed result) = true
is_own call = false

-- the filming's own call is such a one, and a visitor's calls are those that visits may make
abbrev pub IsRightful : (DeskCall → Type 0) → Part → Type 0
IsRightful asks (own call) = is_own call ≡ true
IsRightful asks (visited calls) = All asks calls

-- visits may list the runs of a time and lock them
abbrev pub MayKeep : (DeskCall → Type 0) → Type 0
MayKeep asks =
    ((times : Times) (place : ℕ) (run : Option Span) → asks (run_told times place run))
    × ((span : Span) (answer : Result ℕ StoreFault) → asks (clip_locked span answer))

-- From one desk to another by these parts, one after the other: each was answered before the next one began, and there
-- is a desk after it.
abbrev pub GoesBy : {D : Type 0} → (D → Medium) → SeenDesk D → List Part → SeenDesk D → Type 0
GoesBy medium old [] new = new ≡ old
GoesBy {D} medium old (part ∷ parts) new =
    (mid : SeenDesk D) × DeskGoes medium old mid (calls_of part) × GoesBy medium mid parts new

-- ---- calls of several desks: each part with the place of its desk

-- each call of a part, with the place of its desk
abbrev pub placed_calls : ℕ × Part → List (ℕ × DeskCall)
placed_calls part = map (λ call. (part.0, call)) (calls_of part.1)

abbrev pub is_placed_submit : ℕ × DeskCall → Bool
is_placed_submit call = is_submit call.1

-- the parts of one place
abbrev pub part_for : ℕ → ℕ × Part → List Part
part_for place part = if part.0 == place then part.1 ∷ [] else []

abbrev pub parts_at : ℕ → List (ℕ × Part) → List Part
parts_at place parts = flat_map (part_for place) parts

-- and their calls
abbrev pub calls_at : ℕ → List (ℕ × Part) → List DeskCall
calls_at place parts = flat_map calls_of (parts_at place parts)

-- one desk, by its own parts: what a part was answered is on the disk before the next one
pub record Served {D : Type 0} (medium : D → Medium) (old new : SeenDesk D) (parts : List Part) : Type 0 where
  pub goes : DeskGoes medium old new (flat_map calls_of parts)
  pub went : GoesBy medium old parts new

-- each desk of a list, by the parts of its place
abbrev pub EachServed : {D : Type 0} → (D → Medium) → List (SeenDesk D) → List (SeenDesk D) → List (ℕ × Part) → Type 0
EachServed {D} medium old new parts =
    (place : ℕ) (d e : SeenDesk D) → slice_get old place ≡ Some d → slice_get new place ≡ Some e
    → Served medium d e (parts_at place parts)

-- a flush of one of so many desks was refused by such a fault
pub record MayGiveUpAt (gives_up : StoreFault → Type 0) (count : ℕ) (parts : List (ℕ × Part)) : Type 0 where
  pub place : ℕ
  pub among : place < count
  pub refused : MayGiveUp gives_up (calls_at place parts)

-- Each frame of the ring came out once, in order; each submit, of whichever desk, was of one of them, in the same
-- order; those that weren't accepted are counted.
pub record IsFed (got : List Picture) (calls : List (ℕ × DeskCall)) (given_up : ℕ) (came : List Came) : Type 0 where
  pub whole : map picture_of came ≡ got
  pub submits : flat_map calls_by came ≡ filter is_placed_submit calls
  pub lost : length (flat_map lost_by came) ≡ given_up

-- ---- a back

-- a back as its callers see it: its desks as they were when it took them, the end of its ring and one past the newest
-- sequence as they were when it was made, the desks as they are now, the place of the one to which frames are brought,
-- and one past the sequence of the last frame that was brought to any
pub record SeenBack (D A : Type 0) : Type 0 where
  pub began : List (SeenDesk D)
  pub from : Consumer (Frame A) A AnyItems
  pub start : ℕ
  pub desks : List (SeenDesk D)
  pub active : ℕ
  pub end : ℕ

-- of several desks the one at a place goes on so, and the others stay
pub record GoesAt {D : Type 0} (place : ℕ) (old new : List (SeenDesk D)) (P : SeenDesk D → SeenDesk D → Type 0)
    : Type 0 where
  pub before : SeenDesk D
  pub after : SeenDesk D
  pub at : slice_get old place ≡ Some before
  pub goes : P before after
  pub same : new ≡ slice_set old place after

-- there is a desk at a place, and this is true of it
abbrev pub IsSoAt : {D : Type 0} → ℕ → List (SeenDesk D) → (SeenDesk D → Type 0) → Type 0
IsSoAt {D} place desks P = (desk : SeenDesk D) × (slice_get desks place ≡ Some desk) × P desk

-- nothing changed but the desk at a place
abbrev pub IsChangedAt : {D A : Type 0} → ℕ → SeenBack D A → SeenBack D A → Type 0
IsChangedAt {D} place old new = (desk : SeenDesk D) × (new ≡ record old { desks = slice_set old.desks place desk })

-- the block of the next number has room for what waits, and for one frame more
abbrev pub FitsBlock : {D : Type 0} → SeenDesk D → Type 0
FitsBlock d = length d.pending ≤ d.store.geometry.slots - d.store.next % d.store.geometry.slots

abbrev pub HasRoom : {D : Type 0} → SeenDesk D → Type 0
HasRoom d = length d.pending < d.store.geometry.slots - d.store.next % d.store.geometry.slots

-- a desk joins the others
abbrev pub with_joined : {D A : Type 0} → SeenDesk D → SeenBack D A → SeenBack D A
with_joined desk back = record back { began = back.began ++ desk ∷ []; desks = back.desks ++ desk ∷ [] }

-- Some desks joined; none where the door is shut. Those that were there may have gone on, and another one may be
-- active.
pub record Joins {D A : Type 0} (shut : Type 0) (old new : SeenBack D A) : Type 0 where
  pub others : List (SeenDesk D)
  pub none : shut → others ≡ []
  pub began : new.began ≡ old.began ++ others
  pub from : new.from ≡ old.from
  pub start : new.start ≡ old.start

-- ---- what was answered last

-- The last call of the active one of several desks is this one: parts led to the desk before it.
pub record IsLast {D : Type 0} (medium : D → Medium) (old new : List (SeenDesk D)) (active : ℕ) (call : DeskCall)
    : Type 0 where
  pub began : SeenDesk D
  pub desk : SeenDesk D
  pub was : slice_get old active ≡ Some began
  pub is : slice_get new active ≡ Some desk
  pub before : SeenDesk D
  pub parts : List Part
  pub went : GoesBy medium began parts before
  pub goes : DeskGoes medium before desk (call ∷ [])

-- so it is of a back's active desk
abbrev pub IsLastOf : {D A : Type 0} → (D → Medium) → SeenBack D A → DeskCall → Type 0
IsLastOf medium seen call = IsLast medium seen.began seen.desks seen.active call

-- the active desk has just accepted a frame under this number
abbrev pub IsAccepted : {D A : Type 0} → (D → Medium) → SeenBack D A → ℕ → Type 0
IsAccepted medium seen number =
    (p : Picture) × (seen.end ≡ end_past p.sequence) × IsLastOf medium seen (submitted p (length p.bytes) (Ok number))

-- a flush of one of the back's desks was refused, by a fault for which frames are given up
pub record WasRefused {D A : Type 0} (medium : D → Medium) (gives_up : StoreFault → Type 0) (seen : SeenBack D A)
    : Type 0 where
  pub place : ℕ
  pub began : SeenDesk D
  pub desk : SeenDesk D
  pub was : slice_get seen.began place ≡ Some began
  pub is : slice_get seen.desks place ≡ Some desk
  pub parts : List Part
  pub went : GoesBy medium began parts desk
  pub refused : MayGiveUp gives_up (flat_map calls_of parts)

-- Nothing waits at the active desk, or a flush was refused, by a fault for which frames are given up.
abbrev pub IsSettledBack : {D A : Type 0} → (D → Medium) → (StoreFault → Type 0) → SeenBack D A → Type 0
IsSettledBack medium gives_up seen =
    IsSoAt seen.active seen.desks (λ desk. desk.pending ≡ []) ⊎ WasRefused medium gives_up seen

-- the active desk has just refused this frame
abbrev pub IsTurnedDown : {D A : Type 0} → (D → Medium) → SeenBack D A → LostFrame → Type 0
IsTurnedDown medium seen lost =
    (p : Picture) × (fault : StoreFault) × (lost ≡ record { sequence = p.sequence; timestamp = p.timestamp })
    × (seen.end ≡ end_past p.sequence) × IsLastOf medium seen (submitted p (length p.bytes) (Err fault))

-- a frame was given up for a reason: the active desk has just refused it, or a flush was refused
abbrev pub IsGivenUp : {D A : Type 0} → (D → Medium) → (StoreFault → Type 0) → SeenBack D A → LostFrame → Type 0
IsGivenUp medium gives_up seen lost = IsTurnedDown medium seen lost ⊎ WasRefused medium gives_up seen

-- what is said of a frame that was brought to the active desk is so; where none was, the end stays
abbrev pub IsBrought : {D A : Type 0} → (D → Medium) → ℕ → SeenBack D A → Brought → Type 0
IsBrought medium end seen (Submitted number) = IsAccepted medium seen number
IsBrought medium end seen (GivenUp fault lost) = IsTurnedDown medium seen lost
IsBrought medium end seen _ = seen.end ≡ end
