-- What a keep of the station does to a camera's desk.
use Rattle.std.specs.Prelude.{◌≡◌, ◌<◌, ◌≤◌, ◌⊎◌, ◌-◌, ◌^◌, ℕ, Bool, true, false, if◌then◌else◌, min, Option, None, Some, IfSome, Result, List, [], ◌∷◌, ◌++◌, All, length, map, slice_get}
use Rattle.std.specs.Global.{Global}
use Rattle.std.specs.List.{flat_map}
use Rattle.loop_clips.specs.declared.clip.Clip.{Clip}
use Rattle.loop_disk.specs.Medium.{Medium}
use Rattle.loop_record.specs.declared.times.Times.{Times}
use Rattle.loop_store.specs.declared.fault.StoreFault.{StoreFault}
use Rattle.loop_store.specs.declared.fault.StoreFault.TheVariants.{NoMemory}
use Rattle.loop_desk.specs.declared.keep.Kept.{Kept}
use Rattle.loop_desk.specs.declared.limits.Flushed.{Flushed}
use Rattle.loop_desk.specs.Desk.{DeskCall, clip_locked, clip_unlocked, flushed, frame_read, run_told}
use Rattle.loop_desk.specs.Keeps.{HaveTime, KeepsTime}
use Rattle.loop_desk.specs.Seen.{DeskGoes, SeenDesk}
use Rattle.loop_pipeline.specs.Backs.{GoesAt}
use Rattle.loop_station_core.specs.declared.keep.Keep.{Keep}
use Rattle.loop_station_core.specs.declared.keep.KeepTurn.{KeepTurn}
use Rattle.loop_station_core.specs.declared.keep.KeepTurn.TheVariants.{Part, Wait, Whole}
use Rattle.loop_station_core.specs.declared.keep.Look.{Look}
use Rattle.loop_station_core.specs.Keeps.{step_keep}
use Rattle.loop_station_core.specs.Sets.{clip_id}
use Rattle.loop_station_shared.specs.declared.jobs.AskedKeep.{AskedKeep}
use Rattle.loop_station_camera.specs.declared.keeping.KeepPart.{KeepPart}
use Rattle.loop_station_camera.specs.declared.replies.KeepOutcome.{KeepOutcome}

-- what an order may call of a desk: it lists the runs of a time, locks, unlocks and reads
abbrev pub IsOrdered : DeskCall → Type 0
IsOrdered (run_told times place run) = Unit {0}
IsOrdered (clip_locked span answer) = Unit {0}
IsOrdered (clip_unlocked id answer) = Unit {0}
IsOrdered (frame_read number answer) = Unit {0}
IsOrdered call = ⊥

-- a desk went on by flushes alone, with these answers
abbrev pub Flushes : {D : Type 0} → (D → Medium) → SeenDesk D → List (Result Flushed StoreFault) → SeenDesk D → Type 0
Flushes medium old [] new = new ≡ old
Flushes {D} medium old (answer ∷ answers) new =
    (between : SeenDesk D) × DeskGoes medium old between (flushed answer ∷ []) × Flushes medium between answers new

-- and unless a refusal is returned, nothing waits there any more
pub record StoresAll {D : Type 0} (medium : D → Medium) (old new : SeenDesk D) (refused : Option StoreFault)
    : Type 0 where
  pub answers : List (Result Flushed StoreFault)
  pub flushes : Flushes medium old answers new
  pub all : refused ≡ None → new.pending ≡ []

-- ---- a keep of several stores

-- a clip, by the id by which users know it: it is of the store of a number
abbrev pub known : ℕ → Clip → Clip
known number c = record c { id = min (clip_id number c.id) (2 ^ 32 - 1) }

-- What a desk locked, the number of its store, and whether there was memory to name its clips among those of others.
pub record PlaceKept (A : Type 0) : Type 0 where
  pub kept : Kept A
  pub number : ℕ
  pub named : Bool

-- what is returned of it: its clips and its fault; or, if they can't be named, that memory was refused
abbrev pub named_clips : {A : Type 0} → PlaceKept A → List Clip
named_clips p = if p.named then map (known p.number) p.kept.clips.items else []

abbrev pub keep_fault : {A : Type 0} → PlaceKept A → Option StoreFault
keep_fault p = if p.named then p.kept.fault else Some NoMemory

-- the first fault
abbrev pub or_fault : Option StoreFault → Option StoreFault → Option StoreFault
or_fault (Some fault) other = Some fault
or_fault None other = other

abbrev pub first_fault : List (Option StoreFault) → Option StoreFault
first_fault [] = None
first_fault (fault ∷ faults) = or_fault fault (first_fault faults)

-- what one desk locked is taken to what others did
pub record TakesKept {A : Type 0} (kept old new : Kept A) : Type 0 where
  pub part : PlaceKept A
  pub of : part.kept ≡ kept
  pub number : part.number < 256
  pub clips : new.clips.items ≡ old.clips.items ++ named_clips part
  pub fault : new.fault ≡ or_fault old.fault (keep_fault part)
  pub first : old.clips.items ≡ [] → part.named ≡ true

-- what is returned of a place at which nothing was locked, or this was
abbrev pub clips_at : {A : Type 0} → Option (PlaceKept A) → List Clip
clips_at None = []
clips_at (Some part) = named_clips part

abbrev pub fault_at : {A : Type 0} → Option (PlaceKept A) → Option StoreFault
fault_at None = None
fault_at (Some part) = keep_fault part

-- Of several desks each went on so, with what was locked there. What is returned are their clips, one desk after the
-- other, and the first fault; the clips of a desk are left out only if memory was refused and those of another one are
-- there.
pub record KeepsEach {D A : Type 0} (P : SeenDesk D → SeenDesk D → Option (PlaceKept A) → Type 0)
    (old new : List (SeenDesk D)) (kept : Kept A) : Type 0 where
  pub parts : List (Option (PlaceKept A))
  pub all : length parts ≡ length old
  pub keeps : (place : ℕ) (d e : SeenDesk D) (part : Option (PlaceKept A)) → slice_get old place ≡ Some d
      → slice_get new place ≡ Some e → slice_get parts place ≡ Some part → P d e part
  pub numbers : All (λ part. IfSome part (λ p. p.number < 256)) parts
  pub clips : kept.clips.items ≡ flat_map clips_at parts
  pub fault : kept.fault ≡ first_fault (map fault_at parts)
  pub none : kept.clips.items ≡ [] → All (λ part. IfSome part (λ p. p.named ≡ true)) parts
  pub still : length new ≡ length old

-- The active desk stored what waited, as far as no flush was refused, and then each desk went on so.
pub record StoresAndKeeps {D A : Type 0} (medium : D → Medium)
    (P : SeenDesk D → SeenDesk D → Option (PlaceKept A) → Type 0) (active : ℕ) (old new : List (SeenDesk D))
    (kept : Kept A) (refused : Option StoreFault) : Type 0 where
  pub between : List (SeenDesk D)
  pub stores : GoesAt active old between (λ d e. StoresAll medium d e refused)
  pub keeps : KeepsEach P between new kept

-- the held frames of a time were locked at a desk: unless a fault is returned, just these
abbrev pub LocksTime : {D A : Type 0} → (D → Medium) → Times → ℕ → SeenDesk D → SeenDesk D → Kept A → Type 0
LocksTime medium times tag d e kept =
    KeepsTime medium times tag d e kept × (kept.fault ≡ None → HaveTime times d kept.clips.items)

-- they were locked at this one
abbrev pub KeepsHere : {D A : Type 0} → (D → Medium) → Times → ℕ → SeenDesk D → SeenDesk D → Option (PlaceKept A)
    → Type 0
KeepsHere medium times tag d e None = ⊥
KeepsHere medium times tag d e (Some part) = LocksTime medium times tag d e part.kept

-- What waited was stored, and the held frames of a time were locked at each desk.
abbrev pub StoresAndKeepsEach : {D A : Type 0} → (D → Medium) → Times → ℕ → ℕ → List (SeenDesk D)
    → List (SeenDesk D) → Kept A → Option StoreFault → Type 0
StoresAndKeepsEach medium times tag active old new kept refused =
    StoresAndKeeps medium (KeepsHere medium times tag) active old new kept refused

-- ---- reads

abbrev pub IsFrameRead : DeskCall → Type 0
IsFrameRead (frame_read number answer) = Unit {0}
IsFrameRead call = ⊥

-- a desk went on by these calls, one after the other, and each is a read
abbrev pub ReadsInTurn : {D : Type 0} → (D → Medium) → SeenDesk D → List DeskCall → SeenDesk D → Type 0
ReadsInTurn medium old [] new = new ≡ old
ReadsInTurn {D} medium old (call ∷ calls) new =
    (between : SeenDesk D) × (DeskGoes medium old between (call ∷ []) × IsFrameRead call) × ReadsInTurn medium between calls new

abbrev pub IsOnlyRead : {D : Type 0} → (D → Medium) → SeenDesk D → SeenDesk D → Type 0
IsOnlyRead medium old new = (calls : List DeskCall) × ReadsInTurn medium old calls new

-- each of several desks was only read
pub record AreOnlyRead {D : Type 0} (medium : D → Medium) (old new : List (SeenDesk D)) : Type 0 where
  pub still : length new ≡ length old
  pub reads : (place : ℕ) (d e : SeenDesk D) → slice_get old place ≡ Some d → slice_get new place ≡ Some e
      → IsOnlyRead medium d e

-- ---- an event that grows

-- Of a time, nothing was locked at a desk; or its held frames were, from then on or from a later time on, up to its
-- end, and then frames were read.
abbrev pub KeepsMoreHere : {D A : Type 0} → (D → Medium) → Times → ℕ → SeenDesk D → SeenDesk D
    → Option (PlaceKept A) → Type 0
KeepsMoreHere medium times tag d e None = e ≡ d
KeepsMoreHere {D} medium times tag d e (Some part) = (since : ℕ) × (times.since ≤ since)
    × ((between : SeenDesk D) × LocksTime medium (record times { since = since }) tag d between part.kept
    × IsOnlyRead medium between e)

abbrev pub StoresAndKeepsMore : {D A : Type 0} → (D → Medium) → Times → ℕ → ℕ → List (SeenDesk D)
    → List (SeenDesk D) → Kept A → Option StoreFault → Type 0
StoresAndKeepsMore medium times tag active old new kept refused =
    StoresAndKeeps medium (KeepsMoreHere medium times tag) active old new kept refused

-- ---- turns of a keep

-- what a keep locks by what the core says it does: nothing, a part up to a time, or all of its time
abbrev pub part_of : Keep → KeepTurn → Option KeepPart
part_of k Wait = None
part_of k (Part until) = Some (record { until = until; is_whole = false })
part_of k Whole = Some (record { until = k.until; is_whole = true })

-- the time that is locked now, of a keep's
abbrev pub times_now : Keep → KeepPart → Times
times_now k part = record { since = k.since; until = part.until }

-- The held frames of a part of a keep's time were locked with its tag, and then frames were read. What was refused
-- before that is said too.
pub record LocksPart {D : Type 0} (medium : D → Medium) (active : ℕ) (old new : List (SeenDesk D))
    (outcome : KeepOutcome) : Type 0 where
  pub between : List (SeenDesk D)
  pub refused : Option StoreFault
  pub locks : StoresAndKeepsEach medium (times_now outcome.keep outcome.part) outcome.keep.tag active old between
      outcome.kept refused
  pub told : (fault : StoreFault) → refused ≡ Some fault → outcome.refused ≡ Some fault
  pub reads : AreOnlyRead medium between new

-- the desks stay, or lock this part of a keep
abbrev pub LocksFor : {D : Type 0} → (D → Medium) → ℕ → List (SeenDesk D) → List (SeenDesk D) → Keep
    → Option KeepPart → Type 0
LocksFor medium active old new k None = new ≡ old
LocksFor medium active old new k (Some part) = (outcome : KeepOutcome)
    × ((outcome.keep ≡ k) × (outcome.part ≡ part)) × LocksPart medium active old new outcome

-- A keep is looked at once, and what the core says then is what the desks lock.
abbrev pub TakesTurn : {D : Type 0} → (D → Medium) → Keep → ℕ → List (SeenDesk D) → List (SeenDesk D) → Type 0
TakesTurn medium k active old new = (look : Look)
    × LocksFor medium active old new (step_keep k look).0 (part_of (step_keep k look).0 (step_keep k look).1)

-- a keep is that which was asked for
pub record IsKeepOf (asked : AskedKeep) (k : Keep) : Type 0 where
  pub event : k.event ≡ asked.event
  pub since : k.since ≡ asked.since
  pub until : k.until ≡ asked.until
  pub tag : k.tag ≡ asked.tag
  pub come : k.come ≡ asked.come

-- Of several desks nothing was locked; or what waited was stored, and the held frames of a time were locked with a tag
-- in each, up to its end or an earlier time.
abbrev pub LocksWithin : {D : Type 0} → (D → Medium) → Times → ℕ → ℕ → List (SeenDesk D) → List (SeenDesk D) → Type 0
LocksWithin medium times tag active old new = (new ≡ old) ⊎ ((outcome : KeepOutcome)
    × ((outcome.keep.since ≡ times.since) × (outcome.keep.tag ≡ tag) × (outcome.part.until ≤ times.until)
    × (outcome.part.is_whole ≡ true → outcome.part.until ≡ times.until)) × LocksPart medium active old new outcome)

-- so it does of an event that grows
abbrev pub LocksMoreFor : {D : Type 0} → (D → Medium) → ℕ → List (SeenDesk D) → List (SeenDesk D) → Keep
    → Option KeepPart → Type 0
LocksMoreFor medium active old new k None = new ≡ old
LocksMoreFor medium active old new k (Some part) = (kept : Kept Global) × (refused : Option StoreFault)
    × StoresAndKeepsMore medium (times_now k part) k.tag active old new kept refused

abbrev pub GrowsByTurn : {D : Type 0} → (D → Medium) → Keep → ℕ → List (SeenDesk D) → List (SeenDesk D) → Type 0
GrowsByTurn medium k active old new = (look : Look)
    × LocksMoreFor medium active old new (step_keep k look).0 (part_of (step_keep k look).0 (step_keep k look).1)
