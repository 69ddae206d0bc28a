-- What a keep locks: the held frames of a time, by their numbers.
use Rattle.std.specs.Prelude.{◌≡◌, ◌≢◌, ◌⊎◌, ℕ, Option, None, Some, Ok, Err, List, [], ◌∷◌, ◌++◌, map}
use Rattle.loop_clips.specs.declared.clip.Clip.{Clip}
use Rattle.loop_disk.specs.Medium.{Medium}
use Rattle.loop_record.specs.declared.clip.Span.{Span}
use Rattle.loop_record.specs.declared.times.Times.{Times}
use Rattle.loop_record.specs.Times.{numbers_in_time, numbers_of_spans}
use Rattle.loop_store.specs.declared.fault.StoreFault.{StoreFault}
use Rattle.loop_store.specs.declared.fault.StoreFault.TheVariants.{NoMemory}
use Rattle.loop_desk.specs.Desk.{DeskCall, DeskState, clip_locked, runs_told}
use Rattle.loop_desk.specs.Seen.{DeskGoes, OutlineRefuses, SeenDesk, TellsDesk}
use Rattle.loop_desk.specs.declared.keep.Kept.{Kept}

-- what a clip locks
abbrev pub clip_span : Clip → Span
clip_span c = record { from = c.from; to = c.to; tag = c.tag }

-- the numbers of clips, one clip after the other
abbrev pub numbers_of_clips : List Clip → List ℕ
numbers_of_clips clips = numbers_of_spans (map clip_span clips)

-- a run with the tag of a clip
abbrev pub with_tag : ℕ → Span → Span
with_tag tag run = record run { tag = tag }

-- the lock of a clip
abbrev pub lock_of : Clip → DeskCall
lock_of c = clip_locked (clip_span c) (Ok c.id)

-- The locks end with no run left and no fault; or with the first run that is left, whose lock was refused with the
-- fault that is returned.
abbrev pub LocksEnd : List Span → Option StoreFault → List DeskCall → Type 0
LocksEnd [] None calls = calls ≡ []
LocksEnd (run ∷ left) (Some fault) calls = calls ≡ clip_locked run (Err fault) ∷ []
LocksEnd _ _ calls = ⊥

-- Each of the first runs was locked with the tag, in order, and is returned as a clip. No other call was made, except
-- for a lock that was refused.
pub record AreLocks (tag : ℕ) (runs : List Span) (clips : List Clip) (fault : Option StoreFault)
    (calls : List DeskCall) : Type 0 where
  pub left : List Span
  pub locked : map (with_tag tag) runs ≡ map clip_span clips ++ left
  pub refusal : List DeskCall
  pub ended : LocksEnd left fault refusal
  pub calls_are : calls ≡ map lock_of clips ++ refusal

-- ---- a keep

-- the desk refused to list the runs, and the fault is returned
pub record KeepsNone {D A : Type 0} (desk : SeenDesk D) (calls : List DeskCall) (kept : Kept A) : Type 0 where
  pub uncalled : calls ≡ []
  pub clips : kept.clips.items ≡ []
  pub fault : StoreFault
  pub told : kept.fault ≡ Some fault
  pub refused : OutlineRefuses desk fault

-- the desk listed the runs of the time, there are some, and memory for their clips was refused
pub record KeepsCrammed {A : Type 0} (times : Times) (calls : List DeskCall) (kept : Kept A) : Type 0 where
  pub runs : List Span
  pub some : runs ≢ []
  pub calls_are : calls ≡ runs_told times 0 runs
  pub clips : kept.clips.items ≡ []
  pub told : kept.fault ≡ Some NoMemory

-- the desk listed the runs of the time, and they were locked
pub record KeepsRuns {A : Type 0} (times : Times) (tag : ℕ) (calls : List DeskCall) (kept : Kept A) : Type 0 where
  pub runs : List Span
  pub locks : List DeskCall
  pub are : AreLocks tag runs kept.clips.items kept.fault locks
  pub calls_are : calls ≡ runs_told times 0 runs ++ locks

-- a keep of one of these three kinds, by these calls
abbrev pub Keeps : {D A : Type 0} → Times → ℕ → SeenDesk D → List DeskCall → Kept A → Type 0
Keeps times tag desk calls kept =
    KeepsNone desk calls kept ⊎ (KeepsCrammed times calls kept ⊎ KeepsRuns times tag calls kept)

-- a desk went on by a keep alone
pub record KeepsTime {D A : Type 0} (medium : D → Medium) (times : Times) (tag : ℕ) (old new : SeenDesk D)
    (kept : Kept A) : Type 0 where
  pub calls : List DeskCall
  pub goes : DeskGoes medium old new calls
  pub keeps : Keeps times tag old calls kept

-- the clips have just the held frames of a time, in each state that the desk's answers fit
abbrev pub HaveTime : {D : Type 0} → Times → SeenDesk D → List Clip → Type 0
HaveTime times desk clips =
    (s : DeskState) → TellsDesk desk s
    → numbers_of_clips clips ≡ numbers_in_time times s.store.recording
