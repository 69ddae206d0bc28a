-- The calls of a store with their answers, and what they make of a recording: the model of the store.
use Rattle.std.specs.Prelude.{◌≡◌, ◌⊎◌, ℕ, ◌+◌, ◌-◌, Bool, true, false, not, ◌&&◌, ◌||◌, ◌==◌, nat_lt, if◌then◌else◌, is_some, option_map, unwrap_or, Option, Some, None, Result, Ok, Err, List, [], ◌∷◌, length}
use Rattle.std.specs.List.{find, range_with_len}
use Rattle.std.specs.Result.{result_err}
use Rattle.loop_disk.specs.declared.fault.DiskFault.{DiskFault}
use Rattle.loop_disk.specs.Medium.{piece}
use Rattle.loop_record.specs.declared.clip.Span.{Span}
use Rattle.loop_record.specs.declared.damage.Damage.TheVariants.{SlotHead}
use Rattle.loop_record.specs.declared.frame.FrameHead.{FrameHead}
use Rattle.loop_record.specs.declared.times.Times.{Times}
use Rattle.loop_record.specs.Times.{AreRuns, numbers_in_time}
use Rattle.loop_record.specs.Layout.{has_tag_place}
use Rattle.loop_record.specs.Recording.{Picture, Recording, Ring, Step, clip_of, first_free, frame_under, head, holds, last_number, lock, needs_recycling, plain, steps, unlock, victim}
use Rattle.loop_record.specs.Turns.{after_all, told_in, EachIn}
use Rattle.loop_store.specs.declared.fault.StoreFault.{StoreFault}
use Rattle.loop_store.specs.declared.fault.StoreFault.TheVariants.{AllLocked, ClipEmpty, ClipNotHeld, ClipTableFull, Damaged, NoMemory, NoSuchClip, MustReopen, NotHeld, NumbersSpent, OldLayout}
use Rattle.loop_store.specs.Faults.{disk_failed, failed_as, is_disk, is_early, is_write_fault}

-- a call and its answer: an append of a group; a lock of a span, with the clip's id; an unlock of an id; a read of a
-- number, with the head and the bytes; a read of a part of a number's frame, from a byte on, with its bytes; a search
-- for the held frames of a span of time, with the runs of their numbers; and an upgrade of the layout, with whether it
-- was made
pub data Call : Type 0 where
  appended : List Picture → Result ℕ StoreFault → Call
  locked : Span → Result ℕ StoreFault → Call
  unlocked : ℕ → Result (Unit {0}) StoreFault → Call
  was_read : ℕ → Result (FrameHead × List ℕ) StoreFault → Call
  was_read_part : ℕ → ℕ → Result (List ℕ) StoreFault → Call
  sought : Times → Result (List Span) StoreFault → Call
  upgraded : Result Bool StoreFault → Call

-- the answer of a read into lent memory
abbrev pub read_with : Result FrameHead StoreFault → List ℕ → Result (FrameHead × List ℕ) StoreFault
read_with (Ok h) out = Ok (h, out)
read_with (Err fault) out = Err fault

-- the answer of a read of a part into lent memory
abbrev pub part_with : Result (Unit {0}) StoreFault → List ℕ → Result (List ℕ) StoreFault
part_with (Ok done) out = Ok out
part_with (Err fault) out = Err fault

-- the answer of a search for a time, where its memory holds these runs
abbrev pub runs_with : {V : Type 0} → (V → List Span) → Result V StoreFault → Result (List Span) StoreFault
runs_with items (Ok runs) = Ok (items runs)
runs_with items (Err fault) = Err fault

-- what is recorded, in which version of the layout, how many of the newest blocks are kept, and whether a call that
-- writes has failed
pub record StoreState : Type 0 where
  pub recording : Recording
  pub version : ℕ
  pub keep : ℕ
  pub must_reopen : Bool

-- ---- what a call asks for, and what its answer says of it

-- the refusal in an answer
abbrev pub fault_answered : Call → Option StoreFault
fault_answered (appended group result) = result_err result
fault_answered (locked span result) = result_err result
fault_answered (unlocked id result) = result_err result
fault_answered (was_read number result) = result_err result
fault_answered (was_read_part number at result) = result_err result
fault_answered (sought times result) = result_err result
fault_answered (upgraded result) = result_err result

-- it writes nothing
abbrev pub is_look : Call → Bool
is_look (was_read number result) = true
is_look (was_read_part number at result) = true
is_look (sought times result) = true
is_look _ = false

-- the steps that a call is asked for; an append that can't make any has none
abbrev pub steps_of : Ring → StoreState → Call → List Step
steps_of ring s (appended group result) = unwrap_or (steps ring s.keep s.recording group) []
steps_of ring s (locked span result) = lock span ∷ []
steps_of ring s (unlocked id result) = unlock id ∷ []
steps_of ring s _ = []

-- the steps that a call made: all, where nothing was refused
abbrev pub made_by : Ring → StoreState → Call → List Step
made_by ring s call = if is_some (fault_answered call) then [] else steps_of ring s call

-- the steps that it began, of which a prefix may have been made: all, where the disk failed
abbrev pub begun_by : Ring → StoreState → Call → List Step
begun_by ring s call = if disk_failed (fault_answered call) then steps_of ring s call else []

-- the call of the disk that failed, if the answer says that one did
abbrev pub failed_for : Call → Option DiskFault
failed_for call = failed_as (fault_answered call)

-- it was refused before the disk was called
abbrev pub was_refused : Call → Bool
was_refused call = is_early (fault_answered call)

-- the version of the layout after a call: an upgrade that was made gives 2
abbrev pub version_after : ℕ → Call → ℕ
version_after version (upgraded (Ok true)) = 2
version_after version _ = version

-- the store must be reopened after a call of the disk has failed within a call that writes
abbrev pub after_store_call : Ring → StoreState → Call → StoreState
after_store_call ring s call = record {
  recording = plain ring s.recording (made_by ring s call);
  version = version_after s.version call;
  keep = s.keep;
  must_reopen = s.must_reopen || (not (is_look call) && disk_failed (fault_answered call));
}

-- ---- the answers

-- the least number of a span that isn't held
abbrev pub missing : Recording → Span → Option ℕ
missing r s = find (λ n. not (holds r n)) (range_with_len s.from (s.to + 1 - s.from))

-- a refusal that is due where a check fails
abbrev pub due : Bool → StoreFault → Option StoreFault
due fails fault = if fails then Some fault else None

-- the first that is due
abbrev pub first_of : List (Option StoreFault) → Option StoreFault
first_of [] = None
first_of (None ∷ more) = first_of more
first_of (Some fault ∷ more) = Some fault

-- the checks of a span that is to be locked, in this version of the layout
abbrev pub span_checks : ℕ → Recording → Span → List (Option StoreFault)
span_checks version r span =
    due (nat_lt span.to span.from) ClipEmpty
    ∷ option_map ClipNotHeld (missing r span)
    ∷ due (first_free r.clips == 64) ClipTableFull
    ∷ due (not (has_tag_place version span)) OldLayout
    ∷ []

-- the checks of a call on what is recorded, in their order
abbrev pub checks_on : Ring → StoreState → Call → List (Option StoreFault)
checks_on ring s (appended group result) =
    due (s.recording.next == last_number ring) NumbersSpent
    ∷ due (needs_recycling ring s.recording && not (is_some (victim ring s.keep s.recording))) AllLocked
    ∷ []
checks_on ring s (locked span result) = span_checks s.version s.recording span
checks_on ring s (unlocked id result) = due (not (is_some (clip_of s.recording id))) NoSuchClip ∷ []
checks_on ring s (was_read number result) = due (not (holds s.recording number)) NotHeld ∷ []
checks_on ring s (was_read_part number at result) = due (not (holds s.recording number)) NotHeld ∷ []
checks_on ring s _ = []

-- the checks of a call, in their order
abbrev pub checks : Ring → StoreState → Call → List (Option StoreFault)
checks ring s call = due s.must_reopen MustReopen ∷ checks_on ring s call

-- the frame of a number, with this head and these bytes
pub record IsHeldFrame (r : Recording) (number : ℕ) (h : FrameHead) (bytes : List ℕ) : Type 0 where
  pub picture : Picture
  pub there : frame_under r.frames number ≡ Some picture
  pub head_is : h ≡ head number picture
  pub bytes_are : bytes ≡ picture.bytes

-- the bytes of a number's frame from byte `at` on, as many as were read
pub record IsPart (r : Recording) (number at : ℕ) (bytes : List ℕ) : Type 0 where
  pub picture : Picture
  pub there : frame_under r.frames number ≡ Some picture
  pub bytes_are : bytes ≡ piece at (length bytes) picture.bytes

-- how a read of a held number fails: a call of the disk has failed, or the slot holds something else, which can't be
-- where the disk is honest
abbrev pub ReadFails : Type 0 → StoreFault → Type 0
ReadFails Honest fault = (is_disk fault ≡ true) ⊎ ((fault ≡ Damaged SlotHead) × (Honest → ⊥))

-- What a call answers where no check is due: it is done, a search lacks memory, or the disk failed, which for a call
-- that writes is a write or a sync. An upgrade is made where the version isn't 2, and otherwise can't fail. What a read
-- gives is known only of honest disks.
abbrev pub AnswersOtherwise : Type 0 → StoreState → Call → Type 0
AnswersOtherwise Honest s (appended group (Ok number)) = number ≡ s.recording.next
AnswersOtherwise Honest s (locked span (Ok id)) = id ≡ first_free s.recording.clips
AnswersOtherwise Honest s (unlocked id (Ok x)) = Unit {0}
AnswersOtherwise Honest s (was_read number (Ok x)) = Honest → IsHeldFrame s.recording number x.0 x.1
AnswersOtherwise Honest s (was_read_part number at (Ok bytes)) = Honest → IsPart s.recording number at bytes
AnswersOtherwise Honest s (was_read number (Err fault)) = (fault ≡ NoMemory) ⊎ ReadFails Honest fault
AnswersOtherwise Honest s (was_read_part number at (Err fault)) = ReadFails Honest fault
AnswersOtherwise Honest s (sought times (Ok runs)) = AreRuns (numbers_in_time times s.recording) runs
AnswersOtherwise Honest s (sought times (Err fault)) = fault ≡ NoMemory
AnswersOtherwise Honest s (appended group (Err fault)) = is_write_fault fault ≡ true
AnswersOtherwise Honest s (locked span (Err fault)) = is_write_fault fault ≡ true
AnswersOtherwise Honest s (unlocked id (Err fault)) = is_write_fault fault ≡ true
AnswersOtherwise Honest s (upgraded (Ok made)) = made ≡ not (s.version == 2)
AnswersOtherwise Honest s (upgraded (Err fault)) = ((s.version == 2) ≡ false) × (is_write_fault fault ≡ true)

-- the answer is the refusal that is due, and where none is, one of these
abbrev pub AnswersDue : Option StoreFault → Call → Type 0 → Type 0
AnswersDue (Some fault) call Given = fault_answered call ≡ Some fault
AnswersDue None call Given = Given

-- a call was answered as above, where `Honest` says that the disk is honest
abbrev pub IsAnswered : Type 0 → Ring → StoreState → Call → Type 0
IsAnswered Honest ring s call = AnswersDue (first_of (checks ring s call)) call (AnswersOtherwise Honest s call)

-- ---- lists of calls

-- the state after calls
abbrev pub after_calls : Ring → StoreState → List Call → StoreState
after_calls ring s calls = after_all (after_store_call ring) s calls

-- each call was answered so in its turn
abbrev pub AreAnswered : Type 0 → Ring → StoreState → List Call → Type 0
AreAnswered Honest ring s calls = EachIn (after_store_call ring) (IsAnswered Honest ring) s calls

-- the steps that were made, in order
abbrev pub made_in : Ring → StoreState → List Call → List Step
made_in ring s calls = told_in (after_store_call ring) (made_by ring) s calls

-- the steps that were begun after them
abbrev pub begun_in : Ring → StoreState → List Call → List Step
begun_in ring s calls = told_in (after_store_call ring) (begun_by ring) s calls
