-- What C is told of a call.
use Rattle.std.specs.Prelude.{◌≡◌, ◌≢◌, ◌⊎◌, ℕ, ◌*◌, ◌-◌, ◌^◌, ◌<◌, min, List, [], length, take, Option, Some, None, Result, Ok, Err}
use Rattle.loop_disk.specs.Calls.{no_failures}
use Rattle.loop_overlay.specs.declared.pages.Wanted.{Wanted}
use Rattle.loop_overlay.specs.Pages.{Awaits, IsThere, Lacks, Logged, logged}
use Rattle.loop_record.specs.declared.geometry.Geometry.{Geometry}
use Rattle.loop_store.specs.declared.fault.OpenRefused.{OpenRefused}
use Rattle.loop_store.specs.declared.fault.StoreFault.{StoreFault}
use Rattle.loop_store.specs.declared.fault.StoreFault.TheVariants.{BadGeometry}
use Rattle.loop_store.specs.Make.{Formats}
use Rattle.loop_store.specs.Reopen.{OpensKeeping}
use Rattle.loop_store.specs.Seen.{Seen}
use Rattle.lapyrei.specs.declared.answer.Answer.{Answer}
use Rattle.lapyrei.specs.declared.answer.Shape.{Shape}
use Rattle.lapyrei.specs.Bytes.{log_bytes}
use Rattle.lapyrei.specs.Shown.{detail_of, refusal_of, shaped, version_asked}

-- ---- what C gives

-- the bytes of the file, of which some may not be there yet; a mark for each page of 4,096 of them, 1 where they are;
-- and how long the log may be
pub record Given : Type 0 where
  pub bytes : List ℕ
  pub present : List ℕ
  pub room : ℕ

abbrev pub given : List ℕ → List ℕ → List ℕ → Given
given bytes present log = record { bytes = bytes; present = present; room = length log }

-- the bytes of all pages are there
abbrev pub AllThere : List ℕ → List ℕ → Type 0
AllThere bytes present = (page : ℕ) → page * 4096 < length bytes → IsThere present page

-- ---- what it is told, of a call that had this outcome and left this disk

-- the value, where there is no refusal
abbrev pub Values : Result ℕ StoreFault → ℕ → Type 0
Values (Ok value) told = told ≡ value
Values (Err fault) told = Unit {0}

-- the call was made: C gets the number and the detail of its refusal and its value, and the log has all calls of the
-- disk
pub record IsMade (outcome : Result ℕ StoreFault) (disk : Logged) (log : List ℕ) (answer : Answer) : Type 0 where
  pub state : answer.state ≡ 0
  pub refusal : answer.refusal ≡ refusal_of outcome
  pub detail : answer.detail ≡ detail_of outcome
  pub value : Values outcome answer.value
  pub entries : take answer.log log ≡ log_bytes disk.tape.calls
  pub fits : length (log_bytes disk.tape.calls) ≡ answer.log

-- the log is too short for the calls, and what is asked for is what they take
pub record AsksForLog (it : Given) (disk : Logged) (answer : Answer) : Type 0 where
  pub state : answer.state ≡ 2
  pub short : it.room < length (log_bytes disk.tape.calls)
  pub asked : answer.count ≡ min (length (log_bytes disk.tape.calls)) (2 ^ 64 - 1)

-- bytes of the file are asked for, and one of their pages isn't there
pub record AsksForBytes (bytes present : List ℕ) (answer : Answer) : Type 0 where
  pub state : answer.state ≡ 1
  pub lacks : Lacks bytes present answer.at answer.count

-- those of a read are
pub record AsksForRead (bytes present : List ℕ) (read : Wanted) (answer : Answer) : Type 0 where
  pub asks : AsksForBytes bytes present answer
  pub at : answer.at ≡ read.at
  pub count : answer.count ≡ read.count

-- memory was refused, and nothing is to be done to the file
pub record IsOutOfMemory (answer : Answer) : Type 0 where
  pub state : answer.state ≡ 0
  pub refusal : answer.refusal ≡ 1
  pub nothing : answer.log ≡ 0

-- The bytes of the disk's last read that failed are asked for, and one of their pages isn't there. (The contracts of a
-- store don't say that its disk's marks are still those it was given. Were they others, any bytes might be asked for
-- that aren't there, and none where all are.) Where no read failed, memory was refused to the disk.
abbrev pub AsksFor : List ℕ → List ℕ → Option Wanted → Answer → Type 0
AsksFor bytes present None answer = IsOutOfMemory answer
AsksFor bytes present (Some read) answer =
    AsksForRead bytes present read answer
    ⊎ (Lacks bytes present read.at read.count → ⊥)
    × (AsksForBytes bytes present answer ⊎ AllThere bytes present × IsOutOfMemory answer)

-- calls of the disk failed: it awaits the bytes of a read, or no read failed
pub record AnswersFailed (bytes present : List ℕ) (disk : Logged) (answer : Answer) : Type 0 where
  pub awaits : Awaits disk.tape.start disk.present disk.tape.failures.reads disk.wanted
  pub asks : AsksFor bytes present disk.wanted answer

-- No call of the disk failed: the call was made, or its log is too long. Or one did.
abbrev pub AnswersFor : Given → Result ℕ StoreFault → Logged → List ℕ → Answer → Type 0
AnswersFor it outcome disk log answer =
    ((disk.tape.failures ≡ no_failures) × (IsMade outcome disk log answer ⊎ AsksForLog it disk answer))
    ⊎ ((disk.tape.failures ≢ no_failures) × AnswersFailed it.bytes it.present disk answer)

-- ---- which call it was

-- what a call does to an open store: the store before and after it, and its outcome
abbrev pub Deed : Type 1
Deed = Seen Logged → Seen Logged → Result ℕ StoreFault → Type 0

-- there is no store, and the outcome is why; or it did this
abbrev pub IsDone : Deed → Result (Seen Logged) (OpenRefused Logged) → Result ℕ StoreFault → Logged → Type 0
IsDone Did (Err refused) outcome disk = (outcome ≡ Err refused.fault) × (disk ≡ refused.disk)
IsDone Did (Ok old) outcome disk = (new : Seen Logged) × (Did old new outcome × (disk ≡ new.disk))

-- a store was opened or made so, and then did this
pub record OpensAndDoes (Opens : Result (Seen Logged) (OpenRefused Logged) → Type 0) (Did : Deed)
    (outcome : Result ℕ StoreFault) (disk : Logged) : Type 0 where
  pub store : Result (Seen Logged) (OpenRefused Logged)
  pub opens : Opens store
  pub done : IsDone Did store outcome disk

-- a log's disk over these bytes, of which these pages are there, and nothing was written down
abbrev pub untouched : List ℕ → List ℕ → Logged
untouched start present =
    record { tape = record { start = start; calls = []; failures = no_failures }; present = present; wanted = None }

-- C is told of such a call
pub record AnswersCall (it : Given) (Made : Result ℕ StoreFault → Logged → Type 0) (log : List ℕ) (answer : Answer)
    : Type 0 where
  pub outcome : Result ℕ StoreFault
  pub disk : Logged
  pub made : Made outcome disk
  pub told : AnswersFor it outcome disk log answer

-- what an exported call answers: the store in the file's bytes was opened, keeps so many blocks, and did this
abbrev pub Serves : Given → ℕ → Deed → List ℕ → Answer → Type 0
Serves it keep Did log answer =
    AnswersCall it (OpensAndDoes (OpensKeeping logged keep (untouched it.bytes it.present)) Did) log answer

-- nothing is done to an open store
abbrev pub DoesNothing : Deed
DoesNothing old new outcome = (new ≡ old) × (outcome ≡ Ok 0)

-- a store of a geometry was made on a disk, in a version of the layout; there is none where there is no geometry
abbrev pub MakesStore : Logged → ℕ → Option Geometry → Result ℕ StoreFault → Logged → Type 0
MakesStore first version None outcome disk = (outcome ≡ Err BadGeometry) × (disk ≡ first)
MakesStore first version (Some g) outcome disk =
    OpensAndDoes (Formats logged (record { geometry = g; version = version }) first) DoesNothing outcome disk

-- what the call that makes a store answers
abbrev pub ServesNew : Given → Shape → List ℕ → Answer → Type 0
ServesNew it shape log answer =
    AnswersCall it (MakesStore (untouched it.bytes it.present) (version_asked shape.version) (shaped shape)) log answer
