-- What the sources give.
use Rattle.std.specs.Prelude.{◌≡◌, ℕ, ◌+◌, ◌%◌, Bool, true, false, ◌==◌, List, length, IfSome, Result, Ok, Err}
use Rattle.loop_capture.specs.declared.source.Next.{Next}
use Rattle.loop_capture.specs.declared.source.Next.TheVariants.{More, End, Bad}
use Rattle.loop_record.specs.Pattern.{pattern_bytes}
use Rattle.loop_y4m.specs.declared.fault.Y4mFault.{Y4mFault}
use Rattle.loop_y4m.specs.Header.{size_of_frame}
use Rattle.loop_y4m.specs.Reader.{GivesNext, OpenReader}

-- Where a source goes over from one state to another, what it gave up to the first it has given up to the second: no
-- frame is given by that, and none is taken back.
abbrev pub StillGave : {S : Type 0} → (S → Next → List ℕ → S → Type 0) → S → S → Type 0
StillGave gives old new =
    (before : _) (answer : Next) (bytes : List ℕ) → gives before answer bytes old → gives before answer bytes new

-- the pattern gives its next frame
abbrev pub GivesPattern : ℕ → Next → List ℕ → ℕ → Type 0
GivesPattern n answer out after = (answer ≡ More) × (out ≡ pattern_bytes n (length out)) × (after ≡ (n + 1) % 256)

-- the reader of an input, and whether its end or a fault was answered
pub record Footage : Type 0 where
  pub reader : OpenReader
  pub over : Bool

-- what a source answers, given its reader's answer, and whether it is over then
abbrev pub next_of : Result Bool Y4mFault → Next
next_of (Ok true) = More
next_of (Ok false) = End
next_of (Err fault) = Bad

abbrev pub over_by : Next → Bool
over_by More = false
over_by End = true
over_by Bad = true

-- A source that is over answers End. Otherwise an `out` of another length than a frame is Bad, and one of a frame's
-- length gets what the reader gives.
abbrev pub GivesBy : (over fits : Bool) → Footage → Next → List ℕ → Footage → Type 0
GivesBy true fits s answer out t = (answer ≡ End) × (t ≡ s)
GivesBy false false s answer out t = (answer ≡ Bad) × (t ≡ record s { over = true })
GivesBy false true s answer out t = (told : Result Bool Y4mFault) × (answer ≡ next_of told)
    × IfSome s.reader.rest (λ frames. GivesNext frames told out t.reader.rest)
    × (t ≡ record {
      reader = record s.reader { fault = t.reader.fault; rest = t.reader.rest; left = t.reader.left };
      over = over_by answer;
    })

abbrev pub GivesFootage : Footage → Next → List ℕ → Footage → Type 0
GivesFootage s answer out t = GivesBy s.over (length out == size_of_frame s.reader.header) s answer out t
