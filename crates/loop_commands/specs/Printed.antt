-- What commands on an open store print.
use Rattle.std.specs.Prelude.{◌≡◌, ◌≤◌, ℕ, Result, Ok, Err, OnOk, List, [], ◌∷◌, ◌++◌, length, codes, decimal, Option, Some, false}
use Rattle.std.specs.Io.KnownBytes.{Appends}
use Rattle.loop_record.specs.declared.geometry.Geometry.{Geometry}
use Rattle.loop_store.specs.Numbers.{is_among}
use Rattle.loop_y4m.specs.declared.fault.ExportFault.{ExportFault}
use Rattle.loop_y4m.specs.Text.{text}
use Rattle.loop_commands.specs.declared.on_store.NotExported.{NotExported}

-- a line of a word and a number
abbrev pub line_of : List ℕ → ℕ → List ℕ
line_of word number = word ++ codes " " ++ decimal number ++ 10 ∷ []

-- This line was printed for what a command returned, where it could be printed; for a refusal nothing is printed.
abbrev pub IsPrinted : {W T E F : Type 0} → (W → Option (List ℕ)) → W → W → (T → List ℕ) → Result T E
    → Result (Unit {0}) F → Type 0
IsPrinted contents old new line (Ok x) printed = OnOk printed (Appends (contents old) (contents new) (line x))
IsPrinted contents old new line (Err fault) printed = new ≡ old

-- none of these numbers is in the range from one number to another
abbrev pub HoldsNone : List ℕ → ℕ → ℕ → Type 0
HoldsNone numbers from to = (n : ℕ) → from ≤ n → n ≤ to → is_among numbers n ≡ false

-- These frames are counted, and where the disk is honest, a writer was given their whole text.
abbrev pub IsText : Type 0 → Geometry → List (List ℕ) → Option (List ℕ) → Option (List ℕ) → ℕ → Type 0
IsText Honest g frames old new count = (Honest → Appends old new (text g frames)) × (count ≡ length frames)

-- nothing was written, and the target is as it was
abbrev pub IsUntouched : {T U : Type 0} → T → Result U (NotExported T) → Type 0
IsUntouched target (Ok done) = ⊥
IsUntouched target (Err refused) = refused.target ≡ Some target

-- what refused
abbrev pub export_fault : {T U : Type 0} → Result U (NotExported T) → Result U ExportFault
export_fault (Ok done) = Ok done
export_fault (Err refused) = Err refused.fault
