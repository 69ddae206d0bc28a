-- The mark of a frame: bits 24 to 29 of its flags.
use Rattle.std.specs.Prelude.{◌≡◌, ◌<◌, ◌≤◌, ℕ, ◌+◌, ◌*◌, ◌/◌, ◌%◌, ◌==◌, Bool, Option, Some, None, if◌then◌else◌}

-- bits 24 to 28 are the bits of a sample, 0 for 8, and bit 29 is set where the frame came late
abbrev pub mark : ℕ → Bool → ℕ
mark bits late = (if bits == 8 then 0 else bits % 32) * 16777216 + (if late then 536870912 else 0)

-- the bits of a sample
abbrev pub bits_of : ℕ → ℕ
bits_of flags = if flags / 16777216 % 32 == 0 then 8 else flags / 16777216 % 32

-- the frame came late
abbrev pub is_late : ℕ → Bool
is_late flags = flags / 536870912 % 2 == 1

-- Bits and lateness are read back from a mark.
abbrev pub MarksAreRead : Type 0
MarksAreRead = (bits : ℕ) (late : Bool) → 8 ≤ bits → bits < 32
    → (bits_of (mark bits late) ≡ bits) × (is_late (mark bits late) ≡ late)

-- the program was seen to have stood still, up to a tenth of a second before
abbrev pub IsJustAfter : ℕ → Option ℕ → Type 0
IsJustAfter now None = ⊥
IsJustAfter now (Some until) = now ≤ until + 100000
