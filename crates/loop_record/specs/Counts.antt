-- A source's own numbers, and the order of sequences, which go round.
use Rattle.std.specs.Prelude.{◌≡◌, ◌⊎◌, ℕ, ◌+◌, ◌-◌, ◌%◌, ◌^◌, ◌<◌, ◌≤◌}

-- the number that comes after the last and n more: without a cycle, or once round
abbrev pub IsAfter : ℕ → ℕ → ℕ → ℕ → Type 0
IsAfter last next cycle n =
    (next ≡ last + 1 + n) ⊎ ((1 ≤ next) × (next ≤ last) × (last ≤ cycle) × (next + cycle ≡ last + 1 + n))

-- n numbers lie between the two, and these aren't too many
abbrev pub IsMissing : ℕ → ℕ → ℕ → ℕ → ℕ → Type 0
IsMissing last next cycle most n = (n ≤ most) × IsAfter last next cycle n

-- no number up to the most lies between them
abbrev pub BeganAnew : ℕ → ℕ → ℕ → ℕ → Type 0
BeganAnew last next cycle most = (n : ℕ) → n ≤ most → IsAfter last next cycle n → ⊥

-- the place of a sequence in the order that ends before this one
abbrev pub cyclic_place : ℕ → ℕ → ℕ
cyclic_place end sequence = (sequence + (2 ^ 32 - end)) % 2 ^ 32

-- one of two sequences is older, or they are the same
abbrev pub OneIsOlder : Type 0
OneIsOlder =
    (end a b : ℕ) → end < 2 ^ 32 → a < 2 ^ 32 → b < 2 ^ 32
    → (cyclic_place end a < cyclic_place end b) ⊎ (cyclic_place end b < cyclic_place end a) ⊎ (a ≡ b)

-- none is younger than the newest, which is the one before the end
abbrev pub NewestIsLast : Type 0
NewestIsLast =
    (end newest a : ℕ) → end < 2 ^ 32 → newest < 2 ^ 32 → end ≡ (newest + 1) % 2 ^ 32
    → cyclic_place end a ≤ cyclic_place end newest

-- Of any two frames among the 2^32 before the end, as they were counted without going round, the place of each is how far
-- it is from the first of these: so the order is theirs.
abbrev pub PlacesAreCounts : Type 0
PlacesAreCounts =
    (end a : ℕ) → a < end → end ≤ a + 2 ^ 32 → cyclic_place (end % 2 ^ 32) (a % 2 ^ 32) + end ≡ a + 2 ^ 32

abbrev pub OrderIsTrue : Type 0
OrderIsTrue =
    (end a b : ℕ) → a < end → end ≤ a + 2 ^ 32 → b < end → end ≤ b + 2 ^ 32 → a < b
    → cyclic_place (end % 2 ^ 32) (a % 2 ^ 32) < cyclic_place (end % 2 ^ 32) (b % 2 ^ 32)
