-- How many stores hold so many frames, and how many fit into so many bytes.
use Rattle.std.proofs.Common.{◌≡◌, ◌≤◌, ◌<◌, ℕ, ◌+◌, ◌-◌, ◌*◌, ◌/◌, ◌%◌, arith, refl, subst, suc, sym, zero}
use Rattle.std.specs.Prelude.{min}
use Rattle.std.proofs.Math.Nat.{lt_of_mul-lt-mul_left, mul-le-mul_left, mul-le-mul_right}
use Rattle.std.proofs.lemmas.Grind.{div_ceil_times}
use Rattle.loop_station_words.specs.Sets.{IsSetWithin}

-- a quotient that is rounded up: the bounds of what it is times the divisor
pub up-bounds : (a b up : ℕ) → 0 < b → up ≡ a / b + min 1 (a % b) → (a ≤ up * b) × (up * b < a + b)
up-bounds a b up some is = subst (λ u. (a ≤ u * b) × (u * b < a + b)) (sym is) (div_ceil_times a b some)

-- it is the least number that is so many times the divisor
pub up-le : (a b c up : ℕ) → up * b < a + b → a ≤ c * b → up ≤ c
up-le a b c up below enough =
    let less : b * up < b * (c + 1) = omega (arith, below, enough) in
    omega (arith, lt_of_mul-lt-mul_left b less)

-- where blocks fit, there is a store
pub some-stores : (stores segments blocks : ℕ) → blocks + 1 ≤ stores * segments → 1 ≤ stores
some-stores zero segments blocks fits = absurd (omega (arith, fits))
some-stores (suc stores) segments blocks fits = omega arith

-- enough stores for the blocks hold the frames
pub enough-blocks : (frames slots segments blocks stores : ℕ) → frames - 1 ≤ blocks * slots
    → blocks + 1 ≤ stores * segments → frames ≤ (stores * segments - 1) * slots + 1
enough-blocks frames slots segments blocks stores up fits =
    let le : blocks ≤ stores * segments - 1 = omega (arith, fits) in
    omega (arith, mul-le-mul_right slots le, up)

-- and what holds the frames is no fewer
pub least-blocks : (frames slots segments blocks stores other : ℕ) → blocks * slots < frames - 1 + slots
    → stores * segments < blocks + 1 + segments → 1 ≤ segments → 1 ≤ other
    → frames ≤ (other * segments - 1) * slots + 1 → stores ≤ other
least-blocks frames slots segments blocks stores other up fits some one held =
    let before : frames - 1 ≤ (other * segments - 1) * slots = omega (arith, held) in
    let le : blocks ≤ other * segments - 1 = up-le (frames - 1) slots (other * segments - 1) blocks up before in
    let whole : 1 * segments ≤ other * segments = mul-le-mul_right segments one in
    up-le (blocks + 1) segments other stores fits (omega (arith, le, whole, some))

-- ---- bytes

-- what fits is no more than each has
pub each-most : (stores each bytes slots slot most : ℕ) → 1 ≤ stores → bytes ≤ most
    → stores * (2560 + 64 * (512 + slots * slot)) ≤ bytes
    → ((n : ℕ) → n ≤ most → n * stores ≤ bytes → n ≤ each) → 64 * (512 + slots * slot) ≤ each - 2560
each-most stores each bytes slots slot most some limit fits all =
    let one : 1 * (2560 + 64 * (512 + slots * slot)) ≤ stores * (2560 + 64 * (512 + slots * slot)) =
    mul-le-mul_right (2560 + 64 * (512 + slots * slot)) some in
    let le : 2560 + 64 * (512 + slots * slot) ≤ each =
    all (2560 + 64 * (512 + slots * slot)) (omega (arith, one, fits, limit)) (omega (arith, fits)) in
    omega (arith, le)

-- where all but one of the stores need fewer bytes with 256 slots, all have room for one
pub one-fits : (stores bytes slot : ℕ) → 2 ≤ stores → 32 ≤ slot
    → (stores - 1) * (2560 + 64 * (512 + 256 * slot)) < bytes → stores * (2560 + 64 * (512 + 1 * slot)) ≤ bytes
one-fits stores bytes slot two large room =
    let least : 2 * (2560 + 64 * (512 + 1 * slot)) ≤ 2560 + 64 * (512 + 256 * slot) = omega (arith, large) in
    let whole = mul-le-mul_left (stores - 1) least in
    let double : stores ≤ 2 * (stores - 1) = omega (arith, two) in
    let twice = mul-le-mul_right (2560 + 64 * (512 + 1 * slot)) double in
    omega (arith, whole, twice, room)

-- as many stores as so many bytes need, or 256, with as many slots as fit
pub several-within : (frame bytes up stores slots : ℕ) → 2560 + 64 * (512 + 256 * (32 + frame)) < bytes
    → bytes ≤ up * (2560 + 64 * (512 + 256 * (32 + frame)))
    → up * (2560 + 64 * (512 + 256 * (32 + frame))) < bytes + (2560 + 64 * (512 + 256 * (32 + frame)))
    → 2 ≤ stores → stores ≤ up → stores ≤ 256 → (stores < 256 → up ≤ stores) → 1 ≤ slots → slots ≤ 256
    → stores * (2560 + 64 * (512 + slots * (32 + frame))) ≤ bytes
    → ((n : ℕ) → n ≤ 256 → stores * (2560 + 64 * (512 + n * (32 + frame))) ≤ bytes → n ≤ slots)
    → IsSetWithin frame bytes (record { stores = stores; ring = record { segments = 64; slots = slots } })
several-within frame bytes up stores slots large enough below two few most all some small fits largest =
    let less : stores - 1 ≤ up - 1 = omega (arith, few) in
    let one : up - 1 + 1 ≤ up = omega (arith, two, few) in
    let rest = mul-le-mul_right (2560 + 64 * (512 + 256 * (32 + frame))) less in
    let whole = mul-le-mul_right (2560 + 64 * (512 + 256 * (32 + frame))) one in
    record {
      ring = record { two = omega arith; segments = omega arith; one = some; slots = small };
      count = (omega (arith, two), most);
      fits = fits;
      few = λ _. omega (arith, rest, whole, below);
      many = λ less-than. omega (arith, mul-le-mul_right (2560 + 64 * (512 + 256 * (32 + frame))) (all less-than), enough);
      one = λ same. absurd (omega (arith, two, same));
      several = λ _. refl;
      most = λ _ n le fit. largest n le fit;
    }

-- more bytes than one store takes need two
pub two-stores : (largest bytes up : ℕ) → largest < bytes → bytes ≤ up * largest → 2 ≤ up
two-stores largest bytes up large enough =
    let less : largest * 1 < largest * up = omega (arith, large, enough) in
    omega (arith, lt_of_mul-lt-mul_left largest less)
