-- A mark is read back.
use Rattle.std.proofs.Common.{◌≡◌, ℕ, ◌+◌, ◌*◌, ◌/◌, ◌%◌, ◌<◌, ◌≤◌, Bool, true, false, arith, refl}
use Rattle.std.specs.Prelude.{◌==◌, if◌then◌else◌}
use Rattle.std.proofs.lemmas.Bool.{eqb-true, eqb-false, eq-eqb, ne_eqb}
use Rattle.loop_station_core.specs.Marks.{bits_of, is_late, mark}

added : Bool → ℕ
added late = if late then 536870912 else 0

-- what a mark's bits say
pub bits_by : (none : Bool) (n bits flags : ℕ) → (n == 0) ≡ none → flags / 16777216 % 32 ≡ n
    → (if none then 8 else n) ≡ bits → bits_of flags ≡ bits
bits_by none n bits flags is read same = rw read (rw is same)

eight : (late : Bool) → (bits_of (mark 8 late) ≡ 8) × (is_late (mark 8 late) ≡ late)
eight true = (refl, refl)
eight false = (refl, refl)

deep_late : (bits : ℕ) → 8 < bits → bits < 32
    → (bits_of (bits % 32 * 16777216 + 536870912) ≡ bits) × (is_late (bits % 32 * 16777216 + 536870912) ≡ true)
deep_late bits more few = (
  bits_by false bits bits (bits % 32 * 16777216 + 536870912) (ne_eqb bits 0 (omega (arith, more))) (omega (arith, few)) refl,
  eq-eqb ((bits % 32 * 16777216 + 536870912) / 536870912 % 2) 1 (omega (arith, few)),
)

deep_timely : (bits : ℕ) → 8 < bits → bits < 32
    → (bits_of (bits % 32 * 16777216 + 0) ≡ bits) × (is_late (bits % 32 * 16777216 + 0) ≡ false)
deep_timely bits more few = (
  bits_by false bits bits (bits % 32 * 16777216 + 0) (ne_eqb bits 0 (omega (arith, more))) (omega (arith, few)) refl,
  ne_eqb ((bits % 32 * 16777216 + 0) / 536870912 % 2) 1 (omega (arith, few)),
)

read_by : (is : Bool) (bits : ℕ) (late : Bool) → (bits == 8) ≡ is → 8 ≤ bits → bits < 32
    → (bits_of (mark bits late) ≡ bits) × (is_late (mark bits late) ≡ late)
read_by true bits late is enough few = rw (eqb-true bits 8 is) (eight late)
read_by false bits true is enough few = rw is (deep_late bits (omega (arith, enough, eqb-false bits 8 is)) few)
read_by false bits false is enough few = rw is (deep_timely bits (omega (arith, enough, eqb-false bits 8 is)) few)

pub read : (bits : ℕ) (late : Bool) → 8 ≤ bits → bits < 32
    → (bits_of (mark bits late) ≡ bits) × (is_late (mark bits late) ≡ late)
read bits late enough few = read_by (bits == 8) bits late refl enough few
