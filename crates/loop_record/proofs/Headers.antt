-- What the header of a segment says.
use Rattle.std.proofs.Common.{◌≡◌, ◌⊎◌, inl, inr, ℕ, ◌+◌, ◌*◌, ◌/◌, ◌^◌, ◌<◌, ◌≤◌, true, false, cond, IsTrue, Some, None, Ok, Err, List, ◌∙◌, arith}
use Rattle.std.proofs.Math.Nat.{le-div_iff_mul-le}
use Rattle.std.proofs.lemmas.Bool.{cases_lt}
use Rattle.std.proofs.lemmas.Bool.Decides.{nat_tests}
use Rattle.byteorder.specs.Endian.{little_from}
use Rattle.loop_record.specs.declared.damage.Damage.TheVariants.{BlockTooHigh}
use Rattle.loop_record.specs.declared.geometry.Geometry.{Geometry}
use Rattle.loop_record.specs.Geometry.{is_good}
use Rattle.loop_record.specs.Layout.{is_open, open_gates, header_at, checked_header, is_too_high}
use Rattle.loop_record.proofs.Bounds.{limits}

-- a block below 2^62 / slots isn't too high
pub is_low : (g : Geometry) (b : ℕ) → IsTrue (is_good g) → b < 2 ^ 62 / g.slots → is_too_high g b ≡ false
is_low g b good low =
    let l = limits g good in
    let fits : (b + 1) * g.slots ≤ 2 ^ 62 = (le-div_iff_mul-le l.slots.0).0 (omega (arith, low)) in
    grind (arith, nat_tests, fits)

-- any other is
pub is_high_from : (g : Geometry) (b : ℕ) → IsTrue (is_good g) → 2 ^ 62 / g.slots ≤ b → is_too_high g b ≡ true
is_high_from g b good high = go (cases_lt (2 ^ 62) ((b + 1) * g.slots))
  where
    go : (2 ^ 62 < (b + 1) * g.slots) ⊎ ((b + 1) * g.slots ≤ 2 ^ 62) → is_too_high g b ≡ true
    go (inl above) = grind (arith, nat_tests, above)
    go (inr fits) =
        let l = limits g good in
        let most : b + 1 ≤ 2 ^ 62 / g.slots = (le-div_iff_mul-le l.slots.0).1 fits in
        absurd (omega (arith, most, high))

pub checked_header-low : (g : Geometry) (image : List ℕ) (at b k : ℕ) → is_open image at ≡ true
    → little_from (at + 8) 8 image ≡ b → open_gates g.slots image (at + 256) ≡ k → is_too_high g b ≡ false
    → checked_header g (header_at g image at) ≡ Ok (Some (record { block = b; frames = k }))
checked_header-low g image at b k gate block frames low =
    (λ i. checked_header g (cond (gate i) (Some (record { block = block i; frames = frames i })) None))
    ∙ (λ i. cond (low i) (Err BlockTooHigh) (Ok (Some (record { block = b; frames = k }))))

pub checked_header-high : (g : Geometry) (image : List ℕ) (at b : ℕ) → is_open image at ≡ true
    → little_from (at + 8) 8 image ≡ b → is_too_high g b ≡ true
    → checked_header g (header_at g image at) ≡ Err BlockTooHigh
checked_header-high g image at b gate block high =
    let k = open_gates g.slots image (at + 256) in
    (λ i. checked_header g (cond (gate i) (Some (record { block = block i; frames = k })) None))
    ∙ (λ i. cond (high i) (Err BlockTooHigh) (Ok (Some (record { block = b; frames = k }))))
