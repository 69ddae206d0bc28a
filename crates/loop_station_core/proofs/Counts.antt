-- Counts that go round: how far one is ahead of another.
use Rattle.std.proofs.Common.{◌≡◌, ℕ, ◌+◌, ◌-◌, ◌*◌, ◌/◌, ◌%◌, ◌^◌, ◌<◌, ◌≤◌, ap, ◌∙◌, arith}
use Rattle.std.proofs.lemmas.Grind.{common_steps}
use Rattle.std.proofs.lemmas.Nat.{mod_below, mod-mul-add}
use Rattle.std.proofs.Math.Nat.{mod-add-mod, mod-add-div'}
use Rattle.loop_station_core.specs.Search.{ahead, less}

some : 0 < 2 ^ 32
some = omega arith

mod-is : (w q r n : ℕ) → r < w → n ≡ q * w + r → n % w ≡ r
mod-is w q r n l e = ap (λ k. k % w) e ∙ mod-mul-add q w r l

turns : (i j w : ℕ) → (i + 1 + j) * w ≡ i * w + w + j * w
turns i j w = grind (arith, common_steps)

sum-by : (w x y d r b s c : ℕ) → r + b ≡ y → r < w → s + c ≡ d → x ≡ y + d → x + (w - r) ≡ b + w + c + s
sum-by w x y d r b s c p low q all = omega (arith, p, low, q, all)

-- of two counts that went round, one less the other is as it is of them
minus-by : (w x y : ℕ) → 0 < w → y ≤ x → (x % w + (w - y % w)) % w ≡ (x - y) % w
minus-by w x y more h =
    let all : x ≡ y + (x - y) = omega (arith, h) in
    let sum : x + (w - y % w) ≡ y / w * w + w + (x - y) / w * w + (x - y) % w =
    sum-by w x y (x - y) (y % w) (y / w * w) ((x - y) % w) ((x - y) / w * w) (mod-add-div' y w) (mod_below y w more)
    (mod-add-div' (x - y) w) all in
    let round = turns (y / w) ((x - y) / w) w in
    let is : x + (w - y % w) ≡ (y / w + 1 + (x - y) / w) * w + (x - y) % w = omega (arith, sum, round) in
    mod-add-mod x w (w - y % w) ∙ mod-is w (y / w + 1 + (x - y) / w) ((x - y) % w) (x + (w - y % w)) (mod_below (x - y) w more) is

pub minus-is : (x y : ℕ) → y ≤ x → less (x % 2 ^ 32) (y % 2 ^ 32) ≡ (x - y) % 2 ^ 32
minus-is x y h = minus-by (2 ^ 32) x y some h

-- so is how far one is ahead of the other
pub ahead-is : (x y frames : ℕ) → x ≤ y → frames ≤ y - x
    → ahead (x % 2 ^ 32) (y % 2 ^ 32) frames ≡ (y - x - frames) % 2 ^ 32
ahead-is x y frames h k = ap (λ d. less d (frames % 2 ^ 32)) (minus-is y x h) ∙ minus-is (y - x) frames k

none-of : (x : ℕ) → x - x - 0 ≡ 0
none-of x = omega arith

pub ahead-same : (x : ℕ) → ahead (x % 2 ^ 32) (x % 2 ^ 32) 0 ≡ 0
ahead-same x = ahead-is x x 0 (omega arith) (omega arith) ∙ ap (λ k. k % 2 ^ 32) (none-of x)
