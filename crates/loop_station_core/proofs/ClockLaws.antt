-- What holds of a source's clock, whatever it says.
use Rattle.std.proofs.Common.{◌≡◌, inl, inr, Some, ℕ, ◌/◌, ◌≤◌, false, List, length, arith, subst}
use Rattle.std.specs.List.{All}
use Rattle.std.proofs.lemmas.List.Sorted.{All-permutation}
use Rattle.std.proofs.lemmas.Grind.{common_steps}
use Rattle.loop_station_core.specs.declared.clock.Heard.{Heard}
use Rattle.loop_station_core.specs.declared.clock.SourceClock.{SourceClock}
use Rattle.loop_station_core.specs.declared.clock.Verdict.TheVariants.{Right}
use Rattle.loop_station_core.specs.Clocks.{clock_judged, is_far, judged, ClocksAreRead, IsMedian, IsNear, MediansLieAmong, MovedClocksAreTold, RightTimesStay, StepsAreHeard, WrongTimesAreNone}

pub clocks-read : ClocksAreRead
clocks-read said now usual near = grind (arith, common_steps)

stay : (c : SourceClock) (f : Heard) (m : ℕ) → f.measure ≡ Some m → is_far f ≡ false → let now = clock_judged c f in
    (now.1 ≡ Right) × (judged f now.1 ≡ f.said) × (now.0.others ≡ 0) × (now.0.told ≡ c.told)
stay c f m is near = (
  grind (arith, common_steps),
  grind (arith, common_steps),
  grind (arith, common_steps),
  grind (arith, common_steps),
)

near-is : (f : Heard) (m : ℕ) → f.measure ≡ Some m → IsNear f m → is_far f ≡ false
near-is f m is (inl near) = grind (arith, common_steps)
near-is f m is (inr near) = grind (arith, common_steps)

pub right-stay : RightTimesStay
right-stay c f m is near = stay c f m is (near-is f m is near)

pub wrong-none : WrongTimesAreNone
wrong-none c f m is far few =
    let x = far.0 in let y = far.1 in (
      grind (arith, common_steps),
      grind (arith, common_steps),
      grind (arith, common_steps),
      grind (arith, common_steps),
    )

pub steps-heard : StepsAreHeard
steps-heard c f m is = (
  (λ anew. (
    (grind (arith, common_steps), grind (arith, common_steps)),
    grind (arith, common_steps),
    grind (arith, common_steps),
    grind (arith, common_steps),
    grind (arith, common_steps),
  )),
  (λ far many below long near. let x = far.0 in let y = far.1 in (grind (arith, common_steps), grind (arith, common_steps))),
)

pub moved-told : MovedClocksAreTold
moved-told c measure now settled is = (
  (λ told. (grind (arith, common_steps), grind (arith, common_steps))),
  (λ far long. (grind (arith, common_steps), grind (arith, common_steps), grind (arith, common_steps))),
)

among : (values : List ℕ) (m low high : ℕ) → IsMedian values m → All (λ v. (low ≤ v) × (v ≤ high)) values
    → (low ≤ m) × (m ≤ high)
among values m low high (rising, moved, order, some, is) all =
    subst (λ k. (low ≤ k) × (k ≤ high)) is
    (All-permutation (λ v. (low ≤ v) × (v ≤ high)) values rising moved all (length rising / 2) 0 some)

pub medians-among : MediansLieAmong
medians-among = among
