-- What holds of a source's times, whatever it says.
use Rattle.std.proofs.Common.{◌≡◌, ℕ, ◌+◌, ◌-◌, ◌/◌, ◌^◌, ◌<◌, ◌≤◌, Bool, true, false, List, [], ◌∷◌, Option, Some, None, is_some, max, min, arith, refl}
use Rattle.std.specs.Prelude.{IfSome, if◌then◌else◌, nat_le, nat_lt}
use Rattle.std.proofs.lemmas.Bool.{leb-false, leb-true}
use Rattle.loop_station_core.specs.Timing.{EachLater, later, said_or_now, step_of, step_since, step_timing, tells, LongGapsAreTold, TimesAreTheSources, OddTimesAreToldOnce}
use Rattle.loop_station_core.specs.declared.timing.Arrival.{Arrival}
use Rattle.loop_station_core.specs.declared.timing.Timing.{Timing}
use Rattle.std.proofs.lemmas.Grind.{common_steps}

later_by : (early : Bool) (last step time : ℕ) → nat_le time last ≡ early → 1 ≤ step → last < 2 ^ 64 - 1
    → last < (if early then min (last + step) (2 ^ 64 - 1) else time)
later_by true last step time is some room = omega (arith, some, room)
later_by false last step time is some room = omega (arith, leb-false time last is)

step-by : (far : Bool) (half : ℕ) → 1 ≤ (if far then max half 1 else 1)
step-by true half = omega arith
step-by false half = omega arith

steps : (last said : Option ℕ) (passed : ℕ) → 1 ≤ step_since last said passed
steps (Some last) (Some said) passed = step-by (nat_lt 1000000 (last - said)) (passed / 2)
steps (Some last) None passed = omega arith
steps None said passed = omega arith

rises : (last : Option ℕ) (step time : ℕ) → 1 ≤ step → IfSome last (λ l. l < 2 ^ 64 - 1 → l < later last step time)
rises None step time some = tt
rises (Some last) step time some = λ room. later_by (nat_le time last) last step time refl some room

pub rise : (t : Timing) (frames : List Arrival) → EachLater t frames
rise t [] = tt
rise t (a ∷ more) = (rises t.last (step_of t a) (said_or_now a) (steps t.last a.said (a.now - t.came)), rise (step_timing t a).0 more)

told_by : (tell : Bool) (gap : Option ℕ) (told now : ℕ) → tells gap (Some told) now ≡ tell
    → is_some (if tell then gap else None) ≡ true → 1000000 ≤ now - told
told_by true None told now is some = absurd cc
told_by true (Some gap) told now is some = leb-true 1000000 (now - told) is
told_by false gap told now is some = absurd cc

apart_by : (last : Option ℕ) (gap : Option ℕ) (told now : ℕ) → last ≡ Some told
    → is_some (if tells gap last now then gap else None) ≡ true → 1000000 ≤ now - told
apart_by last gap told now is some =
    told_by (tells gap (Some told) now) gap told now refl (rw is at some)

pub apart : (t : Timing) (a : Arrival) (told : ℕ) → t.told ≡ Some told → is_some (step_timing t a).1.gap ≡ true
    → 1000000 ≤ a.now - told
apart t a told is some = apart_by t.told _ told a.now is some

pub times-sources : TimesAreTheSources
times-sources t a last said = (
  (λ e. grind (arith, common_steps)),
  (λ e. grind (arith, common_steps)),
  (λ e. grind (arith, common_steps)),
  (λ e less. grind (arith, common_steps)),
)

pub gaps-told : LongGapsAreTold
gaps-told t a last is fits = (
  (λ some. (grind (arith, common_steps), grind (arith, common_steps))),
  (λ streams some long. ((λ more. grind (arith, common_steps)), (λ untold. grind (arith, common_steps)))),
)

pub odd-once : OddTimesAreToldOnce
odd-once t a last said = (
  (λ b. (grind (arith, common_steps), grind (arith, common_steps))),
  (λ u. (grind (arith, common_steps), grind (arith, common_steps))),
  (λ b e f g. (grind (arith, common_steps), grind (arith, common_steps))),
  (λ u e. (grind (arith, common_steps), grind (arith, common_steps))),
)
