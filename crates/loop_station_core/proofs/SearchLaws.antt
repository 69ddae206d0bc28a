-- What a search finds is a gap, and a stretch with one is looked into.
use Rattle.std.proofs.Common.{◌≡◌, ◌⊎◌, inl, inr, ℕ, ◌+◌, ◌-◌, ◌*◌, ◌%◌, ◌^◌, ◌≤◌, ◌<◌, Bool, true, false, zero, suc, ap, arith, refl}
use Rattle.std.specs.Prelude.{◌||◌}
use Rattle.std.proofs.lemmas.Grind.{common_steps}
use Rattle.loop_station_core.proofs.Counts.{ahead-same}
use Rattle.loop_station_core.specs.Laws.{search_of, searched, step_search, FoundGapsAreSo, GapsAreLookedFor, SearchesLookAtAll}
use Rattle.loop_station_core.specs.Search.{ahead, has_gap, is_hole, takes_long, mark_at, middle, most, passed, told, turn}
use Rattle.loop_station_core.specs.declared.search.Mark.{Mark}
use Rattle.loop_station_core.specs.declared.search.Search.{Search}
use Rattle.loop_station_core.specs.declared.search.SearchTurn.TheVariants.{Gap, Over, Again}

-- its stretch is one of frames, in their order
pub record IsOf (time count : ℕ → ℕ) (period : ℕ) (s : Search) : Type 0 where
  pub rate : s.period ≡ period
  pub from : s.from ≡ mark_at time count s.from.number
  pub to : s.to ≡ mark_at time count s.to.number
  pub end : s.end ≡ mark_at time count s.end.number
  pub order : s.from.number ≤ s.to.number
  pub rest : s.to.number ≤ s.end.number

-- a stretch that isn't narrow has its middle within
pub within : (s : Search) → s.from.number ≤ s.to.number → (s.from.number ≤ middle s) × (middle s ≤ s.to.number)
within s h = grind (arith, common_steps)

told-of : (time count : ℕ → ℕ) (period : ℕ) (s : Search) → IsOf time count period s
    → IsOf time count period (told s (time (middle s)) (count (middle s) % 2 ^ 32))
told-of time count period s h = at (has_gap s.period s.from (mark_at time count (middle s))) refl
  where
    at : (b : Bool) → has_gap s.period s.from (mark_at time count (middle s)) ≡ b
        → IsOf time count period (told s (time (middle s)) (count (middle s) % 2 ^ 32))
    at true e = let w = within s h.order in grind (arith, common_steps)
    at false e = let w = within s h.order in grind (arith, common_steps)

passed-of : (time count : ℕ → ℕ) (period : ℕ) (s : Search) → IsOf time count period s → IsOf time count period (passed s)
passed-of time count period s h =
    record { rate = h.rate; from = h.to; to = h.end; end = h.end; order = h.rest; rest = grind (arith, common_steps) }

pub goes-of : (time count : ℕ → ℕ) (period : ℕ) (s : Search) → IsOf time count period s
    → IsOf time count period (step_search time count s)
goes-of time count period s h =
    let t = told-of time count period s h in
    let p = passed-of time count period s h in
    grind (arith, common_steps)

pub searched-of : (time count : ℕ → ℕ) (period turns : ℕ) (s : Search) → IsOf time count period s
    → IsOf time count period (searched time count turns s)
searched-of time count period zero s h = h
searched-of time count period (suc turns) s h =
    searched-of time count period turns (step_search time count s) (goes-of time count period s h)

pub first-of : (time count : ℕ → ℕ) (period a b : ℕ) → a ≤ b → IsOf time count period (search_of time count period a b)
first-of time count period a b h =
    record { rate = refl; from = refl; to = refl; end = refl; order = h; rest = grind (arith, common_steps) }

-- between a frame and itself is no gap
no-gap : (time count : ℕ → ℕ) (period n : ℕ) → has_gap period (mark_at time count n) (mark_at time count n) ≡ false
no-gap time count period n = let same = ahead-same (count n) in grind (arith, common_steps)

-- of two frames between which is a gap, frames are lost or it is long
gap-by : (period : ℕ) (a b : Mark) (hole late : Bool) → is_hole a b ≡ hole → takes_long period a b ≡ late
    → (hole || late) ≡ true → b.number ≡ a.number + 1
    → (1 ≤ ahead a.sequence b.sequence 1) ⊎ (period + most period < b.time - a.time)
gap-by period a b true late e f h next =
    let one : b.number - a.number ≡ 1 = omega (arith, next) in inl (grind (arith, common_steps))
gap-by period a b false true e f h next =
    let one : b.number - a.number ≡ 1 = omega (arith, next) in inr (grind (arith, common_steps))
gap-by period a b false false e f h next = absurd cc

-- a narrow stretch with a gap is one of two frames
next-of : (time count : ℕ → ℕ) (period : ℕ) (s : Search) (from to : Mark) → IsOf time count period s
    → (turn s).1 ≡ Gap from to
    → (has_gap s.period s.from s.to ≡ true) × (s.to.number ≡ s.from.number + 1) × (from ≡ s.from) × (to ≡ s.to)
next-of time count period s from to h e = let none = no-gap time count period s.from.number in grind (arith, common_steps)

gap-so : (time count : ℕ → ℕ) (period : ℕ) (s : Search) (from to : Mark) → IsOf time count period s
    → (turn s).1 ≡ Gap from to
    → (from ≡ mark_at time count s.from.number) × (to ≡ mark_at time count (s.from.number + 1))
    × ((1 ≤ ahead from.sequence to.sequence 1) ⊎ (period + most period < to.time - from.time))
gap-so time count period s from to h e =
    let n = next-of time count period s from to h e in
    let why = gap-by s.period s.from s.to (is_hole s.from s.to) (takes_long s.period s.from s.to) refl refl n.0 n.1 in
    (grind (arith, common_steps), grind (arith, common_steps), grind (arith, common_steps))

pub found-so : FoundGapsAreSo
found-so time count period a b turns from to h e =
    gap-so time count period (searched time count turns (search_of time count period a b)) from to
    (searched-of time count period turns (search_of time count period a b) (first-of time count period a b h)) e

-- so many frames take their time at least
takes : (time : ℕ → ℕ) (period a k : ℕ) → ((n : ℕ) → time n + period ≤ time (suc n)) → time a + k * period ≤ time (a + k)
takes time period a zero h = grind (arith, common_steps)
takes time period a (suc k) h =
    let rest = takes time period a k h in
    let one = h (a + k) in
    grind (arith, common_steps)

-- the time of so many frames, of one and of so many more
split : (i j p : ℕ) → (i + suc j) * p ≡ i * p + p + j * p
split i j p = grind (arith, common_steps)

late-for : (time count : ℕ → ℕ) (period a b n : ℕ) → ((k : ℕ) → time k + period ≤ time (suc k))
    → a ≤ n → n < b → time n + period + most period < time (suc n)
    → takes_long period (mark_at time count a) (mark_at time count b) ≡ true
late-for time count period a b n h before after gap =
    let first = takes time period a (n - a) h in
    let last = takes time period (suc n) (b - suc n) h in
    let here : a + (n - a) ≡ n = omega arith in
    let there : suc n + (b - suc n) ≡ b = omega arith in
    let count : b - a ≡ n - a + suc (b - suc n) = omega arith in
    let all : (b - a) * period ≡ (n - a + suc (b - suc n)) * period = ap (λ x. x * period) count in
    let parts = split (n - a) (b - suc n) period in
    let begin : time (a + (n - a)) ≡ time n = ap time here in
    let finish : time (suc n + (b - suc n)) ≡ time b = ap time there in
    let more : (b - a) * period + most period < time b - time a = omega arith in
    grind (arith, common_steps)

-- where it is late, there is a gap
or-late : (hole late : Bool) → late ≡ true → (hole || late) ≡ true
or-late true late e = refl
or-late false late e = e

pub looked-for : GapsAreLookedFor
looked-for time count period a b n h before after gap =
    or-late (is_hole (mark_at time count a) (mark_at time count b)) _
    (late-for time count period a b n h before after gap)

pub looks-at-all : SearchesLookAtAll
looks-at-all s = (over, again)
  where
    over : (turn s).1 ≡ Over → (has_gap s.period s.from s.to ≡ false) × (s.end.number ≤ s.to.number)
    over e = (grind (arith, common_steps), grind (arith, common_steps))

    again : (turn s).1 ≡ Again
        → (has_gap s.period s.from s.to ≡ false) × ((turn s).0.from ≡ s.to) × ((turn s).0.to ≡ s.end)
    again e = (grind (arith, common_steps), grind (arith, common_steps), grind (arith, common_steps))
