-- How far a source's clock is ahead of the station's, and which of the times that it says are none.
use Rattle.std.specs.Prelude.{◌≡◌, ◌<◌, ◌≤◌, ℕ, ◌+◌, ◌-◌, ◌/◌, ◌^◌, ◌&&◌, ◌||◌, ◌⊎◌, Bool, true, false, List, Some, None, is_some, length, min, nat_lt, nat_le, if◌then◌else◌, slice_index_or}
use Rattle.std.specs.List.{All}
use Rattle.std.specs.List.Sorted.{IsPermutation, IsNonDecreasing}
use Rattle.loop_station_core.specs.declared.clock.Heard.{Heard}
use Rattle.loop_station_core.specs.declared.clock.SourceClock.{SourceClock}
use Rattle.loop_station_core.specs.declared.clock.Verdict.{Verdict}
use Rattle.loop_station_core.specs.declared.clock.Verdict.TheVariants.{Right, Wrong, Anew}

-- how far a clock is ahead that shows this time, by the station's, and 2^62
abbrev pub ahead_of : ℕ → ℕ → ℕ
ahead_of said now = min (said + 2 ^ 62) (2 ^ 64 - 1) - now

-- what it shows at one of the station's times
abbrev pub by_source : ℕ → ℕ → ℕ
by_source now ahead = min (now + ahead) (2 ^ 64 - 1) - 2 ^ 62

-- it is the one in the middle, once these are in order
abbrev pub IsMedian : List ℕ → ℕ → Type 0
IsMedian values m = (rising : List ℕ) × IsPermutation values rising × IsNonDecreasing rising
    × (length rising / 2 < length rising) × (slice_index_or rising (length rising / 2) 0 ≡ m)

-- how far two are apart
abbrev pub apart : ℕ → ℕ → ℕ
apart one other = (one - other) + (other - one)

-- the time that a source says is none
abbrev pub is_far : Heard → Bool
is_far f = elim f.measure [
  | Some measure ↦ nat_lt 60000000 (apart (ahead_of f.said f.now) measure)
      && nat_lt 60000000 (apart (ahead_of f.said f.now) f.newest)
  | None ↦ nat_lt 6311520000000000 (f.said - f.now)
]

-- a time that is none joins those before it that show the same clock, or is the first of others
abbrev pub misheard : SourceClock → Heard → SourceClock
misheard c f =
    if nat_lt 0 c.others && nat_le (apart (ahead_of f.said f.now) c.other) 1000000
    then record c { others = min (c.others + 1) (2 ^ 32 - 1) }
    else record c { others = 1; other = ahead_of f.said f.now; since = f.now }

-- eight of them show another clock, over two seconds
abbrev pub steps_now : SourceClock → ℕ → Bool
steps_now c now = nat_le 8 c.others && nat_le 2000000 (now - c.since)

-- the clock after a time that is none, and what becomes of it
abbrev pub misled : SourceClock → Heard → SourceClock × Verdict
misled c f =
    let now = misheard c f in
    if is_some f.measure && steps_now now f.now
    then (record now { others = 0; told = false; settled = Some (ahead_of f.said f.now); at = f.now }, Anew)
    else (record now { told = true }, Wrong)

-- the clock after a frame, and what becomes of the time that its source says
abbrev pub clock_judged : SourceClock → Heard → SourceClock × Verdict
clock_judged c f = if is_far f then misled c f else (record c { others = 0 }, Right)

-- the clock with a measure, and whether it has moved since that was told
abbrev pub clock_settled : SourceClock → ℕ → ℕ → SourceClock × Bool
clock_settled c measure now = elim c.settled [
  | None ↦ (record c { settled = Some measure; at = now }, false)
  | Some settled ↦ if nat_le (apart measure settled) 1000000 || nat_lt (now - c.at) 60000000
      then (c, false)
      else (record c { settled = Some measure; at = now }, true)
]

-- the time of a frame by what became of the one that its source says
abbrev pub judged : Heard → Verdict → ℕ
judged f Wrong = elim f.measure [ Some measure ↦ by_source f.now measure | None ↦ f.now ]
judged f _ = f.said

-- these are times of this century or so
abbrev pub IsUsual : ℕ → Type 0
IsUsual time = time < 2 ^ 61

-- What a clock shows at a time by which it was measured is what it said.
abbrev pub ClocksAreRead : Type 0
ClocksAreRead = (said now : ℕ) → IsUsual said → IsUsual now → by_source now (ahead_of said now) ≡ said

-- a frame's time is within a minute of what the measure says, or of what the last frame's time says
abbrev pub IsNear : Heard → ℕ → Type 0
IsNear f m = (apart (ahead_of f.said f.now) m ≤ 60000000) ⊎ (apart (ahead_of f.said f.now) f.newest ≤ 60000000)

-- it is further from both
abbrev pub IsFar : Heard → ℕ → Type 0
IsFar f m = (60000000 < apart (ahead_of f.said f.now) m) × (60000000 < apart (ahead_of f.said f.now) f.newest)

-- A time that is near what was measured is the frame's time, and ends what was heard of another clock.
abbrev pub RightTimesStay : Type 0
RightTimesStay = (c : SourceClock) (f : Heard) (m : ℕ) → f.measure ≡ Some m → IsNear f m
    → let now = clock_judged c f in
    (now.1 ≡ Right) × (judged f now.1 ≡ f.said) × (now.0.others ≡ 0) × (now.0.told ≡ c.told)

-- One that is far from it isn't, unless another clock was heard for two seconds: the frame has what the measure says, and
-- it is told once.
abbrev pub WrongTimesAreNone : Type 0
WrongTimesAreNone = (c : SourceClock) (f : Heard) (m : ℕ) → f.measure ≡ Some m → IsFar f m → c.others < 7
    → let now = clock_judged c f in
    (now.1 ≡ Wrong) × (judged f now.1 ≡ by_source f.now m) × (now.0.told ≡ true) × (now.0.others ≤ c.others + 1)

-- A clock steps only after eight such frames in a row over two seconds that are within a second of the first; and at
-- once then.
abbrev pub StepsAreHeard : Type 0
StepsAreHeard = (c : SourceClock) (f : Heard) (m : ℕ) → f.measure ≡ Some m → let now = clock_judged c f in
    (now.1 ≡ Anew → IsFar f m × (7 ≤ c.others) × (2000000 ≤ f.now - c.since)
    × (apart (ahead_of f.said f.now) c.other ≤ 1000000) × (now.0.others ≡ 0))
    × (IsFar f m → 7 ≤ c.others → c.others < 2 ^ 32 - 1 → 2000000 ≤ f.now - c.since
    → apart (ahead_of f.said f.now) c.other ≤ 1000000 → (now.1 ≡ Anew) × (judged f now.1 ≡ f.said))

-- That a measure has moved is told where it is more than a second from what was told, and a minute has passed since then.
abbrev pub MovedClocksAreTold : Type 0
MovedClocksAreTold = (c : SourceClock) (measure now settled : ℕ) → c.settled ≡ Some settled
    → let after = clock_settled c measure now in
    (after.1 ≡ true → (1000000 < apart measure settled) × (60000000 ≤ now - c.at))
    × (1000000 < apart measure settled → 60000000 ≤ now - c.at
    → (after.1 ≡ true) × (after.0.settled ≡ Some measure) × (after.0.at ≡ now))

-- A measure lies among what it is measured by: where all of that is between two, so is the measure.
abbrev pub MediansLieAmong : Type 0
MediansLieAmong = (values : List ℕ) (m low high : ℕ) → IsMedian values m
    → All (λ v. (low ≤ v) × (v ≤ high)) values → (low ≤ m) × (m ≤ high)
