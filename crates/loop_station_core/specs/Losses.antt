-- How many frames a source without numbers lost, by how far apart those came that did.
use Rattle.std.specs.Prelude.{◌≡◌, ◌<◌, ◌≤◌, ℕ, ◌+◌, ◌-◌, ◌*◌, ◌/◌, ◌%◌, ◌&&◌, Bool, List, Option, Some, None, count_by, length, position, slice_index_or, min, ◌^◌, nat_lt, nat_le, if◌then◌else◌}

-- a distance is within three tenths of the period
abbrev pub is_near : ℕ → ℕ → Bool
is_near period distance = nat_le (distance - period) (period / 10 * 3) && nat_le (period - distance) (period / 10 * 3)

-- three quarters of some distances are
abbrev pub is_regular : List ℕ → ℕ → Bool
is_regular ds period = let near = count_by (is_near period) ds in
    nat_lt 0 near && nat_le (length ds - length ds / 4) near

-- fewer than half of some distances are less than this one, and half of them or more are no greater
abbrev pub is_median : List ℕ → ℕ → Bool
is_median ds middle = let half = length ds - length ds / 2 in
    nat_lt (count_by (λ d. nat_lt d middle) ds) half && nat_le half (count_by (λ d. nat_le d middle) ds)

abbrev pub median : List ℕ → ℕ
median ds = elim (position (is_median ds) ds) [
  | Some i ↦ slice_index_or ds i 0
  | None ↦ 0
]

-- how far apart frames come: as 16 or more did, or else as the header says
abbrev pub period_of : List ℕ → ℕ → ℕ
period_of ds header = if nat_lt (length ds) 16 then header else median ds

-- a distance says how many frames are lost: it is longer than a frame is late, no pause, and frames come regularly
abbrev pub is_judged : List ℕ → ℕ → ℕ → Bool
is_judged ds period distance =
    nat_lt 250000 distance && (nat_le distance 10000000 && (nat_lt 0 period && is_regular ds period))

-- how many periods a distance is, rounded
abbrev pub rounded : ℕ → ℕ → ℕ
rounded distance period = if nat_lt 0 period
    then (if nat_lt (period - distance % period) (distance % period)
    then min (distance / period + 1) (2 ^ 64 - 1) else distance / period)
    else 0

-- each of these periods but one is that of a lost frame
abbrev pub lost_by_time : List ℕ → ℕ → ℕ → ℕ
lost_by_time ds header distance = let period = period_of ds header in
    if is_judged ds period distance then rounded distance period - 1 else 0

-- frames come regularly, and none came for longer than a quarter of a second, and no longer than ten
abbrev pub IsJudged : List ℕ → ℕ → ℕ → Type 0
IsJudged ds period distance = (250000 < distance) × (distance ≤ 10000000)
    × (3 * length ds ≤ 4 * count_by (is_near period) ds) × (1 ≤ count_by (is_near period) ds)

-- a distance is so many periods and one, and up to half of one more or less
abbrev pub IsOfLost : ℕ → ℕ → ℕ → Type 0
IsOfLost n period distance = (2 * (n * period) + period < 2 * distance) × (2 * distance ≤ 2 * (n * period) + 3 * period)

-- Frames are told as lost only where a distance is judged, and as many as it has periods too many, to the nearest one;
-- and where it is judged and has them, they are.
abbrev pub EstimatesAreRight : Type 0
EstimatesAreRight = (ds : List ℕ) (header distance n : ℕ) → let period = period_of ds header in
    1 ≤ n
    → (lost_by_time ds header distance ≡ n → IsJudged ds period distance × IsOfLost n period distance)
    × (IsJudged ds period distance → IsOfLost n period distance → lost_by_time ds header distance ≡ n)
