-- The times of frames that their source says, and the gaps between them.
use Rattle.std.specs.Prelude.{◌≡◌, ◌<◌, ◌≤◌, ℕ, ◌+◌, ◌-◌, ◌/◌, ◌^◌, ◌&&◌, ◌||◌, Bool, true, false, not, List, [], ◌∷◌, Option, Some, None, IfSome, is_none, is_some, max, min, nat_lt, nat_le, if◌then◌else◌}
use Rattle.loop_station_core.specs.declared.timing.Arrival.{Arrival}
use Rattle.loop_station_core.specs.declared.timing.Stamped.{Stamped}
use Rattle.loop_station_core.specs.declared.timing.Timing.{Timing}

-- the time that its source says, or else when it came
abbrev pub said_or_now : Arrival → ℕ
said_or_now a = elim a.said [
  | Some time ↦ time
  | None ↦ a.now
]

-- how much later than the last time the next one is at least: half of what has passed since that came, where its source
-- says one more than a second before it
abbrev pub step_since : Option ℕ → Option ℕ → ℕ → ℕ
step_since (Some last) (Some said) passed = if nat_lt 1000000 (last - said) then max (passed / 2) 1 else 1
step_since _ _ passed = 1

abbrev pub step_of : Timing → Arrival → ℕ
step_of t a = step_since t.last a.said (a.now - t.came)

-- a time, or one so much after the last one where it isn't later
abbrev pub later : Option ℕ → ℕ → ℕ → ℕ
later None step time = time
later (Some last) step time = if nat_le time last then min (last + step) (2 ^ 64 - 1) else time

-- the time that its source says isn't later than the last one
abbrev pub is_back : Option ℕ → Option ℕ → Bool
is_back (Some last) (Some said) = nat_le said last
is_back _ _ = false

-- the gap before a time, if it is longer than one and a half of a frame's time
abbrev pub gap_since : Bool → Option ℕ → ℕ → ℕ → Option ℕ
gap_since streams None time period = None
gap_since streams (Some last) time period =
    if streams && (nat_lt 0 period && nat_lt (min (period + period / 2) (2 ^ 64 - 1)) (time - last))
    then Some (time - last) else None

-- a gap is told unless one was told less than a second before
abbrev pub tells : Option ℕ → Option ℕ → ℕ → Bool
tells None told now = false
tells (Some gap) None now = true
tells (Some gap) (Some told) now = nat_le 1000000 (now - told)

abbrev pub counted : ℕ → Option ℕ → ℕ
counted gaps gap = if is_some gap then min (gaps + 1) (2 ^ 64 - 1) else gaps

-- what is known after a frame with this time and this gap before it, and what is told
abbrev pub stamped_with : Timing → Arrival → ℕ → Option ℕ → Timing × Stamped
stamped_with t a time gap = (
  record {
    last = Some time;
    came = a.now;
    streams = true;
    gaps = counted t.gaps gap;
    told = if tells gap t.told a.now then Some a.now else t.told;
    back = t.back || is_back t.last a.said;
    untimed = t.untimed || is_none a.said;
  },
  record {
    time = time;
    back = is_back t.last a.said && not t.back;
    untimed = is_none a.said && not t.untimed;
    gap = if tells gap t.told a.now then gap else None;
  },
)

-- the same after a frame that has come
abbrev pub step_timing : Timing → Arrival → Timing × Stamped
step_timing t a =
    let time = later t.last (step_of t a) (said_or_now a) in
    stamped_with t a time (gap_since t.streams t.last time a.period)

-- each frame's time is later than that of the frame before, as long as there are later ones
abbrev pub EachLater : Timing → List Arrival → Type 0
EachLater t [] = Unit {0}
EachLater t (a ∷ more) =
    IfSome t.last (λ last. last < 2 ^ 64 - 1 → last < (step_timing t a).1.time) × EachLater (step_timing t a).0 more

-- Times rise, whatever a source says.
abbrev pub FrameTimesRise : Type 0
FrameTimesRise = (t : Timing) (frames : List Arrival) → EachLater t frames

-- A gap is told a second after the one before, or later.
abbrev pub GapsAreToldApart : Type 0
GapsAreToldApart = (t : Timing) (a : Arrival) (told : ℕ) → t.told ≡ Some told
    → is_some (step_timing t a).1.gap ≡ true → 1000000 ≤ a.now - told

-- A frame has the time that its source says, or else that at which it came, wherever this is later than the last one.
abbrev pub TimesAreTheSources : Type 0
TimesAreTheSources = (t : Timing) (a : Arrival) (last said : ℕ) → let time = (step_timing t a).1.time in
    (a.said ≡ Some said → said_or_now a ≡ said) × (a.said ≡ None → said_or_now a ≡ a.now)
    × (t.last ≡ None → time ≡ said_or_now a) × (t.last ≡ Some last → last < said_or_now a → time ≡ said_or_now a)

-- A gap is told only where more than one and a half of a frame's time passed since the last one; and where so much did
-- in a stream, one is told unless that was so within a second. Each counts, told or not.
abbrev pub LongGapsAreTold : Type 0
LongGapsAreTold = (t : Timing) (a : Arrival) (last : ℕ) → t.last ≡ Some last → a.period + a.period / 2 < 2 ^ 64
    → let now = step_timing t a in let gap = now.1.time - last in
    (is_some now.1.gap ≡ true → (now.1.gap ≡ Some gap) × (a.period + a.period / 2 < gap))
    × (t.streams ≡ true → 1 ≤ a.period → a.period + a.period / 2 < gap
    → (t.gaps + 1 < 2 ^ 64 → now.0.gaps ≡ t.gaps + 1) × (t.told ≡ None → now.1.gap ≡ Some gap))

-- That a source's time isn't later than the last one, or that it says none, is told the first time that it is so, and
-- not again.
abbrev pub OddTimesAreToldOnce : Type 0
OddTimesAreToldOnce = (t : Timing) (a : Arrival) (last said : ℕ) → let now = step_timing t a in
    (t.back ≡ true → (now.1.back ≡ false) × (now.0.back ≡ true))
    × (t.untimed ≡ true → (now.1.untimed ≡ false) × (now.0.untimed ≡ true))
    × (t.back ≡ false → t.last ≡ Some last → a.said ≡ Some said → said ≤ last
    → (now.1.back ≡ true) × (now.0.back ≡ true))
    × (t.untimed ≡ false → a.said ≡ None → (now.1.untimed ≡ true) × (now.0.untimed ≡ true))
