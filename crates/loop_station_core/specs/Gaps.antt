-- What of a time is held, and where one clip lies within others.
use Rattle.std.specs.Prelude.{◌≡◌, ◌≢◌, ◌==◌, not, true, ℕ, ◌+◌, ◌-◌, ◌/◌, ◌≤◌, ◌&&◌, ◌||◌, ◌⊎◌, Bool, List, [], ◌∷◌, filter, sum_by, nat_lt, nat_le, ◌<◌, ◌*◌}
use Rattle.loop_station_core.specs.Sets.{store_of}
use Rattle.loop_station_core.specs.declared.runs.Run.{Run}
use Rattle.loop_station_core.specs.declared.runs.Gap.{Gap}
use Rattle.loop_station_core.specs.declared.leave.ShownClip.{ShownClip}

-- what lies between the runs of a time that begins at `since` and ends at `until`, long or not
abbrev pub between : ℕ → List Run → ℕ → List Gap
between since [] until = record { micros = until - since; at = since; lost = 0 } ∷ []
between since (r ∷ rs) until = record { micros = r.first - since; at = since; lost = r.lost } ∷ between r.last rs until

-- frames are lost there, or it is longer than one and a half of these periods
abbrev pub is_gap : ℕ → Gap → Bool
is_gap period g = nat_lt 0 g.lost || nat_lt (period + period / 2) g.micros

-- the gaps of a time: those of what lies between its runs
abbrev pub gaps : ℕ → ℕ → List Run → ℕ → List Gap
gaps period since runs until = filter (is_gap period) (between since runs until)

-- how long gaps are together
abbrev pub micros_missing : List Gap → ℕ
micros_missing gs = sum_by (λ g. g.micros) gs

-- how many frames are lost in gaps
abbrev pub frames_lost : List Gap → ℕ
frames_lost gs = sum_by (λ g. g.lost) gs

-- the runs lie one after the other within the time
abbrev pub AreWithin : ℕ → List Run → ℕ → Type 0
AreWithin since [] until = since ≤ until
AreWithin since (r ∷ rs) until = (since ≤ r.first) × (r.first ≤ r.last) × AreWithin r.last rs until

-- a clip lies wholly within another one of its store
abbrev pub lies_within : ShownClip → ShownClip → Bool
lies_within old new = not (old.id == new.id) && ((store_of old.id == store_of new.id)
    && (nat_le new.from old.from && nat_le old.to new.to))

-- it is another clip of the store, and each number of the first one is one of its own
abbrev pub HasEach : ShownClip → ShownClip → Type 0
HasEach old new = (old.id ≢ new.id) × (store_of old.id ≡ store_of new.id)
    × ((n : ℕ) → old.from ≤ n → n ≤ old.to → (new.from ≤ n) × (n ≤ new.to))

-- how long runs are together
abbrev pub micros_held : List Run → ℕ
micros_held runs = sum_by (λ r. r.last - r.first) runs

-- Where each gap counts, what is held of a time and what is missing are all of it.
abbrev pub TimesAddUp : Type 0
TimesAddUp = (since until : ℕ) (runs : List Run) → AreWithin since runs until
    → micros_missing (gaps 0 since runs until) + micros_held runs ≡ until - since

-- Something is a gap exactly where frames are lost there, or it is longer than one and a half of a frame's time.
abbrev pub LongGapsAreLong : Type 0
LongGapsAreLong = (period : ℕ) (g : Gap) → (is_gap period g ≡ true → (1 ≤ g.lost) ⊎ (period * 3 < g.micros * 2))
    × (1 ≤ g.lost → is_gap period g ≡ true) × (period * 3 < g.micros * 2 → is_gap period g ≡ true)

-- Each frame that is lost between two runs is in one of the gaps.
abbrev pub LostAreInGaps : Type 0
LostAreInGaps = (period since until : ℕ) (runs : List Run)
    → frames_lost (gaps period since runs until) ≡ sum_by (λ r. r.lost) runs
