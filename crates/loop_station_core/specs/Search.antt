-- How the gaps of a clip are found, by the sequences and the times of few of its frames.
use Rattle.std.specs.Prelude.{ℕ, ◌+◌, ◌-◌, ◌*◌, ◌/◌, ◌%◌, ◌^◌, ◌||◌, Bool, max, nat_lt, nat_le, if◌then◌else◌}
use Rattle.loop_station_core.specs.declared.search.Mark.{Mark}
use Rattle.loop_station_core.specs.declared.search.Search.{Search}
use Rattle.loop_station_core.specs.declared.search.SearchTurn.{SearchTurn}
use Rattle.loop_station_core.specs.declared.search.SearchTurn.TheVariants.{Read, Gap, Again, Over}

-- how much longer than a period a frame may be on its way: half of one, and up to a quarter of a second in all
abbrev pub most : ℕ → ℕ
most period = max (period / 2) (250000 - period)

-- from one frame to another more time passes than their frames take, and that much longer
abbrev pub takes_long : ℕ → Mark → Mark → Bool
takes_long period a b = nat_lt ((b.number - a.number) * period + most period) (b.time - a.time)

-- one number less another, as numbers of 32 bits go round
abbrev pub less : ℕ → ℕ → ℕ
less a b = (a + (2 ^ 32 - b)) % 2 ^ 32

-- how far a sequence is ahead of another one, with so many frames from one to the other: that many were lost
abbrev pub ahead : ℕ → ℕ → ℕ → ℕ
ahead from to frames = less (less to from) (frames % 2 ^ 32)

-- so many frames are lost between two sequences; none where that is half of all numbers, or more: it began anew
abbrev pub lost_counts : ℕ → ℕ → ℕ → ℕ
lost_counts from to frames = if nat_lt (ahead from to frames) (2 ^ 31) then ahead from to frames else 0

-- the sequences of two frames aren't as far apart as their numbers
abbrev pub is_hole : Mark → Mark → Bool
is_hole a b = nat_lt 0 (ahead a.sequence b.sequence (b.number - a.number))

-- frames are lost from one frame to another, or none came for a while
abbrev pub has_gap : ℕ → Mark → Mark → Bool
has_gap period a b = is_hole a b || takes_long period a b

-- no frame lies within the stretch that is looked at
abbrev pub is_narrow : Search → Bool
is_narrow s = nat_lt (s.to.number - s.from.number) 2

-- the frame in its middle
abbrev pub middle : Search → ℕ
middle s = s.from.number + (s.to.number - s.from.number) / 2

-- all up to the end of the stretch is searched
abbrev pub passed : Search → Search
passed s = record s { from = s.to; to = s.end }

-- what a search does next
abbrev pub turn : Search → Search × SearchTurn
turn s = if has_gap s.period s.from s.to
    then (if is_narrow s then (passed s, Gap s.from s.to) else (s, Read (middle s)))
    else (if nat_le s.end.number s.to.number then (s, Over) else (passed s, Again))

-- a search that was told when its frame came: a half without a gap is searched
abbrev pub told : Search → ℕ → ℕ → Search
told s time sequence = let mark : Mark = record { number = middle s; time = time; sequence = sequence } in
    if has_gap s.period s.from mark then record s { to = mark } else record s { from = mark }

-- a frame by its number, as a mark: when it came, and its sequence, of which the frames are a count that goes round
abbrev pub mark_at : (ℕ → ℕ) → (ℕ → ℕ) → ℕ → Mark
mark_at time count n = record { number = n; time = time n; sequence = count n % 2 ^ 32 }
