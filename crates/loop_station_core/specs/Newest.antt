-- Which of a camera's stores has the newest frame, by sequences that go round.
use Rattle.std.specs.Prelude.{◌≡◌, ◌<◌, ◌≤◌, ℕ, ◌+◌, ◌-◌, ◌^◌, Bool, true, false, List, [], ◌∷◌, Option, Some, None, IfSome, min, max, nat_lt, nat_le, if◌then◌else◌}
use Rattle.loop_station_core.specs.declared.newest.NewestSeen.{NewestSeen}
use Rattle.loop_station_core.specs.declared.newest.StoreNewest.{StoreNewest}

-- how far one sequence is ahead of another, going round
abbrev pub counts_ahead : ℕ → ℕ → ℕ
counts_ahead one other = if nat_le other one then one - other else one + 2 ^ 32 - other

-- the later of two frames by time, or the first
abbrev pub later_of : Option StoreNewest → StoreNewest → StoreNewest
later_of None other = other
later_of (Some one) other = if nat_le other.time one.time then one else other

-- the newest by sequence of one more and those before it
abbrev pub newest_of : Option StoreNewest → StoreNewest → StoreNewest
newest_of None s = s
newest_of (Some n) s = if nat_le (2 ^ 31) (counts_ahead s.sequence n.sequence) then n
    else (if nat_lt 0 (counts_ahead s.sequence n.sequence) then s else later_of (Some n) s)

-- how far the others lie behind it then
abbrev pub span_after : Option StoreNewest → ℕ → StoreNewest → ℕ
span_after None span s = span
span_after (Some n) span s = if nat_le (2 ^ 31) (counts_ahead s.sequence n.sequence) then max span (counts_ahead n.sequence s.sequence)
    else min (span + counts_ahead s.sequence n.sequence) (2 ^ 64 - 1)

-- what was seen, with one more store
abbrev pub newest_after : NewestSeen → StoreNewest → NewestSeen
newest_after w s = record {
  by_count = Some (newest_of w.by_count s);
  span = span_after w.by_count w.span s;
  by_time = Some (later_of w.by_time s);
}

-- the newest of them, and whether that is by sequence
abbrev pub chosen : NewestSeen → Option StoreNewest × Bool
chosen w = if nat_lt w.span (2 ^ 31) then (w.by_count, true) else (w.by_time, false)

abbrev pub nothing_seen : NewestSeen
nothing_seen = record { by_count = None; span = 0; by_time = None }

abbrev pub newest_after_all : NewestSeen → List StoreNewest → NewestSeen
newest_after_all w [] = w
newest_after_all w (s ∷ ss) = newest_after_all (newest_after w s) ss

-- they have sequences of 32 bits
abbrev pub AreSequences : List StoreNewest → Type 0
AreSequences [] = Unit {0}
AreSequences (s ∷ ss) = (s.sequence < 2 ^ 32) × AreSequences ss

-- this sequence is ahead of each of them, by less than half of all
abbrev pub IsAheadOf : ℕ → List StoreNewest → Type 0
IsAheadOf sequence [] = Unit {0}
IsAheadOf sequence (s ∷ ss) = (counts_ahead sequence s.sequence < 2 ^ 31) × IsAheadOf sequence ss

-- none of them came later
abbrev pub AreNotLater : ℕ → List StoreNewest → Type 0
AreNotLater time [] = Unit {0}
AreNotLater time (s ∷ ss) = (s.time ≤ time) × AreNotLater time ss

-- Where the newest of some stores is chosen by sequence, it is ahead of each, by less than half of all sequences.
abbrev pub NewestIsAhead : Type 0
NewestIsAhead = (s : StoreNewest) (ss : List StoreNewest) → AreSequences (s ∷ ss)
    → let seen = newest_after_all nothing_seen (s ∷ ss) in
    (chosen seen).1 ≡ true → IfSome (chosen seen).0 (λ n. IsAheadOf n.sequence (s ∷ ss))

-- It is chosen so wherever one of them is ahead of each, by less than half of all sequences.
abbrev pub OrderedAreCounted : Type 0
OrderedAreCounted = (e : ℕ) (s : StoreNewest) (ss : List StoreNewest) → e < 2 ^ 32 → AreSequences (s ∷ ss)
    → IsAheadOf e (s ∷ ss) → (chosen (newest_after_all nothing_seen (s ∷ ss))).1 ≡ true

-- Else none of them came later than the one that is chosen.
abbrev pub OthersAreTimed : Type 0
OthersAreTimed = (s : StoreNewest) (ss : List StoreNewest) → let seen = newest_after_all nothing_seen (s ∷ ss) in
    (chosen seen).1 ≡ false → IfSome (chosen seen).0 (λ n. AreNotLater n.time (s ∷ ss))
