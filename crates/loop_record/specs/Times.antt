-- Spans of time, the held frames of one, and their numbers as runs.
use Rattle.std.specs.Prelude.{◌≡◌, ℕ, ◌+◌, ◌-◌, ◌≤◌, Bool, ◌&&◌, nat_le, List, [], ◌∷◌, map}
use Rattle.std.specs.List.{filter, flat_map, range_with_len}
use Rattle.loop_record.specs.declared.clip.Span.{Span}
use Rattle.loop_record.specs.declared.times.Times.{Times}
use Rattle.loop_record.specs.Recording.{Recording}

-- a moment lies in the span of time
abbrev pub is_in : Times → ℕ → Bool
is_in times moment = nat_le times.since moment && nat_le moment times.until

-- the numbers of the held frames whose time lies in the span, in their order
abbrev pub numbers_in_time : Times → Recording → List ℕ
numbers_in_time times r = map (λ f. f.0) (filter (λ f. is_in times f.1.timestamp) r.frames)

-- the numbers from the first of a span to its last
abbrev pub numbers_of_span : Span → List ℕ
numbers_of_span s = range_with_len s.from (s.to + 1 - s.from)

-- the numbers of several spans, one after the other
abbrev pub numbers_of_spans : List Span → List ℕ
numbers_of_spans spans = flat_map numbers_of_span spans

-- spans without a tag that rise from low on: each has a number, and between one and the next is a number of neither
abbrev pub RunsFrom : ℕ → List Span → Type 0
RunsFrom low [] = Unit {0}
RunsFrom low (s ∷ spans) = (low ≤ s.from) × ((s.from ≤ s.to) × ((s.tag ≡ 0) × RunsFrom (s.to + 2) spans))

-- the numbers as runs, each as long as it can be
pub record AreRuns (numbers : List ℕ) (runs : List Span) : Type 0 where
  pub numbers_are : numbers_of_spans runs ≡ numbers
  pub apart : RunsFrom 0 runs
