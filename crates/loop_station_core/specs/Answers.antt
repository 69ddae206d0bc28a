-- Which cameras have answered an order, and what.
use Rattle.std.specs.Prelude.{◌≡◌, ◌≢◌, ℕ, ◌+◌, Bool, false, not, List, [], ◌∷◌, Option, Some, None, is_some, slice_get, slice_set, if◌then◌else◌}
use Rattle.std.specs.List.{position}

-- each camera has answered
abbrev pub all_answered : {L : Type 0} → List (Option L) → Bool
all_answered given = not (is_some (position (λ o. not (is_some o)) given))

-- there is a camera at a place, and it hasn't answered
abbrev pub is_unanswered : {L : Type 0} → List (Option L) → ℕ → Bool
is_unanswered given place = elim (slice_get given place) [ None ↦ false | Some o ↦ not (is_some o) ]

-- the camera at a place answers, and whether the order is answered by that; a second answer counts for nothing
abbrev pub gives : {L : Type 0} → List (Option L) → ℕ → L → List (Option L) × Bool
gives given place answer = if is_unanswered given place
    then (slice_set given place (Some answer), all_answered (slice_set given place (Some answer)))
    else (given, false)

-- what the camera at a place has answered is told before the others have: it is taken out, something else stands for
-- it, and what it was
abbrev pub taken_early : {L : Type 0} → List (Option L) → ℕ → L → List (Option L) × Option L
taken_early given place rest = elim (slice_get given place) [
  | None ↦ (given, None)
  | Some o ↦ elim o [ None ↦ (given, None) | Some a ↦ (slice_set given place (Some rest), Some a) ]
]

-- after the cameras at some places have answered
abbrev pub given_by : {L : Type 0} → List (Option L) → List (ℕ × L) → List (Option L)
given_by given [] = given
given_by given (a ∷ answers) = given_by (gives given a.0 a.1).0 answers

-- how often the order is answered by that
abbrev pub answers_of : {L : Type 0} → List (Option L) → List (ℕ × L) → ℕ
answers_of given [] = 0
answers_of given (a ∷ answers) = (if (gives given a.0 a.1).1 then 1 else 0) + answers_of (gives given a.0 a.1).0 answers

-- An answer that is told early is the camera's own. The order is answered where it was so before, and no other camera's
-- answer is another one.
abbrev pub EarlyAnswersCount : Type 0
EarlyAnswersCount = (given : List (Option ℕ)) (place rest : ℕ) → let early = taken_early given place rest in
    (all_answered early.0 ≡ all_answered given)
    × ((a : ℕ) → early.1 ≡ Some a → slice_get given place ≡ Some (Some a))
    × ((a : ℕ) → slice_get given place ≡ Some (Some a) → early.1 ≡ Some a)
    × ((other : ℕ) → other ≢ place → slice_get early.0 other ≡ slice_get given other)
