-- An order is answered once.
use Rattle.std.proofs.Common.{◌≡◌, ◌≢◌, ℕ, Bool, true, false, List, [], ◌∷◌, Option, Some, None, zero, suc, is_some, slice_get, slice_set, if◌then◌else◌, arith, refl}
use Rattle.std.proofs.lemmas.Grind.{common_steps}
use Rattle.loop_station_core.specs.Answers.{all_answered, answers_of, given_by, gives, taken_early, EarlyAnswersCount}

-- where each camera has answered, each has
all-there : {L : Type 0} (given : List (Option L)) (place : ℕ) (o : Option L) → all_answered given ≡ true
    → slice_get given place ≡ Some o → is_some o ≡ true
all-there [] place o h e = grind (arith, common_steps)
all-there (None ∷ os) place o h e = grind (arith, common_steps)
all-there (Some l ∷ os) zero o h e = grind (arith, common_steps)
all-there (Some l ∷ os) (suc k) o h e =
    let rest : all_answered os ≡ true = grind (arith, common_steps) in
    let at : slice_get os k ≡ Some o = grind (arith, common_steps) in
    all-there os k o rest at

-- and a further answer changes nothing
all-given : {L : Type 0} (given : List (Option L)) (place : ℕ) (l : L) → all_answered given ≡ true
    → gives given place l ≡ (given, false)
all-given {L = L} given place l h = at (slice_get given place) refl where
  at : (o : Option (Option L)) → slice_get given place ≡ o → gives given place l ≡ (given, false)
  at None e = grind (arith, common_steps)
  at (Some x) e = let t = all-there given place x h e in grind (arith, common_steps)

whole-stays : {L : Type 0} (given : List (Option L)) (answers : List (ℕ × L)) → all_answered given ≡ true
    → (answers_of given answers ≡ 0) × (all_answered (given_by given answers) ≡ true)
whole-stays given [] h = (refl, h)
whole-stays given (a ∷ answers) h =
    let same = all-given given a.0 a.1 h in
    let rest = whole-stays given answers h in
    grind (arith, common_steps)

-- an answer that isn't the last one leaves the order open, and the last one makes it whole
step-says : {L : Type 0} (given : List (Option L)) (place : ℕ) (l : L) → all_answered given ≡ false
    → (gives given place l).1 ≡ all_answered (gives given place l).0
step-says given place l h = grind (arith, common_steps)

-- the same of the answers from a second one on
then-once : {L : Type 0} (given : List (Option L)) (a : ℕ × L) (answers : List (ℕ × L)) → all_answered given ≡ false
    → (all_answered (gives given a.0 a.1).0 ≡ false → answers_of (gives given a.0 a.1).0 answers
    ≡ (if all_answered (given_by (gives given a.0 a.1).0 answers) then 1 else 0))
    → answers_of given (a ∷ answers) ≡ (if all_answered (given_by given (a ∷ answers)) then 1 else 0)
then-once given a answers h more = at (all_answered (gives given a.0 a.1).0) refl where
  at : (b : Bool) → all_answered (gives given a.0 a.1).0 ≡ b
      → answers_of given (a ∷ answers) ≡ (if all_answered (given_by given (a ∷ answers)) then 1 else 0)
  at true e =
      let says = step-says given a.0 a.1 h in
      let rest = whole-stays (gives given a.0 a.1).0 answers e in
      grind (arith, common_steps)
  at false e =
      let says = step-says given a.0 a.1 h in
      let rest = more e in
      grind (arith, common_steps)

pub answered-once : {L : Type 0} (given : List (Option L)) (answers : List (ℕ × L)) → all_answered given ≡ false
    → answers_of given answers ≡ (if all_answered (given_by given answers) then 1 else 0)
answered-once given [] h = grind (arith, common_steps)
answered-once given (a ∷ answers) h = then-once given a answers h (answered-once (gives given a.0 a.1).0 answers)

-- where something else stands for an answer, as many have answered, and the others' answers are the same
set-counts : {L : Type 0} (given : List (Option L)) (place : ℕ) (a rest : L) → slice_get given place ≡ Some (Some a)
    → all_answered (slice_set given place (Some rest)) ≡ all_answered given
set-counts [] place a rest e = grind (arith, common_steps)
set-counts (None ∷ os) zero a rest e = grind (arith, common_steps)
set-counts (Some l ∷ os) zero a rest e = grind (arith, common_steps)
set-counts (None ∷ os) (suc k) a rest e = grind (arith, common_steps)
set-counts (Some l ∷ os) (suc k) a rest e =
    let at : slice_get os k ≡ Some (Some a) = grind (arith, common_steps) in
    let more = set-counts os k a rest at in
    grind (arith, common_steps)

set-leaves : {L : Type 0} (given : List (Option L)) (place other : ℕ) (o : Option L) → other ≢ place
    → slice_get (slice_set given place o) other ≡ slice_get given other
set-leaves [] place other o h = grind (arith, common_steps)
set-leaves (x ∷ os) zero zero o h = grind (arith, common_steps)
set-leaves (x ∷ os) zero (suc j) o h = grind (arith, common_steps)
set-leaves (x ∷ os) (suc k) zero o h = grind (arith, common_steps)
set-leaves (x ∷ os) (suc k) (suc j) o h =
    let apart : j ≢ k = grind (arith, common_steps) in
    let more = set-leaves os k j o apart in
    grind (arith, common_steps)

pub early-counts : EarlyAnswersCount
early-counts given place rest = at (slice_get given place) refl where
  at : (o : Option (Option ℕ)) → slice_get given place ≡ o → let early = taken_early given place rest in
      (all_answered early.0 ≡ all_answered given)
      × ((a : ℕ) → early.1 ≡ Some a → slice_get given place ≡ Some (Some a))
      × ((a : ℕ) → slice_get given place ≡ Some (Some a) → early.1 ≡ Some a)
      × ((other : ℕ) → other ≢ place → slice_get early.0 other ≡ slice_get given other)
  at None e = (
    grind (arith, common_steps),
    (λ a s. grind (arith, common_steps)),
    (λ a s. grind (arith, common_steps)),
    (λ other d. grind (arith, common_steps)),
  )
  at (Some None) e = (
    grind (arith, common_steps),
    (λ a s. grind (arith, common_steps)),
    (λ a s. grind (arith, common_steps)),
    (λ other d. grind (arith, common_steps)),
  )
  at (Some (Some x)) e =
      let counts = set-counts given place x rest e in (
        grind (arith, common_steps),
        (λ a s. grind (arith, common_steps)),
        (λ a s. grind (arith, common_steps)),
        (λ other d. let leaves = set-leaves given place other (Some rest) d in grind (arith, common_steps)),
      )
