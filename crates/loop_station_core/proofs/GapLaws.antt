-- What is held of a time and its gaps are all of it.
use Rattle.std.proofs.Common.{◌≡◌, ◌⊎◌, inl, inr, ℕ, ◌+◌, ◌-◌, ◌*◌, ◌/◌, ◌<◌, ◌≤◌, Bool, true, false, List, [], ◌∷◌, arith, filter, if◌then◌else◌, refl}
use Rattle.std.specs.Prelude.{◌||◌, nat_lt, sum_by}
use Rattle.std.proofs.lemmas.List.Sums.{sum_by-cons}
use Rattle.loop_station_core.specs.Gaps.{AreWithin, between, frames_lost, gaps, is_gap, micros_missing, TimesAddUp, micros_held, LongGapsAreLong, LostAreInGaps}
use Rattle.loop_station_core.specs.declared.runs.Gap.{Gap}
use Rattle.loop_station_core.specs.declared.runs.Run.{Run}
use Rattle.std.proofs.lemmas.Grind.{common_steps}

-- how long a gap and others are
missing-cons : (g : Gap) (gs : List Gap) → micros_missing (g ∷ gs) ≡ g.micros + micros_missing gs
missing-cons g gs = sum_by-cons (λ x. x.micros) g gs

-- one gap more, or not
one-more : (b : Bool) (g : Gap) (xs ys : List Gap) → micros_missing xs ≤ micros_missing ys
    → micros_missing (if b then g ∷ xs else xs) ≤ micros_missing (g ∷ ys)
one-more true g xs ys h = omega (arith, missing-cons g xs, missing-cons g ys)
one-more false g xs ys h = omega (arith, missing-cons g ys)

-- gaps are no longer than all that lies between runs
long-fits : (period : ℕ) (gs : List Gap) → micros_missing (filter (is_gap period) gs) ≤ micros_missing gs
long-fits period [] = omega arith
long-fits period (g ∷ gs) = one-more (is_gap period g) g (filter (is_gap period) gs) gs (long-fits period gs)

-- a time that runs lie within ends no earlier than it begins
within-ends : (since : ℕ) (runs : List Run) (until : ℕ) → AreWithin since runs until → since ≤ until
within-ends since [] until h = h
within-ends since (r ∷ rs) until h = let rest : r.last ≤ until = within-ends r.last rs until h.2 in
    let first : since ≤ r.first = h.0 in let last : r.first ≤ r.last = h.1 in omega arith

-- which is no longer than the time
between-fits : (since until : ℕ) (runs : List Run) → AreWithin since runs until → micros_missing (between since runs until) ≤ until - since
between-fits since until [] h = let one = missing-cons (record { micros = until - since; at = since; lost = 0 }) [] in omega arith
between-fits since until (r ∷ rs) h =
    let first : since ≤ r.first = h.0 in
    let last : r.first ≤ r.last = h.1 in
    let rest : micros_missing (between r.last rs until) ≤ until - r.last = between-fits r.last until rs h.2 in
    let within : r.last ≤ until = within-ends r.last rs until h.2 in
    let more = missing-cons (record { micros = r.first - since; at = since; lost = r.lost }) (between r.last rs until) in
    omega arith

pub gaps-add-up : (period since until : ℕ) (runs : List Run) → AreWithin since runs until
    → until - since - micros_missing (gaps period since runs until) + micros_missing (gaps period since runs until) ≡ until - since
gaps-add-up period since until runs h =
    let long : micros_missing (gaps period since runs until) ≤ micros_missing (between since runs until) = long-fits period (between since runs until) in
    let all : micros_missing (between since runs until) ≤ until - since = between-fits since until runs h in
    omega arith

-- with a period of nothing, each gap is long that is one
zero-more : (b : Bool) (g : Gap) (xs ys : List Gap) → is_gap 0 g ≡ b → micros_missing xs ≡ micros_missing ys
    → micros_missing (if b then g ∷ xs else xs) ≡ micros_missing (g ∷ ys)
zero-more true g xs ys e h = omega (arith, missing-cons g xs, missing-cons g ys)
zero-more false g xs ys e h =
    let none : g.micros ≡ 0 = grind (arith, common_steps) in omega (arith, missing-cons g ys)

zero-all : (gs : List Gap) → micros_missing (filter (is_gap 0) gs) ≡ micros_missing gs
zero-all [] = refl
zero-all (g ∷ gs) = zero-more (is_gap 0 g) g (filter (is_gap 0) gs) gs refl (zero-all gs)

-- what lies between runs within a time, and they
all-between : (since until : ℕ) (runs : List Run) → AreWithin since runs until
    → micros_missing (between since runs until) + micros_held runs ≡ until - since
all-between since until [] h = let one = missing-cons (record { micros = until - since; at = since; lost = 0 }) [] in omega arith
all-between since until (r ∷ rs) h =
    let first : since ≤ r.first = h.0 in
    let last : r.first ≤ r.last = h.1 in
    let rest : micros_missing (between r.last rs until) + micros_held rs ≡ until - r.last = all-between r.last until rs h.2 in
    let within : r.last ≤ until = within-ends r.last rs until h.2 in
    let more = missing-cons (record { micros = r.first - since; at = since; lost = r.lost }) (between r.last rs until) in
    let held : micros_held (r ∷ rs) ≡ r.last - r.first + micros_held rs = sum_by-cons (λ x. x.last - x.first) r rs in
    omega arith

pub times-add-up : TimesAddUp
times-add-up since until runs h =
    let same = zero-all (between since runs until) in let all = all-between since until runs h in omega arith

pub long-gaps : LongGapsAreLong
long-gaps period g = (is-one, (λ lost. grind (arith, common_steps)), (λ long. grind (arith, common_steps)))
  where
    by : (lost long : Bool) → nat_lt 0 g.lost ≡ lost → nat_lt (period + period / 2) g.micros ≡ long → (lost || long) ≡ true
        → (1 ≤ g.lost) ⊎ (period * 3 < g.micros * 2)
    by true long e f h = inl (grind (arith, common_steps))
    by false true e f h = inr (grind (arith, common_steps))
    by false false e f h = absurd cc

    is-one : is_gap period g ≡ true → (1 ≤ g.lost) ⊎ (period * 3 < g.micros * 2)
    is-one h = by (nat_lt 0 g.lost) (nat_lt (period + period / 2) g.micros) refl refl h

-- how many frames are lost in a gap and in others
lost-cons : (g : Gap) (gs : List Gap) → frames_lost (g ∷ gs) ≡ g.lost + frames_lost gs
lost-cons g gs = sum_by-cons (λ x. x.lost) g gs

-- what is no gap has lost no frame
lost-more : (b : Bool) (period : ℕ) (g : Gap) (xs ys : List Gap) → is_gap period g ≡ b → frames_lost xs ≡ frames_lost ys
    → frames_lost (if b then g ∷ xs else xs) ≡ frames_lost (g ∷ ys)
lost-more true period g xs ys e h = omega (arith, lost-cons g xs, lost-cons g ys)
lost-more false period g xs ys e h =
    let none : g.lost ≡ 0 = grind (arith, common_steps) in omega (arith, lost-cons g ys)

lost-all : (period : ℕ) (gs : List Gap) → frames_lost (filter (is_gap period) gs) ≡ frames_lost gs
lost-all period [] = refl
lost-all period (g ∷ gs) = lost-more (is_gap period g) period g (filter (is_gap period) gs) gs refl (lost-all period gs)

lost-between : (since until : ℕ) (runs : List Run) → frames_lost (between since runs until) ≡ sum_by (λ r. r.lost) runs
lost-between since until [] = refl
lost-between since until (r ∷ rs) =
    let rest = lost-between r.last until rs in
    let more = lost-cons (record { micros = r.first - since; at = since; lost = r.lost }) (between r.last rs until) in
    let runs : sum_by (λ x. x.lost) (r ∷ rs) ≡ r.lost + sum_by (λ x. x.lost) rs = sum_by-cons (λ x. x.lost) r rs in
    omega arith

pub lost-in : LostAreInGaps
lost-in period since until runs =
    let all = lost-all period (between since runs until) in let held = lost-between since until runs in omega arith
