-- The runs of a time that a desk returns, one by one, are all of them.
use Rattle.std.proofs.Common.{◌≡◌, ℕ, zero, suc, ◌+◌, ◌-◌, ◌≤◌, Option, Some, None, List, [], ◌∷◌, ◌++◌, drop, refl, sym, ap, ◌∙◌, subst, arith}
use Rattle.std.specs.Prelude.{slice_get}
use Rattle.std.specs.List.{range_with_len}
use Rattle.std.proofs.lemmas.Option.{get_or_from_slice_get, none-some, same_Some, slice_get_within}
use Rattle.std.proofs.Math.ListN.{drop_of_length-le}
use Rattle.std.proofs.Math.Seq.{drop-cons}
use Rattle.loop_record.specs.declared.clip.Span.{Span}
use Rattle.loop_record.specs.declared.times.Times.{Times}
use Rattle.loop_record.specs.Times.{AreRuns, RunsFrom, numbers_in_time, numbers_of_span, numbers_of_spans}
use Rattle.loop_desk.specs.Desk.{AreTold, DeskState, Rules, desk_after, run_told, runs_told}

-- ---- numbers have one list of runs

-- the first number of runs isn't below where they may begin
head-above : (low : ℕ) (runs : List Span) (x : ℕ) → RunsFrom low runs → slice_get (numbers_of_spans runs) 0 ≡ Some x → low ≤ x
head-above low [] x h there = absurd (none-some x there)
head-above low (s ∷ ss) x h there = go (s.to + 1 - s.from) refl there
  where
    go : (n : ℕ) → s.to + 1 - s.from ≡ n → slice_get (range_with_len s.from n ++ numbers_of_spans ss) 0 ≡ Some x → low ≤ x
    go zero none at = absurd (omega (arith, none, h.1.0))
    go (suc n) some at = omega (arith, h.0, same_Some s.from x at)

-- two ranges from one number, each with a rest that doesn't continue it
ranges-part : (a n m : ℕ) (R S : List ℕ) → (slice_get R 0 ≡ Some (a + n) → ⊥) → (slice_get S 0 ≡ Some (a + m) → ⊥)
    → range_with_len a n ++ R ≡ range_with_len a m ++ S → (n ≡ m) × (R ≡ S)
ranges-part a zero zero R S r s e = (refl, e)
ranges-part a zero (suc m) R S r s e =
    let at : a ≡ a + 0 = omega arith in
    absurd (r (ap (λ (l : List ℕ). slice_get l 0) e ∙ ap (λ (n : ℕ). Some n) at))
ranges-part a (suc n) zero R S r s e =
    let at : a ≡ a + 0 = omega arith in
    absurd (s (ap (λ (l : List ℕ). slice_get l 0) (sym e) ∙ ap (λ (n : ℕ). Some n) at))
ranges-part a (suc n) (suc m) R S r s e =
    let rest : range_with_len (a + 1) n ++ R ≡ range_with_len (a + 1) m ++ S = cc in
    let more : a + suc n ≡ a + 1 + n = omega arith in
    let other : a + suc m ≡ a + 1 + m = omega arith in
    let parts = ranges-part (a + 1) n m R S (subst (λ (k : ℕ). slice_get R 0 ≡ Some k → ⊥) more r)
    (subst (λ (k : ℕ). slice_get S 0 ≡ Some k → ⊥) other s) rest in
    (ap suc parts.0, parts.1)

-- two runs, and others after them
runs-part : (s t : Span) (R S : List ℕ) → s.from ≤ s.to → t.from ≤ t.to → (slice_get R 0 ≡ Some (s.to + 1) → ⊥)
    → (slice_get S 0 ≡ Some (t.to + 1) → ⊥) → numbers_of_span s ++ R ≡ numbers_of_span t ++ S
    → (s.from ≡ t.from) × ((s.to ≡ t.to) × (R ≡ S))
runs-part s t R S some more r q e = go (s.to + 1 - s.from) (t.to + 1 - t.from) refl refl e
  where
    go : (n m : ℕ) → s.to + 1 - s.from ≡ n → t.to + 1 - t.from ≡ m → range_with_len s.from n ++ R ≡ range_with_len t.from m ++ S
        → (s.from ≡ t.from) × ((s.to ≡ t.to) × (R ≡ S))
    go zero m n_is m_is e = absurd (omega (arith, some, n_is))
    go (suc n) zero n_is m_is e = absurd (omega (arith, more, m_is))
    go (suc n) (suc m) n_is m_is e =
        let first : s.from ≡ t.from = cc in
        let last : s.to + 1 ≡ s.from + suc n = omega (arith, some, n_is) in
        let other : t.to + 1 ≡ s.from + suc m = omega (arith, more, m_is, first) in
        let parts = ranges-part s.from (suc n) (suc m) R S (subst (λ (k : ℕ). slice_get R 0 ≡ Some k → ⊥) last r)
        (subst (λ (k : ℕ). slice_get S 0 ≡ Some k → ⊥) other q)
        (e ∙ ap (λ (a : ℕ). range_with_len a (suc m) ++ S) (sym first)) in
        (first, (omega (arith, last, other, parts.0), parts.1))

-- a run has a number
some-number : (s : Span) (ss : List Span) → s.from ≤ s.to → numbers_of_spans (s ∷ ss) ≡ [] → ⊥
some-number s ss some empty = go (s.to + 1 - s.from) refl empty
  where
    go : (n : ℕ) → s.to + 1 - s.from ≡ n → range_with_len s.from n ++ numbers_of_spans ss ≡ [] → ⊥
    go zero none at = absurd (omega (arith, none, some))
    go (suc n) is at = absurd cc

same-runs : (low high : ℕ) (xs ys : List Span) → RunsFrom low xs → RunsFrom high ys
    → numbers_of_spans xs ≡ numbers_of_spans ys → xs ≡ ys
same-runs low high [] [] h k e = refl
same-runs low high [] (t ∷ ts) h k e = absurd (some-number t ts k.1.0 (sym e))
same-runs low high (s ∷ ss) [] h k e = absurd (some-number s ss h.1.0 e)
same-runs low high (s ∷ ss) (t ∷ ts) h k e =
    let parts = runs-part s t (numbers_of_spans ss) (numbers_of_spans ts) h.1.0 k.1.0 (behind s ss h.1.1.1) (behind t ts k.1.1.1) e in
    let tags : s.tag ≡ t.tag = h.1.1.0 ∙ sym k.1.1.0 in
    let rest = same-runs (s.to + 2) (t.to + 2) ss ts h.1.1.1 k.1.1.1 parts.1.1 in
    λ i. record { from = parts.0 i; to = parts.1.0 i; tag = tags i } ∷ rest i
  where
    behind : (s : Span) (ss : List Span) → RunsFrom (s.to + 2) ss → slice_get (numbers_of_spans ss) 0 ≡ Some (s.to + 1) → ⊥
    behind s ss h at = absurd (omega (arith, head-above (s.to + 2) ss (s.to + 1) h at))

-- ---- what a desk returns

-- the run that is returned for a place is the one there
told-run : (numbers : List ℕ) (all : List Span) (place : ℕ) (run : Option Span) → AreRuns numbers all
    → (runs : List Span) × (AreRuns numbers runs × (slice_get runs place ≡ run))
    → slice_get all place ≡ run
told-run numbers all place run are told =
    ap (λ (l : List Span). slice_get l place)
    (same-runs 0 0 all told.0 are.apart told.1.0.apart (are.numbers_are ∙ sym told.1.0.numbers_are)) ∙ told.1.1

none-left : (all : List Span) (place : ℕ) → slice_get all place ≡ None → drop place all ≡ []
none-left [] place none = drop_of_length-le [] (omega arith)
none-left (x ∷ xs) zero none = absurd (none-some x (sym none))
none-left (x ∷ xs) (suc n) none = none-left xs n none

one-left : (all : List Span) (place : ℕ) (run : Span) → slice_get all place ≡ Some run → drop place all ≡ run ∷ drop (place + 1) all
one-left all place run there =
    let at : suc place ≡ place + 1 = omega arith in
    drop-cons all place run (slice_get_within all place run there)
    ∙ (λ i. get_or_from_slice_get all place run run there i ∷ drop (at i) all)

-- what was returned from a place on, until there was no more, is all that is left from there
told-rest : (k : Rules) (times : Times) (all runs : List Span) (place : ℕ) (s : DeskState)
    → AreRuns (numbers_in_time times s.store.recording) all
    → AreTold k s (runs_told times place runs)
    → drop place all ≡ runs
told-rest k times all [] place s are told =
    none-left all place (told-run (numbers_in_time times s.store.recording) all place None are told.0)
told-rest k times all (r ∷ rs) place s are told =
    let next : DeskState = desk_after k s (run_told times place (Some r)) in
    one-left all place r (told-run (numbers_in_time times s.store.recording) all place (Some r) are told.0)
    ∙ ap (λ (l : List Span). r ∷ l) (told-rest k times all rs (place + 1) next are told.1)

-- the first answer says that there are runs
some-runs : (k : Rules) (times : Times) (runs : List Span) (s : DeskState) → AreTold k s (runs_told times 0 runs)
    → (all : List Span) × AreRuns (numbers_in_time times s.store.recording) all
some-runs k times [] s told = (told.0.0, told.0.1.0)
some-runs k times (r ∷ rs) s told = (told.0.0, told.0.1.0)

pub told-all : (k : Rules) (times : Times) (runs : List Span) (s : DeskState) → AreTold k s (runs_told times 0 runs)
    → numbers_of_spans runs ≡ numbers_in_time times s.store.recording
told-all k times runs s told =
    let some = some-runs k times runs s told in
    ap numbers_of_spans (sym (told-rest k times some.0 runs 0 s some.1 told)) ∙ some.1.numbers_are
