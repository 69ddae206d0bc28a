-- The least number of a span that isn't held, and the checks of a span.
use Rattle.std.proofs.Common.{◌≡◌, ◌⊎◌, inl, inr, ℕ, zero, suc, ◌+◌, ◌-◌, ◌<◌, ◌≤◌, Bool, true, false, not, ◌&&◌, cond, eqb, ltb, option_map, Option, None, Some, [], ◌∷◌, refl, sym, ap, ◌∙◌, arith}
use Rattle.std.proofs.lemmas.Bool.{cases_lt}
use Rattle.std.specs.Prelude.{IsTrue}
use Rattle.std.specs.List.{find, range_with_len}
use Rattle.loop_record.specs.declared.clip.Span.{Span}
use Rattle.loop_record.specs.Layout.{has_tag_place}
use Rattle.loop_record.specs.Recording.{Recording, Ring, holds, holds_all, may_lock}
use Rattle.loop_record.proofs.TestFacts.{at_most_test, differ_test, equal_test, not_below, not_below_test, not_false}
use Rattle.loop_record.proofs.NumberOrder.{each-all_range}
use Rattle.loop_store.specs.declared.fault.StoreFault.TheVariants.{ClipEmpty, ClipNotHeld, ClipTableFull, OldLayout}
use Rattle.loop_store.specs.Calls.{due, first_of, missing, span_checks}
use Rattle.loop_store.proofs.CheckAnswers.{failed, found, none-before, passed, passes, skipped}
use Rattle.loop_record.proofs.Names.{free_id}

-- ---- a search of a range

-- the first that passes
find-first : (p : ℕ → Bool) (low count n : ℕ) → low ≤ n → n < low + count → p n ≡ true
    → ((m : ℕ) → low ≤ m → m < n → p m ≡ false) → find p (range_with_len low count) ≡ Some n
find-first p low zero n from to here before = absurd (omega (arith, from, to))
find-first p low (suc count) n from to here before =
    go (cases_lt low n) (λ l. find-first p (low + 1) count n (omega (arith, l)) (omega (arith, to)) here
    (λ m below above. before m (omega (arith, below)) above))
  where
    go : (low < n) ⊎ (n ≤ low) → (low < n → find p (range_with_len (low + 1) count) ≡ Some n)
        → cond (p low) (Some low) (find p (range_with_len (low + 1) count)) ≡ Some n
    go (inl l) rest =
        let none = before low (omega arith) l in
        ap (λ (b : Bool). cond b (Some low) (find p (range_with_len (low + 1) count))) none ∙ rest l
    go (inr l) rest =
        let same : low ≡ n = omega (arith, from, l) in
        ap (λ (b : Bool). cond b (Some low) (find p (range_with_len (low + 1) count))) (ap p same ∙ here) ∙ ap (λ (k : ℕ). Some k) same

-- none passes
find-none : (p : ℕ → Bool) (low count : ℕ) → ((m : ℕ) → low ≤ m → m < low + count → p m ≡ false)
    → find p (range_with_len low count) ≡ None
find-none p low zero none = refl
find-none p low (suc count) none =
    let here = none low (omega arith) (omega arith) in
    let rest = find-none p (low + 1) count (λ m below above. none m (omega (arith, below)) (omega (arith, above))) in
    λ i. cond (here i) (Some low) (rest i)

none-found : (p : ℕ → Bool) (low count : ℕ) → find p (range_with_len low count) ≡ None → (m : ℕ) → low ≤ m
    → m < low + count → p m ≡ false
none-found p low zero e m below above = absurd (omega (arith, below, above))
none-found p low (suc count) e m below above = go (p low) refl e (λ none l. none-found p (low + 1) count none m l (omega (arith, above)))
  where
    go : (b : Bool) → p low ≡ b → cond b (Some low) (find p (range_with_len (low + 1) count)) ≡ None
        → (find p (range_with_len (low + 1) count) ≡ None → low + 1 ≤ m → p m ≡ false) → p m ≡ false
    go true is none rest = absurd cc
    go false is none rest = pick (cases_lt low m)
      where
        pick : (low < m) ⊎ (m ≤ low) → p m ≡ false
        pick (inl l) = rest none (omega (arith, l))
        pick (inr l) = let same : m ≡ low = omega (arith, below, l) in ap p same ∙ is

-- ---- the least number that isn't held

pub missing-is : (r : Recording) (span : Span) (n : ℕ) → span.from ≤ n → n ≤ span.to → holds r n ≡ false
    → ((m : ℕ) → span.from ≤ m → m < n → holds r m ≡ true) → Some n ≡ missing r span
missing-is r span n from to none held =
    sym (find-first (λ k. not (holds r k)) span.from (span.to + 1 - span.from) n from (omega (arith, from, to))
    (ap not none) (λ m low high. ap not (held m low high)))

pub missing-none : (r : Recording) (span : Span) → span.from ≤ span.to
    → ((m : ℕ) → span.from ≤ m → m ≤ span.to → holds r m ≡ true) → None ≡ missing r span
missing-none r span some held =
    sym (find-none (λ k. not (holds r k)) span.from (span.to + 1 - span.from)
    (λ m low high. ap not (held m low (omega (arith, some, high)))))

-- where there is none, each is held
pub none-missing : (r : Recording) (span : Span) → missing r span ≡ None → holds_all r span ≡ true
none-missing r span none = each-all_range (holds r) span.from (span.to + 1 - span.from)
    (λ n low high. not_false (holds r n)
    (none-found (λ k. not (holds r k)) span.from (span.to + 1 - span.from) none n low high))

-- ---- the checks of a span

behind-empty : (v : ℕ) (r : Recording) (span : Span) → span.from ≤ span.to
    → first_of (span_checks v r span) ≡ first_of (option_map ClipNotHeld (missing r span)
    ∷ due (eqb (free_id r) 64) ClipTableFull ∷ due (not (has_tag_place v span)) OldLayout ∷ [])
behind-empty v r span some = passed (ltb span.to span.from) ClipEmpty _ (not_below_test span.to span.from some)

pub first-missing : (v : ℕ) (r : Recording) (span : Span) (n : ℕ) → span.from ≤ span.to → Some n ≡ missing r span
    → first_of (span_checks v r span) ≡ Some (ClipNotHeld n)
first-missing v r span n some is = behind-empty v r span some ∙ found (option_map ClipNotHeld (missing r span))
    (ClipNotHeld n) _ (ap (option_map ClipNotHeld) (sym is))

behind-missing : (v : ℕ) (r : Recording) (span : Span) → span.from ≤ span.to → None ≡ missing r span
    → first_of (span_checks v r span) ≡ first_of (due (eqb (free_id r) 64) ClipTableFull
    ∷ due (not (has_tag_place v span)) OldLayout ∷ [])
behind-missing v r span some is = behind-empty v r span some
    ∙ skipped (option_map ClipNotHeld (missing r span)) _ (ap (option_map ClipNotHeld) (sym is))

pub first-full : (v : ℕ) (r : Recording) (span : Span) → span.from ≤ span.to → None ≡ missing r span → free_id r ≡ 64
    → first_of (span_checks v r span) ≡ Some ClipTableFull
first-full v r span some is full = behind-missing v r span some is
    ∙ failed (eqb (free_id r) 64) ClipTableFull _ (equal_test (free_id r) 64 full)

behind-full : (v : ℕ) (r : Recording) (span : Span) → span.from ≤ span.to → None ≡ missing r span → free_id r < 64
    → first_of (span_checks v r span) ≡ first_of (due (not (has_tag_place v span)) OldLayout ∷ [])
behind-full v r span some is free = behind-missing v r span some is
    ∙ passed (eqb (free_id r) 64) ClipTableFull _ (differ_test (free_id r) 64 (λ e. omega (arith, e, free)))

pub first-old : (v : ℕ) (r : Recording) (span : Span) → span.from ≤ span.to → None ≡ missing r span → free_id r < 64
    → has_tag_place v span ≡ false → first_of (span_checks v r span) ≡ Some OldLayout
first-old v r span some is free none = behind-full v r span some is free
    ∙ failed (not (has_tag_place v span)) OldLayout [] (ap not none)

pub first-fits : (v : ℕ) (r : Recording) (span : Span) → span.from ≤ span.to → None ≡ missing r span → free_id r < 64
    → has_tag_place v span ≡ true → first_of (span_checks v r span) ≡ None
first-fits v r span some is free place = behind-full v r span some is free
    ∙ passed (not (has_tag_place v span)) OldLayout [] (ap not place)

no-number : (o : Option ℕ) → option_map ClipNotHeld o ≡ None → o ≡ None
no-number None e = refl
no-number (Some n) e = absurd cc

-- where none is due, the clip may be added
pub fits-legal : (v : ℕ) (ring : Ring) (r : Recording) (span : Span) → first_of (span_checks v r span) ≡ None
    → free_id r < 64 → IsTrue (may_lock r span)
fits-legal v ring r span none free =
    let a = passes (ltb span.to span.from) ClipEmpty _ none in
    let b = none-before (option_map ClipNotHeld (missing r span)) _ a.1 in
    let some = at_most_test span.from span.to (not_below span.to span.from a.0) in
    let held = none-missing r span (no-number (missing r span) b.0) in
    let low = at_most_test (suc (free_id r)) 64 free in
    λ i. (some i && held i) && low i
