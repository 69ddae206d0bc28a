-- The held frames of a span of time, as runs of their numbers.
use Rattle.std.proofs.Common.{◌≡◌, ℕ, zero, suc, ◌+◌, ◌-◌, ◌*◌, ◌/◌, ◌%◌, ◌<◌, ◌≤◌, Bool, true, false, cond, eqb, is_some, Option, Some, List, [], ◌∷◌, ◌++◌, append_assoc, get_or, length, map, take, refl, sym, ap, ◌∙◌, subst, arith}
use Rattle.std.proofs.Math.Nat.{mod-lt}
use Rattle.std.proofs.lemmas.List.{append-nil, get_or_read, take_all}
use Rattle.std.proofs.lemmas.List.Elements.{filter_more}
use Rattle.std.specs.List.{filter, position, range_with_len}
use Rattle.loop_record.specs.declared.clip.Span.{Span}
use Rattle.loop_record.specs.declared.times.Times.{Times}
use Rattle.loop_record.specs.Recording.{IsWellFormed, Picture, Recording, RiseBetween, frame_under}
use Rattle.loop_record.specs.Times.{AreRuns, RunsFrom, is_in, numbers_in_time, numbers_of_span, numbers_of_spans}
use Rattle.loop_record.proofs.TestFacts.{differ, equal, equal_test, differ_test}
use Rattle.loop_record.proofs.Gates.{range_append}
use Rattle.loop_record.proofs.NumberOrder.{held-among, numbers_of}
use Rattle.loop_record.proofs.NumberOrder.{among-range as rising-range}
use Rattle.loop_record.proofs.Bounds.{limits}
use Rattle.loop_ring.specs.declared.group.SlotStamp.{SlotStamp}
use Rattle.loop_ring.specs.Heads.{is_of}
use Rattle.loop_store.specs.declared.index.Index.{Index}
use Rattle.loop_store.specs.Index.{IsIndex}
use Rattle.loop_store.specs.Times.{AreStamps, EndsBelow, Rise, added, no_stamp, stamp_at, stamp_under}
use Rattle.loop_store.proofs.TimeReads.{place-within}

-- ---- one number more

-- after the last of some runs
pub added-behind : (front : List Span) (s : Span) (n : ℕ) → added (front ++ s ∷ []) n ≡ front ++ added (s ∷ []) n
added-behind [] s n = refl
added-behind (f ∷ []) s n = refl
added-behind (f ∷ g ∷ fs) s n = ap (λ (ss : List Span). f ∷ ss) (added-behind (g ∷ fs) s n)

pub added-next : (s : Span) (n : ℕ) → s.to + 1 ≡ n → added (s ∷ []) n ≡ record s { to = n } ∷ []
added-next s n next = ap (λ (b : Bool). cond b (record s { to = n } ∷ []) (s ∷ record { from = n; to = n; tag = 0 } ∷ [])) (equal_test (s.to + 1) n next)

pub added-apart : (s : Span) (n : ℕ) → (s.to + 1 ≡ n → ⊥) → added (s ∷ []) n ≡ s ∷ record { from = n; to = n; tag = 0 } ∷ []
added-apart s n apart = ap (λ (b : Bool). cond b (record s { to = n } ∷ []) (s ∷ record { from = n; to = n; tag = 0 } ∷ [])) (differ_test (s.to + 1) n apart)

runs-last : (low : ℕ) (s : Span) (n : ℕ) (b : Bool) → eqb (s.to + 1) n ≡ b → RunsFrom low (s ∷ []) → s.to < n
    → RunsFrom low (cond b (record s { to = n } ∷ []) (s ∷ record { from = n; to = n; tag = 0 } ∷ []))
runs-last low s n true is h below = (h.0, (omega (arith, h.1.0, below), (h.1.1.0, tt)))
runs-last low s n false is h below =
    let apart = differ (s.to + 1) n is in
    (h.0, (h.1.0, (h.1.1.0, (omega (arith, below, apart), (omega arith, (refl, tt))))))

runs-added : (low : ℕ) (runs : List Span) (n : ℕ) → RunsFrom low runs → EndsBelow n runs → low ≤ n → RunsFrom low (added runs n)
runs-added low [] n h below le = (le, (omega arith, (refl, tt)))
runs-added low (s ∷ []) n h below le = runs-last low s n (eqb (s.to + 1) n) refl h below.0
runs-added low (s ∷ t ∷ ss) n h below le =
    let rest = h.1.1.1 in
    (h.0, (h.1.0, (h.1.1.0, runs-added (s.to + 2) (t ∷ ss) n rest below.1 (omega (arith, rest.0, rest.1.0, below.1.0)))))

numbers-one : (n : ℕ) → range_with_len n (n + 1 - n) ≡ n ∷ []
numbers-one n =
    let count : n + 1 - n ≡ 1 = omega arith in
    ap (range_with_len n) count

numbers-longer : (s : Span) (n : ℕ) → s.from ≤ s.to → s.to + 1 ≡ n
    → range_with_len s.from (n + 1 - s.from) ≡ numbers_of_span s ++ n ∷ []
numbers-longer s n some next =
    let count : n + 1 - s.from ≡ s.to + 1 - s.from + 1 = omega (arith, some, next) in
    let place : s.from + (s.to + 1 - s.from) ≡ n = omega (arith, some, next) in
    ap (range_with_len s.from) count ∙ range_append s.from (s.to + 1 - s.from) 1
    ∙ ap (λ (k : ℕ). range_with_len s.from (s.to + 1 - s.from) ++ k ∷ []) place

numbers-last : (s : Span) (n : ℕ) (b : Bool) → eqb (s.to + 1) n ≡ b → s.from ≤ s.to
    → numbers_of_spans (cond b (record s { to = n } ∷ []) (s ∷ record { from = n; to = n; tag = 0 } ∷ []))
    ≡ (numbers_of_span s ++ []) ++ n ∷ []
numbers-last s n true is some =
    append-nil (range_with_len s.from (n + 1 - s.from)) ∙ numbers-longer s n some (equal (s.to + 1) n is)
    ∙ ap (λ (ns : List ℕ). ns ++ n ∷ []) (sym (append-nil (numbers_of_span s)))
numbers-last s n false is some =
    ap (λ (ns : List ℕ). numbers_of_span s ++ ns) (append-nil (range_with_len n (n + 1 - n)) ∙ numbers-one n)
    ∙ ap (λ (ns : List ℕ). ns ++ n ∷ []) (sym (append-nil (numbers_of_span s)))

numbers-added : (low : ℕ) (runs : List Span) (n : ℕ) → RunsFrom low runs
    → numbers_of_spans (added runs n) ≡ numbers_of_spans runs ++ n ∷ []
numbers-added low [] n h = append-nil (range_with_len n (n + 1 - n)) ∙ numbers-one n
numbers-added low (s ∷ []) n h = numbers-last s n (eqb (s.to + 1) n) refl h.1.0
numbers-added low (s ∷ t ∷ ss) n h =
    ap (λ (ns : List ℕ). numbers_of_span s ++ ns) (numbers-added (s.to + 2) (t ∷ ss) n h.1.1.1)
    ∙ sym (append_assoc (numbers_of_span s) (numbers_of_spans (t ∷ ss)) (n ∷ []))

ends-last : (m : ℕ) (s : Span) (n : ℕ) (b : Bool) → s.to < m → n < m
    → EndsBelow m (cond b (record s { to = n } ∷ []) (s ∷ record { from = n; to = n; tag = 0 } ∷ []))
ends-last m s n true h l = (l, tt)
ends-last m s n false h l = (h, (l, tt))

ends-added : (m : ℕ) (runs : List Span) (n : ℕ) → EndsBelow m runs → n < m → EndsBelow m (added runs n)
ends-added m [] n h l = (l, tt)
ends-added m (s ∷ []) n h l = ends-last m s n (eqb (s.to + 1) n) h.0 l
ends-added m (s ∷ t ∷ ss) n h l = (h.0, ends-added m (t ∷ ss) n h.1 l)

-- ---- all numbers

-- the runs of the first of some numbers that pass a test: each later number is after them
pub record RunsSoFar (p : ℕ → Bool) (numbers : List ℕ) (k : ℕ) (runs : List Span) : Type 0 where
  pub are : AreRuns (filter p (take k numbers)) runs
  pub ends : (j : ℕ) → k ≤ j → j < length numbers → EndsBelow (get_or numbers j 0) runs

filter-one : (p : ℕ → Bool) (numbers : List ℕ) (k n : ℕ) (b : Bool) → k < length numbers → get_or numbers k 0 ≡ n → p n ≡ b
    → filter p (take (k + 1) numbers) ≡ filter p (take k numbers) ++ cond b (n ∷ []) []
filter-one p numbers k n b l is said =
    filter_more p numbers k 0 l ∙ (λ i. filter p (take k numbers) ++ cond (p (is i)) (is i ∷ []) [])
    ∙ ap (λ (c : Bool). filter p (take k numbers) ++ cond c (n ∷ []) []) said

-- one that passes
pub runs-more : (p : ℕ → Bool) (numbers : List ℕ) (k n : ℕ) (old new : List Span) → Rise numbers → k < length numbers
    → get_or numbers k 0 ≡ n → p n ≡ true → new ≡ added old n → RunsSoFar p numbers k old → RunsSoFar p numbers (k + 1) new
runs-more p numbers k n old new rise l is said noted so_far = subst (RunsSoFar p numbers (k + 1)) (sym noted) (record {
  are = record {
    numbers_are = numbers-added 0 old n so_far.are.apart ∙ ap (λ (ns : List ℕ). ns ++ n ∷ []) so_far.are.numbers_are
        ∙ sym (filter-one p numbers k n true l is said);
    apart = runs-added 0 old n so_far.are.apart (subst (λ (m : ℕ). EndsBelow m old) is (so_far.ends k (omega arith) l)) (omega arith);
  };
  ends = λ j le less. ends-added (get_or numbers j 0) old n (so_far.ends j (omega (arith, le)) less)
      (subst (λ (m : ℕ). m < get_or numbers j 0) is (rise k j (omega (arith, le)) less));
})

-- one that doesn't
pub runs-same : (p : ℕ → Bool) (numbers : List ℕ) (k n : ℕ) (runs : List Span) → k < length numbers
    → get_or numbers k 0 ≡ n → p n ≡ false → RunsSoFar p numbers k runs → RunsSoFar p numbers (k + 1) runs
runs-same p numbers k n runs l is said so_far = record {
  are = record {
    numbers_are = so_far.are.numbers_are ∙ sym (append-nil (filter p (take k numbers))) ∙ sym (filter-one p numbers k n false l is said);
    apart = so_far.are.apart;
  };
  ends = λ j le less. so_far.ends j (omega (arith, le)) less;
}

pub runs-all : (p : ℕ → Bool) (numbers : List ℕ) (k : ℕ) (runs : List Span) → length numbers ≤ k → RunsSoFar p numbers k runs
    → AreRuns (filter p numbers) runs
runs-all p numbers k runs l so_far = subst (λ (ns : List ℕ). AreRuns (filter p ns) runs) (take_all k numbers l) so_far.are

-- ---- the numbers of a recording

rise-from : (low high : ℕ) (fs : List (ℕ × Picture)) (j : ℕ) → RiseBetween low high fs → j < length (numbers_of fs)
    → low ≤ get_or (numbers_of fs) j 0
rise-from low high [] j h l = absurd (omega (arith, l))
rise-from low high (f ∷ fs) zero h l = h.0
rise-from low high (f ∷ fs) (suc j) h l = omega (arith, h.0, rise-from (f.0 + 1) high fs j h.1 (omega (arith, l)))

rise-between : (low high : ℕ) (fs : List (ℕ × Picture)) → RiseBetween low high fs → (i j : ℕ) → i < j → j < length (numbers_of fs)
    → get_or (numbers_of fs) i 0 < get_or (numbers_of fs) j 0
rise-between low high [] h i j less l = absurd (omega (arith, l))
rise-between low high (f ∷ fs) h i zero less l = absurd (omega (arith, less))
rise-between low high (f ∷ fs) h zero (suc j) less l =
    let above = rise-from (f.0 + 1) high fs j h.1 (omega (arith, l)) in omega (arith, above)
rise-between low high (f ∷ fs) h (suc i) (suc j) less l = rise-between (f.0 + 1) high fs h.1 i j (omega (arith, less)) (omega (arith, l))

pub numbers-rise : (r : Recording) → IsWellFormed r → Rise (numbers_of r.frames)
numbers-rise r formed = λ i j less l. rise-between 0 r.next r.frames formed.rising i j less l

-- a frame of the others is found after the first
under-rest : (f : ℕ × Picture) (fs : List (ℕ × Picture)) (low high n : ℕ) (p : Picture) → f.0 + 1 ≤ low → RiseBetween low high fs
    → frame_under fs n ≡ Some p → frame_under (f ∷ fs) n ≡ Some p
under-rest f fs low high n p above rise there =
    let at = (rising-range low high n fs rise (held-among n fs (ap (λ (o : Option Picture). is_some o) there))).0 in
    ap (λ (b : Bool). cond b (Some f.1) (frame_under fs n)) (differ_test f.0 n (λ same. absurd (omega (arith, same, at, above)))) ∙ there

under-first : (f : ℕ × Picture) (fs : List (ℕ × Picture)) → frame_under (f ∷ fs) f.0 ≡ Some f.1
under-first f fs = ap (λ (b : Bool). cond b (Some f.1) (frame_under fs f.0)) (equal_test f.0 f.0 refl)

filter-times : (times : Times) (f : ℕ → ℕ) (low high : ℕ) (fs : List (ℕ × Picture)) → RiseBetween low high fs
    → ((n : ℕ) (p : Picture) → frame_under fs n ≡ Some p → f n ≡ p.timestamp)
    → filter (λ n. is_in times (f n)) (numbers_of fs) ≡ map (λ x. x.0) (filter (λ x. is_in times x.1.timestamp) fs)
filter-times times f low high [] rise are = refl
filter-times times f low high (x ∷ fs) rise are =
    go (is_in times (f x.0)) (is_in times x.1.timestamp) (ap (is_in times) (are x.0 x.1 (under-first x fs)))
    (filter-times times f (x.0 + 1) high fs rise.1 (λ n p there. are n p (under-rest x fs (x.0 + 1) high n p (omega arith) rise.1 there)))
  where
    go : (b c : Bool) → b ≡ c
        → filter (λ n. is_in times (f n)) (numbers_of fs) ≡ map (λ x. x.0) (filter (λ x. is_in times x.1.timestamp) fs)
        → cond b (x.0 ∷ filter (λ n. is_in times (f n)) (numbers_of fs)) (filter (λ n. is_in times (f n)) (numbers_of fs))
        ≡ map (λ x. x.0) (cond c (x ∷ filter (λ x. is_in times x.1.timestamp) fs) (filter (λ x. is_in times x.1.timestamp) fs))
    go true true e more = ap (λ (ns : List ℕ). x.0 ∷ ns) more
    go false false e more = more
    go true false e more = absurd cc
    go false true e more = absurd cc

-- those whose time lies in the span, by the stamps that are known
pub sought-numbers : (times : Times) (f : ℕ → SlotStamp) (r : Recording) → IsWellFormed r → AreStamps f r
    → filter (λ n. is_in times (f n).time) (numbers_of r.frames) ≡ numbers_in_time times r
sought-numbers times f r formed are =
    filter-times times (λ n. (f n).time) 0 r.next r.frames formed.rising
    (λ n p there. ap (λ (s : SlotStamp). s.time) (are n p there))

-- ---- the code

-- the stamp at the slot of a number
pub stamp-read : {A : Type 0} (index : Index A) (number from j : ℕ) (value : SlotStamp) → IsIndex index → from ≡ index.ring.geometry.slots
    → j < length index.table.heads → position (is_of (number / index.ring.geometry.slots)) index.table.heads ≡ Some j
    → value ≡ get_or index.stamps.items (j * from + number % from) value
    → value ≡ stamp_under index.ring.geometry.slots index.table.heads index.stamps.items number
stamp-read index number from j value whole same l found read =
    let slots = index.ring.geometry.slots in
    let some = (limits index.ring.geometry index.ring.good).slots.0 in
    let low : j < index.ring.geometry.segments = omega (arith, l, whole.count) in
    let bound = place-within index.ring.geometry.segments slots j (number % slots) low (mod-lt number (omega (arith, some))) in
    get_or_read index.stamps.items (j * slots + number % slots) value (omega (arith, bound, whole.places))
    (read ∙ (λ i. get_or index.stamps.items (j * same i + number % same i) value)) no_stamp
    ∙ sym (ap (stamp_at slots index.stamps.items number) found)

-- a run that has become longer, and one of its own
pub added-longer : (old front new : List Span) (s : Span) (n : ℕ) → old ≡ front ++ s ∷ [] → s.to + 1 ≡ n
    → new ≡ front ++ record s { to = n } ∷ [] → new ≡ added old n
added-longer old front new s n was next is =
    is ∙ ap (λ (ss : List Span). front ++ ss) (sym (added-next s n next)) ∙ sym (added-behind front s n)
    ∙ ap (λ (ss : List Span). added ss n) (sym was)

pub added-new : (old front mid new : List Span) (s : Span) (n : ℕ) → old ≡ front ++ s ∷ [] → (s.to + 1 ≡ n → ⊥)
    → mid ≡ front ++ s ∷ [] → new ≡ mid ++ record { from = n; to = n; tag = 0 } ∷ [] → new ≡ added old n
added-new old front mid new s n was apart pushed is =
    is ∙ ap (λ (ss : List Span). ss ++ record { from = n; to = n; tag = 0 } ∷ []) pushed
    ∙ append_assoc front (s ∷ []) (record { from = n; to = n; tag = 0 } ∷ [])
    ∙ ap (λ (ss : List Span). front ++ ss) (sym (added-apart s n apart)) ∙ sym (added-behind front s n)
    ∙ ap (λ (ss : List Span). added ss n) (sym was)
