-- The least number from another one on that passes a test.
use Rattle.std.proofs.Common.{◌≡◌, ℕ, suc, ◌+◌, ◌*◌, ◌<◌, ◌≤◌, Bool, true, ◌&&◌, leb, ltb, max, Option, Some, None, List, get_or, length, take, sym, ◌∙◌, arith}
use Rattle.std.proofs.Math.Nat.{add-mul}
use Rattle.std.proofs.lemmas.Bool.Decides.{nat_tests}
use Rattle.std.specs.Prelude.{◌||◌, IfSome}
use Rattle.std.specs.List.{All, list_any}
use Rattle.std.proofs.lemmas.List.{take_more}
use Rattle.std.proofs.lemmas.List.Folds.{list_any-append}
use Rattle.loop_record.specs.declared.geometry.Geometry.{Geometry}
use Rattle.loop_record.specs.declared.segment.SegmentHead.{SegmentHead}
use Rattle.loop_record.specs.Recording.{numbers_end}
use Rattle.loop_record.proofs.TestFacts.{at_most, at_most_test, both, untrue}
use Rattle.loop_ring.specs.Heads.{has_number}
use Rattle.loop_ring.proofs.Heads.{any-index}
use Rattle.loop_store.specs.Numbers.{IsLeastFrom}
use Rattle.loop_store.specs.Found.{IsHeadIn}
use Rattle.loop_store.proofs.Numbers.{among-block, among-range}

-- a test with the same results
pub least-same : (p q : ℕ → Bool) (n : ℕ) (o : Option ℕ) → ((k : ℕ) → p k ≡ q k) → IsLeastFrom p n o → IsLeastFrom q n o
least-same p q n None same least = λ k l. sym (same k) ∙ least k l
least-same p q n (Some m) same least = (least.0, (sym (same m) ∙ least.1.0, λ k l u. sym (same k) ∙ least.1.1 k l u))

-- ---- one segment

-- an open one has the numbers of a range
numbered : (g : Geometry) (h : SegmentHead) (k : ℕ) → 1 ≤ g.slots → h.frames ≤ g.slots
    → (leb (h.block * g.slots) k && ltb k (h.block * g.slots + h.frames)) ≡ has_number g.slots k (Some h)
numbered g h k some few = sym (among-range k (h.block * g.slots) h.frames) ∙ among-block k g.slots h.block h.frames some few

less : (m n : ℕ) → ltb m n ≡ true → m < n
less m n e = at_most (suc m) n e

less-test : (m n : ℕ) → m < n → ltb m n ≡ true
less-test m n l = at_most_test (suc m) n l

pub least-there : (g : Geometry) (h : SegmentHead) (n first end least : ℕ) → 1 ≤ g.slots → IsHeadIn g (Some h)
    → first ≡ h.block * g.slots → end ≡ first + h.frames → least ≡ max first n → least < end
    → IsLeastFrom (λ k. has_number g.slots k (Some h)) n (Some least)
least-there g h n first end least some within first_is end_is least_is l = (
  omega (arith, least_is),
  (
    sym (numbered g h least some within.0)
        ∙ (λ i. at_most_test (h.block * g.slots) least (omega (arith, first_is, least_is)) i && ltb least
        (h.block * g.slots + h.frames)) ∙ less-test least (h.block * g.slots + h.frames)
        (omega (arith, first_is, end_is, l)),
    λ k low below. untrue (has_number g.slots k (Some h)) (λ e.
        let t = both (leb (h.block * g.slots) k) (ltb k (h.block * g.slots + h.frames)) (numbered g h k some within.0 ∙ e) in
        omega (arith, at_most (h.block * g.slots) k t.0, first_is, least_is, low, below)),
  ),
)

pub least-over : (g : Geometry) (h : SegmentHead) (n first end least : ℕ) → 1 ≤ g.slots → IsHeadIn g (Some h)
    → first ≡ h.block * g.slots → end ≡ first + h.frames → least ≡ max first n → end ≤ least
    → IsLeastFrom (λ k. has_number g.slots k (Some h)) n None
least-over g h n first end least some within first_is end_is least_is l = λ k low. untrue (has_number g.slots k (Some h)) (λ e.
    let t = both (leb (h.block * g.slots) k) (ltb k (h.block * g.slots + h.frames)) (numbered g h k some within.0 ∙ e) in
    omega (arith, at_most (h.block * g.slots) k t.0, less k (h.block * g.slots + h.frames) t.1, first_is, end_is, least_is, low, l))

-- ---- all segments

-- some of them, and one more
pub any-more : (slots k i : ℕ) (heads : List (Option SegmentHead)) → i < length heads
    → (list_any (has_number slots k) (take i heads) || has_number slots k (get_or heads i None)) ≡ list_any
    (has_number slots k) (take (i + 1) heads)
any-more slots k i heads l = grind (arith, list_any-append, take_more heads i None l)

-- ---- none is too high

number-low : (g : Geometry) (o : Option SegmentHead) (n : ℕ) → 1 ≤ g.slots → IsHeadIn g o
    → has_number g.slots n o ≡ true → n < numbers_end
number-low g None n some within e = absurd cc
number-low g (Some h) n some within e =
    let t = both (leb (h.block * g.slots) n) (ltb n (h.block * g.slots + h.frames)) (numbered g h n some within.0 ∙ e) in
    let one : (h.block + 1) * g.slots ≡ h.block * g.slots + 1 * g.slots = add-mul h.block 1 g.slots in
    let most : (h.block + 1) * g.slots ≤ numbers_end = grind (arith, nat_tests, within.1) in
    omega (arith, less n (h.block * g.slots + h.frames) t.1, one, most, within.0)

any-low : (g : Geometry) (heads : List (Option SegmentHead)) (n : ℕ) → 1 ≤ g.slots → All (IsHeadIn g) heads
    → list_any (has_number g.slots n) heads ≡ true → n < numbers_end
any-low g heads n some all e =
    let k = any-index (has_number g.slots n) heads e in
    number-low g (get_or heads k.0 None) n some (all k.0 None k.1.0) k.1.1

pub least-low : (g : Geometry) (heads : List (Option SegmentHead)) (n : ℕ) (o : Option ℕ) → 1 ≤ g.slots
    → All (IsHeadIn g) heads → IsLeastFrom (λ k. list_any (has_number g.slots k) heads) n o
    → IfSome o (λ m. m < numbers_end)
least-low g heads n None some all least = tt
least-low g heads n (Some m) some all least = any-low g heads m some all least.1.0
