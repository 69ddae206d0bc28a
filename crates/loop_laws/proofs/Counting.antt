-- The count of the frames, and the order of their sequences at its end.
use Rattle.std.proofs.Common.{◌≡◌, ℕ, ◌+◌, ◌%◌, ◌^◌, ◌<◌, ◌≤◌, List, [], ◌∷◌, sym, ap, ◌∙◌, subst, arith}
use Rattle.std.proofs.Math.Nat.{mod-add-mod}
use Rattle.loop_record.specs.Counts.{cyclic_place}
use Rattle.loop_record.specs.Recording.{Picture}
use Rattle.loop_record.proofs.CyclicOrder.{order-true}
use Rattle.loop_pipeline.specs.Nexts.{end_past}
use Rattle.loop_laws.specs.Stores.{AreCounted, Counted, RingEvent, end_after, joined, started, taken}

pub round-again : (low more : ℕ) → (low % 2 ^ 32 + more) % 2 ^ 32 ≡ (low + more) % 2 ^ 32
round-again low more = mod-add-mod low (2 ^ 32) more

-- one past the last sequence is one past the last count
pub end-of_group : (low high : ℕ) (ps : List Picture) → Counted low ps high
    → end_after (low % 2 ^ 32) ps ≡ high % 2 ^ 32
end-of_group low high [] h = ap (λ n. n % 2 ^ 32) (sym h)
end-of_group low high (p ∷ ps) h =
    let here : end_past p.sequence ≡ (h.0 + 1) % 2 ^ 32 = ap end_past h.2 ∙ round-again h.0 1 in
    ap (λ n. end_after n ps) here ∙ end-of_group (h.0 + 1) high ps h.3

pub counted-up : (low high : ℕ) (ps : List Picture) → Counted low ps high → low ≤ high
counted-up low high [] h = omega (arith, h)
counted-up low high (p ∷ ps) h =
    let from = h.1 in
    let rest = counted-up (h.0 + 1) high ps h.3 in
    omega (arith, from, rest)

pub all-up : (low high : ℕ) (hs : List RingEvent) → AreCounted low hs high → low ≤ high
all-up low high [] h = omega (arith, h)
all-up low high (taken place ps ∷ hs) h =
    let here = counted-up low h.0 ps h.1 in
    let rest = all-up h.0 high hs h.2 in
    omega (arith, here, rest)
all-up low high (started lost ∷ hs) h = let rest = all-up (low + lost) high hs h in omega (arith, rest)
all-up low high (joined ∷ hs) h = all-up low high hs h

-- a lower count is older, in the order that ends with the last one
pub older : (low high a b s t : ℕ) → high ≤ low + 2 ^ 32 → low ≤ a → a < b → b < high → s ≡ a % 2 ^ 32
    → t ≡ b % 2 ^ 32 → cyclic_place (high % 2 ^ 32) s < cyclic_place (high % 2 ^ 32) t
older low high a b s t near from less within is so =
    subst (λ n. cyclic_place (high % 2 ^ 32) n < cyclic_place (high % 2 ^ 32) t) (sym is)
    (subst (λ n. cyclic_place (high % 2 ^ 32) (a % 2 ^ 32) < cyclic_place (high % 2 ^ 32) n) (sym so)
    (order-true high a b (omega (arith, less, within)) (omega (arith, near, from)) within
    (omega (arith, near, from, less)) less))
