-- The blocks of all stores in the order in which they came, and those of one place among them.
use Rattle.std.proofs.Common.{◌≡◌, ◌⊎◌, inl, inr, ℕ, zero, suc, ◌+◌, ◌*◌, ◌%◌, ◌^◌, ◌<◌, ◌≤◌, Bool, true, false, cond, eqb, List, [], ◌∷◌, ◌++◌, length, map, refl, sym, ap, ◌∙◌, subst, arith, append_assoc}
use Rattle.std.proofs.lemmas.Bool.{cases_eq}
use Rattle.std.proofs.lemmas.List.{append-nil, length-append, length-map, map-append}
use Rattle.std.proofs.lemmas.List.Elements.{filter-append}
use Rattle.std.proofs.lemmas.Grind.{flat_map-append}
use Rattle.std.proofs.Math.Nat.{add-mul}
use Rattle.std.specs.List.{filter, flat_map}
use Rattle.loop_record.specs.Recording.{Picture}
use Rattle.loop_record.proofs.TestFacts.{differ_test, equal_test}
use Rattle.loop_laws.specs.Laws.{taken_at}
use Rattle.loop_laws.proofs.Chunks.{Chunk, Full, grown, pictures}

-- ---- the blocks of one place

abbrev pub at : ℕ → List Chunk → List Chunk
at place q = filter (λ c. eqb c.place place) q

pub at-here : (place : ℕ) (c : Chunk) (q : List Chunk) → c.place ≡ place → at place (c ∷ q) ≡ c ∷ at place q
at-here place c q is = ap (λ (t : Bool). cond t (c ∷ at place q) (at place q)) (equal_test c.place place is)

pub at-apart : (place : ℕ) (c : Chunk) (q : List Chunk) → (c.place ≡ place → ⊥) → at place (c ∷ q) ≡ at place q
at-apart place c q apart =
    ap (λ (t : Bool). cond t (c ∷ at place q) (at place q)) (differ_test c.place place apart)

pub push-here : (place : ℕ) (q : List Chunk) (c : Chunk) → c.place ≡ place
    → at place (q ++ c ∷ []) ≡ at place q ++ c ∷ []
push-here place q c is =
    filter-append (λ (d : Chunk). eqb d.place place) q (c ∷ []) ∙ ap (λ x. at place q ++ x) (at-here place c [] is)

pub push-apart : (place : ℕ) (q : List Chunk) (c : Chunk) → (c.place ≡ place → ⊥)
    → at place (q ++ c ∷ []) ≡ at place q
push-apart place q c apart =
    filter-append (λ (d : Chunk). eqb d.place place) q (c ∷ [])
    ∙ ap (λ x. at place q ++ x) (at-apart place c [] apart) ∙ append-nil (at place q)

-- how many they are depends on the places alone
pub count-push : (place : ℕ) (q : List Chunk) (c d : Chunk) → c.place ≡ d.place
    → length (at place (q ++ c ∷ [])) ≡ length (at place (q ++ d ∷ []))
count-push place q c d same = go (cases_eq c.place place)
  where
    go : (c.place ≡ place) ⊎ (c.place ≡ place → ⊥)
        → length (at place (q ++ c ∷ [])) ≡ length (at place (q ++ d ∷ []))
    go (inl is) =
        let one = ap (λ (x : List Chunk). length x) (push-here place q c is) ∙ length-append (at place q) (c ∷ []) in
        let other = ap (λ (x : List Chunk). length x) (push-here place q d (sym same ∙ is))
        ∙ length-append (at place q) (d ∷ []) in
        one ∙ sym other
    go (inr apart) =
        ap (λ (x : List Chunk). length x)
        (push-apart place q c apart ∙ sym (push-apart place q d (λ e. apart (same ∙ e))))

pub full-at : (slots place : ℕ) (q : List Chunk) → Full slots q → Full slots (at place q)
full-at slots place [] h = tt
full-at slots place (c ∷ q) h = go (eqb c.place place) (full-at slots place q h.1)
  where
    go : (t : Bool) → Full slots (at place q) → Full slots (cond t (c ∷ at place q) (at place q))
    go true rest = (h.0, rest)
    go false rest = rest

-- ---- places

-- each place is below n
abbrev pub Placed : ℕ → List Chunk → Type 0
Placed n [] = Unit {0}
Placed n (c ∷ q) = (c.place < n) × Placed n q

pub placed-push : (n : ℕ) (q : List Chunk) (c : Chunk) → Placed n q → c.place < n → Placed n (q ++ c ∷ [])
placed-push n [] c h is = (is, tt)
placed-push n (d ∷ q) c h is = (h.0, placed-push n q c h.1 is)

pub placed-front : (n : ℕ) (q : List Chunk) (c : Chunk) → Placed n (q ++ c ∷ []) → Placed n q × (c.place < n)
placed-front n [] c h = (tt, h.0)
placed-front n (d ∷ q) c h = let k = placed-front n q c h.1 in ((h.0, k.0), k.1)

-- how many blocks the first n places have
abbrev total : ℕ → List Chunk → ℕ
total zero q = 0
total (suc n) q = total n q + length (at n q)

total-none : (n : ℕ) → total n [] ≡ 0
total-none zero = refl
total-none (suc n) = let rest = total-none n in omega (arith, rest)

total-past : (n : ℕ) (c : Chunk) (q : List Chunk) → n ≤ c.place → total n (c ∷ q) ≡ total n q
total-past zero c q past = refl
total-past (suc n) c q past =
    let rest = total-past n c q (omega (arith, past)) in
    let here = ap (λ (x : List Chunk). length x) (at-apart n c q (λ e. absurd (omega (arith, past, e)))) in
    omega (arith, rest, here)

total-one : (n : ℕ) (c : Chunk) (q : List Chunk) → c.place < n → total n (c ∷ q) ≡ total n q + 1
total-one zero c q below = absurd (omega (arith, below))
total-one (suc n) c q below = go (λ l. total-one n c q l) (cases_eq c.place n)
  where
    go : (c.place < n → total n (c ∷ q) ≡ total n q + 1) → (c.place ≡ n) ⊎ (c.place ≡ n → ⊥)
        → total (suc n) (c ∷ q) ≡ total (suc n) q + 1
    go before (inl is) =
        let rest = total-past n c q (omega (arith, is)) in
        let here = ap (λ (x : List Chunk). length x) (at-here n c q is) in
        omega (arith, rest, here)
    go before (inr apart) =
        let rest = before (omega (arith, below, apart)) in
        let here = ap (λ (x : List Chunk). length x) (at-apart n c q apart) in
        omega (arith, rest, here)

total-all : (n : ℕ) (q : List Chunk) → Placed n q → total n q ≡ length q
total-all n [] h = total-none n
total-all n (c ∷ q) h =
    let rest = total-all n q h.1 in
    let one = total-one n c q h.0 in
    omega (arith, rest, one)

total-each : (n each : ℕ) (q : List Chunk) → ((place : ℕ) → place < n → length (at place q) ≡ each)
    → total n q ≡ n * each
total-each zero each q h = omega arith
total-each (suc n) each q h =
    let rest = total-each n each q (λ place l. h place (omega (arith, l))) in
    let here = h n (omega arith) in
    omega (arith, rest, here, add-mul n 1 each)

-- the first places have no more than all
total-more : (n m : ℕ) (q : List Chunk) → n ≤ m → total n q ≤ total m q
total-more n zero q l = go (cases_eq n 0)
  where
    go : (n ≡ 0) ⊎ (n ≡ 0 → ⊥) → total n q ≤ total 0 q
    go (inl is) = subst (λ k. total k q ≤ total 0 q) (sym is) (omega arith)
    go (inr apart) = absurd (omega (arith, l, apart))
total-more n (suc m) q l = go (λ less. total-more n m q less) (cases_eq n (suc m))
  where
    go : (n ≤ m → total n q ≤ total m q) → (n ≡ suc m) ⊎ (n ≡ suc m → ⊥) → total n q ≤ total (suc m) q
    go before (inl is) = subst (λ k. total k q ≤ total (suc m) q) (sym is) (omega arith)
    go before (inr apart) = let rest = before (omega (arith, l, apart)) in omega (arith, rest)

-- where each of the first places has as many, all are that many times as many at least
pub count-some : (n all each : ℕ) (q : List Chunk) → Placed all q → n ≤ all
    → ((place : ℕ) → place < n → length (at place q) ≡ each) → n * each ≤ length q
count-some n all each q placed less h =
    let few = total-more n all q less in
    omega (arith, few, total-each n each q h, total-all all q placed)

-- ---- as they came

-- the frames of a block, as they came
abbrev pub came_of : Chunk → List (ℕ × Picture)
came_of c = map (λ p. (c.place, p)) (pictures c)

abbrev pub spread : List Chunk → List (ℕ × Picture)
spread q = flat_map came_of q

pub spread-push : (q : List Chunk) (c : Chunk) → spread (q ++ c ∷ []) ≡ spread q ++ came_of c
spread-push q c = flat_map-append came_of q (c ∷ []) ∙ ap (λ x. spread q ++ x) (append-nil (came_of c))

-- the frames of a group, as they came
abbrev pub group_at : ℕ → List Picture → List (ℕ × Picture)
group_at place ps = map (λ p. (place, p)) ps

pub spread-grown : (q : List Chunk) (c : Chunk) (ps : List Picture)
    → spread (q ++ grown c ps ∷ []) ≡ spread (q ++ c ∷ []) ++ group_at c.place ps
spread-grown q c ps =
    spread-push q (grown c ps)
    ∙ ap (λ x. spread q ++ x) (map-append (λ (r : Picture). (c.place, r)) (pictures c) ps)
    ∙ sym (append_assoc (spread q) (came_of c) (group_at c.place ps))
    ∙ ap (λ x. x ++ group_at c.place ps) (sym (spread-push q c))

pub spread-count : (slots : ℕ) (q : List Chunk) → Full slots q → length (spread q) ≡ length q * slots
spread-count slots [] h = omega arith
spread-count slots (c ∷ q) h =
    let rest = spread-count slots q h.1 in
    let here = length-map {B = ℕ × Picture} (pictures c) (λ (p : Picture). (c.place, p)) in
    let is = h.0 in
    omega (arith, rest, here, is, length-append (came_of c) (spread q), add-mul (length q) 1 slots)

-- ---- what one place took

taken-append : (place : ℕ) (xs ys : List (ℕ × Picture))
    → taken_at place (xs ++ ys) ≡ taken_at place xs ++ taken_at place ys
taken-append place xs ys =
    ap (map (λ t. t.1)) (filter-append (λ (t : ℕ × Picture). eqb t.0 place) xs ys)
    ∙ map-append (λ (t : ℕ × Picture). t.1) (filter (λ t. eqb t.0 place) xs) (filter (λ t. eqb t.0 place) ys)

taken-here : (place k : ℕ) (ps : List Picture) → eqb k place ≡ true → taken_at place (map (λ p. (k, p)) ps) ≡ ps
taken-here place k [] e = refl
taken-here place k (p ∷ ps) e =
    let rest = filter (λ (t : ℕ × Picture). eqb t.0 place) (map (λ q. (k, q)) ps) in
    ap (λ (t : Bool). map (λ (u : ℕ × Picture). u.1) (cond t ((k, p) ∷ rest) rest)) e
    ∙ ap (λ x. p ∷ x) (taken-here place k ps e)

taken-apart : (place k : ℕ) (ps : List Picture) → eqb k place ≡ false → taken_at place (map (λ p. (k, p)) ps) ≡ []
taken-apart place k [] e = refl
taken-apart place k (p ∷ ps) e =
    let rest = filter (λ (t : ℕ × Picture). eqb t.0 place) (map (λ q. (k, q)) ps) in
    ap (λ (t : Bool). map (λ (u : ℕ × Picture). u.1) (cond t ((k, p) ∷ rest) rest)) e ∙ taken-apart place k ps e

pub taken-spread : (place : ℕ) (q : List Chunk) → taken_at place (spread q) ≡ flat_map pictures (at place q)
taken-spread place [] = refl
taken-spread place (c ∷ q) =
    taken-append place (came_of c) (spread q) ∙ go (eqb c.place place) refl (taken-spread place q)
  where
    go : (t : Bool) → eqb c.place place ≡ t → taken_at place (spread q) ≡ flat_map pictures (at place q)
        → taken_at place (came_of c) ++ taken_at place (spread q)
        ≡ flat_map pictures (cond t (c ∷ at place q) (at place q))
    go true e rest = let here = taken-here place c.place (pictures c) e in λ i. here i ++ rest i
    go false e rest = let here = taken-apart place c.place (pictures c) e in λ i. here i ++ rest i

-- no block is at a place past all
pub at-past : (n place : ℕ) (q : List Chunk) → Placed n q → n ≤ place → at place q ≡ []
at-past n place [] h past = refl
at-past n place (c ∷ q) h past =
    let l = h.0 in
    at-apart place c q (λ e. absurd (omega (arith, l, past, e))) ∙ at-past n place q h.1 past

pub placed-more : (n : ℕ) (q : List Chunk) → Placed n q → Placed (n + 1) q
placed-more n [] h = tt
placed-more n (c ∷ q) h = let l = h.0 in (omega (arith, l), placed-more n q h.1)

-- ---- how they were counted

-- the first frames of the blocks have counts that rise, from one on and below another
abbrev pub Rises : ℕ → ℕ → List Chunk → Type 0
Rises low high [] = low ≤ high
Rises low high (c ∷ q) =
    (count : ℕ) × (low ≤ count) × (c.first.sequence ≡ count % 2 ^ 32) × Rises (count + 1) high q

pub rises-high : (low high higher : ℕ) (q : List Chunk) → Rises low high q → high ≤ higher → Rises low higher q
rises-high low high higher [] h l = omega (arith, h, l)
rises-high low high higher (c ∷ q) h l = (h.0, h.1, h.2, rises-high (h.0 + 1) high higher q h.3 l)

pub rises-low : (low lower high : ℕ) (q : List Chunk) → Rises low high q → lower ≤ low → Rises lower high q
rises-low low lower high [] h l = omega (arith, h, l)
rises-low low lower high (c ∷ q) h l = let from = h.1 in (h.0, omega (arith, from, l), h.2, h.3)

pub rises-push : (low high count : ℕ) (q : List Chunk) (c : Chunk) → Rises low high q → high ≤ count
    → c.first.sequence ≡ count % 2 ^ 32 → Rises low (count + 1) (q ++ c ∷ [])
rises-push low high count [] c h l is = (count, omega (arith, h, l), is, omega arith)
rises-push low high count (d ∷ q) c h l is = (h.0, h.1, h.2, rises-push (h.0 + 1) high count q c h.3 l is)

-- only the first frame of the last block matters
pub rises-last : (low high : ℕ) (q : List Chunk) (c : Chunk) (ps : List Picture) → Rises low high (q ++ c ∷ [])
    → Rises low high (q ++ grown c ps ∷ [])
rises-last low high [] c ps h = h
rises-last low high (d ∷ q) c ps h = (h.0, h.1, h.2, rises-last (h.0 + 1) high q c ps h.3)

-- so they end above where they begin
pub rises-all : (low high : ℕ) (q : List Chunk) → Rises low high q → low ≤ high
rises-all low high [] h = h
rises-all low high (c ∷ q) h =
    let from = h.1 in
    let rest = rises-all (h.0 + 1) high q h.3 in
    omega (arith, from, rest)

-- the count of the first block of a place
pub count-of : (low high place : ℕ) (q : List Chunk) (d : Chunk) (ds : List Chunk) → Rises low high q
    → at place q ≡ d ∷ ds → (count : ℕ) × (low ≤ count) × (count < high) × (d.first.sequence ≡ count % 2 ^ 32)
count-of low high place [] d ds h e = absurd cc
count-of low high place (c ∷ q) d ds h e = go (eqb c.place place) (λ is. count-of (h.0 + 1) high place q d ds h.3 is) e
  where
    go : (t : Bool)
        → (at place q ≡ d ∷ ds
        → (count : ℕ) × (h.0 + 1 ≤ count) × (count < high) × (d.first.sequence ≡ count % 2 ^ 32))
        → cond t (c ∷ at place q) (at place q) ≡ d ∷ ds
        → (count : ℕ) × (low ≤ count) × (count < high) × (d.first.sequence ≡ count % 2 ^ 32)
    go true rest is =
        let same : c ≡ d = cc in
        let above = rises-all (h.0 + 1) high q h.3 in
        (h.0, h.1, omega (arith, above), ap (λ (b : Chunk). b.first.sequence) (sym same) ∙ h.2)
    go false rest is =
        let found = rest is in
        let from = h.1 in
        let above = found.1 in
        (found.0, omega (arith, from, above), found.2, found.3)
