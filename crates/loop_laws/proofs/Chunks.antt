-- The blocks that stores hold, each with its frames, and the frames and numbers that they make.
use Rattle.std.proofs.Common.{◌≡◌, ℕ, ◌+◌, ◌*◌, ◌<◌, ◌≤◌, Bool, true, false, cond, not, eqb, List, [], ◌∷◌, ◌++◌, length, map, refl, sym, ap, ◌∙◌, arith}
use Rattle.std.proofs.Math.Nat.{add-mul, div-eq_of_lt-le}
use Rattle.std.proofs.lemmas.List.{append-nil, map-append}
use Rattle.std.proofs.lemmas.List.Elements.{filter-append}
use Rattle.std.proofs.lemmas.Grind.{flat_map-append}
use Rattle.std.specs.List.{enumerate_from, filter, flat_map}
use Rattle.loop_record.specs.Recording.{Picture, Ring, RiseFrom, block}
use Rattle.loop_record.proofs.Names.{blocks_of, with_block}
use Rattle.loop_record.proofs.Growth.{enumerate-append}
use Rattle.loop_record.proofs.TestFacts.{differ_test, equal_test}

-- a block: the place of its store, its number there, and its frames, of which it has at least one
pub record Chunk : Type 0 where
  pub place : ℕ
  pub number : ℕ
  pub first : Picture
  pub rest : List Picture

abbrev pub pictures : Chunk → List Picture
pictures c = c.first ∷ c.rest

-- the block with more frames
abbrev pub grown : Chunk → List Picture → Chunk
grown c ps = record c { rest = c.rest ++ ps }

-- its frames under their numbers
abbrev pub numbered : ℕ → Chunk → List (ℕ × Picture)
numbered slots c = enumerate_from (c.number * slots) (pictures c)

abbrev pub all_numbered : ℕ → List Chunk → List (ℕ × Picture)
all_numbered slots cs = flat_map (numbered slots) cs

abbrev pub numbers : List Chunk → List ℕ
numbers cs = map (λ c. c.number) cs

-- the numbers of the blocks rise from low on, and stay below high
abbrev pub Between : ℕ → ℕ → List Chunk → Type 0
Between low high [] = low ≤ high
Between low high (c ∷ cs) = (low ≤ c.number) × Between (c.number + 1) high cs

-- each block fits its segment
abbrev pub Fit : ℕ → List Chunk → Type 0
Fit slots [] = Unit {0}
Fit slots (c ∷ cs) = (length c.rest + 1 ≤ slots) × Fit slots cs

-- each block is full
abbrev pub Full : ℕ → List Chunk → Type 0
Full slots [] = Unit {0}
Full slots (c ∷ cs) = (length c.rest + 1 ≡ slots) × Full slots cs

pub full-fit : (slots : ℕ) (cs : List Chunk) → Full slots cs → Fit slots cs
full-fit slots [] h = tt
full-fit slots (c ∷ cs) h = let is = h.0 in (omega (arith, is), full-fit slots cs h.1)

pub full-push : (slots : ℕ) (cs : List Chunk) (c : Chunk) → Full slots cs → length c.rest + 1 ≡ slots
    → Full slots (cs ++ c ∷ [])
full-push slots [] c h is = (is, tt)
full-push slots (d ∷ cs) c h is = (h.0, full-push slots cs c h.1 is)

pub fit-push : (slots : ℕ) (cs : List Chunk) (c : Chunk) → Fit slots cs → length c.rest + 1 ≤ slots
    → Fit slots (cs ++ c ∷ [])
fit-push slots [] c h is = (is, tt)
fit-push slots (d ∷ cs) c h is = (h.0, fit-push slots cs c h.1 is)

pub between-lower : (low low' high : ℕ) (cs : List Chunk) → low' ≤ low → Between low high cs → Between low' high cs
between-lower low low' high [] l h = omega (arith, l, h)
between-lower low low' high (c ∷ cs) l h = (omega (arith, l, h.0), h.1)

pub between-push : (low high : ℕ) (cs : List Chunk) (c : Chunk) → Between low high cs → c.number ≡ high
    → Between low (high + 1) (cs ++ c ∷ [])
between-push low high [] c h is = (omega (arith, h, is), omega (arith, is))
between-push low high (d ∷ cs) c h is = (h.0, between-push (d.number + 1) high cs c h.1 is)

numbers-rise : (low high : ℕ) (cs : List Chunk) → Between low high cs → RiseFrom low (numbers cs)
numbers-rise low high [] h = tt
numbers-rise low high (c ∷ cs) h = (h.0, numbers-rise (c.number + 1) high cs h.1)

-- ---- the numbers of the blocks

with-same : (b : ℕ) (bs : List ℕ) → with_block b (b ∷ bs) ≡ b ∷ bs
with-same b bs = ap (λ (t : Bool). cond t (b ∷ bs) (b ∷ b ∷ bs)) (equal_test b b refl)

with-above : (b : ℕ) (bs : List ℕ) → RiseFrom (b + 1) bs → with_block b bs ≡ b ∷ bs
with-above b [] h = refl
with-above b (c ∷ cs) h =
    let low = h.0 in
    let apart : eqb b c ≡ false = differ_test b c (λ e. absurd (omega (arith, e, low))) in
    ap (λ (t : Bool). cond t (c ∷ cs) (b ∷ c ∷ cs)) apart

-- frames of one block, before others of later ones
run-blocks : (ring : Ring) (b n : ℕ) (p : Picture) (ps : List Picture) (more : List (ℕ × Picture)) (bs : List ℕ)
    → blocks_of ring more ≡ bs → RiseFrom (b + 1) bs → b * ring.slots ≤ n
    → n + (length ps + 1) ≤ (b + 1) * ring.slots → blocks_of ring (enumerate_from n (p ∷ ps) ++ more) ≡ b ∷ bs
run-blocks ring b n p [] more bs is rise low high =
    let here : block ring n ≡ b = div-eq_of_lt-le ring.slots low (omega (arith, high)) in
    (λ i. with_block (here i) (is i)) ∙ with-above b bs rise
run-blocks ring b n p (q ∷ ps) more bs is rise low high =
    let here : block ring n ≡ b = div-eq_of_lt-le ring.slots low (omega (arith, high)) in
    let rest = run-blocks ring b (n + 1) q ps more bs is rise (omega (arith, low)) (omega (arith, high)) in
    (λ i. with_block (here i) (rest i)) ∙ with-same b bs

-- a block's last number
pub end-of : (b slots : ℕ) → (b + 1) * slots ≡ b * slots + slots
end-of b slots = omega (arith, add-mul b 1 slots)

pub chunks-blocks : (ring : Ring) (low high : ℕ) (cs : List Chunk) → Fit ring.slots cs → Between low high cs
    → blocks_of ring (all_numbered ring.slots cs) ≡ numbers cs
chunks-blocks ring low high [] f h = refl
chunks-blocks ring low high (c ∷ cs) f h =
    let fits = f.0 in
    run-blocks ring c.number (c.number * ring.slots) c.first c.rest (all_numbered ring.slots cs) (numbers cs)
    (chunks-blocks ring (c.number + 1) high cs f.1 h.1) (numbers-rise (c.number + 1) high cs h.1) (omega arith)
    (omega (arith, end-of c.number ring.slots, fits))

-- ---- more frames

pub numbered-push : (slots : ℕ) (cs : List Chunk) (c : Chunk)
    → all_numbered slots (cs ++ c ∷ []) ≡ all_numbered slots cs ++ numbered slots c
numbered-push slots cs c =
    flat_map-append (numbered slots) cs (c ∷ []) ∙ ap (λ x. all_numbered slots cs ++ x) (append-nil (numbered slots c))

pub numbered-grown : (slots n : ℕ) (c : Chunk) (ps : List Picture) → n ≡ c.number * slots + (length c.rest + 1)
    → numbered slots (grown c ps) ≡ numbered slots c ++ enumerate_from n ps
numbered-grown slots n c ps is =
    enumerate-append (c.number * slots) n (c.first ∷ c.rest) ps (omega (arith, is))

-- ---- the frames without those of a block

-- the frame isn't in block b
abbrev pub is_out : Ring → ℕ → ℕ × Picture → Bool
is_out ring b f = not (eqb (block ring f.0) b)

run-goes : (ring : Ring) (b n : ℕ) (ps : List Picture) → b * ring.slots ≤ n → n + length ps ≤ (b + 1) * ring.slots
    → filter (is_out ring b) (enumerate_from n ps) ≡ []
run-goes ring b n [] low high = refl
run-goes ring b n (p ∷ ps) low high =
    let here : block ring n ≡ b = div-eq_of_lt-le ring.slots low (omega (arith, high)) in
    let same : eqb (block ring n) b ≡ true = equal_test (block ring n) b here in
    let rest = run-goes ring b (n + 1) ps (omega (arith, low)) (omega (arith, high)) in
    λ i. cond (not (same i)) ((n, p) ∷ rest i) (rest i)

run-stays : (ring : Ring) (b c n : ℕ) (ps : List Picture) → (c ≡ b → ⊥) → c * ring.slots ≤ n
    → n + length ps ≤ (c + 1) * ring.slots
    → filter (is_out ring b) (enumerate_from n ps) ≡ enumerate_from n ps
run-stays ring b c n [] apart low high = refl
run-stays ring b c n (p ∷ ps) apart low high =
    let here : block ring n ≡ c = div-eq_of_lt-le ring.slots low (omega (arith, high)) in
    let out : eqb (block ring n) b ≡ false = differ_test (block ring n) b (λ e. apart (sym here ∙ e)) in
    let rest = run-stays ring b c (n + 1) ps apart (omega (arith, low)) (omega (arith, high)) in
    λ i. cond (not (out i)) ((n, p) ∷ rest i) (rest i)

chunks-stay : (ring : Ring) (b low high : ℕ) (cs : List Chunk) → b < low → Fit ring.slots cs → Between low high cs
    → filter (is_out ring b) (all_numbered ring.slots cs) ≡ all_numbered ring.slots cs
chunks-stay ring b low high [] below f h = refl
chunks-stay ring b low high (c ∷ cs) below f h =
    let fits = f.0 in
    let least = h.0 in
    let here = run-stays ring b c.number (c.number * ring.slots) (c.first ∷ c.rest)
    (λ e. absurd (omega (arith, below, least, e))) (omega arith) (omega (arith, end-of c.number ring.slots, fits)) in
    let rest = chunks-stay ring b (c.number + 1) high cs (omega (arith, below, least)) f.1 h.1 in
    filter-append (is_out ring b) (numbered ring.slots c) (all_numbered ring.slots cs) ∙ (λ i. here i ++ rest i)

-- without the first block, the others are left
pub first-goes : (ring : Ring) (low high : ℕ) (c : Chunk) (cs : List Chunk) → Fit ring.slots (c ∷ cs)
    → Between low high (c ∷ cs)
    → filter (is_out ring c.number) (all_numbered ring.slots (c ∷ cs)) ≡ all_numbered ring.slots cs
first-goes ring low high c cs f h =
    let fits = f.0 in
    let here = run-goes ring c.number (c.number * ring.slots) (c.first ∷ c.rest) (omega arith)
    (omega (arith, end-of c.number ring.slots, fits)) in
    let rest = chunks-stay ring c.number (c.number + 1) high cs (omega arith) f.1 h.1 in
    filter-append (is_out ring c.number) (numbered ring.slots c) (all_numbered ring.slots cs) ∙ (λ i. here i ++ rest i)

-- ---- the pictures

pictures-enumerated : (n : ℕ) (ps : List Picture) → map (λ f. f.1) (enumerate_from n ps) ≡ ps
pictures-enumerated n [] = refl
pictures-enumerated n (p ∷ ps) = ap (λ x. p ∷ x) (pictures-enumerated (n + 1) ps)

pub pictures-numbered : (slots : ℕ) (cs : List Chunk) → map (λ f. f.1) (all_numbered slots cs) ≡ flat_map pictures cs
pictures-numbered slots [] = refl
pictures-numbered slots (c ∷ cs) =
    let here = pictures-enumerated (c.number * slots) (pictures c) in
    let rest = pictures-numbered slots cs in
    map-append (λ (f : ℕ × Picture). f.1) (numbered slots c) (all_numbered slots cs) ∙ (λ i. here i ++ rest i)
