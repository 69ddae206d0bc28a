-- The blocks of frames, made from the first frame on and from the last one on.
use Rattle.std.proofs.Common.{◌≡◌, ℕ, Bool, true, false, cond, eqb, List, [], ◌∷◌, map, refl, sym, ap, ◌∙◌, arith}
use Rattle.std.proofs.lemmas.Bool.Decides.{nat_tests}
use Rattle.std.specs.Prelude.{nat_eq}
use Rattle.std.specs.List.{dedup, dedup_from}
use Rattle.loop_record.specs.Recording.{Picture, Ring, block}
use Rattle.loop_record.proofs.Names.{with_block, blocks_of}

itself : (b : ℕ) → eqb b b ≡ true
itself b = grind (arith, nat_tests)

-- a block that is there is added once
with-twice : (b : ℕ) (bs : List ℕ) → with_block b (with_block b bs) ≡ with_block b bs
with-twice b [] = ap (λ (t : Bool). cond t (b ∷ []) (b ∷ b ∷ [])) (itself b)
with-twice b (c ∷ cs) = go (eqb b c) refl
  where
    go : (t : Bool) → eqb b c ≡ t → with_block b (cond t (c ∷ cs) (b ∷ c ∷ cs)) ≡ cond t (c ∷ cs) (b ∷ c ∷ cs)
    go true is = ap (λ (u : Bool). cond u (c ∷ cs) (b ∷ c ∷ cs)) is
    go false is = ap (λ (u : Bool). cond u (b ∷ c ∷ cs) (b ∷ b ∷ c ∷ cs)) (itself b)

-- and another one is put first
with-apart : (b c : ℕ) (bs : List ℕ) → eqb c b ≡ false → with_block b (with_block c bs) ≡ b ∷ with_block c bs
with-apart b c bs apart = to bs
  where
    turned : eqb b c ≡ false
    turned = grind (arith, nat_tests, apart)

    to : (bs : List ℕ) → with_block b (with_block c bs) ≡ b ∷ with_block c bs
    to [] = ap (λ (u : Bool). cond u (c ∷ []) (b ∷ c ∷ [])) turned
    to (d ∷ ds) = go (eqb c d) refl
      where
        go : (t : Bool) → eqb c d ≡ t → with_block b (cond t (d ∷ ds) (c ∷ d ∷ ds)) ≡ b ∷ cond t (d ∷ ds) (c ∷ d ∷ ds)
        go true is =
            let other : eqb b d ≡ false = grind (arith, nat_tests, apart, is) in
            ap (λ (u : Bool). cond u (d ∷ ds) (b ∷ d ∷ ds)) other
        go false is = ap (λ (u : Bool). cond u (c ∷ d ∷ ds) (b ∷ c ∷ d ∷ ds)) turned

from-block : (ring : Ring) (b : ℕ) (fs : List (ℕ × Picture))
    → dedup_from nat_eq b (map (λ f. block ring f.0) fs) ≡ with_block b (blocks_of ring fs)
from-block ring b [] = refl
from-block ring b (f ∷ fs) = go (eqb (block ring f.0) b) refl (from-block ring b fs) (from-block ring (block ring f.0) fs)
  where
    go : (t : Bool) → eqb (block ring f.0) b ≡ t
        → dedup_from nat_eq b (map (λ f. block ring f.0) fs) ≡ with_block b (blocks_of ring fs)
        → dedup_from nat_eq (block ring f.0) (map (λ f. block ring f.0) fs) ≡ with_block (block ring f.0) (blocks_of ring fs)
        → cond t (dedup_from nat_eq b (map (λ f. block ring f.0) fs))
        (b ∷ dedup_from nat_eq (block ring f.0) (map (λ f. block ring f.0) fs))
        ≡ with_block b (with_block (block ring f.0) (blocks_of ring fs))
    go true is here other =
        let same : block ring f.0 ≡ b = grind (arith, nat_tests, is) in
        here ∙ sym (with-twice b (blocks_of ring fs))
        ∙ ap (λ (c : ℕ). with_block b (with_block c (blocks_of ring fs))) (sym same)
    go false is here other =
        ap (λ (bs : List ℕ). b ∷ bs) other ∙ sym (with-apart b (block ring f.0) (blocks_of ring fs) is)

-- the two are the same
pub blocks-made : (ring : Ring) (fs : List (ℕ × Picture))
    → dedup nat_eq (map (λ f. block ring f.0) fs) ≡ blocks_of ring fs
blocks-made ring [] = refl
blocks-made ring (f ∷ fs) = from-block ring (block ring f.0) fs
