-- Where a byte is first found.
use Rattle.std.proofs.Common.{◌≡◌, ℕ, suc, ◌+◌, Bool, true, false, List, [], ◌∷◌, ◌++◌, length, refl, ap, arith, eqb, sym, length-append, ◌∙◌}
use Rattle.std.specs.List.{position_or_len}

-- this byte isn't among these
abbrev pub Lacks : ℕ → List ℕ → Type 0
Lacks c bs = position_or_len (λ b. eqb b c) bs ≡ length bs

behind_by : (same : Bool) (c b : ℕ) (bs rest : List ℕ) → eqb b c ≡ same
    → (Lacks c bs → position_or_len (λ b. eqb b c) (bs ++ rest) ≡ length bs + position_or_len (λ b. eqb b c) rest)
    → Lacks c (b ∷ bs) → position_or_len (λ b. eqb b c) (b ∷ bs ++ rest) ≡ suc (length bs) + position_or_len
    (λ b. eqb b c) rest
behind_by true c b bs rest is more none = absurd (omega (arith, (rw is at none)))
behind_by false c b bs rest is more none = rw is (omega (arith, more (omega (arith, (rw is at none)))))

-- after bytes without it, it is where it is in what follows
pub behind : (c : ℕ) (bs rest : List ℕ) → Lacks c bs → position_or_len (λ b. eqb b c)
    (bs ++ rest) ≡ length bs + position_or_len (λ b. eqb b c) rest
behind c [] rest none = omega arith
behind c (b ∷ bs) rest none = behind_by (eqb b c) c b bs rest refl (behind c bs rest) none

pub lacks_both : (c : ℕ) (xs ys : List ℕ) → Lacks c xs → Lacks c ys → Lacks c (xs ++ ys)
lacks_both c xs ys first last = behind c xs ys first ∙ ap (λ n. length xs + n) last ∙ sym (length-append xs ys)
