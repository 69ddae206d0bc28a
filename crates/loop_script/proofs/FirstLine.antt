-- The first line of the bytes that a reader has left.
use Rattle.std.proofs.Common.{◌≡◌, ℕ, zero, suc, ◌+◌, ◌<◌, ◌==◌, true, false, cond, List, [], ◌∷◌, ◌++◌, length, take, refl, ap, subst, ◌∙◌, Option, Some, None, IfSome, option_map, nat_lt, arith, rules}
use Rattle.std.specs.Io.BufRead.{take_through, strip_last, first_piece}
use Rattle.std.proofs.lemmas.Grind.{common_steps}

-- a first byte that is another one stays
strip_more : (b x : ℕ) (ys : List ℕ) → (x == b) ≡ false → length (strip_last b (x ∷ ys)) ≡ length (strip_last b ys) + 1
strip_more b x [] other = grind (arith, common_steps, other)
strip_more b x (y ∷ ys) other = grind (arith, common_steps, other)

-- Where the bytes up to a limit begin with a line shorter than the limit, all bytes begin with the same line.
pub line_within : (b n : ℕ) (xs : List ℕ) → length (strip_last b (take_through b (take n xs))) < n
    → take_through b (take n xs) ≡ take_through b xs
line_within b zero xs short = absurd (omega (arith, short))
line_within b (suc n) [] short = refl
line_within b (suc n) (x ∷ xs) short =
    elim (x == b) as (λ t. (x == b) ≡ t → length (strip_last b (cond t (x ∷ []) (x ∷ take_through b (take n xs)))) < suc n
    → cond t (x ∷ []) (x ∷ take_through b (take n xs)) ≡ cond t (x ∷ []) (x ∷ take_through b xs)) [
      | true ↦ (λ same less. refl)
      | false ↦ (λ other less. ap (λ (l : List ℕ). x ∷ l) (line_within b n xs (omega (arith, less, strip_more b x (take_through b (take n xs)) other))))
    ] refl short

-- what is read up to a limit, without the line's end, is the first line of all that is left, if it is shorter than the limit
pub first_read : (limit : ℕ) (seen known : Option (List ℕ)) (old got line : List ℕ) → seen ≡ known → old ≡ []
    → IfSome (option_map (take limit) seen) (λ xs. got ≡ old ++ take_through 10 xs) → line ≡ strip_last 10 got
    → length line < limit → IfSome known (λ left. line ≡ first_piece 10 left)
first_read limit None known old got line same none read is short = subst (λ (o : Option (List ℕ)). IfSome o (λ left. line ≡ first_piece 10 left)) same tt
first_read limit (Some left) known old got line same none read is short =
    let all : got ≡ take_through 10 (take limit left) = read ∙ ap (λ (l : List ℕ). l ++ take_through 10 (take limit left)) none in
    let line_is : line ≡ strip_last 10 (take_through 10 (take limit left)) = is ∙ ap (strip_last 10) all in
    let first : line ≡ first_piece 10 left = line_is
    ∙ ap (strip_last 10) (line_within 10 limit left (subst (λ (l : List ℕ). length l < limit) line_is short)) in
    subst (λ (o : Option (List ℕ)). IfSome o (λ left. line ≡ first_piece 10 left)) same first

take_none : (limit : ℕ) → take {A = ℕ} limit [] ≡ []
take_none zero = refl
take_none (suc limit) = refl

-- where a byte was read, one was left
pub some_left : (limit : ℕ) (seen known : Option (List ℕ)) (old got : List ℕ) → seen ≡ known → old ≡ []
    → IfSome (option_map (take limit) seen) (λ xs. got ≡ old ++ take_through 10 xs) → 0 < length got → IfSome known (λ left. true ≡ nat_lt 0 (length left))
some_left limit None known old got same none read some = subst (λ (o : Option (List ℕ)). IfSome o (λ left. true ≡ nat_lt 0 (length left))) same tt
some_left limit (Some []) known old got same none read some =
    let empty : got ≡ [] = read ∙ ap (λ (l : List ℕ). l ++ take_through 10 (take limit [])) none ∙ ap (take_through 10) (take_none limit) in
    absurd (omega (arith, some, ap length empty))
some_left limit (Some (x ∷ left)) known old got same none read some =
    let more : true ≡ nat_lt 0 (length (x ∷ left)) = search rules in
    subst (λ (o : Option (List ℕ)). IfSome o (λ left. true ≡ nat_lt 0 (length left))) same more
