-- How a frame's bytes are read in parts.
use Rattle.std.proofs.Common.{◌≡◌, ℕ, suc, ◌+◌, ◌≤◌, Option, Some, None, List, [], ◌∷◌, ◌++◌, length, take, refl, ap, arith, sym, append_assoc, length-take, length-append, ◌<◌, ◌∙◌}
use Rattle.std.specs.Prelude.{IfSome, Ok, Err}
use Rattle.loop_y4m.specs.declared.fault.Y4mFault.TheVariants.{Truncated}
use Rattle.loop_y4m.specs.Stream.{pixels}
use Rattle.std.specs.Io.KnownBytes.{Consumes}
use Rattle.std.proofs.lemmas.List.{take-take, take_at, drop_at}
use Rattle.std.proofs.lemmas.Slice.{take-put_mid}
use borrow.Rule.Slice.PartMut.{put_mid}
use Rattle.loop_y4m.proofs.Lines.{left_of}

take_over : (xs ys : List ℕ) (n : ℕ) → take (length xs + n) (xs ++ ys) ≡ xs ++ take n ys
take_over [] ys n = let none : 0 + n ≡ n = omega arith in ap (λ k. take k ys) none
take_over (x ∷ xs) ys n = let step : suc (length xs) + n ≡ suc (length xs + n) = omega arith in
    ap (λ k. take k (x ∷ (xs ++ ys))) step ∙ ap (λ zs. x ∷ zs) (take_over xs ys n)

-- the same, from a place
take_from : (a n : ℕ) (front ys : List ℕ) → length front ≡ a → take (a + n) (front ++ ys) ≡ front ++ take n ys
take_from a n front ys size = rw (sym size) (take_over front ys n)

-- the bytes so far, after n were put from a on
put_part : (a k n : ℕ) (xs ys : List ℕ) → a ≤ length xs → n ≤ length ys → take (a + n) (put_mid a k xs ys) ≡ take a xs
    ++ take n ys
put_part a k n xs ys inside few = sym (take-take (a + n) (a + length ys) (put_mid a k xs ys) (omega (arith, few)))
    ∙ ap (λ zs. take (a + n) zs) (take-put_mid a k xs ys (a + length ys) refl inside)
    ∙ take_from a n (take a xs) ys (omega (arith, length-take a xs, inside))

pub taken_known : (known : Option (List ℕ)) (a k n : ℕ) (xs ys : List ℕ) (left new : Option (List ℕ))
    → IfSome known (λ bytes. (rest : List ℕ) × (bytes ≡ take a xs ++ rest) × (left ≡ Some rest))
    → Consumes left new (take n ys) → a ≤ length xs → n ≤ length ys
    → IfSome known (λ bytes. (rest : List ℕ) × (bytes ≡ take (a + n) (put_mid a k xs ys) ++ rest) × (new ≡ Some rest))
taken_known None a k n xs ys left new begun consumed inside few = tt
taken_known (Some bytes) a k n xs ys left new begun consumed inside few =
    let m = left_of begun.0 new (take n ys) (rw (begun.2) at consumed) in (
      m.0,
      begun.1 ∙ ap (λ r. take a xs ++ r) m.2 ∙ sym (append_assoc (take a xs) (take n ys) m.0)
          ∙ ap (λ zs. zs ++ m.0) (sym (put_part a k n xs ys inside few)),
      m.1,
    )

-- a frame's bytes are there
pub pixels_whole : (out rest : List ℕ) → pixels (length out) (out ++ rest) ≡ Ok (Some (out, rest))
pixels_whole out rest = grind (arith, length-append, take_at out rest (length out) refl, drop_at out rest (length out) refl)

-- the input ends within them
pub pixels_cut : (size : ℕ) (bytes : List ℕ) → length bytes < size → pixels size bytes ≡ Err Truncated
pixels_cut size bytes short = grind (arith, short)
