-- Texts that are cut at a byte.
use Rattle.std.proofs.Common.{◌≡◌, ◌==◌, ℕ, Bool, ◌<◌, List, [], ◌∷◌, length, true, false, refl, Option, Some, None, arith, option_map}
use Rattle.std.specs.List.{list_any, position_or_len}
use denote.Ref.{Bor}
use Rattle.std.proofs.lemmas.Grind.{common_steps}
use Rattle.std.proofs.lemmas.Str.Pattern.{IsSplitOnceResult, split_once_first}
use Rattle.loop_station_words.specs.Cuts.{cut}

-- some byte is found where the place of the first is inside the line
pub any-inside : (p : ℕ → Bool) (line : List ℕ) → position_or_len p line < length line → list_any p line ≡ true
any-inside p [] inside = absurd (omega (arith, inside))
any-inside p (b ∷ line) inside = grind (arith, common_steps, any-inside p line)

-- none is found where it is past the line
pub any-past : (p : ℕ → Bool) (line : List ℕ) → position_or_len p line ≡ length line → list_any p line ≡ false
any-past p [] past = refl
any-past p (b ∷ line) past = grind (arith, common_steps, any-past p line)

-- what `split_once` returns
pub cut-split : (b : ℕ) (text : List ℕ) (r : Option (Bor (List ℕ) × Bor (List ℕ))) → IsSplitOnceResult b text r → b < 128
    → cut b text ≡ option_map (λ p. (p.0.now, p.1.now)) r
unfolding cut
cut-split b text None says low =
    let h = split_once_first b text None says low in
    rw (any-past (λ c. c == b) text h) refl
cut-split b text (Some x) says low =
    let h = split_once_first b text (Some x) says low in
    rw (any-inside (λ c. c == b) text h.0, h.1, h.2) refl
