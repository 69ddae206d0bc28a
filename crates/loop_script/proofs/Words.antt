-- The words of a line, first word by first word.
use Rattle.std.proofs.Common.{◌≡◌, ℕ, ◌<◌, ◌==◌, List, [], ◌∷◌, length, true, false, cond, ap, refl, get_or, ◌≢◌, Option, Some, None, codes, arith, rules, tests}
use Rattle.std.specs.List.{position_or_len, before_first, after_first, onto_first}
use Rattle.std.specs.Option.{is_some}
use Rattle.std.specs.Str.{bytes_eq}
use Rattle.std.proofs.lemmas.Bool.{false≢true}
use denote.Ref.{Bor}
use Rattle.std.proofs.lemmas.List.Splits.{slice_split_first, slice_split_none}
use Rattle.std.proofs.lemmas.Grind.{common_steps}
use Rattle.loop_script.specs.Script.{counted_said, geometry_said, said, span_said, words, words_after}

-- a line with a space: its first word, and the words after that space
pub words-parted : (line word rest : List ℕ) → word ≡ before_first (λ b. b == 32) line
    → rest ≡ after_first (λ b. b == 32) line → position_or_len (λ b. b == 32) line < length line → words line ≡ word
    ∷ words rest
words-parted line word rest w r inside = rw (w, r) (slice_split_first (λ b. b == 32) line 0 inside)

other-byte : (b : ℕ) → b ≢ 32 → (b == 32) ≡ false
other-byte b apart = search (rules, tests)

-- a line without a space is one word
pub words-one : (line : List ℕ) → ((i : ℕ) → i < length line → get_or line i 0 ≢ 32) → words line ≡ line ∷ []
words-one line apart = slice_split_none (λ b. b == 32) line (λ k d inside. grind (arith, common_steps, other-byte, apart k inside))

-- each line has a first word
words-some : (line : List ℕ) → (first : List ℕ) × (more : List (List ℕ)) × (words line ≡ first ∷ more)
words-some [] = ([], [], refl)
words-some (b ∷ line) =
    let some = words-some line in
    elim (b == 32) as (λ t. (first : List ℕ) × (more : List (List ℕ)) × (cond t ([] ∷ words line) (onto_first b (words line)) ≡ first ∷ more)) [
      | true ↦ ([], words line, refl)
      | false ↦ (b ∷ some.0, some.1, ap (onto_first b) some.2)
    ]

-- a name that takes no more than a number, with words after it
pub said-counted : (name rest : List ℕ) → bytes_eq name (codes "format") ≡ false
    → bytes_eq name (codes "format1") ≡ false → bytes_eq name (codes "lock") ≡ false
    → said (name ∷ words rest) ≡ counted_said name (words rest)
said-counted name rest first second third = let some = words-some rest in rw (some.2, first, second, third) refl

-- more than two words and a tag name no span
pub span-long : (from to tag : List ℕ) (rest : Option (Bor (List ℕ))) → is_some rest ≡ true
    → span_said (from ∷ to ∷ tag ∷ words_after rest) ≡ None
span-long from to tag None there = absurd (false≢true there)
span-long from to tag (Some rest) there = let some = words-some rest.now in rw some.2 refl

-- more than one word after a name is no number
pub counted-long : (name argument : List ℕ) (rest : Option (Bor (List ℕ))) → is_some rest ≡ true
    → counted_said name (argument ∷ words_after rest) ≡ None
counted-long name argument None there = absurd (false≢true there)
counted-long name argument (Some rest) there = let some = words-some rest.now in rw some.2 refl

-- more than six words name no geometry
pub geometry-long : (a b c d e f : List ℕ) (rest : Option (Bor (List ℕ))) → is_some rest ≡ true
    → geometry_said (a ∷ b ∷ c ∷ d ∷ e ∷ f ∷ words_after rest) ≡ None
geometry-long a b c d e f None there = absurd (false≢true there)
geometry-long a b c d e f (Some rest) there = let some = words-some rest.now in rw some.2 refl
