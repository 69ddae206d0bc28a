-- How a line that is read byte by byte continues, and ends.
use Rattle.std.proofs.Common.{◌≡◌, ℕ, ◌+◌, ◌<◌, ◌≤◌, Option, Some, None, List, [], ◌∷◌, ◌++◌, length, take, drop, refl, ap, arith, false, eqb, sym, append_assoc, append-nil, length-append, ◌∙◌}
use Rattle.std.proofs.lemmas.List.{take_at, drop_at}
use Rattle.std.specs.Prelude.{Ok, Err, IfSome}
use Rattle.std.specs.Io.KnownBytes.{Consumes, IsAtEnd}
use Rattle.std.specs.List.{position_or_len}
use Rattle.loop_y4m.specs.declared.fault.Y4mFault.TheVariants.{BadHeader, Truncated}
use Rattle.loop_y4m.specs.Stream.{line, is_newline}
use Rattle.loop_y4m.proofs.Places.{behind}

-- these bytes of a line came, none of them a newline, and the rest is left
abbrev pub IsBegun : List ℕ → List ℕ → Option (List ℕ) → Type 0
IsBegun bytes seen left =
    (rest : List ℕ) × (bytes ≡ seen ++ rest) × (left ≡ Some rest) × (position_or_len is_newline seen ≡ length seen)

-- the first newline is where what follows begins
newline_at : (seen rest : List ℕ) → position_or_len is_newline seen ≡ length seen
    → position_or_len is_newline (seen ++ 10 ∷ rest) ≡ length seen
newline_at seen rest none = behind 10 seen (10 ∷ rest) none ∙ omega arith

line_long : (bytes : List ℕ) → 4096 ≤ position_or_len is_newline bytes → 4096 ≤ length bytes
    → line bytes ≡ Err BadHeader
line_long bytes far long = grind (arith, far, long)

line_cut : (bytes : List ℕ) → length bytes < 4096 → position_or_len is_newline bytes ≡ length bytes
    → line bytes ≡ Err Truncated
line_cut bytes short none = grind (arith, short, none)

line_whole : (bytes seen rest : List ℕ) (n : ℕ) → position_or_len is_newline bytes ≡ n → n < 4096 → n < length bytes
    → take n bytes ≡ seen → drop (n + 1) bytes ≡ rest → line bytes ≡ Ok (seen, rest)
line_whole bytes seen rest n at short inside front back = grind (arith, at, short, inside, front, back)

pub line_at : (seen rest : List ℕ) → position_or_len is_newline seen ≡ length seen → length seen < 4096
    → line (seen ++ 10 ∷ rest) ≡ Ok (seen, rest)
line_at seen rest none short = line_whole (seen ++ 10 ∷ rest) seen rest (length seen) (newline_at seen rest none) short
    (rw (length-append seen (10 ∷ rest)) (omega arith)) (take_at seen (10 ∷ rest) (length seen) refl)
    (rw (append_assoc seen (10 ∷ []) rest) at (drop_at (seen ++ 10 ∷ []) rest (length seen + 1) (length-append seen (10 ∷ []))))

-- what is left where so many known bytes were taken
pub left_of : (rest : List ℕ) (new : Option (List ℕ)) (bs : List ℕ) → Consumes (Some rest) new bs → (more : List ℕ)
    × (new ≡ Some more) × (rest ≡ bs ++ more)
left_of rest None bs consumed = absurd consumed
left_of rest (Some more) bs consumed = (more, refl, consumed)

-- 4,096 bytes without a newline
pub too_long : (bytes seen : List ℕ) (left : Option (List ℕ)) → IsBegun bytes seen left → length seen ≡ 4096
    → line bytes ≡ Err BadHeader
too_long bytes seen left begun long =
    rw (begun.1) (line_long (seen ++ begun.0) (omega (arith, behind 10 seen begun.0 begun.3, long))
    (omega (arith, length-append seen begun.0, long)))

nothing_left : (new : Option (List ℕ)) (more : List ℕ) → new ≡ Some more → IsAtEnd new → more ≡ []
nothing_left new more is ended = rw is at ended

-- the end comes before a newline
pub truncated : (bytes seen : List ℕ) (left new : Option (List ℕ)) → IsBegun bytes seen left → Consumes left new []
    → IsAtEnd new → length seen < 4096 → line bytes ≡ Err Truncated
truncated bytes seen left new begun consumed ended short =
    let m = left_of begun.0 new [] (rw (begun.2) at consumed) in
    let whole : bytes ≡ seen = begun.1 ∙ ap (λ r. seen ++ r) (m.2 ∙ nothing_left new m.0 m.1 ended) ∙ append-nil seen in
    rw whole (line_cut seen short begun.3)

-- the newline comes
pub ended : (bytes seen : List ℕ) (left new : Option (List ℕ)) → IsBegun bytes seen left → Consumes left new (10 ∷ [])
    → length seen < 4096 → (rest : List ℕ) × (line bytes ≡ Ok (seen, rest)) × (new ≡ Some rest)
ended bytes seen left new begun consumed short =
    let m = left_of begun.0 new (10 ∷ []) (rw (begun.2) at consumed) in
    (m.0, rw (begun.1 ∙ ap (λ r. seen ++ r) m.2) (line_at seen m.0 begun.3 short), m.1)

-- another byte comes
pub one_more : (bytes seen : List ℕ) (b : ℕ) (left new : Option (List ℕ)) → IsBegun bytes seen left
    → Consumes left new (b ∷ []) → eqb b 10 ≡ false → IsBegun bytes (seen ++ b ∷ []) new
one_more bytes seen b left new begun consumed other =
    let m = left_of begun.0 new (b ∷ []) (rw (begun.2) at consumed) in (
      m.0,
      begun.1 ∙ ap (λ r. seen ++ r) m.2 ∙ sym (append_assoc seen (b ∷ []) m.0),
      m.1,
      rw (length-append seen (b ∷ [])) (behind 10 seen (b ∷ []) begun.3 ∙ ap (λ k. length seen + k) (rw other refl)),
    )

-- ---- the same, where the bytes that a reader has are known

-- a line begins with the bytes that came before
pub begins_known : (known : Option (List ℕ)) (front : List ℕ) → position_or_len is_newline front ≡ length front
    → IfSome known (λ bytes. IsBegun (front ++ bytes) front known)
begins_known None front none = tt
begins_known (Some bytes) front none = (bytes, refl, refl, none)

pub too_long_known : (known : Option (List ℕ)) (front seen : List ℕ) (left : Option (List ℕ))
    → IfSome known (λ bytes. IsBegun (front ++ bytes) seen left) → length seen ≡ 4096
    → IfSome known (λ bytes. line (front ++ bytes) ≡ Err BadHeader)
too_long_known None front seen left begun long = tt
too_long_known (Some bytes) front seen left begun long = too_long (front ++ bytes) seen left begun long

pub ended_known : (known : Option (List ℕ)) (front seen : List ℕ) (left new : Option (List ℕ))
    → IfSome known (λ bytes. IsBegun (front ++ bytes) seen left) → Consumes left new (10 ∷ []) → length seen < 4096
    → IfSome known (λ bytes. (rest : List ℕ) × (line (front ++ bytes) ≡ Ok (seen, rest)) × (new ≡ Some rest))
ended_known None front seen left new begun consumed short = tt
ended_known (Some bytes) front seen left new begun consumed short = ended (front ++ bytes) seen left new begun consumed short

-- for the loop that reads a line
pub ruleset reading = (begins_known, too_long, truncated, ended, one_more)
