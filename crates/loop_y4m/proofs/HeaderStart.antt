-- How the header's line is recognized by its first ten bytes.
use Rattle.std.proofs.Common.{◌≡◌, ℕ, ◌+◌, ◌-◌, Bool, true, false, Option, Some, None, List, ◌++◌, length, take, drop, refl, ap, arith, sym, ◌∙◌, length-take}
use Rattle.std.specs.Prelude.{Ok, Err, Result, IfSome, codes, bytes_eq, min, nat_le, not}
use Rattle.std.proofs.lemmas.List.{take_at, drop-take, drop_all}
use Rattle.std.proofs.lemmas.Bool.{leb-true, leb-false}
use Rattle.std.proofs.lemmas.Slice.Eq.{bytes_eq-Decides}
use Rattle.loop_y4m.specs.declared.fault.Y4mFault.{Y4mFault}
use Rattle.loop_y4m.specs.declared.fault.Y4mFault.TheVariants.{NotY4m, BadHeader, OddWidth, UnsupportedColour, UnsupportedInterlace, Truncated, Read}
use Rattle.loop_y4m.specs.declared.depth.Colours.{Colours}
use Rattle.loop_y4m.specs.declared.depth.Depth.{Depth}
use Rattle.loop_y4m.specs.Steps.{LineIs, HeaderIs}
use Rattle.loop_y4m.specs.Stream.{header_line, header_and_rest, line}
use Rattle.loop_y4m.specs.Header.{and_then, header_of}
use Rattle.loop_y4m.specs.declared.header.Header.{Header}
use Rattle.loop_y4m.proofs.Lines.{line_at}

equal : (xs ys : List ℕ) → bytes_eq xs ys ≡ true → xs ≡ ys
equal xs ys is = (bytes_eq-Decides xs ys).0 is

-- an input that begins with other bytes
another : (first rest : List ℕ) → length first ≡ 10 → bytes_eq first (codes "YUV4MPEG2 ") ≡ false
    → bytes_eq first (codes "YUV4MPEG2\n") ≡ false → header_line (first ++ rest) ≡ Err NotY4m
another first rest ten space newline = rw (take_at first rest 10 ten) (rw space (rw newline refl))

-- a header without parameters
bare : (rest : List ℕ) → header_line (codes "YUV4MPEG2\n" ++ rest) ≡ Ok (codes "YUV4MPEG2", rest)
bare rest = line_at (codes "YUV4MPEG2") rest refl (omega arith)

-- ---- the same, where the bytes that a reader has are known

-- the ten bytes were read, and these are left
abbrev pub TenRead : List ℕ → Option (List ℕ) → List ℕ → Type 0
TenRead bytes left first = (rest : List ℕ) × (bytes ≡ first ++ rest) × (left ≡ Some rest)

pub bare_known : (known left : Option (List ℕ)) (first tail : List ℕ) → length first ≡ 10
    → bytes_eq (take 10 (first ++ tail)) (codes "YUV4MPEG2\n") ≡ true
    → IfSome known (λ bytes. TenRead bytes left first)
    → IfSome known (λ bytes. LineIs (header_line bytes) (Ok 9) (first ++ tail) left)
bare_known None left first tail ten same filled = tt
bare_known (Some bytes) left first tail ten same filled =
    let is : first ≡ codes "YUV4MPEG2\n" = equal first (codes "YUV4MPEG2\n") (rw (take_at first tail 10 ten) at same) in
    (filled.0, rw (filled.1) (rw is (bare filled.0)), filled.2)

pub another_known : (known left : Option (List ℕ)) (first tail : List ℕ) → length first ≡ 10
    → bytes_eq (take 10 (first ++ tail)) (codes "YUV4MPEG2 ") ≡ false → bytes_eq (take 10 (first ++ tail))
    (codes "YUV4MPEG2\n") ≡ false → IfSome known (λ bytes. TenRead bytes left first)
    → IfSome known (λ bytes. header_line bytes ≡ Err NotY4m)
another_known None left first tail ten space newline filled = tt
another_known (Some bytes) left first tail ten space newline filled =
    rw (filled.1) (another first filled.0 ten (rw (take_at first tail 10 ten) at space)
    (rw (take_at first tail 10 ten) at newline))

spaced_from : (left new : Option (List ℕ)) (first tail buf rest : List ℕ) (result : Result ℕ Y4mFault)
    → length first ≡ 10 → first ≡ codes "YUV4MPEG2 " → left ≡ Some rest
    → IfSome left (λ xs. LineIs (line (take 10 (first ++ tail) ++ xs)) result buf new)
    → LineIs (header_line (first ++ rest)) result buf new
spaced_from left new first tail buf rest result ten is there read = rw is (rw is at (rw (take_at first tail 10 ten) at (rw there at read)))

pub spaced_known : (known left new : Option (List ℕ)) (first tail buf : List ℕ) (result : Result ℕ Y4mFault)
    → length first ≡ 10 → bytes_eq (take 10 (first ++ tail)) (codes "YUV4MPEG2 ") ≡ true
    → IfSome known (λ bytes. TenRead bytes left first)
    → IfSome left (λ xs. LineIs (line (take 10 (first ++ tail) ++ xs)) result buf new)
    → IfSome known (λ bytes. LineIs (header_line bytes) result buf new)
spaced_known None left new first tail buf result ten same filled read = tt
spaced_known (Some bytes) left new first tail buf result ten same filled read =
    let is : first ≡ codes "YUV4MPEG2 " = equal first (codes "YUV4MPEG2 ") (rw (take_at first tail 10 ten) at same) in
    rw (filled.1) (spaced_from left new first tail buf filled.0 result ten is filled.2 read)

-- a test that was negated
pub not_so : (b r : Bool) → r ≡ not b → r ≡ true → b ≡ false
not_so true r turned e = absurd cc
not_so false r turned e = refl

pub so : (b r : Bool) → r ≡ not b → r ≡ false → b ≡ true
so true r turned e = refl
so false r turned e = absurd cc

-- ---- the header

header_by : (colours : Colours) (bytes rest : List ℕ) (left : Option (List ℕ))
    (result : Result (Header × Depth) Y4mFault) → header_and_rest colours bytes ≡ and_then result (λ h. Ok (h, rest))
    → left ≡ Some rest → HeaderIs colours bytes result left
header_by colours bytes rest left (Ok h) is there = (rest, is, there)
header_by colours bytes rest left (Err NotY4m) is there = is
header_by colours bytes rest left (Err BadHeader) is there = is
header_by colours bytes rest left (Err UnsupportedColour) is there = is
header_by colours bytes rest left (Err OddWidth) is there = is
header_by colours bytes rest left (Err UnsupportedInterlace) is there = is
header_by colours bytes rest left (Err Truncated) is there = is
header_by colours bytes rest left (Err Read) is there = tt

pub header_known : (colours : Colours) (known left : Option (List ℕ)) (n : ℕ) (text : List ℕ)
    (result : Result (Header × Depth) Y4mFault) → result ≡ header_of colours (drop 10 (take n text))
    → IfSome known (λ bytes. LineIs (header_line bytes) (Ok n) text left)
    → IfSome known (λ bytes. HeaderIs colours bytes result left)
header_known colours None left n text result is read = tt
header_known colours (Some bytes) left n text result is read =
    header_by colours bytes read.0 left result (rw (read.1) (rw is refl)) read.2

behind_by : (more : Bool) (n : ℕ) (text : List ℕ) → nat_le 10 n ≡ more
    → take (n - min n 10) (drop (min n 10) text) ≡ drop 10 (take n text)
behind_by true n text is =
    let ten : min n 10 ≡ 10 = omega (arith, leb-true 10 n is) in
    let whole : n ≡ 10 + (n - 10) = omega (arith, leb-true 10 n is) in
    rw ten (sym (drop-take 10 (n - 10) text) ∙ ap (λ k. drop 10 (take k text)) (sym whole))
behind_by false n text is =
    let few : min n 10 ≡ n = omega (arith, leb-false 10 n is) in
    let none : n - n ≡ 0 = omega arith in
    rw few (rw none (sym (drop_all 10 (take n text) (omega (arith, leb-false 10 n is, length-take n text)))))

-- what follows the ten bytes, as a slice from there
pub behind_ten : (n : ℕ) (text : List ℕ) → take (n - min n 10) (drop (min n 10) text) ≡ drop 10 (take n text)
behind_ten n text = behind_by (nat_le 10 n) n text refl
