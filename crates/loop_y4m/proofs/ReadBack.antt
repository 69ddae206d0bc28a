-- What is written is read back.
use Rattle.std.proofs.Common.{◌≡◌, ℕ, suc, ◌+◌, ◌*◌, ◌/◌, ◌%◌, ◌<◌, ◌≤◌, ◌^◌, Bool, true, false, Some, None, List, [], ◌∷◌, ◌++◌, length, drop, refl, ap, arith, eqb, sym, length-append, append_assoc, ◌∙◌}
use Rattle.std.specs.Char.{is_ascii_digit}
use Rattle.loop_y4m.specs.declared.fault.Y4mFault.TheVariants.{BadHeader, OddWidth, UnsupportedColour}
use Rattle.std.specs.Prelude.{◌&&◌, ◌||◌, ◌==◌, if◌then◌else◌, nat_lt, not, Err, Option, option_map, ok_or, sum, All, IsTrue, Ok, codes, decimal, flat_map}
use Rattle.std.specs.List.{position_or_len}
use Rattle.std.proofs.lemmas.Bool.{le-leb, ltb-true}
use Rattle.std.proofs.lemmas.Fmt.{length-decimal-le}
use Rattle.std.proofs.lemmas.List.{take_at, drop_at}
use Rattle.loop_record.proofs.Bounds.{limits}
use Rattle.loop_record.proofs.TestFacts.{both, equal, untrue}
use Rattle.loop_record.specs.Geometry.{frame_bytes, is_good, plane_sizes}
use Rattle.loop_record.specs.declared.geometry.Geometry.{Geometry}
use Rattle.loop_record.specs.declared.geometry.PixelFormat.{PixelFormat}
use Rattle.loop_record.specs.declared.geometry.PixelFormat.TheVariants.{Grey, Ym12, Ym16, Ym24}
use Rattle.loop_y4m.specs.declared.depth.Colours.{Colours}
use Rattle.loop_y4m.specs.declared.depth.Colours.TheVariants as colours
use Rattle.loop_y4m.specs.declared.depth.Depth.{Depth}
use Rattle.loop_y4m.specs.declared.depth.Depth.TheVariants.{Bits8, Bits9, Bits10, Bits12, Bits14, Bits16}
use Rattle.loop_y4m.specs.Depths.{is_deep}
use Rattle.loop_y4m.specs.Header.{and_then, colour_by, complete, is_halved, row_of, header_of, nothing_given, with_parameter, with_parameters, with_row, header_words}
use Rattle.loop_y4m.specs.declared.header.Parameters.{Parameters}
use Rattle.loop_y4m.specs.declared.header.Header.{Header}
use Rattle.loop_y4m.specs.Stream.{before, ends_after, frames_within_input, header_and_rest, header_line, next_frame, parse, parse_deep}
use Rattle.loop_y4m.specs.Text.{colour_name, deep_name, deep_text, header_for, header_with, may_have, frame, samples, text}
use Rattle.loop_y4m.proofs.Digits.{decimal_lacks, rate_decimals, side_decimal}
use Rattle.loop_y4m.proofs.Places.{Lacks, behind, lacks_both}
use Rattle.loop_y4m.proofs.Frames.{frames_step}
use Rattle.loop_y4m.proofs.Lines.{line_at}
use Rattle.loop_y4m.proofs.Pixels.{pixels_whole}
use Rattle.loop_y4m.proofs.Words.{one_word, word_by_word}

-- ---- frames

frame_read : (bytes rest : List ℕ) → next_frame (length bytes) (frame bytes ++ rest) ≡ Ok (Some (bytes, rest))
frame_read bytes rest = rw (line_at (codes "FRAME") (bytes ++ rest) refl (omega arith)) (pixels_whole bytes rest)

frames_by_one : (size : ℕ) (f rest : List ℕ) (fs : List (List ℕ)) → length f ≡ size
    → frames_within_input size rest ≡ ends_after fs None → frames_within_input size (frame f ++ rest) ≡ ends_after
    (f ∷ fs) None
frames_by_one size f rest fs is behind = frames_step size (frame f ++ rest) ∙ rw (sym is) (rw (frame_read f rest) (rw is (ap (before f) behind)))

frames_read : (size : ℕ) (frames : List (List ℕ)) → All (λ f. length f ≡ size) frames
    → frames_within_input size (flat_map frame frames) ≡ ends_after frames None
frames_read size [] all = refl
frames_read size (f ∷ fs) all = frames_by_one size f (flat_map frame fs) fs (all 0 [] (omega arith))
    (frames_read size fs (λ k d l. all (suc k) d (omega (arith, l))))

-- ---- the parameters

abbrev with_rate : ℕ → ℕ → List ℕ
with_rate n d = 70 ∷ (decimal n ++ 58 ∷ decimal d)

-- a header after its `YUV4MPEG2` and a space
abbrev parameters : ℕ → ℕ → ℕ → ℕ → List ℕ → List ℕ
parameters w h n d name = (87 ∷ decimal w) ++ 32
    ∷ ((72 ∷ decimal h) ++ 32 ∷ (with_rate n d ++ 32
    ∷ (codes "Ip" ++ 32 ∷ (codes "A0:0" ++ 32 ∷ (67 ∷ name)))))

-- how the parts of a header follow one another
nested : (a b c d e f g h i j k : List ℕ) → a ++ b ++ c ++ d ++ e ++ f ++ g ++ h ++ i ++ j
    ++ k ≡ (a ++ (b ++ (c ++ (d ++ (e ++ ((f ++ (g ++ h)) ++ (i ++ j))))))) ++ k
nested a b c d e f g h i j k = simp append_assoc refl

abbrev lined : ℕ → List ℕ → Geometry → List ℕ
lined w name g = codes "YUV4MPEG2 " ++ parameters w g.height g.rate_num g.rate_den name

header_parts : (w : ℕ) (name : List ℕ) (g : Geometry) → header_with w name g ≡ lined w name g ++ 10 ∷ []
header_parts w name g = nested (codes "YUV4MPEG2 W") (decimal w) (codes " H") (decimal g.height) (codes " F")
    (decimal g.rate_num) (codes ":") (decimal g.rate_den) (codes " Ip A0:0 C") name (10 ∷ [])

word_of : (w rest : List ℕ) → Lacks 32 w → header_words (w ++ 32 ∷ rest) ≡ w ∷ header_words rest
word_of w rest none =
    let at : position_or_len (λ b. eqb b 32) (w ++ 32 ∷ rest) ≡ length w = behind 32 w (32 ∷ rest) none ∙ omega arith in
    word_by_word (w ++ 32 ∷ rest) (omega (arith, at, length-append w (32 ∷ rest))) ∙ rw at (rw (take_at w (32 ∷ rest) (length w) refl)
    (ap (λ r. w ∷ header_words r) (ap (drop (length w + 1)) (sym (append_assoc w (32 ∷ []) rest))
    ∙ drop_at (w ++ 32 ∷ []) rest (length w + 1) (length-append w (32 ∷ [])))))

taken : (cs : Colours) (p q : Parameters) (w rest : List ℕ) → Lacks 32 w → with_parameter cs p w ≡ Ok q
    → with_parameters cs p (header_words (w ++ 32 ∷ rest)) ≡ with_parameters cs q (header_words rest)
taken cs p q w rest none is = rw (word_of w rest none) (rw is refl)

last_taken : (cs : Colours) (p q : Parameters) (w : List ℕ) → Lacks 32 w → with_parameter cs p w ≡ Ok q
    → with_parameters cs p (header_words w) ≡ Ok q
last_taken cs p q w none is = rw (one_word w none) (rw is refl)

-- the name of a colour, where this list of colours is read
record Named (cs : Colours) (name : List ℕ) (f : PixelFormat) (b : Depth) : Type 0 where
  spaceless : Lacks 32 (67 ∷ name)
  lineless : Lacks 10 (67 ∷ name)
  short : length (67 ∷ name) ≤ 8
  read : colour_by cs name ≡ Some (f, b)

named_plain : (f : PixelFormat) → Named colours.Eight (colour_name f) f Bits8
named_plain Grey = record { spaceless = refl; lineless = refl; short = omega arith; read = refl }
named_plain Ym12 = record { spaceless = refl; lineless = refl; short = omega arith; read = refl }
named_plain Ym16 = record { spaceless = refl; lineless = refl; short = omega arith; read = refl }
named_plain Ym24 = record { spaceless = refl; lineless = refl; short = omega arith; read = refl }

named : (f : PixelFormat) (b : Depth) → Named colours.All (deep_name f b) f b
named Grey Bits8 = record { spaceless = refl; lineless = refl; short = omega arith; read = refl }
named Ym12 Bits8 = record { spaceless = refl; lineless = refl; short = omega arith; read = refl }
named Ym16 Bits8 = record { spaceless = refl; lineless = refl; short = omega arith; read = refl }
named Ym24 Bits8 = record { spaceless = refl; lineless = refl; short = omega arith; read = refl }
named Grey Bits9 = record { spaceless = refl; lineless = refl; short = omega arith; read = refl }
named Ym12 Bits9 = record { spaceless = refl; lineless = refl; short = omega arith; read = refl }
named Ym16 Bits9 = record { spaceless = refl; lineless = refl; short = omega arith; read = refl }
named Ym24 Bits9 = record { spaceless = refl; lineless = refl; short = omega arith; read = refl }
named Grey Bits10 = record { spaceless = refl; lineless = refl; short = omega arith; read = refl }
named Ym12 Bits10 = record { spaceless = refl; lineless = refl; short = omega arith; read = refl }
named Ym16 Bits10 = record { spaceless = refl; lineless = refl; short = omega arith; read = refl }
named Ym24 Bits10 = record { spaceless = refl; lineless = refl; short = omega arith; read = refl }
named Grey Bits12 = record { spaceless = refl; lineless = refl; short = omega arith; read = refl }
named Ym12 Bits12 = record { spaceless = refl; lineless = refl; short = omega arith; read = refl }
named Ym16 Bits12 = record { spaceless = refl; lineless = refl; short = omega arith; read = refl }
named Ym24 Bits12 = record { spaceless = refl; lineless = refl; short = omega arith; read = refl }
named Grey Bits14 = record { spaceless = refl; lineless = refl; short = omega arith; read = refl }
named Ym12 Bits14 = record { spaceless = refl; lineless = refl; short = omega arith; read = refl }
named Ym16 Bits14 = record { spaceless = refl; lineless = refl; short = omega arith; read = refl }
named Ym24 Bits14 = record { spaceless = refl; lineless = refl; short = omega arith; read = refl }
named Grey Bits16 = record { spaceless = refl; lineless = refl; short = omega arith; read = refl }
named Ym12 Bits16 = record { spaceless = refl; lineless = refl; short = omega arith; read = refl }
named Ym16 Bits16 = record { spaceless = refl; lineless = refl; short = omega arith; read = refl }
named Ym24 Bits16 = record { spaceless = refl; lineless = refl; short = omega arith; read = refl }

-- a letter and a number, or a rate, have no such byte
number_lacks : (c letter n : ℕ) → is_ascii_digit c ≡ false → eqb letter c ≡ false → n < 2 ^ 64
    → Lacks c (letter ∷ decimal n)
number_lacks c letter n other unlike small = rw unlike (omega (arith, decimal_lacks c n other small))

rate_lacks : (c n d : ℕ) → is_ascii_digit c ≡ false → eqb 70 c ≡ false → eqb 58 c ≡ false → n < 2 ^ 64 → d < 2 ^ 64
    → Lacks c (with_rate n d)
rate_lacks c n d other letter colon small low = lacks_both c (70 ∷ decimal n) (58 ∷ decimal d)
    (number_lacks c 70 n other letter small) (number_lacks c 58 d other colon low)

-- the sizes and rates that a geometry may have
record Small (w h n d : ℕ) : Type 0 where
  width : (1 ≤ w) × (w ≤ 16384)
  height : (1 ≤ h) × (h ≤ 16384)
  rate_num : n < 2 ^ 32
  rate_den : d < 2 ^ 32

abbrev given : Option ℕ → Option ℕ → ℕ → ℕ → Parameters
given w h n d = record { width = w; height = h; rate_num = n; rate_den = d; format = Ym12; depth = Bits8 }

abbrev all_given : ℕ → ℕ → ℕ → ℕ → PixelFormat → Depth → Parameters
all_given w h n d f b =
    record { width = Some w; height = Some h; rate_num = n; rate_den = d; format = f; depth = b }

parameters_read : (cs : Colours) (w h n d : ℕ) (name : List ℕ) (f : PixelFormat) (b : Depth) → Small w h n d
    → Named cs name f b → with_parameters cs nothing_given
    (header_words (parameters w h n d name)) ≡ Ok (all_given w h n d f b)
parameters_read cs w h n d name f b s called =
    let last : List ℕ = 67 ∷ name in
    let fifth : List ℕ = codes "A0:0" ++ 32 ∷ last in
    let fourth : List ℕ = codes "Ip" ++ 32 ∷ fifth in
    let third : List ℕ = with_rate n d ++ 32 ∷ fourth in
    let second : List ℕ = (72 ∷ decimal h) ++ 32 ∷ third in
    let sized : Parameters = given (Some w) (Some h) n d in
    taken cs nothing_given (given (Some w) None 0 0) (87 ∷ decimal w) second (number_lacks 32 87 w refl refl (omega (arith, s.width)))
    (ap (λ r. ok_or (option_map (λ k. given (Some k) None 0 0) r) BadHeader) (side_decimal w s.width.0 s.width.1))
    ∙ taken cs (given (Some w) None 0 0) (given (Some w) (Some h) 0 0) (72 ∷ decimal h) third (number_lacks 32 72 h refl refl (omega (arith, s.height)))
    (ap (λ r. ok_or (option_map (λ k. given (Some w) (Some k) 0 0) r) BadHeader) (side_decimal h s.height.0 s.height.1))
    ∙ taken cs (given (Some w) (Some h) 0 0) sized (with_rate n d) fourth
    (rate_lacks 32 n d refl refl refl (omega (arith, s.rate_num)) (omega (arith, s.rate_den)))
    (ap (λ r. ok_or (option_map (λ k. given (Some w) (Some h) k.0 k.1) r) BadHeader) (rate_decimals n d s.rate_num s.rate_den))
    ∙ taken cs sized sized (codes "Ip") fifth refl refl
    ∙ taken cs sized sized (codes "A0:0") last refl refl
    ∙ last_taken cs sized (all_given w h n d f b) last called.spaceless
    (ap (λ r. ok_or (option_map (λ k. all_given w h n d k.0 k.1) r) UnsupportedColour) called.read)

abbrev head : ℕ → ℕ → ℕ → ℕ → PixelFormat → Header
head w h n d f = record { format = f; width = w; height = h; rate_num = n; rate_den = d }

header_read : (cs : Colours) (w row h n d : ℕ) (name : List ℕ) (f : PixelFormat) (b : Depth) → Small w h n d
    → Named cs name f b → row_of w f b ≡ Ok row → sum (plane_sizes f row h) ≤ 16777216
    → header_of cs (parameters w h n d name) ≡ Ok (head row h n d f, b)
header_read cs w row h n d name f b s called bytes fits =
    ap (λ r. and_then r (λ p. complete p.width p.height p)) (parameters_read cs w h n d name f b s called)
    ∙ ap (λ r. and_then r (λ k. with_row k h (all_given w h n d f b))) bytes
    ∙ rw (le-leb (sum (plane_sizes f row h)) 16777216 fits) refl

-- ---- the header's line

line_lacks : (w h n d : ℕ) (name : List ℕ) → Lacks 10 (67 ∷ name) → Small w h n d
    → Lacks 10 (parameters w h n d name)
line_lacks w h n d name lineless s =
    let last : List ℕ = codes " Ip A0:0 " ++ 67 ∷ name in
    let third : List ℕ = with_rate n d ++ last in
    let second : List ℕ = (72 ∷ decimal h) ++ 32 ∷ third in
    lacks_both 10 (87 ∷ decimal w) (32 ∷ second) (number_lacks 10 87 w refl refl (omega (arith, s.width)))
    (lacks_both 10 (codes " ") second refl
    (lacks_both 10 (72 ∷ decimal h) (32 ∷ third) (number_lacks 10 72 h refl refl (omega (arith, s.height)))
    (lacks_both 10 (codes " ") third refl
    (lacks_both 10 (with_rate n d) last (rate_lacks 10 n d refl refl refl (omega (arith, s.rate_num)) (omega (arith, s.rate_den)))
    (lacks_both 10 (codes " Ip A0:0 ") (67 ∷ name) refl lineless)))))

at_most : (xs ys : List ℕ) (a b : ℕ) → length xs ≤ a → length ys ≤ b → length (xs ++ ys) ≤ a + b
at_most xs ys a b short rest = rw (length-append xs ys) (omega (arith, short, rest))

number_short : (letter n : ℕ) → n < 2 ^ 32 → length (letter ∷ decimal n) ≤ 11
number_short letter n small = omega (arith, length-decimal-le 10 n (omega arith) (omega (arith, small)) (omega (arith, small)))

line_short : (w h n d : ℕ) (name : List ℕ) → length (67 ∷ name) ≤ 8 → Small w h n d
    → length (parameters w h n d name) ≤ 63
line_short w h n d name short s =
    let last : List ℕ = codes " Ip A0:0 " ++ 67 ∷ name in
    let third : List ℕ = with_rate n d ++ last in
    let second : List ℕ = (72 ∷ decimal h) ++ 32 ∷ third in
    at_most (87 ∷ decimal w) (32 ∷ second) 11 52 (number_short 87 w (omega (arith, s.width)))
    (at_most (codes " ") second 1 51 (omega arith)
    (at_most (72 ∷ decimal h) (32 ∷ third) 11 40 (number_short 72 h (omega (arith, s.height)))
    (at_most (codes " ") third 1 39 (omega arith)
    (at_most (with_rate n d) last 22 17 (at_most (70 ∷ decimal n) (58 ∷ decimal d) 11 11 (number_short 70 n s.rate_num) (number_short 58 d s.rate_den))
    (at_most (codes " Ip A0:0 ") (67 ∷ name) 9 8 (omega arith) short)))))

lined_read : (w : ℕ) (name : List ℕ) (g : Geometry) (rest : List ℕ) → Lacks 10 (67 ∷ name)
    → length (67 ∷ name) ≤ 8 → Small w g.height g.rate_num g.rate_den
    → header_line (lined w name g ++ 10 ∷ rest) ≡ Ok (lined w name g, rest)
lined_read w name g rest lineless short s = line_at (lined w name g) rest
    (lacks_both 10 (codes "YUV4MPEG2 ") (parameters w g.height g.rate_num g.rate_den name) refl
    (line_lacks w g.height g.rate_num g.rate_den name lineless s))
    (omega (
      arith,
      at_most (codes "YUV4MPEG2 ") (parameters w g.height g.rate_num g.rate_den name) 10 63
          (omega arith) (line_short w g.height g.rate_num g.rate_den name short s),
    ))

-- ---- the whole text

small_of : (w : ℕ) (g : Geometry) → (1 ≤ w) × (w ≤ 16384) → IsTrue (is_good g)
    → Small w g.height g.rate_num g.rate_den
small_of w g width good = let l = limits g good in
    record { width = width; height = l.height; rate_num = omega (arith, l.rate_num); rate_den = omega (arith, l.rate_den) }

text_parts : (w : ℕ) (name : List ℕ) (g : Geometry) (rest : List ℕ)
    → header_with w name g ++ rest ≡ lined w name g ++ 10 ∷ rest
text_parts w name g rest =
    ap (λ h. h ++ rest) (header_parts w name g) ∙ append_assoc (lined w name g) (10 ∷ []) rest

lines_of : (cs : Colours) (bytes first rest : List ℕ) (h : Header × Depth) → header_line bytes ≡ Ok (first, rest)
    → header_of cs (drop 10 first) ≡ Ok h → header_and_rest cs bytes ≡ Ok (h, rest)
lines_of cs bytes first rest h is said = rw is (rw said refl)

-- a header that is written is read
head_read : (cs : Colours) (w : ℕ) (name : List ℕ) (b : Depth) (g : Geometry) (rest : List ℕ)
    → Named cs name g.format b → (1 ≤ w) × (w ≤ 16384) → row_of w g.format b ≡ Ok g.width → IsTrue (is_good g)
    → header_and_rest cs (header_with w name g ++ rest) ≡ Ok ((header_for g, b), rest)
head_read cs w name b g rest called width bytes good =
    let s = small_of w g width good in
    lines_of cs (header_with w name g ++ rest) (lined w name g) rest (header_for g, b)
    (ap header_line (text_parts w name g rest) ∙ lined_read w name g rest called.lineless called.short s)
    (header_read cs w g.width g.height g.rate_num g.rate_den name g.format b s called bytes ((limits g good).bytes.1))

pub text_read : (g : Geometry) (frames : List (List ℕ)) → IsTrue (is_good g)
    → All (λ f. length f ≡ frame_bytes g) frames → parse (text g frames) ≡ Ok (header_for g, ends_after frames None)
text_read g frames good all = rw (head_read colours.Eight g.width (colour_name g.format) Bits8 g (flat_map frame frames)
    (named_plain g.format) (limits g good).width refl good)
    (ap (λ fs. Ok (header_for g, fs)) (frames_read (frame_bytes g) frames all))

-- ---- samples of 8 to 16 bits

abbrev may : Bool → Bool → ℕ → Bool
may deep halved w = not deep || ((w % 2 == 0) && (not halved || (w % 4 == 0)))

evenly : (halved : Bool) (w : ℕ) → may true halved w ≡ true → w % 2 ≡ 0
evenly halved w is = equal (w % 2) 0 (both (w % 2 == 0) (not halved || (w % 4 == 0)) is).0

by_four : (w : ℕ) → may true true w ≡ true → w % 4 ≡ 0
by_four w is = equal (w % 4) 0 (both (w % 2 == 0) (w % 4 == 0) is).1

-- the width that is written is one
width_by : (deep halved : Bool) (w : ℕ) → (1 ≤ w) × (w ≤ 16384) → may deep halved w ≡ true
    → (1 ≤ (if deep then w / 2 else w)) × ((if deep then w / 2 else w) ≤ 16384)
width_by false halved w width is = width
width_by true halved w width is = let even : w % 2 ≡ 0 = evenly halved w is in
    (omega (arith, width, even), omega (arith, width))

-- and is read as the row's bytes
row_by : (deep halved : Bool) (w : ℕ) → (1 ≤ w) × (w ≤ 16384) → may deep halved w ≡ true
    → (if deep then if nat_lt 8192 (if deep then w / 2 else w) then Err BadHeader
    else if halved && ((if deep then w / 2 else w) % 2 == 1) then Err OddWidth
    else Ok (2 * (if deep then w / 2 else w)) else Ok (if deep then w / 2 else w)) ≡ Ok w
row_by false halved w width is = refl
row_by true false w width is = let twice : 2 * (w / 2) ≡ w = omega (arith, evenly false w is) in
    let few : nat_lt 8192 (w / 2) ≡ false = untrue (nat_lt 8192 (w / 2))
    (λ far. absurd (omega (arith, ltb-true 8192 (w / 2) far, width))) in
    rw few (ap (λ k. Ok k) twice)
row_by true true w width is = let twice : 2 * (w / 2) ≡ w = omega (arith, evenly true w is) in
    let few : nat_lt 8192 (w / 2) ≡ false = untrue (nat_lt 8192 (w / 2))
    (λ far. absurd (omega (arith, ltb-true 8192 (w / 2) far, width))) in
    let whole : (w / 2 % 2 == 1) ≡ false = untrue (w / 2 % 2 == 1)
    (λ odd. absurd (omega (arith, equal (w / 2 % 2) 1 odd, by_four w is))) in
    rw few (rw whole (ap (λ k. Ok k) twice))

pub deep_read : (g : Geometry) (b : Depth) (frames : List (List ℕ)) → IsTrue (is_good g) → IsTrue (may_have g b)
    → All (λ f. length f ≡ frame_bytes g) frames
    → parse_deep (deep_text g b frames) ≡ Ok ((header_for g, b), ends_after frames None)
deep_read g b frames good may all =
    let width = (limits g good).width in
    rw (head_read colours.All (samples b g.width) (deep_name g.format b) b g (flat_map frame frames) (named g.format b)
    (width_by (is_deep b) (is_halved g.format) g.width width may)
    (row_by (is_deep b) (is_halved g.format) g.width width may) good)
    (ap (λ fs. Ok ((header_for g, b), fs)) (frames_read (frame_bytes g) frames all))
