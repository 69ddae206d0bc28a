-- How a stream's header line is read: its parameters from left to right. Which colours are read is a parameter.
use Rattle.std.specs.Prelude.{ℕ, Bool, true, false, ◌&&◌, ◌||◌, ◌==◌, ◌*◌, ◌%◌, nat_lt, nat_le, if◌then◌else◌, Option, Some, None, Result, Ok, Err, List, [], ◌∷◌, length, codes, bytes_eq, option_map, option_and_then, ok_or, sum}
use Rattle.std.specs.List.{before_first, after_first, slice_split}
use Rattle.std.specs.Str.{all_ascii_digits}
use Rattle.std.specs.Str.Parse.{digits_value}
use Rattle.loop_record.specs.declared.geometry.Geometry.{Geometry}
use Rattle.loop_record.specs.declared.geometry.PixelFormat.{PixelFormat}
use Rattle.loop_record.specs.declared.geometry.PixelFormat.TheVariants.{Grey, Ym12, Ym16, Ym24}
use Rattle.loop_record.specs.Geometry.{is_good, plane_sizes}
use Rattle.loop_y4m.specs.declared.fault.GeometryFault.{GeometryFault}
use Rattle.loop_y4m.specs.declared.fault.GeometryFault.TheVariants.{RateUnknown, BadGeometry}
use Rattle.loop_y4m.specs.declared.fault.Y4mFault.{Y4mFault}
use Rattle.loop_y4m.specs.declared.fault.Y4mFault.TheVariants.{BadHeader, OddWidth, UnsupportedColour, UnsupportedInterlace}
use Rattle.loop_y4m.specs.declared.depth.Colours.{Colours}
use Rattle.loop_y4m.specs.declared.depth.Colours.TheVariants.{All, Eight}
use Rattle.loop_y4m.specs.declared.depth.Depth.{Depth}
use Rattle.loop_y4m.specs.declared.depth.Depth.TheVariants.{Bits8}
use Rattle.loop_y4m.specs.Depths.{deep_colour, is_deep}
use Rattle.loop_y4m.specs.declared.header.Header.{Header}
use Rattle.loop_y4m.specs.declared.header.Parameters.{Parameters}

-- ---- the words of a parameter

-- a decimal number of at most this value, with any number of digits
abbrev pub number_at_most : ℕ → List ℕ → Option ℕ
number_at_most most text = if nat_lt 0 (length text) && all_ascii_digits text && nat_le (digits_value 10 text) most
    then Some (digits_value 10 text) else None

-- a width or a height: 1 to 16,384
abbrev pub side : List ℕ → Option ℕ
side text = option_and_then (λ n. if n == 0 then None else Some n) (number_at_most 16384 text)

abbrev pub is_colon : ℕ → Bool
is_colon b = b == 58

-- a rate: two numbers of 32 bits with a colon between them
abbrev pub rate : List ℕ → Option (ℕ × ℕ)
rate text = option_and_then (λ n. option_map (λ d. (n, d)) (number_at_most 4294967295 (after_first is_colon text)))
    (number_at_most 4294967295 (before_first is_colon text))

-- chroma halved in both directions, wherever its samples lie
abbrev pub is_420 : List ℕ → Bool
is_420 text = bytes_eq text (codes "420") || bytes_eq text (codes "420jpeg") || bytes_eq text (codes "420mpeg2")
    || bytes_eq text (codes "420paldv")

-- the planar formats of 8 bits a sample
abbrev pub colour : List ℕ → Option PixelFormat
colour text = if bytes_eq text (codes "mono") then Some Grey
    else if is_420 text then Some Ym12
    else if bytes_eq text (codes "422") then Some Ym16
    else if bytes_eq text (codes "444") then Some Ym24 else None

-- an 8-bit format, or else what comes of the other colours
abbrev pub or_deep : Option PixelFormat → Option (PixelFormat × Depth) → Option (PixelFormat × Depth)
or_deep (Some f) other = Some (f, Bits8)
or_deep None other = other

-- the list of colours: those of 8 bits a sample, or all
abbrev pub colour_by : Colours → List ℕ → Option (PixelFormat × Depth)
colour_by Eight text = or_deep (colour text) None
colour_by All text = or_deep (colour text) (deep_colour text)

-- ---- the parameters

-- an Ok continues, a fault stays
abbrev pub and_then : {A B : Type 0} → Result A Y4mFault → (A → Result B Y4mFault) → Result B Y4mFault
and_then (Ok x) f = f x
and_then (Err fault) f = Err fault

-- nothing is given yet
abbrev pub nothing_given : Parameters
nothing_given =
    record { width = None; height = None; rate_num = 0; rate_den = 0; format = Ym12; depth = Bits8 }

-- progressive frames, or unknown ones; interlaced and mixed frames aren't supported
abbrev pub interlace : List ℕ → Result (Unit {0}) Y4mFault
interlace text = if bytes_eq text (codes "p") || bytes_eq text (codes "?") then Ok tt
    else if bytes_eq text (codes "t") || bytes_eq text (codes "b") || bytes_eq text (codes "m")
    then Err UnsupportedInterlace
    else Err BadHeader

-- what was given, and one more parameter: W, H, F, I or C; another letter, or an empty parameter, changes nothing
abbrev pub with_parameter : Colours → Parameters → List ℕ → Result Parameters Y4mFault
with_parameter colours p [] = Ok p
with_parameter colours p (letter ∷ text) =
    if letter == 87 then ok_or (option_map (λ n. record p { width = Some n }) (side text)) BadHeader
    else if letter == 72 then ok_or (option_map (λ n. record p { height = Some n }) (side text)) BadHeader
    else if letter == 70 then ok_or
    (option_map (λ r. record p { rate_num = r.0; rate_den = r.1 }) (rate text)) BadHeader
    else if letter == 73 then and_then (interlace text) (λ _. Ok p)
    else if letter == 67 then ok_or
    (option_map (λ c. record p { format = c.0; depth = c.1 }) (colour_by colours text)) UnsupportedColour
    else Ok p

-- the words between spaces
abbrev pub header_words : List ℕ → List (List ℕ)
header_words text = slice_split (λ b. b == 32) text

-- all parameters, from left to right
abbrev pub with_parameters : Colours → Parameters → List (List ℕ) → Result Parameters Y4mFault
with_parameters colours p [] = Ok p
with_parameters colours p (w ∷ ws) = and_then (with_parameter colours p w) (λ q. with_parameters colours q ws)

-- ---- the header

-- the bytes of a frame
abbrev pub size_of_frame : Header → ℕ
size_of_frame h = sum (plane_sizes h.format h.width h.height)

-- a header whose frames have at most 16,777,216 bytes
abbrev pub not_too_large : Header → Result Header Y4mFault
not_too_large h = if nat_le (size_of_frame h) 16777216 then Ok h else Err BadHeader

-- chroma halved in a row's direction
abbrev pub is_halved : PixelFormat → Bool
is_halved Grey = false
is_halved Ym12 = true
is_halved Ym16 = true
is_halved Ym24 = false

-- The width that a frame is recorded with: of samples of two bytes twice their count in a row, 16,384 at most.
abbrev pub row_of : ℕ → PixelFormat → Depth → Result ℕ Y4mFault
row_of w f d = if is_deep d then if nat_lt 8192 w then Err BadHeader
    else if is_halved f && (w % 2 == 1) then Err OddWidth else Ok (2 * w)
    else Ok w

-- so many bytes in a row
abbrev pub with_row : ℕ → ℕ → Parameters → Result (Header × Depth) Y4mFault
with_row w h p = and_then
    (not_too_large (record { format = p.format; width = w; height = h; rate_num = p.rate_num; rate_den = p.rate_den }))
    (λ header. Ok (header, p.depth))

-- a width and a height are given
abbrev pub complete : Option ℕ → Option ℕ → Parameters → Result (Header × Depth) Y4mFault
complete None height p = Err BadHeader
complete (Some w) None p = Err BadHeader
complete (Some w) (Some h) p = and_then (row_of w p.format p.depth) (λ row. with_row row h p)

-- what a header line says after its `YUV4MPEG2` and a space
abbrev pub header_of : Colours → List ℕ → Result (Header × Depth) Y4mFault
header_of colours text =
    and_then (with_parameters colours nothing_given (header_words text)) (λ p. complete p.width p.height p)

-- ---- a store for the frames

-- the geometry with a header's format, size and rate, and so many segments and slots
abbrev pub ring_for : Header → ℕ → ℕ → Geometry
ring_for h segments slots = record {
  width = h.width;
  height = h.height;
  format = h.format;
  rate_num = h.rate_num;
  rate_den = h.rate_den;
  segments = segments;
  slots = slots;
}

-- that geometry, where there is a rate, of which no part is 0, and every limit holds
abbrev pub geometry_for : Header → ℕ → ℕ → Result Geometry GeometryFault
geometry_for h segments slots = if h.rate_num == 0 || h.rate_den == 0 then Err RateUnknown
    else if is_good (ring_for h segments slots) then Ok (ring_for h segments slots) else Err BadGeometry
