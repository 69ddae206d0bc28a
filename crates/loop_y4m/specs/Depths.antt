-- How many bits a sample has, and how the colours of more than 8 are named.
use Rattle.std.specs.Prelude.{ℕ, Bool, true, false, ◌==◌, if◌then◌else◌, Option, None, Some, List, codes, bytes_eq, drop, take, option_and_then, option_map}
use Rattle.loop_record.specs.declared.geometry.PixelFormat.{PixelFormat}
use Rattle.loop_record.specs.declared.geometry.PixelFormat.TheVariants.{Grey, Ym12, Ym16, Ym24}
use Rattle.loop_y4m.specs.declared.depth.Depth.{Depth}
use Rattle.loop_y4m.specs.declared.depth.Depth.TheVariants.{Bits8, Bits9, Bits10, Bits12, Bits14, Bits16}

abbrev pub bits : Depth → ℕ
bits Bits8 = 8
bits Bits9 = 9
bits Bits10 = 10
bits Bits12 = 12
bits Bits14 = 14
bits Bits16 = 16

-- the depth of so many bits
abbrev pub depth_of : ℕ → Option Depth
depth_of n = if n == 8 then Some Bits8
    else if n == 9 then Some Bits9
    else if n == 10 then Some Bits10
    else if n == 12 then Some Bits12
    else if n == 14 then Some Bits14
    else if n == 16 then Some Bits16 else None

-- a sample has two bytes
abbrev pub is_deep : Depth → Bool
is_deep Bits8 = false
is_deep _ = true

-- ---- names: four letters, and then the bits

abbrev pub stem : PixelFormat → List ℕ
stem Grey = codes "mono"
stem Ym12 = codes "420p"
stem Ym16 = codes "422p"
stem Ym24 = codes "444p"

abbrev pub digits : Depth → List ℕ
digits Bits8 = codes "8"
digits Bits9 = codes "9"
digits Bits10 = codes "10"
digits Bits12 = codes "12"
digits Bits14 = codes "14"
digits Bits16 = codes "16"

abbrev pub format_of : List ℕ → Option PixelFormat
format_of text = if bytes_eq text (codes "mono") then Some Grey
    else if bytes_eq text (codes "420p") then Some Ym12
    else if bytes_eq text (codes "422p") then Some Ym16
    else if bytes_eq text (codes "444p") then Some Ym24 else None

-- two bytes a sample: 9, 10, 12, 14 or 16 bits
abbrev pub deep_of : List ℕ → Option Depth
deep_of text = if bytes_eq text (codes "9") then Some Bits9
    else if bytes_eq text (codes "10") then Some Bits10
    else if bytes_eq text (codes "12") then Some Bits12
    else if bytes_eq text (codes "14") then Some Bits14
    else if bytes_eq text (codes "16") then Some Bits16 else None

abbrev pub deep_colour : List ℕ → Option (PixelFormat × Depth)
deep_colour text =
    option_and_then (λ f. option_map (λ d. (f, d)) (deep_of (drop 4 text))) (format_of (take 4 text))
