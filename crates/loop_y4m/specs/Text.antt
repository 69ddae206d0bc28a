-- The text that is written.
use Rattle.std.specs.Prelude.{◌≡◌, ℕ, ◌/◌, ◌%◌, ◌&&◌, ◌||◌, ◌==◌, not, Bool, if◌then◌else◌, List, [], ◌∷◌, ◌++◌, flat_map, codes, decimal, Option, Result, Ok, Err}
use Rattle.std.specs.Io.KnownBytes.{Appends}
use Rattle.loop_record.specs.declared.geometry.Geometry.{Geometry}
use Rattle.loop_record.specs.declared.geometry.PixelFormat.{PixelFormat}
use Rattle.loop_y4m.specs.declared.depth.Depth.{Depth}
use Rattle.loop_y4m.specs.declared.header.Header.{Header}
use Rattle.loop_y4m.specs.Depths.{digits, is_deep, stem}
use Rattle.loop_y4m.specs.Header.{is_halved}
use Rattle.loop_record.specs.declared.geometry.PixelFormat.TheVariants.{Grey, Ym12, Ym16, Ym24}

-- the name of a format
abbrev pub colour_name : PixelFormat → List ℕ
colour_name Grey = codes "mono"
colour_name Ym12 = codes "420jpeg"
colour_name Ym16 = codes "422"
colour_name Ym24 = codes "444"

-- a header's line: this width and colour, progressive frames of unknown aspect
abbrev pub header_with : ℕ → List ℕ → Geometry → List ℕ
header_with width name g = codes "YUV4MPEG2 W" ++ decimal width ++ codes " H" ++ decimal g.height
    ++ codes " F" ++ decimal g.rate_num ++ codes ":" ++ decimal g.rate_den
    ++ codes " Ip A0:0 C" ++ name ++ 10 ∷ []

-- the header's line
abbrev pub header : Geometry → List ℕ
header g = header_with g.width (colour_name g.format) g

-- a frame: its line, and its bytes
abbrev pub frame : List ℕ → List ℕ
frame bytes = codes "FRAME" ++ 10 ∷ bytes

-- the header, and each frame
abbrev pub text : Geometry → List (List ℕ) → List ℕ
text g frames = header g ++ flat_map frame frames

-- ---- samples of 8 to 16 bits

-- the samples of a row that has so many bytes
abbrev pub samples : Depth → ℕ → ℕ
samples d width = if is_deep d then width / 2 else width

abbrev pub deep_name : PixelFormat → Depth → List ℕ
deep_name f d = if is_deep d then stem f ++ digits d else colour_name f

-- Frames of this geometry may have such samples: in two bytes, each row of each plane has whole ones.
abbrev pub may_have : Geometry → Depth → Bool
may_have g d = not (is_deep d) || ((g.width % 2 == 0) && (not (is_halved g.format) || (g.width % 4 == 0)))

-- the header's line of frames of such samples, and each frame
abbrev pub deep_header : Geometry → Depth → List ℕ
deep_header g d = header_with (samples d g.width) (deep_name g.format d) g

abbrev pub deep_text : Geometry → Depth → List (List ℕ) → List ℕ
deep_text g d frames = deep_header g d ++ flat_map frame frames

-- the format, size and rate of a geometry
abbrev pub header_for : Geometry → Header
header_for g =
    record { format = g.format; width = g.width; height = g.height; rate_num = g.rate_num; rate_den = g.rate_den }

-- the writer was given a prefix of these bytes
abbrev pub AppendsSome : Option (List ℕ) → Option (List ℕ) → List ℕ → Type 0
AppendsSome old new bytes = (given : List ℕ) × (rest : List ℕ) × (bytes ≡ given ++ rest) × Appends old new given

-- what the writer was given: the whole text at Ok, a prefix of it at a fault
abbrev pub Wrote : {E : Type 0} → Option (List ℕ) → Option (List ℕ) → Result (Unit {0}) E → List ℕ → Type 0
Wrote old new (Ok done) bytes = Appends old new bytes
Wrote old new (Err fault) bytes = AppendsSome old new bytes
