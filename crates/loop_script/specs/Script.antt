-- What the lines of a script mean.
use Rattle.std.specs.Prelude.{ℕ, ◌^◌, ◌==◌, Bool, ◌&&◌, nat_le, nat_lt, List, [], ◌∷◌, length, Option, Some, None, option_map, if◌then◌else◌, codes}
use Rattle.std.specs.Option.{option_zip}
use Rattle.std.specs.List.{list_all, slice_split, before_first, after_first}
use Rattle.std.specs.Char.{is_ascii_digit}
use Rattle.std.specs.Str.{bytes_eq}
use Rattle.std.specs.Str.Parse.{digits_value}
use denote.Ref.{Bor}
use Rattle.loop_script.specs.declared.command.ScriptCommand.{ScriptCommand}
use Rattle.loop_script.specs.declared.command.ScriptCommand.TheVariants.{Format, FormatV1, Store, Submit, Flush, Read, Lock, Unlock, List as ListAll, Upgrade, Reopen}
use Rattle.loop_record.specs.declared.clip.Span.{Span}
use Rattle.loop_record.specs.declared.geometry.Geometry.{Geometry}
use Rattle.loop_record.specs.declared.geometry.PixelFormat.{PixelFormat}
use Rattle.loop_record.specs.Geometry.{format_named}

-- 1 to 20 decimal digits
abbrev pub is_numeral : List ℕ → Bool
is_numeral word = nat_le 1 (length word) && nat_le (length word) 20 && list_all is_ascii_digit word

-- the number that a numeral writes, where it is below the limit
abbrev pub number_below : ℕ → List ℕ → Option ℕ
number_below limit word =
    if is_numeral word && nat_lt (digits_value 10 word) limit then Some (digits_value 10 word) else None

-- a number of 64 bits
abbrev pub number : List ℕ → Option ℕ
number word = number_below (2 ^ 64) word

-- a number of 32 bits
abbrev pub small_number : List ℕ → Option ℕ
small_number word = number_below (2 ^ 32) word

-- the words of a line: its parts between single spaces
abbrev pub words : List ℕ → List (List ℕ)
words line = slice_split (λ b. b == 32) line

-- the words of what follows a space, if there is one
abbrev pub words_after : Option (Bor (List ℕ)) → List (List ℕ)
words_after None = []
words_after (Some rest) = words rest.now

-- a rate: the numbers before and after the colon
abbrev pub rate_said : List ℕ → Option (ℕ × ℕ)
rate_said word =
    option_zip (small_number (before_first (λ b. b == 58) word)) (small_number (after_first (λ b. b == 58) word))

-- the geometry of these parts, if each of them is there
abbrev pub geometry_of
    : Option ℕ → Option ℕ → Option PixelFormat → Option (ℕ × ℕ) → Option ℕ → Option ℕ → Option Geometry
geometry_of (Some width) (Some height) (Some format) (Some rate) (Some segments) (Some slots) = Some (record {
  width = width;
  height = height;
  format = format;
  rate_num = rate.0;
  rate_den = rate.1;
  segments = segments;
  slots = slots;
})
geometry_of _ _ _ _ _ _ = None

-- the geometry that six words name: width, height, pixel format, rate, segments, slots
abbrev pub geometry_said : List (List ℕ) → Option Geometry
geometry_said (width ∷ height ∷ format ∷ rate ∷ segments ∷ slots ∷ []) =
    geometry_of (small_number width) (small_number height) (format_named format) (rate_said rate)
    (small_number segments) (small_number slots)
geometry_said _ = None

-- the span of these parts, if each of them is there
abbrev pub span_of : Option ℕ → Option ℕ → Option ℕ → Option Span
span_of (Some from) (Some to) (Some tag) = Some (record { from = from; to = to; tag = tag })
span_of _ _ _ = None

-- the span that words name: its first and its last number, and a tag, which is 0 where it is left out
abbrev pub span_said : List (List ℕ) → Option Span
span_said (from ∷ to ∷ []) = span_of (number from) (number to) (Some 0)
span_said (from ∷ to ∷ tag ∷ []) = span_of (number from) (number to) (number tag)
span_said _ = None

-- what a name and one word, a number, ask for
abbrev pub counted_said : List ℕ → List (List ℕ) → Option ScriptCommand
counted_said name (argument ∷ []) =
    if bytes_eq name (codes "store") then option_map Store (number argument)
    else if bytes_eq name (codes "submit") then option_map Submit (number argument)
    else if bytes_eq name (codes "read") then option_map Read (number argument)
    else if bytes_eq name (codes "unlock") then option_map Unlock (small_number argument)
    else if bytes_eq name (codes "reopen") then option_map Reopen (small_number argument) else None
counted_said name _ = None

-- what a name alone asks for
abbrev pub named_said : List ℕ → Option ScriptCommand
named_said name =
    if bytes_eq name (codes "list") then Some ListAll
    else if bytes_eq name (codes "reopen") then Some (Reopen 1)
    else if bytes_eq name (codes "flush") then Some Flush
    else if bytes_eq name (codes "upgrade") then Some Upgrade else None

-- what a name and the words after it ask for
abbrev pub arguments_said : List ℕ → List (List ℕ) → Option ScriptCommand
arguments_said name more =
    if bytes_eq name (codes "format") then option_map Format (geometry_said more)
    else if bytes_eq name (codes "format1") then option_map FormatV1 (geometry_said more)
    else if bytes_eq name (codes "lock") then option_map Lock (span_said more) else counted_said name more

-- what the words of a line ask for, if they can be read
abbrev pub said : List (List ℕ) → Option ScriptCommand
said [] = None
said (name ∷ []) = named_said name
said (name ∷ argument ∷ more) = arguments_said name (argument ∷ more)
