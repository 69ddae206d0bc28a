-- What the value at a key of the configuration file means.
use Rattle.std.specs.Prelude.{◌≡◌, ◌≢◌, ℕ, pos, ◌*◌, ◌-◌, ◌^◌, min, Bool, ◌&&◌, nat_le, List, ◌∷◌, Option, Some, None, option_map, option_and_then, if◌then◌else◌, codes}
use Rattle.std.specs.Float.Ieee as Ieee
use Rattle.std.specs.Float.{Float, binary64, ceil, float_to_unsigned, float_zero}
use Rattle.std.specs.Int.{w64}
use Rattle.std.specs.Str.{bytes_eq}
use Rattle.toml.specs.Data.{Data, string, integer, float, boolean}
use Rattle.loop_script.specs.Script.{number}
use Rattle.loop_station_words.specs.declared.choices.AnswersForm.{AnswersForm}
use Rattle.loop_station_words.specs.declared.choices.AnswersForm.TheVariants.{Json, Text}
use Rattle.loop_station_words.specs.declared.choices.LossesFrom.{LossesFrom}
use Rattle.loop_station_words.specs.declared.choices.LossesFrom.TheVariants.{Either, Nothing, Numbers, Times}
use Rattle.loop_station_words.specs.declared.choices.MemoryLimit.{MemoryLimit}
use Rattle.loop_station_words.specs.declared.choices.MemoryLimit.TheVariants.{Bytes, Seconds}
use Rattle.loop_station_words.specs.declared.choices.StoreSize.{StoreSize}
use Rattle.loop_station_words.specs.declared.choices.StoreSize.TheVariants.{Bytes as RoomBytes, Seconds as RoomSeconds}
use Rattle.loop_station_words.specs.declared.choices.TimesFrom.{TimesFrom}
use Rattle.loop_station_words.specs.declared.choices.TimesFrom.TheVariants.{Arrival, Source as FromSource}
use Rattle.loop_station_words.specs.declared.shape.FrameShape.{FrameShape}
use Rattle.loop_station_words.specs.Cuts.{cut}
use Rattle.loop_station_words.specs.Shapes.{shape_said}

-- a text that isn't empty
abbrev pub text_of : Option Data → Option (List ℕ)
text_of (Some (string (byte ∷ bytes))) = Some (byte ∷ bytes)
text_of _ = None

-- a path, if there is one: a text that isn't empty
abbrev pub path_of : Option Data → Option (Option (List ℕ))
path_of None = Some None
path_of (Some (string (byte ∷ bytes))) = Some (Some (byte ∷ bytes))
path_of _ = None

-- the form of answers: `text`, which is the usual one where the key is missing, or `json`
abbrev pub form_of : Option Data → Option AnswersForm
form_of None = Some Text
form_of (Some (string form)) =
    if bytes_eq form (codes "text") then Some Text else if bytes_eq form (codes "json") then Some Json else None
form_of _ = None

-- where the times of frames come from: `arrival`, which is the usual one where the key is missing, or `source`
abbrev pub times_of : Option Data → Option TimesFrom
times_of None = Some Arrival
times_of (Some (string from)) = if bytes_eq from (codes "arrival") then Some Arrival
    else if bytes_eq from (codes "source") then Some FromSource else None
times_of _ = None

-- how lost frames are known: `numbers`, `times` or `none`; where the key is missing, by either of the first two
abbrev pub losses_of : Option Data → Option LossesFrom
losses_of None = Some Either
losses_of (Some (string from)) = if bytes_eq from (codes "numbers") then Some Numbers
    else if bytes_eq from (codes "times") then Some Times
    else if bytes_eq from (codes "none") then Some Nothing else None
losses_of _ = None

-- `true` or `false`, or the other value where the key is missing
abbrev pub truth_of : Bool → Option Data → Option Bool
truth_of other None = Some other
truth_of other (Some (boolean said)) = Some said
truth_of other _ = None

-- a whole number from 0 to the most, or the other number where the key is missing
abbrev pub number_or : ℕ → ℕ → Option Data → Option ℕ
number_or other most None = Some other
number_or other most (Some (integer (pos n))) = if nat_le n most then Some n else None
number_or other most _ = None

-- a number above 0
abbrev pub positive : ℕ → Option ℕ
positive n = if nat_le 1 n then Some n else None

-- a whole number above 0
abbrev pub bytes_of : Data → Option ℕ
bytes_of (integer (pos n)) = positive n
bytes_of _ = None

-- the seconds that a text such as `4 s` says, cut at its space
abbrev pub duration_cut : Option (List ℕ × List ℕ) → Option ℕ
duration_cut None = None
duration_cut (Some parts) = if bytes_eq parts.1 (codes "s") then option_and_then positive (number parts.0) else None

-- the limit of the memory, if the key is there: bytes, or a text such as `4 s`
abbrev pub memory_of : Option Data → Option (Option MemoryLimit)
memory_of None = Some None
memory_of (Some (integer (pos n))) = option_map (λ bytes. Some (Bytes bytes)) (positive n)
memory_of (Some (string text)) = option_map (λ seconds. Some (Seconds seconds)) (duration_cut (cut 32 text))
memory_of _ = None

-- a whole number as a float
abbrev pub whole_float : ℕ → Float
whole_float n = Ieee.of_int binary64 (pos n)

-- the seconds in a time that isn't a whole number of a unit of so many seconds, rounded up
unfoldable pub part_seconds : Float → Float → Option ℕ
part_seconds unit x =
    if Ieee.lt float_zero x && Ieee.lt x (whole_float (10 ^ 15))
    then Some (float_to_unsigned w64 (ceil binary64 (Ieee.mul binary64 x unit))) else None

-- the seconds in a time above 0 of a unit of so many seconds, at most what 64 bits hold
abbrev pub seconds_of : ℕ → Data → Option ℕ
seconds_of unit (integer (pos n)) = option_map (λ whole. min (whole * unit) (2 ^ 64 - 1)) (positive n)
seconds_of unit (float x) = part_seconds (whole_float unit) x
seconds_of unit _ = None

-- the room of a camera, by the values at `hours`, `minutes` and `bytes`: exactly one of them is there
abbrev pub room_of : Option Data → Option Data → Option Data → Option StoreSize
room_of (Some hours) None None = option_map RoomSeconds (seconds_of 3600 hours)
room_of None (Some minutes) None = option_map RoomSeconds (seconds_of 60 minutes)
room_of None None (Some bytes) = option_map RoomBytes (bytes_of bytes)
room_of _ _ _ = None

-- the text of the pattern's shape, which is the usual one where the key is missing
abbrev pub shape_text : Option Data → Option (List ℕ)
shape_text None = Some (codes "640x480 YM12 25:1")
shape_text (Some (string text)) = Some text
shape_text _ = None

-- the shape of the pattern
abbrev pub pattern_of : Option Data → Option FrameShape
pattern_of pattern = option_and_then shape_said (shape_text pattern)

-- the shape for a source: of the pattern, or none with a path; only contracts of private functions name it
abbrev pub SaysShape : List ℕ → Option Data → Option FrameShape → Type 0
SaysShape source pattern (Some shape) = (source ≡ codes "pattern") × (pattern_of pattern ≡ Some shape)
SaysShape source pattern None = (source ≢ codes "pattern") × (pattern ≡ None)
