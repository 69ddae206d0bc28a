-- How the files of a camera's stores are called.
use Rattle.std.specs.Prelude.{ℕ, ◌+◌, ◌-◌, ◌/◌, ◌%◌, Bool, ◌&&◌, ◌||◌, ◌==◌, List, [], ◌∷◌, ◌++◌, length, take, drop, codes, if◌then◌else◌}
use Rattle.std.specs.Char.{is_ascii_digit}
use Rattle.std.specs.List.{list_all}
use Rattle.std.specs.Str.{bytes_eq}

-- whether a path ends in these bytes
abbrev pub ends_in : List ℕ → List ℕ → Bool
ends_in end path = bytes_eq (drop (length path - length end) path) end

-- a path without `.loop` at its end, and that end, if it has it
abbrev pub without_ending : List ℕ → List ℕ
without_ending path = if ends_in (codes ".loop") path then take (length path - 5) path else path

abbrev pub ending : List ℕ → List ℕ
ending path = if ends_in (codes ".loop") path then codes ".loop" else []

-- a point and three digits
abbrev pub is_number : List ℕ → Bool
is_number bytes =
    bytes_eq (take 1 bytes) (codes ".") && length (drop 1 bytes) == 3 && list_all is_ascii_digit (drop 1 bytes)

-- a point and the three digits of a number below 1000
abbrev pub number_text : ℕ → List ℕ
number_text n = 46 ∷ (48 + n / 100 % 10) ∷ (48 + n / 10 % 10) ∷ (48 + n % 10) ∷ []

-- the path of the store of a number, of a camera that has several: `left.007.loop` for `left.loop`
abbrev pub numbered : List ℕ → ℕ → List ℕ
numbered path n = without_ending path ++ number_text n ++ ending path

-- whether bytes are these, a number and those
abbrev pub has_number_between : List ℕ → List ℕ → List ℕ → Bool
has_number_between before after other = bytes_eq (take (length before) other) before
    && is_number (take 4 (drop (length before) other))
    && bytes_eq (drop 4 (drop (length before) other)) after

-- whether a path is another one with a number
abbrev pub is_numbered : List ℕ → List ℕ → Bool
is_numbered path other = length other == length path + 4 && has_number_between (without_ending path) (ending path) other

-- whether two cameras with these paths could have one file
abbrev pub share_file : List ℕ → List ℕ → Bool
share_file path other = bytes_eq path other || is_numbered path other || is_numbered other path
