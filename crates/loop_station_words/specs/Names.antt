-- How a camera may be named.
use Rattle.std.specs.Prelude.{ℕ, Bool, not, ◌==◌, ◌&&◌, ◌||◌, nat_le, List, length, Option, Some, None, if◌then◌else◌}
use Rattle.std.specs.Char.{is_ascii_alphanumeric, is_ascii_digit}
use Rattle.std.specs.List.{list_all}

-- a letter, a digit, `-` or `_`
abbrev pub is_name_byte : ℕ → Bool
is_name_byte b = is_ascii_alphanumeric b || b == 45 || b == 95

-- 1 to 32 of these bytes, not all of them digits
abbrev pub is_name : List ℕ → Bool
is_name word = nat_le 1 (length word) && nat_le (length word) 32 && list_all is_name_byte word
    && not (list_all is_ascii_digit word)

-- 1 to 32 of these bytes
abbrev pub is_label : List ℕ → Bool
is_label word = nat_le 1 (length word) && nat_le (length word) 32 && list_all is_name_byte word

-- the name that a word is, if it is one
abbrev pub named : List ℕ → Option (List ℕ)
named word = if is_name word then Some word else None
