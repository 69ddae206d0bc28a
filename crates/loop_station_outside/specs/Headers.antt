-- The headers of streams among bytes.
use Rattle.std.specs.Prelude.{ℕ, ◌+◌, List, [], ◌∷◌, length}
use Rattle.memchr.specs.Find.{Nowhere, OccursAt}

-- how a header begins: `YUV4MPEG2` and a space
abbrev pub magic : List ℕ
magic = 89 ∷ 85 ∷ 86 ∷ 52 ∷ 77 ∷ 80 ∷ 69 ∷ 71 ∷ 50 ∷ 32 ∷ []

-- no header begins among bytes
abbrev pub HasNoHeader : List ℕ → Type 0
HasNoHeader bytes = Nowhere (OccursAt bytes magic) 0 (length bytes + 1)
