-- Rows of bytes, one after the other.
use Rattle.std.specs.Prelude.{ℕ, List, flat_map}
use Rattle.std.specs.Borrow.{Bor}

-- the bytes of all rows
abbrev pub joined : List (Bor (List ℕ)) → List ℕ
joined rows = flat_map (λ row. row.now) rows
