-- A read that is tried again after reads that failed and took nothing.
use Rattle.std.proofs.Common.{ℕ, Option, Some, None, List, ◌∙◌, sym}
use Rattle.std.specs.Io.KnownBytes.{Consumes, Keeps}

-- what was kept, and kept again
pub still_there : (old now new : Option (List ℕ)) → Keeps old now → Keeps now new → Keeps old new
still_there None now new first then = tt
still_there (Some xs) None new first then = absurd first
still_there (Some xs) (Some ys) None first then = absurd then
still_there (Some xs) (Some ys) (Some zs) first then = then ∙ first

-- what was kept is read from
pub still_read : (old now new : Option (List ℕ)) (bs : List ℕ) → Keeps old now → Consumes now new bs
    → Consumes old new bs
still_read None now new bs first then = tt
still_read (Some xs) None new bs first then = absurd first
still_read (Some xs) (Some ys) None bs first then = absurd then
still_read (Some xs) (Some ys) (Some zs) bs first then = rw (sym first) then
