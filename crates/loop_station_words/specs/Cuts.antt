-- Texts that are cut at a byte.
use Rattle.std.specs.Prelude.{ℕ, ◌==◌, List, Option, Some, None, if◌then◌else◌}
use Rattle.std.specs.List.{list_any, before_first, after_first}

-- the text before and after the first such byte, where there is one
unfoldable pub cut : ℕ → List ℕ → Option (List ℕ × List ℕ)
cut byte text =
    if list_any (λ b. b == byte) text then Some (before_first (λ b. b == byte) text, after_first (λ b. b == byte) text)
    else None
