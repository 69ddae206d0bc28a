-- Three bytes, each on the disk before the next is written.
use Rattle.std.specs.Prelude.{◌⊎◌, ℕ, ◌+◌, List, [], ◌∷◌}
use Rattle.loop_disk.specs.Medium.{with_bytes_at, SameOutside}
use Rattle.loop_disk.specs.Steps.{TornInTurn}

-- the image with one of them after the other
abbrev pub three_bytes : ℕ → ℕ → ℕ → ℕ → List ℕ → List ℕ
three_bytes at x y z old =
    with_bytes_at (at + 2) (z ∷ []) (with_bytes_at (at + 1) (y ∷ []) (with_bytes_at at (x ∷ []) old))

-- one of the three places may hold anything; those before it hold what was written, and all else is as it was
abbrev pub TornOfThree : ℕ → ℕ → ℕ → List ℕ → List ℕ → Type 0
TornOfThree at x y old c =
    TornInTurn at (x ∷ []) (at + 1) 1 old c
    ⊎ SameOutside (at + 2) 1 (with_bytes_at (at + 1) (y ∷ []) (with_bytes_at at (x ∷ []) old)) c
