-- Memory for the frames of a group, as far as private contracts speak of it.
use Rattle.std.specs.Prelude.{◌≡◌, ℕ, ◌*◌, ◌≤◌, [], All, Vec, vec_len}
use Rattle.std.specs.Vec.{vec_capacity}
use Rattle.lapyrei.specs.declared.memory.GroupMemory.{GroupMemory}

-- nothing is in it, and there is room for so many
abbrev pub IsSpare : {T A : Type 0} → ℕ → Vec T A → Type 0
IsSpare size v = (v.items ≡ []) × ((vec_len v ≡ 0) × (size ≤ vec_capacity v))

-- so many, each with room for so many bytes
abbrev pub AreSpare : {T A B : Type 0} → ℕ → ℕ → Vec (Vec T A) B → Type 0
AreSpare count size spare = (vec_len spare ≡ count) × All (IsSpare size) spare.items

-- memory for so many frames of so many bytes
pub record HasGroupRoom (count size : ℕ) (memory : GroupMemory) : Type 0 where
  pub frames : IsSpare count memory.frames
  pub spare : AreSpare count size memory.spare

-- memory for each group of so many frames that have so many bytes together
abbrev pub IsEnough : ℕ → ℕ → GroupMemory → Type 0
IsEnough frames bytes memory =
    (size : ℕ) → 1 ≤ frames → frames ≤ 64 → bytes ≡ frames * size → HasGroupRoom frames size memory
