-- Which saves are tried again, and when.
use Rattle.std.specs.Prelude.{◌≡◌, ◌≤◌, ℕ, ◌==◌, ◌&&◌, Bool, List, Option, Some, None, nat_le, remove, slice_get, ◌≢◌, ◌+◌, length}
use Rattle.std.specs.List.{position}
use Rattle.loop_station_core.specs.declared.retries.Retry.{Retry}

-- its time has come
abbrev pub retry_is_due : ℕ → Retry → Bool
retry_is_due now r = nat_le r.at now

-- it reads the clip of an id
abbrev pub reads_clip : ℕ → ℕ → Retry → Bool
reads_clip camera id r = (r.key.camera == camera) && (r.key.id == id)

-- the first that passes is taken out, and which of them it was
abbrev pub taken : (Retry → Bool) → List Retry → List Retry × Option ℕ
taken p rs = elim (position p rs) [
  | None ↦ (rs, None)
  | Some i ↦ (remove rs i, Some i)
]

-- A save is tried again only once its time has come.
abbrev pub RetriesAreDue : Type 0
RetriesAreDue = (retries : List Retry) (now i : ℕ) (r : Retry) → (taken (retry_is_due now) retries).1 ≡ Some i
    → slice_get retries i ≡ Some r → r.at ≤ now

-- A cancel takes out a save of the clip that it means, and none else; and where it takes out none, no save of that clip
-- is to be tried again.
abbrev pub CancelsMeanTheirClip : Type 0
CancelsMeanTheirClip = (retries : List Retry) (camera id i : ℕ) (r : Retry) → slice_get retries i ≡ Some r
    → ((taken (reads_clip camera id) retries).1 ≡ Some i → (r.key.camera ≡ camera) × (r.key.id ≡ id))
    × ((taken (reads_clip camera id) retries).1 ≡ None → r.key.camera ≡ camera → r.key.id ≡ id → ⊥)

-- One whose time has come is taken out, or another one is; and what is taken out isn't there any more.
abbrev pub DueRetriesAreTaken : Type 0
DueRetriesAreTaken = (retries : List Retry) (now i : ℕ) (r : Retry) → slice_get retries i ≡ Some r → r.at ≤ now
    → let after = taken (retry_is_due now) retries in (after.1 ≢ None) × (length after.0 + 1 ≡ length retries)
