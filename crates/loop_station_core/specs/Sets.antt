-- What a camera's several stores are together.
use Rattle.std.specs.Prelude.{◌≡◌, ◌<◌, ◌≤◌, ℕ, ◌+◌, ◌*◌, ◌-◌, ◌%◌, ◌/◌, ◌^◌, min}

-- the id by which users know a clip: that of its store, and 64 times the store's number
abbrev pub clip_id : ℕ → ℕ → ℕ
clip_id store id = store * 64 + id

-- the number of the store of a clip
abbrev pub store_of : ℕ → ℕ
store_of id = id / 64

-- how many frames a store holds, of which it had some at an earlier next number: all that came since, and no more than
-- all segments but the newest one's free slots
abbrev pub frames_held_since : ℕ → ℕ → ℕ → ℕ → ℕ → ℕ
frames_held_since segments slots held began next =
    min ((segments - 1) * slots + ((next + (slots - 1)) % slots + 1)) (next - began + held)

-- Of two clips of a camera with one id, both are in one store, and are the same there.
abbrev pub ClipsHaveTheirOwnIds : Type 0
ClipsHaveTheirOwnIds = (store id other there : ℕ) → id < 64 → there < 64
    → clip_id store id ≡ clip_id other there → (store ≡ other) × (id ≡ there)

-- The clips of a camera's first store have the ids that they have in their file, and no id of a camera with 256 stores
-- is the one that stands for too great a number.
abbrev pub IdsAreThoseOfTheFile : Type 0
IdsAreThoseOfTheFile = (store id : ℕ) → store < 256 → id < 64 → (clip_id 0 id ≡ id) × (clip_id store id < 2 ^ 32 - 1)

-- A store holds no more frames than it held and have come since, and no more than have room. It holds all of them as
-- long as they fit into all of its segments but the newest.
abbrev pub StoresHoldWhatCame : Type 0
StoresHoldWhatCame = (segments slots held began next : ℕ) → 1 ≤ segments → 1 ≤ slots
    → let holds = frames_held_since segments slots held began next in
    (holds ≤ held + (next - began)) × (holds ≤ segments * slots)
    × (held + (next - began) ≤ (segments - 1) * slots → holds ≡ held + (next - began))
