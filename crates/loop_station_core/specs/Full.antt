-- Which clip is released where every block is locked.
use Rattle.std.specs.Prelude.{◌≡◌, ◌≤◌, ℕ, ◌==◌, ◌&&◌, Bool, true, false, not, List, [], ◌∷◌, Option, Some, None, slice_get, nat_le, nat_lt, ◌||◌, if◌then◌else◌}
use Rattle.loop_station_core.specs.declared.full.FullRule.{FullRule}
use Rattle.loop_station_core.specs.declared.full.FullRule.TheVariants.{Waits, OldestSaved, Oldest}
use Rattle.loop_station_core.specs.declared.full.LockedClip.{LockedClip}
use Rattle.loop_station_core.specs.declared.leave.ShownClip.{ShownClip}

-- a clip that no save reads, and that was saved whole, or has the tag
abbrev pub may_go : FullRule → LockedClip → Bool
may_go Waits clip = false
may_go OldestSaved clip = clip.saved && not clip.read
may_go (Oldest None) clip = not clip.read
may_go (Oldest (Some tag)) clip = (clip.clip.tag == tag) && not clip.read

-- of two clips the older one
abbrev pub older_of : Option LockedClip → LockedClip → LockedClip
older_of None clip = clip
older_of (Some oldest) clip = if nat_le oldest.since clip.since then oldest else clip

-- the oldest so far, and one more clip
abbrev pub oldest_so_far : FullRule → Option LockedClip → LockedClip → Option LockedClip
oldest_so_far rule found clip = if may_go rule clip then Some (older_of found clip) else found

-- the same of each of a list
abbrev pub oldest_of : FullRule → Option LockedClip → List LockedClip → Option LockedClip
oldest_of rule found [] = found
oldest_of rule found (clip ∷ clips) = oldest_of rule (oldest_so_far rule found clip) clips

-- leave to release what was found, where no block is free
abbrev pub full_leave : FullRule → ℕ → Option LockedClip → Option ShownClip
full_leave rule free None = None
full_leave rule free (Some clip) = if nat_lt 0 free || not (may_go rule clip) then None else Some clip.clip

-- What a rule allows: a clip that no save reads; by `release saved` one that was saved whole, and by a tag one with it.
abbrev pub IsAllowed : FullRule → LockedClip → Type 0
IsAllowed Waits clip = ⊥
IsAllowed OldestSaved clip = (clip.saved ≡ true) × (clip.read ≡ false)
IsAllowed (Oldest None) clip = clip.read ≡ false
IsAllowed (Oldest (Some tag)) clip = (clip.clip.tag ≡ tag) × (clip.read ≡ false)

-- Of the locked clips one is released that is allowed, and none that is allowed is older. Where none is released, none
-- is allowed, or a block is free.
abbrev pub OldestClipsGo : Type 0
OldestClipsGo = (rule : FullRule) (clips : List LockedClip) (i : ℕ) (clip : LockedClip)
    → slice_get clips i ≡ Some clip → IsAllowed rule clip
    → (oldest : LockedClip) × (full_leave rule 0 (oldest_of rule None clips) ≡ Some oldest.clip)
    × (oldest.since ≤ clip.since)

-- What is released is one of the clips, and allowed; and no block is free.
abbrev pub AllowedClipsGo : Type 0
AllowedClipsGo = (rule : FullRule) (free : ℕ) (clips : List LockedClip) (gone : ShownClip)
    → full_leave rule free (oldest_of rule None clips) ≡ Some gone
    → (free ≡ 0) × ((clip : LockedClip) × (gone ≡ clip.clip) × IsAllowed rule clip
    × ((i : ℕ) × (slice_get clips i ≡ Some clip)))
