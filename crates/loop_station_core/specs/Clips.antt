-- Which clips may be released, and how many keeps have room.
use Rattle.std.specs.Int.{div_ceil}
use Rattle.std.specs.Prelude.{◌≤◌, ◌<◌, ◌*◌, ℕ, ◌+◌, ◌-◌, ◌/◌, ◌^◌, ◌==◌, ◌||◌, Bool, Option, Some, None, max, min, if◌then◌else◌, not, option_map, ◌≡◌, ◌≢◌, true, false}
use Rattle.loop_station_core.specs.Gaps.{HasEach, lies_within}
use Rattle.loop_station_core.specs.Saving.{is_same, key_clip}
use Rattle.loop_station_core.specs.declared.clips.MayRelease.{MayRelease}
use Rattle.loop_station_core.specs.declared.clips.MayRelease.TheVariants.{NoClip, Now, Other, Saving}
use Rattle.loop_station_core.specs.declared.leave.ShownClip.{ShownClip}
use Rattle.loop_station_core.specs.declared.saves.SaveKey.{SaveKey}

-- leave for the clip of an id, if it begins with the frame that an order says
abbrev pub by_first : Option ℕ → ShownClip → MayRelease
by_first None clip = Now clip
by_first (Some asked) clip = if asked == clip.from then Now clip else Other asked

-- no clip has the id of which an order says the first frame
abbrev pub by_none : Option ℕ → MayRelease
by_none None = NoClip
by_none (Some asked) = Other asked

-- a clip that is read waits; one of which an order says the first frame is that one, or stays
abbrev pub may_release : Bool → Option ℕ → Option ShownClip → MayRelease
may_release is_read asked there = if is_read then Saving else elim there [
  | None ↦ by_none asked
  | Some clip ↦ by_first asked clip
]

-- what saves release is the clip that has its id by now, if that is the one that was saved
abbrev pub may_release_saved : Bool → SaveKey → Option SaveKey → MayRelease
may_release_saved is_read saved None = Other saved.first
may_release_saved is_read saved (Some clip) = if is_same saved clip
    then (if is_read then Saving else Now (key_clip clip))
    else Other saved.first

-- leave for a part of an event that no save reads and that lies within a longer clip
abbrev pub leave_for_part : Bool → ShownClip → ShownClip → Option ShownClip
leave_for_part is_read part longer = if is_read || not (lies_within part longer) then None else Some part

-- how many keeps of so many frames have room, each with a block more than it fills
abbrev pub keeps_in : ℕ → ℕ → ℕ → ℕ
keeps_in blocks frames slots = blocks / min (div_ceil frames (max slots 1) + 1) (2 ^ 64 - 1)

-- So many keeps as are told to have room have it, wherever within a block each of them begins. And with two blocks more
-- for each than it fills wholly, no room is held back.
abbrev pub KeepsHaveRoom : Type 0
KeepsHaveRoom = (blocks frames slots begins : ℕ) → 1 ≤ slots → frames < 2 ^ 64 - 1 → begins < slots
    → let keeps = keeps_in blocks frames slots in
    (keeps * ((begins + frames + (slots - 1)) / slots) ≤ blocks) × (blocks < (keeps + 1) * (frames / slots + 2))

-- A clip isn't released by an order where a save reads it, where another one has its id, or none; and it is told which.
abbrev pub RefusedReleasesAreSo : Type 0
RefusedReleasesAreSo = (is_read : Bool) (asked : Option ℕ) (there : Option ShownClip) (number : ℕ)
    → (may_release is_read asked there ≡ Saving → is_read ≡ true)
    × (is_read ≡ true → may_release is_read asked there ≡ Saving)
    × (may_release is_read asked there ≡ Other number
    → (asked ≡ Some number) × (option_map (λ clip. clip.from) there ≢ asked))
    × (may_release is_read asked there ≡ NoClip → there ≡ None)

-- A part of an event is released exactly where no save reads it, and each of its frames is one of a longer clip.
abbrev pub CoveredPartsAreWithin : Type 0
CoveredPartsAreWithin = (is_read : Bool) (part longer : ShownClip) (clip : ShownClip) → part.from ≤ part.to
    → (leave_for_part is_read part longer ≡ Some clip
    → (clip ≡ part) × (is_read ≡ false) × HasEach part longer)
    × (is_read ≡ false → HasEach part longer → leave_for_part is_read part longer ≡ Some part)
