-- The clips of an event, as they are found in a camera's stores.
use Rattle.std.specs.Prelude.{◌≡◌, ◌<◌, ◌≤◌, ◌==◌, ℕ, List, All, Contains, Some, length, slice_get}
use Rattle.std.specs.List.{filter, flat_map}
use Rattle.std.specs.List.Sorted.{IsNonDecreasingBy, IsPermutation}
use Rattle.loop_clips.specs.declared.clip.Clip.{Clip}
use Rattle.loop_clips.specs.Table.{clip_list}
use Rattle.loop_desk.specs.Seen.{SeenDesk}
use Rattle.loop_station_shared.specs.declared.found.FoundClip.{FoundClip}
use Rattle.loop_station_camera.specs.Keeping.{known}

-- the clips that have a tag
abbrev pub having_tag : ℕ → List Clip → List Clip
having_tag tag clips = filter (λ c. c.tag == tag) clips

-- a number is that of one of a clip's frames; and of several clips'
abbrev pub HasNumber : Clip → ℕ → Type 0
HasNumber c n = (c.from ≤ n) × (n ≤ c.to)

abbrev pub IsInFound : List FoundClip → ℕ → Type 0
IsInFound found n = (f : FoundClip) × Contains found f × HasNumber f.clip n

-- the end of a clip of the store of a number, from one of its frames on, by the id by which users know it
abbrev pub IsRestOf : ℕ → Clip → Clip → Type 0
IsRestOf number c part =
    (part ≡ record (known number c) { from = part.from }) × (c.from ≤ part.from) × (c.from ≤ c.to → part.from ≤ c.to)

-- no frame is that of two clips
abbrev pub HaveOnce : List FoundClip → Type 0
HaveOnce found = (i j n : ℕ) (f g : FoundClip) → slice_get found i ≡ Some f → slice_get found j ≡ Some g
    → HasNumber f.clip n → HasNumber g.clip n → i ≡ j

-- Of some clips of the store of a number these were found: each is the end of one of them, and they have each of the
-- frames once.
pub record AreEnds (number : ℕ) (clips : List Clip) (found : List FoundClip) : Type 0 where
  pub own : All (λ f. (c : Clip) × Contains clips c × IsRestOf number c f.clip) found
  pub all : (c : Clip) (n : ℕ) → Contains clips c → HasNumber c n → IsInFound found n
  pub once : HaveOnce found

-- what was found in a store, and its number
pub record StoreFound : Type 0 where
  pub number : ℕ
  pub found : List FoundClip

abbrev pub found_there : StoreFound → List FoundClip
found_there s = s.found

-- Of the stores of some desks these clips were found, by rising times: of each store those that have a tag, and no
-- others.
pub record FindsTag {D : Type 0} (tag : ℕ) (desks : List (SeenDesk D)) (found : List FoundClip) : Type 0 where
  pub stores : List StoreFound
  pub all : length stores ≡ length desks
  pub numbers : All (λ s. s.number < 256) stores
  pub are : (place : ℕ) (d : SeenDesk D) (s : StoreFound) → slice_get desks place ≡ Some d
      → slice_get stores place ≡ Some s → AreEnds s.number (having_tag tag (clip_list 0 d.store.clips)) s.found
  pub same : IsPermutation (flat_map found_there stores) found
  pub rises : IsNonDecreasingBy (λ f. f.first) found
