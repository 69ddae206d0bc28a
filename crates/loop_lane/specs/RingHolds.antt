-- Which frames a ring holds, after appends and within one, while there is no clip.
use Rattle.std.specs.Prelude.{◌≡◌, ◌≤◌, ◌<◌, ℕ, ◌+◌, ◌-◌, IsTrue, Option, Some, option_and_then, List, [], ◌∷◌, length, take}
use Rattle.loop_record.specs.Recording.{Picture, Recording, Ring, Step, empty, holds, last_number, plain, steps}
use Rattle.loop_station_words.specs.Rings.{IsLeastFor, IsRing, held}
use Rattle.loop_station_words.specs.declared.ring.RingSize.{RingSize}

-- the plain recorder's ring of this size
abbrev pub ring_with : RingSize → Ring
ring_with size = record { segments = size.segments; slots = size.slots }

-- the recording after the steps of an append of each group, one after the other; None where one has none
abbrev pub recorded : Ring → ℕ → Recording → List (List Picture) → Option Recording
recorded ring keep r [] = Some r
recorded ring keep r (group ∷ groups) =
    option_and_then (λ list. recorded ring keep (plain ring r list) groups) (steps ring keep r group)

-- how many frames the groups have together
abbrev pub total : List (List Picture) → ℕ
total [] = 0
total (group ∷ groups) = length group + total groups

-- each group has a frame
abbrev pub HaveFrames : List (List Picture) → Type 0
HaveFrames [] = Unit {0}
HaveFrames (group ∷ groups) = (1 ≤ length group) × HaveFrames groups

-- each of this many of the newest numbers is held, or each number where there are fewer
abbrev pub HoldsNewest : ℕ → Recording → Type 0
HoldsNewest count r = (k : ℕ) → k < r.next → r.next ≤ k + count → IsTrue (holds r k)

-- Appends of these groups, from the empty recording on, all have steps. After them this many of the newest frames are
-- held, and at least one less after any first steps of the next append.
pub record HoldsAfter (ring : Ring) (keep count : ℕ) (groups : List (List Picture)) : Type 0 where
  pub after : Recording
  pub answered : recorded ring keep empty groups ≡ Some after
  pub next : after.next ≡ total groups
  pub newest : HoldsNewest count after
  pub within : (group : List Picture) (list : List Step) (n : ℕ) → steps ring keep after group ≡ Some list
      → HoldsNewest (count - 1) (plain ring after (take n list))

-- A ring holds as many of the newest frames as `held` says, and so at least as many as it was chosen for, whatever the
-- usual slots were and whatever groups were appended, until the numbers are spent. Where all segments are kept, none
-- may be recycled.
pub record RingsHold : Type 0 where
  pub each : (size : RingSize) (keep : ℕ) (groups : List (List Picture)) → IsRing size → keep < size.segments
      → HaveFrames groups → total groups ≤ last_number (ring_with size)
      → HoldsAfter (ring_with size) keep (held size) groups
  pub chosen : (usual frames : ℕ) (size : RingSize) (keep : ℕ) (groups : List (List Picture))
      → IsLeastFor usual frames size → keep < size.segments → HaveFrames groups
      → total groups ≤ last_number (ring_with size) → HoldsAfter (ring_with size) keep frames groups
