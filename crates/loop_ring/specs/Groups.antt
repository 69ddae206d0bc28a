-- A group of frames in memory: it owns the heads of their slots, and borrows their bytes.
use Rattle.std.specs.Prelude.{◌≡◌, ℕ, ◌+◌, ◌*◌, ◌<◌, ◌≤◌, ◌^◌, List, ◌++◌, length, map, take}
use Rattle.std.specs.Borrow.{Bor}
use Rattle.std.specs.List.{flat_map, zip}
use Rattle.loop_record.specs.Recording.{Picture}
use Rattle.loop_ring.specs.declared.group.SlotStamp.{SlotStamp}
use Rattle.loop_ring.specs.Writes.{slots_in, slots_of}

-- how many bytes a frame of it has, how many frames it has room for, the number of the first, and the frames, numbered
-- from that one on
pub record Grouped : Type 0 where
  pub size : ℕ
  pub limit : ℕ
  pub first : ℕ
  pub frames : List Picture

-- the frames of the first slots in some bytes
abbrev pub frames_in : ℕ → List ℕ → ℕ → List Picture
frames_in n bytes count = map (λ s. s.picture) (slots_in n bytes count)

-- what is known of a frame in memory
abbrev pub slot_stamp : Picture → SlotStamp
slot_stamp p = record { time = p.timestamp; sequence = p.sequence }

-- ---- only the group's own code uses this

-- the slots of the first frames: each head, followed by the frame's bytes
abbrev pub first_slots : ℕ → List (List ℕ) → List (Bor (List ℕ)) → List ℕ
first_slots count heads bodies = flat_map (λ slot. slot.0 ++ slot.1.now) (zip (take count heads) (take count bodies))

-- these are the slots of this many frames, with these stamps, and there is memory for as many as the limit says
pub record IsGrouped (size limit first count : ℕ) (heads : List (List ℕ)) (bodies : List (Bor (List ℕ)))
    (stamped : List SlotStamp) : Type 0 where
  pub few : count ≤ limit
  pub most : limit ≤ 64
  pub fits : size < 2 ^ 32
  pub long : length (first_slots count heads bodies) ≡ count * (32 + size)
  pub slots : slots_in size (first_slots count heads bodies) count
      ≡ slots_of size first (frames_in size (first_slots count heads bodies) count)
  pub places : length stamped ≡ 64
  pub stamps : map slot_stamp (frames_in size (first_slots count heads bodies) count) ≡ take count stamped
