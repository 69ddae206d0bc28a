-- Names, for lemmas, of what the definitions say without one.
use Rattle.std.specs.Prelude.{ℕ, ◌+◌, ◌≤◌, ◌==◌, Bool, IsTrue, Option, List, [], ◌∷◌, ◌++◌, if◌then◌else◌, map, option_map}
use Rattle.std.specs.List.{enumerate_from, flat_map, list_all, list_any}
use Rattle.byteorder.specs.Endian.{little_from}
use Rattle.loop_record.specs.declared.clip.Span.{Span}
use Rattle.loop_record.specs.declared.geometry.Geometry.{Geometry}
use Rattle.loop_record.specs.Layout.{Segment, Slot, is_slot_of}
use Rattle.loop_record.specs.Reading.{frames_of, is_bad_clip}
use Rattle.loop_record.specs.Recording.{Picture, Recording, Ring, Step, block, first_free, holds, store}

-- the least id without a clip, or 64
abbrev pub free_id : Recording → ℕ
free_id r = first_free r.clips

-- steps, and then a store of each frame
abbrev pub stores_after : Option (List Step) → List Picture → Option (List Step)
stores_after first group = option_map (λ steps. steps ++ map store group) first

-- the tag at a place: version 1 has none, and each clip the tag 0
abbrev pub tag_at : ℕ → List ℕ → ℕ → ℕ
tag_at version image at = if version == 2 then little_from at 8 image else 0

-- the numbers and the tag of the entry at a place
abbrev pub entry_fields : ℕ → List ℕ → ℕ → Span
entry_fields version image at = record {
  from = little_from (at + 8) 8 image;
  to = little_from (at + 16) 8 image;
  tag = tag_at version image (at + 24);
}

-- the frames of segments, one segment after the other
abbrev pub all_frames : Geometry → List Segment → List (ℕ × Picture)
all_frames g ss = flat_map (frames_of g) ss

-- the slots hold the frames from a number on
abbrev pub hold_from : ℕ → ℕ → List Slot → Bool
hold_from n number slots = list_all (λ t. is_slot_of n t.0 t.1) (enumerate_from number slots)

-- some clip is empty or has a number that isn't held
abbrev pub has_bad_clip : Recording → Bool
has_bad_clip r = list_any (is_bad_clip r) r.clips

-- a clip has a frame, and each of its numbers is held
abbrev pub IsWhole : Recording → Span → Type 0
IsWhole r s = (s.from ≤ s.to) × ((n : ℕ) → s.from ≤ n → n ≤ s.to → IsTrue (holds r n))

-- a block before those after it, once
abbrev pub with_block : ℕ → List ℕ → List ℕ
with_block b [] = b ∷ []
with_block b (c ∷ cs) = if b == c then c ∷ cs else b ∷ c ∷ cs

-- the blocks of frames whose numbers rise, made from the last frame on
abbrev pub blocks_of : Ring → List (ℕ × Picture) → List ℕ
blocks_of ring [] = []
blocks_of ring (f ∷ fs) = with_block (block ring f.0) (blocks_of ring fs)
