-- An image with one part changed.
use Rattle.std.specs.Prelude.{◌≡◌, ℕ, ◌+◌, ◌<◌, ◌≤◌, true, false, Option, List, length, get_or}
use Rattle.loop_disk.specs.Medium.{SameOutside}
use Rattle.loop_record.specs.declared.clip.Span.{Span}
use Rattle.loop_record.specs.declared.geometry.Geometry.{Geometry}
use Rattle.loop_record.specs.Geometry.{segment_at, segment_size, clip_at}
use Rattle.loop_record.specs.Layout.{Segment, is_open, segment_in, clip_in}
use Rattle.byteorder.specs.Endian.{little_from}

-- the old image, except that segment j is this one, or closed
pub record ShowsSegment (g : Geometry) (j : ℕ) (segment : Option Segment) (old new : List ℕ) : Type 0 where
  pub outside : SameOutside (segment_at g j) (segment_size g) old new
  pub holds : segment_in g new j ≡ segment

-- the old image, except for the version's gate and the clip table, where each id has the clip that it had
pub record KeepsClips (old new : List ℕ) : Type 0 where
  pub size : length new ≡ length old
  pub before : (i : ℕ) → i < 44 → get_or new i 0 ≡ get_or old i 0
  pub zeros : (i : ℕ) → 45 ≤ i → i < 512 → get_or new i 0 ≡ get_or old i 0
  pub behind : (i : ℕ) → 2560 ≤ i → get_or new i 0 ≡ get_or old i 0
  pub clips : (id : ℕ) → id < 64 → clip_in new id ≡ clip_in old id

-- the old image, except for the places of the tags of the open entries
pub record SameButTags (old new : List ℕ) : Type 0 where
  pub size : length new ≡ length old
  pub before : (i : ℕ) → i < 512 → get_or new i 0 ≡ get_or old i 0
  pub entries : (id k : ℕ) → id < 64 → k < 24 → get_or new (clip_at id + k) 0 ≡ get_or old (clip_at id + k) 0
  pub closed : (id k : ℕ) → id < 64 → k < 32 → is_open old (clip_at id) ≡ false
      → get_or new (clip_at id + k) 0 ≡ get_or old (clip_at id + k) 0
  pub behind : (i : ℕ) → 2560 ≤ i → get_or new i 0 ≡ get_or old i 0

-- the place of each clip's tag has zeros, for the ids below this one
abbrev pub HasNoTags : ℕ → List ℕ → Type 0
HasNoTags count image =
    (id : ℕ) → id < count → is_open image (clip_at id) ≡ true → little_from (clip_at id + 24) 8 image ≡ 0

-- the old image, except that the entry of a clip id is this one, or closed
pub record ShowsClip (id : ℕ) (clip : Option Span) (old new : List ℕ) : Type 0 where
  pub outside : SameOutside (clip_at id) 32 old new
  pub holds : clip_in new id ≡ clip
