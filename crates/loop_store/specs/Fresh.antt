-- What formatting writes, part by part. Only the store's own code uses this.
use Rattle.std.specs.Prelude.{◌≡◌, ◌⊎◌, ℕ, IsTrue, ◌<◌, false, List, length, drop, slice_range}
use Rattle.loop_disk.specs.Medium.{IsSettled, Medium}
use Rattle.loop_record.specs.declared.geometry.Geometry.{Geometry}
use Rattle.loop_record.specs.declared.superblock.SuperHead.{SuperHead}
use Rattle.loop_record.specs.Geometry.{clip_at, disk_size, is_good, segment_at}
use Rattle.loop_record.specs.Layout.{is_open, super_bytes}
use Rattle.loop_record.specs.Reading.{IsFreshImage}

-- the geometry is good, and a disk of it has this size
abbrev pub FitsDisk : Geometry → ℕ → Type 0
FitsDisk g size = IsTrue (is_good g) × (size ≡ disk_size g)

-- the superblock's gate is closed
abbrev pub IsClosed : List ℕ → Type 0
IsClosed image = is_open image 0 ≡ false

-- the same in the present bytes, and in each image that a crash may leave
abbrev pub LeavesClosed : Medium → Type 0
LeavesClosed m = (c : List ℕ) → m.may_leave c → IsClosed c

-- an image that a crash might have left before, or one whose gate is closed
abbrev pub WasOrClosed : Medium → List ℕ → Type 0
WasOrClosed m c = m.may_leave c ⊎ IsClosed c

-- after a closed gate there are the superblock, an empty clip table, and the closed headers of the first segments
pub record IsLaid (h : SuperHead) (count : ℕ) (image : List ℕ) : Type 0 where
  pub size : length image ≡ disk_size h.geometry
  pub superblock : slice_range image 1 512 ≡ drop 1 (super_bytes h)
  pub clips : (id : ℕ) → id < 64 → is_open image (clip_at id) ≡ false
  pub segments : (j : ℕ) → j < count → is_open image (segment_at h.geometry j) ≡ false

-- that much is written, and the gate is closed in each image that a crash may leave too
abbrev pub IsLaidClosed : SuperHead → ℕ → Medium → Type 0
IsLaidClosed h count m = LeavesClosed m × IsLaid h count m.bytes

-- the disk holds an empty recording, just written, and a crash leaves nothing else
abbrev pub HoldsFresh : SuperHead → Medium → Type 0
HoldsFresh h m = IsFreshImage h m.bytes × IsSettled m
