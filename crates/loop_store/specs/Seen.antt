-- A store as its callers see it, and the recording that it stands for.
use Rattle.std.specs.Prelude.{◌≡◌, ℕ, Result, Ok, Err, Bool, true, false, Option, List, length, map}
use Rattle.loop_disk.specs.Medium.{Medium, IsSettled}
use Rattle.loop_record.specs.declared.clip.Span.{Span}
use Rattle.loop_record.specs.declared.geometry.Geometry.{Geometry}
use Rattle.loop_record.specs.Layout.{version_in}
use Rattle.loop_record.specs.Recording.{IsWellFormed, Recording, Ring, holds, ring_of}
use Rattle.loop_record.specs.Reading.{Holds}
use Rattle.loop_ring.specs.declared.group.SlotStamp.{SlotStamp}
use Rattle.loop_store.specs.declared.fault.StoreFault.{StoreFault}
use Rattle.loop_store.specs.declared.fault.StoreFault.TheVariants.{Disk}
use Rattle.loop_store.specs.declared.index.Index.{Index}
use Rattle.loop_store.specs.Numbers.{is_among, numbers_under}
use Rattle.loop_store.specs.Times.{AreStamps, stamp_told, stamp_under}

-- the disk; the geometry and the version of the layout; how many of the newest blocks are kept; what a store reports
-- of its recording: the next number, the held numbers, the time and sequence of each, the clip of each id; and whether a call that
-- writes has failed
pub record Seen (D : Type 0) : Type 0 where
  pub disk : D
  pub geometry : Geometry
  pub version : ℕ
  pub keep : ℕ
  pub next : ℕ
  pub numbers : List ℕ
  pub stamps : List SlotStamp
  pub clips : List (Option Span)
  pub must_reopen : Bool

-- its segments and slots
abbrev pub ring_in : {D : Type 0} → Seen D → Ring
ring_in store = ring_of store.geometry

-- what callers see of a disk with an index of it
abbrev pub seen_with : {D A : Type 0} → D → Index A → Bool → Seen D
seen_with disk index must_reopen = record {
  disk = disk;
  geometry = index.ring.geometry;
  version = index.version;
  keep = index.table.keep;
  next = index.next;
  numbers = numbers_under index.ring.geometry.slots index.table.heads;
  stamps = map (stamp_under index.ring.geometry.slots index.table.heads index.stamps.items)
      (numbers_under index.ring.geometry.slots index.table.heads);
  clips = index.clips;
  must_reopen = must_reopen;
}

-- What a store reports is what the recording says, and the recorder can reach that recording.
pub record Tells {D : Type 0} (s : Seen D) (r : Recording) : Type 0 where
  pub formed : IsWellFormed r
  pub next_is : s.next ≡ r.next
  pub numbers_are : (n : ℕ) → is_among s.numbers n ≡ holds r n
  pub count_is : length s.numbers ≡ length r.frames
  pub stamps_are : AreStamps (stamp_told s.numbers s.stamps) r
  pub clips_are : s.clips ≡ r.clips

-- The store stands for a recording: it reports that recording, after a failed call too. Where it needn't be reopened,
-- an honest disk holds that recording in the version that the store reports, and a crash leaves nothing else.
pub record StandsFor {D : Type 0} (medium : D → Medium) (s : Seen D) (r : Recording) : Type 0 where
  pub told : Tells s r
  pub settled : s.must_reopen ≡ false → (medium s.disk).honest → IsSettled (medium s.disk)
  pub held : s.must_reopen ≡ false → (medium s.disk).honest → Holds s.geometry r (medium s.disk).bytes
  pub version_is : s.must_reopen ≡ false → (medium s.disk).honest → version_in (medium s.disk).bytes ≡ s.version

-- after a failed call of the disk the store has to be opened again, and reports what it reported before
abbrev pub HasFailed : {D : Type 0} → Seen D → Seen D → Type 0
HasFailed old new = new ≡ record old { disk = new.disk; must_reopen = true }

-- a refusal of a call that writes: after a failed call of the disk as above; any other changes nothing
abbrev pub Refused : {D T : Type 0} → Seen D → Seen D → Result T StoreFault → Type 0
Refused old new (Ok x) = Unit {0}
Refused old new (Err (Disk fault)) = HasFailed old new
Refused old new (Err fault) = new ≡ old
