-- What `format` answers, and what it leaves of a disk.
use Rattle.std.specs.Prelude.{◌≡◌, ◌⊎◌, ◌↔◌, ◌&&◌, ◌==◌, ℕ, IfErr, IfOk, true, false, Option, None, Result, Ok, Err, List}
use Rattle.loop_disk.specs.declared.fault.DiskFault.{DiskFault}
use Rattle.loop_disk.specs.Calls.{Called}
use Rattle.loop_disk.specs.Medium.{LeavesOnly, Medium}
use Rattle.loop_record.specs.declared.damage.LayoutFault.TheVariants.{NotFormatted}
use Rattle.loop_record.specs.declared.superblock.SuperHead.{SuperHead}
use Rattle.loop_record.specs.Geometry.{disk_size, is_good}
use Rattle.loop_record.specs.Reading.{HoldsIn, reading}
use Rattle.loop_record.specs.Recording.{empty}
use Rattle.loop_store.specs.declared.fault.OpenRefused.{OpenRefused}
use Rattle.loop_store.specs.declared.fault.StoreFault.TheVariants.{BadGeometry, NoMemory}
use Rattle.loop_store.specs.Faults.{failed_by, is_disk}
use Rattle.loop_store.specs.Seen.{Seen, StandsFor, Tells}

-- an image that isn't formatted, or the empty recording in this version
abbrev pub NoneOrEmpty : SuperHead → List ℕ → Type 0
NoneOrEmpty h c = (reading c ≡ Err NotFormatted) ⊎ HoldsIn h empty c

-- an image that a crash might have left before, or one that has P
abbrev pub WasOr : Medium → (List ℕ → Type 0) → List ℕ → Type 0
WasOr m P c = m.may_leave c ⊎ P c

-- a limit of the geometry is broken, or the disk's size isn't the geometry's
abbrev pub IsBadGeometry : {D : Type 0} → Result (Seen D) (OpenRefused D) → Type 0
IsBadGeometry (Ok store) = ⊥
IsBadGeometry (Err refused) = refused.fault ≡ BadGeometry

-- formatting is refused for one of these
abbrev pub IsRefusedFormat : {D : Type 0} → OpenRefused D → Type 0
IsRefusedFormat refused = (refused.fault ≡ BadGeometry) ⊎ ((refused.fault ≡ NoMemory) ⊎ (is_disk refused.fault ≡ true))

-- a store of this geometry and version with nothing stored, which keeps the newest block
pub record IsFormatted {D : Type 0} (h : SuperHead) (store : Seen D) : Type 0 where
  pub geometry : store.geometry ≡ h.geometry
  pub version : store.version ≡ h.version
  pub keep : store.keep ≡ 1
  pub tells : Tells store empty
  pub must_reopen : store.must_reopen ≡ false

-- the disk, in the store or handed back
abbrev pub disk_after : {D : Type 0} → Result (Seen D) (OpenRefused D) → D
disk_after (Ok store) = store.disk
disk_after (Err refused) = refused.disk

-- the call of the disk that failed, if the answer says so
abbrev pub failed_opening : {D : Type 0} → Result (Seen D) (OpenRefused D) → Option DiskFault
failed_opening (Ok store) = None
failed_opening (Err refused) = failed_by refused.fault

-- What a call does that formats a disk in a version of the layout. At each moment of a stop the image reads as before,
-- or isn't formatted, or is the empty recording in that version.
pub record Formats {D : Type 0} (medium : D → Medium) (h : SuperHead) (disk : D)
    (result : Result (Seen D) (OpenRefused D)) : Type 0 where
  pub bad : (IsBadGeometry result)
      ↔ ((is_good h.geometry && ((medium disk).size == disk_size h.geometry)) ≡ false)
  pub refusals : IfErr result IsRefusedFormat
  pub untouched : IfErr result (λ refused. is_disk refused.fault ≡ false → refused.disk ≡ disk)
  pub formatted : IfOk result (IsFormatted h)
  pub stands : IfOk result (λ store. StandsFor medium store empty)
  pub moments : (medium disk).honest
      → LeavesOnly (medium disk) (medium (disk_after result)) (WasOr (medium disk) (NoneOrEmpty h))
  pub called : Called (medium disk) (medium (disk_after result)) (failed_opening result)
