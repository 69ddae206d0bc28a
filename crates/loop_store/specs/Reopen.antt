-- What opening finds on a disk, and what it leaves of it.
use Rattle.std.specs.Prelude.{◌≡◌, ◌||◌, ◌==◌, ◌-◌, nat_lt, ℕ, Bool, true, false, IfErr, IfOk, Result, Ok, Err, List}
use Rattle.loop_disk.specs.Calls.{Called, Stays}
use Rattle.loop_disk.specs.Medium.{LeavesOnly, MayBe, Medium}
use Rattle.loop_record.specs.declared.damage.LayoutFault.{LayoutFault}
use Rattle.loop_record.specs.Layout.{version_in}
use Rattle.loop_record.specs.Reading.{Contents, Holds, reading}
use Rattle.loop_record.specs.Recording.{Recording}
use Rattle.loop_store.specs.declared.fault.OpenRefused.{OpenRefused}
use Rattle.loop_store.specs.declared.fault.StoreFault.{StoreFault}
use Rattle.loop_store.specs.Faults.{is_disk}
use Rattle.loop_store.specs.Make.{WasOr, disk_after, failed_opening}
use Rattle.loop_store.specs.Seen.{Seen, StandsFor, Tells}

-- the second image reads as the first does, in the same version of the layout
abbrev pub ReadsAlike : List ℕ → List ℕ → Type 0
ReadsAlike old new = (reading new ≡ reading old) × (version_in new ≡ version_in old)

-- what a store reports is what some recording says
abbrev pub TellsOne : {D : Type 0} → Seen D → Type 0
TellsOne store = (r : Recording) × Tells store r

-- the image reads as a recording of the store's geometry, in its version, for which the store stands
pub record IsOpened {D : Type 0} (medium : D → Medium) (image : List ℕ) (store : Seen D) : Type 0 where
  pub recording : Recording
  pub held : Holds store.geometry recording image
  pub version_is : version_in image ≡ store.version
  pub stands : StandsFor medium store recording

-- the image reads as a recording of the store's geometry, in its version, and the store reports that recording
pub record IsReadOf {D : Type 0} (image : List ℕ) (store : Seen D) : Type 0 where
  pub recording : Recording
  pub held : Holds store.geometry recording image
  pub version_is : version_in image ≡ store.version
  pub told : Tells store recording

-- What a store reports is what was read, whatever the disk: there was a disk once all had been read, each image that
-- agrees with what it gave agrees with what the first disk gave, and reads as what the store reports.
pub record IsFound {D : Type 0} (medium : D → Medium) (disk : D) (store : Seen D) : Type 0 where
  pub looked : D
  pub gives : (image : List ℕ) → MayBe (medium looked) image → MayBe (medium disk) image
  pub tells : (image : List ℕ) → MayBe (medium looked) image → IsReadOf image store

-- this many of the newest blocks can't be kept in a ring of this many segments: none, or so many that no block could
-- go
abbrev pub is_bad_keep : ℕ → ℕ → Bool
is_bad_keep segments keep = (keep == 0) || nat_lt (segments - 1) keep

-- the image reads as a recording in whose ring this many blocks can't be kept
abbrev pub IsBadKeep : ℕ → List ℕ → Type 0
IsBadKeep keep image =
    (c : Contents) × ((reading image ≡ Ok c) × (is_bad_keep c.geometry.segments keep ≡ true))

-- the refusal is what the image reads as; or this many blocks can't be kept there; or memory was refused; or a call of
-- the disk failed
abbrev pub IsRefusedOpen : ℕ → List ℕ → StoreFault → Type 0
IsRefusedOpen keep image StoreFault.NoMemory = Unit {0}
IsRefusedOpen keep image (StoreFault.Disk fault) = Unit {0}
IsRefusedOpen keep image StoreFault.NotFormatted = reading image ≡ Err LayoutFault.NotFormatted
IsRefusedOpen keep image (StoreFault.Damaged damage) = reading image ≡ Err (LayoutFault.Damaged damage)
IsRefusedOpen keep image StoreFault.BadKeep = IsBadKeep keep image
IsRefusedOpen keep image _ = ⊥

-- What a call does that opens a disk and keeps this many of the newest blocks. What is found, and a refusal too, is
-- right for each image that agrees with what was read. An honest disk's image then reads as before. So does each image
-- that a stop within the call leaves, unless a stop before it could have left it. A refusal changes the disk only where
-- a call of the disk failed.
pub record OpensKeeping {D : Type 0} (medium : D → Medium) (keep : ℕ) (disk : D)
    (result : Result (Seen D) (OpenRefused D)) : Type 0 where
  pub opened : (medium disk).honest → IfOk result (IsOpened medium (medium disk).bytes)
  pub found : IfOk result (IsFound medium disk)
  pub tells : IfOk result TellsOne
  pub kept : IfOk result (λ store. (store.keep ≡ keep) × (is_bad_keep store.geometry.segments keep ≡ false))
  pub fine : IfOk result (λ store. store.must_reopen ≡ false)
  pub refused : IfErr result (λ refused.
      (image : List ℕ) → MayBe (medium refused.disk) image → IsRefusedOpen keep image refused.fault)
  pub alike : (medium disk).honest → ReadsAlike (medium disk).bytes (medium (disk_after result)).bytes
  pub stays : (medium disk).honest
      → IfErr result (λ refused. is_disk refused.fault ≡ false → Stays (medium disk) (medium refused.disk))
  pub moments : (medium disk).honest
      → LeavesOnly (medium disk) (medium (disk_after result)) (WasOr (medium disk) (ReadsAlike (medium disk).bytes))
  pub called : Called (medium disk) (medium (disk_after result)) (failed_opening result)
