-- What the export of a store writes, and what it leaves.
use Rattle.std.specs.Prelude.{◌≡◌, ◌≢◌, ℕ, Bool, true, false, ◌&&◌, nat_le, Option, None, Some, Result, Ok, Err, List, [], length, map}
use Rattle.std.specs.List.{filter}
use Rattle.std.specs.Io.KnownBytes.{Appends}
use Rattle.loop_disk.specs.declared.fault.DiskFault.{DiskFault}
use Rattle.loop_disk.specs.Calls.{Called, Stays}
use Rattle.loop_disk.specs.Medium.{Medium}
use Rattle.loop_record.specs.declared.geometry.Geometry.{Geometry}
use Rattle.loop_record.specs.declared.damage.Damage.TheVariants.{SlotHead}
use Rattle.loop_record.specs.Recording.{Picture}
use Rattle.loop_store.specs.declared.fault.StoreFault.TheVariants.{Damaged, Disk, MustReopen, NoMemory, NotHeld}
use Rattle.loop_store.specs.Seen.{Seen}
use Rattle.loop_y4m.specs.declared.fault.ExportFault.{ExportFault}
use Rattle.loop_y4m.specs.declared.fault.ExportFault.TheVariants.{Store, Write}
use Rattle.loop_y4m.specs.Text.{AppendsSome, text}

-- the bytes of the frames whose numbers are from one to another, in their order
abbrev pub frames_between : ℕ → ℕ → List (ℕ × Picture) → List (List ℕ)
frames_between from to frames = map (λ f. f.1.bytes) (filter (λ f. nat_le from f.0 && nat_le f.0 to) frames)

-- a read or the writer failed, once a prefix of these bytes was written; or a slot holds something else, which can't be
-- where the disk is honest
abbrev pub Stopped : Type 0 → ExportFault → Option (List ℕ) → Option (List ℕ) → List ℕ → Type 0
Stopped Honest (Store (Disk fault)) old new bytes = Honest → AppendsSome old new bytes
Stopped Honest (Store (Damaged SlotHead)) old new bytes = Honest → ⊥
Stopped Honest Write old new bytes = Honest → AppendsSome old new bytes
Stopped Honest _ old new bytes = ⊥

-- The answer to an export of these frames. The store must be reopened; or else there is none of them; or else memory
-- was refused; in these cases nothing was written. Otherwise they are counted, or something failed in between. What was
-- written then, their text or a prefix of it, is only said of honest disks.
abbrev pub IsExport : Type 0 → Geometry → Bool → List (List ℕ) → Option (List ℕ) → Option (List ℕ)
    → Result ℕ ExportFault → Type 0
IsExport Honest g must_reopen frames old new (Err (Store MustReopen)) = (must_reopen ≡ true) × (new ≡ old)
IsExport Honest g must_reopen frames old new (Err (Store NotHeld)) =
    (must_reopen ≡ false) × ((frames ≡ []) × (new ≡ old))
IsExport Honest g must_reopen frames old new (Err (Store NoMemory)) =
    (must_reopen ≡ false) × ((frames ≢ []) × (new ≡ old))
IsExport Honest g must_reopen frames old new (Err fault) =
    (must_reopen ≡ false) × ((frames ≢ []) × Stopped Honest fault old new (text g frames))
IsExport Honest g must_reopen frames old new (Ok count) =
    (must_reopen ≡ false) × ((frames ≢ []) × ((Honest → Appends old new (text g frames)) × (count ≡ length frames)))

-- the call of the disk that failed, if the answer is that one did
abbrev pub failed_export : {T : Type 0} → Result T ExportFault → Option DiskFault
failed_export (Err (Store (Disk fault))) = Some fault
failed_export _ = None

-- the store is as it was but for its disk, which was only read, and of whose calls this one failed, or none did
pub record OnlyRead {D : Type 0} (medium : D → Medium) (old new : Seen D) (failed : Option DiskFault) : Type 0 where
  pub same : new ≡ record old { disk = new.disk }
  pub stays : (medium old.disk).honest → Stays (medium old.disk) (medium new.disk)
  pub called : Called (medium old.disk) (medium new.disk) failed
