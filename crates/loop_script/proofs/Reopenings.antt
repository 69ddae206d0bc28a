-- Why a disk that holds a recording is refused, and what it is opened as.
use Rattle.std.proofs.Common.{◌≡◌, ℕ, false, Result, Ok, Err, List, refl, sym, ap, ◌∙◌}
use Rattle.loop_disk.specs.declared.memory.MemDisk.{MemDisk}
use Rattle.loop_disk.specs.Calls.{Stays}
use Rattle.loop_disk.specs.Medium.{MayBe}
use Rattle.loop_record.specs.declared.damage.LayoutFault.{LayoutFault}
use Rattle.loop_record.specs.declared.geometry.Geometry.{Geometry}
use Rattle.loop_record.specs.Reading.{Contents, Holds}
use Rattle.loop_record.specs.Recording.{Recording}
use Rattle.loop_record.proofs.TestFacts.{clash}
use Rattle.loop_store.specs.declared.fault.StoreFault.{StoreFault}
use Rattle.loop_store.specs.declared.fault.StoreFault.TheVariants.{BadKeep, Damaged, Disk, NoMemory, NotFormatted}
use Rattle.loop_store.specs.Faults.{is_disk}
use Rattle.loop_store.specs.Reopen.{IsRefusedOpen, is_bad_keep}
use Rattle.loop_store.proofs.Openings.{refused-honest}
use Rattle.loop_script.proofs.DeskCalls.{memory, memory-sound}

-- the geometry of what is read, or another where nothing is
abbrev geometry_read : Geometry → Result Contents LayoutFault → Geometry
geometry_read g (Ok c) = c.geometry
geometry_read g (Err fault) = g

-- want of memory, where no call of the disk failed
pub refused_for_memory : (g : Geometry) (keep : ℕ) (r : Recording) (image : List ℕ) (fault : StoreFault)
    → Holds g r image → is_bad_keep g.segments keep ≡ false → IsRefusedOpen keep image fault → is_disk fault ≡ false
    → fault ≡ NoMemory
refused_for_memory g keep r image NoMemory holds can refused fine = refl
refused_for_memory g keep r image (Disk f) holds can refused fine = absurd cc
refused_for_memory g keep r image NotFormatted holds can refused fine = absurd cc
refused_for_memory g keep r image (Damaged d) holds can refused fine = absurd cc
refused_for_memory g keep r image BadKeep holds can (c, (is, bad)) fine =
    absurd (clash (is_bad_keep g.segments keep)
    (ap (λ (h : Geometry). is_bad_keep h.segments keep) (ap (geometry_read g) (sym holds ∙ is)) ∙ bad) can)
refused_for_memory g keep r image _ holds can refused fine = absurd refused

-- an image reads as a recording of one geometry
pub same_geometry : (g h : Geometry) (r s : Recording) (image : List ℕ) → Holds g r image → Holds h s image → g ≡ h
same_geometry g h r s image first second = ap (geometry_read g) (sym first ∙ second)

-- the reason for which a disk in memory was refused is what its bytes read as
pub refused_in_memory : {A : Type 0} (old new : MemDisk A) (keep : ℕ) (fault : StoreFault)
    → ((memory old).honest → is_disk fault ≡ false → Stays (memory old) (memory new))
    → ((image : List ℕ) → MayBe (memory new) image → IsRefusedOpen keep image fault)
    → IsRefusedOpen keep (memory old).bytes fault
refused_in_memory old new keep fault stays said =
    refused-honest (memory old) (memory new) keep fault (λ honest. honest) (λ honest. memory-sound new) stays said tt
