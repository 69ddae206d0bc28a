-- Why there is no text.
use Rattle.std.specs.Prelude.{ℕ, false, Option, Err, List}
use Rattle.loop_disk.specs.Medium.{Medium}
use Rattle.loop_record.specs.declared.geometry.Geometry.{Geometry}
use Rattle.loop_store.specs.declared.fault.StoreFault.{StoreFault}
use Rattle.loop_y4m.specs.declared.fault.ExportFault.{ExportFault}
use Rattle.loop_y4m.specs.Export.{IsExport}
use Rattle.loop_lane.specs.declared.text.TextFault.{TextFault}
use Rattle.loop_lane.specs.declared.text.TextFault.TheVariants as fault

-- there was no memory, or a call of the disk that was opened failed
abbrev pub IsForWant : TextFault → Type 0
IsForWant (fault.Run StoreFault.NoMemory) = Unit {0}
IsForWant (fault.Open StoreFault.NoMemory) = Unit {0}
IsForWant (fault.Open (StoreFault.Disk failed)) = Unit {0}
IsForWant _ = ⊥

-- the export of these frames was refused, from an honest disk that was opened again
pub record ExportsNot {D : Type 0} (medium : D → Medium) (g : Geometry) (frames : List (List ℕ))
    (before after : Option (List ℕ)) (fault : ExportFault) : Type 0 where
  pub opened : D
  pub honest : (medium opened).honest
  pub refused : IsExport (medium opened).honest g false frames before after (Err fault)
