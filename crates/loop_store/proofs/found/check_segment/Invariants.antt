use Rattle.std.proofs.Common.{◌≡◌, ℕ, List, None, ◌*◌, length, true}
use Rattle.loop_disk.specs.Calls.{Called, Stays}
use Rattle.loop_disk.specs.Medium.{MayBe}
use Rattle.loop_record.specs.Geometry.{frame_bytes}
use Rattle.loop_record.proofs.FoundSegments.{read_slots}
use Rattle.loop_store.specs.Times.{AreStamped, KeepsStamps}
use Rattle.loop_store.proofs.found.check_segment.Given as goal
use Rattle.loop_record.proofs.Names.{hold_from}

abbrev pub invariant-loop-slot : goal.invariant-loop-slot
invariant-loop-slot g l = record {
  called : Called (g.D.Disk.medium l.fn.disk) (g.D.Disk.medium l.disk) None;
  stays : (g.D.Disk.medium l.fn.disk).honest → Stays (g.D.Disk.medium l.fn.disk) (g.D.Disk.medium l.disk);
  gives : (image : List ℕ) → MayBe (g.D.Disk.medium l.disk) image → MayBe (g.D.Disk.medium l.fn.disk) image;
  hold : (image : List ℕ) → MayBe (g.D.Disk.medium l.disk) image → hold_from (frame_bytes l.geometry)
      (l.found.block * l.geometry.slots) (read_slots l.geometry image l.found.segment l.slot) ≡ true;
  room : length l.stamps ≡ length l.fn.stamps;
  stamped : (image : List ℕ) → MayBe (g.D.Disk.medium l.disk) image
      → AreStamped l.geometry image l.stamps l.found.segment l.slot;
  keeps : (image : List ℕ) → MayBe (g.D.Disk.medium l.disk) image → KeepsStamps l.geometry image l.fn.stamps l.stamps;
}
