use Rattle.std.proofs.Common.{None}
use Rattle.loop_disk.specs.Calls.{Called}
use Rattle.loop_disk.specs.Medium.{LeavesOnly}
use Rattle.loop_store.specs.Fresh.{IsClosed, IsLaidClosed}
use Rattle.loop_store.proofs.fresh.write_headers.Given as goal

-- the headers so far are closed, and so is the superblock's gate
abbrev pub invariant-loop-segment : goal.invariant-loop-segment
invariant-loop-segment g l = record {
  moments : (g.D.Disk.medium l.fn.disk).honest → LeavesOnly (g.D.Disk.medium l.fn.disk)
      (g.D.Disk.medium l.disk) IsClosed;
  laid : (g.D.Disk.medium l.fn.disk).honest → IsLaidClosed l.head l.segment (g.D.Disk.medium l.disk);
  called : Called (g.D.Disk.medium l.fn.disk) (g.D.Disk.medium l.disk) None;
}
