use Rattle.std.proofs.Common.{◌≡◌, ◌≤◌, ◌+◌, ◌-◌, None, Ok}
use Rattle.loop_disk.specs.Calls.{Called}
use Rattle.loop_disk.specs.Failing.{Tears}
use Rattle.loop_disk.specs.Medium.{LeavesEachTorn}
use Rattle.loop_disk.proofs.once.rewrite.Given as goal

abbrev pub invariant-loop-done : goal.invariant-loop-done
invariant-loop-done g l = record {
  within : l.done ≤ l.count;
  size : l._size ≡ (g.D.Disk.medium l.fn.disk).size;
  after : l.from ≤ l.done;
  called : Called (g.D.Disk.medium l.fn.disk) (g.D.Disk.medium l.disk) None;
  harsh : g.D.Disk.harsh l.fn.disk → g.D.Disk.harsh l.disk;
  each : (g.D.Disk.medium l.fn.disk).honest → g.D.Disk.harsh l.fn.disk → LeavesEachTorn (l.at + l.from)
      (l.done - l.from) (g.D.Disk.medium l.fn.disk) (g.D.Disk.medium l.disk);
  tears : (g.D.Disk.medium l.fn.disk).honest → Tears {T = Unit {0}} l.at l.count (g.D.Disk.medium l.fn.disk).bytes
      (g.D.Disk.medium l.fn.disk) (g.D.Disk.medium l.disk) (Ok tt);
}

abbrev pub decreases-loop-done : goal.decreases-loop-done
decreases-loop-done g l = l.count - l.done
