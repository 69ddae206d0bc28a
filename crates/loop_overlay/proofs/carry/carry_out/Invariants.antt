use Rattle.std.proofs.Common.{ℕ, List, None, map, take}
use Rattle.loop_disk.specs.Calls.{Called}
use Rattle.loop_disk.specs.Crashing.{call_of, medium_after, moment_after}
use Rattle.loop_disk.specs.Medium.{IsFresh, LeavesOnly}
use Rattle.loop_overlay.specs.Log.{StandsAt}
use Rattle.loop_overlay.proofs.LogCalls.{tape_of}
use Rattle.loop_overlay.proofs.carry.carry_out.Given as goal

abbrev pub invariant-loop-call : goal.invariant-loop-call
invariant-loop-call g l = record {
  called : Called (g.D.Disk.medium l.fn.disk) (g.D.Disk.medium l.disk) None;
  carried : (g.D.Disk.medium l.fn.disk).honest → (start : List ℕ) → IsFresh start (g.D.Disk.medium l.fn.disk)
      → StandsAt (moment_after start (map (call_of (λ v. v.items)) (take l.call-index l.calls))) (g.D.Disk.medium l.disk)
      × LeavesOnly (g.D.Disk.medium l.fn.disk) (g.D.Disk.medium l.disk)
      ((medium_after (tape_of start (map (call_of (λ v. v.items)) l.calls))).left_since 0);
}
