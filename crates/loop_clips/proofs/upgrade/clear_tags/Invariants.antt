use Rattle.loop_clips.proofs.UpgradeWrites.{IsCleared}
use Rattle.loop_clips.proofs.upgrade.clear_tags.Given as goal

abbrev pub invariant-loop-id : goal.invariant-loop-id
invariant-loop-id g l = IsCleared l.id (g.D.Disk.medium l.fn.disk) (g.D.Disk.medium l.disk)
