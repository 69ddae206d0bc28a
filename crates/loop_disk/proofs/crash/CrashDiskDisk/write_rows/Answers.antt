use Rattle.std.proofs.Common.{List, ℕ, length, ◌∙◌, subst, OnOk}
use Rattle.loop_disk.specs.Crashing.{medium_after}
use Rattle.loop_disk.specs.Medium.{LeavesEachTorn}
use Rattle.loop_disk.proofs.crash.CrashDiskDisk.write_rows.Goals as goal

pub returns-in-Ok-clause-each : goal.returns-in-Ok-clause-each
returns-in-Ok-clause-each g c = λ harsh. (
  tt,
  subst (λ (l : List ℕ). OnOk c.write_at.result
      (LeavesEachTorn c.args.at (length l) (medium_after c.args.self.now) (medium_after c.write_at.new.self)))
      (c.deref.ensures.value ∙ c.in-Ok.ensures) (c.write_at.ensures.each tt).1,
)
