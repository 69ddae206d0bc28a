use Rattle.std.proofs.Common.{List, ℕ, length, ◌∙◌, ap, subst, OnOk}
use Rattle.loop_disk.specs.declared.fault.DiskFault.TheVariants.{Write}
use Rattle.loop_disk.specs.Medium.{LeavesEachTorn}
use Rattle.loop_disk.specs.Rows.{joined}
use Rattle.loop_overlay.specs.Pages.{Logged, logged}
use Rattle.loop_overlay.proofs.LogCalls.{refused}
use Rattle.loop_overlay.proofs.log.LogDiskDisk.write_rows.Goals as goal

pub returns-in-Ok-clause-each : goal.returns-in-Ok-clause-each
returns-in-Ok-clause-each g c = λ harsh. (
  tt,
  subst (λ (l : List ℕ). OnOk c.write_at.result
      (LeavesEachTorn c.args.at (length l) (logged c.args.self.now) (logged c.write_at.new.self)))
      (c.deref.ensures.value ∙ c.in-Ok.ensures) (c.write_at.ensures.each tt).1,
)

pub returns-in-Err-clause-disk : goal.returns-in-Err-clause-disk
returns-in-Err-clause-disk g c = λ honest.
    refused c.args.self.now.tape _ c.note.new.self c.args.at (joined c.args.rows.now) Write c.note.result c.note.ensures.same
    (ap (λ (log : Logged). record log.tape { failures = c.note.new.self }) c.self.view_is)
