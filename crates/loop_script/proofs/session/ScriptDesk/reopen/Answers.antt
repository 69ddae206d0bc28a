use Rattle.std.proofs.Common.{◌∙◌, ap, inr, subst}
use Rattle.loop_store.specs.Reopen.{IsRefusedOpen}
use Rattle.loop_script.proofs.DeskCalls.{memory}
use Rattle.loop_script.proofs.Reopenings.{refused_in_memory}
use Rattle.loop_script.proofs.session.ScriptDesk.reopen.Goals as goal

pub returns-in-Err-clause-refused : goal.returns-in-Err-clause-refused
returns-in-Err-clause-refused g c =
    let fault = c.in-Err.field-0.fault in
    inr (subst (λ disk. IsRefusedOpen c.args.keep (memory disk).bytes fault)
    (c.into_disk.ensures ∙ ap (λ v. v.desk.store.disk) c.self.view_is)
    (refused_in_memory c.into_disk.result c.in-Err.field-0.disk c.args.keep fault c.in-Err.ensures.stays
    c.in-Err.ensures.refused))
