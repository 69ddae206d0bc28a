use Rattle.std.proofs.Common.{ℕ, Result, Ok, subst}
use Rattle.loop_store.specs.declared.fault.StoreFault.{StoreFault}
use Rattle.loop_desk.specs.Seen.{DeskGoes}
use Rattle.loop_script.specs.Sessions.{calls_of_submit}
use Rattle.loop_script.proofs.DeskCalls.{memory, store-goes}
use Rattle.loop_script.proofs.session.ScriptDesk.store_next.Goals as goal

pub returns-in-Ok-clause-goes : goal.returns-in-Ok-clause-goes
returns-in-Ok-clause-goes g c =
    let old = c.args.self.now in
    let mid = c.submit_next.new.self in
    let number = c.in-Ok.field-0 in
    let first : DeskGoes memory old.desk mid.desk (calls_of_submit old.desk.store.geometry old.accepted (Ok number)) =
    subst (λ (x : Result ℕ StoreFault). DeskGoes memory old.desk mid.desk
    (calls_of_submit old.desk.store.geometry old.accepted x)) c.in-Ok.is c.submit_next.ensures.goes in
    store-goes old.desk mid.desk c.flush.new.self.desk old.accepted number c.flush.result first c.flush.ensures.goes c.flush.ensures.refusals
