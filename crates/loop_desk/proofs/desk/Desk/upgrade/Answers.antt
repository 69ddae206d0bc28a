use Rattle.std.proofs.Common.{ap, ◌∙◌, arith}
use Rattle.loop_record.specs.Plain.{pictures}
use Rattle.loop_store.specs.Calls.{upgraded}
use Rattle.loop_store.specs.Seen.{Seen}
use Rattle.loop_store.proofs.NextNumber.{next-one}
use Rattle.loop_desk.specs.Seen.{SeenDesk}
use Rattle.loop_desk.proofs.Always.{kept-same}
use Rattle.loop_desk.proofs.desk.Desk.upgrade.Goals as goal

pub invariant_of-self : goal.invariant_of-self
invariant_of-self g c =
    let s = c.self.inside in
    let new = c.upgrade.new.self in
    let goes = c.upgrade.ensures.goes in
    kept-same s.store new s.limits s.pending c.self.invariant goes.geometry (omega (arith, next-one s.store new (upgraded c.upgrade.result) goes))

pub returns-clause-unmoved : goal.returns-clause-unmoved
returns-clause-unmoved g c = λ none.
    let s = c.self.inside in
    let shown : Seen g.row.D.Denot → SeenDesk g.row.D.Denot =
    λ store. record { store = store; pending = pictures s.pending.items; limits = s.limits } in
    ap shown (c.upgrade.ensures.unmoved none) ∙ c.self.view_is
