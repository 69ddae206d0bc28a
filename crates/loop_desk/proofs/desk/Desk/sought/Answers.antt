use Rattle.std.proofs.Common.{subst}
use Rattle.std.specs.Prelude.{IfErr, IfOk}
use Rattle.loop_record.specs.Plain.{pictures}
use Rattle.loop_desk.specs.Desk.{runs_told}
use Rattle.loop_desk.specs.Seen.{DeskGoes, OutlineRefuses, SeenDesk}
use Rattle.loop_desk.proofs.OneCall.{goes-sought, sought-refused}
use Rattle.loop_desk.proofs.desk.Desk.sought.Goals as goal

pub returns-clause-goes : goal.returns-clause-goes
returns-clause-goes g c =
    let s = c.self.inside in
    let d : SeenDesk g.row.D.Denot = record { store = s.store; pending = pictures s.pending.items; limits = s.limits } in
    subst (λ (v : SeenDesk g.row.D.Denot). IfOk c.sought.result (λ runs. DeskGoes g.D.Disk.medium v v (runs_told c.args.times 0 runs.items)))
    c.self.view_is (goes-sought g.D.Disk.medium d (λ runs. runs.items) c.args.times c.sought.result c.sought.ensures
    (λ now. g.met.D.Disk.sound s.store.disk now))

pub returns-clause-refused : goal.returns-clause-refused
returns-clause-refused g c =
    let s = c.self.inside in
    let d : SeenDesk g.row.D.Denot = record { store = s.store; pending = pictures s.pending.items; limits = s.limits } in
    subst (λ (v : SeenDesk g.row.D.Denot). IfErr c.sought.result (λ fault. OutlineRefuses v fault))
    c.self.view_is (sought-refused g.D.Disk.medium d (λ runs. runs.items) c.args.times c.sought.result c.sought.ensures)
