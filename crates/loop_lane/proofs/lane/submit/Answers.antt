use Rattle.std.proofs.Common.{Err, sym, ◌∙◌, subst}
use Rattle.loop_store.specs.declared.fault.StoreFault.TheVariants.{HandEmpty}
use Rattle.loop_desk.specs.declared.hand.Hand.{Hand}
use Rattle.loop_desk.specs.Front.{hand_state}
use Rattle.loop_lane.specs.Lane.{submit_calls}
use Rattle.loop_desk.specs.Seen.{DeskGoes}
use Rattle.loop_desk.proofs.CallRuns.{desk-none}
use Rattle.loop_lane.proofs.lane.submit.Goals as goal

pub returns-in-Spent-clause-goes : goal.returns-in-Spent-clause-goes
returns-in-Spent-clause-goes g c =
    subst (λ (h : Hand g.row.P.Denot g.row.A.Denot). DeskGoes g.D.Disk.medium c.args.desk.now c.args.desk.now
    (submit_calls (hand_state g.P.PlaneMemory.plane h) (Err HandEmpty)))
    (sym (sym c.replace.ensures.value ∙ c.in-Spent.is))
    (desk-none g.D.Disk.medium c.args.desk.now c.opens.ensures.tells (λ now. g.met.D.Disk.sound c.args.desk.now.store.disk now))

pub returns-in-Empty-clause-goes : goal.returns-in-Empty-clause-goes
returns-in-Empty-clause-goes g c =
    subst (λ (h : Hand g.row.P.Denot g.row.A.Denot). DeskGoes g.D.Disk.medium c.args.desk.now c.args.desk.now
    (submit_calls (hand_state g.P.PlaneMemory.plane h) (Err HandEmpty)))
    (sym (sym c.replace.ensures.value ∙ c.in-Empty.is))
    (desk-none g.D.Disk.medium c.args.desk.now c.opens.ensures.tells (λ now. g.met.D.Disk.sound c.args.desk.now.store.disk now))
