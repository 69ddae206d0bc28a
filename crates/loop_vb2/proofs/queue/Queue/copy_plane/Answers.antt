use Rattle.std.proofs.Common.{slice_index_or, length, sym, ap, ◌∙◌}
use Rattle.loop_vb2.proofs.PlaneCopies.{copy_done, copy_refused}
use Rattle.loop_vb2.proofs.queue.Queue.copy_plane.Goals as goal

pub returns-in-Some-clause-step : goal.returns-in-Some-clause-step
returns-in-Some-clause-step g c = copy_refused g.P.PlaneMemory.plane c.args.index c.args.plane c.args.at
    (length c.args.out.now) _ _ c.args.self.now (sym c.copy_refusal.ensures ∙ c.in-Some.is) c.of.ensures

pub returns-in-None-clause-step : goal.returns-in-None-clause-step
returns-in-None-clause-step g c =
    copy_done g.P.PlaneMemory.plane c.args.index c.args.plane c.args.at (length c.args.out.now) c.copy_plane.new.out
    c.args.self.now c.index.result.now (sym c.copy_refusal.ensures ∙ c.in-None.is)
    (c.index.ensures ∙ ap (λ v. slice_index_or v.body.buffers c.args.index c.index.result.now) c.self.view_is) c.copy_plane.ensures
