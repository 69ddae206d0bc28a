use Rattle.std.proofs.Common.{sym, ◌∙◌, refl, Some}
use Rattle.loop_vb2.specs.Refusals.{end_refusal}
use Rattle.loop_vb2.specs.Events.{complete}
use Rattle.loop_vb2.proofs.Steps.{complete_done, refused, end_refusal_read}
use Rattle.loop_vb2.proofs.queue.Queue.complete_from.Goals as goal

pub returns-in-Some-clause-step : goal.returns-in-Some-clause-step
returns-in-Some-clause-step g c =
    let m = g.P.PlaneMemory.plane in
    refused m (complete c.args.index c.args.stamp c.args.row.now.items (Some c.of.result)) (end_refusal c.args.index) _ _
    c.args.self.now (end_refusal_read m c.args.index c.args.self.now.body
    ∙ (sym c.end_refusal.ensures ∙ c.in-Some.is)) c.of.ensures (λ s f. f) (λ s. refl)

pub returns-in-None-clause-step : goal.returns-in-None-clause-step
returns-in-None-clause-step g c = complete_done g.P.PlaneMemory.plane c.args.index c.args.stamp c.args.row.now.items
    c.args.self.now _ c.requires.whole (sym c.end_refusal.ensures ∙ c.in-None.is) c.finish_from.ensures.finished
