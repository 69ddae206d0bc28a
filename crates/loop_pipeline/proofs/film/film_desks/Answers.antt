use Rattle.std.proofs.Common.{◌≡◌, ◌∙◌, false, ap, subst, sym}
use Rattle.std.specs.Global.{Global}
use Rattle.loop_pipeline.specs.Fronts.{Leaves, SeenFront, StaysOpen}
use Rattle.loop_pipeline.proofs.Joining.{keeps-joined}
use Rattle.loop_pipeline.proofs.Settling.{ends-settled}
use Rattle.loop_pipeline.proofs.film.film_desks.Goals as goal

pub returns-then-ended-clause-keeps : goal.returns-then-ended-clause-keeps
returns-then-ended-clause-keeps g c =
    keeps-joined g.D.Disk.medium g.S.FrameSource.next_gives g.P.PlaneMemory.plane g.G.Visits.asks g.G.Visits.gives_up
    g.G.Guide.due g.G.Guide.ends _ c.args.guided.camera _ c.camera.inside.device c.camera.inside.queue c.camera.inside.desk _
    c.args.guided.guide.now _ _ _ c.run_in-front.result.back _ _ _ _ _ c.camera.view_is c.of-again.ensures c.in-Ok-new.ensures.made
    c.next_sequence.ensures c.run_in-front.ensures.back c.end_both-ended.ensures.keeps

-- the queue that ended is that of the camera that was given
pub returns-then-ended-clause-again : goal.returns-then-ended-clause-again
returns-then-ended-clause-again g c =
    let ended = c.end_both-ended.result in
    subst (λ q. StaysOpen g.P.PlaneMemory.plane q ended.queue ended.table)
    (ap (λ (s : SeenFront g.row.S.Denot g.row.P.Denot g.row.G.Denot Global). s.queue) c.of-again.ensures
    ∙ ap (λ v. v.queue) c.camera.view_is) c.end_both-ended.ensures.again

-- what a front leaves is of the camera that was given
pub end_both-ended-requires-clause-front : goal.end_both-ended-requires-clause-front
end_both-ended-requires-clause-front g c =
    let left = c.run_in-front.result.front in
    subst (λ (seen : SeenFront g.row.S.Denot g.row.P.Denot g.row.G.Denot Global).
    (left.over ≡ false → (left.device ≡ seen.device) × (left.queue ≡ seen.queue))
    × Leaves g.S.FrameSource.next_gives g.P.PlaneMemory.plane (g.G.Guide.due seen.guide) (g.G.Guide.ends seen.guide) seen (record {
      device = left.device;
      queue = left.queue;
      table = left.table;
      hand = left.hand;
      to = left.to.to;
      missed = left.missed;
      failed = left.failed;
      over = left.over;
    })) (c.of-begun.ensures ∙ sym c.of-again.ensures) c.run_in-front.ensures.front

pub returns-else-ended-clause-refused : goal.returns-else-ended-clause-refused
returns-else-ended-clause-refused g c =
    let rests = c.end_both-ended.ensures.rests c.if-ended.false in (
      rests.0 ∙ (ap (λ (s : SeenFront g.row.S.Denot g.row.P.Denot g.row.G.Denot Global). s.device) c.of-again.ensures
          ∙ ap (λ v. v.device) c.camera.view_is),
      rests.1 ∙ (ap (λ (s : SeenFront g.row.S.Denot g.row.P.Denot g.row.G.Denot Global). s.queue) c.of-again.ensures
          ∙ ap (λ v. v.queue) c.camera.view_is),
      c.end_both-ended.ensures.again.0,
      keeps-joined g.D.Disk.medium g.S.FrameSource.next_gives g.P.PlaneMemory.plane g.G.Visits.asks g.G.Visits.gives_up
          g.G.Guide.due g.G.Guide.ends _ c.args.guided.camera _ c.camera.inside.device c.camera.inside.queue c.camera.inside.desk _
          c.args.guided.guide.now _ _ _ c.run_in-front.result.back _ _ _ _ _ c.camera.view_is c.of-again.ensures c.in-Ok-new.ensures.made
          c.next_sequence.ensures c.run_in-front.ensures.back c.end_both-ended.ensures.keeps,
    )

pub returns-then-ended-clause-settled : goal.returns-then-ended-clause-settled
returns-then-ended-clause-settled g c plain =
    ends-settled g.D.Disk.medium g.G.Visits.gives_up _ c.args.guided.camera.desk c.camera.inside.desk _ _
    c.run_in-front.result.back _ _ (ap (λ v. v.desk) c.camera.view_is) c.in-Ok-new.ensures.made c.run_in-front.ensures.back
    c.end_both-ended.ensures.desks.0 c.end_both-ended.ensures.desks.1 c.end_both-ended.ensures.left
    (c.run_in-front.ensures.settled plain (sym c.end_both-ended.ensures.over ∙ c.if-ended.true))
