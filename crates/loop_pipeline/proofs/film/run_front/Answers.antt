use Rattle.std.proofs.Common.{◌≡◌, ◌∙◌, subst}
use Rattle.loop_pipeline.specs.Fronts.{Leaves}
use Rattle.loop_pipeline.proofs.film.run_front.Goals as goal
use Rattle.loop_pipeline.proofs.film.run_front.Goals.{in-Some-tick, in_default}

-- what an ended front leaves, it leaves of the one that was given
pub returns-in-Ok-clause-leaves : goal.returns-in-Ok-clause-leaves
returns-in-Ok-clause-leaves g c =
    let same : c.match-tick.front ≡ c.args.front = elim c.match-tick.branch [
      | in-Some-tick w ↦ w.front-is ∙ (w.take_all.ensures ∙ (c.tick.ensures ∙ c.ticks.invariant))
      | in_default w ↦ w.front-is ∙ (c.tick.ensures ∙ c.ticks.invariant)
    ] in
    subst (λ v. Leaves g.S.FrameSource.next_gives g.P.PlaneMemory.plane (g.G.Guide.due v.guide) (g.G.Guide.ends v.guide) v c.in-Ok.parts)
    same c.in-Ok.ensures.ended.1
