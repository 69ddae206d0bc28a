use Rattle.std.proofs.Common.{◌≡◌, ◌∙◌, false, true, refl, sym}
use Rattle.loop_pipeline.proofs.FrontRuns.{rested}
use Rattle.loop_pipeline.proofs.film.film_carried.Goals as goal

pub returns-then-not-wait_for_others : goal.returns-then-not-wait_for_others
returns-then-not-wait_for_others g c = (
  λ _. (refl, refl),
  rested g.S.FrameSource.next_gives g.P.PlaneMemory.plane (g.G.Guide.due c.args.guide.now) (g.G.Guide.ends c.args.guide.now)
      c.args.inlet.queue c.args.inlet.table c.args.inlet.device (g.W.Carrier.inside c.args.inlet.to) c.args.guide.now c.requires.ready c.requires.ring,
)

pub returns : goal.returns
returns g c = (
  λ e. absurd (let is : true ≡ false = sym c.film_front-device.ensures.over ∙ e in cc),
  rw (sym c.open.ensures, c.close.ensures) c.film_front-device.ensures.leaves,
)
