use Rattle.std.proofs.Common.{sym, ◌∙◌}
use Rattle.loop_pipeline.proofs.desks.Desks.has_clip.Goals as goal

pub returns : goal.returns
returns g c = (
  c.clip.ensures.0,
  c.clip.ensures.1,
  ((λ yes. sym c.clip.ensures.2 ∙ c.is_clip.ensures.0 yes), (λ is. c.is_clip.ensures.1 (c.clip.ensures.2 ∙ is))),
)
