use Rattle.std.proofs.Common.{◌∙◌, ap, rules}
use Rattle.loop_pipeline.specs.Backs.{with_joined}
use Rattle.loop_pipeline.proofs.SeveralStarts.{taken}
use Rattle.loop_pipeline.proofs.waiting.Waiting.let_in.Goals as goal

pub returns-in-Ok : goal.returns-in-Ok
returns-in-Ok g c = (
  c.remove.result,
  taken c.args.self.now c.remove.new.self.items c.remove.result (search rules) (search rules) (search rules),
  c.in-Ok.ensures.done.1 ∙ ap (λ d. with_joined d c.args.back.now) c.alone.ensures,
)
