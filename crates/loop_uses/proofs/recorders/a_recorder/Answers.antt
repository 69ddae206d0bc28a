use Rattle.std.proofs.Common.{arith, ap, length, sym, ◌∙◌}
use Rattle.std.proofs.lemmas.List.{length-map}
use Rattle.loop_pipeline.specs.Notes.{pass_number}
use Rattle.loop_recorder.proofs.OutlineSteps.{tell-count}
use Rattle.loop_uses.proofs.recorders.a_recorder.Goals as goal

pub returns-in-Ok-new : goal.returns-in-Ok-new
returns-in-Ok-new c =
    let made = c.in-Ok-new.made in
    let count = tell-count _ c.push_reserved.new.self.items made.0.outlines c.in-Ok-new.ensures.outlines in
    let passes = sym (length-map made.1.items pass_number) ∙ ap length c.in-Ok-new.ensures.passes in (
      omega (arith, count, ap length c.push_reserved.ensures.items, ap length c.in-Ok.ensures.items),
      omega (arith, passes, made.1.ok.0),
    )
