use Rattle.std.proofs.Common.{◌≡◌}
use Rattle.loop_pipeline.proofs.desks.Desks.hand_all_over.Given as goal

abbrev pub invariant-frames : goal.invariant-frames
invariant-frames g l = l.self ≡ l.fn.self
