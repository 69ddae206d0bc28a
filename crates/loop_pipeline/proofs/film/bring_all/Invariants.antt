use Rattle.std.proofs.Common.{◌≡◌}
use Rattle.loop_pipeline.proofs.film.bring_all.Given as goal

abbrev pub invariant-frames : goal.invariant-frames
invariant-frames g l = l.back ≡ record l.fn.back { desks = l.back.desks; active = l.back.active; end = l.back.end }
