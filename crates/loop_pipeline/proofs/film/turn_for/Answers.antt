use Rattle.loop_pipeline.proofs.film.turn_for.Goals as goal

pub all_locked-requires : goal.all_locked-requires
all_locked-requires g c = c.turn.ensures.locked c.if-turn.true
