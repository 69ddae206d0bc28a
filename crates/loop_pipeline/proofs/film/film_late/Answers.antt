use Rattle.loop_pipeline.proofs.film.film_late.Goals as goal

pub returns-then-over-clause-settled : goal.returns-then-over-clause-settled
returns-then-over-clause-settled g c plain over = c.film_back.ensures.settled plain
