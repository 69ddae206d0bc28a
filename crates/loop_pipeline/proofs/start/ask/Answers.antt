use Rattle.loop_pipeline.proofs.EmptyQueue.{stays-open, turned-on}
use Rattle.loop_pipeline.proofs.start.ask.Goals as goal

pub returns-in-Ok-clause-ready : goal.returns-in-Ok-clause-ready
returns-in-Ok-clause-ready g c =
    stays-open g.P.PlaneMemory.plane c.args.call _ _ _ _ _ c.turns_are_events.ensures c.queues_stay_sound.ensures
    c.in-Ok.ensures.step c.in-Ok.ensures.shape c.requires

pub returns-in-Ok-clause-streams : goal.returns-in-Ok-clause-streams
returns-in-Ok-clause-streams g c = λ type same.
    turned-on g.P.PlaneMemory.plane c.args.call _ _ _ _ _ type c.requires c.in-Ok.ensures.step same
