-- A back, after a look at a door.
use Rattle.std.proofs.Common.{List}
use Rattle.loop_desk.specs.Seen.{SeenDesk}
use Rattle.loop_pipeline.specs.declared.waiting.Arrival.{Arrival}
use Rattle.loop_pipeline.specs.declared.waiting.Arrival.TheVariants.{Joined, Full, Nobody}
use Rattle.loop_pipeline.specs.Backs.{SeenBack}
use Rattle.loop_pipeline.specs.Doors.{HasArrived, LetsIn}

-- what became of it
pub arrived : {D A : Type 0} (came : Arrival) (waited waiting : List (SeenDesk D)) (old new : SeenBack D A)
    → LetsIn came waited waiting old new → HasArrived came old new
arrived Joined waited waiting old new lets = (lets.0, lets.2)
arrived Full waited waiting old new lets = lets.1
arrived Nobody waited waiting old new lets = lets.2
