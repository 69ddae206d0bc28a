use denote.Param.Send.{sendable}
use Rattle.std.proofs.Crossing.{crosses}
use Rattle.loop_station_shared.proofs.Crossing.{source_send}
use Rattle.loop_station_work.proofs.filming.fn.film.scope.Goals as goal

pub film_desks-filmed-requires-send-S : goal.film_desks-filmed-requires-send-S
film_desks-filmed-requires-send-S g c κs = let a = source_send in search (sendable, crosses) depth 20
