use Rattle.loop_station_core.proofs.RoomLaws.{keeps-have-room}
use Rattle.loop_station_core.proofs.laws.keeps_have_room.Goals as goal

pub returns : goal.returns
returns c = keeps-have-room
