use Rattle.loop_station_core.proofs.RoomLaws.{cancels-mean-their-clip}
use Rattle.loop_station_core.proofs.laws.cancels_mean_their_clip.Goals as goal

pub returns : goal.returns
returns c = cancels-mean-their-clip
