use Rattle.loop_station_core.proofs.SaveLaws.{saves-earn}
use Rattle.loop_station_core.proofs.laws.saves_earn_their_clip.Goals as goal

pub returns : goal.returns
returns c = saves-earn
