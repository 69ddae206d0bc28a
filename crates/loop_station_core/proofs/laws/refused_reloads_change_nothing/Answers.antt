use Rattle.loop_station_core.proofs.ReloadLaws.{refused-change-nothing}
use Rattle.loop_station_core.proofs.laws.refused_reloads_change_nothing.Goals as goal

pub returns : goal.returns
returns c = refused-change-nothing
