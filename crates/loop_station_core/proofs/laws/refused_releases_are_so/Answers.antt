use Rattle.loop_station_core.proofs.ReaderLaws.{refused-so}
use Rattle.loop_station_core.proofs.laws.refused_releases_are_so.Goals as goal

pub returns : goal.returns
returns c = refused-so
