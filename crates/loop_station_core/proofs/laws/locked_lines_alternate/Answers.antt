use Rattle.loop_station_core.proofs.LineLaws.{lines-alternate}
use Rattle.loop_station_core.proofs.laws.locked_lines_alternate.Goals as goal

pub returns : goal.returns
returns c = lines-alternate
