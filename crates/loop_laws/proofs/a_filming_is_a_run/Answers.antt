use Rattle.loop_laws.proofs.FilmingRuns.{filming-is-run}
use Rattle.loop_laws.proofs.a_filming_is_a_run.Goals as goal

pub returns : goal.returns
returns g c = filming-is-run g.D.Disk.medium
