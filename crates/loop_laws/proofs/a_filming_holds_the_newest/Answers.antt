use Rattle.loop_laws.proofs.FilmingsHold.{filming-holds-newest}
use Rattle.loop_laws.proofs.a_filming_holds_the_newest.Goals as goal

pub returns : goal.returns
returns g c = filming-holds-newest g.D.Disk.medium
