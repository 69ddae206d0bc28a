use Rattle.loop_laws.proofs.FilmingsHold.{unlocked-never-full}
use Rattle.loop_laws.proofs.an_unlocked_store_never_fills.Goals as goal

pub returns : goal.returns
returns c = unlocked-never-full
