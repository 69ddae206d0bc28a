use Rattle.std.proofs.Common.{refl}
use Rattle.std.specs.Prelude.{codes}
use Rattle.loop_station_words.proofs.FileNames.{ends-not}
use Rattle.loop_station_words.proofs.files.parts_of.Goals as goal

pub returns-in-None-clause-stem : goal.returns-in-None-clause-stem
returns-in-None-clause-stem c = rw (ends-not (codes ".loop") c.args.path.now c.in-None.ensures.cases) refl

pub returns-in-None-clause-ending : goal.returns-in-None-clause-ending
returns-in-None-clause-ending c = rw (ends-not (codes ".loop") c.args.path.now c.in-None.ensures.cases) refl
