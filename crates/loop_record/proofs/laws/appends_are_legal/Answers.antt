use Rattle.loop_record.proofs.LegalSteps.{steps-legal}
use Rattle.loop_record.proofs.laws.appends_are_legal.Goals as goal

pub returns : goal.returns
returns c = steps-legal
