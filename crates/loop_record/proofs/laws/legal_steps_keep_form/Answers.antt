use Rattle.loop_record.proofs.LegalSteps.{after-well_formed}
use Rattle.loop_record.proofs.laws.legal_steps_keep_form.Goals as goal

pub returns : goal.returns
returns c = after-well_formed
