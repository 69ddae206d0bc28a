use Rattle.loop_desk.proofs.Blind.{blind}
use Rattle.loop_desk.proofs.laws.model_is_blind.Goals as goal

pub returns : goal.returns
returns c = λ k s calls. blind k s calls
