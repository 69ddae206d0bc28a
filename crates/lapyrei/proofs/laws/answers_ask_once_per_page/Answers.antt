use Rattle.lapyrei.proofs.Asking.{asked_few}
use Rattle.lapyrei.proofs.laws.answers_ask_once_per_page.Goals as goal

pub returns : goal.returns
returns c = asked_few
