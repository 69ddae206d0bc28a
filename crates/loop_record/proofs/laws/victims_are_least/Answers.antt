use Rattle.loop_record.proofs.Victim.{victim-is, victim-none}
use Rattle.loop_record.proofs.laws.victims_are_least.Goals as goal

pub returns : goal.returns
returns c = λ ring keep r some w. record { some = λ b. victim-is ring keep r b some w; none = victim-none ring keep r some w }
