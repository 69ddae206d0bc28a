use Rattle.loop_desk.proofs.FootageRuns.{keeps-footage}
use Rattle.loop_desk.proofs.laws.calls_keep_footage.Goals as goal

pub returns : goal.returns
returns g c = λ calls s goes stands now. keeps-footage g.D.Disk.medium _ _ calls s goes stands now
