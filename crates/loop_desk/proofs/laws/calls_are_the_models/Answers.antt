use Rattle.loop_desk.proofs.DeskModel.{answers-are}
use Rattle.loop_desk.proofs.laws.calls_are_the_models.Goals as goal

pub returns : goal.returns
returns g c = λ calls s goes stands now. answers-are g.D.Disk.medium _ _ calls s goes stands now
