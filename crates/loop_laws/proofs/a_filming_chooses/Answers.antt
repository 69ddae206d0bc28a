use Rattle.loop_laws.proofs.Filmings.{frame-is-choice, turn-is-choice}
use Rattle.loop_laws.proofs.a_filming_chooses.Goals as goal

pub returns-clause-turns : goal.returns-clause-turns
returns-clause-turns g c = turn-is-choice g.D.Disk.medium

pub returns-clause-frames : goal.returns-clause-frames
returns-clause-frames g c = frame-is-choice g.D.Disk.medium
