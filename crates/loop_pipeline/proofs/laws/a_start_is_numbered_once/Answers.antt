use Rattle.loop_pipeline.proofs.CountedTicks.{counts-first}
use Rattle.loop_pipeline.proofs.laws.a_start_is_numbered_once.Goals as goal

pub returns : goal.returns
returns g c one given count asks went is = counts-first g.S.FrameSource.next_gives _ _ one given count asks went is
