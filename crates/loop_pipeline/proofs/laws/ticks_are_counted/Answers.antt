use Rattle.std.proofs.Common.{true}
use Rattle.loop_pipeline.proofs.CountedTicks.{counts-ticks}
use Rattle.loop_pipeline.proofs.laws.ticks_are_counted.Goals as goal

pub returns : goal.returns
returns g c given count went on is = counts-ticks g.S.FrameSource.next_gives true _ _ given count went on is
