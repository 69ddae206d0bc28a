use Rattle.loop_y4m.proofs.ReadBack.{deep_read}
use Rattle.loop_y4m.proofs.laws.written_deep_text_is_read.Goals as goal

pub returns : goal.returns
returns c = deep_read c.args.geometry.now c.args.depth
