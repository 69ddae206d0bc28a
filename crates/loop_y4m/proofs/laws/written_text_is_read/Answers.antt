use Rattle.loop_y4m.proofs.ReadBack.{text_read}
use Rattle.loop_y4m.proofs.laws.written_text_is_read.Goals as goal

pub returns : goal.returns
returns c = text_read c.args.geometry.now
