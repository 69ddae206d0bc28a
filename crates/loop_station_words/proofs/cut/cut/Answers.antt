use Rattle.loop_station_words.proofs.CutTexts.{cut-split}
use Rattle.loop_station_words.proofs.cut.cut.Goals as goal

pub returns : goal.returns
returns c = cut-split c.args.at c.args.text.now c.split_once.result c.split_once.ensures.cases c.requires
