use Rattle.std.proofs.Common.{rules}
use Rattle.loop_station_words.proofs.Minutes.{part_is}
use Rattle.loop_station_words.proofs.fields.part_seconds.Goals as goal

pub returns-then-part-2 : goal.returns-then-part-2
returns-then-part-2 c = rw (part_is c.args.unit c.args.part) (search rules)

pub returns-else-part : goal.returns-else-part
returns-else-part c = rw (part_is c.args.unit c.args.part) (search rules)
