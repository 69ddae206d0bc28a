use Rattle.std.proofs.Common.{rules}
use Rattle.loop_station_words.proofs.Rooms.{none_more}
use Rattle.loop_station_words.proofs.room.most_tenths.Goals as goal

pub returns-clause-most : goal.returns-clause-most
returns-clause-most c = λ some rate.
    none_more c.args.frames.now.rate_num c.args.frames.now.rate_den c.from.result c.from-2.result some rate (search rules)
    (search rules)
