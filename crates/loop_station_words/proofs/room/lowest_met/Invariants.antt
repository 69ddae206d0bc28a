use Rattle.std.proofs.Common.{◌≡◌, drop}
use Rattle.loop_station_words.specs.Rooms.{lowest_met, nearer}
use Rattle.loop_station_words.proofs.room.lowest_met.Given as goal

abbrev pub invariant-clips : goal.invariant-clips
invariant-clips l = nearer l.lowest (lowest_met l.slots l.from (drop l.clip-index l.clips)) ≡ lowest_met l.slots l.from l.clips
