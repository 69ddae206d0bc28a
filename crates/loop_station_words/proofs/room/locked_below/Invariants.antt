use Rattle.std.proofs.Common.{◌≡◌, ◌≤◌, ◌-◌}
use Rattle.loop_station_words.specs.Rooms.{locked_below}
use Rattle.loop_station_words.proofs.room.locked_below.Given as goal

abbrev pub invariant-blocks-2 : goal.invariant-blocks-2
invariant-blocks-2 l = record {
  locked : l.locked ≡ locked_below l.slots l.clips l.counted;
  few : l.locked ≤ l.counted;
  counted : l.counted ≤ l.end;
}

abbrev pub decreases-blocks-2 : goal.decreases-blocks-2
decreases-blocks-2 l = l.end - l.counted
