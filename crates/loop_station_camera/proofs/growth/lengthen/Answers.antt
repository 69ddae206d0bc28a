use Rattle.std.proofs.Common.{◌≡◌, None, Some, refl, rules, sym}
use Rattle.loop_station_camera.proofs.KeepTurns.{turn-grown}
use Rattle.loop_station_camera.proofs.growth.lengthen.Goals as goal

pub returns-in-None : goal.returns-in-None
returns-in-None g c = record {
  turn = turn-grown g.D.Disk.medium c.args.growing.keep c.args.desks.now.lent.active c.args.desks.now.desks
      c.args.desks.now.desks c.turn_of-turn.result None c.turn_of-turn.ensures (search rules) refl;
  lent = refl;
}

pub returns : goal.returns
returns g c = record {
  turn = turn-grown g.D.Disk.medium c.args.growing.keep c.args.desks.now.lent.active c.args.desks.now.desks
      c.store_and_keep_more-kept.new.desks.desks c.turn_of-turn.result (Some c.in-Some.part) c.turn_of-turn.ensures (search rules)
      (c.store_and_keep_more-kept.result.0, c.store_and_keep_more-kept.result.1, c.store_and_keep_more-kept.ensures.keeps);
  lent = c.store_and_keep_more-kept.ensures.lent;
}
