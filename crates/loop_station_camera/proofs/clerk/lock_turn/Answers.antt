use Rattle.std.proofs.Common.{◌≡◌, None, Some, refl, rules}
use Rattle.loop_station_camera.specs.Keeping.{TakesTurn}
use Rattle.loop_station_camera.proofs.KeepTurns.{turn-taken, turn-within}
use Rattle.loop_station_camera.proofs.clerk.lock_turn.Goals as goal

pub returns-in-None : goal.returns-in-None
returns-in-None g c =
    let turn : TakesTurn g.D.Disk.medium c.args.keep c.args.desks.now.lent.active c.args.desks.now.desks
    c.args.desks.now.desks =
    turn-taken g.D.Disk.medium c.args.keep c.args.desks.now.lent.active c.args.desks.now.desks
    c.args.desks.now.desks c.turn_of-turn.result None c.turn_of-turn.ensures (search rules) refl in
    record {
      turn = turn;
      within = turn-within g.D.Disk.medium c.args.keep c.args.desks.now.lent.active c.args.desks.now.desks
          c.args.desks.now.desks turn;
      told = tt;
      lent = refl;
    }

pub returns-in-Some : goal.returns-in-Some
returns-in-Some g c =
    let turn : TakesTurn g.D.Disk.medium c.args.keep c.args.desks.now.lent.active c.args.desks.now.desks
    c.lock_part-outcome.new.desks.desks =
    turn-taken g.D.Disk.medium c.args.keep c.args.desks.now.lent.active c.args.desks.now.desks
    c.lock_part-outcome.new.desks.desks c.turn_of-turn.result (Some c.in-Some.part) c.turn_of-turn.ensures (search rules) (
      c.lock_part-outcome.result,
      (c.lock_part-outcome.ensures.keep, c.lock_part-outcome.ensures.part),
      c.lock_part-outcome.ensures.locks,
    ) in
    record {
      turn = turn;
      within = turn-within g.D.Disk.medium c.args.keep c.args.desks.now.lent.active c.args.desks.now.desks
          c.lock_part-outcome.new.desks.desks turn;
      told = c.lock_part-outcome.ensures.locks;
      lent = c.lock_part-outcome.ensures.lent;
    }
