use Rattle.std.proofs.Common.{◌≡◌, true, false, rules}
use Rattle.loop_ioctl.specs.Events.{is_whole}
use Rattle.loop_desk.specs.Front.{hand_state, index_in, forbids}
use Rattle.loop_desk.proofs.FrontTurns.{told}
use Rattle.loop_desk.proofs.front.on_queue.Goals as goal

pub returns-clause-turn : goal.returns-clause-turn
returns-clause-turn g c =
    let m = g.P.PlaneMemory.plane in
    let whole : is_whole c.args.queue.now.body.shape c.args.event ≡ true = search rules in
    let free : forbids (index_in (hand_state m c.args.hand.now)) c.args.event ≡ false = search rules in
    told m c.args.event c.react.result c.args.queue.now c.react.new.queue c.args.table.now c.react.new.table c.args.hand.now whole free c.react.ensures.step
