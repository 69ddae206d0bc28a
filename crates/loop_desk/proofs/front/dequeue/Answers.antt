use Rattle.std.proofs.Common.{sym, subst, Ok, refl}
use Rattle.loop_desk.specs.Front.{dequeued, TurnsBeside}
use Rattle.loop_desk.proofs.FrontTurns.{took}
use Rattle.loop_desk.proofs.front.dequeue.Goals as goal

pub returns-in-Ok-dequeue-clause-turn : goal.returns-in-Ok-dequeue-clause-turn
returns-in-Ok-dequeue-clause-turn g c =
    let m = g.P.PlaneMemory.plane in
    subst (λ h. TurnsBeside m c.args.queue.now h (dequeued (Ok c.in-Ok-dequeue.answer.index)) c.dequeue.new.self c.hold.result) (sym c.in-Empty.is)
    (took m c.in-Ok-dequeue.answer c.in-Ok-dequeue.answer.index c.args.queue.now c.dequeue.new.self c.hold.result refl
    c.in-Ok-dequeue.ensures.step c.hold.ensures)
