use Rattle.std.proofs.Common.{◌≡◌, sym, subst, Ok, Err, ◌∙◌}
use Rattle.loop_desk.specs.declared.hand.LaneFault.TheVariants.{Queue}
use Rattle.loop_desk.specs.declared.hand.Hand.TheVariants as hand
use Rattle.loop_desk.specs.Front.{requeued, TurnsBeside}
use Rattle.loop_desk.proofs.FrontTurns.{put_in_queue, put_none}
use Rattle.loop_desk.proofs.front.requeue.Goals as goal

pub returns-in-Ok-clause-turn : goal.returns-in-Ok-clause-turn
returns-in-Ok-clause-turn g c =
    let m = g.P.PlaneMemory.plane in
    let is : c.args.hand.now ≡ hand.Spent c.in-Spent.index c.in-Spent.planes = sym c.replace.ensures.value ∙ c.in-Spent.is in
    subst (λ h. TurnsBeside m c.args.queue.now h (requeued (Ok c.in-Spent.index)) c.queue.new.self c.replace.new.dest) (sym is)
    (subst (λ h. TurnsBeside m c.args.queue.now (hand.Spent c.in-Spent.index c.in-Spent.planes)
    (requeued (Ok c.in-Spent.index)) c.queue.new.self h) (sym c.replace.ensures.after)
    (put_in_queue m c.kind.result c.in-Spent.index c.in-Spent.planes c.args.queue.now c.queue.new.self c.kind.ensures c.in-Ok.ensures.step))

pub returns-in-Err-clause-turn : goal.returns-in-Err-clause-turn
returns-in-Err-clause-turn g c =
    let m = g.P.PlaneMemory.plane in
    let is : c.args.hand.now ≡ hand.Spent c.in-Spent.index c.in-Spent.planes = sym c.replace.ensures.value ∙ c.in-Spent.is in
    subst (λ h. TurnsBeside m c.args.queue.now h (requeued (Err (Queue c.in-Err.refused.errno))) c.queue.new.self
    (hand.Spent c.in-Spent.index c.in-Err.refused.planes)) (sym is)
    (put_none m c.in-Err.refused c.kind.result c.in-Spent.index c.in-Spent.planes c.args.queue.now c.queue.new.self
    c.kind.ensures c.in-Err.ensures.back c.in-Err.ensures.step)
