use Rattle.std.proofs.Common.{sym, ◌∙◌}
use Rattle.loop_ioctl.proofs.QueueSteps.{named_early, named_fails, named_uses, named_still}
use Rattle.loop_ioctl.proofs.put.put_named.Goals as goal

pub returns-in-Some-clause-step : goal.returns-in-Some-clause-step
returns-in-Some-clause-step g c =
    named_early g.P.PlaneMemory.plane c.args.way c.args.index c.args.named c.in-Some.reason c.refuse.result
    c.args.queue.now c.args.table.now (sym c.early_refusal.ensures ∙ c.in-Some.is)
    (c.refuse.ensures.errno ∙ c.of.ensures) c.refuse.ensures.back

pub returns-in-Ok-clause-step : goal.returns-in-Ok-clause-step
returns-in-Ok-clause-step g c =
    named_uses g.P.PlaneMemory.plane c.args.way c.args.index c.args.named c.in-Ok.set c.put_taken.result
    c.args.queue.now c.put_taken.new.queue c.args.table.now c.take_set.new.table c.put_taken.new.table
    (sym c.early_refusal.ensures ∙ c.in-None.is) c.in-Ok.ensures c.put_taken.ensures.step c.put_taken.ensures.done
    c.put_taken.ensures.back c.put_taken.ensures.gives

pub returns-in-Ok-clause-still : goal.returns-in-Ok-clause-still
returns-in-Ok-clause-still g c = named_still c.put_taken.result c.args.named c.in-Ok.set c.args.table.now
    c.take_set.new.table c.put_taken.new.table c.in-Ok.ensures c.put_taken.ensures.gives

pub returns-in-Err-clause-step : goal.returns-in-Err-clause-step
returns-in-Err-clause-step g c =
    named_fails g.P.PlaneMemory.plane c.args.way c.args.index c.args.named c.in-Err.reason c.refuse-in-Err.result
    c.args.queue.now c.args.table.now c.take_set.new.table
    (sym c.early_refusal.ensures ∙ c.in-None.is) c.in-Err.ensures (c.refuse-in-Err.ensures.errno ∙ c.of-in-Err.ensures) c.refuse-in-Err.ensures.back
