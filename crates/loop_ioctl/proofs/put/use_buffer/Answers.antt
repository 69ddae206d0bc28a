use Rattle.std.proofs.Common.{sym, ap, subst, ◌∙◌}
use Rattle.loop_ioctl.specs.declared.call.BufferMemory.TheVariants as memory
use Rattle.loop_ioctl.specs.Parts.{use_call, AppliesOfAny}
use Rattle.loop_ioctl.proofs.QueueSteps.{uses_mmap, uses_user, uses_held}
use Rattle.loop_ioctl.proofs.put.use_buffer.Goals as goal

pub returns-in-Mmap-clause-step : goal.returns-in-Mmap-clause-step
returns-in-Mmap-clause-step g c =
    let m = g.P.PlaneMemory.plane in
    subst (λ x. AppliesOfAny m (use_call c.args.way c.args.index x) c.put.result c.args.queue.now c.args.table.now
    c.put.new.queue c.args.table.now) (sym c.in-Mmap.is)
    (uses_mmap m c.args.way c.args.index c.put.result c.args.queue.now c.put.new.queue c.args.table.now
    c.put.ensures.step c.put.ensures.done c.put.ensures.back)

pub returns-in-UserPtr-clause-step : goal.returns-in-UserPtr-clause-step
returns-in-UserPtr-clause-step g c =
    let m = g.P.PlaneMemory.plane in
    subst (λ x. AppliesOfAny m (use_call c.args.way c.args.index x) c.put-in-UserPtr.result c.args.queue.now
    c.args.table.now c.put-in-UserPtr.new.queue c.args.table.now) (sym c.in-UserPtr.is)
    (uses_user m c.args.way c.args.index c.in-UserPtr.planes c.put-in-UserPtr.result c.args.queue.now
    c.put-in-UserPtr.new.queue c.args.table.now c.put-in-UserPtr.ensures.step c.put-in-UserPtr.ensures.done
    c.put-in-UserPtr.ensures.back)

pub returns-in-None-clause-step : goal.returns-in-None-clause-step
returns-in-None-clause-step g c =
    let m = g.P.PlaneMemory.plane in
    subst (λ x. AppliesOfAny m (use_call c.args.way c.args.index x) c.put-in-None.result c.args.queue.now
    c.args.table.now c.put-in-None.new.queue c.args.table.now)
    (sym (c.in-DmaBuf.is ∙ ap (λ x. memory.DmaBuf x) c.in-None.is))
    (uses_held m c.args.way c.args.index c.put-in-None.result c.args.queue.now c.put-in-None.new.queue
    c.args.table.now c.put-in-None.ensures.step c.put-in-None.ensures.done c.put-in-None.ensures.back)

pub returns-in-Some-clause-step : goal.returns-in-Some-clause-step
returns-in-Some-clause-step g c =
    subst (λ x. AppliesOfAny g.P.PlaneMemory.plane (use_call c.args.way c.args.index x) c.put_named.result
    c.args.queue.now c.args.table.now c.put_named.new.queue c.put_named.new.table)
    (sym (c.in-DmaBuf.is ∙ ap (λ x. memory.DmaBuf x) c.in-Some.is))
    c.put_named.ensures.step
