use Rattle.std.proofs.Common.{Ok, Err, sym, subst}
use Rattle.loop_vb2.specs.Events.{Happens, streamon, mmap, munmap}
use Rattle.loop_ioctl.specs.declared.call.IoctlReply.TheVariants.{Info, Done}
use Rattle.loop_ioctl.specs.Parts.{AppliesTyped}
use Rattle.loop_ioctl.proofs.IoctlSteps.{stream_on_applies, stream_off_applies, map_applies, unmap_applies, query_applies, query_refused, where_refused}
use Rattle.loop_ioctl.proofs.dispatch.dispatch.Goals as goal

pub returns-in-StreamOn-clause-step : goal.returns-in-StreamOn-clause-step
returns-in-StreamOn-clause-step g c =
    let m = g.P.PlaneMemory.plane in
    subst (λ x. AppliesTyped m x c.done_unless.result c.args.queue.now c.args.table.now c.stream_on.new.self c.args.table.now) (sym c.in-StreamOn.is)
    (stream_on_applies m c.in-StreamOn.buf_type c.done_unless.result c.args.queue.now c.stream_on.new.self
    c.args.table.now (subst (λ r. Happens m c.args.queue.now c.stream_on.new.self (streamon r))
    (sym c.done_unless.ensures.refusal) c.stream_on.ensures.step) c.done_unless.ensures.done
    c.done_unless.ensures.back)

pub returns-in-StreamOn-clause-same : goal.returns-in-StreamOn-clause-same
returns-in-StreamOn-clause-same g c = where_refused _ c.done_unless.result c.stream_on.result c.done_unless.ensures.refusal c.stream_on.ensures.same

pub returns-in-StreamOff-clause-step : goal.returns-in-StreamOff-clause-step
returns-in-StreamOff-clause-step g c =
    let m = g.P.PlaneMemory.plane in
    subst (λ x. AppliesTyped m x (Ok Done) c.args.queue.now c.args.table.now c.stream_off.new.self c.args.table.now) (sym c.in-StreamOff.is)
    (stream_off_applies g.row.A.Denot m c.in-StreamOff.buf_type c.args.queue.now c.stream_off.new.self c.args.table.now c.stream_off.ensures.step)

pub returns-in-Mmap-clause-step : goal.returns-in-Mmap-clause-step
returns-in-Mmap-clause-step g c =
    let m = g.P.PlaneMemory.plane in
    subst (λ x. AppliesTyped m x c.done_unless-in-Mmap.result c.args.queue.now c.args.table.now c.map.new.self c.args.table.now) (sym c.in-Mmap.is)
    (map_applies m c.in-Mmap.buf_type c.in-Mmap.index c.done_unless-in-Mmap.result c.args.queue.now c.map.new.self
    c.args.table.now (subst (λ r. Happens m c.args.queue.now c.map.new.self (mmap c.in-Mmap.index r))
    (sym c.done_unless-in-Mmap.ensures.refusal) c.map.ensures.step) c.done_unless-in-Mmap.ensures.done
    c.done_unless-in-Mmap.ensures.back)

pub returns-in-Mmap-clause-same : goal.returns-in-Mmap-clause-same
returns-in-Mmap-clause-same g c = where_refused _ c.done_unless-in-Mmap.result c.map.result c.done_unless-in-Mmap.ensures.refusal c.map.ensures.same

pub returns-in-Munmap-clause-step : goal.returns-in-Munmap-clause-step
returns-in-Munmap-clause-step g c =
    let m = g.P.PlaneMemory.plane in
    subst (λ x. AppliesTyped m x c.done_unless-in-Munmap.result c.args.queue.now c.args.table.now c.unmap.new.self c.args.table.now) (sym c.in-Munmap.is)
    (unmap_applies m c.in-Munmap.buf_type c.in-Munmap.index c.done_unless-in-Munmap.result c.args.queue.now
    c.unmap.new.self c.args.table.now
    (subst (λ r. Happens m c.args.queue.now c.unmap.new.self (munmap c.in-Munmap.index r))
    (sym c.done_unless-in-Munmap.ensures.refusal) c.unmap.ensures.step) c.done_unless-in-Munmap.ensures.done
    c.done_unless-in-Munmap.ensures.back)

pub returns-in-Munmap-clause-same : goal.returns-in-Munmap-clause-same
returns-in-Munmap-clause-same g c = where_refused _ c.done_unless-in-Munmap.result c.unmap.result c.done_unless-in-Munmap.ensures.refusal c.unmap.ensures.same

pub returns-in-Ok-clause-step : goal.returns-in-Ok-clause-step
returns-in-Ok-clause-step g c =
    let m = g.P.PlaneMemory.plane in
    subst (λ x. AppliesTyped m x (Ok (Info c.in-Ok.info)) c.args.queue.now c.args.table.now c.args.queue.now c.args.table.now) (sym c.in-QueryBuf.is)
    (query_applies g.row.A.Denot m c.in-QueryBuf.buf_type c.in-QueryBuf.index c.in-Ok.info c.args.queue.now c.args.table.now c.in-Ok.ensures)

pub returns-in-Err-clause-step : goal.returns-in-Err-clause-step
returns-in-Err-clause-step g c =
    let m = g.P.PlaneMemory.plane in
    subst (λ x. AppliesTyped m x (Err c.refuse.result) c.args.queue.now c.args.table.now c.args.queue.now c.args.table.now) (sym c.in-QueryBuf.is)
    (query_refused m c.in-QueryBuf.buf_type c.in-QueryBuf.index c.refuse.result c.in-Err.errno c.args.queue.now
    c.args.table.now c.refuse.ensures.errno c.refuse.ensures.back c.in-Err.ensures)

pub returns-in-PrepareBuf-clause-step : goal.returns-in-PrepareBuf-clause-step
returns-in-PrepareBuf-clause-step g c =
    subst (λ x. AppliesTyped g.P.PlaneMemory.plane x c.use_buffer.result c.args.queue.now c.args.table.now
    c.use_buffer.new.queue c.use_buffer.new.table) (sym c.in-PrepareBuf.is)
    (c.use_buffer.ensures.step c.in-PrepareBuf.buf_type)

pub returns-in-QBuf-clause-step : goal.returns-in-QBuf-clause-step
returns-in-QBuf-clause-step g c =
    subst (λ x. AppliesTyped g.P.PlaneMemory.plane x c.use_buffer-in-QBuf.result c.args.queue.now c.args.table.now
    c.use_buffer-in-QBuf.new.queue c.use_buffer-in-QBuf.new.table) (sym c.in-QBuf.is)
    (c.use_buffer-in-QBuf.ensures.step c.in-QBuf.buf_type)

pub returns-in-DqBuf-clause-step : goal.returns-in-DqBuf-clause-step
returns-in-DqBuf-clause-step g c =
    subst (λ x. AppliesTyped g.P.PlaneMemory.plane x c.dequeue.result c.args.queue.now c.args.table.now
    c.dequeue.new.queue c.dequeue.new.table) (sym c.in-DqBuf.is) (c.dequeue.ensures.step c.in-DqBuf.buf_type)

pub returns-in-ReqBufs-clause-step : goal.returns-in-ReqBufs-clause-step
returns-in-ReqBufs-clause-step g c =
    subst (λ x. AppliesTyped g.P.PlaneMemory.plane x c.request.result c.args.queue.now c.args.table.now
    c.request.new.queue c.request.new.table) (sym c.in-ReqBufs.is) (c.request.ensures.step c.in-ReqBufs.buf_type)
