use Rattle.std.proofs.Common.{[], ◌∷◌, refl, sym, ap, ◌∙◌, subst}
use Rattle.loop_record.specs.declared.geometry.PixelFormat.{PixelFormat}
use Rattle.loop_lane.specs.declared.event.LaneEvent.{LaneEvent}
use Rattle.loop_lane.specs.declared.event.LaneReply.TheVariants as reply
use Rattle.loop_lane.specs.declared.lane.Lane.{Lane}
use Rattle.loop_lane.specs.Lane.{LaneRan, is_dequeue}
use Rattle.loop_lane.proofs.EventReplies.{told-dequeue, told-dqbuf, told-flush, told-lock, told-queue, told-read, told-requeue, told-submit, told-unlock}
use Rattle.loop_lane.proofs.lane.answer.Goals as goal

pub returns-then-is_dequeue : goal.returns-then-is_dequeue
returns-then-is_dequeue g c =
    let lane = c.args.lane.now in
    let now = c.dequeues.new.lane in
    let new : Lane g.row.D.Denot g.row.P.Denot g.row.A.Denot = record { queue = now.queue; table = lane.table; hand = now.hand; desk = lane.desk } in
    subst (λ (l : Lane g.row.D.Denot g.row.P.Denot g.row.A.Denot). LaneRan g.P.PlaneMemory.plane g.D.Disk.medium lane
    l (c.args.event ∷ []) (reply.Dequeue c.dequeues.result ∷ [])) (sym c.dequeues.ensures.same)
    (subst (λ (e : LaneEvent g.row.P.Denot g.row.A.Denot). LaneRan g.P.PlaneMemory.plane g.D.Disk.medium lane new
    (e ∷ []) (reply.Dequeue c.dequeues.result ∷ [])) (sym c.in-Queue.is)
    (told-dqbuf g.P.PlaneMemory.plane g.D.Disk.medium lane new c.in-Queue.event c.dequeues.result
    c.opens.ensures.tells (λ now. g.met.D.Disk.sound lane.desk.store.disk now) refl
    (ap (λ (format : PixelFormat). is_dequeue format c.in-Queue.event) (sym c.format.ensures)
    ∙ sym c.is_dequeue.ensures ∙ c.if-is_dequeue.true) (c.dequeues.ensures.turn lane.table)))

pub returns-else-is_dequeue : goal.returns-else-is_dequeue
returns-else-is_dequeue g c =
    let lane = c.args.lane.now in
    let new : Lane g.row.D.Denot g.row.P.Denot g.row.A.Denot =
    record { queue = c.on_queue.new.queue; table = c.on_queue.new.table; hand = lane.hand; desk = lane.desk } in
    subst (λ (e : LaneEvent g.row.P.Denot g.row.A.Denot). LaneRan g.P.PlaneMemory.plane g.D.Disk.medium lane new
    (e ∷ []) (reply.Queue c.on_queue.result ∷ [])) (sym c.in-Queue.is)
    (told-queue g.P.PlaneMemory.plane g.D.Disk.medium lane new c.in-Queue.event c.on_queue.result
    c.opens.ensures.tells (λ now. g.met.D.Disk.sound lane.desk.store.disk now) refl
    (ap (λ (format : PixelFormat). is_dequeue format c.in-Queue.event) (sym c.format.ensures)
    ∙ sym c.is_dequeue.ensures ∙ c.if-is_dequeue.false) c.on_queue.ensures.turn)

pub returns-in-Dequeue : goal.returns-in-Dequeue
returns-in-Dequeue g c =
    let lane = c.args.lane.now in
    let now = c.dequeues-in-Dequeue.new.lane in
    let new : Lane g.row.D.Denot g.row.P.Denot g.row.A.Denot = record { queue = now.queue; table = lane.table; hand = now.hand; desk = lane.desk } in
    subst (λ (l : Lane g.row.D.Denot g.row.P.Denot g.row.A.Denot). LaneRan g.P.PlaneMemory.plane g.D.Disk.medium lane
    l (c.args.event ∷ []) (reply.Dequeue c.dequeues-in-Dequeue.result ∷ []))
    (sym c.dequeues-in-Dequeue.ensures.same)
    (subst (λ (e : LaneEvent g.row.P.Denot g.row.A.Denot). LaneRan g.P.PlaneMemory.plane g.D.Disk.medium lane new
    (e ∷ []) (reply.Dequeue c.dequeues-in-Dequeue.result ∷ [])) (sym c.in-Dequeue.is)
    (told-dequeue g.P.PlaneMemory.plane g.D.Disk.medium lane new c.dequeues-in-Dequeue.result c.opens.ensures.tells
    (λ now. g.met.D.Disk.sound lane.desk.store.disk now) refl (c.dequeues-in-Dequeue.ensures.turn lane.table)))

pub returns-in-Submit : goal.returns-in-Submit
returns-in-Submit g c =
    let lane = c.args.lane.now in
    let new : Lane g.row.D.Denot g.row.P.Denot g.row.A.Denot =
    record { queue = lane.queue; table = lane.table; hand = c.submit.new.hand; desk = c.submit.new.desk } in
    subst (λ (e : LaneEvent g.row.P.Denot g.row.A.Denot). LaneRan g.P.PlaneMemory.plane g.D.Disk.medium lane new
    (e ∷ []) (reply.Submit c.submit.result ∷ [])) (sym c.in-Submit.is)
    (told-submit g.P.PlaneMemory.plane g.D.Disk.medium lane new c.submit.result refl refl c.submit.ensures.told c.submit.ensures.hand c.submit.ensures.goes)

pub returns-in-Requeue : goal.returns-in-Requeue
returns-in-Requeue g c =
    let lane = c.args.lane.now in
    let new : Lane g.row.D.Denot g.row.P.Denot g.row.A.Denot =
    record { queue = c.requeue.new.queue; table = lane.table; hand = c.requeue.new.hand; desk = lane.desk } in
    subst (λ (e : LaneEvent g.row.P.Denot g.row.A.Denot). LaneRan g.P.PlaneMemory.plane g.D.Disk.medium lane new
    (e ∷ []) (reply.Requeue c.requeue.result ∷ [])) (sym c.in-Requeue.is)
    (told-requeue g.P.PlaneMemory.plane g.D.Disk.medium lane new c.requeue.result c.opens.ensures.tells
    (λ now. g.met.D.Disk.sound lane.desk.store.disk now) refl (c.requeue.ensures.turn lane.table))

pub returns-in-Flush : goal.returns-in-Flush
returns-in-Flush g c =
    let lane = c.args.lane.now in
    let new : Lane g.row.D.Denot g.row.P.Denot g.row.A.Denot = record { queue = lane.queue; table = lane.table; hand = lane.hand; desk = c.flush.new.self } in
    subst (λ (e : LaneEvent g.row.P.Denot g.row.A.Denot). LaneRan g.P.PlaneMemory.plane g.D.Disk.medium lane new
    (e ∷ []) (reply.Flush c.flush.result ∷ [])) (sym c.in-Flush.is)
    (told-flush g.P.PlaneMemory.plane g.D.Disk.medium lane new c.flush.result (record { queue = refl; table = refl; hand = refl }) c.flush.ensures.goes)

pub returns-in-Lock : goal.returns-in-Lock
returns-in-Lock g c =
    let lane = c.args.lane.now in
    let new : Lane g.row.D.Denot g.row.P.Denot g.row.A.Denot =
    record { queue = lane.queue; table = lane.table; hand = lane.hand; desk = c.lock_clip.new.self } in
    subst (λ (e : LaneEvent g.row.P.Denot g.row.A.Denot). LaneRan g.P.PlaneMemory.plane g.D.Disk.medium lane new
    (e ∷ []) (reply.Lock c.lock_clip.result ∷ [])) (sym c.in-Lock.is)
    (told-lock g.P.PlaneMemory.plane g.D.Disk.medium lane new c.in-Lock.span c.lock_clip.result
    (record { queue = refl; table = refl; hand = refl }) c.lock_clip.ensures.goes)

pub returns-in-Unlock : goal.returns-in-Unlock
returns-in-Unlock g c =
    let lane = c.args.lane.now in
    let new : Lane g.row.D.Denot g.row.P.Denot g.row.A.Denot =
    record { queue = lane.queue; table = lane.table; hand = lane.hand; desk = c.unlock_clip.new.self } in
    subst (λ (e : LaneEvent g.row.P.Denot g.row.A.Denot). LaneRan g.P.PlaneMemory.plane g.D.Disk.medium lane new
    (e ∷ []) (reply.Unlock c.unlock_clip.result ∷ [])) (sym c.in-Unlock.is)
    (told-unlock g.P.PlaneMemory.plane g.D.Disk.medium lane new c.in-Unlock.id c.unlock_clip.result
    (record { queue = refl; table = refl; hand = refl }) c.unlock_clip.ensures.goes)

pub returns-in-Read : goal.returns-in-Read
returns-in-Read g c =
    let lane = c.args.lane.now in
    let new : Lane g.row.D.Denot g.row.P.Denot g.row.A.Denot =
    record { queue = lane.queue; table = lane.table; hand = lane.hand; desk = c.read_frame.new.self } in
    subst (λ (e : LaneEvent g.row.P.Denot g.row.A.Denot). LaneRan g.P.PlaneMemory.plane g.D.Disk.medium lane new
    (e ∷ []) (reply.Read c.read_frame.result ∷ [])) (sym c.in-Read.is)
    (told-read g.P.PlaneMemory.plane g.D.Disk.medium lane new c.in-Read.number c.read_frame.result
    (record { queue = refl; table = refl; hand = refl }) c.read_frame.ensures.goes)
