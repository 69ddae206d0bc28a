use Rattle.std.proofs.Common.{◌≡◌, ◌<◌, List, length, map, slice_set, ap, sym, subst}
use Rattle.loop_vb2.specs.declared.buffer.Buffer.{Buffer}
use Rattle.loop_vb2.specs.Owner.{waits, is_ended}
use Rattle.loop_vb2.specs.Buffers.{change_at, completed_by, read_buffer}
use Rattle.loop_vb2.specs.Planes.{slot_cut}
use Rattle.loop_vb2.proofs.StepEvents.{kept_ended}
use Rattle.loop_vb2.proofs.PlaneMeanings.{written_read}
use Rattle.loop_vb2.proofs.queue.Queue.finish_from.Goals as goal

pub invariant_of-self : goal.invariant_of-self
invariant_of-self g c = kept_ended _ _ _ _ _ _ _ _ (ap (λ v. v.body.buffers) c.self.view_is) c.self.invariant
    c.requires.within c.requires.active (ap (λ b. waits b.state) c.complete_from.ensures.completed)
    (ap (λ b. is_ended b.state) c.complete_from.ensures.completed) c.take_out.ensures c.push.ensures

pub returns-clause-finished : goal.returns-clause-finished
returns-clause-finished g c =
    let m = g.P.PlaneMemory.plane in
    let same = ap (λ v. v.body.buffers) c.self.view_is in
    let h : c.args.index < length c.self.inside.buffers.items =
    subst (λ (xs : List (Buffer g.row.P.Denot)). c.args.index < length xs) (sym same) c.requires.within in
    let w : map (read_buffer m) (slice_set c.self.inside.buffers.items c.args.index c.complete_from.new.buffer) ≡ change_at
    (completed_by slot_cut c.self.inside.shape c.args.stamp c.args.row.now.items) c.args.index
    (map (read_buffer m) c.self.inside.buffers.items) =
    written_read m (completed_by slot_cut c.self.inside.shape c.args.stamp c.args.row.now.items)
    c.self.inside.buffers.items c.args.index _ c.complete_from.new.buffer h c.index_mut.ensures.value
    c.complete_from.ensures.completed in
    let out = c.take_out.ensures in
    let more = c.push.ensures in
    rw (← c.self.view_is) (cc)
