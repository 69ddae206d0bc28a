use Rattle.std.proofs.Common.{Option, Some, set, sym, ap, ◌∙◌}
use Rattle.loop_record.specs.declared.segment.SegmentHead.{SegmentHead}
use Rattle.loop_record.specs.Recording.{ring_of}
use Rattle.loop_ring.specs.Heads.{Segments, clip_counts, grown}
use Rattle.loop_ring.proofs.ClipCounts.{counts-grown, counts-set}
use Rattle.loop_store.proofs.IndexNotes.{grown-head}
use Rattle.loop_store.proofs.index.set_head.Goals as goal

pub returns-then-has_frame_of-clause-heads : goal.returns-then-has_frame_of-clause-heads
returns-then-has_frame_of-clause-heads g c =
    ap (λ (s : Segments). s.heads) c.grow.ensures
    ∙ ap (λ (o : Option SegmentHead). set c.args.table.now.heads c.args.segment o)
    (ap (grown c.args.head.frames) (sym c.get.ensures) ∙ grown-head c.get.result c.args.head
    (sym c.has_frame_of.ensures ∙ c.if-has_frame_of.true))

pub returns-then-has_frame_of-clause-counted : goal.returns-then-has_frame_of-clause-counted
returns-then-has_frame_of-clause-counted g c =
    let ring = ring_of c.args.ring.now.geometry in
    ap (λ (s : Segments). s.clips) c.grow.ensures ∙ c.requires.counted
    ∙ counts-grown ring c.args.clips.now c.args.table.now.heads c.args.segment c.args.head.frames
    ∙ ap (λ (s : Segments). clip_counts ring c.args.clips.now s.heads) (sym c.grow.ensures)

pub returns-clause-counted : goal.returns-clause-counted
returns-clause-counted g c =
    let ring = ring_of c.args.ring.now.geometry in
    ap (λ (s : Segments). s.clips) c.set.ensures
    ∙ (λ i. set (c.requires.counted i) c.args.segment (c.clips_on-count.ensures i))
    ∙ counts-set ring c.args.clips.now c.args.table.now.heads c.args.segment (Some c.args.head)
    ∙ ap (λ (s : Segments). clip_counts ring c.args.clips.now s.heads) (sym c.set.ensures)
