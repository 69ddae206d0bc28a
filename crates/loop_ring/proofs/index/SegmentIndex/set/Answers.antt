use Rattle.std.proofs.Common.{◌+◌, ◌<◌, ◌^◌, [], ◌∷◌, None, Option, length, sym, ap, subst, arith, ◌∙◌}
use Rattle.std.proofs.lemmas.List.{get_or_default}
use Rattle.std.specs.List.{count_by}
use Rattle.loop_record.specs.declared.segment.SegmentHead.{SegmentHead}
use Rattle.loop_ring.specs.Heads.{Segments, has_frame}
use Rattle.loop_ring.proofs.ClipCounts.{held-few}
use Rattle.loop_ring.proofs.index.SegmentIndex.set.Goals as goal

pub held_after-self-inside-requires-clause-few : goal.held_after-self-inside-requires-clause-few
held_after-self-inside-requires-clause-few g c =
    let heads = c.self.inside.heads.items in
    let inside : c.args.segment < length heads = omega (arith, c.requires, ap (λ (s : Segments). length s.heads) c.self.view_is) in
    subst (λ (o : Option SegmentHead). c.self.inside.held + count_by has_frame (c.args.head ∷ []) < 2 ^ 32 + count_by
    has_frame (o ∷ [])) (sym (c.index.ensures ∙ get_or_default heads c.args.segment c.index.result.now None inside))
    (held-few heads c.args.segment c.self.inside.held (2 ^ 32) c.args.head inside c.self.invariant.indexed.few c.self.invariant.held_is)
