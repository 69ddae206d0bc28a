use Rattle.std.proofs.Common.{◌≡◌, List, true, None, Option, get_or, set, sym, ap, subst, ◌∙◌, vec_capacity}
use Rattle.std.proofs.lemmas.List.{get_or_default, length-set}
use Rattle.std.specs.List.{count_by}
use Rattle.loop_record.specs.declared.segment.SegmentHead.{SegmentHead}
use Rattle.loop_ring.specs.Entries.{IsIndexed}
use Rattle.loop_ring.specs.Heads.{Segments, going_free, grown, has_frame}
use Rattle.loop_ring.proofs.ClipCounts.{grown-goes, grown-held, held-inside}
use Rattle.loop_ring.proofs.index.SegmentIndex.grow.Goals as goal

pub invariant_of-self : goal.invariant_of-self
invariant_of-self g c =
    let i = c.self.inside in
    let heads = i.heads.items in
    let j = c.args.segment in
    let frames = c.args.frames in
    let s : Segments = record { heads = i.heads.items; clips = i.clips.items; keep = i.keep } in
    let some : has_frame (get_or heads j None) ≡ true = ap (λ (s : Segments). has_frame (get_or s.heads j None)) c.self.view_is ∙ c.requires.held in
    let inside = held-inside heads j some in
    let now : grown frames (get_or heads j None) ≡ c.grown-head.result = sym (c.grown-head.ensures
    ∙ ap (grown frames) (c.index.ensures ∙ get_or_default heads j c.index.result.now None inside)) in record {
      indexed = subst (λ (hs : List (Option SegmentHead)). IsIndexed (set hs j c.grown-head.result) c.insert_segment.new.entries.items
          (vec_capacity c.insert_segment.new.entries)) c.deref-2.ensures.value c.insert_segment.ensures;
      counted = c.self.invariant.counted ∙ sym (length-set heads j c.grown-head.result);
      held_is = c.self.invariant.held_is ∙ grown-held heads j frames some c.requires.some
          ∙ ap (λ (o : Option SegmentHead). count_by has_frame (set heads j o)) now;
      victim_is = c.self.invariant.victim_is ∙ sym (grown-goes s j frames some c.requires.some)
          ∙ ap (λ (o : Option SegmentHead). going_free (record { heads = set heads j o; clips = i.clips.items; keep = i.keep })) now;
    }
