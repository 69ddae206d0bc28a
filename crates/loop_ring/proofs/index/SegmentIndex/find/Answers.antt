use Rattle.std.proofs.Common.{◌∙◌, List, length, arith, ap, subst}
use Rattle.std.specs.List.{position}
use Rattle.loop_record.specs.declared.image.Found.{Found}
use Rattle.loop_ring.specs.Entries.{IsFirstOf}
use Rattle.loop_ring.specs.Heads.{Segments, is_of}
use Rattle.loop_ring.proofs.IndexOrder.{blocks-rise, first-segment, index-length}
use Rattle.loop_ring.proofs.index.SegmentIndex.find.Goals as goal

pub first_of-requires : goal.first_of-requires
first_of-requires g c = rw c.deref.ensures.value (blocks-rise c.self.inside.heads.items c.self.inside.entries.items _ c.self.invariant.indexed)

pub returns-clause-first : goal.returns-clause-first
returns-clause-first g c =
    first-segment c.self.inside.heads.items c.self.inside.entries.items _ c.args.block c.first_of.result.0
    c.self.invariant.indexed (subst (λ (l : List Found). IsFirstOf c.args.block l c.first_of.result.0)
    c.deref.ensures.value c.first_of.ensures.first)
    ∙ ap (λ (s : Segments). position (is_of c.args.block) s.heads) c.self.view_is

pub returns-clause-looks : goal.returns-clause-looks
returns-clause-looks g c = λ n few.
    c.first_of.ensures.looks n (omega (
      arith,
      few,
      index-length c.self.inside.heads.items c.self.inside.entries.items _ c.self.invariant.indexed,
      ap (λ (l : List Found). length l) c.deref.ensures.value,
      ap (λ (s : Segments). length s.heads) c.self.view_is,
    ))
