use Rattle.std.proofs.Common.{Option, ℕ, sym, ap, ◌∙◌, subst}
use Rattle.loop_record.specs.Recording.{ring_of, victim}
use Rattle.loop_ring.specs.Heads.{IsPlaceOf, clip_counts}
use Rattle.loop_ring.proofs.VictimByHeads.{victim-placed}
use Rattle.loop_store.proofs.index.Index.victim_segment.Goals as goal

pub returns-in_err-block-clause-place : goal.returns-in_err-block-clause-place
returns-in_err-block-clause-place g c = λ r image known.
    let i = c.args.self.now in
    let counted = c.requires.counted ∙ ap (λ clips. clip_counts (ring_of i.ring.geometry) clips i.table.heads) known.clips_are in
    subst (λ (o : Option ℕ). IsPlaceOf i.table.heads (victim (ring_of i.ring.geometry) i.table.keep r) o) (sym c.from_residual.ensures)
    (sym (c.victim.ensures.victim i.ring.geometry r image known.held known.heads_are counted) ∙ c.in_err-block.was)

pub returns-clause-place : goal.returns-clause-place
returns-clause-place g c = λ r image known.
    let i = c.args.self.now in
    let counted = c.requires.counted ∙ ap (λ clips. clip_counts (ring_of i.ring.geometry) clips i.table.heads) known.clips_are in
    victim-placed i.ring.geometry i.table.keep r image i.table.heads c.in_ok-block.block c.find.result known.held known.heads_are
    (sym c.in_ok-block.was ∙ c.victim.ensures.victim i.ring.geometry r image known.held known.heads_are counted) c.find.ensures.place
