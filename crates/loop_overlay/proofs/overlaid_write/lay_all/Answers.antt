use Rattle.std.proofs.Common.{rules, ℕ, List, subst, sym}
use Rattle.std.proofs.lemmas.List.{take_all}
use Rattle.loop_overlay.specs.Layers.{LaidWrite, laid}
use Rattle.loop_overlay.specs.Parts.{IsBufferOf}
use Rattle.loop_overlay.proofs.OverlayImages.{laid_next}
use Rattle.loop_overlay.proofs.overlaid_write.lay_all.Goals as goal

pub loop-write-preserved : goal.loop-write-preserved
loop-write-preserved g c = λ image part.
    subst (λ (l : List ℕ). IsBufferOf c.args.at l c.lay_over.new.buf)
    (sym (laid_next c.args.writes.now c.loop-write.write-index c.write-item.result image c.loop-write-test.true c.write-item.is))
    (c.lay_over.ensures _ (c.loop-write.invariant image part))

pub returns : goal.returns
returns g c = λ image part.
    subst (λ (ws : List LaidWrite). IsBufferOf c.args.at (laid ws image) c.loop-write.buf)
    (take_all c.loop-write.write-index c.args.writes.now (search (rules)))
    (c.loop-write.invariant image part)
