use Rattle.std.proofs.Common.{◌∙◌, arith, refl}
use Rattle.std.proofs.lemmas.List.{length-set}
use Rattle.loop_ring.proofs.GroupSlots.{rows_more}
use Rattle.loop_ring.proofs.group.rows_of.Goals as goal

pub loop-place-preserved : goal.loop-place-preserved
loop-place-preserved c =
    let at = c.loop-place in record {
      size = length-set _ _ _ ∙ length-set _ _ _ ∙ at.invariant.size;
      slots = rows_more at.place at.rows c.args.heads.now c.args.bodies.now _ _ (omega (arith, c.loop-place-test.true, c.requires))
          at.invariant.size c.told-heads c.told-bodies refl at.invariant.slots;
    }
