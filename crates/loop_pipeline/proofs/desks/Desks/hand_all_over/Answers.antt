use Rattle.std.proofs.Common.{◌<◌, length, subst, sym}
use Rattle.loop_pipeline.specs.Desks.{SeenDesks}
use Rattle.loop_pipeline.proofs.desks.Desks.hand_all_over.Goals as goal

pub hand_over-requires : goal.hand_over-requires
hand_over-requires g c =
    subst (λ (b : SeenDesks g.row.D.Denot). c.args.place < length b.desks) (sym c.frames.invariant) c.requires
