use Rattle.std.proofs.Common.{subst}
use Rattle.loop_desk.specs.Seen.{TellsStatus}
use Rattle.loop_pipeline.specs.Backs.{IsSoAt}
use Rattle.loop_pipeline.specs.Desks.{SeenDesks}
use Rattle.loop_pipeline.proofs.DeskPlaces.{within}
use Rattle.loop_pipeline.proofs.Places.{read-at}
use Rattle.loop_pipeline.proofs.desks.Desks.status.Goals as goal

pub returns : goal.returns
returns g c =
    subst (λ (b : SeenDesks g.row.D.Denot).
    IsSoAt c.args.place b.desks (λ desk. TellsStatus g.D.Disk.medium desk c.status.result)) c.self.view_is
    (c.index.result.now, read-at _ _ _ (within c.self.view_is c.requires) c.index.ensures, c.status.ensures)
