use Rattle.std.proofs.Common.{Some, ap, sym, ◌∙◌}
use Rattle.loop_pipeline.proofs.DeskPlaces.{within}
use Rattle.loop_pipeline.proofs.Places.{read-at}
use Rattle.loop_pipeline.proofs.Turning.{search-on}
use Rattle.loop_pipeline.proofs.desks.Desks.told.Goals as goal

pub returns : goal.returns
returns g c =
    search-on g.D.Disk.medium _ _ c.args.place c.args.search c.with.result c.desk.result.now c.space.result c.self.view_is
    (read-at _ _ _ (within c.self.view_is c.requires.place) c.index.ensures ∙ ap Some (sym c.desk.ensures)) c.space.ensures c.with.ensures c.requires.so_far
