use Rattle.std.proofs.Common.{arith}
use Rattle.loop_pipeline.proofs.Turning.{search-begins, search-ends}
use Rattle.loop_pipeline.proofs.desks.Desks.next_desk.Goals as goal

pub desks-init : goal.desks-init
desks-init g c = search-begins g.D.Disk.medium c.args.self.now _ (c.new-search.ensures _ _)

pub returns : goal.returns
returns g c =
    search-ends g.D.Disk.medium _ _ c.desks.place c.desks.search c.next.result c.self.view_is
    (omega (arith, c.desks-test.false, c.desks.auto.place-end, c.len-place-end.ensures, c.self.inside.seats.ok.0)) c.desks.invariant (c.next.ensures _)
