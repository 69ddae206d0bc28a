use Rattle.std.proofs.Common.{subst, sym}
use Rattle.std.specs.Global.{Global}
use Rattle.loop_pipeline.specs.Fronts.{LeavesCarried, SeenFront}
use denote.Param.Send.{sendable}
use Rattle.std.proofs.Crossing.{crosses}
use Rattle.loop_pipeline.proofs.Crossing.{inlet_send, left_send, link_sync}
use Rattle.loop_pipeline.proofs.Settling.{joined-here, joined-late, settled-here}
use Rattle.loop_pipeline.proofs.film.run_in.Goals.{in-Err-filmed, in-Ok-filmed}
use Rattle.loop_pipeline.proofs.film.run_in.Goals as goal

pub spawn_with-requires-send-F : goal.spawn_with-requires-send-F
spawn_with-requires-send-F g c =
    let yr = c.type_bounds.sync-R in
    let yg = c.type_bounds.sync-G in
    let yl = link_sync in
    let si = inlet_send _ _ _ c.type_bounds.send-S c.type_bounds.send-P c.type_bounds.send-W in
    search (sendable, crosses) depth 40

pub spawn_with-requires-send-T : goal.spawn_with-requires-send-T
spawn_with-requires-send-T g c =
    let sl = left_send _ _ _ c.type_bounds.send-S c.type_bounds.send-P c.type_bounds.send-W in
    search (sendable, crosses) depth 40

pub spawn_with-requires-clause-keeps : goal.spawn_with-requires-clause-keeps
spawn_with-requires-clause-keeps g c = λ lives outlive left is.
    subst (λ (seen : SeenFront g.row.S.Denot g.row.P.Denot g.row.G.Denot Global). LeavesCarried g.W.Carrier.inside
    g.S.FrameSource.next_gives g.P.PlaneMemory.plane (g.G.Guide.due seen.guide) (g.G.Guide.ends seen.guide) seen left)
    (sym c.requires.begun) is

-- the work that comes back is that of this front
pub returns-in-Err-clause-front : goal.returns-in-Err-clause-front
returns-in-Err-clause-front g c =
    subst (λ (seen : SeenFront g.row.S.Denot g.row.P.Denot g.row.G.Denot Global). LeavesCarried g.W.Carrier.inside
    g.S.FrameSource.next_gives g.P.PlaneMemory.plane (g.G.Guide.due seen.guide) (g.G.Guide.ends seen.guide) seen
    c.work-front.result) (sym c.requires.begun) (rw c.in-Err.ensures.err at c.work-front.ensures)

pub returns-after-filmed-clause-front : goal.returns-after-filmed-clause-front
returns-after-filmed-clause-front g c = rw c.in-Ok.ensures.ok at c.join-front.ensures

-- the back was filmed beside its front, or after it
pub returns-after-filmed-clause-back : goal.returns-after-filmed-clause-back
returns-after-filmed-clause-back g c =
    elim c.match-filmed.branch [
      | in-Ok-filmed w ↦ joined-here _ _ _ _ w.back-is w.in-Ok-filmed.ensures.joins
      | in-Err-filmed w ↦ joined-late _ _ _ _ _ w.back-is w.in-Err-filmed.ensures.unasked w.film_late-back.ensures.joins
    ]

pub returns-after-filmed-clause-settled : goal.returns-after-filmed-clause-settled
returns-after-filmed-clause-settled g c plain over =
    elim c.match-filmed.branch [
      | in-Ok-filmed w ↦ settled-here g.D.Disk.medium g.G.Visits.gives_up _ _ w.back-is (w.in-Ok-filmed.ensures.settled plain)
      | in-Err-filmed w ↦ settled-here g.D.Disk.medium g.G.Visits.gives_up _ _ w.back-is
          (w.film_late-back.ensures.settled plain over)
    ]
