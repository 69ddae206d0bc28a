use Rattle.std.proofs.Common.{◌≡◌, false, subst, sym}
use denote.Param.Send.{sendable}
use Rattle.std.proofs.Crossing.{crosses}
use Rattle.loop_pipeline.specs.declared.several.Shot.{Shot}
use Rattle.loop_pipeline.specs.Several.{IsFilmed}
use Rattle.loop_pipeline.proofs.Crossing.{barrier_send, barrier_sync, camera_in_send, ended_in_send, ended_send, unfilmed_in_send, unfilmed_send}
use Rattle.loop_pipeline.proofs.several.start_one.Goals as goal

pub spawn_with-requires-send-F : goal.spawn_with-requires-send-F
spawn_with-requires-send-F g c =
    let b = c.type_bounds in
    let yr = b.sync-R in
    let sg = b.send-G in
    let sb = barrier_send in
    let yb = barrier_sync in
    let sc = camera_in_send _ _ _ _ g.S.FrameSource g.D.Disk g.P.PlaneMemory g.G.Visits g.G.Noting b.send-S b.send-D b.send-P b.send-G in
    search (sendable, crosses) depth 40

pub spawn_with-requires-send-T : goal.spawn_with-requires-send-T
spawn_with-requires-send-T g c =
    let b = c.type_bounds in
    let se = ended_send _ _ _ _ g.D.Disk g.G.Noting b.send-S b.send-D b.send-P b.send-G in
    let si = ended_in_send _ _ _ _ g.D.Disk g.G.Noting b.send-S b.send-D b.send-P b.send-G in
    let su = unfilmed_send _ _ _ _ g.S.FrameSource g.D.Disk g.P.PlaneMemory g.G.Visits g.G.Noting b.send-S b.send-D b.send-P b.send-G in
    let sv = unfilmed_in_send _ _ _ _ g.S.FrameSource g.D.Disk g.P.PlaneMemory g.G.Visits g.G.Noting b.send-S b.send-D b.send-P b.send-G in
    search (sendable, crosses) depth 40

pub spawn_with-requires-clause-keeps : goal.spawn_with-requires-clause-keeps
spawn_with-requires-clause-keeps g c = λ lives outlive filmed is.
    subst (λ (s : Shot g.row.S.Denot g.row.D.Denot g.row.P.Denot g.row.G.Denot). IsFilmed g.D.Disk.medium
    g.S.FrameSource.next_gives g.P.PlaneMemory.plane g.G.Visits.asks g.G.Visits.gives_up (g.G.Noting.NOTED ≡ false) (g.G.Guide.due s.guide)
    (g.G.Guide.ends s.guide) s.camera filmed) (sym c.of-given.ensures) is
