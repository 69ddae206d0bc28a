use Rattle.std.proofs.Common.{rules, ◌≡◌, ◌+◌, Fits, w64, ap, subst, sym, ◌∙◌, arith}
use Rattle.loop_pipeline.specs.Fronts.{SeenFront}
use Rattle.loop_pipeline.proofs.FrontRuns.{few, ticked}
use Rattle.loop_pipeline.proofs.TickSteps.{tick-adds}
use Rattle.loop_pipeline.proofs.front.Front.tick.Goals as goal

pub overflow_add-self-2 : goal.overflow_add-self-2
overflow_add-self-2 g c =
    let all = few g.S.FrameSource.next_gives g.P.PlaneMemory.plane _ _ _ _ _ _ _ _ _ _ _ _ c.self.invariant in
    let room : Fits w64 (c.self.inside.ticks + 1) = search rules in
    omega (arith, all.0, room, c.missed_by.ensures.few)

pub overflow_add-self-3 : goal.overflow_add-self-3
overflow_add-self-3 g c =
    let all = few g.S.FrameSource.next_gives g.P.PlaneMemory.plane _ _ _ _ _ _ _ _ _ _ _ _ c.self.invariant in
    let room : Fits w64 (c.self.inside.ticks + 1) = search rules in
    omega (arith, all.1, room, c.failed_by.ensures.few)

pub invariant_of-self-2 : goal.invariant_of-self-2
invariant_of-self-2 g c =
    let before = c.self.invariant in
    let its : c.args.guide.now ≡ c.self.inside.guide.value =
    c.requires ∙ sym (ap (λ (v : SeenFront g.row.S.Denot g.row.P.Denot g.row.G.Denot g.row.A.Denot). v.guide) c.self.view_is) in
    rw (c.missed_by.ensures.value, c.failed_by.ensures.value, c.is_last-self-inside.ensures, c.tick-tick.ensures)
    (ticked g.S.FrameSource.next_gives g.P.PlaneMemory.plane _ _ _ _ _ _ _ _ _ _ _ _ _ _ _ _ _ _ before
    (subst (λ (x : g.row.G.Denot). g.G.Guide.due x c.self.inside.ticks c.in-Some.now) its c.in-Some.ensures.due)
    (tick-adds g.S.FrameSource.next_gives g.P.PlaneMemory.plane _ c.in-Some.now _ _ _ _ _ _ c.of-untold.result before.now
    c.of-untold.ensures.shape before.free before.apart before.stands c.of-untold.ensures.tick))
