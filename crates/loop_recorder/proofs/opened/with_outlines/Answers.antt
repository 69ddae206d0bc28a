use Rattle.std.proofs.Common.{All, List, arith, subst, sym}
use Rattle.std.proofs.lemmas.List.Elements.{All-head, All-tail}
use Rattle.loop_desk.specs.declared.limits.Outline.{Outline}
use Rattle.loop_recorder.specs.Opened.{CameraOf, IsReady, TellOutlines, desks_in}
use Rattle.loop_recorder.proofs.OutlineSteps.{tell-count, tell-first}
use Rattle.loop_recorder.proofs.opened.with_outlines.Goals as goal

pub loop-camera-init : goal.loop-camera-init
loop-camera-init g c =
    let m = g.D.Disk.medium in
    let P : CameraOf g.row.D.Denot g.row.P.Denot → Type 0 = IsReady g.P.PlaneMemory.plane in
    let items = c.into_iter-camera-iterator.ensures.into_iter_gives.0 in
    let len = c.into_iter-camera-iterator.ensures.into_iter_gives.1 in
    let outlines = c.into_iter-outlines.ensures.rest in
    record {
      room = omega (arith, len, c.requires.room.0, c.requires.room.1);
      count = omega (arith, len, c.requires.room.0);
      ready = subst (λ l. All P l) (sym items) c.requires.ready;
      left = omega (
        arith,
        len,
        c.into_iter-outlines.ensures.len,
        tell-count m c.args.cameras.items c.args.outlines.items c.requires.outlines,
        c.args.cameras.ok.0,
        c.args.outlines.ok.0,
      );
      each = subst (λ (x : List (CameraOf g.row.D.Denot g.row.P.Denot) × List (Outline g.row.A.Denot)). TellOutlines m
          (desks_in x.0) x.1) (λ i. (sym items i, sym outlines i)) c.requires.outlines;
    }

pub new-requires-clause-writable : goal.new-requires-clause-writable
new-requires-clause-writable g c =
    let P : CameraOf g.row.D.Denot g.row.P.Denot → Type 0 = IsReady g.P.PlaneMemory.plane in
    (All-head P _ _ (subst (λ l. All P l) c.in-Some.ensures.steps.0 c.loop-camera.invariant.ready)).desk

pub new-requires-in-loop-camera : goal.new-requires-in-loop-camera
new-requires-in-loop-camera g c =
    let P : CameraOf g.row.D.Denot g.row.P.Denot → Type 0 = IsReady g.P.PlaneMemory.plane in
    (All-head P _ _ (subst (λ l. All P l) c.in-Some.ensures.steps.0 c.loop-camera.invariant.ready)).port

pub loop-camera-preserved : goal.loop-camera-preserved
loop-camera-preserved g c =
    let m = g.D.Disk.medium in
    let P : CameraOf g.row.D.Denot g.row.P.Denot → Type 0 = IsReady g.P.PlaneMemory.plane in
    let so = c.loop-camera.invariant in
    let steps = c.in-Some.ensures.steps in
    record {
      room = omega (arith, steps.1, c.push_reserved.ensures.len, c.push_reserved.ensures.capacity, so.room);
      count = omega (arith, steps.1, c.push_reserved.ensures.len, so.count);
      ready = All-tail P _ _ (subst (λ l. All P l) steps.0 so.ready);
      left = omega (arith, steps.1, c.in-Some-next.ensures.cases.1, so.left);
      each = (tell-first m _ _ _ _ c.in-Some.camera c.in-Some-next.outline steps.0 c.in-Some-next.ensures.cases.0 so.each).1;
    }

-- as many outlines as cameras
pub unreachable-requires : goal.unreachable-requires
unreachable-requires g c = omega (arith, c.loop-camera.invariant.left, c.in_default.ensures.cases.0, c.in-Some.ensures.steps.1)
