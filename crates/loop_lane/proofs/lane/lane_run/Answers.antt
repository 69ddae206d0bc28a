use Rattle.std.proofs.Common.{List, [], ◌∷◌, ◌++◌, length, sym, ap, ◌∙◌, subst, arith}
use Rattle.std.proofs.lemmas.Iterator.Adapters.{YieldsList-from_vec}
use Rattle.std.proofs.lemmas.Iterator.Consumers.{YieldsList-end}
use Rattle.loop_lane.specs.declared.event.LaneEvent.{LaneEvent}
use Rattle.loop_lane.specs.declared.event.LaneReply.{LaneReply}
use Rattle.loop_lane.specs.Lane.{LaneRan}
use Rattle.loop_lane.proofs.Order.{keeps}
use Rattle.loop_lane.proofs.LaneRuns.{all-items, ran-joined, ran-none, same-count}
use Rattle.loop_lane.proofs.lane.lane_run.Given.{Over}
use Rattle.loop_lane.proofs.lane.lane_run.Goals as goal

pub loop-event-init : goal.loop-event-init
loop-event-init g c =
    let lane = c.args.lane.now in
    record {
      can = tt;
      ends = tt;
      ran = subst (λ (ps : List (LaneReply g.row.P.Denot g.row.A.Denot)). LaneRan g.P.PlaneMemory.plane
          g.D.Disk.medium lane lane [] ps) (sym c.in-Ok.ensures.items)
          (ran-none g.P.PlaneMemory.plane g.D.Disk.medium lane c.opens.ensures.tells (λ now. g.met.D.Disk.sound lane.desk.store.disk now));
      count = ap length c.in-Ok.ensures.items;
      room = omega (arith, c.in-Ok.ensures.exact, c.len.ensures, c.args.events.ok.0);
    }

pub loop-event-preserved : goal.loop-event-preserved
loop-event-preserved g c =
    let lane = c.args.lane.now in
    let now = c.loop-event.lane in
    let new = c.answer.new.lane in
    let ran = ran-joined g.P.PlaneMemory.plane g.D.Disk.medium lane now new c.loop-event.yielded
    (c.in-Some.event ∷ []) c.loop-event.replies.items (c.answer.result ∷ []) c.loop-event.invariant.ran
    c.answer.ensures in
    record {
      can = tt;
      ends = tt;
      ran = subst (λ (ps : List (LaneReply g.row.P.Denot g.row.A.Denot)). LaneRan g.P.PlaneMemory.plane
          g.D.Disk.medium lane new (c.loop-event.yielded ++ c.in-Some.event ∷ []) ps)
          (sym c.push_reserved.ensures.items) ran;
      count = ap length c.push_reserved.ensures.items ∙ same-count (c.loop-event.yielded ++ c.in-Some.event ∷ [])
          (c.loop-event.replies.items ++ c.answer.result ∷ []) ran.calls ran.shown;
      room = omega (arith, c.push_reserved.ensures.capacity, c.loop-event.invariant.room);
    }

-- the run of all events
all-run : (g : Over) → (c : goal.After-drop-event-iterator g)
    → LaneRan g.P.PlaneMemory.plane g.D.Disk.medium c.args.lane.now c.loop-event.lane c.args.events.items
    c.loop-event.replies.items
all-run g c =
    let begun = YieldsList-from_vec c.args.events.items c.into_iter-event-iterator.ensures.into_iter_gives.0
    (c.into_iter-event-iterator.ensures.into_iter_gives.1 ∙ c.args.events.ok.0) in
    let all = all-items c.loop-event.yielded c.args.events.items
    (YieldsList-end begun c.loop-event.yielded c.loop-event.event-iterator c.loop-event.yielded_by c.next.result
    c.next.new.self c.in-None.is c.next.ensures.steps).0 in
    subst (λ (es : List (LaneEvent g.row.P.Denot g.row.A.Denot)). LaneRan g.P.PlaneMemory.plane g.D.Disk.medium
    c.args.lane.now c.loop-event.lane es c.loop-event.replies.items) all c.loop-event.invariant.ran

pub returns-clause-headline : goal.returns-clause-headline
returns-clause-headline g c =
    keeps g.P.PlaneMemory.plane g.D.Disk.medium c.args.lane.now c.loop-event.lane c.args.events.items c.loop-event.replies.items (all-run g c)
