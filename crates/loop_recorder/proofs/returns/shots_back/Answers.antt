use Rattle.std.proofs.Common.{ap, arith, length, map, ◌++◌}
use Rattle.std.specs.Vec.Iter.{into_iter_items, into_iter_len}
use Rattle.loop_recorder.specs.Recordings.{seen_filmed, shot_left, shot_rest}
use Rattle.loop_recorder.proofs.Places.{none-left, one-more}
use Rattle.loop_recorder.proofs.Standing.{holds-fewer}
use Rattle.loop_recorder.proofs.returns.shots_back.Goals as goal

pub loop-shot-init : goal.loop-shot-init
loop-shot-init g c =
    let items = c.into_iter-shot-iterator.ensures.into_iter_gives.0 in
    let len = c.into_iter-shot-iterator.ensures.into_iter_gives.1 in
    let none = c.requires.none.1 in
    record {
      count = omega (arith, len, ap length none, c.args.returned.filmed.ok.0);
      left = omega (arith, len, ap length items, c.args.shots.ok.0);
      room = c.requires.room;
      rests = λ i. c.requires.none.0 i ++ map shot_rest (items i);
      filmed = λ i. map seen_filmed (none i) ++ map shot_left (items i);
    }

pub put_back-returned-requires-clause-room : goal.put_back-returned-requires-clause-room
put_back-returned-requires-clause-room g c κs within =
    let so = c.loop-shot.invariant in
    holds-fewer (omega (arith, c.in-Some.ensures.steps.1, so.count)) so.room

pub loop-shot-preserved : goal.loop-shot-preserved
loop-shot-preserved g c =
    let so = c.loop-shot.invariant in
    let steps = c.in-Some.ensures.steps in
    let put = c.put_back-returned.ensures in
    record {
      count = omega (arith, steps.1, so.count, put.one);
      left = omega (arith, steps.1, ap length steps.0, so.left);
      room = put.room _ so.room;
      rests = one-more shot_rest _ _ _ _ _ _ put.rests steps.0 so.rests;
      filmed = one-more shot_left _ _ _ _ _ _ put.filmed steps.0 so.filmed;
    }

pub returns-clause-rests : goal.returns-clause-rests
returns-clause-rests g c =
    let at = c.loop-shot in
    none-left shot_rest at.returned.rests.items (into_iter_items at.shot-iterator) (map shot_rest c.args.shots.items)
    (into_iter_len at.shot-iterator) at.invariant.left c.in-None.ensures.steps.0 at.invariant.rests

pub returns-clause-filmed : goal.returns-clause-filmed
returns-clause-filmed g c =
    let at = c.loop-shot in
    none-left shot_left (map seen_filmed at.returned.filmed.items) (into_iter_items at.shot-iterator)
    (map shot_left c.args.shots.items) (into_iter_len at.shot-iterator) at.invariant.left c.in-None.ensures.steps.0
    at.invariant.filmed
