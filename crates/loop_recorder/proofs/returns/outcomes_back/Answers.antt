use Rattle.std.proofs.Common.{All, ap, arith, length, map, subst, sym, ◌++◌}
use Rattle.std.proofs.lemmas.List.Elements.{All-head, All-tail}
use Rattle.std.specs.Vec.Iter.{into_iter_items, into_iter_len}
use Rattle.loop_recorder.specs.Recordings.{StandsOutcome, outcome_left, outcome_rest, seen_filmed}
use Rattle.loop_recorder.proofs.Places.{none-left, one-more}
use Rattle.loop_recorder.proofs.Standing.{holds-fewer}
use Rattle.loop_recorder.proofs.returns.outcomes_back.Goals as goal

pub loop-outcome-init : goal.loop-outcome-init
loop-outcome-init g c =
    let items = c.into_iter-outcome-iterator.ensures.into_iter_gives.0 in
    let len = c.into_iter-outcome-iterator.ensures.into_iter_gives.1 in
    let none = c.requires.none.1 in
    record {
      count = omega (arith, len, ap length none, c.args.returned.filmed.ok.0);
      left = omega (arith, len, ap length items, c.args.outcomes.ok.0);
      each = subst (λ l. All (StandsOutcome g.P.PlaneMemory.plane) l) (sym items) c.requires.each;
      room = c.requires.room;
      rests = λ i. c.requires.none.0 i ++ map outcome_rest (items i);
      filmed = λ i. map seen_filmed (none i) ++ map outcome_left (items i);
    }

pub put_back-returned-requires-clause-stands : goal.put_back-returned-requires-clause-stands
put_back-returned-requires-clause-stands g c κs within =
    All-head (StandsOutcome g.P.PlaneMemory.plane) _ _
    (subst (λ l. All (StandsOutcome g.P.PlaneMemory.plane) l) c.in-Some.ensures.steps.0 c.loop-outcome.invariant.each)

pub put_back-returned-requires-clause-room : goal.put_back-returned-requires-clause-room
put_back-returned-requires-clause-room g c κs within =
    let so = c.loop-outcome.invariant in
    holds-fewer (omega (arith, c.in-Some.ensures.steps.1, so.count)) so.room

pub loop-outcome-preserved : goal.loop-outcome-preserved
loop-outcome-preserved g c =
    let so = c.loop-outcome.invariant in
    let steps = c.in-Some.ensures.steps in
    let put = c.put_back-returned.ensures in
    record {
      count = omega (arith, steps.1, so.count, put.one);
      left = omega (arith, steps.1, ap length steps.0, so.left);
      each = All-tail (StandsOutcome g.P.PlaneMemory.plane) _ _
          (subst (λ l. All (StandsOutcome g.P.PlaneMemory.plane) l) steps.0 so.each);
      room = put.room _ so.room;
      rests = one-more outcome_rest _ _ _ _ _ _ put.rests steps.0 so.rests;
      filmed = one-more outcome_left _ _ _ _ _ _ put.filmed steps.0 so.filmed;
    }

pub returns-clause-rests : goal.returns-clause-rests
returns-clause-rests g c =
    let at = c.loop-outcome in
    none-left outcome_rest at.returned.rests.items (into_iter_items at.outcome-iterator)
    (map outcome_rest c.args.outcomes.items) (into_iter_len at.outcome-iterator) at.invariant.left
    c.in-None.ensures.steps.0 at.invariant.rests

pub returns-clause-filmed : goal.returns-clause-filmed
returns-clause-filmed g c =
    let at = c.loop-outcome in
    none-left outcome_left (map seen_filmed at.returned.filmed.items) (into_iter_items at.outcome-iterator)
    (map outcome_left c.args.outcomes.items) (into_iter_len at.outcome-iterator) at.invariant.left
    c.in-None.ensures.steps.0 at.invariant.filmed
