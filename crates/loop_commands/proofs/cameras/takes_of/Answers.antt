use Rattle.std.proofs.Common.{◌∙◌, ◌∷◌, ◌++◌, [], Some, ap, arith, length, map, sym}
use Rattle.std.proofs.lemmas.List.{map_push}
use Rattle.std.specs.Vec.Iter.{into_iter_items, into_iter_len}
use Rattle.loop_commands.specs.declared.cameras.Take.{Take}
use Rattle.loop_commands.specs.Recorded.{taken_of, told_of}
use Rattle.loop_commands.proofs.Recordings.{none-left, one-more}
use Rattle.loop_commands.proofs.cameras.takes_of.Goals as goal

pub loop-outcome-init : goal.loop-outcome-init
loop-outcome-init c =
    let items = c.into_iter-outcome-iterator.ensures.into_iter_gives.0 in
    let len = c.into_iter-outcome-iterator.ensures.into_iter_gives.1 in
    let none = c.requires.room.0 in
    record {
      left = omega (arith, len, ap length items, c.args.outcomes.ok.0);
      room = omega (arith, len, ap length none, c.requires.room.1, c.args.takes.ok.0);
      told = λ i. map (λ (take : Take). Some take) (none i) ++ map taken_of (items i);
    }

pub loop-outcome-preserved : goal.loop-outcome-preserved
loop-outcome-preserved c =
    let so = c.loop-outcome.invariant in
    let steps = c.in-Some.ensures.steps in
    let push = c.push_reserved.ensures in
    let takes = c.loop-outcome.takes.items in
    let same = ap (λ (take : Take). Some take) c.of.ensures ∙ sym (ap told_of c.in-Ok.is) in
    record {
      left = omega (arith, steps.1, ap length steps.0, so.left);
      room = omega (arith, steps.1, push.len, push.capacity, so.room);
      told =
          one-more taken_of _ _ _ _ _ _
          (ap (map (λ (take : Take). Some take)) push.items ∙ map_push (λ (take : Take). Some take) takes c.of.result
          ∙ ap (λ t. map (λ (take : Take). Some take) takes ++ t ∷ []) same) steps.0 so.told;
    }

pub returns : goal.returns
returns c =
    let at = c.loop-outcome in
    record {
      told =
          none-left taken_of (map (λ (take : Take). Some take) at.takes.items) (into_iter_items at.outcome-iterator)
          (map taken_of c.args.outcomes.items) (into_iter_len at.outcome-iterator) at.invariant.left
          c.in-None.ensures.steps.0 at.invariant.told;
    }
