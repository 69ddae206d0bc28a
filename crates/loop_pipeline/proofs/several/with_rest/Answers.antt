use Rattle.std.proofs.Common.{◌≡◌, ◌++◌, ap, arith, false, length, map, refl}
use Rattle.std.proofs.lemmas.List.Elements.{All-push}
use Rattle.std.specs.Vec.Iter.{into_iter_items, into_iter_len}
use Rattle.loop_pipeline.specs.declared.several.Outcome.{Outcome}
use Rattle.loop_pipeline.specs.Several.{IsOutcome, shot_of}
use Rattle.loop_pipeline.proofs.SeveralSteps.{none-more, rest-more}
use Rattle.loop_pipeline.proofs.several.with_rest.Goals as goal

pub loop-shot-init : goal.loop-shot-init
loop-shot-init g c =
    let items = c.into_iter-shot-iterator.ensures.into_iter_gives.0 in
    let len = c.into_iter-shot-iterator.ensures.into_iter_gives.1 in
    record {
      room = omega (arith, len, c.requires.room);
      left = omega (arith, len, ap length items, c.args.rest.ok.0);
      shots = λ i. map shot_of c.args.outcomes.items ++ items i;
      each = c.requires.each;
    }

pub loop-shot-preserved : goal.loop-shot-preserved
loop-shot-preserved g c =
    let P : Outcome g.row.S.Denot g.row.D.Denot g.row.P.Denot g.row.G.Denot → Type 0 = IsOutcome g.D.Disk.medium g.S.FrameSource.next_gives
    g.P.PlaneMemory.plane g.G.Visits.asks g.G.Visits.gives_up (g.G.Noting.NOTED ≡ false) g.G.Guide.due g.G.Guide.ends in
    let so = c.loop-shot.invariant in
    let steps = c.in-Some.ensures.steps in
    record {
      room = omega (arith, steps.1, c.push_reserved.ensures.len, c.push_reserved.ensures.capacity, so.room);
      left = omega (arith, steps.1, ap length steps.0, so.left);
      shots = rest-more shot_of _ _ _ c.push_reserved.ensures.items _ _ _ _ steps.0 c.of-given.ensures so.shots;
      each = rw c.push_reserved.ensures.items (All-push P _ _ so.each (rw c.of-given.ensures
          (record { keeps = tt; settled = λ plain. tt; ended = tt; again = tt; held = tt; refused = refl })));
    }

pub returns-clause-shots : goal.returns-clause-shots
returns-clause-shots g c =
    let at = c.loop-shot in
    none-more (map shot_of at.outcomes.items) (into_iter_items at.shot-iterator)
    (map shot_of c.args.outcomes.items ++ c.args.rest.items) (into_iter_len at.shot-iterator) at.invariant.left
    c.in-None.ensures.steps.0 at.invariant.shots
