use Rattle.std.proofs.Common.{◌≡◌, ◌++◌, All, ap, arith, false, length, map, refl, sym, subst}
use Rattle.std.proofs.lemmas.List.Elements.{All-head, All-nil, All-push, All-tail}
use Rattle.std.specs.Vec.Iter.{into_iter_items, into_iter_len}
use Rattle.loop_pipeline.specs.declared.several.Outcome.{Outcome}
use Rattle.loop_pipeline.specs.declared.several.Running.{Running}
use Rattle.loop_pipeline.specs.declared.several.Shot.{Shot}
use Rattle.loop_pipeline.specs.Several.{IsFilmed, IsOutcome, IsRunning, shot_in, shot_of}
use Rattle.loop_pipeline.proofs.SeveralSteps.{joined-more, none-joined}
use Rattle.loop_pipeline.proofs.several.join_all.Goals as goal

pub loop-running-init : goal.loop-running-init
loop-running-init g c =
    let P : Outcome g.row.S.Denot g.row.D.Denot g.row.P.Denot g.row.G.Denot → Type 0 = IsOutcome g.D.Disk.medium g.S.FrameSource.next_gives
    g.P.PlaneMemory.plane g.G.Visits.asks g.G.Visits.gives_up (g.G.Noting.NOTED ≡ false) g.G.Guide.due g.G.Guide.ends in
    let R : Running g.row.S.Denot g.row.D.Denot g.row.P.Denot g.row.G.Denot → Type 0 = IsRunning in
    let items = c.into_iter-running-iterator.ensures.into_iter_gives.0 in
    let len = c.into_iter-running-iterator.ensures.into_iter_gives.1 in
    let none = c.requires.room.0 in
    record {
      count = omega (arith, len, ap length none, c.args.outcomes.ok.0);
      left = omega (arith, len, ap length items, c.args.threads.ok.0);
      capacity = refl;
      shots = λ i. map shot_of (none i) ++ map shot_in (items i);
      threads = subst (λ l. All R l) (sym items) c.requires.threads;
      each = subst (λ l. All P l) (sym none) (All-nil P);
    }

pub loop-running-preserved : goal.loop-running-preserved
loop-running-preserved g c =
    let P : Outcome g.row.S.Denot g.row.D.Denot g.row.P.Denot g.row.G.Denot → Type 0 = IsOutcome g.D.Disk.medium g.S.FrameSource.next_gives
    g.P.PlaneMemory.plane g.G.Visits.asks g.G.Visits.gives_up (g.G.Noting.NOTED ≡ false) g.G.Guide.due g.G.Guide.ends in
    let R : Running g.row.S.Denot g.row.D.Denot g.row.P.Denot g.row.G.Denot → Type 0 = IsRunning in
    let so = c.loop-running.invariant in
    let steps = c.in-Some.ensures.steps in
    let threads = subst (λ l. All R l) steps.0 so.threads in
    let filmed = c.join-filmed.result in
    record {
      count = omega (arith, steps.1, c.push_reserved.ensures.len, so.count);
      left = omega (arith, steps.1, ap length steps.0, so.left);
      capacity = omega (arith, c.push_reserved.ensures.capacity, so.capacity);
      shots = joined-more shot_of _ _ _ c.push_reserved.ensures.items shot_in _ _ _ _ steps.0 refl so.shots;
      threads = All-tail R _ _ threads;
      each = rw c.push_reserved.ensures.items (All-push P _ _ so.each
          (subst (λ (s : Shot g.row.S.Denot g.row.D.Denot g.row.P.Denot g.row.G.Denot). IsFilmed g.D.Disk.medium
          g.S.FrameSource.next_gives g.P.PlaneMemory.plane g.G.Visits.asks g.G.Visits.gives_up (g.G.Noting.NOTED ≡ false) (g.G.Guide.due s.guide)
          (g.G.Guide.ends s.guide) s.camera filmed) (All-head R _ _ threads) c.join-filmed.ensures));
    }

pub returns-clause-shots : goal.returns-clause-shots
returns-clause-shots g c =
    let at = c.loop-running in
    none-joined shot_in (map shot_of at.outcomes.items) (into_iter_items at.running-iterator)
    (map shot_in c.args.threads.items) (into_iter_len at.running-iterator) at.invariant.left c.in-None.ensures.steps.0
    at.invariant.shots
