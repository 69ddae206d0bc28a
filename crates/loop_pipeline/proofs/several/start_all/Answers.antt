use Rattle.std.proofs.Common.{◌≡◌, ◌∷◌, arith}
use Rattle.std.proofs.lemmas.List.Elements.{All-push}
use Rattle.loop_pipeline.specs.declared.several.Running.{Running}
use Rattle.loop_pipeline.specs.Several.{IsRunning, shot_in, shot_of}
use Rattle.loop_pipeline.proofs.SeveralStarts.{stopped, taken}
use Rattle.loop_pipeline.proofs.SeveralSteps.{rest-more}
use Rattle.loop_pipeline.proofs.several.start_all.Goals as goal

pub starting-preserved : goal.starting-preserved
starting-preserved g c =
    let R : Running g.row.S.Denot g.row.D.Denot g.row.P.Denot g.row.G.Denot → Type 0 = IsRunning in
    let so = c.starting.invariant in
    let left = c.starting.shots.items in
    let first : left ≡ c.remove.result ∷ c.remove.new.self.items =
    taken left c.remove.new.self.items c.remove.result (omega (arith, c.remove.ensures.len, c.starting.shots.ok.0))
    c.remove.ensures.value c.remove.ensures.items in
    record {
      left = omega (arith, c.remove.ensures.len, c.push_reserved.ensures.len, so.left);
      room = omega (arith, c.push_reserved.ensures.capacity, so.room);
      same =
          rest-more shot_in c.starting.threads.items c.push_reserved.new.self.items c.in-Ok.running
          c.push_reserved.ensures.items c.remove.result left c.remove.new.self.items c.args.shots.items first
          c.in-Ok.ensures.started.1 so.same;
      threads = rw c.push_reserved.ensures.items (All-push R _ _ so.threads c.in-Ok.ensures.started.0);
    }

pub returns-in-Err-clause-shots : goal.returns-in-Err-clause-shots
returns-in-Err-clause-shots g c =
    let left = c.starting.shots.items in
    stopped shot_in c.starting.threads.items (shot_of c.in-Err.outcome) c.remove.result left c.remove.new.self.items
    c.args.shots.items (taken left c.remove.new.self.items c.remove.result
    (omega (arith, c.remove.ensures.len, c.starting.shots.ok.0)) c.remove.ensures.value c.remove.ensures.items)
    c.in-Err.ensures.refused.0 c.starting.invariant.same
