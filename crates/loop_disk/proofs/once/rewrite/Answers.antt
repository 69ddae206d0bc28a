use Rattle.std.proofs.Common.{◌≡◌, ℕ, ◌+◌, ◌-◌, ◌≤◌, length, take, None, Ok, subst, arith}
use Rattle.std.proofs.lemmas.List.{length-take}
use Rattle.loop_disk.specs.Medium.{LeavesEachTorn}
use Rattle.loop_disk.proofs.Moments.{called_on}
use Rattle.loop_disk.proofs.TornWrites.{tears_same, tears_then, tears_within, tears_failed, torn_joined}
use Rattle.loop_disk.proofs.once.rewrite.Goals as goal

pub returns-in_err-rewrite_chunk-clause-disk : goal.returns-in_err-rewrite_chunk-clause-disk
returns-in_err-rewrite_chunk-clause-disk g c = λ honest.
    let here = c.loop-done.invariant in
    let failed = c.rewrite_chunk.ensures.disk (here.called.honest.0 honest) in
    let ends : c.args.at + c.loop-done.done + length (take c.min-step.result c.loop-done.chunk) ≤ c.args.at +
    c.args.count = omega (arith, length-take c.min-step.result c.loop-done.chunk) in
    tears_failed c.args.at c.args.count _ _ _ _ c.rewrite_chunk.result c.from_residual.result c.from_residual.ensures.0
    (tears_then c.args.at c.args.count _ _ _ _ _ tt c.rewrite_chunk.result (here.tears honest)
    (tears_within (c.args.at + c.loop-done.done) _ c.args.at c.args.count _ _ _ c.rewrite_chunk.result (omega arith) ends failed))

pub loop-done-preserved : goal.loop-done-preserved
loop-done-preserved g c =
    let here = c.loop-done.invariant in
    let ends : c.args.at + c.loop-done.done + length (take c.min-step.result c.loop-done.chunk) ≤ c.args.at +
    c.args.count = omega (arith, length-take c.min-step.result c.loop-done.chunk) in record {
      within = omega arith;
      size = here.size;
      after = omega (arith, here.after);
      harsh = λ harsh. (c.in_ok-rewrite_chunk.ensures.each (here.harsh harsh)).0;
      each = λ honest harsh.
          let from = c.args.from in
          let done = c.loop-done.done in
          let n = length (take c.min-step.result c.loop-done.chunk) in
          let old = g.D.Disk.medium c.args.disk.now in
          let new = g.D.Disk.medium c.rewrite_chunk.new.disk in
          let second = (c.in_ok-rewrite_chunk.ensures.each (here.harsh harsh)).1 in
          let place : c.args.at + done ≡ c.args.at + from + (done - from) = omega (arith, here.after) in
          let all : (done - from) + n ≡ done + c.min-step.result - from = omega (arith, here.after, length-take c.min-step.result c.loop-done.chunk) in
          subst (λ (k : ℕ). LeavesEachTorn (c.args.at + from) k old new) all
          (torn_joined (c.args.at + from) (done - from) n old (g.D.Disk.medium c.loop-done.disk) new
          (g.met.D.Disk.sound c.args.disk.now honest)
          (omega (arith, c.requires.inside, here.after, length-take c.min-step.result c.loop-done.chunk))
          (here.each honest harsh)
          (subst (λ (k : ℕ). LeavesEachTorn k n (g.D.Disk.medium c.loop-done.disk) new) place second));
      called = called_on _ _ _ None here.called c.in_ok-rewrite_chunk.ensures.called;
      tears = λ honest. tears_same c.args.at c.args.count _ _ _ _ (Ok tt) (here.tears honest).done
          (tears_then c.args.at c.args.count _ _ _ _ _ tt (Ok tt) (here.tears honest)
          (tears_within (c.args.at + c.loop-done.done) _ c.args.at c.args.count _ _ _ (Ok tt) (omega arith) ends
          (c.in_ok-rewrite_chunk.ensures.disk (here.called.honest.0 honest))));
    }
