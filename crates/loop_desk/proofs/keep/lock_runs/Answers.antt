use Rattle.std.proofs.Common.{arith}
use Rattle.std.proofs.lemmas.Result.{err_from_is_err_and}
use Rattle.loop_desk.proofs.KeepParts.{lock-more, lock-none, lock-refused}
use Rattle.loop_desk.proofs.keep.lock_runs.Goals as goal

pub loop-run-init : goal.loop-run-init
loop-run-init g c = record {
  first = rw c.requires.empty.0 (lock-none g.D.Disk.medium _ _ _ c.opens.ensures.tells (λ honest. g.met.D.Disk.sound _ honest));
  count = c.requires.empty.1;
  room = c.requires.room;
}

pub returns-in_err-id : goal.returns-in_err-id
returns-in_err-id g c =
    let p = err_from_is_err_and c.from_residual.result c.from_residual.ensures.1 in
    rw (p.1, p.2) (lock-refused g.D.Disk.medium _ c.loop-run.run-index _ c.args.runs.now _ _ _ _ _ c.loop-run-test.true
    c.loop-run.invariant.first c.in_err-id.ensures.goes)

pub loop-run-preserved : goal.loop-run-preserved
loop-run-preserved g c =
    let so = c.loop-run.invariant in
    record {
      first = rw c.push_reserved.ensures.items (lock-more g.D.Disk.medium _ c.loop-run.run-index _ c.args.runs.now _ _ _ _
          _ c.loop-run-test.true so.first c.in_ok-id.ensures.goes);
      count = omega (arith, so.count, c.push_reserved.ensures.len);
      room = omega (arith, so.room, c.push_reserved.ensures.capacity);
    }
