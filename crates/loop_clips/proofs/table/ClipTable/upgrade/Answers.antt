use Rattle.std.proofs.Common.{◌≤◌, arith}
use Rattle.std.proofs.lemmas.Result.{err_from_is_err_and}
use Rattle.loop_disk.proofs.Moments.{called_on}
use Rattle.loop_clips.proofs.UpgradeWrites.{cleared-kept, opened-moments, opened-ok}
use Rattle.loop_clips.proofs.table.ClipTable.upgrade.Goals as goal

pub returns-in_err-settle_tags : goal.returns-in_err-settle_tags
returns-in_err-settle_tags g c =
    let p = err_from_is_err_and c.from_residual.result c.from_residual.ensures.1 in
    rw (p.1, p.2) (record {
      moments = λ honest. cleared-kept (g.D.Disk.medium c.args.disk.now) (g.D.Disk.medium c.settle_tags.new.disk)
          (c.requires.version honest) (c.settle_tags.ensures.moments honest);
      such = λ honest. tt;
      settled = λ honest. tt;
      fault = c.in_err-settle_tags.ensures.fault;
      called = c.in_err-settle_tags.ensures.called;
    })

pub returns : goal.returns
returns g c =
    let old = g.D.Disk.medium c.args.disk.now in
    let mid = g.D.Disk.medium c.settle_tags.new.disk in
    let cleared = c.in_ok-settle_tags.ensures in
    let sound = g.met.D.Disk.sound c.settle_tags.new.disk in
    let room : 2560 ≤ mid.size = omega (arith, cleared.called.size, c.requires.extent) in record {
      moments = λ honest.
          let there = cleared.called.honest.0 honest in
          opened-moments old mid _ c.store.result (c.requires.version honest) (sound there) (cleared.moments honest)
          (cleared.such honest) (cleared.settled honest) (c.store.ensures.disk there);
      such = λ honest.
          let there = cleared.called.honest.0 honest in
          opened-ok old mid _ c.store.result (c.requires.version honest) room (sound there) (cleared.moments honest)
          (cleared.such honest) (c.store.ensures.disk there);
      settled = λ honest. (c.store.ensures.disk (cleared.called.honest.0 honest)).settled;
      fault = c.store.ensures.fault;
      called = called_on old mid _ _ cleared.called c.store.ensures.called;
    }
