use Rattle.std.proofs.Common.{◌+◌, ◌≤◌, length, arith}
use Rattle.loop_record.specs.Geometry.{clip_at}
use Rattle.loop_clips.proofs.TableLocks.{unlock_moments, unlock_ok}
use Rattle.loop_clips.proofs.table.ClipTable.unlock.Goals as goal

pub returns : goal.returns
returns g c =
    let id = c.args.id in
    let fits : (g.D.Disk.medium c.args.disk.now).honest → clip_at id + 32 ≤ length (g.D.Disk.medium c.args.disk.now).bytes = λ honest.
    omega (arith, (g.met.D.Disk.sound c.args.disk.now honest).length_is, c.requires.extent, c.requires.id) in record {
      moments = λ honest. unlock_moments id c.entry_place.result _ _ _ c.entry_place.ensures
          (c.requires.settled honest) (c.requires.there honest) (c.store.ensures.disk honest);
      such = λ honest. unlock_ok id c.entry_place.result _ _ _ c.entry_place.ensures (fits honest) (c.store.ensures.disk honest);
      settled = λ honest. (c.store.ensures.disk honest).settled;
      fault = c.store.ensures.fault;
      called = c.store.ensures.called;
    }
