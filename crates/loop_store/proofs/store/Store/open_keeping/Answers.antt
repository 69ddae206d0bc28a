use Rattle.std.proofs.Common.{false, refl}
use Rattle.loop_record.proofs.Bounds.{limits}
use Rattle.loop_store.proofs.Openings.{present-opened, read-of}
use Rattle.loop_store.proofs.Looks.{drawn-of, tells-drawn}
use Rattle.loop_store.proofs.store.Store.open_keeping.Goals as goal

pub invariant_of-result : goal.invariant_of-result
invariant_of-result g c = record {
  fits = c.in-Ok.ensures.known.0;
  known = c.in-Ok.ensures.known.1;
  present = λ fine honest. c.in-Ok.ensures.present (c.reopen.ensures.called.honest.1 honest);
}

pub returns-in-Ok : goal.returns-in-Ok
returns-in-Ok g c =
    let index = c.in-Ok.index in
    let known = c.in-Ok.ensures.known.1 in
    record {
      opened = λ honest. present-opened g.D.Disk.medium c.reopen.new.disk index (g.D.Disk.medium c.args.disk).bytes
          (limits index.ring.geometry index.ring.good).slots.0 c.in-Ok.ensures.known.0.whole.within
          (c.in-Ok.ensures.present honest) (c.reopen.ensures.alike honest);
      found = record {
        looked = c.in-Ok.ensures.looked.looked;
        gives = c.in-Ok.ensures.looked.gives;
        tells = λ image may. read-of c.reopen.new.disk index false image
            (limits index.ring.geometry index.ring.good).slots.0 c.in-Ok.ensures.known.0.whole.within
            (c.in-Ok.ensures.looked.tells image may);
      };
      tells = (drawn-of index known, tells-drawn c.reopen.new.disk index false known c.in-Ok.ensures.known.0.whole.within);
      kept = c.in-Ok.ensures.kept;
      fine = refl;
      refused = tt;
      alike = c.reopen.ensures.alike;
      stays = λ honest. tt;
      moments = c.reopen.ensures.moments;
      called = c.in-Ok.ensures.called;
    }

pub returns-in-Err : goal.returns-in-Err
returns-in-Err g c = record {
  opened = λ honest. tt;
  found = tt;
  tells = tt;
  kept = tt;
  fine = tt;
  refused = c.in-Err.ensures.refused;
  alike = c.reopen.ensures.alike;
  stays = c.in-Err.ensures.stays;
  moments = c.reopen.ensures.moments;
  called = c.in-Err.ensures.called;
}
