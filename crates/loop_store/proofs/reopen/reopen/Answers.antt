use Rattle.loop_store.proofs.Openings.{alike-on, moments-on, stays-moments}
use Rattle.loop_store.proofs.reopen.reopen.Goals as goal

pub clear_newest-requires-clause-told : goal.clear_newest-requires-clause-told
clear_newest-requires-clause-told g c = λ honest.
    let sound = g.met.D.Disk.sound c.find.new.disk honest in
    c.in_ok-index.ensures.found (g.D.Disk.medium c.find.new.disk).bytes
    (record { size = sound.length_is; agrees = sound.shown })

pub returns-in_err-index-clause-moments : goal.returns-in_err-index-clause-moments
returns-in_err-index-clause-moments g c = λ honest.
    stays-moments _ _ (g.met.D.Disk.sound c.args.disk.now honest) (c.find.ensures.stays honest)

pub returns-in_err-clear_newest-clause-moments : goal.returns-in_err-clear_newest-clause-moments
returns-in_err-clear_newest-clause-moments g c = λ honest.
    moments-on _ _ _ (g.met.D.Disk.sound c.args.disk.now honest) (c.find.ensures.stays honest)
    (c.clear_newest.ensures.moments (c.find.ensures.called.honest.0 honest))

pub returns-in_err-clear_newest-clause-alike : goal.returns-in_err-clear_newest-clause-alike
returns-in_err-clear_newest-clause-alike g c = λ honest.
    let mid = c.find.ensures.called.honest.0 honest in
    alike-on _ _ _ (g.met.D.Disk.sound c.clear_newest.new.disk (c.clear_newest.ensures.called.honest.0 mid))
    (c.find.ensures.stays honest) (c.clear_newest.ensures.moments mid)

pub returns-clause-moments : goal.returns-clause-moments
returns-clause-moments g c = λ honest.
    moments-on _ _ _ (g.met.D.Disk.sound c.args.disk.now honest) (c.find.ensures.stays honest)
    (c.clear_newest.ensures.moments (c.find.ensures.called.honest.0 honest))

pub returns-clause-alike : goal.returns-clause-alike
returns-clause-alike g c = λ honest.
    let mid = c.find.ensures.called.honest.0 honest in
    alike-on _ _ _ (g.met.D.Disk.sound c.clear_newest.new.disk (c.clear_newest.ensures.called.honest.0 mid))
    (c.find.ensures.stays honest) (c.clear_newest.ensures.moments mid)

pub returns-clause-looked : goal.returns-clause-looked
returns-clause-looked g c = record {
  looked = c.find.new.disk;
  gives = c.find.ensures.gives;
  tells = c.in_ok-index.ensures.found;
}
