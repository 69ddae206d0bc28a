use Rattle.std.proofs.Common.{Some, None, ap}
use Rattle.loop_disk.proofs.Moments.{started, weaker}
use Rattle.loop_record.specs.Layout.{version_in}
use Rattle.loop_record.specs.Reading.{reading}
use Rattle.loop_store.specs.Reopen.{ReadsAlike}
use Rattle.loop_store.proofs.Openings.{found-alike, found-place, found-present, found-whole, unstray-missing}
use Rattle.loop_store.proofs.AnswerPairs.{both_ok, called-none}
use Rattle.loop_store.proofs.reopen.clear_newest.Goals as goal

pub clear_stray-requires-clause-whole : goal.clear_stray-requires-clause-whole
clear_stray-requires-clause-whole g c = λ honest.
    let image = (g.D.Disk.medium c.args.disk.now).bytes in
    let told = (c.requires.told honest).0 in
    found-whole c.args.index.now c.from-slots.result c.in-Some.segment image told c.from-slots.ensures
    (found-place c.args.index.now c.from-slots.result image c.find.result (Some c.in-Some.segment) told c.from-slots.ensures c.in-Some.is c.find.ensures.place)

pub returns-in-Some : goal.returns-in-Some
returns-in-Some g c = record {
  moments = λ honest.
      let image = (g.D.Disk.medium c.args.disk.now).bytes in
      let told = (c.requires.told honest).0 in
      let found = found-place c.args.index.now c.from-slots.result image c.find.result
      (Some c.in-Some.segment) told c.from-slots.ensures c.in-Some.is c.find.ensures.place in
      weaker _ _ _ (ReadsAlike image) (c.clear_stray.ensures.moments honest)
      (λ new shows. found-alike c.args.index.now c.in-Some.segment image new told found shows);
  such = λ honest.
      let image = (g.D.Disk.medium c.args.disk.now).bytes in
      let told = (c.requires.told honest).0 in
      let found = found-place c.args.index.now c.from-slots.result image c.find.result
      (Some c.in-Some.segment) told c.from-slots.ensures c.in-Some.is c.find.ensures.place in
      both_ok c.clear_stray.result (λ shows settled. found-present c.args.index.now c.in-Some.segment image
      (g.D.Disk.medium c.clear_stray.new.disk) told (c.requires.told honest).1.0 found shows.0 shows.1 settled (c.requires.told honest).1.1)
      (c.clear_stray.ensures.such honest) (c.clear_stray.ensures.settled honest);
  called = c.clear_stray.ensures.called;
}

pub returns-in-None : goal.returns-in-None
returns-in-None g c = record {
  moments = λ honest.
      let m = g.D.Disk.medium c.args.disk.now in
      started m (ReadsAlike m.bytes) (g.met.D.Disk.sound c.args.disk.now honest) (λ image left.
      let same = c.requires.settled honest image left in (ap reading same, ap version_in same));
  such = λ honest.
      let h = c.args.index.now.ring.geometry in
      let image = (g.D.Disk.medium c.args.disk.now).bytes in
      let told = (c.requires.told honest).0 in record {
        recorded = told;
        version = (c.requires.told honest).1.0;
        settled = c.requires.settled honest;
        unstray = unstray-missing h told.recording image told.known.held
            (found-place c.args.index.now c.from-slots.result image c.find.result None told c.from-slots.ensures
            c.in-None.is c.find.ensures.place);
        stamped = (c.requires.told honest).1.1;
      };
  called = called-none _;
}
