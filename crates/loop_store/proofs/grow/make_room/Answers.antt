use Rattle.std.proofs.Common.{List, OnOk, sym, subst}
use Rattle.std.proofs.lemmas.Result.{on_ok_weaker}
use Rattle.loop_disk.specs.Medium.{LeavesOnly}
use Rattle.loop_record.specs.Reading.{Holds}
use Rattle.loop_record.specs.Recording.{Step, plain, ring_of}
use Rattle.loop_record.proofs.Bounds.{limits}
use Rattle.loop_store.specs.declared.place.AppendPlace.{AppendPlace}
use Rattle.loop_store.specs.Grow.{IsNewestSegment}
use Rattle.loop_store.specs.AppendPlace.{place_segment}
use Rattle.loop_store.proofs.AnswerPairs.{called-none}
use Rattle.loop_store.proofs.Room.{closed-at, known-closed, known-newest}
use Rattle.loop_store.proofs.Stands.{unmoved-some}
use Rattle.loop_store.proofs.grow.make_room.Goals as goal
use Rattle.loop_store.proofs.Names.{HoldsSome}

pub returns-in-Newest : goal.returns-in-Newest
returns-in-Newest g c =
    let h = c.args.index.now.ring.geometry in
    let m = g.D.Disk.medium c.args.disk.now in record {
      moments = λ r is honest held. unmoved-some _ h r _ (g.met.D.Disk.sound c.args.disk.now honest) (c.requires.settled honest) held;
      held = λ r is honest held.
          let at = known-newest h c.args.index.now.table.keep r c.args.next c.in-Newest.field-0 c.args.place m.bytes
          c.in-Newest.is c.requires.segment (c.requires.known honest) held is in
          subst (λ (steps : List Step). Holds h (plain (ring_of h) r steps) m.bytes) (sym at.steps) held;
      such = λ honest.
          let known = c.requires.known honest in
          let at = known-newest h c.args.index.now.table.keep known.recording c.args.next c.in-Newest.field-0 c.args.place m.bytes c.in-Newest.is
          c.requires.segment known known.held known.next_is in
          (at.newest, at.begun);
      settled = c.requires.settled;
      fault = tt;
      called = called-none m;
    }

pub returns-in-Closed : goal.returns-in-Closed
returns-in-Closed g c =
    let h = c.args.index.now.ring.geometry in
    let old = g.D.Disk.medium c.args.disk.now in
    let new = g.D.Disk.medium c.begin.new.disk in record {
      moments = λ r is honest held.
          let at = known-closed h c.args.index.now.table.keep r c.args.next c.in-Closed.segment c.args.place old.bytes
          c.in-Closed.is (c.requires.known honest) held is in
          subst (λ (steps : List Step). LeavesOnly old new (HoldsSome h r steps)) (sym at.steps) (c.begin.ensures.moments r is honest held);
      held = λ r is honest held.
          let at = known-closed h c.args.index.now.table.keep r c.args.next c.in-Closed.segment c.args.place old.bytes
          c.in-Closed.is (c.requires.known honest) held is in
          subst (λ (steps : List Step). OnOk c.begin.result (Holds h (plain (ring_of h) r steps) new.bytes))
          (sym at.steps) (c.begin.ensures.held r is honest held);
      such = λ honest.
          on_ok_weaker c.begin.result (λ begun. (
            subst (λ (p : AppendPlace). IsNewestSegment h c.args.next (place_segment p) new.bytes) (sym c.in-Closed.is) begun.0,
            closed-at h c.args.index.now.table.keep c.args.next c.in-Closed.segment c.args.place old.bytes new.bytes
                (limits h c.args.index.now.ring.good).slots.1 c.in-Closed.is c.requires.segment
                (c.requires.known honest) begun.1 begun.0.stray,
          )) (c.begin.ensures.such honest);
      settled = c.begin.ensures.settled;
      fault = c.begin.ensures.fault;
      called = c.begin.ensures.called;
    }
