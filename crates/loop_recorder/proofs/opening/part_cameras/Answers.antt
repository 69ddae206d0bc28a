use Rattle.std.proofs.Common.{◌≡◌, All, ap, arith, length, refl, subst, sym, vec_len}
use Rattle.std.specs.Vec.Iter.{into_iter_items}
use Rattle.std.proofs.lemmas.List.Elements.{All-nil, All-push}
use Rattle.loop_desk.specs.Seen.{SeenDesk}
use Rattle.loop_desk.proofs.Always.{none-of}
use Rattle.loop_recorder.specs.declared.ended.EndedCamera.{EndedCamera}
use Rattle.loop_recorder.specs.declared.opened.OpenCamera.{OpenCamera}
use Rattle.loop_recorder.specs.Endings.{IsFaithfulCamera}
use Rattle.loop_recorder.specs.Opened.{AreNumbered}
use Rattle.loop_recorder.proofs.Mapped.{mapped-all, mapped-more, mapped-none}
use Rattle.loop_recorder.proofs.OutlineSteps.{numbered-more}
use Rattle.loop_recorder.proofs.opening.part_cameras.Goals as goal

pub loop-camera-init : goal.loop-camera-init
loop-camera-init g c =
    let P : EndedCamera g.row.D.Denot g.row.A.Denot → Type 0 = IsFaithfulCamera g.D.Disk.medium in
    let f : EndedCamera g.row.D.Denot g.row.A.Denot → SeenDesk g.row.D.Denot = λ c. c.desk in
    let h : OpenCamera g.row.D.Denot g.row.P.Denot g.row.A.Denot → SeenDesk g.row.D.Denot = λ c. c.session.desk in
    let items = c.into_iter-camera-iterator.ensures.into_iter_gives.0 in
    let len = c.into_iter-camera-iterator.ensures.into_iter_gives.1 in
    let none = ap length c.requires.ended.0 in
    record {
      room = omega (arith, len, none, c.args.ended.ok.0, c.requires.ended.1);
      space = omega (arith, len, c.requires.ports.0, c.requires.ports.1);
      ended = omega (arith, len, none, c.args.ended.ok.0);
      ports = omega (arith, len, c.requires.ports.0);
      left = omega (arith, len, ap length items, c.args.cameras.ok.0);
      faithful = subst (λ l. All P l) (sym c.requires.ended.0) (All-nil P);
      desks = mapped-none f h c.args.ended.items (into_iter_items c.into_iter-camera-iterator.result) c.args.cameras.items
          c.requires.ended.0 items;
      number = omega (arith, c.requires.ports.0);
      numbers = rw (none-of c.args.ports.items (omega (arith, c.requires.ports.0, c.args.ports.ok.0))) refl;
    }

pub loop-camera-preserved : goal.loop-camera-preserved
loop-camera-preserved g c =
    let P : EndedCamera g.row.D.Denot g.row.A.Denot → Type 0 = IsFaithfulCamera g.D.Disk.medium in
    let f : EndedCamera g.row.D.Denot g.row.A.Denot → SeenDesk g.row.D.Denot = λ c. c.desk in
    let h : OpenCamera g.row.D.Denot g.row.P.Denot g.row.A.Denot → SeenDesk g.row.D.Denot = λ c. c.session.desk in
    let so = c.loop-camera.invariant in
    let steps = c.in-Some.ensures.steps in
    record {
      room = omega (arith, steps.1, c.push_reserved.ensures.len, c.push_reserved.ensures.capacity, so.room);
      space = omega (arith, steps.1, c.push_reserved-in-loop-camera.ensures.len, c.push_reserved-in-loop-camera.ensures.capacity, so.space);
      ended = omega (arith, steps.1, c.push_reserved.ensures.len, so.ended);
      ports = omega (arith, steps.1, c.push_reserved-in-loop-camera.ensures.len, so.ports);
      left = omega (arith, steps.1, ap length steps.0, so.left);
      faithful = rw c.push_reserved.ensures.items
          (All-push P c.loop-camera.ended.items c.into_parts.result so.faithful c.into_parts.ensures.faithful);
      desks = mapped-more f h c.loop-camera.ended.items c.push_reserved.new.self.items (into_iter_items c.loop-camera.camera-iterator)
          (into_iter_items c.next.new.self) c.args.cameras.items c.into_parts.result c.in-Some.camera so.desks steps.0
          c.push_reserved.ensures.items c.into_parts.ensures.desk;
      number = omega (arith, so.number, c.push_reserved-in-loop-camera.ensures.len);
      numbers = numbered-more c.loop-camera.number _ _ _ so.numbers c.push_reserved-in-loop-camera.ensures.items refl;
    }

pub returns-clause-desks : goal.returns-clause-desks
returns-clause-desks g c =
    let f : EndedCamera g.row.D.Denot g.row.A.Denot → SeenDesk g.row.D.Denot = λ c. c.desk in
    let h : OpenCamera g.row.D.Denot g.row.P.Denot g.row.A.Denot → SeenDesk g.row.D.Denot = λ c. c.session.desk in
    let rest = into_iter_items c.loop-camera.camera-iterator in
    mapped-all f h c.loop-camera.ended.items rest c.args.cameras.items c.loop-camera.invariant.desks
    (none-of rest (omega (arith, c.loop-camera.invariant.left, c.in-None.ensures.steps.0)))

pub returns-clause-numbers : goal.returns-clause-numbers
returns-clause-numbers g c =
    let so = c.loop-camera.invariant in
    let all : c.loop-camera.number ≡ vec_len c.args.cameras = omega (arith, so.number, so.ports, c.in-None.ensures.steps.0) in
    subst (λ n. AreNumbered n c.loop-camera.ports.items) all so.numbers
