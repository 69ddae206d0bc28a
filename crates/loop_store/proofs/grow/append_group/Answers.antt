use Rattle.std.proofs.Common.{ℕ, length, OnOk, map, refl, sym, ◌∙◌, subst}
use Rattle.std.proofs.lemmas.Result.{err_from_is_err_and, on_ok_weaker}
use Rattle.loop_disk.proofs.Moments.{called_on, weaker}
use Rattle.loop_record.specs.Reading.{Holds}
use Rattle.loop_record.specs.Recording.{Recording, plain, ring_of, store}
use Rattle.loop_record.proofs.Bounds.{limits}
use Rattle.loop_record.proofs.Steps.{plain-append}
use Rattle.loop_store.specs.AppendPlace.{IsBegunAt, place_segment, steps_before}
use Rattle.loop_store.proofs.BlockImages.{earlier-steps, steps-joined}
use Rattle.loop_store.proofs.Room.{before-next, grown-place}
use Rattle.loop_store.proofs.grow.append_group.Goals as goal

pub returns-in_err-make_room : goal.returns-in_err-make_room
returns-in_err-make_room g c =
    let h = c.args.index.now.ring.geometry in
    let p = err_from_is_err_and c.from_residual.result c.from_residual.ensures.1 in
    rw (p.1, p.2) (record {
      moments = λ r is honest held.
          weaker _ _ _ _ (c.make_room.ensures.moments r (is ∙ sym c.first.ensures) honest held)
          (λ image some. earlier-steps h r (steps_before h c.args.index.now.table.keep r) (map store c.args.group.now.frames) image some);
      held = λ r is honest held. tt;
      such = λ honest. tt;
      settled = λ honest. tt;
      fault = c.in_err-make_room.ensures.fault;
      called = c.in_err-make_room.ensures.called;
    })

pub returns : goal.returns
returns g c =
    let h = c.args.index.now.ring.geometry in
    let first = c.args.group.now.first in
    let frames = c.args.group.now.frames in
    let old = g.D.Disk.medium c.args.disk.now in
    let mid = g.D.Disk.medium c.make_room.new.disk in
    let new = g.D.Disk.medium c.store_group.new.disk in record {
      moments = λ r is honest held.
          let before = steps_before h c.args.index.now.table.keep r in
          steps-joined h r before (map store frames) old mid new (c.make_room.ensures.moments r (is ∙ sym c.first.ensures) honest held)
          (c.store_group.ensures.moments (plain (ring_of h) r before) (before-next h c.args.index.now.table.keep r ∙ is)
          (c.make_room.ensures.called.honest.0 honest)
          (c.in_ok-make_room.ensures.held r (is ∙ sym c.first.ensures) honest held));
      held = λ r is honest held.
          let before = steps_before h c.args.index.now.table.keep r in
          subst (λ (q : Recording). OnOk c.store_group.result (Holds h q new.bytes)) (sym (plain-append (ring_of h) r before (map store frames)))
          (c.store_group.ensures.held (plain (ring_of h) r before) (before-next h c.args.index.now.table.keep r ∙ is)
          (c.make_room.ensures.called.honest.0 honest)
          (c.in_ok-make_room.ensures.held r (is ∙ sym c.first.ensures) honest held));
      such = λ honest.
          let begun = subst (λ (n : ℕ). IsBegunAt h n (place_segment c.args.place) old.bytes mid.bytes)
          c.first.ensures (c.in_ok-make_room.ensures.such honest).1 in
          on_ok_weaker c.store_group.result
          (λ stored. grown-place h first (length frames) c.segment.result c.args.place frames old.bytes mid.bytes
          new.bytes (limits h c.args.index.now.ring.good).slots.1 c.segment.ensures c.requires.segment refl begun
          stored.0 stored.1)
          (c.store_group.ensures.such (c.make_room.ensures.called.honest.0 honest));
      settled = λ honest. c.store_group.ensures.settled (c.make_room.ensures.called.honest.0 honest);
      fault = c.store_group.ensures.fault;
      called = called_on old mid new _ c.in_ok-make_room.ensures.called c.store_group.ensures.called;
    }
