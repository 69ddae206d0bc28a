use Rattle.std.proofs.Common.{◌≡◌, ◌∷◌, ◌+◌, ◌++◌, ◌∙◌, [], Some, ap, arith, length, map, refl, slice_get, subst, sym}
use Rattle.std.proofs.lemmas.List.{map_push}
use Rattle.std.proofs.lemmas.List.Elements.{All-push}
use Rattle.std.proofs.lemmas.Option.{slice_get_read}
use Rattle.std.specs.Vec.Iter.{into_iter_items}
use Rattle.loop_capture.specs.declared.loan.Loan.{Loan}
use Rattle.loop_capture.specs.Ticks.{SeenDevice}
use Rattle.loop_pipeline.specs.declared.several.Shot.{Shot}
use Rattle.loop_recorder.specs.declared.post.Post.{Post}
use Rattle.loop_recorder.specs.declared.post.Watch.{Watch}
use Rattle.loop_recorder.specs.Recordings.{IsGuided, had_by, had_in, lender_of}
use Rattle.loop_recorder.proofs.Places.{none-left, one-more, taken-more}
use Rattle.loop_recorder.proofs.filming.shots_of.Goals as goal

pub loop-device-preserved : goal.loop-device-preserved
loop-device-preserved g c =
    let so = c.loop-device.invariant in
    let push = c.push_reserved.ensures in
    let one = c.in-Some.ensures in
    let shots = c.loop-device.shots.items in
    let shot = c.shot_of.result in
    let devices = c.args.devices.now in
    let number = c.loop-device.number in
    let item = c.loop-device-item.result in
    let lender : Shot (Loan g.row.S.Denot) g.row.D.Denot g.row.P.Denot (Post (Watch g.row.Q.Denot))
    → SeenDevice g.row.S.Denot = lender_of (λ loan. loan.source.now) in
    let is : lender shot ≡ item =
    λ i. record {
      source = (ap (λ (d : SeenDevice (Loan g.row.S.Denot)). d.source.source.now) c.shot_of.ensures.device
          ∙ c.lend.ensures.source) i;
      size = (ap (λ (d : SeenDevice (Loan g.row.S.Denot)). d.size) c.shot_of.ensures.device ∙ c.lend.ensures.size) i;
      next = (ap (λ (d : SeenDevice (Loan g.row.S.Denot)). d.next) c.shot_of.ensures.device ∙ c.lend.ensures.next) i;
      goes_on = (ap (λ (d : SeenDevice (Loan g.row.S.Denot)). d.goes_on) c.shot_of.ensures.device ∙ c.lend.ensures.goes_on) i;
    } in
    let at : slice_get devices number ≡ Some item =
    subst (λ n. slice_get devices n ≡ Some item) (sym so.number)
    (slice_get_read devices (length devices) c.loop-device.device-index item refl c.loop-device-test.true
    c.loop-device-item.is) in
    record {
      number = omega (arith, so.number);
      cameras = omega (arith, so.cameras, one.len);
      passes = omega (arith, so.passes, c.in-Some-next.ensures.len);
      shots = omega (arith, so.shots, push.len);
      room = omega (arith, so.room, push.capacity);
      left = omega (arith, one.len, ap length one.items, so.left);
      devices =
          ap (map lender) push.items ∙ map_push lender shots shot ∙ (λ i. so.devices i ++ is i ∷ [])
          ∙ sym (taken-more devices number (number + 1) item (omega arith) at);
      held =
          one-more had_in _ _ _ _ _ _
          (ap (map had_by) push.items ∙ map_push had_by shots shot
          ∙ ap (λ h. map had_by shots ++ h ∷ []) c.shot_of.ensures.held) one.items so.held;
      guided = rw push.items (All-push (IsGuided c.args.frames) _ _ so.guided c.shot_of.ensures.guided);
    }

pub returns-clause-held : goal.returns-clause-held
returns-clause-held g c =
    let at = c.loop-device in
    none-left had_in (map had_by at.shots.items) (into_iter_items at.cameras) (map had_in c.args.cameras.items) _
    at.invariant.left
    (omega (arith, at.invariant.cameras, at.invariant.number, c.loop-device-test.false, at.auto.device-index-end))
    at.invariant.held
