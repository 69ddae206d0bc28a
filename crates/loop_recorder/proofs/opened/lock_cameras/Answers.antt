use Rattle.std.proofs.Common.{◌≡◌, arith, refl, subst, vec_len}
use Rattle.loop_desk.proofs.Always.{none-of}
use Rattle.loop_recorder.specs.Opened.{AreNumbered}
use Rattle.loop_recorder.proofs.OutlineSteps.{numbered-more}
use Rattle.loop_recorder.proofs.opened.lock_cameras.Goals as goal

pub loop-camera-init : goal.loop-camera-init
loop-camera-init g c =
    let len = c.into_iter-camera-iterator.ensures.into_iter_gives.1 in
    record {
      room = omega (arith, len, c.requires.sessions.0, c.requires.sessions.1);
      space = omega (arith, len, c.requires.ports.0, c.requires.ports.1);
      sessions = omega (arith, len, c.requires.sessions.0);
      ports = omega (arith, len, c.requires.ports.0);
      number = omega (arith, c.requires.ports.0);
      numbers = rw (none-of c.args.ports.items (omega (arith, c.requires.ports.0, c.args.ports.ok.0))) refl;
    }

pub loop-camera-preserved : goal.loop-camera-preserved
loop-camera-preserved g c =
    let so = c.loop-camera.invariant in
    let steps = c.in-Some.ensures.steps in
    record {
      room = omega (arith, steps.1, c.push_reserved.ensures.len, c.push_reserved.ensures.capacity, so.room);
      space = omega (arith, steps.1, c.push_reserved-in-loop-camera.ensures.len, c.push_reserved-in-loop-camera.ensures.capacity, so.space);
      sessions = omega (arith, steps.1, c.push_reserved.ensures.len, so.sessions);
      ports = omega (arith, steps.1, c.push_reserved-in-loop-camera.ensures.len, so.ports);
      number = omega (arith, so.number, c.push_reserved-in-loop-camera.ensures.len);
      numbers = numbered-more c.loop-camera.number _ _ _ so.numbers c.push_reserved-in-loop-camera.ensures.items refl;
    }

pub returns-clause-numbers : goal.returns-clause-numbers
returns-clause-numbers g c =
    let so = c.loop-camera.invariant in
    let all : c.loop-camera.number ≡ vec_len c.args.cameras = omega (arith, so.number, so.ports, c.in-None.ensures.steps.0) in
    subst (λ n. AreNumbered n c.loop-camera.ports.items) all so.numbers
