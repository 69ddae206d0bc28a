use Rattle.std.proofs.Common.{◌≡◌, ap, arith, length, subst, vec_len}
use Rattle.loop_recorder.specs.Opened.{AreNumbered, SeenRecorder}
use Rattle.loop_recorder.proofs.opening.OpenRecorder.lock_again.Goals as goal

pub invariant_of-result : goal.invariant_of-result
invariant_of-result g c =
    let made = c.lock_cameras-sessions.ensures in
    let outlines : c.self.inside.outlines.items ≡ c.args.self.outlines = ap (λ (o : SeenRecorder g.row.A.Denot). o.outlines) c.self.view_is in
    let all : vec_len c.args.cameras ≡ vec_len c.self.inside.outlines = omega (arith, c.requires, ap length outlines, c.self.inside.outlines.ok.0) in
    let kept = c.self.invariant.1.1 in (
      omega (arith, made.sessions, all),
      (
        omega (arith, made.ports, all),
        (
          kept.0,
          (
            omega (arith, made.sessions, all, kept.1.0),
            (
              omega (arith, made.sessions, all, kept.1.1.0),
              (subst (λ n. AreNumbered n c.lock_cameras-sessions.result.1.items) all made.numbers, kept.1.1.1),
            ),
          ),
        ),
      ),
    )
