use Rattle.std.proofs.Common.{sym, ◌∙◌}
use Rattle.loop_vb2.specs.State.{QueueState, StandsQueue}
use Rattle.loop_capture.proofs.Active.{never_refused}
use Rattle.loop_capture.proofs.device.end_lent.Goals as goal

pub returns-in-Err-clause-ends : goal.returns-in-Err-clause-ends
returns-in-Err-clause-ends g c =
    let never : (s : QueueState) → StandsQueue g.P.PlaneMemory.plane c.args.queue.now s → ⊥ =
    λ s h. never_refused s c.in-More-Some.index c.in-Err.field-0
    (sym (c.requires.active s h) ∙ c.in-More-Some.is-1) (c.in-Err.ensures.step s h).0 in
    (λ s h. absurd (never s h), λ s h. absurd (never s h))
