use Rattle.std.proofs.Common.{arith}
use Rattle.loop_store.specs.Calls.{unlocked}
use Rattle.loop_store.proofs.NextNumber.{next-one}
use Rattle.loop_desk.proofs.Always.{kept-same}
use Rattle.loop_desk.proofs.desk.Desk.unlock_clip.Goals as goal

pub invariant_of-self : goal.invariant_of-self
invariant_of-self g c =
    let s = c.self.inside in
    let new = c.unlock.new.self in
    let goes = c.unlock.ensures.goes in
    kept-same s.store new s.limits s.pending c.self.invariant goes.geometry (omega (arith, next-one s.store new (unlocked c.args.id c.unlock.result) goes))
