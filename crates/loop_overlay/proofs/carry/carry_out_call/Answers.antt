use Rattle.loop_overlay.proofs.LogCalls.{carried_written}
use Rattle.loop_overlay.proofs.carry.carry_out_call.Goals as goal

pub returns-in-Write-clause-carries : goal.returns-in-Write-clause-carries
returns-in-Write-clause-carries g c = λ honest m stands within.
    carried_written (λ v. v.items) m c.args.call.now c.in-Write.at c.in-Write.bytes c.deref.result.now _ _
    c.write_at.result c.in-Write.is c.deref.ensures.value stands within (c.write_at.ensures.disk honest)
