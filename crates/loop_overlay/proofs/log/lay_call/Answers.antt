use Rattle.loop_overlay.proofs.LogCalls.{laid_call}
use Rattle.loop_overlay.proofs.log.lay_call.Goals as goal

pub returns-in-Write-clause-laid : goal.returns-in-Write-clause-laid
returns-in-Write-clause-laid g c =
    laid_call (λ v. v.items) c.args.call.now c.in-Write.from c.in-Write.bytes c.args.at c.deref.result.now c.args.buf.now
    c.lay.new.buf c.in-Write.is c.deref.ensures.value c.lay.ensures
