use Rattle.loop_disk.proofs.CrashCalls.{replay-wrote}
use Rattle.loop_disk.proofs.crash.replay_call.Goals as goal

pub returns-in-Write-clause-replayed : goal.returns-in-Write-clause-replayed
returns-in-Write-clause-replayed g c = λ m done.
    replay-wrote (λ v. v.items) c.args.spoil m c.args.bytes.now.items c.args.image.now.items c.put.new.image.items c.put_spoiled.new.image.items
    c.deref.result.now c.deref-in-Write.result.now c.args.call.now c.in-Write.at c.in-Write.written c.in-Write.is
    c.deref.ensures.value c.deref-in-Write.ensures.value c.put.ensures c.put_spoiled.ensures c.requires.within done
