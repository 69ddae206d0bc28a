use Rattle.loop_disk.specs.declared.crash.DeviceCall.TheVariants as call
use Rattle.loop_disk.proofs.CrashCalls.{recorded-more, view-more, looked, looked-called}
use Rattle.loop_disk.proofs.crash.CrashDiskDisk.read.Goals as goal

pub invariant_of-self : goal.invariant_of-self
invariant_of-self g c =
    let inside = c.self.inside in
    recorded-more inside.start.items _ _ inside.bytes.items inside.bytes.items call.Read
    (c.in-Ok.ensures.call) tt c.self.invariant.whole c.self.invariant.size c.self.invariant

pub returns-in-Ok-clause-disk : goal.returns-in-Ok-clause-disk
returns-in-Ok-clause-disk g c = λ honest.
    let inside = c.self.inside in
    looked c.args.self.now _ (view-more (λ v. v.items) c.args.self.now inside.start.items inside.calls.items _
    inside.failures call.Read c.self.view_is (c.in-Ok.ensures.call))

pub returns-in-Ok-clause-called : goal.returns-in-Ok-clause-called
returns-in-Ok-clause-called g c =
    let inside = c.self.inside in
    looked-called c.args.self.now _
    (view-more (λ v. v.items) c.args.self.now inside.start.items inside.calls.items _ inside.failures call.Read
    c.self.view_is (c.in-Ok.ensures.call))
