use Rattle.loop_disk.specs.declared.crash.DeviceCall.TheVariants as call
use Rattle.loop_disk.proofs.CrashCalls.{view-more, wrote, wrote-each, written-recorded}
use Rattle.loop_disk.proofs.crash.CrashDiskDisk.write_at.Goals as goal

pub invariant_of-self : goal.invariant_of-self
invariant_of-self g c =
    let inside = c.self.inside in
    written-recorded c.args.self.now inside.start.items inside.calls.items (λ v. v.items) _ inside.bytes.items
    c.remember_write.new.image.items inside.failures c.args.at c.args.bytes.now c.self.view_is
    (c.in-Ok.ensures.call) (c.in-Ok.ensures.image) c.requires c.self.invariant

pub returns-in-Ok-clause-disk : goal.returns-in-Ok-clause-disk
returns-in-Ok-clause-disk g c = λ honest.
    let inside = c.self.inside in
    wrote c.args.self.now _ c.args.at c.args.bytes.now c.requires
    (view-more (λ v. v.items) c.args.self.now inside.start.items inside.calls.items _ inside.failures
    (call.Write c.args.at c.args.bytes.now) c.self.view_is (c.in-Ok.ensures.call))

pub returns-in-Ok-clause-each : goal.returns-in-Ok-clause-each
returns-in-Ok-clause-each g c = λ harsh.
    let inside = c.self.inside in (
      tt,
      wrote-each c.args.self.now _ c.args.at c.args.bytes.now c.requires
          (view-more (λ v. v.items) c.args.self.now inside.start.items inside.calls.items _ inside.failures
          (call.Write c.args.at c.args.bytes.now) c.self.view_is (c.in-Ok.ensures.call)),
    )
