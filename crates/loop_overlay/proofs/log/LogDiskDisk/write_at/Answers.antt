use Rattle.std.proofs.Common.{List, map, ◌∙◌, ap}
use Rattle.loop_disk.specs.declared.crash.DeviceCall.{DeviceCall}
use Rattle.loop_disk.specs.declared.crash.DeviceCall.TheVariants as call
use Rattle.loop_disk.specs.declared.fault.DiskFault.TheVariants.{Write}
use Rattle.loop_disk.specs.Crashing.{call_of}
use Rattle.loop_disk.proofs.CrashCalls.{view-more, wrote, wrote-each}
use Rattle.loop_overlay.specs.Pages.{Logged}
use Rattle.loop_overlay.proofs.LogCalls.{noted_write, refused}
use Rattle.loop_overlay.proofs.log.LogDiskDisk.write_at.Goals as goal

pub invariant_of-self : goal.invariant_of-self
invariant_of-self g c =
    let inside = c.self.inside in record {
      recorded = noted_write c.args.self.now.tape inside.start.now inside.calls.items (λ v. v.items) _ inside.failures
          c.args.at c.args.bytes.now (ap (λ (log : Logged). log.tape) c.self.view_is) (c.in-Ok.ensures.call) c.requires
          c.self.invariant.recorded;
      awaits = c.self.invariant.awaits;
    }

pub returns-in-Ok-clause-disk : goal.returns-in-Ok-clause-disk
returns-in-Ok-clause-disk g c = λ honest.
    let inside = c.self.inside in
    wrote c.args.self.now.tape _ c.args.at c.args.bytes.now c.requires
    (view-more (λ v. v.items) c.args.self.now.tape inside.start.now inside.calls.items _ inside.failures
    (call.Write c.args.at c.args.bytes.now) (ap (λ (log : Logged). log.tape) c.self.view_is) (c.in-Ok.ensures.call))

pub returns-in-Ok-clause-each : goal.returns-in-Ok-clause-each
returns-in-Ok-clause-each g c = λ harsh.
    let inside = c.self.inside in (
      tt,
      wrote-each c.args.self.now.tape _ c.args.at c.args.bytes.now c.requires
          (view-more (λ v. v.items) c.args.self.now.tape inside.start.now inside.calls.items _ inside.failures
          (call.Write c.args.at c.args.bytes.now) (ap (λ (log : Logged). log.tape) c.self.view_is) (c.in-Ok.ensures.call)),
    )

pub returns-in-Err-clause-disk : goal.returns-in-Err-clause-disk
returns-in-Err-clause-disk g c = λ honest.
    let f = c.note.new.self in
    let start = c.self.inside.start.now in
    let same = ap (λ (items : List (DeviceCall _)).
    record { start = start; calls = map (call_of (λ v. v.items)) items; failures = f }) c.in-Err.ensures.no_call
    ∙ ap (λ (log : Logged). record log.tape { failures = f }) c.self.view_is in
    refused c.args.self.now.tape _ f c.args.at c.args.bytes.now Write c.note.result c.note.ensures.same same
