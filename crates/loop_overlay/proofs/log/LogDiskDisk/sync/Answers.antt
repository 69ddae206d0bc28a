use Rattle.std.proofs.Common.{ap, map}
use Rattle.loop_disk.specs.declared.crash.DeviceCall.TheVariants as call
use Rattle.loop_disk.specs.Crashing.{call_of}
use Rattle.loop_disk.proofs.CrashCalls.{synced, view-more}
use Rattle.loop_overlay.specs.Pages.{Logged}
use Rattle.loop_overlay.proofs.LogCalls.{noted}
use Rattle.loop_overlay.proofs.log.LogDiskDisk.sync.Goals as goal

pub invariant_of-self : goal.invariant_of-self
invariant_of-self g c =
    let inside = c.self.inside in record {
      recorded = noted inside.start.now (map (call_of (λ v. v.items)) inside.calls.items) _ call.Sync c.in-Ok.ensures.call tt
          c.self.invariant.recorded;
      awaits = c.self.invariant.awaits;
    }

pub returns-in-Ok-clause-disk : goal.returns-in-Ok-clause-disk
returns-in-Ok-clause-disk g c = λ honest.
    let inside = c.self.inside in
    synced c.args.self.now.tape _ (view-more (λ v. v.items) c.args.self.now.tape inside.start.now inside.calls.items _
    inside.failures call.Sync (ap (λ (log : Logged). log.tape) c.self.view_is) (c.in-Ok.ensures.call))
