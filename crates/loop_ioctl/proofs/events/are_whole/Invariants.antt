use Rattle.std.proofs.Common.{◌≡◌, drop}
use Rattle.loop_ioctl.specs.Events.{are_whole}
use Rattle.loop_ioctl.proofs.events.are_whole.Given as goal

-- what is left decides
abbrev pub invariant-loop-event : goal.invariant-loop-event
invariant-loop-event g l = are_whole l.shape l.events ≡ are_whole l.shape (drop l.event-index l.events)
