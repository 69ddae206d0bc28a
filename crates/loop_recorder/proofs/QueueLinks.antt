-- A queue with its table stands for a state after a tick.
use Rattle.std.proofs.Common.{◌≡◌, ℕ, List, sym, subst}
use Rattle.loop_plane.specs.Plane.{Plane}
use Rattle.loop_plane.specs.Fds.{Fds}
use Rattle.loop_record.specs.Turns.{after_all}
use Rattle.loop_vb2.specs.declared.buffer.Stamp.{Stamp}
use Rattle.loop_vb2.specs.Events.{after_event}
use Rattle.loop_vb2.specs.State.{Lined}
use Rattle.loop_ioctl.specs.Calls.{IoctlState, StandsIoctl}
use Rattle.loop_ioctl.proofs.QueueSteps.{moves}
use Rattle.loop_capture.specs.declared.device.Tick.{Tick}
use Rattle.loop_capture.specs.declared.device.Tick.TheVariants.{Idle, Completed, Failed, Missed, Ended, WrongSize}
use Rattle.loop_capture.specs.declared.source.Next.{Next}
use Rattle.loop_capture.specs.Ticks.{SeenDevice, Ticks, Took, tick_events, sequence_of}
use Rattle.loop_capture.proofs.TickLinks.{tick-linked}
use Rattle.loop_pipeline.specs.Fronts.{StandsPort}

module _ {S P : Type 0} (gives : S → Next → List ℕ → S → Type 0) (m : P → Plane) (now : ℕ) where
  took-stands : (tick : Tick) (d e : SeenDevice S) (before after : Lined P) (table : Fds P) (j : IoctlState)
      → StandsIoctl m before table j → Took gives m now tick d e before after j.queue → StandsPort m after table
  took-stands tick d e before after table j stands took =
      let stamp : Stamp = record { sequence = sequence_of d j.queue; timestamp = now } in
      let s = after_all after_event j.queue (tick_events now d tick took.bytes j.queue) in
      record { state = _; stands = moves m before after table j s stands took.queue (tick-linked tick stamp took.bytes j.queue j.out j.names stands.linked) }

  same-stands : (before after : Lined P) (table : Fds P) → after ≡ before → StandsPort m before table
      → StandsPort m after table
  same-stands before after table same port = subst (λ (q : Lined P). StandsPort m q table) (sym same) port

  -- queue and table stand for a state after it
  pub port-ticked : (tick : Tick) (d e : SeenDevice S) (before after : Lined P) (table : Fds P)
      → Ticks gives m now tick d e before after → StandsPort m before table → StandsPort m after table
  port-ticked WrongSize d e before after table ticks port = same-stands before after table (ticks port.state.queue port.stands.queue).2 port
  port-ticked Idle d e before after table ticks port = same-stands before after table (ticks port.state.queue port.stands.queue).3 port
  port-ticked (Completed i) d e before after table ticks port =
      took-stands (Completed i) d e before after table port.state port.stands (ticks port.state.queue port.stands.queue)
  port-ticked (Failed i) d e before after table ticks port =
      took-stands (Failed i) d e before after table port.state port.stands (ticks port.state.queue port.stands.queue)
  port-ticked Missed d e before after table ticks port =
      took-stands Missed d e before after table port.state port.stands (ticks port.state.queue port.stands.queue)
  port-ticked Ended d e before after table ticks port =
      took-stands Ended d e before after table port.state port.stands (ticks port.state.queue port.stands.queue)
