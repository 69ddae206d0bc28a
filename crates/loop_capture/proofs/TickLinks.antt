-- A tick keeps a queue linked with what fds name.
use Rattle.std.proofs.Common.{ℕ, List}
use Rattle.loop_plane.specs.Plane.{Plane}
use Rattle.loop_record.specs.Turns.{after_all}
use Rattle.loop_vb2.specs.declared.buffer.Stamp.{Stamp}
use Rattle.loop_vb2.specs.Effects.{on_body}
use Rattle.loop_vb2.proofs.Short.{body_seen}
use Rattle.loop_vb2.specs.Events.{after_event}
use Rattle.loop_vb2.specs.State.{QueueState}
use Rattle.loop_ioctl.specs.Attached.{IsLinked}
use Rattle.loop_ioctl.specs.Names.{Names}
use Rattle.loop_ioctl.proofs.Device.{completed_linked, failed_linked}
use Rattle.loop_capture.specs.declared.device.Tick.{Tick}
use Rattle.loop_capture.specs.declared.device.Tick.TheVariants.{Idle, Completed, Failed, Missed, Ended, WrongSize}
use Rattle.loop_capture.specs.Ticks.{end_event}

-- a tick is one end of a buffer, or none
pub tick-linked : (tick : Tick) (stamp : Stamp) (bytes : List ℕ) (s : QueueState) (out : List (ℕ × Plane))
    (n : Names Plane) → IsLinked s.body out n
    → IsLinked (after_all after_event (on_body body_seen s) (end_event tick stamp bytes)).body out n
tick-linked (Completed i) stamp bytes s out n linked = completed_linked i stamp bytes (on_body body_seen s) out n linked
tick-linked (Failed i) stamp bytes s out n linked = failed_linked i stamp (on_body body_seen s) out n linked
tick-linked Idle stamp bytes s out n linked = linked
tick-linked Missed stamp bytes s out n linked = linked
tick-linked Ended stamp bytes s out n linked = linked
tick-linked WrongSize stamp bytes s out n linked = linked
