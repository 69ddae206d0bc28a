-- Turns of a lane as events of the queue's own model, and the order in which its buffers are dequeued.
use Rattle.std.proofs.Common.{◌≡◌, ℕ, Bool, true, false, cond, Result, Ok, Err, List, [], ◌∷◌, refl, subst}
use Rattle.std.specs.Prelude.{MatchBool}
use Rattle.std.specs.List.{zip}
use Rattle.loop_plane.specs.Plane.{Plane}
use Rattle.loop_disk.specs.Medium.{Medium}
use Rattle.loop_record.specs.Turns.{EachIn}
use Rattle.loop_vb2.specs.Events as model
use Rattle.loop_vb2.specs.Events.{Event}
use Rattle.loop_vb2.specs.Laws.{KeepsOrder}
use Rattle.loop_vb2.specs.State.{QueueState, StandsQueue}
use Rattle.loop_vb2.proofs.FrameOrder.{dequeues_in_order}
use Rattle.loop_ioctl.specs.declared.events.QueueEvent.{QueueEvent}
use Rattle.loop_ioctl.specs.declared.events.QueueReply.{QueueReply}
use Rattle.loop_ioctl.specs.Calls.{IoctlState}
use Rattle.loop_ioctl.specs.Events.{IsTold, state_after}
use Rattle.loop_ioctl.specs.Modelled.{event_of}
use Rattle.loop_ioctl.proofs.ModelTurns.{AreBetween, all_told, turn_told}
use Rattle.loop_lane.specs.declared.event.LaneEvent.{LaneEvent}
use Rattle.loop_lane.specs.declared.event.LaneReply.{LaneReply}
use Rattle.loop_desk.specs.declared.hand.LaneFault.{LaneFault}
use Rattle.loop_desk.specs.declared.hand.LaneFault.TheVariants.{Queue, Store}
use Rattle.loop_lane.specs.declared.lane.Lane.{Lane}
use Rattle.loop_desk.specs.Front.{Front, HandState, IsDequeue, IsOneEvent, IsRequeue, IsForbidden, dequeue_event, dequeued, empty, front_after, full, kind_of, offered, on_queue, requeue_event, requeued, spent}
use Rattle.loop_lane.specs.Lane.{IsAtFront, IsLaneTurn, LaneRan, LaneTurn, LaneTurnsAreEvents, StandsLane, after_turn, at_desk, at_front, event_at, event_at_turn, lane_after, mixed, queue_events, turn_at}

-- ---- one turn

one-each : (s : QueueState) (events : List Event) → IsOneEvent s events
    → EachIn model.after_event model.MayHappen s events
one-each s [] one = absurd one
one-each s (e ∷ []) one = (one, tt)
one-each s (e ∷ d ∷ more) one = absurd one

module _ {P : Type 0} (A : Type 0) (m : P → Plane) where
  dequeue-told : (j : IoctlState) (h : HandState) (result : Result ℕ LaneFault) → IsDequeue j h result
      → AreBetween j.queue (front_after {P = P} {A = A} m (record { queue = j; hand = h }) (dequeued result)).queue.queue (dequeue_event j result)
  dequeue-told j empty (Ok index) said = (one-each j.queue (dequeue_event j (Ok index)) said, refl)
  dequeue-told j (full i p planes) (Ok index) said = absurd (cc)
  dequeue-told j (spent i planes) (Ok index) said = absurd (cc)
  dequeue-told j empty (Err (Queue e)) said = ((said, tt), refl)
  dequeue-told j (full i p planes) (Err (Queue e)) said = absurd (cc)
  dequeue-told j (spent i planes) (Err (Queue e)) said = absurd (cc)
  dequeue-told j h (Err (Store fault)) said = (tt, refl)

  requeue-told : (j : IoctlState) (h : HandState) (result : Result ℕ LaneFault) → IsRequeue j h result
      → AreBetween j.queue (front_after {P = P} {A = A} m (record { queue = j; hand = h }) (requeued result)).queue.queue (requeue_event (kind_of j) h result)
  requeue-told j empty (Ok index) said = (tt, refl)
  requeue-told j (full i p planes) (Ok index) said = (tt, refl)
  requeue-told j (spent i planes) (Ok index) said = ((said.0, tt), refl)
  requeue-told j empty (Err fault) said = (tt, refl)
  requeue-told j (full i p planes) (Err fault) said = (tt, refl)
  requeue-told j (spent i planes) (Err (Queue e)) said = ((said.0, tt), refl)
  requeue-told j (spent i planes) (Err (Store fault)) said = absurd said.0

module _ {P A : Type 0} (m : P → Plane) where
  on-queue-told : (forbidden : Bool) (e : QueueEvent P A) (r : QueueReply P A) (j : IoctlState)
      → MatchBool forbidden (IsForbidden e r) (IsTold m e r j) → AreBetween j.queue (cond forbidden j (state_after m e r j)).queue
      (cond forbidden [] (event_of m e r j))
  on-queue-told true e r j said = (tt, refl)
  on-queue-told false e r j said = turn_told m e r j said

  pub lane-told : (f : Front) (t : LaneTurn P A) → IsAtFront m f t
      → AreBetween f.queue.queue (after_turn m f t).queue.queue (event_at_turn m f t)
  lane-told f (at_front (on_queue e (Ok r))) said = on-queue-told _ e r f.queue said.1
  lane-told f (at_front (on_queue e (Err fault))) said = (tt, refl)
  lane-told f (at_front (dequeued result)) said = dequeue-told A m f.queue f.hand result said
  lane-told f (at_front (requeued result)) said = requeue-told A m f.queue f.hand result said
  lane-told f (at_front (offered result)) said = (tt, refl)
  lane-told f (at_desk c) said = (tt, refl)
  lane-told f mixed said = absurd said

-- ---- lists

pub lane-turns-are-events : {P : Type 0} (A : Type 0) (m : P → Plane) → LaneTurnsAreEvents A m
lane-turns-are-events A m f xs each = all_told (lane_after m) (IsLaneTurn m) model.after_event model.MayHappen
    (λ x. x.queue.queue) (event_at m) (λ x t said. lane-told m x (turn_at x t) said) f xs each

pub dequeues : {D P A : Type 0} (m : P → Plane) (medium : D → Medium) (old new : Lane D P A)
    (es : List (LaneEvent P A)) (ps : List (LaneReply P A)) → LaneRan m medium old new es ps
    → (f : Front) → StandsLane m old f → KeepsOrder old.queue new.queue (queue_events m f (zip es ps))
dequeues {D} {P} {A} m medium old new es ps run f stands =
    let ran = run.front f stands in
    let xs = zip es ps in
    let are = lane-turns-are-events A m f xs ran.0 in
    dequeues_in_order m old.queue new.queue f.queue.queue (queue_events m f xs) stands.queue.queue are.0
    (subst (λ (s : QueueState). StandsQueue m new.queue s) are.1 ran.1.queue.queue)
