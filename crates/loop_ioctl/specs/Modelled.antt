-- The events of the queue's own model that a run is, and in which order buffers come out.
use Rattle.std.specs.Prelude.{◌≡◌, cond, is_some, List, [], option_to_list}
use Rattle.loop_plane.specs.Plane.{Plane}
use Rattle.loop_plane.specs.Fds.{Fds}
use Rattle.loop_record.specs.Turns.{after_all, told_in, EachIn}
use Rattle.loop_vb2.specs.Events as model
use Rattle.loop_vb2.specs.Events.{Event}
use Rattle.loop_vb2.specs.Laws.{KeepsOrder}
use Rattle.loop_vb2.specs.State.{Lined}
use Rattle.loop_ioctl.specs.declared.events.QueueEvent.{QueueEvent}
use Rattle.loop_ioctl.specs.declared.events.QueueEvent.TheVariants as event
use Rattle.loop_ioctl.specs.declared.events.QueueReply.{QueueReply}
use Rattle.loop_ioctl.specs.declared.events.QueueReply.TheVariants as answer
use Rattle.loop_ioctl.specs.Calls.{IoctlState, StandsIoctl, call_event, refusal_before}
use Rattle.loop_ioctl.specs.Events.{IsTurn, Runs, device_event, after_reply, turns}

module _ {P A : Type 0} (meaning : P → Plane) where
  -- any event of a list, with its reply; what is refused before it comes to the queue is no event of it
  abbrev pub event_of : QueueEvent P A → QueueReply P A → IoctlState → List Event
  event_of (event.Ioctl c) (answer.Ioctl result) j =
      cond (is_some (refusal_before c j)) [] (option_to_list (call_event meaning c result j))
  event_of e r j = option_to_list (device_event e r)

  abbrev pub events_of : IoctlState → QueueEvent P A × QueueReply P A → List Event
  events_of j turn = event_of turn.0 turn.1 j

  -- those of a whole list, one after the other
  abbrev pub events_in : IoctlState → List (QueueEvent P A × QueueReply P A) → List Event
  events_in j turns = told_in (after_reply meaning) events_of j turns

  -- buffers are dequeued in the order in which they ended
  abbrev pub RunsInOrder : List (QueueEvent P A) → List (QueueReply P A) → Lined P → Fds P → Lined P → Type 0
  RunsInOrder events replies queue table new_queue =
      (j : IoctlState) → StandsIoctl meaning queue table j
      → KeepsOrder queue new_queue (events_in j (turns events replies))

-- Turns, each as the model of the ioctls has it, are events of the queue's model, and lead to its state.
abbrev pub TurnsAreEvents : {P : Type 0} → Type 0 → (P → Plane) → Type 0
TurnsAreEvents {P} A meaning =
    (j : IoctlState) (xs : List (QueueEvent P A × QueueReply P A)) → EachIn (after_reply meaning) (IsTurn meaning) j xs
    → EachIn model.after_event model.MayHappen j.queue (events_in meaning j xs)
    × ((after_all (after_reply meaning) j xs).queue ≡ after_all model.after_event j.queue (events_in meaning j xs))

-- Whatever the lists, a run's buffers are dequeued in the order in which they ended.
abbrev pub RunsAreInOrder : {P : Type 0} → Type 0 → (P → Plane) → Type 0
RunsAreInOrder {P} A meaning =
    (events : List (QueueEvent P A)) (replies : List (QueueReply P A)) (q q' : Lined P) (t t' : Fds P)
    → Runs meaning events replies q t q' t' → RunsInOrder meaning events replies q t q'
