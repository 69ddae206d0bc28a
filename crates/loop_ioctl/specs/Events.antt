-- Lists of events of application and device, each with its reply.
use Rattle.std.specs.Prelude.{◌≡◌, Bool, true, ◌&&◌, ◌==◌, length, List, [], ◌∷◌, ◌++◌, IsSomeAnd, Option, Some, None}
use Rattle.std.specs.Option.{option_map_or}
use Rattle.std.specs.Result.{result_err}
use Rattle.loop_plane.specs.Plane.{Plane}
use Rattle.loop_plane.specs.Fds.{Fds}
use Rattle.loop_record.specs.Turns.{Machine, Turns, Plays}
use Rattle.loop_vb2.specs.declared.planes.Shape.{Shape}
use Rattle.loop_vb2.specs.Events.{Event, MayHappen, after_event, complete, fail, fatal}
use Rattle.loop_vb2.specs.Planes.{frame_size}
use Rattle.loop_vb2.specs.State.{Lined}
use Rattle.loop_ioctl.specs.declared.events.QueueEvent.{QueueEvent}
use Rattle.loop_ioctl.specs.declared.events.QueueEvent.TheVariants as event
use Rattle.loop_ioctl.specs.declared.events.QueueReply.{QueueReply}
use Rattle.loop_ioctl.specs.declared.events.QueueReply.TheVariants as answer
use Rattle.loop_ioctl.specs.Calls.{IoctlState, StandsIoctl, IsReplied, after_ioctl}

module _ {P A : Type 0} where
  -- the bytes of a Complete are one whole frame
  abbrev pub is_whole : Shape → QueueEvent P A → Bool
  is_whole shape (event.Complete index stamp bytes) = length bytes.items == frame_size shape
  is_whole shape e = true

  -- those of each Complete are
  abbrev pub are_whole : Shape → List (QueueEvent P A) → Bool
  are_whole shape [] = true
  are_whole shape (e ∷ es) = is_whole shape e && are_whole shape es

  -- each event with its reply
  abbrev pub turns : List (QueueEvent P A) → List (QueueReply P A) → List (QueueEvent P A × QueueReply P A)
  turns [] rs = []
  turns (e ∷ es) [] = []
  turns (e ∷ es) (r ∷ rs) = (e, r) ∷ turns es rs

  -- the event of the queue that a call of the device with its answer is
  abbrev pub device_event : QueueEvent P A → QueueReply P A → Option Event
  device_event (event.Complete index stamp bytes) (answer.Ended result) =
      Some (complete index stamp bytes.items (result_err result))
  device_event (event.Fail index stamp) (answer.Ended result) = Some (fail index stamp (result_err result))
  device_event event.Fatal answer.Fatal = Some fatal
  device_event e r = None

module _ {P A : Type 0} (meaning : P → Plane) where
  -- the reply is the model's
  abbrev pub IsTold : QueueEvent P A → QueueReply P A → IoctlState → Type 0
  IsTold (event.Ioctl call) (answer.Ioctl result) j = IsReplied meaning call j result
  IsTold e r j = IsSomeAnd (device_event e r) (MayHappen j.queue)

  -- the state after the event: the device changes the queue alone
  abbrev pub state_after : QueueEvent P A → QueueReply P A → IoctlState → IoctlState
  state_after (event.Ioctl call) (answer.Ioctl result) j = after_ioctl meaning call j result
  state_after e r j = record j { queue = option_map_or (after_event j.queue) (device_event e r) j.queue }

  -- of an event and its reply as one value
  abbrev pub IsTurn : IoctlState → QueueEvent P A × QueueReply P A → Type 0
  IsTurn j turn = IsTold turn.0 turn.1 j

  abbrev pub after_reply : IoctlState → QueueEvent P A × QueueReply P A → IoctlState
  after_reply j turn = state_after turn.0 turn.1 j

  -- the model of the ioctls and of the device's calls
  abbrev pub ioctl_machine : Machine IoctlState (QueueEvent P A × QueueReply P A)
  ioctl_machine = record { after = after_reply; May = IsTurn }

  -- one event: the reply is the model's, and queue and table stand for the state after it
  abbrev pub Reacts : QueueEvent P A → QueueReply P A → Lined P → Fds P → Lined P → Fds P → Type 0
  Reacts e r queue table new_queue new_table =
      Turns ioctl_machine (StandsIoctl meaning queue table) (StandsIoctl meaning new_queue new_table) (e, r)

  -- a list of events: there are as many replies, each is the model's at its point, and queue and table stand
  -- for the state after all
  pub record Runs (events : List (QueueEvent P A)) (replies : List (QueueReply P A)) (queue : Lined P) (table : Fds P)
      (new_queue : Lined P) (new_table : Fds P) : Type 0 where
    pub count : length replies ≡ length events
    pub told : Plays ioctl_machine (StandsIoctl meaning queue table) (StandsIoctl meaning new_queue new_table)
        (turns events replies)

-- Two runs, one after the other, are the run of the joined lists.
abbrev pub RunsJoin : {P : Type 0} → Type 0 → (P → Plane) → Type 0
RunsJoin {P} A meaning =
    (es fs : List (QueueEvent P A)) (rs ss : List (QueueReply P A)) (q q' q'' : Lined P) (t t' t'' : Fds P)
    → Runs meaning es rs q t q' t' → Runs meaning fs ss q' t' q'' t'' → Runs meaning (es ++ fs) (rs ++ ss) q t q'' t''
