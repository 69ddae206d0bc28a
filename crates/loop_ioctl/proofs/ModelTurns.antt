-- Turns of the ioctls as events of the queue's model, and the order of its buffers over a run. Crates above cite it.
use Rattle.std.proofs.Common.{◌≡◌, List, [], ◌∷◌, Option, Some, None, Ok, Err, refl, sym, ◌∙◌, ap, subst}
use Rattle.std.specs.Prelude.{Result, cond, is_some, IsSomeAnd, option_to_list}
use Rattle.std.specs.Option.{option_map_or}
use Rattle.loop_plane.specs.Plane.{Plane}
use Rattle.loop_record.specs.Turns.{after_all, told_in, EachIn}
use Rattle.loop_record.proofs.TurnRuns.{after-behind, each-behind}
use Rattle.loop_vb2.specs.declared.reason.Reason.{Reason}
use Rattle.loop_vb2.specs.declared.reason.Refused.{Refused}
use Rattle.loop_vb2.specs.Errnos.{errno}
use Rattle.loop_vb2.specs.Events as model
use Rattle.loop_vb2.specs.Events.{Event}
use Rattle.loop_vb2.specs.State.{QueueState, StandsQueue}
use Rattle.loop_vb2.proofs.FrameOrder.{dequeues_in_order}
use Rattle.loop_ioctl.specs.declared.call.Ioctl.{Ioctl}
use Rattle.loop_ioctl.specs.declared.call.Ioctl.TheVariants as call
use Rattle.loop_ioctl.specs.declared.call.IoctlReply.{IoctlReply}
use Rattle.loop_ioctl.specs.declared.events.QueueEvent.{QueueEvent}
use Rattle.loop_ioctl.specs.declared.events.QueueEvent.TheVariants as event
use Rattle.loop_ioctl.specs.declared.events.QueueReply.{QueueReply}
use Rattle.loop_ioctl.specs.declared.events.QueueReply.TheVariants as answer
use Rattle.loop_ioctl.specs.Calls.{IoctlState, call_event, refusal_before, IsAnsweredFor, after_ioctl}
use Rattle.loop_ioctl.specs.Events.{IsTold, IsTurn, device_event, state_after, after_reply, turns}
use Rattle.loop_ioctl.specs.Modelled.{event_of, events_of, events_in, TurnsAreEvents, RunsAreInOrder}

-- ---- machines: a state is looked at as that of another machine, and each turn is read as turns of that one

pub all_told : {S X T Y : Type 0} (after : S → X → S) (P : S → X → Type 0) (next : T → Y → T) (Q : T → Y → Type 0)
    (view : S → T) (told : S → X → List Y)
    → ((s : S) (x : X) → P s x → EachIn next Q (view s) (told s x) × (view (after s x) ≡ after_all next (view s) (told s x)))
    → (s : S) (xs : List X) → EachIn after P s xs → EachIn next Q (view s) (told_in after told s xs)
    × (view (after_all after s xs) ≡ after_all next (view s) (told_in after told s xs))
all_told after P next Q view told one s [] each = (tt, refl)
all_told {S} {X} {T} {Y} after P next Q view told one s (x ∷ xs) each =
    let here = one s x each.0 in
    let rest = all_told after P next Q view told one (after s x) xs each.1 in
    let ys = told s x in
    let zs = told_in after told (after s x) xs in (
      each-behind next Q (view s) ys zs here.0 (subst (λ (t : T). EachIn next Q t zs) here.1 rest.0),
      rest.1
          ∙ (ap (λ t. after_all next t zs) here.1 ∙ sym (after-behind next (view s) ys zs)),
    )

-- ---- one turn

-- from one state of the queue to another, by these events
abbrev pub AreBetween : QueueState → QueueState → List Event → Type 0
AreBetween s t events = EachIn model.after_event model.MayHappen s events × (t ≡ after_all model.after_event s events)

if_between : (s : QueueState) (o : Option Event) → IsSomeAnd o (model.MayHappen s) → AreBetween s (option_map_or (model.after_event s) o s)
    (option_to_list o)
if_between s None h = absurd h
if_between s (Some e) h = ((h, tt), refl)

module _ {P A : Type 0} (m : P → Plane) where
  -- a refused event leaves the queue
  refused_still : (c : Ioctl P A) (r : Refused P A) (j : IoctlState)
      → option_map_or (model.after_event j.queue) (call_event m c (Err r) j) j.queue ≡ j.queue
  refused_still (call.ReqBufs type count kind supply) r j = refl
  refused_still (call.QueryBuf type index) r j = refl
  refused_still (call.PrepareBuf type index given) r j = refl
  refused_still (call.QBuf type index given) r j = refl
  refused_still (call.DqBuf type) r j = refl
  refused_still (call.StreamOn type) r j = refl
  refused_still (call.StreamOff type) r j = refl
  refused_still (call.Mmap type index) r j = refl
  refused_still (call.Munmap type index) r j = refl

  call_told : (why : Option Reason) (c : Ioctl P A) (result : Result (IoctlReply P A) (Refused P A)) (j : IoctlState)
      → IsAnsweredFor m why c j result → AreBetween j.queue (after_ioctl m c j result).queue
      (cond (is_some why) [] (option_to_list (call_event m c result j)))
  call_told (Some reason) c (Ok r) j h = absurd (let e : None ≡ Some (errno reason) = h in cc)
  call_told (Some reason) c (Err r) j h = (tt, refl)
  call_told None c (Ok r) j h = if_between j.queue (call_event m c (Ok r) j) h
  call_told None c (Err r) j h =
      subst (λ (s : QueueState). AreBetween j.queue s (option_to_list (call_event m c (Err r) j)))
      (refused_still c r j) (if_between j.queue (call_event m c (Err r) j) h)

  pub turn_told : (e : QueueEvent P A) (r : QueueReply P A) (j : IoctlState) → IsTold m e r j
      → AreBetween j.queue (state_after m e r j).queue (event_of m e r j)
  turn_told (event.Ioctl c) (answer.Ioctl result) j h = call_told (refusal_before c j) c result j h.0
  turn_told e r j h = if_between j.queue (device_event e r) h

-- ---- lists

pub turns_are_events : {P : Type 0} (A : Type 0) (m : P → Plane) → TurnsAreEvents A m
turns_are_events A m j xs each = all_told (after_reply m) (IsTurn m) model.after_event model.MayHappen (λ k. k.queue)
    (events_of m) (λ k x h. turn_told m x.0 x.1 k h) j xs each

pub runs_are_in_order : {P : Type 0} (A : Type 0) (m : P → Plane) → RunsAreInOrder A m
runs_are_in_order {P} A m events replies q q' t t' run j stands =
    let told = run.told j stands in
    let xs = turns events replies in
    let are = turns_are_events A m j xs told.0 in
    dequeues_in_order m q q' j.queue (events_in m j xs) stands.queue are.0 (subst (λ (s : QueueState). StandsQueue m q' s) are.1 told.1.queue)
