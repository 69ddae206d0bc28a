-- A queue without buffers, and an ioctl more.
use Rattle.std.proofs.Common.{◌≡◌, Bool, true, false, cond, [], ◌∷◌, Option, Some, None, Result, Ok, refl, sym, ap, ◌∙◌, subst}
use Rattle.loop_plane.specs.Fds.{Fds}
use Rattle.loop_plane.specs.Plane.{Plane}
use Rattle.loop_vb2.specs.declared.reason.Reason.{Reason}
use Rattle.loop_vb2.specs.declared.reason.Refused.{Refused}
use Rattle.loop_vb2.specs.Effects.{awake, body_streaming, device_runs, settle_device}
use Rattle.loop_vb2.specs.Errnos.{errno}
use Rattle.loop_vb2.specs.State.{Body, Lined, StandsQueue}
use Rattle.loop_ioctl.specs.declared.call.BufferType.{BufferType}
use Rattle.loop_ioctl.specs.declared.call.Ioctl.{Ioctl}
use Rattle.loop_ioctl.specs.declared.call.Ioctl.TheVariants as call
use Rattle.loop_ioctl.specs.declared.call.IoctlReply.{IoctlReply}
use Rattle.loop_ioctl.specs.declared.call.IoctlReply.TheVariants as reply
use Rattle.loop_ioctl.specs.declared.events.QueueEvent.TheVariants as event
use Rattle.loop_ioctl.specs.declared.events.QueueReply.TheVariants as answer
use Rattle.loop_ioctl.specs.Calls.{Applies, IoctlState, IsAnsweredFor, after_ioctl, refusal_before}
use Rattle.loop_ioctl.specs.Modelled.{TurnsAreEvents, events_in}
use Rattle.loop_desk.specs.Waiting.{IsSoundQueue, QueuesStaySound}
use Rattle.loop_pipeline.specs.Fronts.{IsOpen}
use Rattle.loop_pipeline.proofs.FrontRuns.{same-sound}

-- ---- STREAMON

settled-streams : (b : Body Plane) → b.streaming ≡ true → (settle_device b).streaming ≡ true
settled-streams b on = by (device_runs b)
  where
    by : (t : Bool) → (cond t (awake b) b).streaming ≡ true
    by true = on
    by false = on

streams : (b : Body Plane) → (body_streaming b).streaming ≡ true
streams b = by b.streaming refl
  where
    by : (t : Bool) → b.streaming ≡ t → (cond t b (settle_device (record b { streaming = true }))).streaming ≡ true
    by true on = on
    by false off = settled-streams (record b { streaming = true }) refl

module _ {P A : Type 0} (m : P → Plane) where
  -- where it isn't refused, the queue streams after it
  streams-after : (why : Option Reason) (type : BufferType) (r : IoctlReply P A) (j : IoctlState)
      → IsAnsweredFor m why (call.StreamOn type) j (Ok r)
      → (after_ioctl m (call.StreamOn type) j (Ok r)).queue.body.streaming ≡ true
  streams-after (Some reason) type r j h = absurd (let e : None ≡ Some (errno reason) = h in cc)
  streams-after None type reply.Done j h = streams j.queue.body
  streams-after None type (reply.Granted granted) j h = absurd h
  streams-after None type (reply.Info info) j h = absurd h
  streams-after None type (reply.Dequeued dequeued) j h = absurd h

  pub turned-on : (c : Ioctl P A) (r : IoctlReply P A) (q q' : Lined P) (t t' : Fds P) (type : BufferType)
      → IsOpen m q t → Applies m c (Ok r) q t q' t' → c ≡ call.StreamOn type → q'.body.streaming ≡ true
  turned-on c r q q' t t' type is applies same =
      let step = subst (λ x. Applies m x (Ok r) q t q' t') same applies is.port.state is.port.stands in
      ap (λ b. b.streaming) step.1.queue.shown.body
      ∙ streams-after (refusal_before {P = P} {A = A} (call.StreamOn type) is.port.state) type r is.port.state step.0.0

  -- ---- any ioctl

  -- it leaves a queue that a front may begin with
  pub stays-open : (c : Ioctl P A) (result : Result (IoctlReply P A) (Refused P A)) (q q' : Lined P) (t t' : Fds P)
      → TurnsAreEvents A m → QueuesStaySound m → Applies m c result q t q' t' → q'.body.shape ≡ q.body.shape
      → IsOpen m q t → IsOpen m q' t'
  stays-open c result q q' t t' law sound applies formed is =
      let j = is.port.state in
      let stands = is.port.stands in
      let step = applies j stands in
      let turns = (event.Ioctl c, answer.Ioctl result) ∷ [] in
      let are = law j turns (step.0, tt) in
      let regular = is.regular in
      record {
        port = record { state = after_ioctl m c j result; stands = step.1 };
        regular = record {
          state = (after_ioctl m c j result).queue;
          stands = step.1.queue;
          sound = subst (IsSoundQueue q') (sym are.1) (sound.after q q' j.queue (events_in m j turns) stands.queue
              (same-sound m q regular.state j.queue regular.stands stands.queue regular.sound)
              are.0 (subst (StandsQueue m q') are.1 step.1.queue));
          shaped = (regular.shaped.0, regular.shaped.1, regular.shaped.2, formed ∙ regular.shaped.3);
        };
      }
