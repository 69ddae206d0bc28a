-- What events leave of the planes that are out of the queue, and of the kind of its memory; the fds of planes that
-- are queued; and a queue without buffers. Crates above cite it.
use Rattle.std.proofs.Common.{◌≡◌, ℕ, ◌+◌, Bool, true, false, [], Option, Some, None, Ok, Err, refl, sym, subst, inl}
use Rattle.std.specs.Prelude.{Result}
use Rattle.std.specs.Option.{option_map_or}
use Rattle.loop_plane.specs.Plane.{Plane}
use Rattle.loop_plane.specs.declared.memory.Memory.{Memory}
use Rattle.loop_plane.specs.declared.memory.Memory.TheVariants.{Mmap, UserPtr, DmaBuf}
use Rattle.loop_vb2.specs.declared.planes.PlaneSet.{PlaneSet}
use Rattle.loop_vb2.specs.declared.reason.Errno.{Errno}
use Rattle.loop_vb2.specs.declared.reason.Refused.{Refused}
use Rattle.loop_vb2.specs.Refusals.{queue_refusal}
use Rattle.loop_vb2.specs.Effects.{after_queue}
use Rattle.loop_vb2.specs.Events.{Event, after_event, prepare_buf, qbuf, streamon, mmap, munmap}
use Rattle.loop_vb2.specs.State.{Body, QueueState}
use Rattle.loop_ioctl.specs.declared.call.Ioctl.{Ioctl}
use Rattle.loop_ioctl.specs.declared.call.Ioctl.TheVariants as call
use Rattle.loop_ioctl.specs.declared.call.IoctlReply.{IoctlReply}
use Rattle.loop_ioctl.specs.declared.call.IoctlReply.TheVariants as reply
use Rattle.loop_ioctl.specs.declared.events.QueueEvent.{QueueEvent}
use Rattle.loop_ioctl.specs.declared.events.QueueEvent.TheVariants as event
use Rattle.loop_ioctl.specs.declared.events.QueueReply.{QueueReply}
use Rattle.loop_ioctl.specs.declared.events.QueueReply.TheVariants as answer
use Rattle.loop_ioctl.specs.declared.put.Use.TheVariants.{Queue}
use Rattle.loop_ioctl.specs.Names.{Names, names_in}
use Rattle.loop_ioctl.specs.Attached.{fd_times, IsOnce, IsLinked}
use Rattle.loop_ioctl.proofs.Short.{values_held}
use Rattle.loop_ioctl.specs.Calls.{IoctlState, read_names, kind_named, planes_brought, plain_event, call_event, after_ioctl, NewQueuesStand}
use Rattle.loop_ioctl.specs.Events.{state_after}
use Rattle.loop_ioctl.proofs.AttachedFds.{in_buffers, in_buffer}
use Rattle.loop_ioctl.proofs.IoctlSteps.{on_kind}
use Rattle.loop_ioctl.proofs.QueueSteps.{used_kind, used_none, used_some, held_same, IsFit, fit}

-- ---- a queue without buffers

none_held : (kind : Memory) (fd : ℕ) (name : Option (Option Plane)) → IsOnce (fd_times fd (values_held {T = Plane} kind []) + fd_times {T = Plane} fd []) name
none_held Mmap fd name = inl refl
none_held UserPtr fd name = inl refl
none_held DmaBuf fd name = inl refl

none_linked : (b : Body Plane) (before : Names Plane) → b.buffers ≡ [] → IsLinked b [] before
none_linked b before e = λ (fd : ℕ). subst
    (λ bs. IsOnce (fd_times fd (values_held b.kind bs) + fd_times {T = Plane} fd []) (before fd)) (sym e)
    (none_held b.kind fd (before fd))

pub new_queues_stand : {P : Type 0} (m : P → Plane) → NewQueuesStand m
new_queues_stand m code table s stands none = record { queue = stands; names = refl; linked = none_linked s.body (read_names m (names_in table)) none }

-- ---- the fds of planes that are queued

pub queued_kind : (index : ℕ) (given : Option (PlaneSet Plane)) (s : QueueState)
    → (after_queue index given s).body.kind ≡ s.body.kind
queued_kind index given s = used_kind Queue index given s

pub queued_none : (index : ℕ) (s : QueueState) (fd : ℕ)
    → fd_times fd (values_held s.body.kind (after_queue index None s).body.buffers) ≡ fd_times fd
    (values_held s.body.kind s.body.buffers)
queued_none index s fd = held_same s.body.kind s.body.buffers (after_queue index None s).body.buffers fd (used_none Queue index s fd)

pub queued_some : (index : ℕ) (set : PlaneSet Plane) (s : QueueState) (fd : ℕ) → queue_refusal index s.body.kind
    (Some set) s.body ≡ None → in_buffers fd (after_queue index (Some set) s).body.buffers ≡ in_buffers fd
    s.body.buffers + in_buffer fd (Some set)
queued_some index set s fd e =
    let f : IsFit index s.body.kind s.body = fit Queue index s.body.kind set s.body e in used_some Queue index set s fd f.within f.empty

-- ---- events

-- what an event leaves: the planes that are out, and the kind of memory
pub record IsAside (j k : IoctlState) : Type 0 where
  pub out : k.out ≡ j.out
  pub kind : k.queue.body.kind ≡ j.queue.body.kind

abbrev pub is_request : {P A : Type 0} → QueueEvent P A → Bool
is_request (event.Ioctl (call.ReqBufs type count kind supply)) = true
is_request e = false

same_aside : (j : IoctlState) → IsAside j j
same_aside j = record { out = refl; kind = refl }

module _ {P A : Type 0} (m : P → Plane) where
  plain_kind : (event : Option Errno → Event) (r : IoctlReply P A) (s : QueueState)
      → (after_event s (event None)).body.kind ≡ s.body.kind
      → (option_map_or (after_event s) (plain_event {P = P} {A = A} event (Ok r)) s).body.kind ≡ s.body.kind
  plain_kind event reply.Done s e = e
  plain_kind event r s e = refl

  call_kind : (c : Ioctl P A) (r : IoctlReply P A) (j : IoctlState) → is_request (event.Ioctl c) ≡ false
      → (option_map_or (after_event j.queue) (call_event m c (Ok r) j) j.queue).body.kind ≡ j.queue.body.kind
  call_kind (call.ReqBufs type count kind supply) r j e = absurd (cc)
  call_kind (call.QueryBuf type index) (reply.Info info) j e = refl
  call_kind (call.QueryBuf type index) r j e = refl
  call_kind (call.PrepareBuf type index given) r j e = plain_kind (prepare_buf index (kind_named given) (planes_brought m given j.names)) r j.queue refl
  call_kind (call.QBuf type index given) r j e =
      plain_kind (qbuf index (kind_named given) (planes_brought m given j.names)) r j.queue
      (used_kind Queue index (planes_brought m given j.names) j.queue)
  call_kind (call.DqBuf type) (reply.Dequeued d) j e = refl
  call_kind (call.DqBuf type) r j e = refl
  call_kind (call.StreamOn type) r j e = plain_kind streamon r j.queue (on_kind j.queue.body)
  call_kind (call.StreamOff type) reply.Done j e = refl
  call_kind (call.StreamOff type) r j e = refl
  call_kind (call.Mmap type index) r j e = plain_kind (mmap index) r j.queue refl
  call_kind (call.Munmap type index) r j e = plain_kind (munmap index) r j.queue refl

  call_out : (c : Ioctl P A) (result : Result (IoctlReply P A) (Refused P A)) (j : IoctlState)
      → (after_ioctl m c j result).out ≡ j.out
  call_out c (Ok r) j = refl
  call_out c (Err r) j = refl

  call_aside : (c : Ioctl P A) (result : Result (IoctlReply P A) (Refused P A)) (j : IoctlState)
      → is_request (event.Ioctl c) ≡ false → IsAside j (after_ioctl m c j result)
  call_aside c (Ok r) j e = record { out = refl; kind = call_kind c r j e }
  call_aside c (Err r) j e = same_aside j

  -- all but REQBUFS
  pub event_aside : (e : QueueEvent P A) (r : QueueReply P A) (j : IoctlState) → is_request e ≡ false
      → IsAside j (state_after m e r j)
  event_aside (event.Ioctl c) (answer.Ioctl result) j n = call_aside c result j n
  event_aside (event.Complete index stamp bytes) (answer.Ended (Ok u)) j n = record { out = refl; kind = refl }
  event_aside (event.Complete index stamp bytes) (answer.Ended (Err e)) j n = same_aside j
  event_aside (event.Fail index stamp) (answer.Ended (Ok u)) j n = record { out = refl; kind = refl }
  event_aside (event.Fail index stamp) (answer.Ended (Err e)) j n = same_aside j
  event_aside event.Fatal answer.Fatal j n = record { out = refl; kind = refl }
  event_aside e r j n = same_aside j

  -- no event changes which planes are out
  pub event_out : (e : QueueEvent P A) (r : QueueReply P A) (j : IoctlState) → (state_after m e r j).out ≡ j.out
  event_out (event.Ioctl c) (answer.Ioctl result) j = call_out c result j
  event_out e r j = refl
