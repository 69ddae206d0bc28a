-- Each ioctl is a step of queue and table.
use Rattle.std.proofs.Common.{◌≡◌, ℕ, Bool, true, false, cond, List, [], Some, None, Ok, Err, refl, sym, ◌∙◌, ap}
use Rattle.std.specs.Prelude.{Result, IfErr, IfOk, OnErr}
use Rattle.std.specs.Result.{result_err}
use Rattle.loop_plane.specs.Plane.{Plane}
use Rattle.loop_plane.specs.Fds.{Fds}
use Rattle.loop_vb2.specs.declared.reason.Errno.{Errno}
use Rattle.loop_vb2.specs.declared.buffer.BufferInfo.{BufferInfo}
use Rattle.loop_vb2.specs.declared.reason.Refused.{Refused}
use Rattle.loop_vb2.specs.Buffers.{stop_buffer}
use Rattle.loop_vb2.proofs.Short.{mapped_as}
use Rattle.loop_vb2.specs.Effects.{on_body, change_buffer, body_streaming, body_stopped, settle_device}
use Rattle.loop_vb2.specs.State.{Body, QueueState, Lined}
use Rattle.loop_vb2.specs.Events.{Happens, refusal_in, streamon, streamoff, querybuf, mmap, munmap}
use Rattle.loop_ioctl.specs.declared.call.BufferType.{BufferType}
use Rattle.loop_ioctl.specs.declared.call.Ioctl.TheVariants as call
use Rattle.loop_ioctl.specs.declared.call.IoctlReply.{IoctlReply}
use Rattle.loop_ioctl.specs.declared.call.IoctlReply.TheVariants as reply
use Rattle.loop_ioctl.specs.Names.{Names}
use Rattle.loop_ioctl.specs.Attached.{IsLinked}
use Rattle.loop_ioctl.specs.Calls.{HandsBack}
use Rattle.loop_ioctl.specs.Parts.{AppliesTyped}
use Rattle.loop_ioctl.proofs.AttachedFds.{kept_changed, kept_mapped, in_buffers}
use Rattle.loop_ioctl.proofs.QueueSteps.{settled_fds, settled_kind, still_linked, moves, plain_applies}

-- ---- the fds through calls that leave planes where they are

on_fds : (b : Body Plane) (fd : ℕ) → in_buffers fd (body_streaming b).buffers ≡ in_buffers fd b.buffers
on_fds b fd =
    elim b.streaming as (λ t. in_buffers fd (cond t b (settle_device (record b { streaming = true }))).buffers ≡
    in_buffers fd b.buffers) [ true ↦ refl | false ↦ settled_fds (record b { streaming = true }) fd ]

pub on_kind : (b : Body Plane) → (body_streaming b).kind ≡ b.kind
on_kind b = elim b.streaming as
    (λ t. (cond t b (settle_device (record b { streaming = true }))).kind ≡ b.kind) [
      | true ↦ refl
      | false ↦
          settled_kind (record b { streaming = true })
    ]

on_linked : (s : QueueState) (out : List (ℕ × Plane)) (n : Names Plane) → IsLinked s.body out n
    → IsLinked (on_body body_streaming s).body out n
on_linked s out n linked = still_linked s.body (on_body body_streaming s).body out n (on_kind s.body) (on_fds s.body) linked

off_linked : (s : QueueState) (out : List (ℕ × Plane)) (n : Names Plane) → IsLinked s.body out n
    → IsLinked (on_body body_stopped s).body out n
off_linked s out n linked =
    still_linked s.body (on_body body_stopped s).body out n refl
    (λ (fd : ℕ). kept_mapped stop_buffer s.body.buffers fd (λ b d. refl)) linked

mapped_linked : (mapped : Bool) (index : ℕ) (s : QueueState) (out : List (ℕ × Plane)) (n : Names Plane)
    → IsLinked s.body out n → IsLinked (change_buffer (mapped_as mapped) index s).body out n
mapped_linked mapped index s out n linked = still_linked s.body (change_buffer (mapped_as mapped) index s).body out n
    refl (λ (fd : ℕ). kept_changed (mapped_as mapped) index s.body.buffers fd (λ b d. refl)) linked

-- STREAMOFF is never refused
pub stream_off_applies : {P : Type 0} (A : Type 0) (m : P → Plane) (type : BufferType) (q q' : Lined P)
    (table : Fds P) → Happens m q q' streamoff → AppliesTyped {A = A} m (call.StreamOff type)
    (Ok reply.Done) q table q' table
stream_off_applies A m type q q' table step j stands =
    let t = step j.queue stands.queue in (
      (tt, tt),
      moves m q q' table j (on_body body_stopped j.queue) stands t.1
          (off_linked j.queue j.out j.names stands.linked),
    )

-- QUERYBUF
pub query_applies : {P : Type 0} (A : Type 0) (m : P → Plane) (type : BufferType) (index : ℕ) (info : BufferInfo)
    (q : Lined P) (table : Fds P) → Happens m q q (querybuf index (Ok info))
    → AppliesTyped {A = A} m (call.QueryBuf type index) (Ok (reply.Info info)) q table q table
query_applies A m type index info q table step j stands = (((step j.queue stands.queue).0, tt), stands)

module _ {P A : Type 0} (m : P → Plane) where
  -- ---- calls that answer nothing but Done, and leave the table

  pub stream_on_applies : (type : BufferType) (result : Result (IoctlReply P A) (Refused P A)) (q q' : Lined P)
      (table : Fds P) → Happens m q q' (streamon (refusal_in result)) → IfOk result (λ r. r ≡ reply.Done)
      → IfErr result (HandsBack None []) → AppliesTyped m (call.StreamOn type) result q table q' table
  stream_on_applies type result q q' table =
      plain_applies m (call.StreamOn type) streamon q q' table result
      (λ j stands. record {
        passes = refl;
        is = λ r. refl;
        left = λ e. refl;
        linked =
            λ r may. on_linked j.queue j.out j.names stands.linked;
      }) (λ j r. refl)

  pub map_applies : (type : BufferType) (index : ℕ) (result : Result (IoctlReply P A) (Refused P A)) (q q' : Lined P)
      (table : Fds P) → Happens m q q' (mmap index (refusal_in result)) → IfOk result (λ r. r ≡ reply.Done)
      → IfErr result (HandsBack None []) → AppliesTyped m (call.Mmap type index) result q table q' table
  map_applies type index result q q' table =
      plain_applies m (call.Mmap type index) (mmap index) q q' table result
      (λ j stands. record {
        passes = refl;
        is = λ r. refl;
        left = λ e. refl;
        linked =
            λ r may. mapped_linked true index j.queue j.out j.names stands.linked;
      }) (λ j r. refl)

  pub unmap_applies : (type : BufferType) (index : ℕ) (result : Result (IoctlReply P A) (Refused P A))
      (q q' : Lined P) (table : Fds P) → Happens m q q' (munmap index (refusal_in result))
      → IfOk result (λ r. r ≡ reply.Done) → IfErr result (HandsBack None [])
      → AppliesTyped m (call.Munmap type index) result q table q' table
  unmap_applies type index result q q' table =
      plain_applies m (call.Munmap type index) (munmap index) q q' table result
      (λ j stands. record {
        passes = refl;
        is = λ r. refl;
        left = λ e. refl;
        linked =
            λ r may. mapped_linked false index j.queue j.out j.names stands.linked;
      }) (λ j r. refl)

  -- QUERYBUF
  pub query_refused : (type : BufferType) (index : ℕ) (r : Refused P A) (e : Errno) (q : Lined P) (table : Fds P)
      → r.errno ≡ e → HandsBack None [] r → Happens m q q (querybuf index (Err e))
      → AppliesTyped m (call.QueryBuf type index) (Err r) q table q table
  query_refused type index r e q table is back step j stands = (((step j.queue stands.queue).0 ∙ ap Some (sym is), back), stands)

-- what holds where the queue refuses
pub where_refused : {P A U V : Type 0} (X : Type 0) (r : Result U (Refused P A)) (told : Result V Errno)
    → refusal_in r ≡ result_err told → OnErr told X → OnErr r X
where_refused X (Ok u) told is h = tt
where_refused X (Err r) (Ok v) is h = absurd (cc)
where_refused X (Err r) (Err e) is h = h
