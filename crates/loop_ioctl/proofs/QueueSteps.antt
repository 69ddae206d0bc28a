-- Steps of queue and table: calls that answer nothing but Done, QBUF and PREPARE_BUF among them.
use Rattle.std.proofs.Common.{◌≡◌, ℕ, suc, ◌+◌, ◌<◌, true, false, not, ◌||◌, nat_le, cond, List, [], ◌∷◌, length, map, Option, Some, None, Ok, Err, refl, sym, ◌∙◌, ap, subst, arith}
use Rattle.std.specs.Prelude.{Result, IsSomeAnd, OnErr, IfOk, IfErr}
use Rattle.std.specs.Option.{option_or, option_map_or}
use Rattle.slab.specs.Slab.{SameValues}
use Rattle.loop_plane.specs.Plane.{Plane}
use Rattle.loop_plane.specs.Fds.{Fds}
use Rattle.loop_plane.specs.declared.memory.Memory.{Memory}
use Rattle.loop_plane.specs.declared.memory.Memory.TheVariants.{Mmap, UserPtr, DmaBuf}
use Rattle.loop_vb2.specs.declared.buffer.Buffer.{Buffer}
use Rattle.loop_vb2.specs.declared.planes.PlaneSet.{PlaneSet}
use Rattle.loop_vb2.specs.declared.reason.Errno.{Errno}
use Rattle.loop_vb2.specs.declared.reason.Reason.{Reason}
use Rattle.loop_vb2.specs.declared.reason.Reason.TheVariants.{BadIndex, BadMemory}
use Rattle.loop_vb2.specs.declared.reason.Refused.{Refused}
use Rattle.loop_vb2.specs.Errnos.{errno}
use Rattle.loop_vb2.specs.Planes.{read_set, read_given, same_memory, are_kind, misfits}
use Rattle.loop_vb2.specs.Buffers.{holds_at, wake_buffer, queued_with, prepared_with, read_buffer}
use Rattle.loop_vb2.specs.Checks.{prepare_checks, queue_checks}
use Rattle.loop_vb2.specs.Refusals.{prepare_refusal, queue_refusal}
use Rattle.loop_vb2.specs.Effects.{device_runs, awake, settle_device, with_buffer, change_buffer, after_queue}
use Rattle.loop_vb2.specs.State.{Body, QueueState, Lined, StandsQueue}
use Rattle.loop_vb2.specs.Events.{Event, MayHappen, Happens, after_event, refusal_in, prepare_buf, qbuf}
use Rattle.loop_vb2.proofs.FrameOrder.{not_refused}
use Rattle.loop_vb2.proofs.PassedChecks.{Passed, all_passed, true_of}
use Rattle.loop_vb2.proofs.Steps.{first_false, prepare_within, prepare_empty, queue_within, queue_empty}
use Rattle.loop_ioctl.specs.declared.call.BufferMemory.{BufferMemory}
use Rattle.loop_ioctl.specs.declared.call.BufferMemory.TheVariants as memory
use Rattle.loop_ioctl.specs.declared.call.BufferType.{BufferType}
use Rattle.loop_ioctl.specs.declared.call.Ioctl.{Ioctl}
use Rattle.loop_ioctl.specs.declared.call.Ioctl.TheVariants as call
use Rattle.loop_ioctl.specs.declared.call.IoctlReply.{IoctlReply}
use Rattle.loop_ioctl.specs.declared.call.IoctlReply.TheVariants as reply
use Rattle.loop_ioctl.specs.declared.call.PlaneFds.{PlaneFds}
use Rattle.loop_ioctl.specs.declared.put.Use.{Use}
use Rattle.loop_ioctl.specs.declared.put.Use.TheVariants.{Prepare, Queue}
use Rattle.loop_ioctl.specs.Names.{first_taken, Names, names_in, set_refusal, set_named, values_in, GivesIfRefused, TakesSet}
use Rattle.loop_ioctl.specs.Attached.{fd_times, IsOnce, IsLinked}
use Rattle.loop_ioctl.proofs.Short.{values_held}
use Rattle.loop_ioctl.specs.Calls.{IoctlState, StandsIoctl, read_names, planes_of, kind_named, planes_brought, plain_event, call_event, early_refusal, memory_refusal, fds_refusal, names_taken, names_after, planes_given, supply_given, HandsBack, ComesBack, IsAnsweredFor}
use Rattle.loop_ioctl.specs.Parts.{use_event, use_call, AppliesAt, AppliesTyped, AppliesOfAny}
use Rattle.loop_ioctl.proofs.Names.{same_names, same_values, set_undone}
use Rattle.loop_ioctl.proofs.AttachedFds.{in_buffer, in_buffers, kept_changed, kept_mapped, added, AreOnce, once_same, set_once, last_none}
use Rattle.loop_ioctl.proofs.PlaneMeanings.{set_refusal_read, set_named_read, set_taken_read}

-- ---- checks that have passed

pub same_kind : (k l : Memory) → same_memory k l ≡ true → k ≡ l
same_kind Mmap Mmap e = refl
same_kind UserPtr UserPtr e = refl
same_kind DmaBuf DmaBuf e = refl
same_kind k l e = absurd (cc)

own_kind : (kind : Memory) (b : Body Plane) (set : PlaneSet Plane)
    → (not (same_memory kind b.kind) || misfits (are_kind b.kind) (Some set)) ≡ false → b.kind ≡ kind
own_kind kind b set e = sym (same_kind kind b.kind
    (true_of (same_memory kind b.kind)
    (first_false (not (same_memory kind b.kind)) (misfits (are_kind b.kind) (Some set)) e)))

-- PREPARE_BUF or QBUF: why it is refused, and the state where it isn't
abbrev pub use_refusal : Use → ℕ → Memory → Option (PlaneSet Plane) → Body Plane → Option Reason
use_refusal Prepare index kind given b = prepare_refusal index kind given b
use_refusal Queue index kind given b = queue_refusal index kind given b

abbrev pub used : Use → ℕ → Option (PlaneSet Plane) → QueueState → QueueState
used Prepare index given s = change_buffer (prepared_with given) index s
used Queue index given s = after_queue index given s

-- what QBUF and PREPARE_BUF of given planes have found where they aren't refused
pub record IsFit (index : ℕ) (k : Memory) (b : Body Plane) : Type 0 where
  pub within : index < length b.buffers
  pub kind : b.kind ≡ k
  pub empty : holds_at b.buffers index ≡ false

pub fit : (way : Use) (index : ℕ) (kind : Memory) (set : PlaneSet Plane) (b : Body Plane)
    → use_refusal way index kind (Some set) b ≡ None → IsFit index kind b
fit Prepare index kind set b e = let p : Passed (prepare_checks index kind (Some set) b) = all_passed (prepare_checks index kind (Some set) b) e in record {
  within = prepare_within index kind (Some set) b e;
  kind = own_kind kind b set p.1.0;
  empty = prepare_empty index kind set b e;
}
fit Queue index kind set b e = let p : Passed (queue_checks index kind (Some set) b) = all_passed (queue_checks index kind (Some set) b) e in record {
  within = queue_within index kind (Some set) b e;
  kind = own_kind kind b set p.1.0;
  empty = queue_empty index kind set b e;
}

-- ---- the fds of a queue through such a call

pub settled_fds : (b : Body Plane) (fd : ℕ) → in_buffers fd (settle_device b).buffers ≡ in_buffers fd b.buffers
settled_fds b fd =
    elim (device_runs b) as (λ t. in_buffers fd (cond t (awake b) b).buffers ≡ in_buffers fd b.buffers) [
      | true ↦
          kept_mapped wake_buffer b.buffers fd (λ x d. refl)
      | false ↦ refl
    ]

pub settled_kind : (b : Body Plane) → (settle_device b).kind ≡ b.kind
settled_kind b = elim (device_runs b) as (λ t. (cond t (awake b) b).kind ≡ b.kind) [ true ↦ refl | false ↦ refl ]

pub used_kind : (way : Use) (index : ℕ) (given : Option (PlaneSet Plane)) (s : QueueState) → (used way index given s).body.kind ≡ s.body.kind
used_kind Prepare index given s = refl
used_kind Queue index given s = settled_kind (with_buffer (queued_with given) index s.body)

pub used_none : (way : Use) (index : ℕ) (s : QueueState) (fd : ℕ) → in_buffers fd (used way index None s).body.buffers ≡ in_buffers fd s.body.buffers
used_none Prepare index s fd = kept_changed (prepared_with None) index s.body.buffers fd (λ b d. refl)
used_none Queue index s fd = settled_fds (with_buffer (queued_with None) index s.body) fd
    ∙ kept_changed (queued_with None) index s.body.buffers fd (λ b d. refl)

pub used_some : (way : Use) (index : ℕ) (set : PlaneSet Plane) (s : QueueState) (fd : ℕ)
    → index < length s.body.buffers → holds_at s.body.buffers index ≡ false
    → in_buffers fd (used way index (Some set) s).body.buffers ≡ in_buffers fd s.body.buffers + in_buffer fd (Some set)
used_some Prepare index set s fd within empty = added (prepared_with (Some set)) (Some set) index s.body.buffers fd within empty (λ b. refl)
used_some Queue index set s fd within empty =
    settled_fds (with_buffer (queued_with (Some set)) index s.body) fd ∙ added (queued_with (Some set))
    (Some set) index s.body.buffers fd within empty (λ b. refl)

pub held_same : (kind : Memory) (bs cs : List (Buffer Plane)) (fd : ℕ) → in_buffers fd cs ≡ in_buffers fd bs
    → fd_times fd (values_held kind cs) ≡ fd_times fd (values_held kind bs)
held_same Mmap bs cs fd e = refl
held_same UserPtr bs cs fd e = refl
held_same DmaBuf bs cs fd e = e

-- a change that leaves the kind of memory and the fds
pub still_linked : (b c : Body Plane) (out : List (ℕ × Plane)) (n : Names Plane) → c.kind ≡ b.kind
    → ((fd : ℕ) → in_buffers fd c.buffers ≡ in_buffers fd b.buffers) → IsLinked b out n → IsLinked c out n
still_linked b c out n kind fds linked =
    λ (fd : ℕ). once_same (fd_times fd (values_held b.kind b.buffers) + fd_times fd out)
    (fd_times fd (values_held c.kind c.buffers) + fd_times fd out) (n fd) (n fd)
    (ap (λ x. x + fd_times fd out) (ap (λ k. fd_times fd (values_held k c.buffers)) kind ∙ held_same b.kind b.buffers c.buffers fd (fds fd))) refl (linked fd)

-- the application's memory has no fds
pub user_linked : (b c : Body Plane) (out : List (ℕ × Plane)) (n : Names Plane) → b.kind ≡ UserPtr → c.kind ≡ UserPtr → IsLinked b out n → IsLinked c out n
user_linked b c out n e f linked =
    λ (fd : ℕ). once_same (fd_times fd (values_held b.kind b.buffers) + fd_times fd out)
    (fd_times fd (values_held c.kind c.buffers) + fd_times fd out) (n fd) (n fd)
    (ap (λ k. fd_times fd (values_held k c.buffers) + fd_times fd out) f
    ∙ sym (ap (λ k. fd_times fd (values_held k b.buffers) + fd_times fd out) e)) refl (linked fd)

-- the queue's use of a buffer leaves all fds attached
none_links : (way : Use) (index : ℕ) (kind : Memory) (s : QueueState) (out : List (ℕ × Plane)) (n : Names Plane)
    → use_refusal way index kind None s.body ≡ None → IsLinked s.body out n
    → IsLinked (used way index None s).body out n
none_links way index kind s out n e linked = still_linked s.body (used way index None s).body out n (used_kind way index None s) (used_none way index s) linked

user_links : (way : Use) (index : ℕ) (given : Option (PlaneSet Plane)) (s : QueueState) (out : List (ℕ × Plane))
    (n : Names Plane) → use_refusal way index UserPtr given s.body ≡ None → IsLinked s.body out n
    → IsLinked (used way index given s).body out n
user_links way index None s out n e linked = none_links way index UserPtr s out n e linked
user_links way index (Some set) s out n e linked =
    let f : IsFit index UserPtr s.body = fit way index UserPtr set s.body e in
    user_linked s.body (used way index (Some set) s).body out n f.kind (used_kind way index (Some set) s ∙ f.kind) linked

beside : (a b c o : ℕ) → a ≡ b + c → a + o ≡ (b + o) + c
beside a b c o e = omega arith

-- planes by fd are attached
fds_linked : (way : Use) (index : ℕ) (named : PlaneFds) (s : QueueState) (out : List (ℕ × Plane)) (n : Names Plane)
    → set_refusal named n ≡ None → use_refusal way index DmaBuf (Some (set_named named n)) s.body ≡ None
    → IsLinked s.body out n → IsLinked (used way index (Some (set_named named n)) s).body out (first_taken named 3 n)
fds_linked way index named s out n taken e linked =
    let set = set_named named n in
    let f : IsFit index DmaBuf s.body = fit way index DmaBuf set s.body e in
    let once : AreOnce (λ x. in_buffers x s.body.buffers + fd_times x out) n =
    λ (x : ℕ). subst (λ k. IsOnce (fd_times x (values_held k s.body.buffers) + fd_times x out) (n x)) f.kind
    (linked x) in
    let more : AreOnce (λ x. (in_buffers x s.body.buffers + fd_times x out) + fd_times x (values_in set))
    (first_taken named 3 n) = set_once (λ x. in_buffers x s.body.buffers + fd_times x out) n named taken once in
    λ (fd : ℕ). once_same ((in_buffers fd s.body.buffers + fd_times fd out) + fd_times fd (values_in set))
    (fd_times fd (values_held (used way index (Some set) s).body.kind
    (used way index (Some set) s).body.buffers) + fd_times fd out) (first_taken named 3 n fd) (first_taken named 3 n fd)
    (ap (λ k. fd_times fd (values_held k (used way index (Some set) s).body.buffers) + fd_times fd out) (used_kind way index (Some set) s ∙ f.kind)
    ∙ beside (in_buffers fd (used way index (Some set) s).body.buffers) (in_buffers fd s.body.buffers) (fd_times fd (values_in set)) (fd_times fd out)
    (used_some way index set s fd f.within f.empty ∙ ap (λ vs. in_buffers fd s.body.buffers + fd_times fd vs) (last_none (values_in set))))
    refl (more fd)

-- ---- steps of queue and table

pub if_ok : {U E X : Type 0} (result : Result U E) → X → IfOk result (λ r. X)
if_ok (Ok r) x = x
if_ok (Err e) x = tt

pub if_err : {U E X : Type 0} (result : Result U E) → X → IfErr result (λ r. X)
if_err (Ok r) x = tt
if_err (Err e) x = x

module _ {P : Type 0} (m : P → Plane) where
  -- the queue has moved on, and the table is as it was
  pub moves : (q q' : Lined P) (table : Fds P) (j : IoctlState) (t : QueueState) → StandsIoctl m q table j
      → StandsQueue m q' t → IsLinked t.body j.out j.names → StandsIoctl m q' table (record j { queue = t })
  moves q q' table j t stands new linked = record { queue = new; names = stands.names; linked = linked }

  pub stays : (q q' : Lined P) (table : Fds P) (j : IoctlState) → StandsIoctl m q table j → StandsQueue m q' j.queue
      → StandsIoctl m q' table j
  stays q q' table j stands new = record { queue = new; names = stands.names; linked = stands.linked }

  same_table : (q : Lined P) (table table' : Fds P) (j : IoctlState) → names_in table' ≡ names_in table
      → StandsIoctl m q table j → StandsIoctl m q table' j
  same_table q table table' j e stands = record { queue = stands.queue; names = stands.names ∙ ap (read_names m) (sym e); linked = stands.linked }

-- ---- calls that answer nothing but Done

module _ {P A : Type 0} (m : P → Plane) where
  -- such a call is this event, which leaves each fd attached
  pub record IsPlain (c : Ioctl P A) (j : IoctlState) (event : Option Errno → Event) : Type 0 where
    pub passes : fds_refusal c j ≡ None
    pub is : (result : Result (IoctlReply P A) (Refused P A)) → call_event m c result j ≡ plain_event event result
    pub left : (e : Errno) → after_event j.queue (event (Some e)) ≡ j.queue
    pub linked : (r : IoctlReply P A) → MayHappen j.queue (event None)
        → IsLinked (after_event j.queue (event None)).body j.out (names_after c j r)

  -- in a state: it is answered so, and the queue and a table that names this stand for the state after it
  pub plain_step : (c : Ioctl P A) (j : IoctlState) (event : Option Errno → Event) → IsPlain c j event
      → (result : Result (IoctlReply P A) (Refused P A)) (q' : Lined P) (t' : Fds P)
      → MayHappen j.queue (event (refusal_in result))
      × StandsQueue m q' (after_event j.queue (event (refusal_in result))) → IfOk result (λ r. r ≡ reply.Done)
      → IfErr result (HandsBack (planes_given c) (supply_given c))
      → IfOk result (λ r. names_after c j r ≡ read_names m (names_in t'))
      → IfErr result (λ r. j.names ≡ read_names m (names_in t')) → IsLinked j.queue.body j.out j.names
      → AppliesAt m j c result q' t'
  plain_step c j event is (Ok r) q' t' step done back names still linked =
      let told : call_event m c (Ok r) j ≡ Some (event None) = ap (λ x. call_event m c (Ok x) j) done ∙ is.is (Ok reply.Done) in (
        (
          subst (λ why. IsAnsweredFor m why c j (Ok r)) (sym is.passes) (subst (λ o. IsSomeAnd o (MayHappen j.queue)) (sym told) step.0),
          subst (λ x. ComesBack m c j (Ok x)) (sym done) tt,
        ),
        record {
          queue = subst (λ o. StandsQueue m q' (option_map_or (after_event j.queue) o j.queue)) (sym told) step.1;
          names = names;
          linked = subst (λ o. IsLinked (option_map_or (after_event j.queue) o j.queue).body j.out (names_after c j r)) (sym told) (is.linked r step.0);
        },
      )
  plain_step c j event is (Err r) q' t' step done back names still linked = (
    (subst (λ why. IsAnsweredFor m why c j (Err r)) (sym is.passes) (subst (λ o. IsSomeAnd o (MayHappen j.queue)) (sym (is.is (Err r))) step.0), back),
    record { queue = subst (λ s. StandsQueue m q' s) (is.left r.errno) step.1; names = still; linked = linked },
  )

  -- and leaves the table
  pub plain_applies : (c : Ioctl P A) (event : Option Errno → Event) (q q' : Lined P) (table : Fds P)
      (result : Result (IoctlReply P A) (Refused P A))
      → ((j : IoctlState) → StandsIoctl m q table j → IsPlain c j event)
      → ((j : IoctlState) (r : IoctlReply P A) → names_after c j r ≡ j.names)
      → Happens m q q' (event (refusal_in result)) → IfOk result (λ r. r ≡ reply.Done)
      → IfErr result (HandsBack (planes_given c) (supply_given c)) → AppliesTyped m c result q table q' table
  plain_applies c event q q' table result is same step done back j stands =
      plain_step c j event (is j stands) result q' table (step j.queue stands.queue) done back (by result) (if_err result stands.names) stands.linked
    where
      by : (x : Result (IoctlReply P A) (Refused P A)) → IfOk x (λ r. names_after c j r ≡ read_names m (names_in table))
      by (Ok r) = same j r ∙ stands.names
      by (Err r) = tt

  -- ---- QBUF and PREPARE_BUF

  -- in a state where the fds that it names pass
  use_step : (way : Use) (index : ℕ) (given : BufferMemory P) (type : BufferType) (j : IoctlState)
      (result : Result (IoctlReply P A) (Refused P A)) (q' : Lined P) (t' : Fds P) → memory_refusal index given j ≡ None
      → (use_refusal way index (kind_named given) (planes_brought m given j.names) j.queue.body ≡ None
      → IsLinked (used way index (planes_brought m given j.names) j.queue).body j.out (names_taken given j.names))
      → MayHappen j.queue (use_event way index (kind_named given) (planes_brought m given j.names)
      (refusal_in result)) × StandsQueue m q'
      (after_event j.queue (use_event way index (kind_named given) (planes_brought m given j.names)
      (refusal_in result)))
      → IfOk result (λ r. r ≡ reply.Done) → IfErr result (HandsBack (planes_of given) [])
      → IfOk result (λ r. names_taken given j.names ≡ read_names m (names_in t'))
      → IfErr result (λ r. j.names ≡ read_names m (names_in t')) → IsLinked j.queue.body j.out j.names
      → AppliesAt m j (use_call way index given type) result q' t'
  use_step Prepare index given type j result q' t' e links step done back names still linked =
      let planes = planes_brought m given j.names in
      plain_step (call.PrepareBuf type index given) j (prepare_buf index (kind_named given) planes)
      (record {
        passes = e;
        is = λ r. refl;
        left = λ x. refl;
        linked =
            λ r may. links (not_refused (prepare_refusal index (kind_named given) planes j.queue.body) may);
      }) result q'
      t' step done back names still linked
  use_step Queue index given type j result q' t' e links step done back names still linked =
      let planes = planes_brought m given j.names in
      plain_step (call.QBuf type index given) j (qbuf index (kind_named given) planes)
      (record {
        passes = e;
        is = λ r. refl;
        left = λ x. refl;
        linked =
            λ r may. links (not_refused (queue_refusal index (kind_named given) planes j.queue.body) may);
      }) result q'
      t' step done back names still linked

  -- with memory that no fd names
  pub uses_mmap : (way : Use) (index : ℕ) (result : Result (IoctlReply P A) (Refused P A)) (q q' : Lined P) (table : Fds P)
      → Happens m q q' (use_event way index Mmap None (refusal_in result)) → IfOk result (λ r. r ≡ reply.Done)
      → IfErr result (HandsBack None []) → AppliesOfAny m (use_call way index memory.Mmap) result q table q' table
  uses_mmap way index result q q' table step done back type j stands =
      use_step way index memory.Mmap type j result q' table refl
      (λ e. none_links way index Mmap j.queue j.out j.names e stands.linked) (step j.queue stands.queue) done back
      (if_ok result stands.names) (if_err result stands.names) stands.linked

  pub uses_user : (way : Use) (index : ℕ) (given : Option (PlaneSet P)) (result : Result (IoctlReply P A) (Refused P A)) (q q' : Lined P) (table : Fds P)
      → Happens m q q' (use_event way index UserPtr (read_given m given) (refusal_in result))
      → IfOk result (λ r. r ≡ reply.Done) → IfErr result (HandsBack given [])
      → AppliesOfAny m (use_call way index (memory.UserPtr given)) result q table q' table
  uses_user way index given result q q' table step done back type j stands =
      use_step way index (memory.UserPtr given) type j result q' table refl
      (λ e. user_links way index (read_given m given) j.queue j.out j.names e stands.linked)
      (step j.queue stands.queue) done back (if_ok result stands.names) (if_err result stands.names) stands.linked

  pub uses_held : (way : Use) (index : ℕ) (result : Result (IoctlReply P A) (Refused P A)) (q q' : Lined P) (table : Fds P)
      → Happens m q q' (use_event way index DmaBuf None (refusal_in result)) → IfOk result (λ r. r ≡ reply.Done)
      → IfErr result (HandsBack None [])
      → AppliesOfAny m (use_call way index (memory.DmaBuf None)) result q table q' table
  uses_held way index result q q' table step done back type j stands =
      use_step way index (memory.DmaBuf None) type j result q' table refl
      (λ e. none_links way index DmaBuf j.queue j.out j.names e stands.linked) (step j.queue stands.queue) done
      back (if_ok result stands.names) (if_err result stands.names) stands.linked

-- ---- planes by fd

module _ {P : Type 0} (m : P → Plane) where
  length_read : (bs : List (Buffer P)) → length (map (read_buffer m) bs) ≡ length bs
  length_read [] = refl
  length_read (b ∷ bs) = ap (λ n. suc n) (length_read bs)

  early_read : (q : Lined P) (table : Fds P) (index : ℕ) (j : IoctlState) → StandsIoctl m q table j
      → early_refusal index j.queue.body ≡ early_refusal index q.body
  early_read q table index j stands =
      ap (early_refusal index) (sym stands.queue.shown.body)
      ∙ ap (λ n. cond (nat_le n index) (Some BadIndex) (cond (not (same_memory q.body.kind DmaBuf)) (Some BadMemory) None)) (length_read q.body.buffers)

  set_read : (q : Lined P) (table : Fds P) (named : PlaneFds) (j : IoctlState) → StandsIoctl m q table j
      → set_refusal named j.names ≡ set_refusal named (names_in table)
  set_read q table named j stands = ap (set_refusal named) stands.names ∙ set_refusal_read m named (names_in table)

  set_is : (named : PlaneFds) (set : PlaneSet P) (q : Lined P) (table : Fds P) (j : IoctlState)
      → StandsIoctl m q table j → set ≡ set_named named (names_in table) → read_set m set ≡ set_named named j.names
  set_is named set q table j stands is = sym (ap (set_named named) stands.names ∙ (set_named_read m named (names_in table) ∙ ap (read_set m) (sym is)))

module _ {P A : Type 0} (m : P → Plane) where
  -- it is refused before it comes to the queue
  named_refused : (way : Use) (index : ℕ) (named : PlaneFds) (reason : Reason) (r : Refused P A) (q : Lined P)
      (t t' : Fds P) → ((j : IoctlState) → StandsIoctl m q t j → memory_refusal {P = P} index
      (memory.DmaBuf (Some named)) j ≡ Some reason) → r.errno ≡ errno reason → HandsBack None [] r
      → names_in t' ≡ names_in t
      → AppliesOfAny m (use_call way index (memory.DmaBuf (Some named))) (Err r) q t q t'
  named_refused Prepare index named reason r q t t' why is back same type j stands = (
    (
      subst (λ w. IsAnsweredFor m w (call.PrepareBuf type index (memory.DmaBuf (Some named))) j (Err r))
          (sym (why j stands)) (ap Some is),
      back,
    ),
    same_table m q t t' j same stands,
  )
  named_refused Queue index named reason r q t t' why is back same type j stands = (
    (
      subst (λ w. IsAnsweredFor m w (call.QBuf type index (memory.DmaBuf (Some named))) j (Err r))
          (sym (why j stands)) (ap Some is),
      back,
    ),
    same_table m q t t' j same stands,
  )

  pub named_early : (way : Use) (index : ℕ) (named : PlaneFds) (reason : Reason) (r : Refused P A) (q : Lined P)
      (table : Fds P) → early_refusal index q.body ≡ Some reason → r.errno ≡ errno reason → HandsBack None [] r
      → AppliesOfAny m (use_call way index (memory.DmaBuf (Some named))) (Err r) q table q table
  named_early way index named reason r q table early is back = named_refused way index named reason r q table table
      (λ j stands. ap (λ x. option_or x (set_refusal named j.names)) (early_read m q table index j stands ∙ early)) is
      back refl

  pub named_fails : (way : Use) (index : ℕ) (named : PlaneFds) (reason : Reason) (r : Refused P A) (q : Lined P)
      (table table' : Fds P) → early_refusal index q.body ≡ None → TakesSet named (Err reason) table table'
      → r.errno ≡ errno reason → HandsBack None [] r
      → AppliesOfAny m (use_call way index (memory.DmaBuf (Some named))) (Err r) q table q table'
  named_fails way index named reason r q table table' early fails is back =
      named_refused way index named reason r q table table'
      (λ j stands. ap (λ x. option_or x (set_refusal named j.names)) (early_read m q table index j stands ∙ early)
      ∙ (set_read m q table named j stands ∙ fails.0)) is back (same_names table table' fails.1)

  -- the planes come to the queue
  pub named_uses : (way : Use) (index : ℕ) (named : PlaneFds) (set : PlaneSet P)
      (result : Result (IoctlReply P A) (Refused P A)) (q q' : Lined P) (a b c : Fds P)
      → early_refusal index q.body ≡ None → TakesSet named (Ok set) a b
      → Happens m q q' (use_event way index DmaBuf (Some (read_set m set)) (refusal_in result))
      → IfOk result (λ r. r ≡ reply.Done) → IfErr result (HandsBack None [])
      → GivesIfRefused (values_in set) result b c
      → AppliesOfAny m (use_call way index (memory.DmaBuf (Some named))) result q a q' c
  named_uses way index named set result q q' a b c early took step done back gives type j stands =
      let taken : set_refusal named j.names ≡ None = set_read m q a named j stands ∙ took.0 in
      use_step m way index (memory.DmaBuf (Some named)) type j result q' c
      (ap (λ x. option_or x (set_refusal named j.names)) (early_read m q a index j stands ∙ early) ∙ taken)
      (λ e. fds_linked way index named j.queue j.out j.names taken e stands.linked)
      (subst (λ x. MayHappen j.queue (use_event way index DmaBuf (Some x) (refusal_in result))
      × StandsQueue m q' (after_event j.queue (use_event way index DmaBuf (Some x) (refusal_in result))))
      (set_is m named set q a j stands took.1) (step j.queue stands.queue))
      done back (attached result gives) (back_again result gives) stands.linked
    where
      attached : (x : Result (IoctlReply P A) (Refused P A)) → GivesIfRefused (values_in set) x b c
          → IfOk x (λ r. first_taken named 3 j.names ≡ read_names m (names_in c))
      attached (Ok r) g = ap (first_taken named 3) stands.names ∙ (set_taken_read m named (names_in a) ∙ ap (read_names m) (sym (ap names_in g ∙ took.2)))
      attached (Err r) g = tt

      back_again : (x : Result (IoctlReply P A) (Refused P A)) → GivesIfRefused (values_in set) x b c
          → IfErr x (λ r. j.names ≡ read_names m (names_in c))
      back_again (Ok r) g = tt
      back_again (Err r) g = stands.names ∙ ap (read_names m) (sym (set_undone named set a b c took g))

pub named_still : {P U E : Type 0} (result : Result U E) (named : PlaneFds) (set : PlaneSet P) (a b c : Fds P)
    → TakesSet named (Ok set) a b → GivesIfRefused (values_in set) result b c → OnErr result (SameValues a c)
named_still (Ok u) named set a b c took gives = tt
named_still (Err e) named set a b c took gives = same_values a c (set_undone named set a b c took gives)
