-- What an ioctl makes of a queue and the names of fds, and how it is answered.
use Rattle.std.specs.Prelude.{◌≡◌, ℕ, not, nat_le, cond, List, [], ◌∷◌, length, map, IsSomeAnd, Option, Some, None, option_map, option_and_then, option_to_list, Result, Ok, Err}
use Rattle.std.specs.Option.{option_or, option_map_or}
use Rattle.loop_plane.specs.Plane.{Plane}
use Rattle.loop_plane.specs.Fds.{Fds}
use Rattle.loop_plane.specs.declared.memory.Memory.{Memory}
use Rattle.loop_plane.specs.declared.memory.Memory.TheVariants.{Mmap, UserPtr, DmaBuf}
use Rattle.loop_vb2.specs.declared.buffer.Buffer.{Buffer}
use Rattle.loop_vb2.specs.declared.planes.PlaneSet.{PlaneSet}
use Rattle.loop_vb2.specs.declared.reason.Errno.{Errno}
use Rattle.loop_vb2.specs.declared.reason.Reason.{Reason}
use Rattle.loop_vb2.specs.declared.reason.Reason.TheVariants.{BadType, BadIndex, BadMemory}
use Rattle.loop_vb2.specs.declared.reason.Refused.{Refused}
use Rattle.loop_vb2.specs.Planes.{read_set, read_given, same_memory}
use Rattle.loop_vb2.specs.Answers.{read_answer}
use Rattle.loop_vb2.specs.Buffers.{at_index, handed_over}
use Rattle.loop_vb2.specs.Checks.{first_reason}
use Rattle.loop_vb2.specs.Errnos.{errno}
use Rattle.loop_vb2.specs.Events.{Event, MayHappen, after_event, refusal_in, reqbufs, prepare_buf, qbuf, dqbuf, streamon, streamoff, querybuf, mmap, munmap}
use Rattle.loop_vb2.specs.Requests.{held_sets, left_in}
use Rattle.loop_vb2.specs.State.{Body, QueueState, Lined, StandsQueue}
use Rattle.loop_ioctl.specs.declared.call.BufferMemory.{BufferMemory}
use Rattle.loop_ioctl.specs.declared.call.BufferMemory.TheVariants as memory
use Rattle.loop_ioctl.specs.declared.call.Ioctl.{Ioctl}
use Rattle.loop_ioctl.specs.declared.call.Ioctl.TheVariants as call
use Rattle.loop_ioctl.specs.declared.call.IoctlReply.{IoctlReply}
use Rattle.loop_ioctl.specs.declared.call.IoctlReply.TheVariants as reply
use Rattle.loop_ioctl.specs.Types.{named_type, type_of, same_type}
use Rattle.loop_ioctl.specs.Names.{first_taken, Names, names_in, set_refusal, set_named, given_back}
use Rattle.loop_ioctl.specs.Attached.{IsLinked, values_by_fd}

-- a queue, what each fd names, and planes that are out of the queue while their fds stay attached, each with its
-- fd: the application keeps them. No ioctl changes them.
pub record IoctlState : Type 0 where
  pub queue : QueueState
  pub names : Names Plane
  pub out : List (ℕ × Plane)

-- the names, each plane read as what it means
abbrev pub read_names : {P : Type 0} → (P → Plane) → Names P → Names Plane
read_names meaning before = λ fd. option_map (option_map meaning) (before fd)

-- a queue and a table stand for a state, in which each fd of a plane in the queue or out of it is attached, and occurs
-- once
pub record StandsIoctl {P : Type 0} (meaning : P → Plane) (code : Lined P) (table : Fds P) (j : IoctlState)
    : Type 0 where
  pub queue : StandsQueue meaning code j.queue
  pub names : j.names ≡ read_names meaning (names_in table)
  pub linked : IsLinked j.queue.body j.out j.names

-- ---- which event of the queue an ioctl is

-- the planes that QBUF or PREPARE_BUF brings by value
abbrev pub planes_of : {P : Type 0} → BufferMemory P → Option (PlaneSet P)
planes_of (memory.UserPtr given) = given
planes_of given = None

-- the kind of memory that it names
abbrev pub kind_named : {P : Type 0} → BufferMemory P → Memory
kind_named memory.Mmap = Mmap
kind_named (memory.UserPtr given) = UserPtr
kind_named (memory.DmaBuf named) = DmaBuf

-- the planes that it brings to the queue: those by value, or those that its fds name
abbrev pub planes_brought : {P : Type 0} → (P → Plane) → BufferMemory P → Names Plane → Option (PlaneSet Plane)
planes_brought meaning (memory.DmaBuf (Some named)) before = Some (set_named named before)
planes_brought meaning given before = read_given meaning (planes_of given)

-- the planes in the buffer of an index
abbrev pub planes_at : {P : Type 0} → List (Buffer P) → ℕ → Option (PlaneSet P)
planes_at bs index = at_index (λ b. b.planes) None bs index

-- a call that answers nothing but Done
abbrev pub plain_event : {P A : Type 0} → (Option Errno → Event) → Result (IoctlReply P A) (Refused P A) → Option Event
plain_event event (Ok reply.Done) = Some (event None)
plain_event event (Ok r) = None
plain_event event (Err r) = Some (event (Some r.errno))

module _ {P A : Type 0} (meaning : P → Plane) where
  -- the event of an ioctl with its answer, if it may have such a one; its planes are in it whether the reply hands them
  -- out or they go back to their fds
  abbrev pub call_event : Ioctl P A → Result (IoctlReply P A) (Refused P A) → IoctlState → Option Event
  call_event (call.ReqBufs type count kind supply) (Ok (reply.Granted g)) j =
      Some (reqbufs count kind (map (read_set meaning) supply.items)
      (Ok (record { count = g.count; left = left_in j.queue.body.kind j.queue.body.buffers })))
  call_event (call.ReqBufs type count kind supply) (Err r) j =
      Some (reqbufs count kind (map (read_set meaning) supply.items) (Err r.errno))
  call_event (call.QueryBuf type index) (Ok (reply.Info info)) j = Some (querybuf index (Ok info))
  call_event (call.QueryBuf type index) (Err r) j = Some (querybuf index (Err r.errno))
  call_event (call.PrepareBuf type index given) result j =
      plain_event (prepare_buf index (kind_named given) (planes_brought meaning given j.names)) result
  call_event (call.QBuf type index given) result j =
      plain_event (qbuf index (kind_named given) (planes_brought meaning given j.names)) result
  call_event (call.DqBuf type) (Ok (reply.Dequeued answer)) j = Some (dqbuf (Ok (record (read_answer meaning answer) {
    planes = handed_over j.queue.body.kind (planes_at j.queue.body.buffers answer.index);
  })))
  call_event (call.DqBuf type) (Err r) j = Some (dqbuf (Err r.errno))
  call_event (call.StreamOn type) result j = plain_event streamon result
  call_event (call.StreamOff type) (Ok reply.Done) j = Some streamoff
  call_event (call.Mmap type index) result j = plain_event (mmap index) result
  call_event (call.Munmap type index) result j = plain_event (munmap index) result
  call_event c r j = None

-- ---- what is refused before it comes to the queue

-- the checks before an fd is looked at: the buffer, then the kind of memory
abbrev pub early_refusal : {P : Type 0} → ℕ → Body P → Option Reason
early_refusal index b =
    first_reason ((nat_le (length b.buffers) index, BadIndex) ∷ (not (same_memory b.kind DmaBuf), BadMemory) ∷ [])

-- planes by fd: those, then the first fd that fails
abbrev pub memory_refusal : {P : Type 0} → ℕ → BufferMemory P → IoctlState → Option Reason
memory_refusal index (memory.DmaBuf (Some named)) j =
    option_or (early_refusal index j.queue.body) (set_refusal named j.names)
memory_refusal index given j = None

module _ {P A : Type 0} where
  -- the buffer that a call is given memory for
  abbrev pub memory_given : Ioctl P A → Option (ℕ × BufferMemory P)
  memory_given (call.PrepareBuf type index given) = Some (index, given)
  memory_given (call.QBuf type index given) = Some (index, given)
  memory_given c = None

  -- why its planes by fd are refused
  abbrev pub fds_refusal : Ioctl P A → IoctlState → Option Reason
  fds_refusal c j = option_and_then (λ b. memory_refusal b.0 b.1 j) (memory_given c)

  -- why an ioctl is refused before it comes to the queue: the buffer type comes first
  abbrev pub refusal_before : Ioctl P A → IoctlState → Option Reason
  refusal_before c j =
      cond (same_type (named_type c) (type_of j.queue.body.format)) (fds_refusal c j) (Some BadType)

-- ---- planes and fds

-- the sets that a reply hands out: those of the application's memory
abbrev pub handed_out : {X : Type 0} → X → Memory → X → X
handed_out none kind planes = cond (same_memory kind UserPtr) planes none

-- the fds of a set that is named are attached
abbrev pub names_taken : {P : Type 0} → BufferMemory P → Names Plane → Names Plane
names_taken (memory.DmaBuf (Some named)) before = first_taken named 3 before
names_taken given before = before

module _ {P A : Type 0} where
  -- the planes and the supply that a call brings
  abbrev pub planes_given : Ioctl P A → Option (PlaneSet P)
  planes_given c = option_and_then (λ b. planes_of b.1) (memory_given c)

  abbrev pub supply_given : Ioctl P A → List (PlaneSet P)
  supply_given (call.ReqBufs type count kind supply) = supply.items
  supply_given c = []

  -- a refusal hands these planes and this supply back
  abbrev pub HandsBack : Option (PlaneSet P) → List (PlaneSet P) → Refused P A → Type 0
  HandsBack planes supply r = (r.planes ≡ planes) × (r.supply.items ≡ supply)

  -- a reply hands out the planes that leave the queue, and a refusal hands back what the call brought
  abbrev pub ComesBack : (P → Plane) → Ioctl P A → IoctlState → Result (IoctlReply P A) (Refused P A) → Type 0
  ComesBack meaning c j (Ok (reply.Granted g)) =
      map (read_set meaning) g.left.items ≡ handed_out [] j.queue.body.kind (held_sets j.queue.body.buffers)
  ComesBack meaning c j (Ok (reply.Dequeued answer)) =
      read_given meaning answer.planes
      ≡ handed_out None j.queue.body.kind (planes_at j.queue.body.buffers answer.index)
  ComesBack meaning c j (Ok r) = Unit {0}
  ComesBack meaning c j (Err r) = HandsBack (planes_given c) (supply_given c) r

  -- what fds name after an ioctl that isn't refused: DMA-BUF planes that leave the queue go back to their fds
  abbrev pub names_after : Ioctl P A → IoctlState → IoctlReply P A → Names Plane
  names_after (call.ReqBufs type count kind supply) j r =
      given_back (values_by_fd j.queue.body.kind (held_sets j.queue.body.buffers)) j.names
  names_after (call.DqBuf type) j (reply.Dequeued answer) =
      given_back (values_by_fd j.queue.body.kind (option_to_list (planes_at j.queue.body.buffers answer.index))) j.names
  names_after c j r = option_map_or (λ b. names_taken b.1 j.names) (memory_given c) j.names

-- ---- any ioctl

module _ {P A : Type 0} (meaning : P → Plane) where
  -- it is refused before it comes to the queue, for this reason, or its event may happen
  abbrev pub IsAnsweredFor : Option Reason → Ioctl P A → IoctlState → Result (IoctlReply P A) (Refused P A) → Type 0
  IsAnsweredFor (Some reason) c j result = refusal_in result ≡ Some (errno reason)
  IsAnsweredFor None c j result = IsSomeAnd (call_event meaning c result j) (MayHappen j.queue)

  -- it is answered so
  abbrev pub IsReplied : Ioctl P A → IoctlState → Result (IoctlReply P A) (Refused P A) → Type 0
  IsReplied c j result = IsAnsweredFor (refusal_before c j) c j result × ComesBack meaning c j result

  -- the state after it: a refused call changes nothing
  abbrev pub after_ioctl : Ioctl P A → IoctlState → Result (IoctlReply P A) (Refused P A) → IoctlState
  after_ioctl c j (Ok r) = record j {
    queue = option_map_or (after_event j.queue) (call_event meaning c (Ok r) j) j.queue;
    names = names_after c j r;
  }
  after_ioctl c j (Err r) = j

  -- from each state that queue and table stand for, the call is answered so, and they stand for the state after it
  abbrev pub Applies : Ioctl P A → Result (IoctlReply P A) (Refused P A) → Lined P → Fds P → Lined P → Fds P → Type 0
  Applies c result queue table new_queue new_table =
      (j : IoctlState) → StandsIoctl meaning queue table j
      → IsReplied c j result × StandsIoctl meaning new_queue new_table (after_ioctl c j result)

-- A queue without buffers and any table stand for the state in which each fd names what it does, and no plane is out.
abbrev pub NewQueuesStand : {P : Type 0} → (P → Plane) → Type 0
NewQueuesStand {P} meaning =
    (code : Lined P) (table : Fds P) (s : QueueState) → StandsQueue meaning code s → s.body.buffers ≡ []
    → StandsIoctl meaning code table (record { queue = s; names = read_names meaning (names_in table); out = [] })
