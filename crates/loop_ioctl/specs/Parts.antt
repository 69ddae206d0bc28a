-- What the parts of an ioctl do. Only private functions say it.
use Rattle.std.specs.Prelude.{◌≡◌, ℕ, List, Option, Result}
use Rattle.std.specs.List.{flat_map}
use Rattle.loop_plane.specs.Plane.{Plane}
use Rattle.loop_plane.specs.Fds.{Fds}
use Rattle.loop_plane.specs.declared.memory.Memory.{Memory}
use Rattle.loop_plane.specs.declared.memory.Memory.TheVariants.{Mmap, UserPtr, DmaBuf}
use Rattle.loop_vb2.specs.declared.planes.PlaneSet.{PlaneSet}
use Rattle.loop_vb2.specs.declared.reason.Errno.{Errno}
use Rattle.loop_vb2.specs.declared.reason.Refused.{Refused}
use Rattle.loop_vb2.specs.State.{Lined}
use Rattle.loop_vb2.specs.Events.{Event, prepare_buf, qbuf}
use Rattle.loop_ioctl.specs.declared.call.BufferMemory.{BufferMemory}
use Rattle.loop_ioctl.specs.declared.call.BufferType.{BufferType}
use Rattle.loop_ioctl.specs.declared.call.Ioctl.{Ioctl}
use Rattle.loop_ioctl.specs.declared.call.Ioctl.TheVariants.{PrepareBuf, QBuf}
use Rattle.loop_ioctl.specs.declared.call.IoctlReply.{IoctlReply}
use Rattle.loop_ioctl.specs.declared.put.Use.{Use}
use Rattle.loop_ioctl.specs.declared.put.Use.TheVariants.{Prepare, Queue}
use Rattle.loop_ioctl.specs.Names.{values_in, GivesBack}
use Rattle.loop_ioctl.specs.Calls.{IoctlState, StandsIoctl, fds_refusal, IsAnsweredFor, ComesBack, after_ioctl}

-- PREPARE_BUF or QBUF of the queue
abbrev pub use_event : Use → ℕ → Memory → Option (PlaneSet Plane) → Option Errno → Event
use_event Prepare index kind given refusal = prepare_buf index kind given refusal
use_event Queue index kind given refusal = qbuf index kind given refusal

-- as an ioctl
abbrev pub use_call : {P A : Type 0} → Use → ℕ → BufferMemory P → BufferType → Ioctl P A
use_call Prepare index given type = PrepareBuf type index given
use_call Queue index given type = QBuf type index given

-- sets leave a queue of this kind: DMA-BUF planes go back to their fds
abbrev pub LetsOut : {T : Type 0} → Memory → List (PlaneSet T) → Fds T → Fds T → Type 0
LetsOut Mmap sets before after_ioctl = after_ioctl ≡ before
LetsOut UserPtr sets before after_ioctl = after_ioctl ≡ before
LetsOut DmaBuf sets before after_ioctl = GivesBack (flat_map values_in sets) before after_ioctl

module _ {P A : Type 0} (meaning : P → Plane) where
  -- an ioctl, whose buffer type is the queue's, in a state
  abbrev pub AppliesAt : IoctlState → Ioctl P A → Result (IoctlReply P A) (Refused P A) → Lined P → Fds P → Type 0
  AppliesAt j c result new_queue new_table =
      (IsAnsweredFor meaning (fds_refusal c j) c j result × ComesBack meaning c j result)
      × StandsIoctl meaning new_queue new_table (after_ioctl meaning c j result)

  -- in each state that queue and table stand for
  abbrev pub AppliesTyped : Ioctl P A → Result (IoctlReply P A) (Refused P A) → Lined P → Fds P → Lined P → Fds P
      → Type 0
  AppliesTyped c result queue table new_queue new_table =
      (j : IoctlState) → StandsIoctl meaning queue table j → AppliesAt j c result new_queue new_table

  -- so it is whatever the buffer type that it names
  abbrev pub AppliesOfAny : (BufferType → Ioctl P A) → Result (IoctlReply P A) (Refused P A) → Lined P → Fds P
      → Lined P → Fds P → Type 0
  AppliesOfAny call result queue table new_queue new_table =
      (type : BufferType) → AppliesTyped (call type) result queue table new_queue new_table
