-- What the queue's own code answers: the reason of the first check of a call that fails. Only private functions say it.
use Rattle.std.specs.Prelude.{ℕ, List, Option}
use Rattle.loop_plane.specs.Plane.{Plane}
use Rattle.loop_plane.specs.declared.memory.Memory.{Memory}
use Rattle.loop_vb2.specs.declared.planes.PlaneSet.{PlaneSet}
use Rattle.loop_vb2.specs.declared.reason.Reason.{Reason}
use Rattle.loop_vb2.specs.Buffers.{used_at}
use Rattle.loop_vb2.specs.Checks.{first_reason, queue_checks, prepare_checks, dequeue_checks, stream_on_checks, query_checks, map_checks, unmap_checks, take_checks, copy_checks, end_checks, request_checks}
use Rattle.loop_vb2.specs.State.{Body}

module _ {P : Type 0} where
  abbrev pub queue_refusal : ℕ → Memory → Option (PlaneSet Plane) → Body P → Option Reason
  queue_refusal index kind given b = first_reason (queue_checks index kind given b)

  abbrev pub prepare_refusal : ℕ → Memory → Option (PlaneSet Plane) → Body P → Option Reason
  prepare_refusal index kind given b = first_reason (prepare_checks index kind given b)

  abbrev pub dequeue_refusal : Body P → Option Reason
  dequeue_refusal b = first_reason (dequeue_checks b)

  abbrev pub stream_on_refusal : Body P → Option Reason
  stream_on_refusal b = first_reason (stream_on_checks b)

  abbrev pub query_refusal : ℕ → Body P → Option Reason
  query_refusal index b = first_reason (query_checks index b)

  abbrev pub map_refusal : ℕ → Body P → Option Reason
  map_refusal index b = first_reason (map_checks index b)

  abbrev pub unmap_refusal : ℕ → Body P → Option Reason
  unmap_refusal index b = first_reason (unmap_checks index b)

  abbrev pub take_refusal : ℕ → Body P → Option Reason
  take_refusal index b = first_reason (take_checks index b)

  abbrev pub copy_refusal : ℕ → ℕ → ℕ → ℕ → Body P → Option Reason
  copy_refusal index plane at count b =
      first_reason (copy_checks index plane at count (used_at b.buffers index plane) b)

  abbrev pub end_refusal : ℕ → Body P → Option Reason
  end_refusal index b = first_reason (end_checks index b)

  abbrev pub request_refusal : ℕ → Memory → List (PlaneSet Plane) → Body P → Option Reason
  request_refusal count kind sets b = first_reason (request_checks count kind sets b)
