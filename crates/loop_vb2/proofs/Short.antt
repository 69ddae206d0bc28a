-- Short names of what the definitions write out.
use Rattle.std.specs.Prelude.{ℕ, Bool, true, false, List, Option, None, cond, is_some, length, nat_le, not}
use Rattle.std.specs.Option.{option_map_or}
use Rattle.loop_plane.specs.Plane.{Plane}
use Rattle.loop_plane.specs.declared.memory.Memory.{Memory}
use Rattle.loop_plane.specs.declared.memory.Memory.TheVariants.{Mmap}
use Rattle.loop_vb2.specs.declared.buffer.Buffer.{Buffer}
use Rattle.loop_vb2.specs.declared.buffer.Stamp.{Stamp}
use Rattle.loop_vb2.specs.declared.planes.PlaneSet.{PlaneSet}
use Rattle.loop_vb2.specs.declared.planes.Shape.{Shape}
use Rattle.loop_vb2.specs.declared.state.BufferState.{BufferState}
use Rattle.loop_vb2.specs.Buffers.{at_index, completed_by, queued_with}
use Rattle.loop_vb2.specs.Effects.{settle_device, with_buffer}
use Rattle.loop_vb2.specs.Owner.{is_active, is_queued}
use Rattle.loop_vb2.specs.Planes.{plane_in, same_memory, slot_filled}
use Rattle.loop_vb2.specs.State.{Body, EachFits}

-- each set that a buffer holds fits
abbrev pub AllFit : Body Plane → Type 0
AllFit b = EachFits b.shape b.kind b.buffers

-- once the device has started no buffer is queued, and before that none is active
abbrev pub in_step : Bool → BufferState → Bool
in_step started state = cond started (not (is_queued state)) (not (is_active state))

-- a buffer completed: the bytes in use of each plane are its part of the frame
abbrev pub completed_with : Shape → Stamp → List ℕ → Buffer Plane → Buffer Plane
completed_with shape stamp bytes b = completed_by slot_filled shape stamp bytes b

module _ {P : Type 0} where
  abbrev pub mapped_as : Bool → Buffer P → Buffer P
  mapped_as mapped b = record b { mapped = mapped }

  -- the planes were taken out
  abbrev pub without_planes : Buffer P → Buffer P
  without_planes b = record b { planes = None }

  -- what stays in a buffer that the application takes: the memory that it can map
  abbrev pub kept : Memory → Option (PlaneSet P) → Option (PlaneSet P)
  kept kind planes = cond (same_memory kind Mmap) planes None

  -- whether the buffer of an index holds a plane of this number
  abbrev pub has_plane_at : List (Buffer P) → ℕ → ℕ → Bool
  has_plane_at bs index plane = at_index (λ b. is_some (plane_in b.planes plane)) false bs index

  abbrev pub body_queued : ℕ → Option (PlaneSet P) → Body P → Body P
  body_queued index planes b = settle_device (with_buffer (queued_with planes) index b)

  -- the device can't go on
  abbrev pub body_fatal : Body P → Body P
  body_fatal b = record b { fatal = true }

  -- the start has been noticed
  abbrev pub body_seen : Body P → Body P
  body_seen b = record b { fresh = false }

-- a place is empty, or has at least n bytes in use
abbrev pub has_used_bytes : ℕ → Option Plane → Bool
has_used_bytes count place = option_map_or (λ p. nat_le count (length p.bytes)) place true
