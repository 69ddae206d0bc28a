-- Short names of what the definitions write out.
use Rattle.std.specs.Prelude.{ℕ, List}
use Rattle.std.specs.List.{flat_map}
use Rattle.loop_plane.specs.Plane.{Plane}
use Rattle.loop_plane.specs.declared.memory.Memory.{Memory}
use Rattle.loop_vb2.specs.declared.buffer.Buffer.{Buffer}
use Rattle.loop_vb2.specs.declared.planes.PlaneSet.{PlaneSet}
use Rattle.loop_vb2.specs.Requests.{held_sets}
use Rattle.loop_ioctl.specs.Attached.{values_by_fd}
use Rattle.loop_ioctl.specs.Names.{Names, given_back, values_in}

module _ {T : Type 0} where
  -- the values of sets, each with its fd
  abbrev pub values_of : List (PlaneSet T) → List (ℕ × T)
  values_of sets = flat_map values_in sets

  -- those that lie in a queue's buffers
  abbrev pub values_held : Memory → List (Buffer T) → List (ℕ × T)
  values_held kind bs = values_by_fd kind (held_sets bs)

-- sets that leave a queue of this kind: DMA-BUF planes go back to their fds
abbrev pub names_left : Memory → List (PlaneSet Plane) → Names Plane → Names Plane
names_left kind sets before = given_back (values_by_fd kind sets) before
