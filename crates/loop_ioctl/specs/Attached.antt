-- The fds of the planes that a queue holds and that the application keeps: each is attached, and no two are the same.
use Rattle.std.specs.Prelude.{◌≡◌, ◌⊎◌, ℕ, ◌+◌, cond, ◌==◌, List, [], ◌∷◌, Option, Some, None}
use Rattle.std.specs.List.{flat_map}
use Rattle.loop_plane.specs.Plane.{Plane}
use Rattle.loop_plane.specs.declared.memory.Memory.{Memory}
use Rattle.loop_plane.specs.declared.memory.Memory.TheVariants.{DmaBuf}
use Rattle.loop_vb2.specs.declared.planes.PlaneSet.{PlaneSet}
use Rattle.loop_vb2.specs.Planes.{same_memory}
use Rattle.loop_vb2.specs.Requests.{held_sets}
use Rattle.loop_vb2.specs.State.{Body}
use Rattle.loop_ioctl.specs.Names.{Names, values_in}

module _ {T : Type 0} where
  -- how many of the values have this fd
  abbrev pub fd_times : ℕ → List (ℕ × T) → ℕ
  fd_times fd [] = 0
  fd_times fd (v ∷ vs) = cond (v.0 == fd) 1 0 + fd_times fd vs

  -- the planes of sets of a kind, each with its fd: only DMA-BUF planes have one
  abbrev pub values_by_fd : Memory → List (PlaneSet T) → List (ℕ × T)
  values_by_fd kind sets = cond (same_memory kind DmaBuf) (flat_map values_in sets) []

  -- an fd is not there, or there once and attached
  abbrev pub IsOnce : ℕ → Option (Option T) → Type 0
  IsOnce count name = (count ≡ 0) ⊎ ((count ≡ 1) × (name ≡ Some None))

-- so it is of each fd, of the planes in a queue and of those that are out of it
abbrev pub IsLinked : Body Plane → List (ℕ × Plane) → Names Plane → Type 0
IsLinked b out before =
    (fd : ℕ) → IsOnce (fd_times fd (values_by_fd b.kind (held_sets b.buffers)) + fd_times fd out) (before fd)
