-- What the queue's own code checks before it copies bytes out of a plane: it knows how many bytes are in use,
-- and not that a set fits.
use Rattle.std.specs.Prelude.{ℕ, map, Option}
use Rattle.loop_plane.specs.Plane.{Plane}
use Rattle.loop_vb2.specs.declared.reason.Reason.{Reason}
use Rattle.loop_vb2.specs.Buffers.{readable_at, read_buffer}
use Rattle.loop_vb2.specs.Checks.{first_reason, copy_checks}
use Rattle.loop_vb2.specs.State.{Body}

-- the first check of the code that fails
abbrev pub code_refusal : {P : Type 0} → (P → Plane) → ℕ → ℕ → ℕ → ℕ → Body P → Option Reason
code_refusal meaning index plane at count b =
    first_reason (copy_checks index plane at count (readable_at (map (read_buffer meaning) b.buffers) index plane) b)
