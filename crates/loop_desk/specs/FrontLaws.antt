-- What follows from the definitions of the front.
use Rattle.std.specs.Prelude.{◌≡◌, ℕ, true, List, [], length, Some}
use Rattle.loop_plane.specs.Plane.{Plane}
use Rattle.loop_plane.specs.Fds.{Fds}
use Rattle.loop_record.specs.declared.geometry.PixelFormat.{PixelFormat}
use Rattle.loop_vb2.specs.declared.buffer.Buffer.{Buffer}
use Rattle.loop_vb2.specs.declared.buffer.Stamp.{Stamp}
use Rattle.loop_vb2.specs.declared.planes.PlaneSet.{PlaneSet}
use Rattle.loop_vb2.specs.Buffers.{completed_by}
use Rattle.loop_vb2.specs.First.{shape_of}
use Rattle.loop_vb2.specs.Planes.{frame_size, has_count, slot_filled}
use Rattle.loop_vb2.specs.State.{QueueState, Lined, StandsQueue}
use Rattle.loop_ioctl.specs.Names.{names_in}
use Rattle.loop_ioctl.specs.Calls.{read_names}
use Rattle.loop_desk.specs.declared.hand.Hand.TheVariants as hand
use Rattle.loop_desk.specs.Front.{StandsFront, empty, taken_frame}

-- A queue without buffers, any table and an empty hand stand for the front in which no plane is out.
abbrev pub NewFrontsStand : {P : Type 0} → Type 0 → (P → Plane) → Type 0
NewFrontsStand {P} A meaning =
    (code : Lined P) (table : Fds P) (s : QueueState) → StandsQueue meaning code s → s.body.buffers ≡ []
    → StandsFront {A = A} meaning code table hand.Empty
    (record { queue = record { queue = s; names = read_names meaning (names_in table); out = [] }; hand = empty })

-- A buffer that holds as many planes as the format has, and was completed with one whole frame, has that frame's
-- bytes.
abbrev pub WholeFramesAreTaken : Type 0
WholeFramesAreTaken =
    (format : PixelFormat) (width height : ℕ) (stamp : Stamp) (bytes : List ℕ) (b : Buffer Plane) (set : PlaneSet Plane)
    → b.planes ≡ Some set → has_count (shape_of format width height).count set ≡ true
    → length bytes ≡ frame_size (shape_of format width height)
    → (taken_frame (shape_of format width height)
    (completed_by slot_filled (shape_of format width height) stamp bytes b)).bytes ≡ bytes
