-- Short names of what the definitions write out.
use Rattle.std.specs.Prelude.{ℕ, List, ◌++◌, Option}
use Rattle.std.specs.Option.{option_map_or}
use Rattle.loop_plane.specs.Plane.{Plane}
use Rattle.loop_vb2.specs.declared.buffer.Buffer.{Buffer}
use Rattle.loop_vb2.specs.declared.planes.Shape.{Shape}
use Rattle.loop_vb2.specs.State.{Body}
use Rattle.loop_record.specs.Turns.{Machine}
use Rattle.loop_desk.specs.Desk.{DeskCall, DeskState, IsDeskTold, Rules, desk_after}
use Rattle.loop_desk.specs.Front.{HandState, empty, hand_of, part}

abbrev pub taken_bytes : Shape → Buffer Plane → List ℕ
taken_bytes shape b = part shape b 0 ++ (part shape b 1 ++ part shape b 2)

abbrev pub hand_with : Body Plane → ℕ → Option (Buffer Plane) → HandState
hand_with body index b = option_map_or (hand_of body index) b empty

-- a desk by its states and its own part of the answers
abbrev pub desk_model : Rules → Machine DeskState DeskCall
desk_model k = record { after = desk_after k; May = IsDeskTold k }
