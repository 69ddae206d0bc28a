-- Names, for lemmas, of what the definitions say without one.
use Rattle.std.specs.Prelude.{ℕ, Bool, not, ◌&&◌, if◌then◌else◌, is_some, unwrap_or, Option, List, []}
use Rattle.loop_record.specs.declared.geometry.Geometry.{Geometry}
use Rattle.loop_record.specs.Recording.{Picture, Recording, Ring, Step, needs_recycling, steps, victim}
use Rattle.loop_store.specs.declared.fault.StoreFault.{StoreFault}
use Rattle.loop_store.specs.Calls.{Call, fault_answered, is_look}
use Rattle.loop_store.specs.Faults.{disk_failed}
use Rattle.loop_store.specs.Steps.{HoldsFrom}

-- these steps, or none
abbrev pub steps_or_none : Option (List Step) → List Step
steps_or_none list = unwrap_or list []

-- the steps that an append is asked for
abbrev pub steps_asked : Ring → ℕ → Recording → List Picture → List Step
steps_asked ring keep r group = steps_or_none (steps ring keep r group)

-- steps that were asked for, where nothing was refused
abbrev pub if_answered : Option StoreFault → List Step → List Step
if_answered fault asked = if is_some fault then [] else asked

-- steps that were asked for, where the disk failed
abbrev pub if_failed : Option StoreFault → List Step → List Step
if_failed fault asked = if disk_failed fault then asked else []

-- a block has to go first and none may
abbrev pub lacks_victim : Ring → ℕ → Recording → Bool
lacks_victim ring keep r = needs_recycling ring r && not (is_some (victim ring keep r))

-- the disk failed in a call that writes
abbrev pub has_failed : Call → Bool
has_failed call = not (is_look call) && disk_failed (fault_answered call)

-- the image reads as the recording after some of the first steps, or after none
abbrev pub HoldsSome : Geometry → Recording → List Step → List ℕ → Type 0
HoldsSome g r steps image = HoldsFrom g r 0 steps image
