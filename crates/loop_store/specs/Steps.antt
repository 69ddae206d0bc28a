-- What a call may leave of its steps.
use Rattle.std.specs.Prelude.{ℕ, ◌≤◌, List, length, take, ◌++◌}
use Rattle.loop_disk.specs.Medium.{LeavesOnly, Medium}
use Rattle.loop_record.specs.declared.geometry.Geometry.{Geometry}
use Rattle.loop_record.specs.Recording.{Recording, Step, ring_of, plain}
use Rattle.loop_record.specs.Reading.{Holds}

-- the image reads as the recording after a prefix of the steps, of at least this many
pub record HoldsFrom (g : Geometry) (r : Recording) (least : ℕ) (steps : List Step) (image : List ℕ) : Type 0 where
  pub count : ℕ
  pub enough : least ≤ count
  pub few : count ≤ length steps
  pub held : Holds g (plain (ring_of g) r (take count steps)) image

-- Some steps were made, and others begun after them. Each image of the moments since then reads as the recording after
-- a prefix of all these steps. Each image that a crash may leave now reads as the recording after a prefix that has at
-- least those that were made.
pub record LeavesSteps (g : Geometry) (r : Recording) (made begun : List Step) (old new : Medium) : Type 0 where
  pub moments : LeavesOnly old new (HoldsFrom g r 0 (made ++ begun))
  pub now : (image : List ℕ) → new.may_leave image → HoldsFrom g r (length made) (made ++ begun) image
