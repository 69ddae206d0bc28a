-- What the end of a recorder promises.
use Rattle.std.specs.Prelude.{◌≡◌, ℕ, ◌<◌, List, All, Some, length, slice_get}
use Rattle.loop_disk.specs.Medium.{Medium}
use Rattle.loop_desk.specs.declared.limits.Outline.{Outline}
use Rattle.loop_recorder.specs.declared.ended.EndedCamera.{EndedCamera}
use Rattle.loop_pipeline.specs.declared.entry.Pass.{Pass}
use Rattle.loop_pipeline.specs.declared.entry.Receipt.{Receipt}
use Rattle.loop_recorder.specs.declared.recorder.Ended.{Ended}
use Rattle.loop_recorder.specs.Endings.{AreThere, IsTied}
use Rattle.loop_recorder.specs.Opened.{AreNumbered}
use Rattle.loop_pipeline.specs.Notes.{pass_number, receipts_of}
use Rattle.loop_recorder.specs.Sessions.{IsFaithful}

-- the passes' numbers differ, as those do that a recorder was made with
abbrev pub DifferInNumber : {A : Type 0} → List (Pass A) → Type 0
DifferInNumber {A} passes =
    (i j : ℕ) (p q : Pass A) → slice_get passes i ≡ Some p → slice_get passes j ≡ Some q
    → pass_number p ≡ pass_number q → i ≡ j

-- receipt a of pass i
pub record IsReceipt {A : Type 0} (passes : List (Pass A)) (i a : ℕ) (r : Receipt) : Type 0 where
  pub pass : Pass A
  pub there : slice_get passes i ≡ Some pass
  pub stands : slice_get (receipts_of pass) a ≡ Some r

-- two receipts of the camera that have one place are one
abbrev pub NoTwoShare : {A : Type 0} → ℕ → List (Pass A) → Type 0
NoTwoShare camera passes =
    (i j a b : ℕ) (r s : Receipt) → IsReceipt passes i a r → IsReceipt passes j b s
    → r.camera ≡ camera → s.camera ≡ camera → r.place ≡ s.place → (i ≡ j) × (a ≡ b)

-- The camera's history is legal from a desk with the outline that its desk had when the recorder was made, and leads to
-- its desk. It has just as many entries as the passes have receipts of the camera, each at its place, no two at one
-- place if the passes' numbers differ.
pub record IsEndOf {D A : Type 0} (medium : D → Medium) (camera : ℕ) (e : EndedCamera D A) (outline : Outline A)
    (passes : List (Pass A)) : Type 0 where
  pub faithful : IsFaithful medium outline e.history.items e.desk
  pub tied : IsTied camera e.history.items passes
  pub apart : DifferInNumber passes → NoTwoShare camera passes

-- so it is of the camera of that number
abbrev pub EndsAt : {D A : Type 0} → (D → Medium) → List (Outline A) → List (EndedCamera D A) → List (Pass A) → ℕ
    → Type 0
EndsAt {D} {A} medium outlines cameras passes k =
    (e : EndedCamera D A) (o : Outline A) → slice_get cameras k ≡ Some e → slice_get outlines k ≡ Some o
    → IsEndOf medium k e o passes

-- So it is of each camera that the recorder was made with, and no receipt names another. The lock of each camera's
-- queue comes back at its place, and a count of the frames that were given up.
pub record IsEnd {D P A : Type 0} (medium : D → Medium) (outlines : List (Outline A)) (e : Ended D P A) : Type 0 where
  pub count : length e.cameras.items ≡ length outlines
  pub each : (k : ℕ) → k < length outlines → EndsAt medium outlines e.cameras.items e.passes.items k
  pub there : All (AreThere (length outlines)) e.passes.items
  pub ports : AreNumbered (length outlines) e.ports.items
  pub counts : length e.given_up.items ≡ length outlines
