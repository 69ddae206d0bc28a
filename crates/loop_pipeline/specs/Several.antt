-- What filming several cameras leaves.
use Rattle.std.specs.Prelude.{◌≡◌, ℕ, true, Result, IfErr, IfOk, List}
use Rattle.std.specs.Global.{Global}
use Rattle.loop_disk.specs.Medium.{Medium}
use Rattle.loop_plane.specs.Plane.{Plane}
use Rattle.loop_store.specs.declared.fault.StoreFault.{StoreFault}
use Rattle.loop_capture.specs.declared.source.Next.{Next}
use Rattle.loop_desk.specs.Desk.{DeskCall}
use Rattle.loop_pipeline.specs.declared.ending.CameraEnd.{CameraEnd}
use Rattle.loop_pipeline.specs.declared.film.Unfilmed.{Unfilmed}
use Rattle.loop_pipeline.specs.declared.several.Outcome.{Outcome}
use Rattle.loop_pipeline.specs.declared.several.Running.{Running}
use Rattle.loop_pipeline.specs.declared.several.Shot.{Shot}
use Rattle.loop_pipeline.specs.Cameras.{CameraKeeps, IsSettledDesk, SeenCamera}
use Rattle.loop_pipeline.specs.Fronts.{HandIsSpent, IsRegular, StaysOpen}
use Rattle.loop_pipeline.specs.Returns.{IsReturned}

-- What filming a camera answers: at the end the camera has kept its frames, if its queue was regular, and was ended by
-- its guide or its source; where `plain` holds, calls aren't noted, and its desk is settled: no frame waits there, or a
-- flush was refused. Or it comes back, or what is left of it, which kept the same.
pub record IsFilmed {S D P G : Type 0} (medium : D → Medium) (gives : S → Next → List ℕ → S → Type 0)
    (meaning : P → Plane) (asks : DeskCall → Type 0) (gives_up : StoreFault → Type 0) (plain : Type 0)
    (due : ℕ → ℕ → Type 0) (ends : ℕ → Type 0) (camera : SeenCamera S D P)
    (filmed : Result (CameraEnd S D P G Global) (Unfilmed S D P G)) : Type 0 where
  pub keeps : IfOk filmed (λ e. IsRegular meaning camera.queue
      → CameraKeeps medium gives meaning asks gives_up due ends camera
      (record { device = e.device; queue = e.queue; desk = e.desk; joined = e.joined.items })
      e.given_up e.left e.missed e.failed e.over)
  pub settled : plain → IfOk filmed (λ e. IsSettledDesk medium gives_up camera.desk e.desk)
  pub ended : IfOk filmed (λ e. e.over ≡ true)
  pub again : IfOk filmed (λ e. StaysOpen meaning camera.queue e.queue e.table)
  pub held : IfOk filmed (λ e. HandIsSpent e.queue e.hand)
  pub refused : IfErr filmed (IsReturned medium gives meaning asks gives_up due ends camera)

-- the camera with its guide, as it was before
abbrev pub shot_of : {S D P G : Type 0} → Outcome S D P G → Shot S D P G
shot_of outcome = outcome.shot.value

-- so it is of one of several, by its own guide
abbrev pub IsOutcome : {S D P G : Type 0} → (D → Medium) → (S → Next → List ℕ → S → Type 0) → (P → Plane)
    → (DeskCall → Type 0) → (StoreFault → Type 0) → Type 0 → (G → ℕ → ℕ → Type 0) → (G → ℕ → Type 0) → Outcome S D P G
    → Type 0
IsOutcome medium gives meaning asks gives_up plain due ends outcome =
    IsFilmed medium gives meaning asks gives_up plain (due outcome.shot.value.guide) (ends outcome.shot.value.guide)
    outcome.shot.value.camera outcome.filmed

abbrev pub shot_in : {S D P G : Type 0} → Running S D P G → Shot S D P G
shot_in running = running.shot.value

-- a camera's thread was given the camera beside it (private contracts alone)
abbrev pub IsRunning : {S D P G : Type 0} → Running S D P G → Type 0
IsRunning running = running.handle.promise.0.value ≡ running.shot.value
