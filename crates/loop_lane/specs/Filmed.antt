-- The text of what a camera filmed.
use Rattle.std.specs.Prelude.{◌≡◌, ℕ, true, Option, Result, Ok, Err, List, ◌++◌}
use Rattle.std.specs.Io.KnownBytes.{Appends}
use Rattle.loop_disk.specs.Medium.{Medium}
use Rattle.loop_plane.specs.Plane.{Plane}
use Rattle.loop_record.specs.Recording.{plain, ring_of}
use Rattle.loop_store.specs.declared.fault.StoreFault.{StoreFault}
use Rattle.loop_store.specs.declared.fault.StoreFault.TheVariants.{MustReopen}
use Rattle.loop_store.specs.Calls.{StoreState}
use Rattle.loop_capture.specs.declared.source.Next.{Next}
use Rattle.loop_desk.specs.Desk.{DeskCall, accepted_in, frames_stored}
use Rattle.loop_desk.specs.Footage.{steps_made}
use Rattle.loop_pipeline.specs.Backs.{calls_at}
use Rattle.loop_pipeline.specs.Cameras.{CameraKeeps, SeenCamera}
use Rattle.loop_y4m.specs.Export.{frames_between}
use Rattle.loop_y4m.specs.Text.{text}
use Rattle.loop_y4m.specs.declared.fault.ExportFault.{ExportFault}
use Rattle.loop_lane.specs.declared.text.TextFault.{TextFault}
use Rattle.loop_lane.specs.declared.text.TextFault.TheVariants.{Export, Run}
use Rattle.loop_lane.specs.declared.filmed.LostFrames.{LostFrames}
use Rattle.loop_lane.specs.Refused.{IsForWant, ExportsNot}

-- A camera was filmed to its end. The plain recorder's steps store what waited at its desk and what the desk accepted,
-- but for what still waits; and the text that was written is that of the held frames after these steps.
pub record FilmsText {S D P : Type 0} (medium : D → Medium) (gives : S → Next → List ℕ → S → Type 0)
    (meaning : P → Plane) (asks : DeskCall → Type 0) (gives_up : StoreFault → Type 0) (due : ℕ → ℕ → Type 0)
    (ends : ℕ → Type 0) (camera : SeenCamera S D P) (from to : ℕ) (before after : Option (List ℕ)) (s : StoreState)
    (lost : LostFrames) : Type 0 where
  pub end : SeenCamera S D P
  pub keeps : CameraKeeps medium gives meaning asks gives_up due ends camera end lost.given_up lost.left lost.missed
      lost.failed true
  pub stored : camera.desk.pending ++ accepted_in (calls_at 0 keeps.parts)
      ≡ frames_stored (steps_made camera.desk s (calls_at 0 keeps.parts)) ++ end.desk.pending
  pub text_is : Appends before after (text camera.desk.store.geometry (frames_between from to
      (plain (ring_of camera.desk.store.geometry) s.recording
      (steps_made camera.desk s (calls_at 0 keeps.parts))).frames))

-- A camera was filmed to its end, and the export of the held frames after these steps was refused for this reason.
pub record FilmsNoText {S D P : Type 0} (medium : D → Medium) (gives : S → Next → List ℕ → S → Type 0)
    (meaning : P → Plane) (asks : DeskCall → Type 0) (gives_up : StoreFault → Type 0) (due : ℕ → ℕ → Type 0)
    (ends : ℕ → Type 0) (camera : SeenCamera S D P) (from to : ℕ) (before after : Option (List ℕ)) (s : StoreState)
    (fault : ExportFault) : Type 0 where
  pub end : SeenCamera S D P
  pub lost : LostFrames
  pub keeps : CameraKeeps medium gives meaning asks gives_up due ends camera end lost.given_up lost.left lost.missed
      lost.failed true
  pub refused : ExportsNot medium camera.desk.store.geometry (frames_between from to
      (plain (ring_of camera.desk.store.geometry) s.recording
      (steps_made camera.desk s (calls_at 0 keeps.parts))).frames)
      before after fault

-- A camera was filmed to its end, and a call of its store that writes had failed.
pub record FilmsBroken {S D P : Type 0} (medium : D → Medium) (gives : S → Next → List ℕ → S → Type 0)
    (meaning : P → Plane) (asks : DeskCall → Type 0) (gives_up : StoreFault → Type 0) (due : ℕ → ℕ → Type 0)
    (ends : ℕ → Type 0) (camera : SeenCamera S D P) : Type 0 where
  pub end : SeenCamera S D P
  pub lost : LostFrames
  pub keeps : CameraKeeps medium gives meaning asks gives_up due ends camera end lost.given_up lost.left lost.missed
      lost.failed true
  pub broken : end.desk.store.must_reopen ≡ true

-- What came of filming a camera and exporting: the text; or memory or a thread was refused; or a call of the disk
-- failed; or the export was refused.
abbrev pub AnswersFilmed : {S D P : Type 0} → (D → Medium) → (S → Next → List ℕ → S → Type 0) → (P → Plane)
    → (DeskCall → Type 0) → (StoreFault → Type 0) → (ℕ → ℕ → Type 0) → (ℕ → Type 0) → SeenCamera S D P → ℕ → ℕ
    → Option (List ℕ) → Option (List ℕ) → StoreState → Result LostFrames TextFault → Type 0
AnswersFilmed medium gives meaning asks gives_up due ends camera from to before after s (Ok lost) =
    FilmsText medium gives meaning asks gives_up due ends camera from to before after s lost
AnswersFilmed medium gives meaning asks gives_up due ends camera from to before after s (Err (Run MustReopen)) =
    FilmsBroken medium gives meaning asks gives_up due ends camera
AnswersFilmed medium gives meaning asks gives_up due ends camera from to before after s (Err (Export fault)) =
    FilmsNoText medium gives meaning asks gives_up due ends camera from to before after s fault
AnswersFilmed medium gives meaning asks gives_up due ends camera from to before after s (Err fault) = IsForWant fault
