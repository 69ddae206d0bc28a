-- Where no desk can join, a camera keeps what it has with those that it had.
use Rattle.std.proofs.Common.{◌++◌, ℕ, Bool, IfErr, IfOk, Result, Ok, Err, List, ap, ◌∙◌, subst}
use Rattle.std.specs.Global.{Global}
use Rattle.std.proofs.lemmas.List.{append-nil}
use Rattle.loop_disk.specs.Medium.{Medium}
use Rattle.loop_plane.specs.Plane.{Plane}
use Rattle.loop_capture.specs.declared.source.Next.{Next}
use Rattle.loop_store.specs.declared.fault.StoreFault.{StoreFault}
use Rattle.loop_desk.specs.Desk.{DeskCall}
use Rattle.loop_pipeline.specs.declared.ending.CameraEnd.{CameraEnd}
use Rattle.loop_pipeline.specs.declared.film.Unfilmed.{Unfilmed}
use Rattle.loop_pipeline.specs.declared.film.Unfilmed.TheVariants.{NoMemory, NoThread}
use Rattle.loop_pipeline.specs.Cameras.{CameraKeeps, KeepsJoined, SeenCamera}
use Rattle.loop_pipeline.specs.Fronts.{IsRegular}
use Rattle.loop_pipeline.specs.Returns.{IsReturned, GivesJoined}

module _ {S D P : Type 0} (medium : D → Medium) (gives : S → Next → List ℕ → S → Type 0) (meaning : P → Plane)
    (asks : DeskCall → Type 0) (gives_up : StoreFault → Type 0) (due : ℕ → ℕ → Type 0) (ends : ℕ → Type 0)
    (shut : Type 0) (is : shut) (camera : SeenCamera S D P) where
  alone : (new : SeenCamera S D P) (given_up left missed failed : ℕ) (over : Bool)
      → KeepsJoined medium gives meaning asks gives_up due ends shut camera new given_up left missed failed over
      → CameraKeeps medium gives meaning asks gives_up due ends camera new given_up left missed failed over
  alone new given_up left missed failed over kept =
      subst (λ l. CameraKeeps medium gives meaning asks gives_up due ends (record camera { joined = l }) new given_up left missed
      failed over) (ap (λ l. camera.joined ++ l) (kept.none is) ∙ append-nil camera.joined) kept.keeps

  pub filmed-alone : {G : Type 0} (filmed : Result (CameraEnd S D P G Global) (Unfilmed S D P G))
      → IfOk filmed (λ e. IsRegular meaning camera.queue → KeepsJoined medium gives meaning asks gives_up due ends shut camera
      (record { device = e.device; queue = e.queue; desk = e.desk; joined = e.joined.items }) e.given_up e.left e.missed
      e.failed e.over)
      → IfOk filmed (λ e. IsRegular meaning camera.queue → CameraKeeps medium gives meaning asks gives_up due ends camera
      (record { device = e.device; queue = e.queue; desk = e.desk; joined = e.joined.items }) e.given_up e.left e.missed
      e.failed e.over)
  filmed-alone (Ok e) kept = λ regular. alone _ e.given_up e.left e.missed e.failed e.over (kept regular)
  filmed-alone (Err u) kept = kept

  pub given-alone : {G : Type 0} (filmed : Result (CameraEnd S D P G Global) (Unfilmed S D P G))
      → IfErr filmed (GivesJoined medium gives meaning asks gives_up due ends shut camera)
      → IfErr filmed (IsReturned medium gives meaning asks gives_up due ends camera)
  given-alone (Ok e) kept = kept
  given-alone (Err (NoMemory c)) kept = kept
  given-alone (Err (NoThread e)) (device, queue, port, kept) =
      (device, queue, port, λ regular. alone _ e.given_up e.left e.missed e.failed e.over (kept regular))
