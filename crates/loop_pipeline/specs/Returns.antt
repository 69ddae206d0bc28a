-- What a camera that wasn't filmed leaves.
use Rattle.std.specs.Prelude.{◌≡◌, ℕ, List}
use Rattle.loop_disk.specs.Medium.{Medium}
use Rattle.loop_plane.specs.Plane.{Plane}
use Rattle.loop_capture.specs.declared.source.Next.{Next}
use Rattle.loop_store.specs.declared.fault.StoreFault.{StoreFault}
use Rattle.loop_desk.specs.Desk.{DeskCall}
use Rattle.loop_pipeline.specs.declared.film.Unfilmed.{Unfilmed}
use Rattle.loop_pipeline.specs.declared.film.Unfilmed.TheVariants.{NoMemory, NoThread}
use Rattle.loop_pipeline.specs.Cameras.{CameraKeeps, KeepsJoined, SeenCamera}
use Rattle.loop_pipeline.specs.Fronts.{IsRegular, StandsPort}

-- what comes back where a camera wasn't filmed: the camera; or what is left of it, with the device and the queue as
-- they were, and with what waited at the desk kept, if the queue was regular
abbrev pub IsReturned : {S D P G : Type 0} → (D → Medium) → (S → Next → List ℕ → S → Type 0) → (P → Plane)
    → (DeskCall → Type 0) → (StoreFault → Type 0) → (ℕ → ℕ → Type 0) → (ℕ → Type 0) → SeenCamera S D P
    → Unfilmed S D P G → Type 0
IsReturned medium gives meaning asks gives_up due ends camera (NoMemory c) = c ≡ camera
IsReturned medium gives meaning asks gives_up due ends camera (NoThread e) =
    (e.device ≡ camera.device) × (e.queue ≡ camera.queue) × StandsPort meaning e.queue e.table
    × (IsRegular meaning camera.queue → CameraKeeps medium gives meaning asks gives_up due ends camera
    (record { device = e.device; queue = e.queue; desk = e.desk; joined = e.joined.items })
    e.given_up e.left e.missed e.failed e.over)

-- the same where desks may have joined it
abbrev pub GivesJoined : {S D P G : Type 0} → (D → Medium) → (S → Next → List ℕ → S → Type 0) → (P → Plane)
    → (DeskCall → Type 0) → (StoreFault → Type 0) → (ℕ → ℕ → Type 0) → (ℕ → Type 0) → Type 0 → SeenCamera S D P
    → Unfilmed S D P G → Type 0
GivesJoined medium gives meaning asks gives_up due ends shut camera (NoMemory c) = c ≡ camera
GivesJoined medium gives meaning asks gives_up due ends shut camera (NoThread e) =
    (e.device ≡ camera.device) × (e.queue ≡ camera.queue) × StandsPort meaning e.queue e.table
    × (IsRegular meaning camera.queue → KeepsJoined medium gives meaning asks gives_up due ends shut camera
    (record { device = e.device; queue = e.queue; desk = e.desk; joined = e.joined.items })
    e.given_up e.left e.missed e.failed e.over)
