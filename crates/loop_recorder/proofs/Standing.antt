-- The queue and the table of a camera that comes back stand for a state; memory for more is memory for fewer.
use Rattle.std.proofs.Common.{ℕ, ◌≤◌, List, Result, Ok, Err, arith}
use Rattle.std.specs.Global.{Global}
use Rattle.loop_disk.specs.Medium.{Medium}
use Rattle.loop_plane.specs.Plane.{Plane}
use Rattle.loop_store.specs.declared.fault.StoreFault.{StoreFault}
use Rattle.loop_capture.specs.declared.source.Next.{Next}
use Rattle.loop_desk.specs.Desk.{DeskCall}
use Rattle.loop_pipeline.specs.declared.ending.CameraEnd.{CameraEnd}
use Rattle.loop_pipeline.specs.declared.film.Unfilmed.{Unfilmed}
use Rattle.loop_pipeline.specs.declared.film.Unfilmed.TheVariants.{NoMemory, NoThread}
use Rattle.loop_pipeline.specs.Cameras.{SeenCamera}
use Rattle.loop_pipeline.specs.Several.{IsFilmed}
use Rattle.loop_recorder.specs.declared.room.Returned.{Returned}
use Rattle.loop_recorder.specs.Recordings.{HoldsAll, StandsAfter}

pub stands-after : {S D P G : Type 0} (medium : D → Medium) (gives : S → Next → List ℕ → S → Type 0)
    (meaning : P → Plane) (asks : DeskCall → Type 0) (gives_up : StoreFault → Type 0) (due : ℕ → ℕ → Type 0)
    (ends : ℕ → Type 0) {plain : Type 0} (camera : SeenCamera S D P) (filmed : Result (CameraEnd S D P G Global) (Unfilmed S D P G))
    → IsFilmed medium gives meaning asks gives_up plain due ends camera filmed → StandsAfter meaning filmed
stands-after medium gives meaning asks gives_up due ends camera (Ok e) is = is.again.0
stands-after medium gives meaning asks gives_up due ends camera (Err (NoMemory c)) is = tt
stands-after medium gives meaning asks gives_up due ends camera (Err (NoThread e)) is = is.refused.2

pub holds-fewer : {D P : Type 0} {few all : ℕ} {r : Returned D P} → few ≤ all → HoldsAll all r → HoldsAll few r
holds-fewer le h = record {
  rests = (h.rests.0, omega (arith, le, h.rests.1));
  filmed = omega (arith, le, h.filmed);
}
