-- What calls of a desk leave of the footage.
use Rattle.std.proofs.Common.{◌≡◌, ℕ, false, List, ◌++◌, take, refl, sym, ap, ◌∙◌, subst}
use Rattle.loop_disk.specs.Medium.{Medium}
use Rattle.loop_disk.proofs.Moments.{weaker}
use Rattle.loop_record.specs.declared.geometry.Geometry.{Geometry}
use Rattle.loop_record.specs.Reading.{Holds}
use Rattle.loop_record.specs.Recording.{Picture, Recording, Step, plain, ring_of}
use Rattle.loop_record.proofs.Form.{reading-well_formed}
use Rattle.loop_store.specs.Calls.{StoreState}
use Rattle.loop_store.specs.Goes.{Stands}
use Rattle.loop_store.specs.Steps.{LeavesSteps}
use Rattle.loop_store.specs.Seen.{StandsFor}
use Rattle.loop_store.proofs.CheckAnswers.{are-answered-as}
use Rattle.loop_store.proofs.CallRuns.{told-of}
use Rattle.loop_store.proofs.ModelRuns.{recording-after}
use Rattle.loop_desk.specs.Desk.{DeskCall, DeskState, frames_stored}
use Rattle.loop_desk.specs.Footage.{HoldsWhole, KeepsFootage, steps_begun, steps_made, stored_calls}
use Rattle.loop_desk.specs.Seen.{DeskGoes, SeenDesk, TellsDesk, rules_of}
use Rattle.loop_desk.proofs.Frames.{none-lost}
use Rattle.loop_desk.proofs.Whole.{clips-whole, formed-below}
use Rattle.loop_store.proofs.Names.{HoldsSome}

-- what reads as the recording after a prefix of the steps has each clip whole
reads-whole : (g : Geometry) (r : Recording) (steps : List Step) (start image : List ℕ) → Holds g r start
    → HoldsSome g r steps image → HoldsWhole g r steps image
reads-whole g r steps start image was some = record {
  held = some;
  whole = clips-whole (ring_of g) r (take some.count steps) (formed-below r (reading-well_formed g r start was))
      (reading-well_formed g (plain (ring_of g) r (take some.count steps)) image some.held);
}

pub keeps-footage : {D : Type 0} (medium : D → Medium) (old new : SeenDesk D) (calls : List DeskCall) (s : StoreState)
    → DeskGoes medium old new calls → Stands medium old.store s → (medium old.store.disk).honest
    → KeepsFootage medium old new calls s
keeps-footage medium old new calls s goes stands now =
    let g = old.store.geometry in
    let k = rules_of old in
    let t : DeskState = record { store = s; pending = old.pending } in
    let at : TellsDesk old t = record { store = told-of medium old.store s stands; pending = refl } in
    let store = goes.store t at in
    let plays = goes.plays t at in
    let list = stored_calls old s calls in
    let leaves : s.must_reopen ≡ false → LeavesSteps g s.recording (steps_made old s calls) (steps_begun old s calls)
    (medium old.store.disk) (medium new.store.disk) = λ fine. store.leaves s stands now fine in
    record {
      now = λ fine. (leaves fine).now;
      moments = λ fine.
          let still : old.store.must_reopen ≡ false = stands.must_reopen ∙ fine in
          weaker (medium old.store.disk) (medium new.store.disk)
          (HoldsSome g s.recording (steps_made old s calls ++ steps_begun old s calls))
          (HoldsWhole g s.recording (steps_made old s calls ++ steps_begun old s calls)) (leaves fine).moments
          (λ image some. reads-whole g s.recording (steps_made old s calls ++ steps_begun old s calls)
          (medium old.store.disk).bytes image (stands.recording.held still now) some);
      recording = subst (λ (r : Recording). StandsFor medium new.store r) (recording-after g s list) (store.stands s stands).recording;
      none_lost = none-lost k t calls plays.0
          (are-answered-as ((medium old.store.disk).honest × Stands medium old.store s) (Unit {0}) g s list
          (λ u. (now, stands)) (store.answers s at.store))
          ∙ ap (λ (l : List Picture). frames_stored (steps_made old s calls) ++ l) (sym plays.1.pending);
    }
