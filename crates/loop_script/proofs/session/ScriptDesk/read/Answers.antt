use Rattle.std.proofs.Common.{[], ◌∷◌, refl}
use Rattle.loop_store.specs.Calls.{was_read}
use Rattle.loop_store.specs.Runs.{read_of}
use Rattle.loop_desk.specs.Desk.{frame_read}
use Rattle.loop_desk.proofs.CallRuns.{store-goes, told-then}
use Rattle.loop_script.proofs.SessionLaws.{kept-one, read-refused}
use Rattle.loop_script.proofs.session.ScriptDesk.read.Goals as goal

pub invariant_of-self : goal.invariant_of-self
invariant_of-self g c =
    let goes = c.read_frame.ensures.goes in
    let store = store-goes _ c.self.inside.desk c.read_frame.new.self (frame_read c.args.number (read_of c.read_frame.result) ∷ []) goes in
    kept-one c.self.inside.desk c.read_frame.new.self (was_read c.args.number (read_of c.read_frame.result)) store
    (λ d. refl) refl (told-then _ c.self.inside.desk c.read_frame.new.self
    (frame_read c.args.number (read_of c.read_frame.result) ∷ []) goes).pending c.self.invariant

pub returns-clause-refusals : goal.returns-clause-refusals
returns-clause-refusals g c = read-refused (λ d. refl) c.self.inside.desk c.read_frame.new.self c.args.number
    c.read_frame.result c.read_frame.ensures.goes c.self.invariant
