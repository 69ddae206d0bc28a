use Rattle.std.proofs.Common.{◌≡◌, ◌==◌, not, Bool, Result, Ok, [], ◌∷◌, refl, subst}
use Rattle.loop_disk.specs.declared.memory.MemDisk.{MemDisk}
use Rattle.loop_store.specs.declared.fault.StoreFault.{StoreFault}
use Rattle.loop_store.specs.Calls.{upgraded}
use Rattle.loop_desk.specs.Desk.{layout_upgraded}
use Rattle.loop_desk.proofs.CallRuns.{store-goes, told-then}
use Rattle.loop_script.specs.Sessions.{Shown}
use Rattle.loop_script.proofs.SessionLaws.{kept-one, upgrade-answer}
use Rattle.loop_script.proofs.session.ScriptDesk.upgrade.Goals as goal

pub invariant_of-self : goal.invariant_of-self
invariant_of-self g c =
    let goes = c.upgrade.ensures.goes in
    let calls = layout_upgraded c.upgrade.result ∷ [] in
    kept-one c.self.inside.desk c.upgrade.new.self (upgraded c.upgrade.result)
    (store-goes _ c.self.inside.desk c.upgrade.new.self calls goes) (λ d. refl) refl
    (told-then _ c.self.inside.desk c.upgrade.new.self calls goes).pending c.self.invariant

pub returns-clause-answer : goal.returns-clause-answer
returns-clause-answer g c =
    subst (λ (s : Shown (MemDisk g.row.A.Denot)). ◌≡◌ {A = Result Bool StoreFault} c.upgrade.result
    (Ok (not (s.desk.store.version == 2)))) c.self.view_is
    (upgrade-answer c.self.inside.desk c.upgrade.new.self c.upgrade.result c.upgrade.ensures.goes (λ d. refl)
    c.self.invariant)
