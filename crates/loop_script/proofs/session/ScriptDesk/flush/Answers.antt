use Rattle.std.proofs.Common.{◌≡◌, refl, subst}
use Rattle.std.specs.Prelude.{OnErr}
use Rattle.loop_disk.specs.declared.memory.MemDisk.{MemDisk}
use Rattle.loop_script.specs.Sessions.{Shown}
use Rattle.loop_script.proofs.SessionLaws.{flush-fault, flush-locked, flush-waits, kept-flush, unchanged}
use Rattle.loop_script.proofs.session.ScriptDesk.flush.Goals as goal

pub invariant_of-self : goal.invariant_of-self
invariant_of-self g c =
    kept-flush (λ d. refl) c.self.inside.desk c.flush.new.self c.flush.result c.flush.ensures.goes c.self.invariant

pub returns-clause-unchanged : goal.returns-clause-unchanged
returns-clause-unchanged g c =
    let s = c.self.inside in
    let old : Shown (MemDisk g.row.A.Denot) = record { desk = s.desk; accepted = s.accepted } in
    let new : Shown (MemDisk g.row.A.Denot) = record { desk = c.flush.new.self; accepted = s.accepted } in
    let goes = c.flush.ensures.goes in
    subst (λ (v : Shown (MemDisk g.row.A.Denot)). OnErr c.flush.result (new ≡ v)) c.self.view_is
    (unchanged old new c.flush.result c.flush.ensures.refused
    (flush-fault (λ d. refl) s.desk c.flush.new.self c.flush.result goes c.self.invariant)
    (flush-waits s.desk c.flush.new.self c.flush.result goes) goes.limits refl)

pub returns-clause-refusals : goal.returns-clause-refusals
returns-clause-refusals g c = flush-locked (λ d. refl) c.self.inside.desk c.flush.new.self c.flush.result c.flush.ensures.goes c.self.invariant
