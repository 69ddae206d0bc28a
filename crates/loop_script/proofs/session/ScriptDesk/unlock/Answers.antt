use Rattle.std.proofs.Common.{◌≡◌, [], ◌∷◌, refl, subst}
use Rattle.std.specs.Prelude.{OnErr}
use Rattle.loop_disk.specs.declared.memory.MemDisk.{MemDisk}
use Rattle.loop_store.specs.Calls.{unlocked}
use Rattle.loop_script.specs.Sessions.{Shown}
use Rattle.loop_desk.specs.Desk.{clip_unlocked}
use Rattle.loop_desk.proofs.CallRuns.{store-goes, told-then}
use Rattle.loop_script.proofs.SessionLaws.{fine-of, kept-one, none-failed, on-err, unchanged}
use Rattle.loop_script.proofs.session.ScriptDesk.unlock.Goals as goal

pub invariant_of-self : goal.invariant_of-self
invariant_of-self g c =
    let goes = c.unlock_clip.ensures.goes in
    let store = store-goes _ c.self.inside.desk c.unlock_clip.new.self (clip_unlocked c.args.id c.unlock_clip.result ∷ []) goes in
    kept-one c.self.inside.desk c.unlock_clip.new.self (unlocked c.args.id c.unlock_clip.result) store
    (λ d. refl) refl (told-then _ c.self.inside.desk c.unlock_clip.new.self
    (clip_unlocked c.args.id c.unlock_clip.result ∷ []) goes).pending c.self.invariant

pub returns-clause-unchanged : goal.returns-clause-unchanged
returns-clause-unchanged g c =
    let s = c.self.inside in
    let old : Shown (MemDisk g.row.A.Denot) = record { desk = s.desk; accepted = s.accepted } in
    let new : Shown (MemDisk g.row.A.Denot) = record { desk = c.unlock_clip.new.self; accepted = s.accepted } in
    let goes = c.unlock_clip.ensures.goes in
    let store = store-goes _ c.self.inside.desk c.unlock_clip.new.self (clip_unlocked c.args.id c.unlock_clip.result ∷ []) goes in
    let result = c.unlock_clip.result in
    let fine = fine-of result (none-failed s.desk.store c.unlock_clip.new.self.store (unlocked c.args.id c.unlock_clip.result) store (λ d. refl)) in
    subst (λ (v : Shown (MemDisk g.row.A.Denot)). OnErr result (new ≡ v)) c.self.view_is
    (unchanged old new result c.unlock_clip.ensures.refused fine
    (on-err result (told-then _ c.self.inside.desk c.unlock_clip.new.self
    (clip_unlocked c.args.id c.unlock_clip.result ∷ []) goes).pending) goes.limits refl)

pub returns-clause-fine : goal.returns-clause-fine
returns-clause-fine g c =
    let store = store-goes _ c.self.inside.desk c.unlock_clip.new.self (clip_unlocked c.args.id c.unlock_clip.result ∷ []) c.unlock_clip.ensures.goes in
    fine-of c.unlock_clip.result (none-failed c.self.inside.desk.store c.unlock_clip.new.self.store (unlocked c.args.id c.unlock_clip.result) store (λ d. refl))
