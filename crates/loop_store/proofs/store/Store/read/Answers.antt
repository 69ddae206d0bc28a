use Rattle.std.proofs.Common.{Err, [], ◌∷◌, refl, sym, ap, ◌∙◌, subst}
use Rattle.loop_store.specs.declared.fault.StoreFault.TheVariants.{MustReopen, NotHeld}
use Rattle.loop_store.specs.Calls.{read_with, was_read}
use Rattle.loop_store.specs.Goes.{Goes}
use Rattle.loop_store.specs.Seen.{Seen, seen_with}
use Rattle.loop_store.proofs.KeptReads.{goes-held, goes-missing}
use Rattle.loop_store.proofs.Looks.{looked-kept, one-seen}
use Rattle.loop_store.proofs.Once.{goes-must}
use Rattle.loop_store.proofs.store.Store.read.Goals as goal

pub returns-then-self-clause-goes : goal.returns-then-self-clause-goes
returns-then-self-clause-goes g c =
    goes-must g.D.Disk.medium c.args.self.now (was_read c.args.number (Err MustReopen))
    (one-seen g.D.Disk.medium c.self.inside.disk c.self.inside.index c.self.inside.must_reopen c.self.invariant
    c.self.view_is) (λ honest. g.met.D.Disk.sound c.args.self.now.disk honest)
    (sym (ap (λ v. v.must_reopen) c.self.view_is) ∙ c.if-self.true)
    (record { version = λ v. refl; unfailed = refl; none = refl; made_none = λ h t. refl; begun_none = λ h t. refl }) refl

pub invariant_of-self : goal.invariant_of-self
invariant_of-self g c =
    looked-kept g.D.Disk.medium _ _ _ _ c.self.invariant c.read_held.ensures.called.size
    c.read_held.ensures.called.honest.1 c.read_held.ensures.stays

pub returns-in-Some-clause-goes : goal.returns-in-Some-clause-goes
returns-in-Some-clause-goes g c =
    let s = c.self.inside in
    subst (λ (v : Seen g.row.D.Denot). Goes g.D.Disk.medium v (record (seen_with s.disk s.index s.must_reopen) { disk = c.read_held.new.disk })
    (was_read c.args.number (read_with c.read_held.result c.read_held.new.out) ∷ [])) c.self.view_is
    (goes-held g.D.Disk.medium s.disk s.index s.must_reopen c.self.invariant c.if-self.false
    (λ honest. g.met.D.Disk.sound s.disk honest) c.read_held.new.disk c.args.number c.in-Some.segment
    c.read_held.result c.read_held.new.out c.in-Some.ensures.within c.in-Some.ensures.there c.read_held.ensures)

pub returns-in-None-clause-goes : goal.returns-in-None-clause-goes
returns-in-None-clause-goes g c =
    let s = c.self.inside in
    subst (λ (v : Seen g.row.D.Denot). Goes g.D.Disk.medium v v (was_read c.args.number (Err NotHeld) ∷ [])) c.self.view_is
    (goes-missing g.D.Disk.medium s.disk s.index s.must_reopen c.self.invariant c.if-self.false
    (λ honest. g.met.D.Disk.sound s.disk honest) c.args.number c.in-None.ensures.missing)
