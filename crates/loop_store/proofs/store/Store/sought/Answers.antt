use Rattle.std.proofs.Common.{Ok, Err, [], ◌∷◌, refl, sym, ap, ◌∙◌, subst}
use Rattle.loop_store.specs.declared.fault.StoreFault.TheVariants.{MustReopen, NoMemory}
use Rattle.loop_store.specs.Calls.{sought}
use Rattle.loop_store.specs.Goes.{Goes}
use Rattle.loop_store.specs.Seen.{Seen}
use Rattle.loop_store.proofs.KeptReads.{goes-crammed, goes-sought}
use Rattle.loop_store.proofs.Looks.{one-seen}
use Rattle.loop_store.proofs.Once.{goes-must}
use Rattle.loop_store.proofs.store.Store.sought.Goals as goal

pub returns-then-self : goal.returns-then-self
returns-then-self g c =
    goes-must g.D.Disk.medium c.args.self.now (sought c.args.times (Err MustReopen))
    (one-seen g.D.Disk.medium c.self.inside.disk c.self.inside.index c.self.inside.must_reopen c.self.invariant
    c.self.view_is) (λ honest. g.met.D.Disk.sound c.args.self.now.disk honest)
    (sym (ap (λ v. v.must_reopen) c.self.view_is) ∙ c.if-self.true)
    (record { version = λ v. refl; unfailed = refl; none = refl; made_none = λ h t. refl; begun_none = λ h t. refl }) refl

pub returns-in-Ok : goal.returns-in-Ok
returns-in-Ok g c =
    let s = c.self.inside in
    subst (λ (v : Seen g.row.D.Denot). Goes g.D.Disk.medium v v (sought c.args.times (Ok c.in-Ok.runs.items) ∷ [])) c.self.view_is
    (goes-sought g.D.Disk.medium s.disk s.index s.must_reopen c.self.invariant c.if-self.false
    (λ honest. g.met.D.Disk.sound s.disk honest) c.args.times c.in-Ok.runs.items c.in-Ok.ensures)

pub returns-in-Err : goal.returns-in-Err
returns-in-Err g c =
    let s = c.self.inside in
    subst (λ (v : Seen g.row.D.Denot). Goes g.D.Disk.medium v v (sought c.args.times (Err NoMemory) ∷ [])) c.self.view_is
    (goes-crammed g.D.Disk.medium s.disk s.index s.must_reopen c.self.invariant c.if-self.false
    (λ honest. g.met.D.Disk.sound s.disk honest) c.args.times)
