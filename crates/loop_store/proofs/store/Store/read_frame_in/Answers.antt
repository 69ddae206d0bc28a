use Rattle.std.proofs.Common.{◌≡◌, false, Err, refl, sym, ap, ◌∙◌}
use Rattle.std.proofs.lemmas.Result.{err_from_is_err_and}
use Rattle.loop_store.specs.declared.fault.StoreFault.TheVariants.{MustReopen, NoMemory, NotHeld}
use Rattle.loop_store.specs.Calls.{was_read}
use Rattle.loop_store.proofs.Looks.{one-seen}
use Rattle.loop_store.proofs.Once.{goes-must}
use Rattle.loop_store.proofs.FrameReads.{goes-unread, look-read, read-missing, read-unread}
use Rattle.loop_store.proofs.store.Store.read_frame_in.Goals as goal

pub returns-then-self-clause-goes : goal.returns-then-self-clause-goes
returns-then-self-clause-goes g c =
    goes-must g.D.Disk.medium c.args.self.now (was_read c.args.number (Err MustReopen))
    (one-seen g.D.Disk.medium c.self.inside.disk c.self.inside.index c.self.inside.must_reopen c.self.invariant
    c.self.view_is) (λ honest. g.met.D.Disk.sound c.args.self.now.disk honest)
    (sym (ap (λ v. v.must_reopen) c.self.view_is) ∙ c.if-self.true)
    (record { version = λ v. refl; unfailed = refl; none = refl; made_none = λ h t. refl; begun_none = λ h t. refl }) refl

pub returns-then-not-holds-clause-goes : goal.returns-then-not-holds-clause-goes
returns-then-not-holds-clause-goes g c =
    let fine : c.args.self.now.must_reopen ≡ false = sym (ap (λ v. v.must_reopen) c.self.view_is) ∙ c.if-self.false in
    goes-unread g.D.Disk.medium c.args.self.now (was_read c.args.number (Err NotHeld))
    (look-read c.args.number (Err NotHeld))
    (one-seen g.D.Disk.medium c.self.inside.disk c.self.inside.index c.self.inside.must_reopen c.self.invariant
    c.self.view_is) (λ honest. g.met.D.Disk.sound c.args.self.now.disk honest) refl
    (λ H t told. read-missing H c.args.self.now.geometry t c.args.number (sym told.must_reopen ∙ fine)
    (sym (told.recording.numbers_are c.args.number) ∙ sym c.holds.ensures ∙ c.if-not-holds.true))

pub returns-in_err-bytes-clause-goes : goal.returns-in_err-bytes-clause-goes
returns-in_err-bytes-clause-goes g c =
    let fine : c.args.self.now.must_reopen ≡ false = sym (ap (λ v. v.must_reopen) c.self.view_is) ∙ c.if-self.false in
    let p = err_from_is_err_and c.from_residual.result c.from_residual.ensures.1 in
    rw (p.1, p.2) (goes-unread g.D.Disk.medium c.args.self.now (was_read c.args.number (Err NoMemory))
    (look-read c.args.number (Err NoMemory))
    (one-seen g.D.Disk.medium c.self.inside.disk c.self.inside.index c.self.inside.must_reopen c.self.invariant
    c.self.view_is) (λ honest. g.met.D.Disk.sound c.args.self.now.disk honest) refl
    (λ H t told. read-unread H c.args.self.now.geometry t c.args.number (sym told.must_reopen ∙ fine)
    (sym (told.recording.numbers_are c.args.number) ∙ sym c.holds.ensures ∙ c.if-not-holds.false)))
