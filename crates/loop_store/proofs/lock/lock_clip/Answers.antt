use Rattle.std.proofs.Common.{◌≡◌, ◌<◌, ℕ, Ok, Err, None, Some, set, refl, sym, ap, ◌∙◌, subst, arith}
use Rattle.std.proofs.lemmas.Result.{err_from_is_err_and}
use Rattle.loop_record.specs.declared.clip.Span.{Span}
use Rattle.loop_record.specs.declared.geometry.Geometry.{Geometry}
use Rattle.loop_record.specs.Recording.{Recording, lock, ring_of}
use Rattle.loop_store.specs.declared.fault.StoreFault.TheVariants.{Disk, MustReopen}
use Rattle.loop_store.specs.Calls.{first_of, locked, span_checks}
use Rattle.loop_store.specs.Lock.{CanTake}
use Rattle.loop_store.specs.declared.index.Index.{Index}
use Rattle.loop_store.specs.Seen.{seen_with}
use Rattle.loop_store.specs.Drawn.{drawn_image}
use Rattle.loop_store.proofs.CheckAnswers.{answer-given}
use Rattle.loop_store.proofs.Locks.{goes-noted, goes-unnoted, kept-noted, lock-redrawn, lock-refused}
use Rattle.loop_store.proofs.Alike.{span-same}
use Rattle.loop_store.proofs.Looks.{alike-by, failed-kept, one-kept}
use Rattle.loop_store.proofs.Once.{goes-must}
use Rattle.loop_store.proofs.UnheldNumbers.{fits-legal}
use Rattle.loop_store.proofs.lock.lock_clip.Goals as goal
use Rattle.loop_record.proofs.Names.{free_id}

-- the recording takes a clip of the span under this id
takes : (v : ℕ) (g : Geometry) (r : Recording) (span : Span) (id : ℕ) → id < 64
    → (first_of (span_checks v r span) ≡ None)
    × (id ≡ free_id r) → CanTake v g span id r
takes v g r span id low said = record { fits = said.0; legal = fits-legal v (ring_of g) r span said.0 (subst (λ (n : ℕ). n < 64) said.1 low); id_is = said.1 }

pub returns-then-must_reopen-clause-goes : goal.returns-then-must_reopen-clause-goes
returns-then-must_reopen-clause-goes g c =
    goes-must g.D.Disk.medium _ (locked c.args.span (Err MustReopen))
    (one-kept g.D.Disk.medium c.args.disk.now c.args.index.now c.args.must_reopen.now c.requires)
    (λ honest. g.met.D.Disk.sound c.args.disk.now honest) c.if-must_reopen.true
    (record { version = λ v. refl; unfailed = refl; none = refl; made_none = λ h t. refl; begun_none = λ h t. refl }) refl

pub returns-in_err-id-clause-goes : goal.returns-in_err-id-clause-goes
returns-in_err-id-clause-goes g c =
    let i = c.args.index.now in
    let medium = g.D.Disk.medium in
    let p = err_from_is_err_and c.from_residual.result c.from_residual.ensures.1 in
    rw (p.1, p.2) (lock-refused medium (seen_with c.args.disk.now i c.args.must_reopen.now) c.args.span
    c.in_err-id.field-0.0 (one-kept medium c.args.disk.now i c.args.must_reopen.now c.requires)
    (λ honest. g.met.D.Disk.sound c.args.disk.now honest) c.if-must_reopen.false c.in_err-id.ensures.refusals
    (λ r told.
    let known = c.requires.known in
    sym (span-same i.version known.recording r c.args.span
    (alike-by medium c.args.disk.now i c.args.must_reopen.now r c.requires told))
    ∙ c.in_err-id.ensures.answers known.recording (drawn_image i.ring.geometry i.table.heads i.clips) known.known))

pub returns-in-Ok-clause-kept : goal.returns-in-Ok-clause-kept
returns-in-Ok-clause-kept g c =
    let i = c.args.index.now in
    let h = i.ring.geometry in
    let medium = g.D.Disk.medium in
    let id = c.in_ok-id.id in
    let span = c.args.span in
    let makes = c.in-Ok.ensures.makes in
    let noted = c.in-Ok.ensures.noted in (
      kept-noted medium c.args.disk.now c.add_clip.new.disk i c.add_clip.new.index id (Some span) (CanTake i.version h span id)
          (lock span) c.args.must_reopen.now c.requires c.if-must_reopen.false
          (λ r image known. takes i.version h r span id c.in_ok-id.ensures.id.0.0 (c.in_ok-id.ensures.answers r image known))
          (record {
            noted = noted;
            called = makes.called;
            segments = makes.such;
            settled = makes.settled;
            held = makes.held;
            next = λ r. refl;
            clips = λ r one. ap (λ (k : ℕ). set r.clips k (Some span)) (sym one.id_is);
            redrawn = lock-redrawn i.version h id span c.in_ok-id.ensures.id.0.0 (omega (arith, c.well_formed));
          }),
      noted.ring,
    )

pub returns-in-Ok-clause-goes : goal.returns-in-Ok-clause-goes
returns-in-Ok-clause-goes g c =
    let i = c.args.index.now in
    let h = i.ring.geometry in
    let medium = g.D.Disk.medium in
    let id = c.in_ok-id.id in
    let span = c.args.span in
    let makes = c.in-Ok.ensures.makes in
    goes-noted medium c.args.disk.now c.add_clip.new.disk i c.add_clip.new.index c.args.must_reopen.now id (Some span)
    (CanTake i.version h span id) (lock span) (locked span (Ok id)) c.requires c.if-must_reopen.false
    (record {
      noted = c.in-Ok.ensures.noted;
      called = makes.called;
      segments = makes.such;
      settled = makes.settled;
      held = makes.held;
      next = λ r. refl;
      clips = λ r one. ap (λ (k : ℕ). set r.clips k (Some span)) (sym one.id_is);
      redrawn = lock-redrawn i.version h id span c.in_ok-id.ensures.id.0.0 (omega (arith, c.well_formed));
    })
    makes.moments
    (λ r image known. takes i.version h r span id c.in_ok-id.ensures.id.0.0 (c.in_ok-id.ensures.answers r image known))
    (λ H. record {
      leaves = λ v. refl;
      writes = refl;
      late = refl;
      answers = λ s still same one. answer-given H h s
          (locked span (Ok id)) still
          (ap (λ (v : ℕ). first_of (span_checks v s.recording span)) (sym same) ∙ one.fits) one.id_is;
    }) refl refl (λ s. refl) (λ s. refl)

pub returns-in-Err-clause-kept : goal.returns-in-Err-clause-kept
returns-in-Err-clause-kept g c = (
  failed-kept g.D.Disk.medium c.args.disk.now c.add_clip.new.disk c.args.index.now c.add_clip.new.index
      c.args.must_reopen.now c.requires c.in-Err.ensures.same c.in-Err.ensures.makes.called.size
      c.in-Err.ensures.makes.called.honest.1,
  ap (λ (i : Index _). i.ring) c.in-Err.ensures.same,
)

pub returns-in-Err-clause-goes : goal.returns-in-Err-clause-goes
returns-in-Err-clause-goes g c =
    let i = c.args.index.now in
    let h = i.ring.geometry in
    let medium = g.D.Disk.medium in
    let id = c.in_ok-id.id in
    let span = c.args.span in
    let makes = c.in-Err.ensures.makes in
    goes-unnoted medium c.args.disk.now c.add_clip.new.disk i c.add_clip.new.index c.args.must_reopen.now
    (CanTake i.version h span id) (lock span) (locked span (Err (Disk c.in-Err.fault))) c.in-Err.fault c.requires
    c.if-must_reopen.false c.in-Err.ensures.same
    (lock-redrawn i.version h id span c.in_ok-id.ensures.id.0.0 (omega (arith, c.well_formed))).alike
    (λ honest. g.met.D.Disk.sound c.add_clip.new.disk honest) makes.called makes.moments
    (λ r image known. takes i.version h r span id c.in_ok-id.ensures.id.0.0 (c.in_ok-id.ensures.answers r image known))
    (λ H. record {
      leaves = λ v. refl;
      writes = refl;
      late = refl;
      answers = λ s still same one. answer-given H h s
          (locked span (Err (Disk c.in-Err.fault))) still
          (ap (λ (v : ℕ). first_of (span_checks v s.recording span)) (sym same) ∙ one.fits) makes.fault;
    }) refl refl (λ s. refl) (λ s. refl)
