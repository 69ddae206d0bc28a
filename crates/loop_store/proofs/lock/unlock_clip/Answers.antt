use Rattle.std.proofs.Common.{◌≡◌, ◌≢◌, Option, List, get_or, Ok, Err, None, Some, refl, sym, ap, ◌∙◌}
use Rattle.loop_record.specs.declared.clip.Span.{Span}
use Rattle.loop_record.specs.Recording.{clip_of, unlock}
use Rattle.loop_store.specs.declared.fault.StoreFault.TheVariants.{Disk, MustReopen}
use Rattle.loop_store.specs.Calls.{unlocked}
use Rattle.loop_store.specs.declared.index.Index.{Index}
use Rattle.loop_store.specs.Seen.{seen_with}
use Rattle.loop_store.proofs.Locks.{clip-known, goes-noted, goes-unnoted, kept-noted, unlock-answered, unlock-redrawn, unlock-refused}
use Rattle.loop_store.proofs.Looks.{failed-kept, one-kept}
use Rattle.loop_store.proofs.Once.{goes-must}
use Rattle.loop_store.proofs.lock.unlock_clip.Goals as goal

some : (o : Option Span) (s : Span) → o ≡ Some s → o ≢ None
some None s e none = absurd cc
some (Some t) s e none = absurd cc

pub returns-then-must_reopen-clause-goes : goal.returns-then-must_reopen-clause-goes
returns-then-must_reopen-clause-goes g c =
    goes-must g.D.Disk.medium _ (unlocked c.args.id (Err MustReopen))
    (one-kept g.D.Disk.medium c.args.disk.now c.args.index.now c.args.must_reopen.now c.requires)
    (λ honest. g.met.D.Disk.sound c.args.disk.now honest) c.if-must_reopen.true
    (record { version = λ v. refl; unfailed = refl; none = refl; made_none = λ h t. refl; begun_none = λ h t. refl }) refl

pub returns-in_default-clause-goes : goal.returns-in_default-clause-goes
returns-in_default-clause-goes g c =
    let i = c.args.index.now in
    let medium = g.D.Disk.medium in
    unlock-refused medium (seen_with c.args.disk.now i c.args.must_reopen.now) c.args.id
    (one-kept medium c.args.disk.now i c.args.must_reopen.now c.requires)
    (λ honest. g.met.D.Disk.sound c.args.disk.now honest) c.if-must_reopen.false
    (λ r told. ap (λ (cs : List (Option Span)). get_or cs c.args.id None) (sym told.clips_are) ∙ sym c.in_default.ensures.clip)

pub remove_clip-requires-clause-id : goal.remove_clip-requires-clause-id
remove_clip-requires-clause-id g c = (c.in-Some.ensures.within, some _ c.in-Some.field-0 (sym c.in-Some.ensures.clip))

pub remove_clip-requires-clause-present : goal.remove_clip-requires-clause-present
remove_clip-requires-clause-present g c = λ honest. c.requires.present c.if-must_reopen.false honest

pub returns-in-Ok-clause-kept : goal.returns-in-Ok-clause-kept
returns-in-Ok-clause-kept g c =
    let i = c.args.index.now in
    let medium = g.D.Disk.medium in
    let id = c.args.id in
    let makes = c.in-Ok.ensures.makes in (
      kept-noted medium c.args.disk.now c.remove_clip.new.disk i c.remove_clip.new.index id None
          (λ r. clip_of r id ≢ None) (unlock id) c.args.must_reopen.now c.requires c.if-must_reopen.false
          (λ r image known. some _ c.in-Some.field-0 (clip-known i r image id known ∙ sym c.in-Some.ensures.clip)) (record {
            noted = c.in-Ok.ensures.noted;
            called = makes.called;
            segments = makes.such;
            settled = makes.settled;
            held = makes.held;
            next = λ r. refl;
            clips = λ r one. refl;
            redrawn = unlock-redrawn i.ring.geometry id c.in-Some.ensures.within;
          }),
      c.in-Ok.ensures.noted.ring,
    )

pub returns-in-Ok-clause-goes : goal.returns-in-Ok-clause-goes
returns-in-Ok-clause-goes g c =
    let i = c.args.index.now in
    let medium = g.D.Disk.medium in
    let id = c.args.id in
    let makes = c.in-Ok.ensures.makes in
    goes-noted medium c.args.disk.now c.remove_clip.new.disk i c.remove_clip.new.index c.args.must_reopen.now id None
    (λ r. clip_of r id ≢ None) (unlock id) (unlocked id (Ok tt)) c.requires c.if-must_reopen.false
    (record {
      noted = c.in-Ok.ensures.noted;
      called = makes.called;
      segments = makes.such;
      settled = makes.settled;
      held = makes.held;
      next = λ r. refl;
      clips = λ r one. refl;
      redrawn = unlock-redrawn i.ring.geometry id c.in-Some.ensures.within;
    }) makes.moments
    (λ r image known. some _ c.in-Some.field-0 (clip-known i r image id known ∙ sym c.in-Some.ensures.clip))
    (λ H. record {
      leaves = λ v. refl;
      writes = refl;
      late = refl;
      answers = λ s still same one. unlock-answered H i.ring.geometry s id
          (Ok tt) still one tt;
    }) refl refl (λ s. refl) (λ s. refl)

pub returns-in-Err-clause-kept : goal.returns-in-Err-clause-kept
returns-in-Err-clause-kept g c = (
  failed-kept g.D.Disk.medium c.args.disk.now c.remove_clip.new.disk c.args.index.now c.remove_clip.new.index
      c.args.must_reopen.now c.requires c.in-Err.ensures.same c.in-Err.ensures.makes.called.size
      c.in-Err.ensures.makes.called.honest.1,
  ap (λ (i : Index _). i.ring) c.in-Err.ensures.same,
)

pub returns-in-Err-clause-goes : goal.returns-in-Err-clause-goes
returns-in-Err-clause-goes g c =
    let i = c.args.index.now in
    let medium = g.D.Disk.medium in
    let id = c.args.id in
    let makes = c.in-Err.ensures.makes in
    goes-unnoted medium c.args.disk.now c.remove_clip.new.disk i c.remove_clip.new.index c.args.must_reopen.now
    (λ r. clip_of r id ≢ None) (unlock id) (unlocked id (Err (Disk c.in-Err.fault))) c.in-Err.fault c.requires
    c.if-must_reopen.false c.in-Err.ensures.same (unlock-redrawn i.ring.geometry id c.in-Some.ensures.within).alike
    (λ honest. g.met.D.Disk.sound c.remove_clip.new.disk honest) makes.called makes.moments
    (λ r image known. some _ c.in-Some.field-0 (clip-known i r image id known ∙ sym c.in-Some.ensures.clip))
    (λ H. record {
      leaves = λ v. refl;
      writes = refl;
      late = refl;
      answers = λ s still same one. unlock-answered H i.ring.geometry s id
          (Err (Disk c.in-Err.fault)) still one makes.fault;
    }) refl refl (λ s. refl) (λ s. refl)
