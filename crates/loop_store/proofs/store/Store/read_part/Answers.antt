use Rattle.std.proofs.Common.{◌≡◌, true, None, Option, Err, List, [], ◌∷◌, get_or, refl, sym, ap, ◌∙◌, subst}
use Rattle.loop_record.specs.declared.segment.SegmentHead.{SegmentHead}
use Rattle.loop_record.proofs.TestFacts.{clash}
use Rattle.loop_ring.specs.Heads.{has_number}
use Rattle.loop_store.specs.declared.fault.StoreFault.TheVariants.{MustReopen, NotHeld}
use Rattle.loop_store.specs.Calls.{part_with, was_read_part}
use Rattle.loop_store.specs.Goes.{Goes, Stands}
use Rattle.loop_store.specs.Seen.{Seen, seen_with}
use Rattle.loop_store.specs.Drawn.{drawn_image}
use Rattle.loop_store.proofs.Looks.{alike-by, known-by, looked-kept, one-kept, one-seen, there-alike}
use Rattle.loop_store.proofs.Same.{holds-same}
use Rattle.loop_store.proofs.Once.{goes-must}
use Rattle.loop_store.proofs.FrameReads.{goes-looked, goes-unread, look-part, part-answered, part-failed, part-late, part-missing}
use Rattle.loop_store.proofs.store.Store.read_part.Goals as goal

pub returns-then-self-clause-goes : goal.returns-then-self-clause-goes
returns-then-self-clause-goes g c =
    goes-must g.D.Disk.medium c.args.self.now (was_read_part c.args.number c.args.at (Err MustReopen))
    (one-seen g.D.Disk.medium c.self.inside.disk c.self.inside.index c.self.inside.must_reopen c.self.invariant
    c.self.view_is) (λ honest. g.met.D.Disk.sound c.args.self.now.disk honest)
    (sym (ap (λ v. v.must_reopen) c.self.view_is) ∙ c.if-self.true)
    (record { version = λ v. refl; unfailed = refl; none = refl; made_none = λ h t. refl; begun_none = λ h t. refl }) refl

pub invariant_of-self : goal.invariant_of-self
invariant_of-self g c =
    looked-kept g.D.Disk.medium _ _ _ _ c.self.invariant c.read_held_part.ensures.called.size
    c.read_held_part.ensures.called.honest.1 c.read_held_part.ensures.stays

pub returns-in-Some-clause-goes : goal.returns-in-Some-clause-goes
returns-in-Some-clause-goes g c =
    let s = c.self.inside in
    let medium = g.D.Disk.medium in
    let old : Seen g.row.D.Denot = seen_with s.disk s.index s.must_reopen in
    subst (λ (v : Seen g.row.D.Denot). Goes medium v (record old { disk = c.read_held_part.new.disk })
    (was_read_part c.args.number c.args.at (part_with c.read_held_part.result c.read_held_part.new.out) ∷ []))
    c.self.view_is
    (goes-looked medium old c.read_held_part.new.disk
    (was_read_part c.args.number c.args.at (part_with c.read_held_part.result c.read_held_part.new.out))
    (look-part c.args.number c.args.at (part_with c.read_held_part.result c.read_held_part.new.out))
    (λ honest. g.met.D.Disk.sound s.disk honest)
    (record {
      one = one-kept medium s.disk s.index s.must_reopen c.self.invariant;
      answers = λ t told. part-answered ((medium s.disk).honest × Stands medium old t) s.index.ring.geometry t
          c.args.number c.args.at c.read_held_part.result c.read_held_part.new.out
          (sym told.must_reopen ∙ c.if-self.false)
          (there-alike medium s.disk s.index s.must_reopen t.recording c.args.number c.in-Some.segment
          c.self.invariant told.recording c.in-Some.ensures.within c.in-Some.ensures.there)
          c.read_held_part.ensures.refusals (λ held.
          let known = known-by medium s.disk s.index s.must_reopen t.recording c.self.invariant held.1.recording c.if-self.false held.0 in
          let has = subst (λ (hs : List (Option SegmentHead)). has_number s.index.ring.geometry.slots c.args.number
          (get_or hs c.in-Some.segment None) ≡ true) known.heads_are c.in-Some.ensures.there in
          c.read_held_part.ensures.frame t.recording held.0 (held.1.recording.held c.if-self.false held.0) has);
      stays = c.read_held_part.ensures.stays;
      called = part-failed c.read_held_part.result c.read_held_part.new.out _ _ c.read_held_part.ensures.called;
      unmoved = λ early. absurd (clash _ early
          (part-late c.args.number c.args.at c.read_held_part.result c.read_held_part.new.out
          c.read_held_part.ensures.refusals));
    }))

pub returns-in-None-clause-goes : goal.returns-in-None-clause-goes
returns-in-None-clause-goes g c =
    let s = c.self.inside in
    let medium = g.D.Disk.medium in
    subst (λ (v : Seen g.row.D.Denot). Goes medium v v (was_read_part c.args.number c.args.at (Err NotHeld) ∷ [])) c.self.view_is
    (goes-unread medium (seen_with s.disk s.index s.must_reopen) (was_read_part c.args.number c.args.at (Err NotHeld))
    (look-part c.args.number c.args.at (Err NotHeld))
    (one-kept medium s.disk s.index s.must_reopen c.self.invariant) (λ honest. g.met.D.Disk.sound s.disk honest)
    refl
    (λ H t told.
    let known = c.self.invariant.known in
    let same = alike-by medium s.disk s.index s.must_reopen t.recording c.self.invariant told.recording in
    part-missing H s.index.ring.geometry t c.args.number c.args.at (sym told.must_reopen ∙ c.if-self.false)
    (sym (holds-same known.recording t.recording c.args.number same) ∙ c.in-None.ensures.missing known.recording
    (drawn_image s.index.ring.geometry s.index.table.heads s.index.clips) known.known)))
