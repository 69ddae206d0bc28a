use Rattle.std.proofs.Common.{◌≡◌, ℕ, Result, Ok, Err, List, length, refl, sym, ap, ◌∙◌, subst}
use Rattle.std.proofs.lemmas.Result.{err_from_is_err_and}
use Rattle.loop_disk.specs.Medium.{LeavesOnly, Medium}
use Rattle.loop_record.specs.declared.geometry.Geometry.{Geometry}
use Rattle.loop_record.specs.Recording.{Picture, Step}
use Rattle.loop_ring.specs.declared.ring.Ring.{Ring}
use Rattle.loop_store.specs.declared.fault.StoreFault.{StoreFault}
use Rattle.loop_store.specs.declared.fault.StoreFault.TheVariants.{MustReopen, NumbersSpent}
use Rattle.loop_store.specs.Calls.{appended}
use Rattle.loop_store.specs.declared.place.AppendPlace.{AppendPlace}
use Rattle.loop_store.specs.AppendPlace.{IsKnown, place_segment}
use Rattle.loop_store.specs.Seen.{seen_with}
use Rattle.loop_store.specs.Drawn.{drawn_image}
use Rattle.loop_store.proofs.Alike.{refuses-same}
use Rattle.loop_store.proofs.Appends.{Grew, IsPlaced, kept-grown, noted-at, put-at, place-known, place-some, stands-grown, steps-are, told-grown}
use Rattle.loop_store.proofs.Looks.{alike-by, failed-kept, known-by, one-kept}
use Rattle.loop_store.proofs.Once.{goes-must}
use Rattle.loop_store.proofs.AppendAnswers.{place-alike, place-refused, put-failed, put-stored}
use Rattle.loop_store.proofs.put.put.Goals as goal
use Rattle.loop_store.proofs.Names.{HoldsSome}

not-refused : (place : AppendPlace) → let x : Result AppendPlace StoreFault = Ok place in let y : Result AppendPlace StoreFault = Err NumbersSpent in x ≡ y → ⊥
not-refused place e = absurd cc

pub returns-then-must_reopen-clause-goes : goal.returns-then-must_reopen-clause-goes
returns-then-must_reopen-clause-goes g c =
    goes-must g.D.Disk.medium _ (appended c.args.group.now.frames (Err MustReopen))
    (one-kept g.D.Disk.medium c.args.disk.now c.args.index.now c.args.must_reopen.now c.requires.kept)
    (λ honest. g.met.D.Disk.sound c.args.disk.now honest) c.if-must_reopen.true
    (record { version = λ v. refl; unfailed = refl; none = refl; made_none = λ h t. refl; begun_none = λ h t. refl }) refl

pub returns-in_err-place-clause-goes : goal.returns-in_err-place-clause-goes
returns-in_err-place-clause-goes g c =
    let i = c.args.index.now in
    let fault = c.in_err-place.field-0.0 in
    let medium = g.D.Disk.medium in
    let p = err_from_is_err_and c.from_residual.result c.from_residual.ensures.1 in
    rw (p.1, p.2) (place-refused medium (seen_with c.args.disk.now i c.args.must_reopen.now) c.args.group.now.frames
    fault (one-kept medium c.args.disk.now i c.args.must_reopen.now c.requires.kept)
    (λ honest. g.met.D.Disk.sound c.args.disk.now honest) c.if-must_reopen.false c.in_err-place.ensures.refusals
    (λ r told.
    let known = c.requires.kept.known in
    refuses-same i.ring.geometry i.table.keep known.recording r fault
    (alike-by medium c.args.disk.now i c.args.must_reopen.now r c.requires.kept told)
    (c.in_err-place.ensures.answers known.recording (drawn_image i.ring.geometry i.table.heads i.clips)
    known.known)))

pub append_group-requires-clause-settled : goal.append_group-requires-clause-settled
append_group-requires-clause-settled g c = λ honest. (c.requires.kept.present c.if-must_reopen.false honest).settled

pub append_group-requires-clause-known : goal.append_group-requires-clause-known
append_group-requires-clause-known g c = λ honest.
    let i = c.args.index.now in
    let present = c.requires.kept.present c.if-must_reopen.false honest in
    subst (λ (n : ℕ). IsKnown i.ring.geometry i.table.keep n c.in_ok-place.place (g.D.Disk.medium c.args.disk.now).bytes) (sym c.requires.first)
    (place-known i (g.D.Disk.medium c.args.disk.now).bytes c.in_ok-place.place present.recorded present.unstray c.in_ok-place.ensures.answers)

-- what the group has grown to, by the count that the index takes
grew-by : {D : Type 0} (medium : D → Medium) (g : Geometry) (keep : ℕ) (old new : D) (first next n j : ℕ) (ps : List Picture)
    → first ≡ next → n ≡ length ps → Grew medium g keep old new first (length ps) j ps → Grew medium g keep old new next n j ps
grew-by medium g keep old new first next n j ps same count grew =
    subst (λ (k : ℕ). Grew medium g keep old new k n j ps) same (subst (λ (k : ℕ). Grew medium g keep old new first k j ps) (sym count) grew)

pub returns-in-Ok-clause-kept : goal.returns-in-Ok-clause-kept
returns-in-Ok-clause-kept g c =
    let i = c.args.index.now in
    let h = i.ring.geometry in
    let ps = c.args.group.now.frames in
    let j = place_segment c.in_ok-place.place in
    let n = length ps in
    let medium = g.D.Disk.medium in
    let first : Grew medium h i.table.keep c.args.disk.now c.append_group.new.disk c.args.group.now.first (length ps) j ps = record {
      back = c.append_group.ensures.called.honest.1;
      count = refl;
      grown = c.in-Ok.ensures.such;
      settled = c.in-Ok.ensures.settled;
      stored = c.in-Ok.ensures.held;
    } in
    let grew = grew-by medium h i.table.keep c.args.disk.now c.append_group.new.disk c.args.group.now.first i.next n j ps c.requires.first refl first in
    let noted = noted-at i c.note.new.self c.segment.result j n c.segment.ensures c.note.ensures.noted in
    let put = put-at i c.note.new.self c.segment.result j ps c.segment.ensures c.note.ensures.stamps in
    let placed : IsPlaced i c.in_ok-place.place n = record {
      within = c.in_ok-place.ensures.within;
      at = c.in_ok-place.ensures.answers;
      unspent = λ same. not-refused c.in_ok-place.place (c.in_ok-place.ensures.spent.1 same);
      room = c.requires.room;
    } in
    kept-grown medium c.args.disk.now c.append_group.new.disk i c.note.new.self c.in_ok-place.place n j ps
    c.args.must_reopen.now c.requires.kept c.if-must_reopen.false refl placed noted
    c.append_group.ensures.called.size grew put

pub returns-in-Ok-clause-goes : goal.returns-in-Ok-clause-goes
returns-in-Ok-clause-goes g c =
    let i = c.args.index.now in
    let h = i.ring.geometry in
    let ps = c.args.group.now.frames in
    let j = place_segment c.in_ok-place.place in
    let n = length ps in
    let medium = g.D.Disk.medium in
    let must = c.args.must_reopen.now in
    let fine = c.if-must_reopen.false in
    let first : Grew medium h i.table.keep c.args.disk.now c.append_group.new.disk c.args.group.now.first (length ps) j ps = record {
      back = c.append_group.ensures.called.honest.1;
      count = refl;
      grown = c.in-Ok.ensures.such;
      settled = c.in-Ok.ensures.settled;
      stored = c.in-Ok.ensures.held;
    } in
    let grew = grew-by medium h i.table.keep c.args.disk.now c.append_group.new.disk c.args.group.now.first i.next n j ps c.requires.first refl first in
    let noted = noted-at i c.note.new.self c.segment.result j n c.segment.ensures c.note.ensures.noted in
    let put = put-at i c.note.new.self c.segment.result j ps c.segment.ensures c.note.ensures.stamps in
    let placed : IsPlaced i c.in_ok-place.place n = record {
      within = c.in_ok-place.ensures.within;
      at = c.in_ok-place.ensures.answers;
      unspent = λ same. not-refused c.in_ok-place.place (c.in_ok-place.ensures.spent.1 same);
      room = c.requires.room;
    } in
    put-stored medium (seen_with c.args.disk.now i must) (seen_with c.append_group.new.disk c.note.new.self must) ps (record {
      fine = fine;
      still = fine;
      one = one-kept medium c.args.disk.now i must c.requires.kept;
      geometry = ap (λ (x : Ring). x.geometry) noted.ring;
      version = noted.version;
      keep = noted.keep;
      called = c.in-Ok.ensures.called;
      tells = λ r told. told-grown medium c.args.disk.now c.append_group.new.disk i c.note.new.self
          c.in_ok-place.place n j ps must r c.requires.kept told refl placed noted grew.count put;
      place = λ r told.
          let known = c.requires.kept.known in
          let image = drawn_image h i.table.heads i.clips in
          let at = c.in_ok-place.ensures.answers known.recording image known.known in
          place-alike h i.table.keep known.recording r (alike-by medium c.args.disk.now i must r c.requires.kept told)
          (record { unspent = at.0; some = place-some h i.table.keep known.recording image c.in_ok-place.place at.1 });
      moments = λ r stands honest.
          let known = known-by medium c.args.disk.now i must r c.requires.kept stands fine honest in
          let at = c.in_ok-place.ensures.answers r (medium c.args.disk.now).bytes known in
          subst (λ (l : List Step). LeavesOnly (medium c.args.disk.now) (medium c.append_group.new.disk)
          (HoldsSome h r l)) (steps-are h i.table.keep r ps at.0
          (place-some h i.table.keep r (medium c.args.disk.now).bytes c.in_ok-place.place at.1))
          (c.append_group.ensures.moments r (sym known.next_is ∙ sym c.requires.first) honest known.held);
      stands = λ r stands. stands-grown medium c.args.disk.now c.append_group.new.disk i c.note.new.self
          c.in_ok-place.place n j ps must r c.requires.kept fine stands refl placed noted grew put;
    })

pub returns-in-Err-clause-kept : goal.returns-in-Err-clause-kept
returns-in-Err-clause-kept g c =
    let i = c.args.index.now in
    failed-kept g.D.Disk.medium c.args.disk.now c.append_group.new.disk i i c.args.must_reopen.now c.requires.kept
    refl c.in-Err.ensures.called.size c.in-Err.ensures.called.honest.1

pub returns-in-Err-clause-goes : goal.returns-in-Err-clause-goes
returns-in-Err-clause-goes g c =
    let i = c.args.index.now in
    let h = i.ring.geometry in
    let ps = c.args.group.now.frames in
    let medium = g.D.Disk.medium in
    let must = c.args.must_reopen.now in
    put-failed medium (seen_with c.args.disk.now i must) _ ps c.in-Err.fault (record {
      fine = c.if-must_reopen.false;
      one = one-kept medium c.args.disk.now i must c.requires.kept;
      has_failed = refl;
      writes = c.in-Err.ensures.fault;
      called = c.in-Err.ensures.called;
      sound = λ now. g.met.D.Disk.sound c.append_group.new.disk now;
      place = λ r told.
          let known = c.requires.kept.known in
          let image = drawn_image h i.table.heads i.clips in
          let at = c.in_ok-place.ensures.answers known.recording image known.known in
          place-alike h i.table.keep known.recording r (alike-by medium c.args.disk.now i must r c.requires.kept told)
          (record { unspent = at.0; some = place-some h i.table.keep known.recording image c.in_ok-place.place at.1 });
      moments = λ r stands honest.
          let known = known-by medium c.args.disk.now i must r c.requires.kept stands c.if-must_reopen.false honest in
          let at = c.in_ok-place.ensures.answers r (medium c.args.disk.now).bytes known in
          subst (λ (l : List Step). LeavesOnly (medium c.args.disk.now) (medium c.append_group.new.disk)
          (HoldsSome h r l)) (steps-are h i.table.keep r ps at.0
          (place-some h i.table.keep r (medium c.args.disk.now).bytes c.in_ok-place.place at.1))
          (c.append_group.ensures.moments r (sym known.next_is ∙ sym c.requires.first) honest known.held);
    })
