-- A filming ends where nothing waits at a desk, or a flush was refused.
use Rattle.std.proofs.Common.{◌≡◌, ◌++◌, ◌<◌, ◌⊎◌, inl, inr, ℕ, List, [], ◌∷◌, length, slice_get, Some, sym, ap, ◌∙◌, subst, arith}
use Rattle.std.proofs.lemmas.List.{nil_from_length}
use Rattle.std.proofs.lemmas.Option.{slice_get_within}
use Rattle.rtrb.specs.declared.AnyItems.{AnyItems}
use Rattle.rtrb.specs.declared.consumer.Consumer.{Consumer}
use Rattle.loop_disk.specs.Medium.{Medium}
use Rattle.loop_record.specs.declared.frame.Frame.{Frame}
use Rattle.loop_store.specs.declared.fault.StoreFault.{StoreFault}
use Rattle.loop_desk.specs.declared.limits.Status.{Status}
use Rattle.loop_desk.specs.Seen.{SeenDesk, TellsStatus}
use Rattle.loop_pipeline.specs.Backs.{IsSettledBack, IsSoAt, Joins, SeenBack}
use Rattle.loop_pipeline.specs.Cameras.{AreLeft, EndsSettled, HasRefusedFlush, HasRefusedOne, IsSettledDesk}
use Rattle.loop_pipeline.proofs.Places.{some-same}

-- nothing waits at the active desk
pub nothing-waits : {D A : Type 0} (medium : D → Medium) (gives_up : StoreFault → Type 0) (seen : SeenBack D A)
    (desks : List (SeenDesk D)) (place active : ℕ) (status : Status) → desks ≡ seen.desks → active ≡ seen.active → place ≡ active
    → IsSoAt place desks (λ desk. TellsStatus medium desk status) → status.pending ≡ 0 → IsSettledBack medium gives_up seen
nothing-waits medium gives_up seen desks place active status are is at told none =
    inl (subst (λ n. IsSoAt n seen.desks (λ desk. desk.pending ≡ [])) (at ∙ is)
    (subst (λ l. IsSoAt place l (λ desk. desk.pending ≡ [])) are
    (told.0, told.1, nil_from_length told.0.pending (sym told.2.pending ∙ none))))

-- a back that was filmed beside its front, or after it
pub settled-here : {D A : Type 0} (medium : D → Medium) (gives_up : StoreFault → Type 0) (new filmed : SeenBack D A)
    → new ≡ filmed → IsSettledBack medium gives_up filmed → IsSettledBack medium gives_up new
settled-here medium gives_up new filmed is settled = subst (λ b. IsSettledBack medium gives_up b) (sym is) settled

pub joined-here : {D A : Type 0} (shut : Type 0) (old new filmed : SeenBack D A) → new ≡ filmed → Joins shut old filmed
    → Joins shut old new
joined-here shut old new filmed is joins = subst (λ b. Joins shut old b) (sym is) joins

pub joined-late : {D A : Type 0} (shut : Type 0) (old new same late : SeenBack D A) → new ≡ late → same ≡ old
    → Joins shut same late → Joins shut old new
joined-late shut old new same late is was joins =
    joined-here shut old new late is (subst (λ b. Joins shut b late) was joins)

module _ {D : Type 0} (medium : D → Medium) (gives_up : StoreFault → Type 0) (shut : Type 0) where
  -- what a back leaves that was made with one desk
  pub ends-settled : {A : Type 0} {end : ℕ} (first desk : SeenDesk D) (from : Consumer (Frame A) A AnyItems)
      (old new : SeenBack D A) (last : SeenDesk D) (joined : List (SeenDesk D)) → desk ≡ first
      → old ≡ record { began = desk ∷ []; from = from; start = end; desks = desk ∷ []; active = 0; end = end } → Joins shut old new
      → last ∷ joined ≡ new.desks → length new.desks ≡ length new.began → AreLeft medium new.began new.desks new.active
      → IsSettledBack medium gives_up new → EndsSettled medium gives_up shut first (last ∷ joined)
  ends-settled {A} first desk from old new last joined is was joins leaves counted left settled = record {
    others = joins.others;
    none = joins.none;
    all = ap length leaves ∙ (counted ∙ ap length began);
    active = new.active;
    settled = go settled;
    left = λ place d e before after apart. left place d e (ap (λ l. slice_get l place) began ∙ before)
        (ap (λ l. slice_get l place) (sym leaves) ∙ after) apart;
  }
    where
      began : new.began ≡ first ∷ joins.others
      began = joins.began ∙ (ap (λ (b : SeenBack D A). b.began ++ joins.others) was ∙ ap (λ d. d ∷ joins.others) is)

      go : IsSettledBack medium gives_up new
          → IsSoAt new.active (last ∷ joined) (λ d. d.pending ≡ [])
          ⊎ HasRefusedOne medium gives_up (first ∷ joins.others) (last ∷ joined)
      go (inl at) = inl (at.0, ap (λ l. slice_get l new.active) leaves ∙ at.1, at.2)
      go (inr why) = inr (record {
        place = why.place;
        before = why.began;
        after = why.desk;
        was = subst (λ l. slice_get l why.place ≡ Some why.began) began why.was;
        is = ap (λ l. slice_get l why.place) leaves ∙ why.is;
        refused = record { parts = why.parts; went = why.went; refused = why.refused };
      })

  -- no other desk joined
  pub one-settled : shut → (old last : SeenDesk D) (joined : List (SeenDesk D))
      → EndsSettled medium gives_up shut old (last ∷ joined) → IsSettledDesk medium gives_up old last
  one-settled is old last joined ends = go ends.settled
    where
      one : length (last ∷ joined) ≡ 1
      one = ends.all ∙ ap (λ (l : List (SeenDesk D)). length (old ∷ l)) (ends.none is)

      -- what is at a place is the first
      only : (place : ℕ) (desk : SeenDesk D) → slice_get (last ∷ joined) place ≡ Some desk → place ≡ 0
      only place desk at =
          let less : place < length (last ∷ joined) = slice_get_within (last ∷ joined) place desk at in
          omega (arith, less, one)

      now : (place : ℕ) (desk : SeenDesk D) → slice_get (last ∷ joined) place ≡ Some desk → last ≡ desk
      now place desk at =
          some-same last desk (ap (λ n. slice_get (last ∷ joined) n) (sym (only place desk at)) ∙ at)

      go : IsSoAt ends.active (last ∷ joined) (λ d. d.pending ≡ [])
          ⊎ HasRefusedOne medium gives_up (old ∷ ends.others) (last ∷ joined) → IsSettledDesk medium gives_up old last
      go (inl at) = inl (ap (λ (d : SeenDesk D). d.pending) (now ends.active at.0 at.1) ∙ at.2)
      go (inr why) =
          let before : old ≡ why.before = some-same old why.before
          (ap (λ n. slice_get (old ∷ ends.others) n) (sym (only why.place why.after why.is)) ∙ why.was) in
          inr (subst (λ d. HasRefusedFlush medium gives_up d last) (sym before)
          (subst (λ d. HasRefusedFlush medium gives_up why.before d) (sym (now why.place why.after why.is)) why.refused))
