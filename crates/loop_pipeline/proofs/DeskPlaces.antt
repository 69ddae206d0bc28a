-- The desk at a place goes on, and all else stays.
use Rattle.std.proofs.Common.{◌≡◌, ◌<◌, ◌≤◌, ◌-◌, ◌%◌, ◌++◌, ℕ, List, [], ◌∷◌, length, slice_get, slice_set, IfErr, IfOk, IfSome, None, Option, Some, Result, Ok, Err, refl, sym, ap, ◌∙◌, subst, arith}
use Rattle.std.proofs.lemmas.List.{length-append, length-set}
use Rattle.loop_disk.specs.Medium.{Medium}
use Rattle.loop_record.specs.Recording.{Picture}
use Rattle.loop_store.specs.declared.fault.StoreFault.{StoreFault}
use Rattle.loop_desk.specs.declared.limits.Flushed.{Flushed}
use Rattle.loop_desk.specs.Desk.{flushed, submitted}
use Rattle.loop_desk.specs.Seen.{DeskGoes, SeenDesk}
use Rattle.loop_desk.proofs.CallRuns.{told-then}
use Rattle.loop_pipeline.specs.Backs.{FitsBlock, GoesAt, HasRoom, IsChangedAt, SeenBack}
use Rattle.loop_pipeline.specs.Desks.{SeenDesks}
use Rattle.loop_pipeline.proofs.Places.{set-twice, some-same, some-there, get-set-same}

-- what is said of the desk at a place
pub same-desk : {D : Type 0} (P : SeenDesk D → Type 0) (desks : List (SeenDesk D)) (place : ℕ) (desk : SeenDesk D)
    → slice_get desks place ≡ Some desk → ((d : SeenDesk D) × (slice_get desks place ≡ Some d) × P d) → P desk
same-desk P desks place desk at said = subst P (some-same said.0 desk (sym said.1 ∙ at)) said.2

-- what was answered says more
pub ok-then : {X E : Type 0} (r : Result X E) (P Q : X → Type 0) → IfOk r P → ((x : X) → P x → Q x) → IfOk r Q
ok-then (Ok x) P Q is more = more x is
ok-then (Err e) P Q is more = is

pub err-then : {X E : Type 0} (r : Result X E) (P Q : E → Type 0) → IfErr r P → ((e : E) → P e → Q e) → IfErr r Q
err-then (Ok x) P Q is more = is
err-then (Err e) P Q is more = more e is

pub some-then : {X : Type 0} (o : Option X) (P Q : X → Type 0) → IfSome o P → ((x : X) → P x → Q x) → IfSome o Q
some-then (Some x) P Q is more = more x is
some-then None P Q is more = is

-- a frame was answered this
pub answered : {D : Type 0} (medium : D → Medium) (old new : SeenDesk D) (p : Picture) (size : ℕ)
    (answer is : Result ℕ StoreFault) → answer ≡ is → DeskGoes medium old new (submitted p size answer ∷ [])
    → DeskGoes medium old new (submitted p size is ∷ [])
answered medium old new p size answer is same goes = subst (λ r. DeskGoes medium old new (submitted p size r ∷ [])) same goes

-- and a flush this
pub flush-answered : {D : Type 0} (medium : D → Medium) (old new : SeenDesk D) (answer is : Result Flushed StoreFault)
    → answer ≡ is → DeskGoes medium old new (flushed answer ∷ []) → DeskGoes medium old new (flushed is ∷ [])
flush-answered medium old new answer is same goes = subst (λ r. DeskGoes medium old new (flushed r ∷ [])) same goes

module _ {D : Type 0} where
  pub goes-at : (inside old : SeenDesks D) (place : ℕ) (before after : SeenDesk D) (P : SeenDesk D → SeenDesk D → Type 0)
      → inside ≡ old → slice_get inside.desks place ≡ Some before → P before after
      → GoesAt place old.desks (slice_set inside.desks place after) P
  goes-at inside old place before after P is at goes =
      subst (λ (b : SeenDesks D). GoesAt place b.desks (slice_set inside.desks place after) P) is
      (record { before = before; after = after; at = at; goes = goes; same = refl })

  -- and so the active one
  pub goes-active : (inside old : SeenDesks D) (before after : SeenDesk D) (P : SeenDesk D → SeenDesk D → Type 0)
      → inside ≡ old → slice_get inside.desks inside.lent.active ≡ Some before → P before after
      → GoesAt old.lent.active old.desks (slice_set inside.desks inside.lent.active after) P
  goes-active inside old before after P is at goes =
      subst (λ (b : SeenDesks D). GoesAt b.lent.active b.desks (slice_set inside.desks inside.lent.active after) P) is
      (record { before = before; after = after; at = at; goes = goes; same = refl })

  -- a place of the desks as its callers see them
  pub within : {inside old : SeenDesks D} {place : ℕ} → inside ≡ old → place < length old.desks → place < length inside.desks
  within {inside} {old} {place} is less = subst (λ b. place < length b.desks) (sym is) less

  -- what is at its place then
  pub there-now : (old new : List (SeenDesk D)) (place : ℕ) (P : SeenDesk D → SeenDesk D → Type 0) (went : GoesAt place old new P)
      → slice_get new place ≡ Some went.after
  there-now old new place P went =
      ap (λ (l : List (SeenDesk D)). slice_get l place) went.same ∙ get-set-same old place went.before went.after went.at

  -- there are as many desks as before
  pub as-many : (old new : List (SeenDesk D)) (place : ℕ) (P : SeenDesk D → SeenDesk D → Type 0) → GoesAt place old new P
      → length new ≡ length old
  as-many old new place P went = ap length went.same ∙ length-set old place went.after

  pub still-within : (old new : List (SeenDesk D)) (place i : ℕ) (P : SeenDesk D → SeenDesk D → Type 0) → GoesAt place old new P
      → i < length old → i < length new
  still-within old new place i P went less = subst (λ n. i < n) (sym (as-many old new place P went)) less

  -- it stays
  pub goes-still : (desks : List (SeenDesk D)) (place : ℕ) (P : SeenDesk D → SeenDesk D → Type 0) → place < length desks
      → ((d : SeenDesk D) → P d d) → GoesAt place desks desks P
  goes-still desks place P less so =
      let there = some-there desks place less in
      record { before = there.0; after = there.0; at = there.1; goes = so there.0; same = sym there.2 }

  -- it goes on once more
  pub goes-then : (old mid new : List (SeenDesk D)) (place : ℕ) (P Q R : SeenDesk D → SeenDesk D → Type 0)
      → GoesAt place old mid P → GoesAt place mid new Q
      → ((d e f : SeenDesk D) → P d e → Q e f → R d f) → GoesAt place old new R
  goes-then old mid new place P Q R first second both =
      let here : slice_get mid place ≡ Some first.after = there-now old mid place P first in
      let is : second.before ≡ first.after = some-same second.before first.after (sym second.at ∙ here) in
      record {
        before = first.before;
        after = second.after;
        at = first.at;
        goes = both first.before first.after second.after first.goes (subst (λ d. Q d second.after) is second.goes);
        same = second.same
            ∙ (ap (λ (l : List (SeenDesk D)). slice_set l place second.after) first.same
            ∙ set-twice old place first.after second.after);
      }

module _ {D A : Type 0} where
  -- nothing changed
  pub unchanged : (inside old : SeenBack D A) → inside ≡ old → inside.active < length inside.desks → IsChangedAt old.active old old
  unchanged inside old is less =
      let there = some-there old.desks old.active (subst (λ b. b.active < length b.desks) is less) in
      (there.0, ap (λ (l : List (SeenDesk D)). record old { desks = l }) (sym there.2))

  pub unchanged-inside : (inside old : SeenBack D A) → inside ≡ old → inside.active < length inside.desks
      → IsChangedAt old.active old inside
  unchanged-inside inside old is less =
      let same = unchanged inside old is less in (same.0, is ∙ same.1)

  -- nothing, whatever the end was before
  pub unchanged-end : (inside old : SeenBack D A) → inside ≡ old → inside.active < length inside.desks
      → IsChangedAt old.active old (record old { end = old.end })
  unchanged-end inside old is less = unchanged inside old is less

  -- only the active desk did
  pub changed : (inside old : SeenBack D A) (desk : SeenDesk D) (desks : List (SeenDesk D)) (active end : ℕ) → inside ≡ old
      → desks ≡ slice_set inside.desks inside.active desk → active ≡ inside.active → end ≡ inside.end
      → IsChangedAt old.active old (record inside { desks = desks; active = active; end = end })
  changed inside old desk desks active end is so same still = (
    desk,
    (λ i. record inside { desks = so i; active = same i; end = still i })
        ∙ ap (λ (b : SeenBack D A). record b { desks = slice_set b.desks b.active desk }) is,
  )

  -- only the active desk did, and the end
  pub brought-to : (inside old : SeenBack D A) (desk : SeenDesk D) (desks : List (SeenDesk D)) (active : ℕ) → inside ≡ old
      → desks ≡ slice_set inside.desks inside.active desk → active ≡ inside.active
      → IsChangedAt old.active old (record inside { desks = desks; active = active; end = old.end })
  brought-to inside old desk desks active is so same =
      changed inside old desk desks active old.end is so same (ap (λ (b : SeenBack D A). b.end) (sym is))

module _ {D : Type 0} (medium : D → Medium) where
  -- what waits at a desk after a frame was accepted
  pub still-fits : (before after : SeenDesk D) (p : Picture) (size number : ℕ)
      → DeskGoes medium before after (submitted p size (Ok number) ∷ []) → after ≡ record before { pending = after.pending }
      → HasRoom before → FitsBlock after
  still-fits before after p size number goes same room =
      let waits : after.pending ≡ before.pending ++ p ∷ [] = (told-then medium before after (submitted p size (Ok number) ∷ []) goes).pending in
      subst FitsBlock (sym (same ∙ ap (λ l. record before { pending = l }) waits))
      (subst (λ n. n ≤ before.store.geometry.slots - before.store.next % before.store.geometry.slots)
      (sym (length-append before.pending (p ∷ []))) (omega (arith, room)))
