-- The search for the desk that takes the next block, and the turn to it.
use Rattle.std.proofs.Common.{◌≡◌, ◌==◌, ◌++◌, ◌<◌, ◌-◌, ◌%◌, ◌⊎◌, ◌↔◌, inl, inr, ℕ, ◌+◌, Bool, true, false, not, Option, Some, None, List, [], ◌∷◌, length, slice_get, slice_set, refl, sym, ap, ◌∙◌, subst}
use Rattle.std.proofs.lemmas.Bool.{eqb-true, eqb-false, eq-eqb}
use Rattle.std.proofs.lemmas.List.{length-append, nil_from_length}
use Rattle.loop_disk.specs.Medium.{Medium}
use Rattle.loop_record.specs.Recording.{Picture}
use Rattle.loop_desk.specs.declared.limits.Space.{Space}
use Rattle.loop_desk.specs.Seen.{SeenDesk}
use Rattle.loop_pipeline.specs.declared.next.Search.{Search}
use Rattle.loop_pipeline.specs.Backs.{IsSoAt}
use Rattle.loop_pipeline.specs.Desks.{SeenDesks, turned}
use Rattle.loop_pipeline.specs.Nexts.{IsFull, TakesNext, IsSearch}
use Rattle.loop_pipeline.specs.Turns.{AllLocked, Chooses, IsBetween, MayBegin, Searches, TellsRoom}
use Rattle.loop_pipeline.proofs.DeskPlaces.{same-desk}
use Rattle.loop_pipeline.proofs.Places.{get-joined, some-same, some-there}
use Rattle.loop_pipeline.proofs.Searching.{all-full}

module _ {D : Type 0} (medium : D → Medium) where
  -- no store has told anything
  pub search-begins : (seen : SeenDesks D) (search : Search) → IsSearch seen.lent.end seen.lent.active [] search
      → Searches medium seen.desks seen.lent.end seen.lent.active 0 search
  search-begins seen search is = record { spaces = []; count = refl; tell = λ place d s at there. absurd (cc); is = is }

  -- one store more
  pub search-on : (inside now : SeenDesks D) (n : ℕ) (search next : Search) (desk : SeenDesk D) (space : Space)
      → inside ≡ now → slice_get inside.desks n ≡ Some desk → TellsRoom medium desk space
      → ((spaces : List Space) → n ≡ length spaces → IsSearch inside.lent.end inside.lent.active spaces search
      → IsSearch inside.lent.end inside.lent.active (spaces ++ space ∷ []) next)
      → Searches medium now.desks now.lent.end now.lent.active n search → Searches medium now.desks now.lent.end now.lent.active (n + 1) next
  search-on inside now n search next desk space view at tells step told =
      subst (λ (b : SeenDesks D). Searches medium b.desks b.lent.end b.lent.active (n + 1) next) view
      (more (subst (λ (b : SeenDesks D). Searches medium b.desks b.lent.end b.lent.active n search) (sym view) told))
    where
      more : Searches medium inside.desks inside.lent.end inside.lent.active n search
          → Searches medium inside.desks inside.lent.end inside.lent.active (n + 1) next
      more t = record {
        spaces = t.spaces ++ space ∷ [];
        count = length-append t.spaces (space ∷ []) ∙ ap (λ k. k + 1) t.count;
        tell = λ place d s there is. go place d s there (get-joined t.spaces space s place is);
        is = step t.spaces (sym t.count) t.is;
      }
        where
          go : (place : ℕ) (d : SeenDesk D) (s : Space) → slice_get inside.desks place ≡ Some d
              → ((place < length t.spaces) × (slice_get t.spaces place ≡ Some s)) ⊎ ((place ≡ length t.spaces) × (s ≡ space))
              → TellsRoom medium d s
          go place d s there (inl both) = t.tell place d s there both.1
          go place d s there (inr both) =
              let here : place ≡ n = both.0 ∙ t.count in
              let same : desk ≡ d = some-same desk d (sym at ∙ (ap (λ k. slice_get inside.desks k) (sym here) ∙ there)) in
              subst (λ x. TellsRoom medium x s) same (subst (λ x. TellsRoom medium desk x) (sym both.1) tells)

  -- all have told
  pub search-ends : (inside now : SeenDesks D) (n : ℕ) (search : Search) (next : Option ℕ) → inside ≡ now
      → n ≡ length inside.desks → Searches medium now.desks now.lent.end now.lent.active n search
      → ((spaces : List Space) → IsSearch inside.lent.end inside.lent.active spaces search → TakesNext inside.lent.end inside.lent.active spaces next)
      → Chooses medium now.desks now.lent.end now.lent.active next
  search-ends inside now n search next view all told then =
      subst (λ (b : SeenDesks D). Chooses medium b.desks b.lent.end b.lent.active next) view
      (ends (subst (λ (b : SeenDesks D). Searches medium b.desks b.lent.end b.lent.active n search) (sym view) told))
    where
      ends : Searches medium inside.desks inside.lent.end inside.lent.active n search → Chooses medium inside.desks inside.lent.end inside.lent.active next
      ends t = record {
        spaces = t.spaces;
        tell = record { all = t.count ∙ all; tells = t.tell };
        is = then t.spaces t.is;
      }

  -- nothing but the place of the active desk changes
  pub turned-same : (old new : SeenDesks D) (place : ℕ) → new ≡ turned place old → new ≡ turned new.lent.active old
  turned-same old new place is =
      is ∙ ap (λ (a : ℕ). turned a old) (sym (ap (λ (b : SeenDesks D). b.lent.active) is))

  pub locked-all : (desks : List (SeenDesk D)) (end active : ℕ) (next : Option ℕ) → next ≡ None
      → Chooses medium desks end active next
      → IsSoAt active desks IsBetween → AllLocked medium desks active
  locked-all desks end active next is chosen between =
      let none = subst (Chooses medium desks end active) is chosen in
      record { between = between; spaces = none.spaces; tell = none.tell; full = all-full end active none.spaces none.is }

  -- the active desk isn't between two blocks
  pub begins-not : (seen : SeenDesks D) (b : Bool)
      → IsSoAt seen.lent.active seen.desks (λ d. (b ≡ true) ↔ IsBetween d) → b ≡ false
      → IsSoAt seen.lent.active seen.desks (MayBegin medium)
  begins-not seen b said is =
      let both = same-desk (λ d. (b ≡ true) ↔ IsBetween d) seen.desks seen.lent.active said.0 said.1 said in
      (said.0, said.1, λ between. absurd (let e : true ≡ false = sym (both.1 between) ∙ is in cc))

  -- or its store has room
  pub begins-with : (inside now : SeenDesks D) (desk : SeenDesk D) (space : Space) (full : Bool) → inside ≡ now
      → slice_get inside.desks inside.lent.active ≡ Some desk → TellsRoom medium desk space → ((full ≡ true) ↔ IsFull space)
      → full ≡ false → IsSoAt now.lent.active now.desks (MayBegin medium)
  begins-with inside now desk space full view at tells said is =
      subst (λ (b : SeenDesks D). IsSoAt b.lent.active b.desks (MayBegin medium)) view
      (desk, at, λ between. (space, tells, λ f. absurd (let e : true ≡ false = sym (said.1 f) ∙ is in cc)))

module _ {D : Type 0} (d : SeenDesk D) (pending room slots : ℕ) (waits : pending ≡ length d.pending)
    (takes : room ≡ d.store.geometry.slots - d.store.next % d.store.geometry.slots) (all : slots ≡ d.store.geometry.slots)
  where
    -- nothing waits, and the block takes as many as there are slots
    pub between-then : pending ≡ 0 → ((room == slots) ≡ true) ↔ IsBetween d
    between-then none = (
      λ e. (nil_from_length d.pending (sym waits ∙ none), sym takes ∙ (eqb-true room slots e ∙ all)),
      λ between. eq-eqb room slots (takes ∙ (between.1 ∙ sym all)),
    )

    -- some wait
    pub between-else : (pending ≡ 0 → ⊥) → ((pending == 0) ≡ true) ↔ IsBetween d
    between-else some = (λ e. absurd (some (eqb-true pending 0 e)), λ between. absurd (some (waits ∙ ap length between.0)))

pub not-true : (b : Bool) → not b ≡ true → b ≡ false
not-true true e = absurd (cc)
not-true false e = refl

module _ {D : Type 0} (desks : List (SeenDesk D)) (active : ℕ) (b : Bool)
    (said : IsSoAt active desks (λ d. (b ≡ true) ↔ IsBetween d)) where
  pub is-between : b ≡ true → IsSoAt active desks IsBetween
  is-between is =
      let both = same-desk (λ d. (b ≡ true) ↔ IsBetween d) desks active said.0 said.1 said in
      (said.0, said.1, both.0 is)

-- the active desk is between two blocks, or it isn't
pub between-or-not : {D : Type 0} (desks : List (SeenDesk D)) (active : ℕ) → active < length desks
    → IsSoAt active desks IsBetween ⊎ (IsSoAt active desks IsBetween → ⊥)
between-or-not {D} desks active less = go there.0.pending refl (left there.0 == there.0.store.geometry.slots) refl
  where
    there : (x : SeenDesk D) × (slice_get desks active ≡ Some x) × (slice_set desks active x ≡ desks)
    there = some-there desks active less

    left : SeenDesk D → ℕ
    left d = d.store.geometry.slots - d.store.next % d.store.geometry.slots

    go : (waits : List Picture) → there.0.pending ≡ waits → (b : Bool)
        → (left there.0 == there.0.store.geometry.slots) ≡ b
        → IsSoAt active desks IsBetween ⊎ (IsSoAt active desks IsBetween → ⊥)
    go [] none true is = inl (there.0, there.1, (none, eqb-true (left there.0) there.0.store.geometry.slots is))
    go [] none false is =
        inr (λ so. eqb-false (left there.0) there.0.store.geometry.slots is (same-desk IsBetween desks active there.0 there.1 so).1)
    go (p ∷ ps) some b is = inr (λ so.
        let both = same-desk IsBetween desks active there.0 there.1 so in
        absurd (let e : p ∷ ps ≡ [] = sym some ∙ both.0 in cc))
