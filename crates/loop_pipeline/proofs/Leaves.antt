-- A clip is unlocked where it is the one that leave is for.
use Rattle.std.proofs.Common.{◌≡◌, ◌≢◌, ◌↔◌, ◌∙◌, ℕ, Bool, true, false, inl, inr, List, [], ◌∷◌, Option, None, Some, Result, Err, ap, refl, slice_get, slice_index_or, slice_set, subst, sym}
use Rattle.std.specs.Prelude.{⊤}
use Rattle.loop_disk.specs.Medium.{Medium}
use Rattle.loop_record.specs.declared.clip.Span.{Span}
use Rattle.loop_store.specs.declared.fault.StoreFault.{StoreFault}
use Rattle.loop_store.specs.declared.fault.StoreFault.TheVariants.{NoSuchClip}
use Rattle.loop_desk.specs.Desk.{clip_unlocked}
use Rattle.loop_desk.specs.Seen.{DeskGoes, SeenDesk}
use Rattle.loop_pipeline.specs.Backs.{GoesAt, IsSoAt}
use Rattle.loop_pipeline.specs.Desks.{UnlocksThis}
use Rattle.loop_pipeline.proofs.Places.{set-got, some-same}

module _ {D : Type 0} where
  -- of the desk at a place it is known whether its clip of an id is this one
  abbrev Knows : List (SeenDesk D) → ℕ → ℕ → Span → Bool → Type 0
  Knows desks place id clip b =
      IsSoAt place desks (λ desk. (b ≡ true) ↔ (slice_index_or desk.store.clips id None ≡ Some clip))

  -- nothing is done where it is another one
  pub unlocks-none : (medium : D → Medium) (desks : List (SeenDesk D)) (place id : ℕ) (clip : Span) (b : Bool)
      → Knows desks place id clip b → b ≡ false
      → GoesAt place desks desks (λ d e. UnlocksThis medium id clip d e (Err NoSuchClip))
  unlocks-none medium desks place id clip true known other = absurd (cc)
  unlocks-none medium desks place id clip false known other = record {
    before = known.0;
    after = known.0;
    at = known.1;
    goes = inr ((λ is. absurd (false-true (known.2.1 is))), refl, refl);
    same = sym (set-got desks place known.0 known.0 known.1 refl);
  }
    where
      false-true : false ≡ true → ⊥
      false-true e = absurd (cc)

  -- and the clip is unlocked where it is that one
  pub unlocks : (medium : D → Medium) (desks new : List (SeenDesk D)) (place id : ℕ) (clip : Span)
      (answer : Result ⊤ StoreFault) (b : Bool) → Knows desks place id clip b → b ≡ true
      → GoesAt place desks new (λ d e. DeskGoes medium d e (clip_unlocked id answer ∷ []))
      → GoesAt place desks new (λ d e. UnlocksThis medium id clip d e answer)
  unlocks medium desks new place id clip answer false known same went = absurd (cc)
  unlocks medium desks new place id clip answer true known same went = record {
    before = went.before;
    after = went.after;
    at = went.at;
    goes = inl (
      subst (λ (d : SeenDesk D). slice_index_or d.store.clips id None ≡ Some clip)
          (some-same known.0 went.before (sym known.1 ∙ went.at)) (known.2.0 refl),
      went.goes,
    );
    same = went.same;
  }
