-- A back turns, and brings a frame to the desk that takes it.
use Rattle.std.proofs.Common.{◌≡◌, ◌<◌, ◌≤◌, ◌⊎◌, inl, inr, Bool, false, length, slice_set, sym, ap, ◌∙◌, subst}
use Rattle.loop_disk.specs.Medium.{Medium}
use Rattle.loop_desk.specs.Seen.{SeenDesk}
use Rattle.loop_pipeline.specs.Backs.{IsChangedAt, IsSoAt, SeenBack}
use Rattle.loop_pipeline.specs.DeskEvents.{IsTurnedFor, TakesFrame, desks_now}
use Rattle.loop_pipeline.specs.Turns.{IsBetween, TurnsTo}
use Rattle.loop_pipeline.proofs.Happening.{turns-still}
use Rattle.loop_pipeline.proofs.Turning.{between-or-not}

-- one of several desks, after a turn
module _ {D A : Type 0} (medium : D → Medium) (old new : SeenBack D A) (locked : Bool)
    (turns : IsSoAt old.active old.desks IsBetween → TurnsTo medium old.desks old.end old.active new.active locked)
    (stays : (IsSoAt old.active old.desks IsBetween → ⊥) → (new ≡ old) × (locked ≡ false)) where
  pub turned-for : 2 ≤ length old.desks → IsTurnedFor medium old new.active
  turned-for several = record {
    turns = λ _ between. (locked, turns between);
    stays = λ never. ap (λ (b : SeenBack D A). b.active) (stays (λ between. never (several, between))).0;
  }

  pub takes-then : new ≡ record old { active = new.active } → old.active < length old.desks
      → TakesFrame medium (desks_now new)
  takes-then same inside between = go (between-or-not old.desks old.active inside)
    where
      go : IsSoAt old.active old.desks IsBetween ⊎ (IsSoAt old.active old.desks IsBetween → ⊥)
          → (again : Bool) × TurnsTo medium new.desks new.end new.active new.active again
      go (inl was) =
          let still = turns-still medium old.desks old.end old.active new.active locked (turns was) in (
            still.0,
            subst (λ (b : SeenBack D A). TurnsTo medium b.desks b.end new.active new.active still.0) (sym same) still.1,
          )
      go (inr never) =
          absurd (never (subst (λ (b : SeenBack D A). IsSoAt b.active b.desks IsBetween) (stays never).0 between))

-- a frame, after a turn
module _ {D A : Type 0} (old mid new : SeenBack D A) (same : mid ≡ record old { active = mid.active })
    (goes : IsChangedAt mid.active mid (record new { end = mid.end })) where
  -- the active one stays
  still-active : mid.active ≡ new.active
  still-active = ap (λ (b : SeenBack D A). b.active) (sym goes.1)

  pub brought-then : IsChangedAt new.active old (record new { active = old.active; end = old.end })
  brought-then = (
    goes.0,
    ap (λ (b : SeenBack D A). record b { active = old.active; end = old.end }) goes.1
        ∙ (ap (λ (b : SeenBack D A). record b {
          desks = slice_set b.desks mid.active goes.0;
          active = old.active;
          end = old.end;
        }) same
        ∙ ap (λ n. record old { desks = slice_set old.desks n goes.0 }) still-active),
  )

  pub as-many-there : 2 ≤ length old.desks → 2 ≤ length mid.desks
  as-many-there several = subst (λ (b : SeenBack D A). 2 ≤ length b.desks) (sym same) several

  pub so-after : (P : SeenDesk D → Type 0) → IsSoAt mid.active new.desks P → IsSoAt new.active new.desks P
  so-after P is = subst (λ n. IsSoAt n new.desks P) still-active is

  pub so-before : (P : SeenDesk D → Type 0) → IsSoAt mid.active mid.desks P → IsSoAt new.active old.desks P
  so-before P is =
      subst (λ n. IsSoAt n old.desks P) still-active
      (subst (λ (b : SeenBack D A). IsSoAt mid.active b.desks P) same is)
