-- What a turn of a keep locks lies within its time.
use Rattle.std.proofs.Common.{◌≡◌, ◌≤◌, ◌⊎◌, inl, inr, ℕ, true, false, List, Option, refl, sym, ap, ◌∙◌, subst, arith}
use Rattle.loop_disk.specs.Medium.{Medium}
use Rattle.loop_record.specs.declared.times.Times.{Times}
use Rattle.loop_desk.specs.Seen.{SeenDesk}
use Rattle.loop_station_core.specs.declared.keep.Keep.{Keep}
use Rattle.loop_station_core.specs.declared.keep.KeepTurn.{KeepTurn}
use Rattle.loop_station_core.specs.declared.keep.KeepTurn.TheVariants.{Part, Wait, Whole}
use Rattle.loop_station_core.specs.declared.keep.Look.{Look}
use Rattle.loop_station_core.specs.Keeps.{HasTimesOf, step_keep}
use Rattle.loop_station_core.proofs.KeepLaws.{step-times, step-within}
use Rattle.loop_station_camera.specs.declared.keeping.KeepPart.{KeepPart}
use Rattle.loop_station_camera.specs.Keeping.{GrowsByTurn, LocksFor, LocksMoreFor, LocksWithin, TakesTurn, part_of}

pub turn-within : {D : Type 0} (medium : D → Medium) (k : Keep) (active : ℕ) (old new : List (SeenDesk D))
    → TakesTurn medium k active old new
    → LocksWithin medium (record { since = k.since; until = k.until }) k.tag active old new
turn-within medium k active old new turn = go (step_keep k turn.0).1 refl turn.1
  where
    after : Keep
    after = (step_keep k turn.0).0

    same : HasTimesOf k after
    same = step-times k turn.0

    go : (t : KeepTurn) → (step_keep k turn.0).1 ≡ t → LocksFor medium active old new after (part_of after t)
        → LocksWithin medium (record { since = k.since; until = k.until }) k.tag active old new
    go Wait e so = inl so
    go (Part until) e so =
        let ends : so.0.part.until ≡ until = ap (λ (p : KeepPart). p.until) so.1.1 in
        let half : so.0.part.is_whole ≡ false = ap (λ (p : KeepPart). p.is_whole) so.1.1 in
        inr (
          so.0,
          (
            ap (λ (j : Keep). j.since) so.1.0 ∙ same.1,
            ap (λ (j : Keep). j.tag) so.1.0 ∙ same.3,
            subst (λ n. n ≤ k.until) (sym ends) (step-within k turn.0 until e),
            λ whole. absurd (cc),
          ),
          so.2,
        )
    go Whole e so =
        let ends : so.0.part.until ≡ k.until = ap (λ (p : KeepPart). p.until) so.1.1 ∙ same.2 in
        inr (
          so.0,
          (
            ap (λ (j : Keep). j.since) so.1.0 ∙ same.1,
            ap (λ (j : Keep). j.tag) so.1.0 ∙ same.3,
            omega (arith, ends),
            λ whole. ends,
          ),
          so.2,
        )

-- what the core said was done
pub turn-taken : {D : Type 0} (medium : D → Medium) (k : Keep) (active : ℕ) (old new : List (SeenDesk D))
    (said : Keep × KeepTurn) (part : Option KeepPart) → (look : Look) × (said ≡ step_keep k look)
    → part ≡ part_of said.0 said.1 → LocksFor medium active old new said.0 part → TakesTurn medium k active old new
turn-taken medium k active old new said part decided is so = (
  decided.0,
  subst (λ s. LocksFor medium active old new s.0 (part_of s.0 s.1)) decided.1
      (subst (λ p. LocksFor medium active old new said.0 p) is so),
)

pub turn-grown : {D : Type 0} (medium : D → Medium) (k : Keep) (active : ℕ) (old new : List (SeenDesk D))
    (said : Keep × KeepTurn) (part : Option KeepPart) → (look : Look) × (said ≡ step_keep k look)
    → part ≡ part_of said.0 said.1 → LocksMoreFor medium active old new said.0 part
    → GrowsByTurn medium k active old new
turn-grown medium k active old new said part decided is so = (
  decided.0,
  subst (λ s. LocksMoreFor medium active old new s.0 (part_of s.0 s.1)) decided.1
      (subst (λ p. LocksMoreFor medium active old new said.0 p) is so),
)
