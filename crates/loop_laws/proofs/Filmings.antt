-- A filming chooses by the rule of the long ring.
use Rattle.std.proofs.Common.{◌≡◌, ℕ, Option, Some, None, List, sym, ◌∙◌, subst}
use Rattle.loop_disk.specs.Medium.{Medium}
use Rattle.loop_record.specs.Recording.{Recording, Ring}
use Rattle.loop_desk.specs.declared.limits.Space.{Space}
use Rattle.loop_desk.specs.Seen.{SeenDesk}
use Rattle.loop_desk.specs.Space.{TellsSpace}
use Rattle.loop_pipeline.specs.Nexts.{TakesNext}
use Rattle.loop_pipeline.specs.Turns.{Chooses, TellEach, turned_by}
use Rattle.loop_laws.specs.Filmings.{FrameIsChoice, StandEach, TurnIsChoice}
use Rattle.loop_laws.specs.Stores.{EachTells, TakesBlock}

module _ {D : Type 0} (medium : D → Medium) (ring : Ring) (keep : ℕ) (desks : List (SeenDesk D))
    (recordings : List Recording) (each : StandEach medium ring keep desks recordings) (end active : ℕ) where
  -- what the desks tell is told of their recordings
  each-tells : (spaces : List Space) → TellEach medium desks spaces → EachTells ring keep recordings spaces
  each-tells spaces tell = record {
    all = tell.all ∙ sym each.all;
    tells = λ at r s here told.
        let found = each.stand at r here in
        subst (λ k. TellsSpace ring k r s) found.2.same_keep
        (subst (λ g. TellsSpace g found.0.store.keep r s) found.2.same_ring
        (tell.tells at found.0 s found.1 told r found.2.stands));
  }

  -- and what is chosen of them is chosen of those
  pub is-choice : (place : ℕ) → Chooses medium desks end active (Some place)
      → TakesBlock ring keep (record { recordings = recordings; active = active; end = end }) place
  is-choice place chosen = record { spaces = chosen.spaces; tell = each-tells chosen.spaces chosen.tell; is = chosen.is }

  pub stays-by-choice : (next : Option ℕ) → Chooses medium desks end active next → active ≡ turned_by next active
      → ((spaces : List Space) → EachTells ring keep recordings spaces → TakesNext end active spaces None → ⊥)
      → TakesBlock ring keep (record { recordings = recordings; active = active; end = end }) active
  stays-by-choice (Some place) chosen stays any =
      subst (λ p. TakesBlock ring keep (record { recordings = recordings; active = active; end = end }) p) (sym stays)
      (is-choice place chosen)
  stays-by-choice None chosen stays any = absurd (any chosen.spaces (each-tells chosen.spaces chosen.tell) chosen.is)

pub turn-is-choice : {D : Type 0} (medium : D → Medium) → TurnIsChoice medium
turn-is-choice medium ring keep place recordings old new each turns =
    is-choice medium ring keep old.desks recordings each old.end old.active place turns.chosen

pub frame-is-choice : {D : Type 0} (medium : D → Medium) → FrameIsChoice medium
frame-is-choice medium ring keep recordings now each takes between any =
    let turns = takes between in
    stays-by-choice medium ring keep now.desks recordings each now.end now.active turns.1.next turns.1.chosen
    turns.1.turns any
