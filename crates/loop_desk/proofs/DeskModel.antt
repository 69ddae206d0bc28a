-- What calls make of a desk is what the model makes of its state.
use Rattle.std.proofs.Common.{◌≡◌, List, [], ◌∷◌, refl, sym, ◌∙◌, subst}
use Rattle.loop_disk.specs.Medium.{Medium}
use Rattle.loop_record.proofs.TurnRuns.{after-behind}
use Rattle.loop_record.specs.Recording.{ring_of}
use Rattle.loop_store.specs.Calls.{AreAnswered, IsAnswered, StoreState, after_store_call, after_calls}
use Rattle.loop_store.specs.Goes.{Stands}
use Rattle.loop_store.proofs.CheckAnswers.{are-answered-as}
use Rattle.loop_store.proofs.CallRuns.{told-of}
use Rattle.loop_desk.specs.Desk.{AreDeskAnswers, AreTold, DeskCall, DeskState, Rules, desk_after, desk_after_calls, store_calls, store_calls_in}
use Rattle.loop_desk.specs.Seen.{DeskGoes, SeenDesk, DeskStands, TellsDesk, rules_of}
use Rattle.loop_desk.proofs.Frames.{each-parts}

-- Calls whose own part is answered so, over calls of the store that were answered so, are answers of the model.
record AreModelled (k : Rules) (s : DeskState) (list : List DeskCall) : Type 0 where
  answers : AreDeskAnswers k s list
  store : (desk_after_calls k s list).store ≡ after_calls (ring_of k.geometry) s.store (store_calls_in k s list)

modelled : (k : Rules) (s : DeskState) (list : List DeskCall) → AreTold k s list
    → AreAnswered (Unit {0}) (ring_of k.geometry) s.store (store_calls_in k s list) → AreModelled k s list
modelled k s [] told said = record { answers = tt; store = refl }
modelled k s (c ∷ list) told said =
    let g = k.geometry in
    let t = desk_after k s c in
    let parts = each-parts (after_store_call (ring_of g)) (IsAnswered (Unit {0}) (ring_of g)) s.store (store_calls k s c) (store_calls_in k t list) said in
    let rest = modelled k t list told.1 parts.1 in
    record {
      answers = ((told.0, parts.0), rest.answers);
      store = rest.store
          ∙ sym (after-behind (after_store_call (ring_of g)) s.store (store_calls k s c) (store_calls_in k t list));
    }

-- a desk's answers fit the state for which it stands
pub desk-told : {D : Type 0} (medium : D → Medium) (d : SeenDesk D) (s : DeskState) → DeskStands medium d s
    → TellsDesk d s
desk-told medium d s stands = record { store = told-of medium d.store s.store stands.store; pending = stands.pending }

pub answers-are : {D : Type 0} (medium : D → Medium) (old new : SeenDesk D) (list : List DeskCall) (s : DeskState)
    → DeskGoes medium old new list → DeskStands medium old s → (medium old.store.disk).honest
    → AreDeskAnswers (rules_of old) s list × DeskStands medium new (desk_after_calls (rules_of old) s list)
answers-are medium old new list s goes stands now =
    let k = rules_of old in
    let at = desk-told medium old s stands in
    let plays = goes.plays s at in
    let store = goes.store s at in
    let said = are-answered-as ((medium old.store.disk).honest × Stands medium old.store s.store)
    (Unit {0}) k.geometry s.store (store_calls_in k s list) (λ u. (now, stands.store))
    (store.answers s.store at.store) in
    let model = modelled k s list plays.0 said in (
      model.answers,
      record { store = subst (λ (t : StoreState). Stands medium new.store t) (sym model.store) (store.stands s.store stands.store); pending = plays.1.pending },
    )
