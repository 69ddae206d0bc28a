-- Calls of a desk, one after the other.
use Rattle.std.proofs.Common.{◌≡◌, List, [], ◌∷◌, ◌++◌, refl, sym, ◌∙◌, subst}
use Rattle.loop_disk.specs.Medium.{Medium, IsSound}
use Rattle.loop_record.specs.Turns.{Plays}
use Rattle.loop_record.proofs.TurnRuns.{plays-joined, plays-none, told-behind}
use Rattle.loop_store.specs.Calls.{Call}
use Rattle.loop_store.specs.Goes.{Goes}
use Rattle.loop_store.specs.Reopen.{TellsOne}
use Rattle.loop_store.proofs.CallRuns.{goes-joined, goes-none}
use Rattle.loop_desk.specs.Desk.{DeskCall, DeskState, IsDeskTold, Rules, desk_after, desk_after_calls, store_calls, store_calls_in}
use Rattle.loop_desk.specs.Seen.{DeskGoes, SeenDesk, TellsDesk, rules_of}
use Rattle.loop_desk.proofs.Short.{desk_model}

-- the state of a desk whose answers fit a recording
abbrev pub state-of : {D : Type 0} (d : SeenDesk D) → TellsOne d.store → DeskState
state-of d one =
    record {
      store = record {
        recording = one.0;
        version = d.store.version;
        keep = d.store.keep;
        must_reopen = d.store.must_reopen;
      };
      pending = d.pending;
    }

pub state-told : {D : Type 0} (d : SeenDesk D) (one : TellsOne d.store) → TellsDesk d (state-of d one)
state-told d one = record { store = record { recording = one.1; version = refl; keep = refl; must_reopen = refl }; pending = refl }

module _ {D : Type 0} (medium : D → Medium) where
  -- the calls of its store
  pub store-goes : (old new : SeenDesk D) (calls : List DeskCall) (goes : DeskGoes medium old new calls)
      → Goes medium old.store new.store (store_calls_in (rules_of old) (state-of old goes.one) calls)
  store-goes old new calls goes = goes.store (state-of old goes.one) (state-told old goes.one)

  -- the state that the new desk's answers fit
  pub told-then : (old new : SeenDesk D) (calls : List DeskCall) (goes : DeskGoes medium old new calls)
      → TellsDesk new (desk_after_calls (rules_of old) (state-of old goes.one) calls)
  told-then old new calls goes = (goes.plays (state-of old goes.one) (state-told old goes.one)).1

  -- what one call was answered
  pub told-one : (old new : SeenDesk D) (c : DeskCall) (goes : DeskGoes medium old new (c ∷ []))
      → IsDeskTold (rules_of old) (state-of old goes.one) c
  told-one old new c goes = (goes.plays (state-of old goes.one) (state-told old goes.one)).0.0

  pub one-then : (old new : SeenDesk D) (calls : List DeskCall) → DeskGoes medium old new calls → TellsOne new.store
  one-then old new calls goes = (_, (told-then old new calls goes).store.recording)

  pub rules-now : (old new : SeenDesk D) (calls : List DeskCall) → DeskGoes medium old new calls
      → rules_of new ≡ rules_of old
  rules-now old new calls goes = let same = (store-goes old new calls goes).geometry in λ i. record { geometry = same i; limits = goes.limits i }

  -- no call
  pub desk-none : (desk : SeenDesk D) → TellsOne desk.store
      → ((medium desk.store.disk).honest → IsSound (medium desk.store.disk)) → DeskGoes medium desk desk []
  desk-none desk one sound = record {
    one = one;
    store = λ s told. goes-none medium desk.store one sound;
    plays =
        plays-none (desk_model (rules_of desk)) (TellsDesk desk);
    limits = refl;
  }

  -- calls, and calls after them
  pub desk-joined : (old mid new : SeenDesk D) (xs ys : List DeskCall) → DeskGoes medium old mid xs
      → DeskGoes medium mid new ys → DeskGoes medium old new (xs ++ ys)
  desk-joined old mid new xs ys first second =
      let k = rules_of old in
      let same = rules-now old mid xs first in record {
        one = first.one;
        store = λ s told.
            let t = desk_after_calls k s xs in
            subst (λ (l : List Call). Goes medium old.store new.store l) (sym (told-behind (desk_after k) (store_calls k) s xs ys))
            (goes-joined medium old.store mid.store new.store (store_calls_in k s xs) (store_calls_in k t ys) (first.store s told)
            (subst (λ (x : Rules). Goes medium mid.store new.store (store_calls_in x t ys)) same (second.store t (first.plays s told).1)));
        plays = plays-joined (desk_model k) (TellsDesk old) (TellsDesk mid) (TellsDesk new) xs ys first.plays
            (subst (λ (x : Rules). Plays (desk_model x) (TellsDesk mid) (TellsDesk new) ys) same second.plays);
        limits = second.limits ∙ first.limits;
      }
