-- A lane that has run through events.
use Rattle.std.proofs.Common.{◌≡◌, suc, List, [], ◌∷◌, ◌++◌, length, map, refl, sym, ap, ◌∙◌, subst, arith, append_assoc}
use Rattle.std.proofs.lemmas.List.{append-nil}
use Rattle.std.specs.List.{zip}
use Rattle.loop_plane.specs.Plane.{Plane}
use Rattle.loop_disk.specs.Medium.{Medium, IsSound}
use Rattle.loop_record.specs.Turns.{Machine, Plays, after_all, told_in}
use Rattle.loop_record.proofs.TurnRuns.{plays-joined, plays-none, told-behind}
use Rattle.loop_store.specs.Reopen.{TellsOne}
use Rattle.loop_lane.specs.declared.event.LaneEvent.{LaneEvent}
use Rattle.loop_lane.specs.declared.event.LaneReply.{LaneReply}
use Rattle.loop_lane.specs.declared.lane.Lane.{Lane}
use Rattle.loop_desk.specs.Desk.{DeskCall}
use Rattle.loop_desk.specs.Front.{Front}
use Rattle.loop_lane.specs.Lane.{AreCallsOf, AreShownBy, IsLaneTurn, LaneRan, StandsLane, calls_of_turn, lane_after, turn_at}
use Rattle.loop_desk.proofs.CallRuns.{desk-joined, desk-none}

-- the lane's front as a machine
abbrev pub lane_machine : {P A : Type 0} → (P → Plane) → Machine Front (LaneEvent P A × LaneReply P A)
lane_machine meaning = record { after = lane_after meaning; May = IsLaneTurn meaning }

module _ {P A : Type 0} where
  -- the desk's calls of an event and its reply
  abbrev pub calls_at : Front → LaneEvent P A × LaneReply P A → List DeskCall
  calls_at f x = calls_of_turn f.hand (turn_at f x)

  -- as many replies as events
  pub same-count : (es : List (LaneEvent P A)) (ps : List (LaneReply P A)) (calls : List DeskCall)
      → AreShownBy es ps calls → length ps ≡ length es
  same-count [] [] calls shown = refl
  same-count [] (p ∷ ps) calls shown = absurd shown
  same-count (e ∷ es) [] calls shown = absurd shown
  same-count (e ∷ es) (p ∷ ps) calls shown = ap suc (same-count es ps shown.1.0 shown.1.1.1.1)

  zip-behind : (es fs : List (LaneEvent P A)) (ps qs : List (LaneReply P A)) → length ps ≡ length es
      → zip (es ++ fs) (ps ++ qs) ≡ zip es ps ++ zip fs qs
  zip-behind [] fs [] qs same = refl
  zip-behind [] fs (p ∷ ps) qs same = absurd (omega (arith, same))
  zip-behind (e ∷ es) fs [] qs same = absurd (omega (arith, same))
  zip-behind (e ∷ es) fs (p ∷ ps) qs same = ap (λ l. (e, p) ∷ l) (zip-behind es fs ps qs (omega (arith, same)))

  -- what is shown by both lists
  shown-behind : (es fs : List (LaneEvent P A)) (ps qs : List (LaneReply P A)) (xs ys : List DeskCall)
      → AreShownBy es ps xs → AreShownBy fs qs ys → AreShownBy (es ++ fs) (ps ++ qs) (xs ++ ys)
  shown-behind [] fs [] qs xs ys first second = subst (λ (l : List DeskCall). AreShownBy fs qs (l ++ ys)) (sym first) second
  shown-behind [] fs (p ∷ ps) qs xs ys first second = absurd first
  shown-behind (e ∷ es) fs [] qs xs ys first second = absurd first
  shown-behind (e ∷ es) fs (p ∷ ps) qs xs ys first second =
      let here = first.0 in
      let rest = first.1.0 in
      (here, (rest ++ ys, (ap (λ l. l ++ ys) first.1.1.0 ∙ append_assoc here rest ys, (first.1.1.1.0, shown-behind es fs ps qs rest ys first.1.1.1.1 second))))

  -- one event and its reply
  pub shown-one : (e : LaneEvent P A) (p : LaneReply P A) (calls : List DeskCall) → AreCallsOf e p calls
      → AreShownBy (e ∷ []) (p ∷ []) calls
  shown-one e p calls are = (calls, ([], (sym (append-nil calls), (are, refl))))

module _ {D P A : Type 0} (m : P → Plane) (medium : D → Medium) where
  pub ran-none : (lane : Lane D P A) → TellsOne lane.desk.store
      → ((medium lane.desk.store.disk).honest → IsSound (medium lane.desk.store.disk))
      → LaneRan m medium lane lane [] []
  ran-none lane one sound = record {
    calls = [];
    shown = refl;
    desk = desk-none medium lane.desk one sound;
    front = plays-none (lane_machine {P = P} {A = A} m) (StandsLane m lane);
    are = λ f stands. refl;
  }

  -- events, and events after them
  pub ran-joined : (old mid new : Lane D P A) (es fs : List (LaneEvent P A)) (ps qs : List (LaneReply P A))
      → LaneRan m medium old mid es ps → LaneRan m medium mid new fs qs → LaneRan m medium old new (es ++ fs) (ps ++ qs)
  ran-joined old mid new es fs ps qs first second =
      let xs = zip es ps in
      let ys = zip fs qs in
      let both : zip (es ++ fs) (ps ++ qs) ≡ xs ++ ys = zip-behind es fs ps qs (same-count es ps first.calls first.shown) in
      record {
        calls = first.calls ++ second.calls;
        shown = shown-behind es fs ps qs first.calls second.calls first.shown second.shown;
        desk = desk-joined medium old.desk mid.desk new.desk first.calls second.calls first.desk second.desk;
        front = subst (λ (l : List (LaneEvent P A × LaneReply P A)). Plays (lane_machine m) (StandsLane m old)
            (StandsLane m new) l) (sym both) (plays-joined (lane_machine m) (StandsLane m old) (StandsLane m mid)
            (StandsLane m new) xs ys first.front second.front);
        are = λ (f : Front) (stands : StandsLane m old f).
            let f' = after_all (lane_after m) f xs in
            (λ i. first.are f stands i ++ second.are f' (first.front f stands).1 i)
            ∙ (sym (told-behind (lane_after m) calls_at f xs ys) ∙ ap (told_in (lane_after m) calls_at f)
            (sym both));
      }

same-items : {X : Type 0} (xs : List X) → map (λ x. x) xs ≡ xs
same-items [] = refl
same-items (x ∷ xs) = ap (λ l. x ∷ l) (same-items xs)

-- the items of a loop over all of them
pub all-items : {X : Type 0} (xs ys : List X) → map (λ x. x) xs ≡ ys → xs ≡ ys
all-items xs ys all = sym (same-items xs) ∙ all
