-- Frames keep their order on their way from the queue to the desk, and what else a run keeps.
use Rattle.std.proofs.Common.{◌≡◌, ℕ, Result, Ok, Err, List, [], ◌∷◌, ◌++◌, refl, sym, ap, ◌∙◌, append_assoc}
use Rattle.std.proofs.lemmas.Grind.{flat_map-append}
use Rattle.std.proofs.lemmas.List.{append-nil}
use Rattle.std.specs.List.{zip}
use Rattle.loop_plane.specs.Plane.{Plane}
use Rattle.loop_disk.specs.Medium.{Medium}
use Rattle.loop_record.specs.Recording.{Picture}
use Rattle.loop_record.specs.Turns.{EachIn, after_all, told_in}
use Rattle.loop_store.specs.declared.fault.StoreFault.{StoreFault}
use Rattle.loop_ioctl.specs.Calls.{IoctlState}
use Rattle.loop_lane.specs.declared.event.LaneEvent.{LaneEvent}
use Rattle.loop_lane.specs.declared.event.LaneReply.{LaneReply}
use Rattle.loop_lane.specs.declared.lane.Lane.{Lane}
use Rattle.loop_desk.specs.declared.hand.LaneFault.{LaneFault}
use Rattle.loop_desk.specs.Desk.{DeskCall, frame_accepted, accepted_in}
use Rattle.loop_desk.specs.Front.{Front, HandState, IsDequeue, IsRequeue, IsSubmit, dequeued, empty, front_after, full, offered, hand_frame, hand_given, hand_state, on_queue, requeued, spent}
use Rattle.loop_lane.specs.Lane.{IsAtFront, IsLaneTurn, LaneKeeps, LaneRan, LaneTurn, StandsLane, after_turn, at_desk, at_front, calls_of_turn, frame_of_turn, frames_taken, lane_after, mixed, submit_calls, turn_at}
use Rattle.loop_desk.proofs.FootageRuns.{keeps-footage}
use Rattle.loop_lane.proofs.QueueTurns.{dequeues}
use Rattle.loop_lane.proofs.LaneRuns.{calls_at}
use Rattle.loop_lane.proofs.LaneFrames.{completes}

submit-frames : (h : HandState) (result : Result ℕ StoreFault) → IsSubmit h result
    → accepted_in (submit_calls h result) ++ hand_frame (hand_given h result) ≡ hand_frame h ++ []
submit-frames empty result said = refl
submit-frames (full i p planes) (Ok number) said = refl
submit-frames (full i p planes) (Err fault) said = refl
submit-frames (spent i planes) result said = refl

requeue-frames : (j : IoctlState) (h : HandState) (index : ℕ) → IsRequeue j h (Ok index) → [] ≡ hand_frame h ++ []
requeue-frames j empty index said = refl
requeue-frames j (full i p planes) index said = absurd (cc)
requeue-frames j (spent i planes) index said = refl

desk-frames : (h : List Picture) (c : DeskCall) → frame_accepted c ≡ [] → accepted_in (c ∷ []) ++ h ≡ h ++ []
desk-frames h c is = ap (λ (l : List Picture). (l ++ []) ++ h) is ∙ sym (append-nil h)

dequeue-frames : {P : Type 0} (A : Type 0) (m : P → Plane) (j : IoctlState) (h : HandState)
    (result : Result ℕ LaneFault) → IsDequeue j h result
    → hand_frame (front_after {P = P} {A = A} m (record { queue = j; hand = h }) (dequeued result)).hand ≡ hand_frame
    h ++ frame_of_turn {P = P} {A = A} m (record { queue = j; hand = h }) (at_front (dequeued result))
dequeue-frames A m j empty (Ok index) said = refl
dequeue-frames A m j (full i p planes) (Ok index) said = absurd (cc)
dequeue-frames A m j (spent i planes) (Ok index) said = absurd (cc)
dequeue-frames A m j h (Err fault) said = sym (append-nil (hand_frame h))

module _ {P A : Type 0} (m : P → Plane) where
  pub turn-frames : (f : Front) (t : LaneTurn P A) → IsAtFront m f t → accepted_in (calls_of_turn f.hand t)
      ++ hand_frame (after_turn m f t).hand ≡ hand_frame f.hand ++ frame_of_turn m f t
  turn-frames f (at_front (on_queue e (Ok r))) said = sym (append-nil (hand_frame f.hand))
  turn-frames f (at_front (on_queue e (Err fault))) said = sym (append-nil (hand_frame f.hand))
  turn-frames f (at_front (dequeued result)) said = dequeue-frames A m f.queue f.hand result said
  turn-frames f (at_front (offered result)) said = submit-frames f.hand result said
  turn-frames f (at_front (requeued (Ok index))) said = requeue-frames f.queue f.hand index said
  turn-frames f (at_front (requeued (Err fault))) said = sym (append-nil (hand_frame f.hand))
  turn-frames f (at_desk c) said = desk-frames (hand_frame f.hand) c said
  turn-frames f mixed said = absurd said

  -- what the desk accepted, and then what the hand has, is what the hand had, and then what was taken from the queue
  pub along : (f : Front) (xs : List (LaneEvent P A × LaneReply P A)) → EachIn (lane_after m) (IsLaneTurn m) f xs
      → accepted_in (told_in (lane_after m) calls_at f xs)
      ++ hand_frame (after_all (lane_after m) f xs).hand ≡ hand_frame f.hand ++ frames_taken m f xs
  along f [] said = sym (append-nil (hand_frame f.hand))
  along f (x ∷ xs) said =
      let next = lane_after m f x in
      let rest = along next xs said.1 in
      let one = turn-frames f (turn_at f x) said.0 in
      let last = hand_frame (after_all (lane_after m) next xs).hand in
      (λ i. flat_map-append frame_accepted (calls_at f x) (told_in (lane_after m) calls_at next xs) i ++ last)
      ∙ append_assoc (accepted_in (calls_at f x)) (accepted_in (told_in (lane_after m) calls_at next xs)) last
      ∙ (λ i. accepted_in (calls_at f x) ++ rest i) ∙ sym (append_assoc (accepted_in (calls_at f x)) (hand_frame next.hand) (frames_taken m next xs))
      ∙ (λ i. one i ++ frames_taken m next xs) ∙ append_assoc (hand_frame f.hand) (frame_of_turn m f (turn_at f x)) (frames_taken m next xs)

module _ {D P A : Type 0} (m : P → Plane) (medium : D → Medium) where
  pub in-order : (old new : Lane D P A) (es : List (LaneEvent P A)) (ps : List (LaneReply P A))
      (run : LaneRan m medium old new es ps) (f : Front) → StandsLane m old f
      → accepted_in run.calls ++ hand_frame (hand_state m new.hand) ≡ hand_frame (hand_state m old.hand) ++ frames_taken m f (zip es ps)
  in-order old new es ps run f stands =
      let ran = run.front f stands in
      let was = stands.hand in
      let is = ran.1.hand in
      (λ i. accepted_in (run.are f stands i) ++ hand_frame (is i)) ∙ along m f (zip es ps) ran.0
      ∙ ap (λ (h : HandState). hand_frame h ++ frames_taken m f (zip es ps)) (sym was)

  -- what a run keeps
  pub keeps : (old new : Lane D P A) (es : List (LaneEvent P A)) (ps : List (LaneReply P A))
      → LaneRan m medium old new es ps → LaneKeeps m medium old new es ps
  keeps old new es ps run = record {
    ran = run;
    footage = λ s stands now. keeps-footage medium old.desk new.desk run.calls s run.desk stands now;
    in_order = in-order old new es ps run;
    dequeues = dequeues m medium old new es ps run;
    completes = completes m medium old new es ps run;
  }
