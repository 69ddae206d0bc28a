-- What is found on a disk after a power loss in a run of a lane.
use Rattle.std.specs.Prelude.{◌≡◌, ℕ, Result, Ok, Err, List, Vec, ◌++◌, length, take}
use Rattle.loop_disk.specs.Medium.{Medium}
use Rattle.loop_plane.specs.Plane.{Plane}
use Rattle.loop_record.specs.Recording.{plain, ring_of}
use Rattle.loop_store.specs.Calls.{StoreState}
use Rattle.loop_store.specs.Seen.{Seen, StandsFor}
use Rattle.loop_store.specs.Steps.{HoldsFrom}
use Rattle.loop_lane.specs.declared.event.LaneEvent.{LaneEvent}
use Rattle.loop_lane.specs.declared.event.LaneReply.{LaneReply}
use Rattle.loop_lane.specs.declared.lane.Lane.{Lane}
use Rattle.loop_desk.specs.Footage.{HoldsWhole, steps_begun, steps_made}
use Rattle.loop_lane.specs.Lane.{LaneRan}
use Rattle.loop_desk.specs.Seen.{SeenDesk}
use Rattle.loop_lane.specs.declared.text.TextFault.{TextFault}
use Rattle.loop_lane.specs.Refused.{IsForWant}

-- The store that is opened on the image stands for the recording after a prefix of the run's steps, none skipped,
-- those that were answered first; and there each clip is whole.
pub record Reopens {D E P A : Type 0} (meaning : P → Plane) (medium : D → Medium) (other : E → Medium)
    (old new : Lane D P A) (events : List (LaneEvent P A)) (replies : List (LaneReply P A)) (image : List ℕ)
    (s : StoreState) (store : Seen E) : Type 0 where
  pub ran : LaneRan meaning medium old new events replies
  pub left : HoldsWhole old.desk.store.geometry s.recording
      (steps_made old.desk s ran.calls ++ steps_begun old.desk s ran.calls) image
  pub geometry : store.geometry ≡ old.desk.store.geometry
  pub stands : StandsFor other store (plain (ring_of old.desk.store.geometry) s.recording
      (take left.held.count (steps_made old.desk s ran.calls ++ steps_begun old.desk s ran.calls)))
  -- where the power failed once the run was over, that prefix has all that were answered
  pub over : (medium new.desk.store.disk).may_leave image
      → (all : HoldsFrom old.desk.store.geometry s.recording (length (steps_made old.desk s ran.calls))
      (steps_made old.desk s ran.calls ++ steps_begun old.desk s ran.calls) image)
      × StandsFor other store (plain (ring_of old.desk.store.geometry) s.recording
      (take all.count (steps_made old.desk s ran.calls ++ steps_begun old.desk s ran.calls)))

-- so the opening is answered
abbrev pub AnswersReopened : {D E P A : Type 0} → (P → Plane) → (D → Medium) → (E → Medium) → Lane D P A → Lane D P A
    → List (LaneEvent P A) → List ℕ → StoreState → Result (Vec (LaneReply P A) A × Seen E) TextFault → Type 0
AnswersReopened meaning medium other old new events image s (Ok reopened) =
    Reopens meaning medium other old new events reopened.0.items image s reopened.1
AnswersReopened meaning medium other old new events image s (Err fault) = IsForWant fault

-- The second disk has what a power loss may have left of the desk's at some moment since the run began; both are
-- honest.
pub record IsLeftBehind {D E : Type 0} (medium : D → Medium) (other : E → Medium) (old new : SeenDesk D) (left : E)
    : Type 0 where
  pub honest : (medium old.store.disk).honest
  pub other_honest : (other left).honest
  pub since : (medium new.store.disk).left_since (medium old.store.disk).moment (other left).bytes
