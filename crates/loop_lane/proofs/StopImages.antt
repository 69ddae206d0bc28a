-- What a power loss left is opened as a recording after a prefix of the steps.
use Rattle.std.proofs.Common.{◌≡◌, ℕ, false, List, ◌++◌, take, ap, subst}
use Rattle.loop_disk.specs.Medium.{Medium}
use Rattle.loop_plane.specs.Plane.{Plane}
use Rattle.loop_record.specs.declared.geometry.Geometry.{Geometry}
use Rattle.loop_record.specs.Reading.{Holds}
use Rattle.loop_record.specs.Recording.{Recording, plain, ring_of}
use Rattle.loop_store.specs.declared.fault.StoreFault.{StoreFault}
use Rattle.loop_store.specs.Calls.{StoreState}
use Rattle.loop_store.specs.Goes.{Stands}
use Rattle.loop_store.specs.Reopen.{IsOpened, IsRefusedOpen}
use Rattle.loop_store.specs.Seen.{Seen, StandsFor}
use Rattle.loop_store.proofs.Openings.{newest-kept}
use Rattle.loop_lane.specs.declared.event.LaneEvent.{LaneEvent}
use Rattle.loop_lane.specs.declared.event.LaneReply.{LaneReply}
use Rattle.loop_lane.specs.declared.lane.Lane.{Lane}
use Rattle.loop_desk.specs.Footage.{HoldsWhole, steps_begun, steps_made}
use Rattle.loop_lane.specs.Lane.{LaneKeeps}
use Rattle.loop_lane.proofs.RecordTexts.{one-reading}
use Rattle.loop_lane.specs.declared.text.TextFault.TheVariants as fault
use Rattle.loop_lane.specs.Refused.{IsForWant}
use Rattle.loop_lane.specs.Reopened.{IsLeftBehind, Reopens}

-- an image that reads as a recording is refused for want of memory or by the disk alone
pub want : (why : StoreFault) (g : Geometry) (image : List ℕ) {r : Recording} → Holds g r image
    → IsRefusedOpen 1 image why → IsForWant (fault.Open why)
want StoreFault.NoMemory g image held refused = tt
want (StoreFault.Disk failed) g image held refused = tt
want StoreFault.NotFormatted g image held refused = absurd cc
want (StoreFault.Damaged damage) g image held refused = absurd cc
want StoreFault.BadKeep g image held refused = absurd (newest-kept image refused)
want _ g image held refused = absurd refused

module _ {D E P A : Type 0} (meaning : P → Plane) (medium : D → Medium) (other : E → Medium) (old new : Lane D P A)
    (events : List (LaneEvent P A)) (replies : List (LaneReply P A)) (s : StoreState) (left : E) where
  -- what was left holds a prefix of the steps, each clip whole
  left-whole : (keeps : LaneKeeps meaning medium old new events replies) → Stands medium old.desk.store s
      → s.must_reopen ≡ false
      → IsLeftBehind medium other old.desk new.desk left
      → HoldsWhole old.desk.store.geometry s.recording (steps_made old.desk s keeps.ran.calls ++ steps_begun old.desk s keeps.ran.calls) (other left).bytes
  left-whole keeps stands fine is = ((keeps.footage s stands is.honest).moments fine).each _ is.since

  pub reopened : (keeps : LaneKeeps meaning medium old new events replies) (store : Seen E)
      → Stands medium old.desk.store s → s.must_reopen ≡ false
      → IsLeftBehind medium other old.desk new.desk left → IsOpened other (other left).bytes store
      → Reopens meaning medium other old new events replies (other left).bytes s store
  reopened keeps store stands fine is found =
      let whole = left-whole keeps stands fine is in
      let g = old.desk.store.geometry in
      let after = plain (ring_of g) s.recording (take whole.held.count (steps_made old.desk s keeps.ran.calls ++ steps_begun old.desk s keeps.ran.calls)) in
      let one = one-reading store.geometry g found.recording after (other left).bytes found.held whole.held.held in
      record {
        ran = keeps.ran;
        left = whole;
        geometry = ap (λ c. c.geometry) one;
        stands = subst (λ (r : Recording). StandsFor other store r) (ap (λ c. c.recording) one) found.stands;
        over = λ may.
            let all = (keeps.footage s stands is.honest).now fine (other left).bytes may in
            let last = plain (ring_of g) s.recording (take all.count (steps_made old.desk s keeps.ran.calls ++ steps_begun old.desk s keeps.ran.calls)) in
            let same = one-reading store.geometry g found.recording last (other left).bytes found.held all.held in
            (all, subst (λ (r : Recording). StandsFor other store r) (ap (λ c. c.recording) same) found.stands);
      }

  pub for-want : (keeps : LaneKeeps meaning medium old new events replies) (why : StoreFault)
      → Stands medium old.desk.store s → s.must_reopen ≡ false
      → IsLeftBehind medium other old.desk new.desk left → IsRefusedOpen 1 (other left).bytes why → IsForWant (fault.Open why)
  for-want keeps why stands fine is refused =
      want why old.desk.store.geometry (other left).bytes (left-whole keeps stands fine is).held.held refused
