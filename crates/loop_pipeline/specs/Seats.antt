-- A seat: what its calls make of its desk, and what is kept where they are noted.
use Rattle.std.specs.Prelude.{◌≡◌, ◌<◌, ℕ, Bool, true, false, Option, Some, None, Result, [], ◌∷◌, ◌++◌, length, vec_len}
use Rattle.std.specs.Vec.{vec_capacity}
use Rattle.rtrb.specs.declared.consumer.Consumer.{Consumer}
use Rattle.rtrb.specs.declared.AnyItems.{AnyItems}
use Rattle.rtrb.specs.Ring.{SameConsumer, received}
use Rattle.loop_disk.specs.Medium.{Medium}
use Rattle.loop_record.specs.declared.frame.Frame.{Frame}
use Rattle.loop_record.specs.Recording.{picture}
use Rattle.loop_store.specs.declared.fault.StoreFault.{StoreFault}
use Rattle.loop_desk.specs.Bare.{bare_call}
use Rattle.loop_desk.specs.Desk.{DeskCall, submitted}
use Rattle.loop_desk.specs.Seen.{DeskGoes, SeenDesk}
use Rattle.loop_pipeline.specs.declared.entry.FrameInfo.{FrameInfo}
use Rattle.loop_pipeline.specs.declared.entry.Noted.{Noted}
use Rattle.loop_pipeline.specs.declared.seat.Notes.{Notes}
use Rattle.loop_pipeline.specs.declared.seat.Taken.{Taken}
use Rattle.loop_pipeline.specs.declared.seat.Taken.TheVariants.{Asked, Nothing, Unnoted}
use Rattle.loop_pipeline.specs.Notes.{HasReceiptRoom, stamp_of, noted_call, HasGoneOn}

-- The desk was asked for a frame, the next of the ring, and answered this.
pub record IsAsked {D A : Type 0} (medium : D → Medium) (old new : SeenDesk D) (from up : Consumer (Frame A) A AnyItems)
    (info : FrameInfo) (answer : Result ℕ StoreFault) : Type 0 where
  pub frame : Frame A
  pub got : received up ≡ received from ++ frame ∷ []
  pub ring : SameConsumer from up
  pub is : info ≡ stamp_of frame
  pub goes : DeskGoes medium old new (submitted (picture frame) (length frame.bytes.items) answer ∷ [])
  pub same : new ≡ record old { pending = new.pending }

-- the ring holds what it held, and the desk is as it was
pub record TakesNone {D A : Type 0} (old new : SeenDesk D) (from up : Consumer (Frame A) A AnyItems) : Type 0 where
  pub same : new ≡ old
  pub ring : SameConsumer from up
  pub got : received up ≡ received from

-- the next frame of the ring goes to the desk, if there is one and it can be noted
abbrev pub TakesFrom : {D A : Type 0} → (D → Medium) → SeenDesk D → SeenDesk D → Consumer (Frame A) A AnyItems
    → Consumer (Frame A) A AnyItems → Taken → Type 0
TakesFrom medium old new from up Nothing = TakesNone old new from up
TakesFrom medium old new from up Unnoted = TakesNone old new from up
TakesFrom medium old new from up (Asked info answer) = IsAsked medium old new from up info answer

-- ---- what only the seat's own code looks at

-- Calls are noted if there are notes: what was noted leads from the desk's opening to this desk.
abbrev pub AreNoted : {D A : Type 0} → (D → Medium) → Bool → Option (Notes D A) → SeenDesk D → Type 0
AreNoted medium noted None desk = noted ≡ false
AreNoted medium noted (Some n) desk =
    (noted ≡ true) × HasGoneOn medium n.opening.value n.outline n.history.items desk

-- what was noted still is, and nothing else
abbrev pub StaysNoted : {D A : Type 0} → (D → Medium) → Option (Notes D A) → Option (Notes D A) → Type 0
StaysNoted {D} medium old new =
    (noted : Bool) (desk : SeenDesk D) → AreNoted medium noted old desk → AreNoted medium noted new desk

-- one call more is noted, where calls are noted
abbrev pub NotesCall : {D A : Type 0} → (D → Medium) → Noted → Option (Notes D A) → Option (Notes D A) → Type 0
NotesCall {D} medium note old new =
    (noted : Bool) (before after : SeenDesk D) (call : DeskCall) → DeskGoes medium before after (call ∷ [])
    → noted_call note ≡ bare_call call → AreNoted medium noted old before → AreNoted medium noted new after

-- there is memory for one note more, where calls are noted
abbrev pub MayNote : {D A : Type 0} → Option (Notes D A) → Type 0
MayNote None = Unit {0}
MayNote (Some n) =
    (vec_len n.history < vec_capacity n.history) × HasReceiptRoom n.pass
