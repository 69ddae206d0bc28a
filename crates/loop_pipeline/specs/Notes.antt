-- What is noted of the calls of a desk, without pixels.
use Rattle.std.specs.Prelude.{◌≡◌, ◌<◌, ℕ, Result, Ok, Err, List, [], map, vec_len}
use Rattle.std.specs.Vec.{vec_capacity}
use Rattle.loop_disk.specs.Medium.{Medium}
use Rattle.loop_record.specs.declared.frame.Frame.{Frame}
use Rattle.loop_record.specs.declared.frame.FrameHead.{FrameHead}
use Rattle.loop_record.specs.Recording.{Picture}
use Rattle.loop_store.specs.declared.command.ReadFrame.{ReadFrame}
use Rattle.loop_store.specs.declared.fault.StoreFault.{StoreFault}
use Rattle.loop_desk.specs.declared.limits.Outline.{Outline}
use Rattle.loop_desk.specs.Bare.{bare_call}
use Rattle.loop_desk.specs.Desk.{DeskCall, clip_locked, clip_unlocked, flushed, frame_read, status_told, submitted}
use Rattle.loop_desk.specs.Seen.{DeskGoes, Opens, SeenDesk, TellsOutline}
use Rattle.loop_pipeline.specs.declared.entry.Entry.{Entry}
use Rattle.loop_pipeline.specs.declared.entry.FrameInfo.{FrameInfo}
use Rattle.loop_pipeline.specs.declared.entry.Noted.{Noted}
use Rattle.loop_pipeline.specs.declared.entry.Noted.TheVariants as noted
use Rattle.loop_pipeline.specs.declared.entry.Pass.{Pass}
use Rattle.loop_pipeline.specs.declared.entry.Receipt.{Receipt}

-- ---- entries and receipts

abbrev pub stamp_of : {A : Type 0} → Frame A → FrameInfo
stamp_of f = record { sequence = f.sequence; flags = f.flags; timestamp = f.timestamp }

-- what a read answers, without pixels
abbrev pub head_of : {A : Type 0} → Result (ReadFrame A) StoreFault → Result FrameHead StoreFault
head_of (Ok frame) = Ok frame.head
head_of (Err fault) = Err fault

abbrev pub entry : ℕ → Noted → Entry
entry pass call = record { pass = pass; call = call }

abbrev pub receipt : ℕ → ℕ → Noted → Receipt
receipt camera place call = record { camera = camera; place = place; call = call }

abbrev pub pass_number : {A : Type 0} → Pass A → ℕ
pass_number pass = pass.number

abbrev pub receipts_of : {A : Type 0} → Pass A → List Receipt
receipts_of pass = pass.receipts.items

-- there is memory for one receipt more
abbrev pub HasReceiptRoom : {A : Type 0} → Pass A → Type 0
HasReceiptRoom pass = vec_len pass.receipts < vec_capacity pass.receipts

-- ---- the calls of the model

-- the frame with this head, without pixels
abbrev pub bare_picture : FrameInfo → Picture
bare_picture s = record { sequence = s.sequence; flags = s.flags; timestamp = s.timestamp; bytes = [] }

-- a head without its pixels
abbrev pub head_only : Result FrameHead StoreFault → Result (FrameHead × List ℕ) StoreFault
head_only (Ok h) = Ok (h, [])
head_only (Err fault) = Err fault

-- the call of the model that an entry notes
abbrev pub noted_call : Noted → DeskCall
noted_call (noted.Submit stamp size result) = submitted (bare_picture stamp) size result
noted_call (noted.Flush result) = flushed result
noted_call (noted.Lock span result) = clip_locked span result
noted_call (noted.Unlock id result) = clip_unlocked id result
noted_call (noted.Read number result) = frame_read number (head_only result)
noted_call (noted.Status status) = status_told status

-- the calls of a history
abbrev pub noted_calls : List Entry → List DeskCall
noted_calls history = map (λ (e : Entry). noted_call e.call) history

-- From an opening that could be written and had this outline, the desk came to this one by some calls. Without pixels,
-- these are the history's. `goes` says what the calls leave on the disk, whenever the power fails.
pub record HasGoneOn {D A : Type 0} (medium : D → Medium) (opening : SeenDesk D) (outline : Outline A)
    (history : List Entry) (desk : SeenDesk D) : Type 0 where
  pub opens : Opens medium opening
  pub outlined : TellsOutline medium opening outline
  pub calls : List DeskCall
  pub noted : noted_calls history ≡ map bare_call calls
  pub goes : DeskGoes medium opening desk calls
