-- A seat: what is noted of a call, and what came of a frame.
use Rattle.std.proofs.Common.{◌≡◌, ◌∙◌, ℕ, Bool, true, false, Option, Some, None, Result, Ok, Err, List, [], ◌∷◌, ◌++◌, ap, length, map, refl, subst, sym}
use Rattle.std.proofs.lemmas.List.{map-append}
use Rattle.rtrb.specs.declared.AnyItems.{AnyItems}
use Rattle.rtrb.specs.declared.consumer.Consumer.{Consumer}
use Rattle.rtrb.specs.Ring.{SameConsumer, received}
use Rattle.loop_disk.specs.Medium.{Medium}
use Rattle.loop_record.specs.declared.frame.Frame.{Frame}
use Rattle.loop_record.specs.declared.frame.FrameHead.{FrameHead}
use Rattle.loop_record.specs.Recording.{picture}
use Rattle.loop_store.specs.declared.fault.StoreFault.{StoreFault}
use Rattle.loop_store.specs.declared.command.ReadFrame.{ReadFrame}
use Rattle.loop_store.specs.Calls.{read_with}
use Rattle.loop_store.specs.Runs.{read_of}
use Rattle.loop_desk.specs.declared.limits.Outline.{Outline}
use Rattle.loop_desk.specs.Bare.{bare_call, bare_read}
use Rattle.loop_desk.specs.Desk.{DeskCall, submitted}
use Rattle.loop_desk.specs.Seen.{DeskGoes, SeenDesk, answer_of}
use Rattle.loop_desk.proofs.CallRuns.{desk-joined}
use Rattle.loop_pipeline.specs.declared.entry.Entry.{Entry}
use Rattle.loop_pipeline.specs.declared.entry.FrameInfo.{FrameInfo}
use Rattle.loop_pipeline.specs.declared.entry.Noted.TheVariants as noted
use Rattle.loop_pipeline.specs.Notes.{HasGoneOn, bare_picture, head_of, head_only, noted_call, stamp_of}
use Rattle.loop_pipeline.specs.declared.seat.Notes.{Notes}
use Rattle.loop_pipeline.specs.Seats.{IsAsked, AreNoted}

-- the head of a frame is noted as a read of it
pub head-bare : (answer : Result FrameHead StoreFault) (bytes : List ℕ)
    → head_only answer ≡ bare_read (read_with answer bytes)
head-bare (Ok h) bytes = refl
head-bare (Err fault) bytes = refl

-- a submit is noted without pixels
pub submit-noted : {A X : Type 0} (frame : Frame A) (answer : Result ℕ (StoreFault × X)) (stamp : FrameInfo) (size : ℕ)
    (told : Result ℕ StoreFault) → stamp ≡ stamp_of frame → size ≡ length frame.bytes.items → told ≡ answer_of answer
    → noted_call (noted.Submit stamp size told)
    ≡ bare_call (submitted (picture frame) (length frame.bytes.items) (answer_of answer))
submit-noted frame answer stamp size told is many same =
    λ i. submitted (bare_picture (is i)) (many i) (same i)

-- the desk was asked for the frame that was popped, and its memory came back after that
pub asked : {D A X : Type 0} (medium : D → Medium) (old mid new : SeenDesk D) (from up : Consumer (Frame A) A AnyItems)
    (frame : Frame A) (answer : Result ℕ (StoreFault × X)) (stamp : FrameInfo) (told : Result ℕ StoreFault)
    → received up ≡ received from ++ frame ∷ [] → SameConsumer from up → stamp ≡ stamp_of frame
    → told ≡ answer_of answer
    → DeskGoes medium old mid (submitted (picture frame) (length frame.bytes.items) (answer_of answer) ∷ [])
    → mid ≡ record old { pending = mid.pending } → new ≡ mid → IsAsked medium old new from up stamp told
asked {D} medium old mid new from up frame answer stamp told got ring is same goes kept back = record {
  frame = frame;
  got = got;
  ring = ring;
  is = is;
  goes = rw (same, back) goes;
  same = subst (λ (d : SeenDesk D). d ≡ record old { pending = d.pending }) (sym back) kept;
}

-- a read is noted without its pixels
pub read-bare : {A : Type 0} (answer : Result (ReadFrame A) StoreFault) → head_only (head_of answer) ≡ bare_read
    (read_of answer)
read-bare (Ok frame) = refl
read-bare (Err fault) = refl

-- what is kept is kept with one call more
pub kept-more : {D A : Type 0} (medium : D → Medium) (opening : SeenDesk D) (outline : Outline A) (history : List Entry)
    (old new : SeenDesk D) (call : DeskCall) (e : Entry) → HasGoneOn medium opening outline history old
    → DeskGoes medium old new (call ∷ []) → noted_call e.call ≡ bare_call call
    → HasGoneOn medium opening outline (history ++ e ∷ []) new
kept-more medium opening outline history old new call e kept goes same = record {
  opens = kept.opens;
  outlined = kept.outlined;
  calls = kept.calls ++ call ∷ [];
  noted = map-append (λ (x : Entry). noted_call x.call) history (e ∷ [])
      ∙ ap (λ l. l ++ noted_call e.call ∷ []) kept.noted ∙ ap (λ c. map bare_call kept.calls ++ c ∷ []) same
      ∙ sym (map-append bare_call kept.calls (call ∷ []));
  goes = desk-joined medium opening old new kept.calls (call ∷ []) kept.goes goes;
}

-- a seat that notes nothing has no notes
pub no-notes : {D A : Type 0} (medium : D → Medium) (noted : Bool) (o : Option (Notes D A)) (desk : SeenDesk D)
    → AreNoted medium noted o desk → noted ≡ false → o ≡ None
no-notes medium noted None desk kept is = refl
no-notes medium noted (Some n) desk kept is = absurd (let both : true ≡ false = sym kept.0 ∙ is in cc)
