-- A history that gains one call, and what it says without pixels.
use Rattle.std.proofs.Common.{◌≡◌, ℕ, ◌+◌, ◌-◌, Option, Result, Ok, Err, List, [], ◌∷◌, ◌++◌, false, length, map, take, refl, sym, ap, ◌∙◌, subst, arith}
use Rattle.std.proofs.lemmas.List.{length-append}
use Rattle.std.proofs.Math.Seq.{take-append-add}
use Rattle.loop_disk.specs.declared.fault.DiskFault.{DiskFault}
use Rattle.loop_disk.specs.Medium.{Medium, IsSound}
use Rattle.loop_record.specs.declared.geometry.Geometry.{Geometry}
use Rattle.loop_record.specs.Reading.{Holds}
use Rattle.loop_record.specs.Recording.{Recording, Step, plain, ring_of}
use Rattle.loop_record.proofs.Steps.{plain-append}
use Rattle.loop_store.specs.declared.command.ReadFrame.{ReadFrame}
use Rattle.loop_store.specs.declared.fault.StoreFault.{StoreFault}
use Rattle.loop_store.specs.Calls.{begun_in, made_in}
use Rattle.loop_store.specs.Goes.{with_each}
use Rattle.loop_store.specs.Steps.{HoldsFrom}
use Rattle.loop_store.specs.Reopen.{TellsOne}
use Rattle.loop_store.specs.Runs.{read_of}
use Rattle.loop_store.specs.Seen.{StandsFor}
use Rattle.loop_store.proofs.CallRuns.{told-of}
use Rattle.loop_store.proofs.ModelRuns.{fine-all, recording-after}
use Rattle.loop_desk.specs.declared.limits.Outline.{Outline}
use Rattle.loop_desk.specs.declared.limits.Status.{Status}
use Rattle.loop_desk.specs.Bare.{bare_call, bare_state}
use Rattle.loop_desk.specs.Desk.{AreDeskAnswers, DeskCall, DeskState, Rules, clip_locked, clip_unlocked, desk_after_calls, desk_failed_for, flushed, frame_read, layout_upgraded, run_told, status_told, submitted}
use Rattle.loop_desk.specs.Footage.{stored_calls}
use Rattle.loop_desk.specs.Seen.{DeskGoes, Opens, SeenDesk, DeskStands, TellsOutline, TellsStatus, rules_of}
use Rattle.loop_desk.proofs.Blind.{blind}
use Rattle.loop_desk.proofs.OneCall.{goes-status}
use Rattle.loop_desk.proofs.DiskFailures.{failures-are}
use Rattle.loop_desk.proofs.CallRuns.{desk-none, one-then, rules-now, store-goes}
use Rattle.loop_desk.proofs.DeskModel.{answers-are}
use Rattle.loop_pipeline.specs.declared.entry.Entry.{Entry}
use Rattle.loop_pipeline.specs.declared.entry.Noted.TheVariants as noted
use Rattle.loop_pipeline.proofs.Seating.{kept-more, read-bare}
use Rattle.loop_recorder.specs.Histories.{Replays}
use Rattle.loop_pipeline.specs.Notes.{entry, head_of, noted_calls, head_only, noted_call, HasGoneOn}
use Rattle.loop_recorder.specs.Sessions.{AnswersRead, IsFaithful, Survive}
use Rattle.loop_store.proofs.Names.{HoldsSome}

-- the failed call of the disk doesn't depend on pixels
failed-bare : (c : DeskCall) → desk_failed_for (bare_call c) ≡ desk_failed_for c
failed-bare (submitted p size result) = refl
failed-bare (flushed result) = refl
failed-bare (clip_locked span result) = refl
failed-bare (clip_unlocked id result) = refl
failed-bare (layout_upgraded result) = refl
failed-bare (run_told times place run) = refl
failed-bare (frame_read number (Ok x)) = refl
failed-bare (frame_read number (Err fault)) = refl
failed-bare (status_told status) = refl

each-failed-bare : (calls : List DeskCall) → map desk_failed_for (map bare_call calls) ≡ map desk_failed_for calls
each-failed-bare [] = refl
each-failed-bare (c ∷ cs) = λ i. failed-bare c i ∷ each-failed-bare cs i

module _ {D A : Type 0} (medium : D → Medium) (opening : SeenDesk D) (outline : Outline A) (history : List Entry) (old new : SeenDesk D) where
  -- a read
  pub kept-read : {B : Type 0} (pass number : ℕ) (answer : Result (ReadFrame B) StoreFault)
      → HasGoneOn medium opening outline history old → DeskGoes medium old new (frame_read number (read_of answer) ∷ [])
      → HasGoneOn medium opening outline (history ++ entry pass (noted.Read number (head_of answer)) ∷ []) new
  kept-read pass number answer kept goes =
      kept-more medium opening outline history old new (frame_read number (read_of answer))
      (entry pass (noted.Read number (head_of answer))) kept goes (ap (frame_read number) (read-bare answer))

-- a status
pub kept-status : {D A : Type 0} (medium : D → Medium) (opening : SeenDesk D) (outline : Outline A)
    (history : List Entry) (desk : SeenDesk D) (pass : ℕ) (status : Status)
    → ((medium desk.store.disk).honest → IsSound (medium desk.store.disk))
    → HasGoneOn medium opening outline history desk → TellsStatus medium desk status
    → HasGoneOn medium opening outline (history ++ entry pass (noted.Status status) ∷ []) desk
kept-status medium opening outline history desk pass status sound kept tells =
    kept-more medium opening outline history desk desk (status_told status) (entry pass (noted.Status status)) kept
    (goes-status medium desk status (one-then medium opening desk kept.calls kept.goes) sound tells) refl

-- an image that reads as the recording after all that were made, and some that were begun after them
behind-made : (g : Geometry) (r : Recording) (made begun : List Step) (image : List ℕ)
    → HoldsFrom g r (length made) (made ++ begun) image → HoldsSome g (plain (ring_of g) r made) begun image
behind-made g r made begun image h =
    let k : ℕ = h.count - length made in
    let count : h.count ≡ length made + k = omega (arith, h.enough) in
    let seen : take h.count (made ++ begun) ≡ made ++ take k begun = ap (λ n. take n (made ++ begun)) count ∙ take-append-add made begun k in
    record {
      count = k;
      enough = omega arith;
      few = omega (arith, h.few, h.enough, length-append made begun);
      held = subst (λ (t : Recording). Holds g t image) (ap (plain (ring_of g) r) seen ∙ plain-append (ring_of g) r made (take k begun)) h.held;
    }

module _ {D A : Type 0} (medium : D → Medium) where
  -- what is kept with no call
  pub kept-new : (desk : SeenDesk D) (outline : Outline A) → TellsOne desk.store
      → ((medium desk.store.disk).honest → IsSound (medium desk.store.disk)) → Opens medium desk
      → TellsOutline medium desk outline → HasGoneOn medium desk outline [] desk
  kept-new desk outline one sound opens tells = record {
    opens = opens;
    outlined = tells;
    calls = [];
    noted = refl;
    goes = desk-none medium desk one sound;
  }

  -- what is kept replays
  kept-replays : (opening : SeenDesk D) (outline : Outline A) (history : List Entry) (desk : SeenDesk D)
      → HasGoneOn medium opening outline history desk → (medium desk.store.disk).honest
      → Replays medium opening history desk
  kept-replays opening outline history desk kept now =
      let was = (store-goes medium opening desk kept.calls kept.goes).called.honest.1 now in
      let s : DeskState = record {
        store =
            record { recording = kept.opens.recording was; version = opening.store.version; keep = opening.store.keep; must_reopen = false };
        pending = opening.pending;
      } in
      let stands : DeskStands medium opening s =
      record {
        store = record { recording = kept.opens.stands was; version = refl; keep = refl; must_reopen = kept.opens.writable };
        pending =
            refl;
      } in
      let k = rules_of opening in
      let bare = blind k s kept.calls in
      let model = answers-are medium opening desk kept.calls s kept.goes stands was in
      let rules = rules-now medium opening desk kept.calls kept.goes in
      record {
        first = s;
        last = desk_after_calls k s kept.calls;
        opens = stands;
        writable = refl;
        closes = model.1;
        answers = subst (λ (q : Rules). AreDeskAnswers q (bare_state s) (noted_calls history)) (sym rules)
            (subst (λ (cs : List DeskCall). AreDeskAnswers k (bare_state s) cs) (sym kept.noted) (bare.answers model.0));
        replay = ap (λ (q : Rules). desk_after_calls q (bare_state s) (noted_calls history)) rules
            ∙ ap (λ (cs : List DeskCall). desk_after_calls k (bare_state s) cs) kept.noted ∙ bare.state;
      }

  -- what is kept stands for a state
  pub kept-stands : (opening : SeenDesk D) (outline : Outline A) (history : List Entry) (desk : SeenDesk D)
      → HasGoneOn medium opening outline history desk → (medium desk.store.disk).honest → (s : DeskState)
      × DeskStands medium desk s
  kept-stands opening outline history desk kept now =
      let replays = kept-replays opening outline history desk kept now in
      (replays.last, replays.closes)

  -- so it answers a read
  pub kept-answers : {B : Type 0} (opening : SeenDesk D) (outline : Outline A) (history : List Entry)
      (old new : SeenDesk D) (number : ℕ) (answer : Result (ReadFrame B) StoreFault) (frame : ReadFrame B)
      → HasGoneOn medium opening outline history old
      → DeskGoes medium old new (frame_read number (read_of answer) ∷ []) → answer ≡ Ok frame → AnswersRead medium number frame
  kept-answers {B} opening outline history old new number answer frame kept goes is = record {
    asked = old;
    after = new;
    goes = subst (λ (r : Result (ReadFrame B) StoreFault). DeskGoes medium old new (frame_read number (read_of r) ∷ [])) is goes;
    stands = kept-stands opening outline history old kept;
  }

  -- what is kept survives a crash
  kept-survives : (opening : SeenDesk D) (outline : Outline A) (history : List Entry) (desk : SeenDesk D)
      (kept : HasGoneOn medium opening outline history desk) → Survive medium opening kept.calls desk
  kept-survives opening outline history desk kept s stands fine now =
      let g = opening.store.geometry in
      let calls = stored_calls opening s kept.calls in
      let store = kept.goes.store (record { store = s; pending = opening.pending })
      (record { store = told-of medium opening.store s stands; pending = refl }) in
      let after = store.stands s stands in
      record {
        stands = subst (λ (r : Recording). StandsFor medium desk.store r) (recording-after g s calls) after.recording;
        images = λ c left. behind-made g s.recording (made_in (ring_of g) s calls) (begun_in (ring_of g) s calls) c
            ((store.leaves s stands now fine).now c left);
        none_begun = λ still. (fine-all g s calls (sym after.must_reopen ∙ still)).none;
      }

  -- what is kept is faithful
  pub kept-faithful : (opening : SeenDesk D) (outline : Outline A) (history : List Entry) (desk : SeenDesk D)
      → HasGoneOn medium opening outline history desk → IsFaithful medium outline history desk
  kept-faithful opening outline history desk kept = record {
    opening = opening;
    kept = kept;
    survive = kept-survives opening outline history desk kept;
    legal = record {
      replays = kept-replays opening outline history desk kept;
      counted = failures-are medium opening desk kept.calls kept.goes
          ∙ ap (λ (l : List (Option DiskFault)). with_each l (medium opening.store.disk).failures)
          (sym (each-failed-bare kept.calls) ∙ ap (map desk_failed_for) (sym kept.noted));
    };
  }
