-- A read of a frame by a store that needn't be reopened.
use Rattle.std.proofs.Common.{◌≡◌, ℕ, ◌<◌, Bool, true, false, None, Option, Result, Err, List, [], ◌∷◌, get_or, refl, sym, ◌∙◌, subst, Ok, map}
use Rattle.loop_disk.specs.Medium.{Medium, IsSound}
use Rattle.loop_record.specs.declared.frame.FrameHead.{FrameHead}
use Rattle.loop_record.specs.declared.segment.SegmentHead.{SegmentHead}
use Rattle.loop_record.specs.Recording.{Recording, holds}
use Rattle.loop_record.proofs.TestFacts.{clash}
use Rattle.loop_ring.specs.Heads.{has_number}
use Rattle.loop_store.specs.declared.fault.StoreFault.{StoreFault}
use Rattle.loop_store.specs.declared.fault.StoreFault.TheVariants.{NotHeld, NoMemory}
use Rattle.loop_store.specs.declared.index.Index.{Index}
use Rattle.loop_store.specs.Calls.{read_with, was_read, sought}
use Rattle.loop_store.specs.Drawn.{drawn_image}
use Rattle.loop_store.specs.Goes.{Goes, Stands}
use Rattle.loop_store.specs.Index.{IsIndexOf}
use Rattle.loop_store.specs.Look.{AnswersFrame, ReadsHeld}
use Rattle.loop_store.specs.Seen.{seen_with}
use Rattle.loop_store.specs.Store.{IsKept}
use Rattle.loop_store.proofs.Looks.{alike-by, known-by, one-kept, there-alike, stamps-in, stamps-known}
use Rattle.loop_store.proofs.FrameReads.{goes-looked, goes-unread, look-read, look-sought, read-answered, read-failed, read-late, read-missing}
use Rattle.std.specs.List.{filter}
use Rattle.loop_record.specs.declared.clip.Span.{Span}
use Rattle.loop_record.specs.declared.times.Times.{Times}
use Rattle.loop_record.specs.Times.{AreRuns, is_in}
use Rattle.loop_store.proofs.CheckAnswers.{answer-given}
use Rattle.loop_store.proofs.Same.{holds-same}
use Rattle.loop_store.proofs.TimeRuns.{sought-numbers}

module _ {D A : Type 0} (medium : D → Medium) (disk : D) (index : Index A) (must : Bool)
    (kept : IsKept medium disk index must) (fine : must ≡ false)
    (sound : (medium disk).honest → IsSound (medium disk)) where
  -- of a number whose frame segment j has
  pub goes-held : (new : D) (number j : ℕ) (result : Result FrameHead StoreFault) (out : List ℕ)
      → j < index.ring.geometry.segments
      → has_number index.ring.geometry.slots number (get_or index.table.heads j None) ≡ true
      → ReadsHeld index.ring.geometry j number (λ r. AnswersFrame r number result out) (medium disk) (medium new) result
      → Goes medium (seen_with disk index must) (record (seen_with disk index must) { disk = new })
      (was_read number (read_with result out) ∷ [])
  goes-held new number j result out within there read =
      goes-looked medium (seen_with disk index must) new (was_read number (read_with result out))
      (look-read number (read_with result out)) sound (record {
        one = one-kept medium disk index must kept;
        answers = λ t told. read-answered ((medium disk).honest × Stands medium (seen_with disk index must) t)
            index.ring.geometry t number result out (sym told.must_reopen ∙ fine)
            (there-alike medium disk index must t.recording number j kept told.recording within there)
            read.refusals (λ held.
            let known = known-by medium disk index must t.recording kept held.1.recording fine held.0 in
            let has = subst (λ (hs : List (Option SegmentHead)). has_number index.ring.geometry.slots number (get_or hs j None) ≡ true)
            known.heads_are there in
            read.frame t.recording held.0 (held.1.recording.held fine held.0) has);
        stays = read.stays;
        called = read-failed result out (medium disk) (medium new) read.called;
        unmoved = λ early. absurd (clash _ early (read-late number result out read.refusals));
      })

  -- of a number that no segment has
  pub goes-missing : (number : ℕ)
      → ((r : Recording) (image : List ℕ) → IsIndexOf index r image → holds r number ≡ false)
      → Goes medium (seen_with disk index must) (seen_with disk index must) (was_read number (Err NotHeld) ∷ [])
  goes-missing number missing =
      goes-unread medium (seen_with disk index must) (was_read number (Err NotHeld)) (look-read number (Err NotHeld))
      (one-kept medium disk index must kept) sound refl (λ H t told.
      let known = kept.known in
      let same = alike-by medium disk index must t.recording kept told.recording in
      read-missing H index.ring.geometry t number (sym told.must_reopen ∙ fine)
      (sym (holds-same known.recording t.recording number same) ∙ missing known.recording
      (drawn_image index.ring.geometry index.table.heads index.clips) known.known))

  -- of the frames of a time
  pub goes-sought : (times : Times) (runs : List Span)
      → ((r : Recording) (image : List ℕ) → IsIndexOf index r image
      → AreRuns (filter (λ n. is_in times (stamps-in index n).time) (map (λ f. f.0) r.frames)) runs)
      → Goes medium (seen_with disk index must) (seen_with disk index must) (sought times (Ok runs) ∷ [])
  goes-sought times runs are =
      goes-unread medium (seen_with disk index must) (sought times (Ok runs)) (look-sought times (Ok runs))
      (one-kept medium disk index must kept) sound refl (λ H t told.
      let known = kept.known in
      let same = alike-by medium disk index must t.recording kept told.recording in
      let found = are known.recording (drawn_image index.ring.geometry index.table.heads index.clips) known.known in
      answer-given H index.ring.geometry t (sought times (Ok runs)) (sym told.must_reopen ∙ fine) refl
      (subst (λ (ns : List ℕ). AreRuns ns runs)
      (sought-numbers times (stamps-in index) t.recording told.recording.formed (stamps-known disk index must t.recording told.recording))
      (subst (λ (ns : List ℕ). AreRuns (filter (λ n. is_in times (stamps-in index n).time) ns) runs) same.numbers found)))

  -- and where memory was refused
  pub goes-crammed : (times : Times)
      → Goes medium (seen_with disk index must) (seen_with disk index must) (sought times (Err NoMemory) ∷ [])
  goes-crammed times =
      goes-unread medium (seen_with disk index must) (sought times (Err NoMemory)) (look-sought times (Err NoMemory))
      (one-kept medium disk index must kept) sound refl (λ H t told.
      answer-given H index.ring.geometry t (sought times (Err NoMemory)) (sym told.must_reopen ∙ fine) refl refl)
