-- What an upgrade of the layout leaves.
use Rattle.std.proofs.Common.{◌≡◌, ◌≢◌, ℕ, ◌+◌, ◌≤◌, Bool, true, false, not, eqb, None, Some, Ok, Err, List, [], ◌∷◌, map, refl, sym, ap, subst, ◌∙◌, arith}
use Rattle.loop_disk.specs.declared.fault.DiskFault.{DiskFault}
use Rattle.loop_disk.specs.Calls.{Called, is_write_or_sync}
use Rattle.loop_disk.specs.Medium.{Medium, IsSettled, IsSound, LeavesOnly}
use Rattle.loop_disk.proofs.Moments.{weaker}
use Rattle.loop_record.specs.declared.geometry.Geometry.{Geometry}
use Rattle.loop_record.specs.Change.{KeepsClips}
use Rattle.loop_record.specs.Geometry.{gate_at, segment_at, segment_size}
use Rattle.loop_record.specs.Layout.{segment_in}
use Rattle.loop_record.specs.Reading.{Holds}
use Rattle.loop_record.specs.Recording.{Recording}
use Rattle.loop_record.proofs.Bounds.{limits}
use Rattle.loop_record.proofs.TestFacts.{differ_test, equal_test}
use Rattle.loop_record.proofs.OwnBytes.{SameWithin, map_range, same_open, same_segment, same_whole_frames}
use Rattle.loop_record.proofs.UpgradeImages.{reading-kept}
use Rattle.loop_clips.specs.Upgrade.{IsUpgraded}
use Rattle.loop_ring.specs.Heads.{heads_of}
use Rattle.loop_ring.proofs.Heads.{head_of, heads-are}
use Rattle.loop_store.specs.declared.fault.StoreFault.TheVariants.{Disk}
use Rattle.loop_store.specs.declared.index.Index.{Index}
use Rattle.loop_store.specs.Calls.{upgraded}
use Rattle.loop_store.specs.Goes.{Goes, Stands}
use Rattle.loop_store.specs.Grow.{HasNoneStray}
use Rattle.loop_store.specs.Seen.{StandsFor, Tells, seen_with}
use Rattle.loop_store.specs.Store.{IsKept}
use Rattle.loop_store.specs.Times.{AreStamps}
use Rattle.loop_store.proofs.Room.{one-recording}
use Rattle.loop_store.proofs.CheckAnswers.{answer-given}
use Rattle.loop_store.proofs.BlockImages.{held-some}
use Rattle.loop_store.proofs.Looks.{one-kept, stamps-in}
use Rattle.loop_store.proofs.Once.{goes-done, goes-failed, goes-refused}
use Rattle.loop_store.proofs.Names.{HoldsSome}

-- ---- an image whose clips are kept

-- it holds what it held
kept-held : (g : Geometry) (r : Recording) (old new : List ℕ) → Holds g r old → KeepsClips old new → Holds g r new
kept-held g r old new held k = reading-kept old new k ∙ held

same-from : (old new : List ℕ) (from to : ℕ) → 2560 ≤ from → KeepsClips old new → SameWithin from to new old
same-from old new from to low k = record { size = k.size; bytes = λ i l u. k.behind i (omega (arith, low, l)) }

-- and its segments
kept-heads : (g : Geometry) (old new : List ℕ) → g.slots ≤ 256 → KeepsClips old new → heads_of g new ≡ heads_of g old
kept-heads g old new few k =
    heads-are g new ∙ ap (map head_of) (map_range (segment_in g new) (segment_in g old) 0 g.segments (λ j low high.
    same_segment g new old j few (same-from old new (segment_at g j) (segment_at g j + segment_size g) (omega arith) k)))
    ∙ sym (heads-are g old)

kept-unstray : (g : Geometry) (old new : List ℕ) → g.slots ≤ 256 → KeepsClips old new → HasNoneStray g old
    → HasNoneStray g new
kept-unstray g old new few k clean = λ j in_ring there i whole in_slots.
    let same = same_segment g new old j few
    (same-from old new (segment_at g j) (segment_at g j + segment_size g) (omega arith) k) in
    let frames = same_whole_frames g new old j few
    (same-from old new (segment_at g j) (segment_at g j + 512) (omega arith) k) in
    let gate = same_open new old (gate_at g j i)
    (same-from old new (gate_at g j i) (gate_at g j i + 1) (omega arith) k) in
    gate ∙ clean j in_ring (λ none. there (same ∙ none)) i (omega (arith, whole, frames)) in_slots

-- ---- the store

-- the index with version 2
abbrev pub upgraded_index : {A : Type 0} → Index A → Index A
upgraded_index index = record index { version = 2 }

-- what is known of an upgrade that was made
pub record Upgraded (old new : Medium) : Type 0 where
  pub called : Called old new None
  pub moments : old.honest → LeavesOnly old new (KeepsClips old.bytes)
  pub such : old.honest → IsUpgraded old.bytes new.bytes
  pub settled : old.honest → IsSettled new

pub kept-upgraded : {D A : Type 0} (medium : D → Medium) (old new : D) (index : Index A) (must : Bool)
    → IsKept medium old index must → must ≡ false → Upgraded (medium old) (medium new)
    → IsKept medium new (upgraded_index index) must
kept-upgraded medium old new index must kept fine up =
    let g = index.ring.geometry in
    let few = (limits g index.ring.good).slots.1 in
    let whole = kept.fits.whole in record {
      fits = record {
        size_is = up.called.size ∙ kept.fits.size_is;
        whole = record { count = whole.count; within = whole.within; few = whole.few; counted = whole.counted; places = whole.places };
      };
      known =
          let known = kept.known.known in record {
            recording = kept.known.recording;
            known = record { held = known.held; next_is = known.next_is; heads_are = known.heads_are; clips_are = known.clips_are };
          };
      present = λ f honest.
          let back = up.called.honest.1 honest in
          let present = kept.present fine back in
          let known = present.recorded.known in
          let k = (up.such back).clips in record {
            recorded = record {
              recording = present.recorded.recording;
              known = record {
                held = kept-held g present.recorded.recording (medium old).bytes (medium new).bytes known.held k;
                next_is = known.next_is;
                heads_are = known.heads_are ∙ sym (kept-heads g (medium old).bytes (medium new).bytes few k);
                clips_are = known.clips_are;
              };
            };
            version = (up.such back).version;
            settled = up.settled back;
            unstray = kept-unstray g (medium old).bytes (medium new).bytes few k present.unstray;
            stamped = record {
              each = λ r held. subst (AreStamps (stamps-in index))
                  (one-recording g present.recorded.recording r (medium new).bytes
                  (kept-held g present.recorded.recording (medium old).bytes (medium new).bytes known.held k) held)
                  (present.stamped.each present.recorded.recording known.held);
            };
          };
    }

-- an upgrade of version 1 is due
due-made : (index_version version : ℕ) → index_version ≢ 2 → index_version ≡ version → eqb version 2 ≡ false
due-made index_version version differs same = differ_test version 2 (λ e. differs (same ∙ e))

moments-kept : {D A : Type 0} (medium : D → Medium) (old new : D) (index : Index A) (must : Bool) (r : Recording)
    → must ≡ false → StandsFor medium (seen_with old index must) r
    → ((medium old).honest → LeavesOnly (medium old) (medium new) (KeepsClips (medium old).bytes)) → (medium old).honest
    → LeavesOnly (medium old) (medium new) (HoldsSome index.ring.geometry r [])
moments-kept medium old new index must r fine stands moments honest =
    weaker (medium old) (medium new) _ _ (moments honest) (λ image k. held-some index.ring.geometry r [] image
    (kept-held index.ring.geometry r (medium old).bytes image (stands.held fine honest) k))

pub goes-upgraded : {D A : Type 0} (medium : D → Medium) (old new : D) (index : Index A) (must : Bool)
    → IsKept medium old index must → must ≡ false → index.version ≢ 2 → Upgraded (medium old) (medium new)
    → Goes medium (seen_with old index must) (seen_with new (upgraded_index index) must) (upgraded (Ok true) ∷ [])
goes-upgraded medium old new index must kept fine differs up =
    goes-done medium (seen_with old index must) (seen_with new (upgraded_index index) must) (upgraded (Ok true)) (λ r. []) (record {
      writes = refl;
      late = refl;
      fine = fine;
      still = fine;
      geometry = refl;
      version = λ v e. refl;
      keep = refl;
      called = up.called;
      unfailed = refl;
      none = refl;
      made_all = λ s kept. refl;
      begun_none = λ s. refl;
      one = one-kept medium old index must kept;
      answers = λ s told. answer-given ((medium old).honest × Stands medium (seen_with old index must) s)
          index.ring.geometry s (upgraded (Ok true)) (sym told.must_reopen ∙ fine) refl
          (sym (ap not (due-made index.version s.version differs told.version)));
      moments = λ r stands honest. moments-kept medium old new index must r fine stands up.moments honest;
      tells = λ r told. told-upgraded r told;
      stands = λ r stands. record {
        told = told-upgraded r stands.told;
        settled = λ still there. up.settled (up.called.honest.1 there);
        held = λ still there.
            let back = up.called.honest.1 there in
            kept-held index.ring.geometry r (medium old).bytes (medium new).bytes (stands.held fine back) (up.such back).clips;
        version_is = λ still there. (up.such (up.called.honest.1 there)).version;
      };
    })
  where
    told-upgraded : (r : Recording) → Tells (seen_with old index must) r
        → Tells (seen_with new (upgraded_index index) must) r
    told-upgraded r told = record {
      formed = told.formed;
      next_is = told.next_is;
      numbers_are = told.numbers_are;
      count_is = told.count_is;
      stamps_are = told.stamps_are;
      clips_are = told.clips_are;
    }

-- the disk failed
pub goes-not_upgraded : {D A : Type 0} (medium : D → Medium) (old new : D) (index : Index A) (must : Bool)
    (fault : DiskFault) → IsKept medium old index must → must ≡ false → index.version ≢ 2
    → ((medium new).honest → IsSound (medium new)) → Called (medium old) (medium new) (Some fault)
    → ((medium old).honest → LeavesOnly (medium old) (medium new) (KeepsClips (medium old).bytes))
    → is_write_or_sync fault ≡ true
    → Goes medium (seen_with old index must) (seen_with new index true) (upgraded (Err (Disk fault)) ∷ [])
goes-not_upgraded medium old new index must fault kept fine differs sound called moments writes =
    goes-failed medium (seen_with old index must) (seen_with new index true) (upgraded (Err (Disk fault))) (λ r. []) fault (record {
      writes = refl;
      late = refl;
      fine = fine;
      failed = refl;
      version = λ v. refl;
      called = called;
      sound = sound;
      has = refl;
      some = refl;
      made_none = λ s. refl;
      begun_all = λ s kept. refl;
      one = one-kept medium old index must kept;
      answers = λ s told. answer-given ((medium old).honest × Stands medium (seen_with old index must) s)
          index.ring.geometry s (upgraded (Err (Disk fault))) (sym told.must_reopen ∙ fine) refl
          (due-made index.version s.version differs told.version, writes);
      moments = λ r stands honest. moments-kept medium old new index must r fine stands moments honest;
    })

-- nothing is to be done
pub goes-already : {D A : Type 0} (medium : D → Medium) (disk : D) (index : Index A) (must : Bool)
    → IsKept medium disk index must → must ≡ false → index.version ≡ 2
    → ((medium disk).honest → IsSound (medium disk))
    → Goes medium (seen_with disk index must) (seen_with disk index must) (upgraded (Ok false) ∷ [])
goes-already medium disk index must kept fine is sound =
    goes-refused medium (seen_with disk index must) (upgraded (Ok false)) (one-kept medium disk index must kept) sound
    (record {
      version = λ v. refl;
      unfailed = refl;
      none = refl;
      made_none = λ g t. refl;
      begun_none = λ g t. refl;
    }) (λ H t told. answer-given H index.ring.geometry t (upgraded (Ok false)) (sym told.must_reopen ∙ fine) refl
    (sym (ap not (equal_test t.version 2 (sym told.version ∙ is)))))
