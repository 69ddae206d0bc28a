-- What a lock and an unlock make of an image, of what is known of it, and of a store.
use Rattle.std.proofs.Common.{◌≡◌, ◌≢◌, ◌⊎◌, inl, inr, ℕ, suc, ◌+◌, ◌-◌, ◌*◌, ◌^◌, ◌/◌, ◌%◌, ◌<◌, ◌≤◌, Bool, true, false, not, ◌&&◌, eqb, leb, ltb, if◌then◌else◌, is_some, Option, None, Some, Result, Err, List, [], ◌∷◌, length, get_or, set, map, refl, sym, ap, ◌∙◌, subst, arith}
use Rattle.std.proofs.Math.Nat.{add-mul, div-add-mod', mul-div-le}
use Rattle.std.proofs.lemmas.Bool.{cases_lt}
use Rattle.std.proofs.lemmas.List.{length-map, set-get_or}
use Rattle.std.proofs.lemmas.Result.{on_ok_weaker}
use Rattle.std.proofs.lemmas.List.Sums.{prefix_len_stops}
use Rattle.std.specs.List.{All, range_with_len}
use Rattle.loop_disk.specs.declared.fault.DiskFault.{DiskFault}
use Rattle.loop_disk.specs.Calls.{Called}
use Rattle.loop_disk.specs.Medium.{Medium, IsSettled, IsSound, LeavesOnly}
use Rattle.loop_disk.specs.Steps.{Changes}
use Rattle.loop_disk.proofs.Moments.{weaker}
use Rattle.loop_record.specs.declared.clip.Span.{Span}
use Rattle.loop_record.specs.declared.geometry.Geometry.{Geometry}
use Rattle.loop_record.specs.declared.segment.SegmentHead.{SegmentHead}
use Rattle.loop_record.specs.Change.{ShowsClip}
use Rattle.loop_record.specs.Geometry.{clip_at, disk_size, gate_at, segment_at, segment_size}
use Rattle.loop_record.specs.Layout.{clip_in}
use Rattle.loop_record.specs.Reading.{Holds}
use Rattle.loop_record.specs.Parts.{Parts, parts_of, shown_by}
use Rattle.loop_record.specs.Recording.{IsWellFormed, Picture, Recording, frame_under, Step, after_step, holds_all, clip_of, first_free, holds, last_number, lock, plain, ring_of, unlock}
use Rattle.loop_record.proofs.Clips.{clip_of-entry, clips-are, parts-clip, reading-clip, reading-lock, reading-unlock}
use Rattle.loop_record.proofs.Bounds.{limits}
use Rattle.loop_record.proofs.Form.{reading-well_formed}
use Rattle.loop_record.proofs.NumberOrder.{all_range-each, among-range as rising-range, held-among}
use Rattle.loop_record.proofs.TestFacts.{at_most, at_most_test, both, equal}
use Rattle.loop_record.proofs.OwnBytes.{same_open, same_segment, same_whole_frames}
use Rattle.loop_record.proofs.Parts.{reading-stages, version-outside, within_behind}
use Rattle.loop_record.proofs.Readings.{get_or-map_range, length-range}
use Rattle.loop_clips.specs.Table.{ShowsClipOrNot}
use Rattle.loop_ring.specs.declared.ring.Ring.{Ring as LoopRing}
use Rattle.loop_ring.specs.declared.group.SlotStamp.{SlotStamp}
use Rattle.loop_ring.specs.Heads.{clip_counts, has_number, heads_of}
use Rattle.loop_ring.proofs.Heads.{head_of, heads-are, heads-length}
use Rattle.loop_store.specs.declared.index.Index.{Index}
use Rattle.loop_store.specs.declared.fault.StoreFault.{StoreFault}
use Rattle.loop_store.specs.declared.fault.StoreFault.TheVariants.{NoSuchClip}
use Rattle.loop_store.specs.Calls.{Call, IsAnswered, AnswersOtherwise, StoreState, begun_by, failed_for, first_of, is_look, locked, made_by, span_checks, unlocked, version_after, was_refused}
use Rattle.loop_store.specs.Faults.{failed_by, is_disk}
use Rattle.loop_store.specs.Goes.{Goes, Stands}
use Rattle.loop_store.specs.Reopen.{TellsOne}
use Rattle.loop_store.specs.Drawn.{drawn_image}
use Rattle.loop_store.specs.Grow.{HasNoneStray, Makes}
use Rattle.loop_store.specs.Lock.{CanRefuseSpan, CanTake, EndsRun, KeepsSegments}
use Rattle.loop_store.specs.Index.{IsClipNoted, IsIndex, IsIndexOf, IsRecovered}
use Rattle.loop_store.specs.Found.{IsHeadIn}
use Rattle.loop_store.specs.Store.{IsKept, IsPresent}
use Rattle.loop_store.specs.Seen.{Seen, StandsFor, Tells, seen_with}
use Rattle.loop_store.specs.Numbers.{is_among}
use Rattle.loop_store.specs.Times.{AreStamps, stamp_under}
use Rattle.loop_store.proofs.Room.{one-recording}
use Rattle.loop_store.proofs.BlockImages.{held-some}
use Rattle.loop_store.proofs.SlotLooks.{missing-behind}
use Rattle.loop_store.proofs.Alike.{clip-same, free-same, locked-same, span-same, unlocked-same}
use Rattle.loop_store.proofs.IndexImages.{FitsDrawn}
use Rattle.loop_store.proofs.Looks.{alike-by, known-by, one-kept, there-held, stamps-in, stamps-known, told-as}
use Rattle.loop_store.proofs.UnheldNumbers.{fits-legal}
use Rattle.loop_store.proofs.ImageChanges.{drawn-clip}
use Rattle.loop_store.proofs.AppendImages.{known-drawn}
use Rattle.loop_store.proofs.Same.{IsSame}
use Rattle.loop_store.proofs.CheckAnswers.{answer-due, answer-given, failed, passed}
use Rattle.loop_store.proofs.Once.{goes-done, goes-failed, goes-refused}
use Rattle.loop_store.proofs.Numbers.{among-block, among-range}
use Rattle.loop_record.proofs.Names.{free_id}
use Rattle.loop_store.proofs.Names.{has_failed, HoldsSome}

-- ---- an image

-- the segments of an image are the old ones where one entry has changed
pub segments-kept : (g : Geometry) (id : ℕ) (c : Option Span) (old new : List ℕ) → g.slots ≤ 256 → id < 64
    → ShowsClip id c old new → HasNoneStray g old → KeepsSegments g old new
segments-kept g id c old new few l shows clean = record {
  heads = heads-are g new ∙ ap (λ (p : Parts). map head_of p.segments) (parts-clip g id c old new few l shows) ∙ sym (heads-are g old);
  unstray = λ j in_ring there i whole in_slots.
      let same = same_segment g new old j few
      (within_behind (clip_at id) 32 (segment_at g j) (segment_at g j + segment_size g) old new shows.outside
      (omega (arith, l))) in
      let frames = same_whole_frames g new old j few
      (within_behind (clip_at id) 32 (segment_at g j) (segment_at g j + 512) old new shows.outside
      (omega (arith, l))) in
      let gate = same_open new old (gate_at g j i)
      (within_behind (clip_at id) 32 (gate_at g j i) (gate_at g j i + 1) old new shows.outside (omega (arith, l)))
      in
      gate ∙ clean j in_ring (λ none. there (same ∙ none)) i (omega (arith, whole, frames)) in_slots;
  version = version-outside (clip_at id) 32 old new (omega arith) shows.outside;
}

-- an image whose entry is as it was reads the same
same-held : (g : Geometry) (r : Recording) (id : ℕ) (old c : List ℕ) → Holds g r old → id < 64
    → ShowsClip id (clip_in old id) old c → Holds g r c
same-held g r id old c held l shows =
    let clips = map (clip_in old) (range_with_len 0 64) in
    let at : 0 + id ≡ id = omega arith in
    let there : clip_in old id ≡ get_or clips id None = ap (clip_in old) (sym at) ∙ sym (get_or-map_range (clip_in old) 0 64 id None l) in
    let same : set clips id (clip_in old id) ≡ clips = ap (λ (x : Option Span). set clips id x) there ∙ set-get_or clips id None in
    reading-clip g r r id (clip_in old id) old c held l shows
    (ap (λ (cs : List (Option Span)). shown_by g (record { segments = (parts_of g old).segments; clips = cs }))
    same ∙ (reading-stages g r old held).recording)

one-step : (g : Geometry) (r : Recording) (step : Step) (c : List ℕ) → Holds g (after_step (ring_of g) r step) c
    → HoldsSome g r (step ∷ []) c
one-step g r step c held = record { count = 1; enough = omega arith; few = omega arith; held = held }

pub lock-held : (v : ℕ) (g : Geometry) (r : Recording) (span : Span) (id : ℕ) (old c : List ℕ) → Holds g r old
    → CanTake v g span id r → ShowsClip id (Some span) old c → Holds g (after_step (ring_of g) r (lock span)) c
lock-held v g r span id old c held takes shows = reading-lock g r span old c held takes.legal
    (subst (λ (k : ℕ). ShowsClip k (Some span) old c) takes.id_is shows)

pub lock-some : (v : ℕ) (g : Geometry) (r : Recording) (span : Span) (id : ℕ) (old c : List ℕ) → Holds g r old → id < 64
    → CanTake v g span id r → ShowsClipOrNot id (Some span) old c → HoldsSome g r (lock span ∷ []) c
lock-some v g r span id old c held l takes (inl same) = held-some g r (lock span ∷ []) c (same-held g r id old c held l same)
lock-some v g r span id old c held l takes (inr shows) = one-step g r (lock span) c (lock-held v g r span id old c held takes shows)

pub unlock-held : (g : Geometry) (r : Recording) (id : ℕ) (old c : List ℕ) → Holds g r old → id < 64
    → ShowsClip id None old c → Holds g (after_step (ring_of g) r (unlock id)) c
unlock-held g r id old c held l shows = reading-unlock g r id old c held l shows

pub unlock-some : (g : Geometry) (r : Recording) (id : ℕ) (old c : List ℕ) → Holds g r old → id < 64
    → ShowsClipOrNot id None old c → HoldsSome g r (unlock id ∷ []) c
unlock-some g r id old c held l (inl same) = held-some g r (unlock id ∷ []) c (same-held g r id old c held l same)
unlock-some g r id old c held l (inr shows) = one-step g r (unlock id) c (unlock-held g r id old c held l shows)

-- ---- the calls

pub lock-makes : {T : Type 0} (v : ℕ) (g : Geometry) (span : Span) (id : ℕ) (old new : Medium)
    (result : Result T DiskFault)
    → g.slots ≤ 256 → id < 64 → (old.honest → HasNoneStray g old.bytes)
    → Changes (ShowsClipOrNot id (Some span) old.bytes) (ShowsClip id (Some span) old.bytes) old new result
    → Makes g (CanTake v g span id) (λ r. lock span ∷ []) (KeepsSegments g old.bytes) old new result
lock-makes v g span id old new result few l clean changes = record {
  moments = λ r one honest held. weaker old new _ _ (changes.moments honest) (λ image some. lock-some v g r span id old.bytes image held l one some);
  held = λ r one honest held. on_ok_weaker result (λ shows. lock-held v g r span id old.bytes new.bytes held one shows) (changes.such honest);
  such = λ honest. on_ok_weaker result (λ shows. segments-kept g id (Some span) old.bytes new.bytes few l shows (clean honest)) (changes.such honest);
  settled = changes.settled;
  fault = changes.fault;
  called = changes.called;
}

pub unlock-makes : {T : Type 0} (g : Geometry) (id : ℕ) (old new : Medium) (result : Result T DiskFault)
    → g.slots ≤ 256 → id < 64 → (old.honest → HasNoneStray g old.bytes)
    → Changes (ShowsClipOrNot id None old.bytes) (ShowsClip id None old.bytes) old new result
    → Makes g (λ r. clip_of r id ≢ None) (λ r. unlock id ∷ []) (KeepsSegments g old.bytes) old new result
unlock-makes g id old new result few l clean changes = record {
  moments = λ r one honest held. weaker old new _ _ (changes.moments honest) (λ image some. unlock-some g r id old.bytes image held l some);
  held = λ r one honest held. on_ok_weaker result (λ shows. unlock-held g r id old.bytes new.bytes held l shows) (changes.such honest);
  such = λ honest. on_ok_weaker result (λ shows. segments-kept g id None old.bytes new.bytes few l shows (clean honest)) (changes.such honest);
  settled = changes.settled;
  fault = changes.fault;
  called = changes.called;
}

-- ---- the entry of an id

-- the first free id has no clip
free-none : (clips : List (Option Span)) → first_free clips < length clips → get_or clips (first_free clips) None ≡ None
free-none clips l = go (get_or clips (first_free clips) None) (prefix_len_stops (λ c. not (not (is_some c))) clips None l)
  where
    go : (c : Option Span) → not (not (is_some c)) ≡ false → c ≡ None
    go None e = refl
    go (Some s) e = absurd cc

-- what an index says of an id is in the entry
pub entry-is : {A : Type 0} (index : Index A) (m : Medium) (id : ℕ) → IsPresent index m → id < 64
    → clip_in m.bytes id ≡ get_or index.clips id None
entry-is index m id present l =
    let known = present.recorded.known in
    sym (clip_of-entry index.ring.geometry present.recorded.recording m.bytes id known.held l)
    ∙ ap (λ (cs : List (Option Span)). get_or cs id None) (sym known.clips_are)

pub entry-closed : {A : Type 0} (index : Index A) (m : Medium) (id : ℕ) → IsPresent index m → id < 64
    → id ≡ first_free index.clips → clip_in m.bytes id ≡ None
entry-closed index m id present l is =
    let known = present.recorded.known in
    let size : length index.clips ≡ 64 =
    ap length (known.clips_are ∙ clips-are index.ring.geometry present.recorded.recording m.bytes known.held)
    ∙ length-map (range_with_len 0 64) (clip_in m.bytes) ∙ length-range 0 64 in
    entry-is index m id present l ∙ ap (λ (k : ℕ). get_or index.clips k None) is ∙ free-none index.clips (omega (arith, size, l, is))

pub entry-open : {A : Type 0} (index : Index A) (m : Medium) (id : ℕ) → IsPresent index m → id < 64
    → get_or index.clips id None ≢ None → clip_in m.bytes id ≢ None
entry-open index m id present l some none = some (sym (entry-is index m id present l) ∙ none)

-- ---- what is known

-- what a clip that is noted makes of an image, and of recordings with the same numbers
pub record IsRedrawn (g : Geometry) (id : ℕ) (clip : Option Span) (IsOne : Recording → Type 0) (step : Step) : Type 0 where
  pub low : id < 64
  pub fits : (r : Recording) → IsOne r → IsWellFormed r → r.next ≤ 2 ^ 62 → FitsDrawn clip
  pub shown : (r : Recording) (old new : List ℕ) → IsOne r → Holds g r old → ShowsClip id clip old new
      → Holds g (after_step (ring_of g) r step) new
  pub alike : (r t : Recording) → IsSame r t → IsOne r → IsOne t
  pub stepped : (r t : Recording) → IsSame r t → IsSame (after_step (ring_of g) r step) (after_step (ring_of g) t step)
  pub frames : (r : Recording) → (after_step (ring_of g) r step).frames ≡ r.frames

-- what is known where a clip was noted
pub record Noted {D A : Type 0} (medium : D → Medium) (old new : D) (was now : Index A) (id : ℕ) (clip : Option Span)
    (IsOne : Recording → Type 0) (step : Step) : Type 0 where
  pub noted : IsClipNoted was now id clip
  pub called : Called (medium old) (medium new) None
  pub segments : (medium old).honest → KeepsSegments was.ring.geometry (medium old).bytes (medium new).bytes
  pub settled : (medium old).honest → IsSettled (medium new)
  pub held : (r : Recording) → IsOne r → (medium old).honest → Holds was.ring.geometry r (medium old).bytes
      → Holds was.ring.geometry (after_step (ring_of was.ring.geometry) r step) (medium new).bytes
  pub next : (r : Recording) → (after_step (ring_of was.ring.geometry) r step).next ≡ r.next
  pub clips : (r : Recording) → IsOne r → (after_step (ring_of was.ring.geometry) r step).clips ≡ set r.clips id clip
  pub redrawn : IsRedrawn was.ring.geometry id clip IsOne step

geometry-same : {A : Type 0} (was now : Index A) (id : ℕ) (clip : Option Span) → IsClipNoted was now id clip
    → now.ring.geometry ≡ was.ring.geometry
geometry-same was now id clip noted = ap (λ (x : LoopRing). x.geometry) noted.ring

known-noted : {D A : Type 0} (medium : D → Medium) (old new : D) (was now : Index A) (id : ℕ) (clip : Option Span)
    (IsOne : Recording → Type 0) (step : Step) (r : Recording) → Noted medium old new was now id clip IsOne step
    → IsOne r → (medium old).honest
    → IsIndexOf was r (medium old).bytes → IsIndexOf now (after_step (ring_of was.ring.geometry) r step) (medium new).bytes
known-noted medium old new was now id clip IsOne step r n one honest known =
    let g = was.ring.geometry in
    let same = geometry-same was now id clip n.noted in record {
      held = subst (λ (h : Geometry). Holds h (after_step (ring_of g) r step) (medium new).bytes) (sym same) (n.held r one honest known.held);
      next_is = n.noted.next ∙ known.next_is ∙ sym (n.next r);
      heads_are = n.noted.heads ∙ known.heads_are ∙ sym (n.segments honest).heads ∙ ap (λ (h : Geometry). heads_of h (medium new).bytes) (sym same);
      clips_are = n.noted.clips ∙ ap (λ (cs : List (Option Span)). set cs id clip) known.clips_are ∙ sym (n.clips r one);
    }

index-noted : {A : Type 0} (was now : Index A) (id : ℕ) (clip : Option Span) → IsClipNoted was now id clip
    → IsIndex was → IsIndex now
index-noted was now id clip noted whole =
    let same = geometry-same was now id clip noted in record {
      count = ap length noted.heads ∙ whole.count ∙ ap (λ (h : Geometry). h.segments) (sym same);
      within = subst (λ (h : Geometry). All (IsHeadIn h) now.table.heads) (sym same) (subst (All (IsHeadIn was.ring.geometry)) (sym noted.heads) whole.within);
      few = subst (λ (h : Geometry). now.next ≤ last_number (ring_of h)) (sym same)
          (subst (λ (k : ℕ). k ≤ last_number (ring_of was.ring.geometry)) (sym noted.next) whole.few);
      counted = noted.counted ∙ (λ i. clip_counts (ring_of (sym same i)) now.clips (sym noted.heads i));
      places = ap (λ (ts : List SlotStamp). length ts) noted.stamps ∙ whole.places ∙ (λ i. (sym same i).segments * (sym same i).slots);
    }

-- the stamps are those from before
stamps-noted : {A : Type 0} (was now : Index A) (id : ℕ) (clip : Option Span) (r t : Recording)
    → IsClipNoted was now id clip → t.frames ≡ r.frames → AreStamps (stamps-in was) r → AreStamps (stamps-in now) t
stamps-noted was now id clip r t noted same times = λ n p there.
    (λ i. stamp_under (geometry-same was now id clip noted i).slots (noted.heads i) (noted.stamps i) n)
    ∙ times n p (ap (λ (fs : List (ℕ × Picture)). frame_under fs n) (sym same) ∙ there)

-- with made-up frames, the index describes the recording with the step
pub drawn-noted : {A : Type 0} (was now : Index A) (id : ℕ) (clip : Option Span) (IsOne : Recording → Type 0)
    (step : Step) → (known : IsRecovered was (drawn_image was.ring.geometry was.table.heads was.clips)) → IsIndex was
    → IsOne known.recording → IsClipNoted was now id clip
    → IsRedrawn was.ring.geometry id clip IsOne step
    → (after_step (ring_of was.ring.geometry) known.recording step).next ≡ known.recording.next
    → (after_step (ring_of was.ring.geometry) known.recording step).clips ≡ set known.recording.clips id clip
    → IsIndexOf now (after_step (ring_of was.ring.geometry) known.recording step) (drawn_image now.ring.geometry now.table.heads now.clips)
drawn-noted was now id clip IsOne step known whole one noted re next clips =
    let g = was.ring.geometry in
    let r = known.recording in
    let heads = was.table.heads in
    let image = drawn_image g heads was.clips in
    let low : r.next ≤ 2 ^ 62 = omega (arith, known.known.next_is, whole.few, mul-div-le (2 ^ 62) g.slots) in
    let formed = reading-well_formed g r image known.known.held in
    let size : length was.clips ≡ 64 = ap length known.known.clips_are ∙ formed.ids in
    let shows = drawn-clip g heads was.clips id clip re.low (omega (arith, re.low, size)) (re.fits r one formed low) in
    known-drawn now g heads (set was.clips id clip) (after_step (ring_of g) r step) was.ring.good whole.count
    whole.within (re.shown r image (drawn_image g heads (set was.clips id clip)) one known.known.held shows)
    (geometry-same was now id clip noted) noted.heads noted.clips (noted.next ∙ known.known.next_is ∙ sym next)
    (ap (λ (cs : List (Option Span)). set cs id clip) known.known.clips_are ∙ sym clips)

pub kept-noted : {D A : Type 0} (medium : D → Medium) (old new : D) (was now : Index A) (id : ℕ) (clip : Option Span)
    (IsOne : Recording → Type 0) (step : Step) (must : Bool) → IsKept medium old was must → must ≡ false
    → ((r : Recording) (image : List ℕ) → IsIndexOf was r image → IsOne r) → Noted medium old new was now id clip IsOne step → IsKept medium new now must
kept-noted {A = A} medium old new was now id clip IsOne step must kept fine one n =
    let same = geometry-same was now id clip n.noted in
    let r0 = kept.known.recording in
    let one0 = one r0 (drawn_image was.ring.geometry was.table.heads was.clips) kept.known.known in record {
      fits = record {
        size_is = n.called.size ∙ kept.fits.size_is ∙ ap disk_size (sym same);
        whole = index-noted was now id clip n.noted kept.fits.whole;
      };
      known = record {
        recording = after_step (ring_of was.ring.geometry) r0 step;
        known =
            drawn-noted was now id clip IsOne step kept.known kept.fits.whole one0 n.noted n.redrawn (n.next r0)
            (n.clips r0 one0);
      };
      present = λ f honest.
          let back = n.called.honest.1 honest in record {
            recorded = recorded honest;
            version = (n.segments back).version ∙ (kept.present fine back).version ∙ sym n.noted.version;
            settled = n.settled back;
            unstray = subst (λ (h : Geometry). HasNoneStray h (medium new).bytes) (sym same) (n.segments back).unstray;
            stamped = record { each = λ r held. timed honest r held };
          };
    }
  where
    recorded : (medium new).honest → IsRecovered now (medium new).bytes
    recorded honest =
        let back = n.called.honest.1 honest in
        let there = (kept.present fine back).recorded in record {
          recording = after_step (ring_of was.ring.geometry) there.recording step;
          known = known-noted medium old new was now id clip IsOne step there.recording n (one there.recording (medium old).bytes there.known) back there.known;
        }

    timed : (medium new).honest → (r : Recording) → Holds now.ring.geometry r (medium new).bytes → AreStamps (stamps-in now) r
    timed honest r held =
        let back = n.called.honest.1 honest in
        let there = (kept.present fine back).recorded in
        let t = after_step (ring_of was.ring.geometry) there.recording step in
        subst (AreStamps (stamps-in now)) (one-recording now.ring.geometry t r (medium new).bytes (recorded honest).known.held held)
        (stamps-noted was now id clip there.recording t n.noted (n.redrawn.frames there.recording)
        ((kept.present fine back).stamped.each there.recording there.known.held))

-- each recording that the store reported before, with the step
pub told-noted : {D A : Type 0} (medium : D → Medium) (old new : D) (was now : Index A) (id : ℕ) (clip : Option Span)
    (IsOne : Recording → Type 0) (step : Step) (must : Bool) (r : Recording) → (kept : IsKept medium old was must)
    → Tells (seen_with old was must) r
    → ((r : Recording) (image : List ℕ) → IsIndexOf was r image → IsOne r)
    → Noted medium old new was now id clip IsOne step → Tells (seen_with new now must)
    (plain (ring_of was.ring.geometry) r (step ∷ []))
told-noted medium old new was now id clip IsOne step must r kept told one n =
    let g = was.ring.geometry in
    let r0 = kept.known.recording in
    let one0 = one r0 (drawn_image g was.table.heads was.clips) kept.known.known in
    let some = (limits g was.ring.good).slots.0 in
    let slots : 1 ≤ now.ring.geometry.slots = subst (λ (h : Geometry). 1 ≤ h.slots) (sym (geometry-same was now id clip n.noted)) some in
    let drawn_on = drawn-noted was now id clip IsOne step kept.known kept.fits.whole one0 n.noted n.redrawn (n.next r0) (n.clips r0 one0) in
    told-as new now must (after_step (ring_of g) r0 step) (after_step (ring_of g) r step)
    (drawn_image now.ring.geometry now.table.heads now.clips) slots
    (index-noted was now id clip n.noted kept.fits.whole).within drawn_on
    (n.redrawn.stepped r0 r (alike-by medium old was must r kept told))
    (stamps-noted was now id clip r (after_step (ring_of g) r step) n.noted (n.redrawn.frames r) (stamps-known old was must r told))

pub stands-noted : {D A : Type 0} (medium : D → Medium) (old new : D) (was now : Index A) (id : ℕ)
    (clip : Option Span) (IsOne : Recording → Type 0) (step : Step) (must : Bool) (r : Recording)
    → (kept : IsKept medium old was must) → must ≡ false → StandsFor medium (seen_with old was must) r
    → ((r : Recording) (image : List ℕ) → IsIndexOf was r image → IsOne r)
    → Noted medium old new was now id clip IsOne step → StandsFor medium (seen_with new now must)
    (plain (ring_of was.ring.geometry) r (step ∷ []))
stands-noted medium old new was now id clip IsOne step must r kept fine stands one n =
    record {
      told = told-noted medium old new was now id clip IsOne step must r kept stands.told one n;
      settled = λ still there. n.settled (n.called.honest.1 there);
      held = λ still there.
          let back = n.called.honest.1 there in
          let known = known-by medium old was must r kept stands fine back in
          (known-noted medium old new was now id clip IsOne step r n (one r (medium old).bytes known) back known).held;
      version_is = λ still there.
          let back = n.called.honest.1 there in
          (n.segments back).version ∙ stands.version_is fine back ∙ sym n.noted.version;
    }

-- a lock and an unlock
pub lock-redrawn : (v : ℕ) (g : Geometry) (id : ℕ) (span : Span) → id < 64 → span.tag < 2 ^ 64
    → IsRedrawn g id (Some span) (CanTake v g span id) (lock span)
lock-redrawn v g id span low tag = record {
  low = low;
  fits = λ r one formed next.
      let k = both (leb span.from span.to && holds_all r span) (ltb (free_id r) 64) one.legal in
      let m = both (leb span.from span.to) (holds_all r span) k.0 in
      let order = at_most span.from span.to m.0 in
      let last = all_range-each (holds r) span.from (span.to + 1 - span.from) span.to m.1 order (omega (arith, order)) in
      let top = (rising-range 0 r.next span.to r.frames formed.rising (held-among span.to r.frames last)).1 in
      record { from = omega (arith, order, top, next); to = omega (arith, top, next); tag = tag; placed = refl };
  shown = λ r old new one held shows. lock-held v g r span id old new held one shows;
  alike = λ r t same one.
      let first = sym (span-same v r t span same) ∙ one.fits in
      let is = one.id_is ∙ free-same r t same in
      record { fits = first; legal = fits-legal v (ring_of g) t span first (subst (λ (n : ℕ). n < 64) is low); id_is = is };
  stepped = λ r t same. locked-same (ring_of g) r t span same;
  frames = λ r. refl;
}

pub unlock-redrawn : (g : Geometry) (id : ℕ) → id < 64 → IsRedrawn g id None (λ r. clip_of r id ≢ None) (unlock id)
unlock-redrawn g id low = record {
  low = low;
  fits = λ r one formed next. tt;
  shown = λ r old new one held shows. unlock-held g r id old new held low shows;
  alike = λ r t same one none. one (clip-same r t id same ∙ none);
  stepped = λ r t same. unlocked-same (ring_of g) r t id same;
  frames = λ r. refl;
}

-- ---- runs of held numbers

-- the numbers of a block's frames, from one of them on, are held
pub run-held : (g : Geometry) (r : Recording) (image : List ℕ) (table : List (Option SegmentHead)) (j n m : ℕ)
    (h : SegmentHead) → Holds g r image → table ≡ heads_of g image → All (IsHeadIn g) table → j < g.segments
    → 1 ≤ g.slots
    → get_or table j None ≡ Some h → has_number g.slots n (get_or table j None) ≡ true → n ≤ m → m < h.block * g.slots + h.frames → holds r m ≡ true
run-held g r image table j n m h held same within l some there has low high =
    let few : h.frames ≤ g.slots = (subst (IsHeadIn g) there (within-at j l)).0 in
    let mine : has_number g.slots n (Some h) ≡ true = subst (λ (o : Option SegmentHead). has_number g.slots n o ≡ true) there has in
    let from : h.block * g.slots ≤ n = first-le (among-block n g.slots h.block h.frames some few ∙ mine) in
    let next : has_number g.slots m (Some h) ≡ true = sym (among-block m g.slots h.block h.frames some few)
    ∙ among-range m (h.block * g.slots) h.frames
    ∙ (λ i. at_most_test (h.block * g.slots) m (omega (arith, from, low)) i && at_most_test (suc m)
    (h.block * g.slots + h.frames) (omega (arith, high)) i) in
    there-held g r image table j m held same l (ap (has_number g.slots m) there ∙ next)
  where
    within-at : (j : ℕ) → j < g.segments → IsHeadIn g (get_or table j None)
    within-at j l = within j None (omega (arith, l, ap length same, heads-length g image))

    first-le : is_among (range_with_len (h.block * g.slots) h.frames) n ≡ true → h.block * g.slots ≤ n
    first-le e = at_most (h.block * g.slots) n
        (both (leb (h.block * g.slots) n) (ltb n (h.block * g.slots + h.frames))
        (sym (among-range n (h.block * g.slots) h.frames) ∙ e)).0

-- the number is at most the one after the block's frames
pub run-from : (slots n block frames : ℕ) (o : Option SegmentHead) → o ≡ Some (record { block = block; frames = frames })
    → has_number slots n o ≡ true → n ≤ block * slots + frames
run-from slots n block frames o is has =
    let b = both (eqb block (n / slots)) (ltb (n % slots) frames) (sym (ap (has_number slots n) is) ∙ has) in
    let product : block * slots ≡ n / slots * slots = ap (λ (k : ℕ). k * slots) (equal block (n / slots) b.0) in
    let slot : suc (n % slots) ≤ frames = at_most (suc (n % slots)) frames b.1 in
    omega (arith, product, slot, div-add-mod' n slots)

-- the run ends after the block's frames
pub run-ends : (g : Geometry) (r : Recording) (image : List ℕ) (table : List (Option SegmentHead)) (j n end : ℕ)
    (h : SegmentHead) → Holds g r image → table ≡ heads_of g image → All (IsHeadIn g) table → j < g.segments
    → get_or table j None ≡ Some h
    → has_number g.slots n (get_or table j None) ≡ true → end ≡ h.block * g.slots + h.frames → EndsRun (ring_of g) r n end
run-ends g r image table j n end h held same within l there has is = go (cases_lt h.frames g.slots)
  where
    few : h.frames ≤ g.slots
    few = (subst (IsHeadIn g) there (within j None (omega (arith, l, ap length same, heads-length g image)))).0

    of : h.block ≡ n / g.slots
    of = equal h.block (n / g.slots) (both (eqb h.block (n / g.slots)) (ltb (n % g.slots) h.frames) (sym (ap (has_number g.slots n) there) ∙ has)).0

    go : (h.frames < g.slots) ⊎ (g.slots ≤ h.frames) → EndsRun (ring_of g) r n end
    go (inl room) = inl (ap (holds r) is ∙ missing-behind g r image j h held
        (ap (λ (hs : List (Option SegmentHead)). get_or hs j None) (sym same) ∙ there) room)
    go (inr full) =
        let block : h.block * g.slots ≡ n / g.slots * g.slots = ap (λ (b : ℕ). b * g.slots) of in
        inr (omega (arith, is, few, full, block, add-mul (n / g.slots) 1 g.slots))

-- ---- a store

-- a call that adds or removes a clip: by its answers, and by the recordings in which it may be made
pub record IsClipCall (H : Type 0) (version : ℕ) (g : Geometry) (c : Call) (IsOne : Recording → Type 0) : Type 0 where
  pub leaves : (v : ℕ) → version_after v c ≡ v
  pub writes : is_look c ≡ false
  pub late : was_refused c ≡ false
  pub answers : (s : StoreState) → s.must_reopen ≡ false → version ≡ s.version → IsOne s.recording
      → IsAnswered H (ring_of g) s c

pub goes-noted : {D A : Type 0} (medium : D → Medium) (old new : D) (was now : Index A) (must : Bool) (id : ℕ)
    (clip : Option Span) (IsOne : Recording → Type 0) (step : Step) (c : Call) → IsKept medium old was must
    → must ≡ false
    → Noted medium old new was now id clip IsOne step
    → ((r : Recording) → IsOne r → (medium old).honest → Holds was.ring.geometry r (medium old).bytes
    → LeavesOnly (medium old) (medium new) (HoldsSome was.ring.geometry r (step ∷ [])))
    → ((r : Recording) (image : List ℕ) → IsIndexOf was r image → IsOne r)
    → ((H : Type 0) → IsClipCall H was.version was.ring.geometry c IsOne) → has_failed c ≡ false → failed_for c ≡ None
    → ((s : StoreState) → made_by (ring_of was.ring.geometry) s c ≡ step ∷ [])
    → ((s : StoreState) → begun_by (ring_of was.ring.geometry) s c ≡ [])
    → Goes medium (seen_with old was must) (seen_with new now must) (c ∷ [])
goes-noted medium old new was now must id clip IsOne step c kept fine n moments one call unfailed none made_all begun_none =
    goes-done medium (seen_with old was must) (seen_with new now must) c (λ r. step ∷ []) (record {
      writes = (call (Unit {0})).writes;
      late = (call (Unit {0})).late;
      one = one-kept medium old was must kept;
      fine = fine;
      still = fine;
      geometry = geometry-same was now id clip n.noted;
      version = λ v e. n.noted.version ∙ e ∙ sym ((call (Unit {0})).leaves v);
      keep = n.noted.keep;
      called = n.called;
      unfailed = unfailed;
      none = none;
      made_all = λ s kept. made_all s;
      begun_none = begun_none;
      answers = λ s told.
          (call ((medium old).honest × Stands medium (seen_with old was must) s)).answers s (sym told.must_reopen ∙ fine) told.version
          (n.redrawn.alike kept.known.recording s.recording
          (alike-by medium old was must s.recording kept told.recording)
          (one kept.known.recording (drawn_image was.ring.geometry was.table.heads was.clips) kept.known.known));
      moments = λ r stands honest. let known = known-by medium old was must r kept stands fine honest in
          moments r (one r (medium old).bytes known) honest known.held;
      tells = λ r told. told-noted medium old new was now id clip IsOne step must r kept told one n;
      stands = λ r stands. stands-noted medium old new was now id clip IsOne step must r kept fine stands one n;
    })

pub goes-unnoted : {D A : Type 0} (medium : D → Medium) (old new : D) (was now : Index A) (must : Bool)
    (IsOne : Recording → Type 0) (step : Step) (c : Call) (fault : DiskFault) → IsKept medium old was must
    → must ≡ false → now ≡ was → ((r t : Recording) → IsSame r t → IsOne r → IsOne t)
    → ((medium new).honest → IsSound (medium new)) → Called (medium old) (medium new) (Some fault)
    → ((r : Recording) → IsOne r → (medium old).honest → Holds was.ring.geometry r (medium old).bytes
    → LeavesOnly (medium old) (medium new) (HoldsSome was.ring.geometry r (step ∷ [])))
    → ((r : Recording) (image : List ℕ) → IsIndexOf was r image → IsOne r)
    → ((H : Type 0) → IsClipCall H was.version was.ring.geometry c IsOne) → has_failed c ≡ true → failed_for c ≡ Some fault
    → ((s : StoreState) → made_by (ring_of was.ring.geometry) s c ≡ [])
    → ((s : StoreState) → begun_by (ring_of was.ring.geometry) s c ≡ step ∷ [])
    → Goes medium (seen_with old was must) (seen_with new now true) (c ∷ [])
goes-unnoted medium old new was now must IsOne step c fault kept fine same alike sound called moments one call has some made_none begun_all =
    goes-failed medium (seen_with old was must) (seen_with new now true) c (λ r. step ∷ []) fault (record {
      writes = (call (Unit {0})).writes;
      late = (call (Unit {0})).late;
      one = one-kept medium old was must kept;
      fine = fine;
      failed = λ i. seen_with new (same i) true;
      version = (call (Unit {0})).leaves;
      called = called;
      sound = sound;
      has = has;
      some = some;
      made_none = made_none;
      begun_all = λ s kept. begun_all s;
      answers = λ s told.
          (call ((medium old).honest × Stands medium (seen_with old was must) s)).answers s (sym told.must_reopen ∙ fine) told.version
          (alike kept.known.recording s.recording (alike-by medium old was must s.recording kept told.recording)
          (one kept.known.recording (drawn_image was.ring.geometry was.table.heads was.clips) kept.known.known));
      moments = λ r stands honest. let known = known-by medium old was must r kept stands fine honest in
          moments r (one r (medium old).bytes known) honest known.held;
    })

-- ---- refusals

-- a span that is refused says nothing of the disk
pub record IsSpanQuiet (fault : StoreFault) : Type 0 where
  pub unfailed : is_disk fault ≡ false
  pub none : failed_by fault ≡ None

quiet-as : (fault is : StoreFault) → fault ≡ is → IsSpanQuiet is → IsSpanQuiet fault
quiet-as fault is e quiet = subst IsSpanQuiet (sym e) quiet

span-quiet : (version : ℕ) (span : Span) (clips : List (Option Span)) (fault : StoreFault)
    → CanRefuseSpan version span clips fault → IsSpanQuiet fault
span-quiet version span clips fault (inl x) = quiet-as fault _ x.0 (record { unfailed = refl; none = refl })
span-quiet version span clips fault (inr (inl x)) = quiet-as fault _ x.0.1.0 (record { unfailed = refl; none = refl })
span-quiet version span clips fault (inr (inr (inl x))) = quiet-as fault _ x.0 (record { unfailed = refl; none = refl })
span-quiet version span clips fault (inr (inr (inr x))) = quiet-as fault _ x.0 (record { unfailed = refl; none = refl })

pub lock-refused : {D : Type 0} (medium : D → Medium) (s : Seen D) (span : Span) (fault : StoreFault) → TellsOne s
    → ((medium s.disk).honest → IsSound (medium s.disk)) → s.must_reopen ≡ false → CanRefuseSpan s.version span s.clips fault
    → ((r : Recording) → Tells s r → first_of (span_checks s.version r span) ≡ Some fault) → Goes medium s s (locked span (Err fault) ∷ [])
lock-refused medium s span fault one sound fine can first =
    let quiet = span-quiet s.version span s.clips fault can in
    goes-refused medium s (locked span (Err fault)) one sound (record {
      version = λ v. refl;
      unfailed = quiet.unfailed;
      none = quiet.none;
      made_none = λ g t. refl;
      begun_none = λ g t. ap (λ (b : Bool). if b then lock span ∷ [] else []) quiet.unfailed;
    }) (λ H t told. answer-due H s.geometry t (locked span (Err fault)) fault (sym told.must_reopen ∙ fine)
    (ap (λ (v : ℕ). first_of (span_checks v t.recording span)) (sym told.version) ∙ first t.recording told.recording) refl)

-- ---- an unlock

some-is : (o : Option Span) → o ≢ None → not (is_some o) ≡ false
some-is None e = absurd (e refl)
some-is (Some s) e = refl

none-is : (o : Option Span) → o ≡ None → not (is_some o) ≡ true
none-is None e = refl
none-is (Some s) e = absurd cc

-- a clip that is there may be removed
pub unlock-answered : (H : Type 0) (g : Geometry) (s : StoreState) (id : ℕ) (result : Result (Unit {0}) StoreFault)
    → s.must_reopen ≡ false → clip_of s.recording id ≢ None → AnswersOtherwise H s (unlocked id result)
    → IsAnswered H (ring_of g) s (unlocked id result)
unlock-answered H g s id result fine some is = answer-given H g s (unlocked id result) fine
    (passed (not (is_some (clip_of s.recording id))) NoSuchClip [] (some-is (clip_of s.recording id) some)) is

pub unlock-refused : {D : Type 0} (medium : D → Medium) (s : Seen D) (id : ℕ) → TellsOne s
    → ((medium s.disk).honest → IsSound (medium s.disk)) → s.must_reopen ≡ false
    → ((r : Recording) → Tells s r → clip_of r id ≡ None) → Goes medium s s (unlocked id (Err NoSuchClip) ∷ [])
unlock-refused medium s id one sound fine none =
    goes-refused medium s (unlocked id (Err NoSuchClip)) one sound (record {
      version = λ v. refl;
      unfailed = refl;
      none = refl;
      made_none = λ g t. refl;
      begun_none = λ g t. refl;
    }) (λ H t told. answer-due H s.geometry t (unlocked id (Err NoSuchClip)) NoSuchClip (sym told.must_reopen ∙ fine)
    (failed (not (is_some (clip_of t.recording id))) NoSuchClip []
    (none-is (clip_of t.recording id) (none t.recording told.recording))) refl)

-- what an index says of an id is what its recording does
pub clip-known : {A : Type 0} (index : Index A) (r : Recording) (image : List ℕ) (id : ℕ) → IsIndexOf index r image
    → clip_of r id ≡ get_or index.clips id None
clip-known index r image id known = ap (λ (cs : List (Option Span)). get_or cs id None) (sym known.clips_are)
