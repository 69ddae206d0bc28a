-- What opening makes of a disk.
use Rattle.std.proofs.Common.{◌≡◌, ◌≢◌, ◌⊎◌, inl, inr, ℕ, ◌+◌, ◌-◌, ◌*◌, ◌/◌, ◌%◌, ◌^◌, ◌<◌, ◌≤◌, Bool, true, false, not, eqb, ltb, Option, Some, None, Result, Ok, Err, List, [], ◌∷◌, ◌++◌, length, set, get_or, map, refl, sym, ap, ◌∙◌, subst, arith}
use Rattle.std.proofs.Math.Nat.{add-mul, div-eq_of_lt-le, mul-le-mul_right, mul_comm}
use Rattle.std.proofs.lemmas.Nat.{le-div}
use Rattle.std.proofs.lemmas.Bool.{cases_lt}
use Rattle.std.proofs.lemmas.Bool.Decides.{nat_tests}
use Rattle.std.proofs.lemmas.List.{length-map, set-get_or}
use Rattle.std.proofs.lemmas.List.Folds.{list_any_at}
use Rattle.std.specs.List.{All, list_any, position, range_with_len}
use Rattle.loop_disk.specs.Calls.{Stays}
use Rattle.loop_disk.specs.Medium.{MayBe, Medium, IsSettled, IsSound, LeavesOnly}
use Rattle.loop_disk.proofs.Moments.{each_now, goes_on, joined, of_bytes, started, weaker}
use Rattle.loop_record.specs.declared.clip.Span.{Span}
use Rattle.loop_record.specs.declared.damage.LayoutFault.{LayoutFault}
use Rattle.loop_record.specs.declared.geometry.Geometry.{Geometry}
use Rattle.loop_record.specs.declared.image.Found.{Found}
use Rattle.loop_record.specs.declared.segment.SegmentHead.{SegmentHead}
use Rattle.loop_record.specs.Change.{ShowsSegment}
use Rattle.loop_record.specs.Geometry.{frame_bytes, segment_at, segment_size, slot_at}
use Rattle.loop_record.specs.Layout.{Segment, segment_in, slot_in, version_in, whole_frames}
use Rattle.loop_record.specs.Plain.{AreIn, IsIn, segments_of}
use Rattle.loop_record.specs.Reading.{Contents, Holds, by_block, recording_or_damage, lacks_frame, next_after, open_segments, reading}
use Rattle.loop_record.specs.Parts.{parts_of}
use Rattle.loop_record.specs.Recording.{Recording, last_number, ring_of}
use Rattle.loop_record.proofs.Bounds.{limits}
use Rattle.loop_record.proofs.Changes.{shown_of, is_overfull, next_after-behind}
use Rattle.loop_record.proofs.TestFacts.{clash, differ, equal, equal_test, neither, not_below, not_false}
use Rattle.loop_record.proofs.Parts.{reading-stages, geometry-good, these, version-outside}
use Rattle.loop_record.proofs.Readings.{length-range, overfull_none, reading-same, segments_length, segment_there, whole-length}
use Rattle.loop_record.proofs.Segments.{placed_there}
use Rattle.loop_ring.specs.Heads.{heads_of, is_of}
use Rattle.loop_ring.specs.Writes.{HasNoStray}
use Rattle.loop_ring.proofs.Heads.{head_of, head-there, heads-length, heads-shown, newest-found, one-entry, position-none}
use Rattle.loop_store.specs.Faults.{is_disk}
use Rattle.loop_store.specs.Grow.{HasNoneStray}
use Rattle.loop_store.specs.declared.index.Index.{Index}
use Rattle.loop_store.specs.declared.fault.StoreFault.{StoreFault}
use Rattle.loop_store.specs.Make.{WasOr}
use Rattle.loop_store.specs.Reopen.{IsBadKeep, IsOpened, IsReadOf, IsRefusedOpen, ReadsAlike, is_bad_keep}
use Rattle.loop_store.specs.Found.{IsHeadIn}
use Rattle.loop_store.specs.Index.{IsFitting, IsRecovered, IsRecoveredIn, keeping}
use Rattle.loop_store.specs.Store.{IsPresent}
use Rattle.loop_store.specs.Times.{KnowsStamps}
use Rattle.loop_store.specs.Seen.{seen_with}
use Rattle.loop_store.proofs.Looks.{told-by}
use Rattle.loop_store.proofs.AppendPlaces.{found-of}

-- ---- the next number

last-of : (g : Geometry) (f : Found) → 1 ≤ g.slots → IsIn g f → f.block * g.slots + f.frames ≤ last_number (ring_of g)
last-of g f some here =
    let end : (f.block + 1) * g.slots ≤ 2 ^ 62 = not_below (2 ^ 62) ((f.block + 1) * g.slots) here.low in
    let blocks : f.block + 1 ≤ 2 ^ 62 / g.slots = le-div (f.block + 1) (2 ^ 62) g.slots some end in
    let most : (f.block + 1) * g.slots ≤ 2 ^ 62 / g.slots * g.slots = mul-le-mul_right g.slots blocks in
    let turned : 2 ^ 62 / g.slots * g.slots ≡ g.slots * (2 ^ 62 / g.slots) = mul_comm (2 ^ 62 / g.slots) g.slots in
    let split : (f.block + 1) * g.slots ≡ f.block * g.slots + 1 * g.slots = add-mul f.block 1 g.slots in
    omega (arith, most, turned, split, here.few)

-- no found segment has a number from the last on
pub next-few : (g : Geometry) (image : List ℕ) (fs : List Found) → 1 ≤ g.slots → AreIn g fs
    → next_after g (segments_of g image fs) ≤ last_number (ring_of g)
next-few g image [] some within = omega arith
next-few g image (f ∷ []) some within =
    let count : length (map (λ i. slot_in (frame_bytes g) image (slot_at g f.segment i))
    (range_with_len 0 f.frames)) ≡ f.frames = length-map (range_with_len 0 f.frames)
    (λ i. slot_in (frame_bytes g) image (slot_at g f.segment i)) ∙ length-range 0 f.frames in
    omega (arith, count, last-of g f some within.0)
next-few g image (f ∷ h ∷ fs) some within = next-few g image (h ∷ fs) some within.1

-- ---- segments that have all their frames

-- a segment that lies before another has all its frames
full-before : (g : Geometry) (lower higher : List Segment) (u h : Segment)
    → lacks_frame g (lower ++ u ∷ h ∷ higher) ≡ false → length u.slots ≡ g.slots
full-before g [] higher u h e = equal (length u.slots) g.slots
    (not_false (eqb (length u.slots) g.slots)
    (neither (not (eqb (length u.slots) g.slots)) (lacks_frame g (h ∷ higher)) e).0)
full-before g (s ∷ []) higher u h e = full-before g [] higher u h (neither (not (eqb (length s.slots) g.slots)) (lacks_frame g (u ∷ h ∷ higher)) e).1
full-before g (s ∷ t ∷ lower) higher u h e = full-before g (t ∷ lower) higher u h
    (neither (not (eqb (length s.slots) g.slots)) (lacks_frame g (t ∷ lower ++ u ∷ h ∷ higher)) e).1

-- so does the last one, if the next number isn't of its block
full-last : (g : Geometry) (u : Segment) (next : ℕ) → next ≡ u.block * g.slots + length u.slots
    → length u.slots ≤ g.slots → u.block ≢ next / g.slots → length u.slots ≡ g.slots
full-last g u next is most apart = go (cases_lt (length u.slots) g.slots)
  where
    split : (u.block + 1) * g.slots ≡ u.block * g.slots + g.slots
    split = omega (arith, add-mul u.block 1 g.slots)

    go : (length u.slots < g.slots) ⊎ (g.slots ≤ length u.slots) → length u.slots ≡ g.slots
    go (inl l) = absurd (apart (sym (div-eq_of_lt-le g.slots (omega (arith, is)) (omega (arith, is, split, l)))))
    go (inr l) = omega (arith, l, most)

full_of : (g : Geometry) (clips : List (Option Span)) (r : Recording) (u : Segment) (lower higher : List Segment)
    → recording_or_damage g (lower ++ u ∷ higher) clips ≡ Ok r
    → list_any (is_overfull g) (lower ++ u ∷ higher) ≡ false → u.block ≢ r.next / g.slots
    → length u.slots ≡ g.slots
full_of g clips r u lower (h ∷ hs) e fits apart = full-before g lower hs u h (shown_of g (lower ++ u ∷ h ∷ hs) clips r e).full
full_of g clips r u lower [] e fits apart =
    let next : r.next ≡ u.block * g.slots + length u.slots =
    sym (ap (λ (q : Recording). q.next) (shown_of g (lower ++ u ∷ []) clips r e).is)
    ∙ next_after-behind g lower u [] in
    full-last g u r.next next (not_below g.slots (length u.slots) (last-fits lower fits)) apart
  where
    last-fits : (ss : List Segment) → list_any (is_overfull g) (ss ++ u ∷ []) ≡ false → is_overfull g u ≡ false
    last-fits [] e = (neither (is_overfull g u) false e).0
    last-fits (s ∷ ss) e = last-fits ss (neither (is_overfull g s) (list_any (is_overfull g) (ss ++ u ∷ [])) e).1

-- an open segment that hasn't the block of the next number has all its frames
pub full-other : (g : Geometry) (r : Recording) (image : List ℕ) (j : ℕ) (u : Segment) → Holds g r image
    → j < g.segments → segment_in g image j ≡ Some u → u.block ≢ r.next / g.slots → whole_frames g image j ≡ g.slots
full-other g r image j u e l there apart =
    let ps = (parts_of g image).segments in
    let clips = (parts_of g image).clips in
    let was = reading-stages g r image e in
    let is : get_or ps j None ≡ Some u = segment_there g image j l ∙ there in
    let single = (shown_of g (by_block (open_segments ps)) clips r was.recording).single in
    let p = placed_there u j ps (omega (arith, l, segments_length g image)) is single in
    let whole : set ps j (Some u) ≡ ps = sym (ap (λ (q : Option Segment). set ps j q) is) ∙ set-get_or ps j None in
    let sorted : by_block (open_segments ps) ≡ p.lower ++ u ∷ p.higher = sym (ap (λ qs. by_block (open_segments qs)) whole) ∙ p.with_it u refl in
    let before : recording_or_damage g (p.lower ++ u ∷ p.higher) clips ≡ Ok r = sym (ap (λ ss. recording_or_damage g ss clips) sorted) ∙ was.recording in
    let fits : list_any (is_overfull g) (p.lower ++ u ∷ p.higher) ≡ false = sym (ap (list_any (is_overfull g)) sorted) ∙ overfull_none g image in
    whole-length g image j u there ∙ full_of g clips r u p.lower p.higher before fits apart

-- and no stray gate
full-stray : (g : Geometry) (j : ℕ) (image : List ℕ) → whole_frames g image j ≡ g.slots → HasNoStray g j image
full-stray g j image whole i low high = absurd (omega (arith, whole, low, high))

-- ---- stray gates

-- an open segment, by whether it has the block of the next number
stray-by : (g : Geometry) (r : Recording) (image : List ℕ) (i : ℕ) → Holds g r image → i < g.segments
    → ((u : Segment) → segment_in g image i ≡ Some u → u.block ≡ r.next / g.slots → HasNoStray g i image)
    → segment_in g image i ≢ None → HasNoStray g i image
stray-by g r image i e l newest is_there = go (segment_in g image i) refl
  where
    by : (u : Segment) → segment_in g image i ≡ Some u → (t : Bool) → eqb u.block (r.next / g.slots) ≡ t
        → HasNoStray g i image
    by u there true is = newest u there (equal u.block (r.next / g.slots) is)
    by u there false is = full-stray g i image (full-other g r image i u e l there (λ same. differ u.block (r.next / g.slots) is same))

    go : (o : Option Segment) → segment_in g image i ≡ o → HasNoStray g i image
    go None there = absurd (is_there there)
    go (Some u) there = by u there (eqb u.block (r.next / g.slots)) refl

-- where no segment has the block of the next number, there is none
pub unstray-missing : (g : Geometry) (r : Recording) (image : List ℕ) → Holds g r image
    → position (is_of (r.next / g.slots)) (heads_of g image) ≡ None → HasNoneStray g image
unstray-missing g r image e missing i l open_is = stray-by g r image i e l none open_is
  where
    none : (u : Segment) → segment_in g image i ≡ Some u → u.block ≡ r.next / g.slots → HasNoStray g i image
    none u there same =
        let b = r.next / g.slots in
        let here : is_of b (get_or (heads_of g image) i None) ≡ true = ap (is_of b) (head-there g image i l ∙ ap head_of there) ∙ equal_test u.block b same in
        absurd (clash (list_any (is_of b) (heads_of g image))
        (list_any_at (is_of b) (heads_of g image) i None (omega (arith, l, heads-length g image)) here)
        (position-none (is_of b) (heads_of g image) missing))

-- where the segment of that block has none, there is none
pub unstray-found : (g : Geometry) (r : Recording) (image : List ℕ) (j : ℕ) → Holds g r image
    → position (is_of (r.next / g.slots)) (heads_of g image) ≡ Some j → HasNoStray g j image → HasNoneStray g image
unstray-found g r image j e found clean i l open_is = stray-by g r image i e l same open_is
  where
    same : (u : Segment) → segment_in g image i ≡ Some u → u.block ≡ r.next / g.slots → HasNoStray g i image
    same u there block =
        let n = newest-found g r image j e found in
        let head : get_or (heads_of g image) i None ≡ Some (record { block = u.block; frames = length u.slots }) = head-there g image i l ∙ ap head_of there in
        let at : j ≡ i = one-entry g r image j i _ _ e n.head head (sym block) in
        subst (λ (k : ℕ). HasNoStray g k image) at clean

-- ---- a segment that shows the same

-- the headers say the same
pub heads-same : (g : Geometry) (r : Recording) (j : ℕ) (old new : List ℕ) → Holds g r old → j < g.segments
    → ShowsSegment g j (segment_in g old j) old new → heads_of g new ≡ heads_of g old
heads-same g r j old new e l shows =
    let few = (limits g (geometry-good g old (reading-stages g r old e).geometry)).slots.1 in
    heads-shown g j (segment_in g old j) old new few l shows
    ∙ ap (λ (h : Option SegmentHead). set (heads_of g old) j h) (sym (head-there g old j l))
    ∙ set-get_or (heads_of g old) j None

-- the image reads alike
pub alike-same : (g : Geometry) (r : Recording) (j : ℕ) (old new : List ℕ) → Holds g r old → j < g.segments
    → ShowsSegment g j (segment_in g old j) old new → ReadsAlike old new
alike-same g r j old new e l shows =
    (reading-same g r old new j e l shows ∙ sym e, version-outside (segment_at g j) (segment_size g) old new (omega arith) shows.outside)

-- ---- moments

-- a run that left all as it was
pub stays-moments : (old new : Medium) → IsSound old → Stays old new → LeavesOnly old new (WasOr old (ReadsAlike old.bytes))
stays-moments old new sound stays =
    goes_on old old new (WasOr old (ReadsAlike old.bytes)) old.may_leave
    (started old (WasOr old (ReadsAlike old.bytes)) sound (λ c left. inl left)) stays.time (λ c left. inl left)

-- and then one that left only what reads alike
pub moments-on : (old mid new : Medium) → IsSound old → Stays old mid → LeavesOnly mid new (ReadsAlike mid.bytes)
    → LeavesOnly old new (WasOr old (ReadsAlike old.bytes))
moments-on old mid new sound stays run =
    joined old mid new (WasOr old (ReadsAlike old.bytes)) (stays-moments old mid sound stays)
    (weaker mid new (ReadsAlike mid.bytes) (WasOr old (ReadsAlike old.bytes)) run
    (λ c alike. inr (alike.0 ∙ ap reading stays.bytes, alike.1 ∙ ap version_in stays.bytes)))

pub alike-on : (old mid new : Medium) → IsSound new → Stays old mid → LeavesOnly mid new (ReadsAlike mid.bytes)
    → ReadsAlike old.bytes new.bytes
alike-on old mid new sound stays run =
    let alike = each_now mid new (ReadsAlike mid.bytes) sound run new.bytes sound.present in
    (alike.0 ∙ ap reading stays.bytes, alike.1 ∙ ap version_in stays.bytes)

-- ---- the segment of the next number

-- where the index finds it, so does the image
pub found-place : {A : Type 0} (index : Index A) (slots : ℕ) (image : List ℕ) (found result : Option ℕ)
    (told : IsRecovered index image) → slots ≡ index.ring.geometry.slots → found ≡ result
    → found ≡ position (is_of (index.next / slots)) index.table.heads
    → position (is_of (told.recording.next / index.ring.geometry.slots)) (heads_of index.ring.geometry image) ≡ result
found-place index slots image found result told same answered said =
    found-of index.ring.geometry told.recording image index.table.heads index.next slots found result
    told.known.heads_are (sym told.known.next_is) same answered said

-- the segment that was found has all the frames before the next number
pub found-whole : {A : Type 0} (index : Index A) (slots j : ℕ) (image : List ℕ) (told : IsRecovered index image)
    → slots ≡ index.ring.geometry.slots
    → position (is_of (told.recording.next / index.ring.geometry.slots)) (heads_of index.ring.geometry image) ≡ Some j
    → whole_frames index.ring.geometry image j ≡ index.next % slots
found-whole index slots j image told same found =
    (newest-found index.ring.geometry told.recording image j told.known.held found).whole
    ∙ (λ i. sym told.known.next_is i % sym same i)

-- an image that shows that segment alike reads alike
pub found-alike : {A : Type 0} (index : Index A) (j : ℕ) (old new : List ℕ) (told : IsRecovered index old)
    → position (is_of (told.recording.next / index.ring.geometry.slots)) (heads_of index.ring.geometry old) ≡ Some j
    → ShowsSegment index.ring.geometry j (segment_in index.ring.geometry old j) old new → ReadsAlike old new
found-alike index j old new told found shows =
    alike-same index.ring.geometry told.recording j old new told.known.held
    (newest-found index.ring.geometry told.recording old j told.known.held found).within shows

-- and with no stray gate in it, it is present
pub found-present : {A : Type 0} (index : Index A) (j : ℕ) (old : List ℕ) (now : Medium)
    (told : IsRecovered index old) → version_in old ≡ index.version → position (is_of (told.recording.next / index.ring.geometry.slots))
    (heads_of index.ring.geometry old) ≡ Some j
    → ShowsSegment index.ring.geometry j (segment_in index.ring.geometry old j) old now.bytes
    → HasNoStray index.ring.geometry j now.bytes → IsSettled now
    → KnowsStamps index.ring.geometry index.table.heads index.stamps.items old → IsPresent index now
found-present index j old now told version found shows clean settled knows =
    let g = index.ring.geometry in
    let r = told.recording in
    let within = (newest-found g r old j told.known.held found).within in
    let same = heads-same g r j old now.bytes told.known.held within shows in
    let held : Holds g r now.bytes = reading-same g r old now.bytes j told.known.held within shows in
    record {
      recorded = record {
        recording = r;
        known = record { held = held; next_is = told.known.next_is; heads_are = told.known.heads_are ∙ sym same; clips_are = told.known.clips_are };
      };
      version = version-outside (segment_at g j) (segment_size g) old now.bytes (omega arith) shows.outside ∙ version;
      settled = settled;
      unstray = unstray-found g r now.bytes j held (ap (λ (hs : List (Option SegmentHead)). position (is_of (r.next / g.slots)) hs) same ∙ found) clean;
      stamped = record { each = λ t there. knows.each t (sym (alike-same g r j old now.bytes told.known.held within shows).0 ∙ there) };
    }

-- ---- the store

-- a store whose disk holds a recording, and reads as an image did, was opened on that image
pub present-opened : {D A : Type 0} (medium : D → Medium) (disk : D) (index : Index A) (before : List ℕ)
    → 1 ≤ index.ring.geometry.slots → All (IsHeadIn index.ring.geometry) index.table.heads
    → IsPresent index (medium disk) → ReadsAlike before (medium disk).bytes
    → IsOpened medium before (seen_with disk index false)
present-opened medium disk index before some within present alike =
    let r = present.recorded.recording in
    let known = present.recorded.known in record {
      recording = r;
      held = sym alike.0 ∙ known.held;
      version_is = sym alike.1 ∙ present.version;
      stands = record {
        told = told-by disk index false r (medium disk).bytes some within known (present.stamped.each r known.held);
        settled = λ fine now. present.settled;
        held = λ fine now. known.held;
        version_is = λ fine now. present.version;
      };
    }

-- the index that was read of an image, in the words of what a store reports
pub read-of : {D A : Type 0} (disk : D) (index : Index A) (must_reopen : Bool) (image : List ℕ)
    → 1 ≤ index.ring.geometry.slots → All (IsHeadIn index.ring.geometry) index.table.heads
    → IsRecoveredIn index image → IsReadOf image (seen_with disk index must_reopen)
read-of disk index must_reopen image some within is =
    let r = is.0.recording in
    let known = is.0.known in record {
      recording = r;
      held = known.held;
      version_is = is.1.0;
      told = told-by disk index must_reopen r image some within known (is.1.1.each r known.held);
    }

-- ---- the blocks that are kept

pub keeping-fits : {A : Type 0} (keep : ℕ) (index : Index A) (size : ℕ) → IsFitting index size
    → IsFitting (keeping keep index) size
keeping-fits keep index size fits =
    let whole = fits.whole in record {
      size_is = fits.size_is;
      whole = record { count = whole.count; within = whole.within; few = whole.few; counted = whole.counted; places = whole.places };
    }

pub keeping-recovered : {A : Type 0} (keep : ℕ) (index : Index A) (image : List ℕ) → IsRecovered index image
    → IsRecovered (keeping keep index) image
keeping-recovered keep index image was =
    let known = was.known in record {
      recording = was.recording;
      known = record {
        held = known.held;
        next_is = known.next_is;
        heads_are = known.heads_are;
        clips_are = known.clips_are;
      };
    }

-- what was found and may not be kept
pub bad-kept : {A : Type 0} (keep : ℕ) (index : Index A) (image : List ℕ) → IsRecovered index image
    → is_bad_keep index.ring.geometry.segments keep ≡ true → IsBadKeep keep image
bad-kept keep index image was bad = (these index.ring.geometry was.recording, (was.known.held, bad))

-- what an honest disk's opening refuses is what its bytes read as
pub refused-honest : (old new : Medium) (keep : ℕ) (fault : StoreFault) → (old.honest → new.honest)
    → (new.honest → IsSound new) → (old.honest → is_disk fault ≡ false → Stays old new)
    → ((image : List ℕ) → MayBe new image → IsRefusedOpen keep image fault) → old.honest
    → IsRefusedOpen keep old.bytes fault
refused-honest old new keep StoreFault.NoMemory now sound stays said honest = tt
refused-honest old new keep (StoreFault.Disk fault) now sound stays said honest = tt
refused-honest old new keep StoreFault.NotFormatted now sound stays said honest =
    of_bytes old new (λ image. IsRefusedOpen keep image StoreFault.NotFormatted) (sound (now honest))
    (stays honest refl) said
refused-honest old new keep (StoreFault.Damaged damage) now sound stays said honest =
    of_bytes old new (λ image. IsRefusedOpen keep image (StoreFault.Damaged damage)) (sound (now honest))
    (stays honest refl) said
refused-honest old new keep StoreFault.MustReopen now sound stays said honest =
    of_bytes old new (λ image. IsRefusedOpen keep image StoreFault.MustReopen) (sound (now honest))
    (stays honest refl) said
refused-honest old new keep StoreFault.NotHeld now sound stays said honest =
    of_bytes old new (λ image. IsRefusedOpen keep image StoreFault.NotHeld) (sound (now honest)) (stays honest refl)
    said
refused-honest old new keep StoreFault.BadGeometry now sound stays said honest =
    of_bytes old new (λ image. IsRefusedOpen keep image StoreFault.BadGeometry) (sound (now honest))
    (stays honest refl) said
refused-honest old new keep StoreFault.NumbersSpent now sound stays said honest =
    of_bytes old new (λ image. IsRefusedOpen keep image StoreFault.NumbersSpent) (sound (now honest))
    (stays honest refl) said
refused-honest old new keep StoreFault.AllLocked now sound stays said honest =
    of_bytes old new (λ image. IsRefusedOpen keep image StoreFault.AllLocked) (sound (now honest)) (stays honest refl)
    said
refused-honest old new keep StoreFault.ClipEmpty now sound stays said honest =
    of_bytes old new (λ image. IsRefusedOpen keep image StoreFault.ClipEmpty) (sound (now honest)) (stays honest refl)
    said
refused-honest old new keep (StoreFault.ClipNotHeld number) now sound stays said honest =
    of_bytes old new (λ image. IsRefusedOpen keep image (StoreFault.ClipNotHeld number)) (sound (now honest))
    (stays honest refl) said
refused-honest old new keep StoreFault.ClipTableFull now sound stays said honest =
    of_bytes old new (λ image. IsRefusedOpen keep image StoreFault.ClipTableFull) (sound (now honest))
    (stays honest refl) said
refused-honest old new keep StoreFault.NoSuchClip now sound stays said honest =
    of_bytes old new (λ image. IsRefusedOpen keep image StoreFault.NoSuchClip) (sound (now honest))
    (stays honest refl) said
refused-honest old new keep StoreFault.PendingFull now sound stays said honest =
    of_bytes old new (λ image. IsRefusedOpen keep image StoreFault.PendingFull) (sound (now honest))
    (stays honest refl) said
refused-honest old new keep StoreFault.WrongSize now sound stays said honest =
    of_bytes old new (λ image. IsRefusedOpen keep image StoreFault.WrongSize) (sound (now honest)) (stays honest refl)
    said
refused-honest old new keep StoreFault.HandFull now sound stays said honest =
    of_bytes old new (λ image. IsRefusedOpen keep image StoreFault.HandFull) (sound (now honest)) (stays honest refl)
    said
refused-honest old new keep StoreFault.HandEmpty now sound stays said honest =
    of_bytes old new (λ image. IsRefusedOpen keep image StoreFault.HandEmpty) (sound (now honest)) (stays honest refl)
    said
refused-honest old new keep StoreFault.OldLayout now sound stays said honest =
    of_bytes old new (λ image. IsRefusedOpen keep image StoreFault.OldLayout) (sound (now honest)) (stays honest refl)
    said
refused-honest old new keep StoreFault.BadKeep now sound stays said honest =
    of_bytes old new (λ image. IsRefusedOpen keep image StoreFault.BadKeep) (sound (now honest)) (stays honest refl)
    said

-- the newest block may always be kept
pub newest-kept : (image : List ℕ) → IsBadKeep 1 image → ⊥
newest-kept image (c, (is, bad)) =
    let most = (limits c.geometry (geometry-good c.geometry image (reading-stages c.geometry c.recording image is).geometry)).segments.0 in
    few c.geometry.segments most bad
  where
    few : (n : ℕ) → 2 ≤ n → ltb (n - 1) 1 ≡ true → ⊥
    few n most less = grind (arith, nat_tests, most, less)

-- so an image that holds a recording is refused only for want of memory, or where a call of the disk failed
pub refused-held : (g : Geometry) (r : Recording) (image : List ℕ) (fault : StoreFault) → Holds g r image
    → IsRefusedOpen 1 image fault → (fault ≡ StoreFault.NoMemory) ⊎ (is_disk fault ≡ true)
refused-held g r image StoreFault.NoMemory holds refused = inl refl
refused-held g r image (StoreFault.Disk f) holds refused = inr refl
refused-held g r image StoreFault.NotFormatted holds refused = absurd (apart (sym holds ∙ refused))
  where
    apart : {c : Contents} {f : LayoutFault} → (let x : Result Contents LayoutFault = Ok c in x ≡ Err f) → ⊥
    apart e = absurd cc
refused-held g r image (StoreFault.Damaged d) holds refused = absurd (apart (sym holds ∙ refused))
  where
    apart : {c : Contents} {f : LayoutFault} → (let x : Result Contents LayoutFault = Ok c in x ≡ Err f) → ⊥
    apart e = absurd cc
refused-held g r image StoreFault.BadKeep holds refused = absurd (newest-kept image refused)
refused-held g r image _ holds refused = absurd refused
