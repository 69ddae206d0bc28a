-- A call that only reads leaves the store as it was.
use Rattle.std.proofs.Common.{◌≡◌, ℕ, ◌<◌, ◌≤◌, Bool, true, false, is_some, cond, eqb, Option, Some, None, List, [], ◌∷◌, get_or, length, map, refl, sym, ap, ◌∙◌, subst}
use Rattle.std.specs.Prelude.{◌==◌}
use Rattle.std.specs.List.{All, find, list_any, zip}
use Rattle.std.specs.Option.{option_map_or}
use Rattle.loop_disk.specs.Calls.{Stays}
use Rattle.loop_disk.specs.Medium.{Medium, IsSettled}
use Rattle.loop_record.specs.declared.geometry.Geometry.{Geometry}
use Rattle.loop_record.specs.declared.segment.SegmentHead.{SegmentHead}
use Rattle.loop_record.specs.Layout.{version_in}
use Rattle.loop_record.specs.Reading.{Holds}
use Rattle.loop_record.specs.Recording.{Picture, Recording, holds}
use Rattle.loop_record.proofs.Bounds.{limits}
use Rattle.loop_record.proofs.TestFacts.{clash, equal}
use Rattle.loop_record.proofs.Form.{reading-well_formed}
use Rattle.loop_ring.specs.declared.group.SlotStamp.{SlotStamp}
use Rattle.loop_ring.specs.Heads.{has_number, heads_of}
use Rattle.loop_ring.proofs.HeldBlocks.{held-number}
pub use Rattle.loop_ring.proofs.SlotReads.{stays_on}
use Rattle.loop_store.specs.Drawn.{drawn_image}
use Rattle.loop_store.specs.Grow.{HasNoneStray}
use Rattle.loop_store.specs.declared.index.Index.{Index}
use Rattle.loop_store.specs.Index.{IsFitting, IsIndexOf, IsRecovered, SaysRecording}
use Rattle.loop_store.specs.Found.{IsHeadIn}
use Rattle.loop_store.specs.Numbers.{is_among, numbers_under}
use Rattle.std.specs.Prelude.{◌||◌}
use Rattle.loop_store.specs.Reopen.{TellsOne}
use Rattle.loop_store.specs.Times.{AreStamps, KnowsStamps, no_stamp, stamp_told, stamp_under}
use Rattle.loop_store.specs.Store.{IsKept, IsPresent}
use Rattle.loop_store.specs.Seen.{Seen, StandsFor, Tells, seen_with}
use Rattle.loop_store.proofs.HeldCount.{count-held}
use Rattle.loop_store.proofs.SlotLooks.{held-slot}
use Rattle.loop_store.proofs.Numbers.{among-under}
use Rattle.loop_store.proofs.Room.{one-recording}
use Rattle.loop_store.proofs.Same.{IsSame, count-same, formed-same, held-same, holds-same, itself, then}
use Rattle.loop_store.proofs.TimeNotes.{restamped, restamped-same, restamped-known}

pub stays-settled : (old new : Medium) → Stays old new → IsSettled old → IsSettled new
stays-settled old new stays settled = λ c left. settled c (stays.images c left) ∙ sym stays.bytes

looked-present : {A : Type 0} (index : Index A) (old new : Medium) → Stays old new → IsPresent index old
    → IsPresent index new
looked-present index old new stays present = record {
  recorded = subst (λ (image : List ℕ). IsRecovered index image) (sym stays.bytes) present.recorded;
  version = ap version_in stays.bytes ∙ present.version;
  settled = stays-settled old new stays present.settled;
  unstray = subst (λ (image : List ℕ). HasNoneStray index.ring.geometry image) (sym stays.bytes) present.unstray;
  stamped = subst (λ (image : List ℕ). KnowsStamps index.ring.geometry index.table.heads index.stamps.items image) (sym stays.bytes) present.stamped;
}

pub looked-kept : {D A : Type 0} (medium : D → Medium) (old new : D) (index : Index A) (must_reopen : Bool)
    → IsKept medium old index must_reopen → (medium new).size ≡ (medium old).size
    → ((medium new).honest → (medium old).honest)
    → ((medium old).honest → Stays (medium old) (medium new)) → IsKept medium new index must_reopen
looked-kept medium old new index must_reopen kept size back stays = record {
  fits = subst (IsFitting index) (sym size) kept.fits;
  known = kept.known;
  present = λ fine now. looked-present index (medium old) (medium new) (stays (back now)) (kept.present fine (back now));
}

pub looked-told : {D : Type 0} (old : Seen D) (disk : D) (r : Recording) → Tells old r → Tells (record old { disk = disk }) r
looked-told old disk r told = record {
  formed = told.formed;
  next_is = told.next_is;
  numbers_are = told.numbers_are;
  count_is = told.count_is;
  stamps_are = told.stamps_are;
  clips_are = told.clips_are;
}

pub looked-stands : {D : Type 0} (medium : D → Medium) (old : Seen D) (disk : D) (r : Recording)
    → StandsFor medium old r → ((medium disk).honest → (medium old.disk).honest)
    → ((medium old.disk).honest → Stays (medium old.disk) (medium disk))
    → StandsFor medium (record old { disk = disk }) r
looked-stands medium old disk r stands back stays = record {
  told = looked-told old disk r stands.told;
  settled = λ fine now. stays-settled (medium old.disk) (medium disk) (stays (back now)) (stands.settled fine (back now));
  held = λ fine now. subst (λ (image : List ℕ). Holds old.geometry r image) (sym (stays (back now)).bytes) (stands.held fine (back now));
  version_is = λ fine now. ap version_in (stays (back now)).bytes ∙ stands.version_is fine (back now);
}

-- a number whose frame a segment has is held
pub there-held : (g : Geometry) (r : Recording) (image : List ℕ) (heads : List (Option SegmentHead)) (j n : ℕ)
    → Holds g r image → heads ≡ heads_of g image → j < g.segments → has_number g.slots n (get_or heads j None) ≡ true
    → holds r n ≡ true
there-held g r image heads j n held same l has =
    let at : has_number g.slots n (get_or (heads_of g image) j None) ≡ true =
    subst (λ (hs : List (Option SegmentHead)). has_number g.slots n (get_or hs j None) ≡ true) same has in
    ap (λ (o : Option Picture). is_some o) (held-slot g r image j n held l at).held

-- the stamps that an index has, by number
abbrev pub stamps-in : {A : Type 0} → Index A → ℕ → SlotStamp
stamps-in index = stamp_under index.ring.geometry.slots index.table.heads index.stamps.items

-- the stamp that is reported for a number
stamp-beside : (f : ℕ → SlotStamp) (ns : List ℕ) (n : ℕ) → is_among ns n ≡ true → stamp_told ns (map f ns) n ≡ f n
stamp-beside f [] n e = absurd cc
stamp-beside f (m ∷ ms) n e = go (eqb m n) refl (λ r. stamp-beside f ms n r) e
  where
    go : (b : Bool) → eqb m n ≡ b → (is_among ms n ≡ true → stamp_told ms (map f ms) n ≡ f n) → (b || is_among ms n) ≡ true
        → option_map_or (λ beside. beside.1) (cond b (Some (m, f m)) (find (λ beside. beside.0 == n) (zip ms (map f ms)))) no_stamp ≡ f n
    go true same ih e = ap f (equal m n same)
    go false same ih e = ih e

stamps-told : (f : ℕ → SlotStamp) (ns : List ℕ) (r : Recording) → AreStamps f r → ((n : ℕ) → is_among ns n ≡ holds r n)
    → AreStamps (stamp_told ns (map f ns)) r
stamps-told f ns r times are = λ n p there.
    stamp-beside f ns n (are n ∙ ap (λ (o : Option Picture). is_some o) there) ∙ times n p there

-- the stamps that a store reported are those that its index has
pub stamps-known : {D A : Type 0} (disk : D) (index : Index A) (must_reopen : Bool) (r : Recording)
    → Tells (seen_with disk index must_reopen) r → AreStamps (stamps-in index) r
stamps-known disk index must_reopen r told = λ n p there.
    sym (stamp-beside (stamps-in index) (numbers_under index.ring.geometry.slots index.table.heads) n
    (told.numbers_are n ∙ ap (λ (o : Option Picture). is_some o) there)) ∙ told.stamps_are n p there

-- what a store reports is what its index says of an image, except pictures: of these the stamps alone
pub told-as : {D A : Type 0} (disk : D) (index : Index A) (must_reopen : Bool) (r t : Recording) (image : List ℕ)
    → 1 ≤ index.ring.geometry.slots → All (IsHeadIn index.ring.geometry) index.table.heads → IsIndexOf index r image
    → IsSame r t → AreStamps (stamps-in index) t → Tells (seen_with disk index must_reopen) t
told-as disk index must_reopen r t image some within known same times = record {
  formed = formed-same r t same (reading-well_formed index.ring.geometry r image known.held);
  next_is = known.next_is ∙ same.next;
  numbers_are = λ n. among-under index.ring.geometry n index.table.heads some within
      ∙ ap (list_any (has_number index.ring.geometry.slots n)) known.heads_are
      ∙ held-number index.ring.geometry r image n known.held ∙ holds-same r t n same;
  count_is = ap (λ (hs : List (Option SegmentHead)). length (numbers_under index.ring.geometry.slots hs))
      known.heads_are ∙ count-held index.ring.geometry r image known.held ∙ count-same r t same;
  stamps_are = stamps-told (stamps-in index) (numbers_under index.ring.geometry.slots index.table.heads) t times
      (λ n. among-under index.ring.geometry n index.table.heads some within
      ∙ ap (list_any (has_number index.ring.geometry.slots n)) known.heads_are
      ∙ held-number index.ring.geometry r image n known.held ∙ holds-same r t n same);
  clips_are = known.clips_are ∙ same.clips;
}

pub told-by : {D A : Type 0} (disk : D) (index : Index A) (must_reopen : Bool) (r : Recording) (image : List ℕ)
    → 1 ≤ index.ring.geometry.slots → All (IsHeadIn index.ring.geometry) index.table.heads → IsIndexOf index r image
    → AreStamps (stamps-in index) r → Tells (seen_with disk index must_reopen) r
told-by disk index must_reopen r image some within known times = told-as disk index must_reopen r r image some within known (itself r) times

-- the recording of made-up frames, with the stamps that the index has
abbrev pub drawn-of : {A : Type 0} (index : Index A) → SaysRecording index → Recording
drawn-of index says = restamped (stamps-in index) says.recording

-- what the store reports of it
pub tells-drawn : {D A : Type 0} (disk : D) (index : Index A) (must_reopen : Bool) (says : SaysRecording index)
    → All (IsHeadIn index.ring.geometry) index.table.heads → Tells (seen_with disk index must_reopen) (drawn-of index says)
tells-drawn disk index must_reopen says within =
    told-as disk index must_reopen says.recording (drawn-of index says)
    (drawn_image index.ring.geometry index.table.heads index.clips)
    (limits index.ring.geometry index.ring.good).slots.0 within says.known
    (restamped-same (stamps-in index) says.recording) (restamped-known (stamps-in index) says.recording)

pub told-drawn : {D A : Type 0} (medium : D → Medium) (disk : D) (index : Index A) (must_reopen : Bool)
    → (kept : IsKept medium disk index must_reopen) → Tells (seen_with disk index must_reopen) (drawn-of index kept.known)
told-drawn medium disk index must_reopen kept = tells-drawn disk index must_reopen kept.known kept.fits.whole.within

pub one-kept : {D A : Type 0} (medium : D → Medium) (disk : D) (index : Index A) (must_reopen : Bool)
    → IsKept medium disk index must_reopen → TellsOne (seen_with disk index must_reopen)
one-kept medium disk index must_reopen kept = (drawn-of index kept.known, told-drawn medium disk index must_reopen kept)

pub one-seen : {D A : Type 0} (medium : D → Medium) (disk : D) (index : Index A) (must_reopen : Bool) {s : Seen D}
    → IsKept medium disk index must_reopen → seen_with disk index must_reopen ≡ s → TellsOne s
one-seen medium disk index must_reopen kept is = subst TellsOne is (one-kept medium disk index must_reopen kept)

-- each recording that it reports has their numbers
pub tells-same : {D : Type 0} (s : Seen D) (r t : Recording) → Tells s r → Tells s t → IsSame r t
tells-same s r t a b = held-same r t a.formed b.formed (λ n. sym (a.numbers_are n) ∙ b.numbers_are n)
    (sym a.next_is ∙ b.next_is) (sym a.clips_are ∙ b.clips_are)

pub alike-by : {D A : Type 0} (medium : D → Medium) (disk : D) (index : Index A) (must_reopen : Bool) (r : Recording)
    → (kept : IsKept medium disk index must_reopen) → Tells (seen_with disk index must_reopen) r
    → IsSame kept.known.recording r
alike-by medium disk index must_reopen r kept told =
    then kept.known.recording (drawn-of index kept.known) r (restamped-same (stamps-in index) kept.known.recording)
    (tells-same (seen_with disk index must_reopen) (drawn-of index kept.known) r
    (told-drawn medium disk index must_reopen kept) told)

-- a number whose frame a segment has is held by each of these
pub there-alike : {D A : Type 0} (medium : D → Medium) (disk : D) (index : Index A) (must_reopen : Bool)
    (r : Recording) (n j : ℕ) → (kept : IsKept medium disk index must_reopen)
    → Tells (seen_with disk index must_reopen) r → j < index.ring.geometry.segments
    → has_number index.ring.geometry.slots n (get_or index.table.heads j None) ≡ true → holds r n ≡ true
there-alike medium disk index must_reopen r n j kept told l has =
    sym (holds-same kept.known.recording r n (alike-by medium disk index must_reopen r kept told))
    ∙ there-held index.ring.geometry kept.known.recording
    (drawn_image index.ring.geometry index.table.heads index.clips) index.table.heads j n kept.known.known.held
    kept.known.known.heads_are l has

-- where the store needn't be reopened, its index says all of the recording that it stands for
pub known-by : {D A : Type 0} (medium : D → Medium) (disk : D) (index : Index A) (must_reopen : Bool) (r : Recording)
    → IsKept medium disk index must_reopen → StandsFor medium (seen_with disk index must_reopen) r
    → must_reopen ≡ false → (medium disk).honest
    → IsIndexOf index r (medium disk).bytes
known-by medium disk index must_reopen r kept stands fine now =
    let there = (kept.present fine now).recorded in
    let image = (medium disk).bytes in
    subst (λ (t : Recording). IsIndexOf index t image)
    (one-recording index.ring.geometry there.recording r image there.known.held (stands.held fine now)) there.known

-- after a failed call the index is as it was
pub failed-kept : {D A : Type 0} (medium : D → Medium) (old new : D) (was now : Index A) (must : Bool)
    → IsKept medium old was must → now ≡ was → (medium new).size ≡ (medium old).size
    → ((medium new).honest → (medium old).honest) → IsKept medium new now true
failed-kept medium old new was now must kept same size back = record {
  fits = subst (λ (i : Index _). IsFitting i (medium new).size) (sym same) (subst (IsFitting was) (sym size) kept.fits);
  known = subst (λ (i : Index _). IsRecovered i (drawn_image i.ring.geometry i.table.heads i.clips)) (sym same) kept.known;
  present = λ fine honest. absurd (clash true refl fine);
}
