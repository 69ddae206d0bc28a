-- The store after an append.
use Rattle.std.proofs.Common.{◌≡◌, ◌≢◌, ◌⊎◌, inl, inr, ℕ, ◌+◌, ◌*◌, ◌/◌, ◌%◌, ◌^◌, ◌<◌, ◌≤◌, Bool, true, false, cond, eqb, Option, Some, None, All, List, ◌++◌, length, set, map, refl, sym, ap, ◌∙◌, subst, arith}
use Rattle.std.proofs.Math.Nat.{add-mul, div-add-mod', mul-le-mul_right, mul_comm}
use Rattle.std.proofs.lemmas.Bool.{cases_lt}
use Rattle.std.proofs.lemmas.List.{length-set}
use Rattle.std.proofs.lemmas.List.Elements.{All-set}
use Rattle.loop_disk.specs.Medium.{Medium, IsSettled}
use Rattle.loop_record.specs.declared.geometry.Geometry.{Geometry}
use Rattle.loop_record.specs.declared.segment.SegmentHead.{SegmentHead}
use Rattle.loop_record.specs.Geometry.{disk_size}
use Rattle.loop_record.specs.Layout.{is_too_high}
use Rattle.loop_record.specs.Reading.{Holds}
use Rattle.loop_record.specs.Recording.{IsWellFormed, Picture, Recording, Ring, Step, last_number, needs_recycling, plain, recycling_first, ring_of, steps, store, victim}
use Rattle.loop_record.proofs.TestFacts.{differ_test, not_below_test}
use Rattle.loop_record.proofs.Steps.{plain-append, plain-stores}
use Rattle.loop_ring.specs.Heads.{clip_counts, heads_of}
use Rattle.loop_store.proofs.Room.{before-next}
use Rattle.loop_ring.specs.declared.ring.Ring.{Ring as LoopRing}
use Rattle.loop_store.specs.declared.index.Index.{Index}
use Rattle.loop_store.specs.declared.place.AppendPlace.{AppendPlace}
use Rattle.loop_store.specs.declared.place.AppendPlace.TheVariants.{Newest, Closed, Victim}
use Rattle.loop_store.specs.Grow.{HasNoneStray}
use Rattle.loop_store.specs.Drawn.{drawn_image}
use Rattle.loop_store.specs.AppendPlace.{IsGrownAt, IsKnown, IsPlaceAt, place_segment, steps_before}
use Rattle.loop_store.specs.Found.{IsHeadIn}
use Rattle.loop_store.specs.Index.{IsIndex, IsIndexOf, IsNoted, IsRecovered, head_after}
use Rattle.loop_store.specs.Store.{IsKept}
use Rattle.loop_store.specs.Seen.{StandsFor, Tells, seen_with}
use Rattle.loop_record.proofs.Bounds.{limits}
use Rattle.loop_store.proofs.Alike.{appended-same, place-same}
use Rattle.loop_store.specs.Times.{AreStamps, HasStamps, stamp_under}
use Rattle.loop_store.proofs.Looks.{alike-by, known-by, stamps-in, stamps-known, told-as}
use Rattle.loop_store.proofs.Room.{one-recording}
use Rattle.loop_store.proofs.Same.{IsSame, itself}
use Rattle.loop_store.proofs.TimeNotes.{grown-stamps}
use Rattle.loop_record.proofs.Form.{reading-well_formed}
use Rattle.loop_store.proofs.AppendImages.{Regrown, known-drawn, regrown}
use Rattle.loop_record.proofs.Names.{stores_after}
use Rattle.loop_store.proofs.Names.{steps_or_none}

-- ---- the steps

steps-from : (o : Option (List Step)) (ps : List Picture) → o ≢ None → steps_or_none o ++ map store ps ≡ steps_or_none
    (stores_after o ps)
steps-from None ps some = absurd (some refl)
steps-from (Some first) ps some = refl

-- where a place was found, an append makes these steps
pub steps-are : (g : Geometry) (keep : ℕ) (r : Recording) (ps : List Picture) → r.next ≢ last_number (ring_of g)
    → recycling_first (needs_recycling (ring_of g) r) (victim (ring_of g) keep r) ≢ None → steps_before g keep r
    ++ map store ps ≡ steps_or_none (steps (ring_of g) keep r ps)
steps-are g keep r ps unspent some =
    let apart : eqb r.next (last_number (ring_of g)) ≡ false = differ_test r.next (last_number (ring_of g)) unspent in
    let o = recycling_first (needs_recycling (ring_of g) r) (victim (ring_of g) keep r) in
    steps-from o ps some ∙ (λ i. steps_or_none (cond (sym apart i) None (stores_after o ps)))

pub steps-some : (g : Geometry) (keep : ℕ) (r : Recording) (ps : List Picture) → r.next ≢ last_number (ring_of g)
    → recycling_first (needs_recycling (ring_of g) r) (victim (ring_of g) keep r) ≢ None → steps (ring_of g) keep r ps ≢ None
steps-some g keep r ps unspent some none =
    let apart : eqb r.next (last_number (ring_of g)) ≡ false = differ_test r.next (last_number (ring_of g)) unspent in
    let o = recycling_first (needs_recycling (ring_of g) r) (victim (ring_of g) keep r) in
    go o some ((λ i. cond (sym apart i) None (stores_after o ps)) ∙ none)
  where
    go : (o : Option (List Step)) → o ≢ None → stores_after o ps ≡ None → ⊥
    go None some e = some refl
    go (Some first) some e = absurd cc

-- ---- what stays and what grows

before-clips : (ring : Ring) (r : Recording) (recycling : Bool) (v : Option ℕ)
    → (plain ring r (steps_or_none (recycling_first recycling v))).clips ≡ r.clips
before-clips ring r false v = refl
before-clips ring r true None = refl
before-clips ring r true (Some b) = refl

-- an append takes as many numbers as it has frames
pub appended-next : (g : Geometry) (keep : ℕ) (r : Recording) (ps : List Picture)
    → (plain (ring_of g) r (steps_before g keep r ++ map store ps)).next ≡ r.next + length ps
appended-next g keep r ps =
    let ring = ring_of g in
    let mid = plain ring r (steps_before g keep r) in
    ap (λ (q : Recording). q.next) (plain-append ring r (steps_before g keep r) (map store ps) ∙ plain-stores ring mid ps)
    ∙ ap (λ (n : ℕ). n + length ps) (before-next g keep r)

-- and leaves the clips
pub appended-clips : (g : Geometry) (keep : ℕ) (r : Recording) (ps : List Picture)
    → (plain (ring_of g) r (steps_before g keep r ++ map store ps)).clips ≡ r.clips
appended-clips g keep r ps =
    let ring = ring_of g in
    let mid = plain ring r (steps_before g keep r) in
    ap (λ (q : Recording). q.clips) (plain-append ring r (steps_before g keep r) (map store ps) ∙ plain-stores ring mid ps)
    ∙ before-clips ring r (needs_recycling ring r) (victim ring keep r)

-- ---- numbers

-- a block below the last number's ends at most there
below-last : (slots next : ℕ) → 1 ≤ slots → next < slots * (2 ^ 62 / slots) → (next / slots + 1) * slots ≤ slots *
    (2 ^ 62 / slots)
below-last slots next some below = go (cases_lt (next / slots) (2 ^ 62 / slots))
  where
    go : (next / slots < 2 ^ 62 / slots) ⊎ (2 ^ 62 / slots ≤ next / slots) → (next / slots + 1) * slots ≤ slots *
        (2 ^ 62 / slots)
    go (inl l) =
        let le : (next / slots + 1) * slots ≤ 2 ^ 62 / slots * slots = mul-le-mul_right slots (omega (arith, l)) in
        omega (arith, le, mul_comm (2 ^ 62 / slots) slots)
    go (inr l) =
        let most : 2 ^ 62 / slots * slots ≤ next / slots * slots = mul-le-mul_right slots l in
        absurd (omega (arith, below, most, div-add-mod' next slots, mul_comm (2 ^ 62 / slots) slots))

-- a group that fits into its block leaves the next number at most the last
pub appended-few : (g : Geometry) (next count : ℕ) → 1 ≤ g.slots → next ≤ last_number (ring_of g)
    → next ≢ last_number (ring_of g) → next % g.slots + count ≤ g.slots → next + count ≤ last_number (ring_of g)
appended-few g next count some most unspent room =
    let below : next < last_number (ring_of g) = omega (arith, most, unspent) in
    let end = below-last g.slots next some below in
    omega (arith, end, room, div-add-mod' next g.slots, add-mul (next / g.slots) 1 g.slots)

-- and its block isn't too high
pub appended-low : (g : Geometry) (next : ℕ) → 1 ≤ g.slots → next ≤ last_number (ring_of g)
    → next ≢ last_number (ring_of g) → is_too_high g (next / g.slots) ≡ false
appended-low g next some most unspent =
    let below : next < last_number (ring_of g) = omega (arith, most, unspent) in
    let end = below-last g.slots next some below in
    not_below_test (2 ^ 62) ((next / g.slots + 1) * g.slots) (omega (arith, end, mul_comm (2 ^ 62 / g.slots) g.slots, div-add-mod' (2 ^ 62) g.slots))

-- ---- places

-- where there is a place, an append has steps
pub place-some : (g : Geometry) (keep : ℕ) (r : Recording) (image : List ℕ) (place : AppendPlace) → IsPlaceAt g keep r image place
    → recycling_first (needs_recycling (ring_of g) r) (victim (ring_of g) keep r) ≢ None
place-some g keep r image place at none = go place at
  where
    by : (b : Bool) (v : Option ℕ) → b ≡ false → recycling_first b v ≡ None → ⊥
    by false v e none = absurd cc
    by true v e none = absurd cc

    gone : (t : Bool) (v : Option ℕ) (b : ℕ) → v ≡ Some b → recycling_first t v ≡ None → ⊥
    gone false v b e none = absurd cc
    gone true None b e none = absurd cc
    gone true (Some c) b e none = absurd cc

    go : (place : AppendPlace) → IsPlaceAt g keep r image place → ⊥
    go (Newest j) at = by (needs_recycling (ring_of g) r) (victim (ring_of g) keep r) at.1 none
    go (Closed j) at = by (needs_recycling (ring_of g) r) (victim (ring_of g) keep r) at.1.1 none
    go (Victim j) at = gone (needs_recycling (ring_of g) r) (victim (ring_of g) keep r) at.0 at.1.0 none

-- the place is there for the recording that the image holds
pub place-known : {A : Type 0} (index : Index A) (image : List ℕ) (place : AppendPlace) → IsRecovered index image
    → HasNoneStray index.ring.geometry image
    → ((r : Recording) (c : List ℕ) → IsIndexOf index r c → (r.next ≢ last_number (ring_of index.ring.geometry))
    × IsPlaceAt index.ring.geometry index.table.keep r c place) → IsKnown index.ring.geometry index.table.keep index.next place image
place-known index image place was clean at = record {
  recording = was.recording;
  held = was.known.held;
  next_is = sym was.known.next_is;
  is_place = (at was.recording image was.known).1;
  unstray = clean;
}

-- ---- refusals

-- ---- the store

-- what a group of n frames has grown to
pub record Grew {D : Type 0} (medium : D → Medium) (g : Geometry) (keep : ℕ) (old new : D) (next n j : ℕ) (ps : List Picture) : Type 0 where
  pub back : (medium new).honest → (medium old).honest
  pub count : n ≡ length ps
  pub grown : (medium old).honest → IsGrownAt g next n j (medium old).bytes (medium new).bytes
  pub settled : (medium old).honest → IsSettled (medium new)
  pub stored : (r : Recording) → r.next ≡ next → (medium old).honest → Holds g r (medium old).bytes
      → Holds g (plain (ring_of g) r (steps_before g keep r ++ map store ps)) (medium new).bytes

pub noted-at : {A : Type 0} (old new : Index A) (i j n : ℕ) → i ≡ j → IsNoted old new i n → IsNoted old new j n
noted-at old new i j n at noted = subst (λ (k : ℕ). IsNoted old new k n) at noted

-- the stamps of the group are those in the slots from the next number on
abbrev pub IsPut : {A : Type 0} → Index A → Index A → ℕ → List Picture → Type 0
IsPut was now j ps = HasStamps was.stamps.items now.stamps.items (j * was.ring.geometry.slots + was.next % was.ring.geometry.slots) ps

pub put-at : {A : Type 0} (old new : Index A) (i j : ℕ) (ps : List Picture) → i ≡ j → IsPut old new i ps → IsPut old new j ps
put-at old new i j ps at put = subst (λ (k : ℕ). IsPut old new k ps) at put

-- it says all of the recording with the steps of the append
grown-known : {D A : Type 0} (medium : D → Medium) (old new : D) (was now : Index A) (n j : ℕ) (ps : List Picture)
    (r : Recording) → IsNoted was now j n → Grew medium was.ring.geometry was.table.keep old new was.next n j ps
    → (medium old).honest → IsIndexOf was r (medium old).bytes
    → IsIndexOf now (plain (ring_of was.ring.geometry) r (steps_before was.ring.geometry was.table.keep r ++ map store ps)) (medium new).bytes
grown-known medium old new was now n j ps r noted grew honest known =
    let g = was.ring.geometry in
    let keep = was.table.keep in
    let t = plain (ring_of g) r (steps_before g keep r ++ map store ps) in record {
      held = subst (λ (h : Geometry). Holds h t (medium new).bytes)
          (sym (ap (λ (x : LoopRing). x.geometry) noted.ring)) (grew.stored r (sym known.next_is) honest known.held);
      next_is = noted.next ∙ (λ i. known.next_is i + grew.count i) ∙ sym (appended-next g keep r ps);
      heads_are = noted.heads ∙ ap (λ (l : List (Option SegmentHead)). set l j (Some (head_after g was.next n)))
          known.heads_are ∙ sym (grew.grown honest).heads ∙ ap (λ (h : Geometry). heads_of h (medium new).bytes)
          (sym (ap (λ (x : LoopRing). x.geometry) noted.ring));
      clips_are = noted.clips ∙ known.clips_are ∙ sym (appended-clips g keep r ps);
    }

grown-index : {A : Type 0} (was now : Index A) (n j : ℕ) → IsNoted was now j n → IsIndex was
    → 1 ≤ was.ring.geometry.slots → was.next ≢ last_number (ring_of was.ring.geometry)
    → was.next % was.ring.geometry.slots + n ≤ was.ring.geometry.slots → length now.stamps.items ≡ length was.stamps.items
    → IsIndex now
grown-index was now n j noted whole some unspent room long =
    let g = was.ring.geometry in
    let keep = was.table.keep in
    let same : now.ring.geometry ≡ g = ap (λ (x : LoopRing). x.geometry) noted.ring in
    let few : was.next + n ≤ last_number (ring_of g) = appended-few g was.next n some whole.few unspent room in
    let within : All (IsHeadIn g) (set was.table.heads j (Some (head_after g was.next n))) =
    All-set (IsHeadIn g) was.table.heads j (Some (head_after g was.next n))
    (room, appended-low g was.next some whole.few unspent) whole.within in record {
      count = ap length noted.heads ∙ length-set was.table.heads j (Some (head_after g was.next n)) ∙ whole.count
          ∙ ap (λ (h : Geometry). h.segments) (sym same);
      within = subst (λ (h : Geometry). All (IsHeadIn h) now.table.heads) (sym same) (subst (All (IsHeadIn g)) (sym noted.heads) within);
      few = subst (λ (h : Geometry). now.next ≤ last_number (ring_of h)) (sym same) (subst (λ (k : ℕ). k ≤ last_number (ring_of g)) (sym noted.next) few);
      counted = noted.counted ∙ (λ i. clip_counts (ring_of (sym same i)) (sym noted.clips i) now.table.heads);
      places = long ∙ whole.places ∙ (λ i. (sym same i).segments * (sym same i).slots);
    }

-- what is known of the place of an append, whatever the disk
pub record IsPlaced {A : Type 0} (was : Index A) (place : AppendPlace) (n : ℕ) : Type 0 where
  pub within : place_segment place < was.ring.geometry.segments
  pub at : (r : Recording) (image : List ℕ) → IsIndexOf was r image
      → (r.next ≢ last_number (ring_of was.ring.geometry)) × IsPlaceAt was.ring.geometry was.table.keep r image place
  pub unspent : was.next ≢ last_number (ring_of was.ring.geometry)
  pub room : was.next % was.ring.geometry.slots + n ≤ was.ring.geometry.slots

-- with made-up frames, the index has grown by an append of as many others
pub record HasGrown {A : Type 0} (was now : Index A) (r : Recording) (n : ℕ) : Type 0 where
  pub pictures : List Picture
  pub size : length pictures ≡ n
  pub known : IsIndexOf now (plain (ring_of was.ring.geometry) r (steps_before was.ring.geometry was.table.keep r
      ++ map store pictures)) (drawn_image now.ring.geometry now.table.heads now.clips)

pub has-grown : {A : Type 0} (was now : Index A) (place : AppendPlace) (n : ℕ)
    → (known : IsRecovered was (drawn_image was.ring.geometry was.table.heads was.clips)) → IsIndex was
    → IsNoted was now (place_segment place) n → IsPlaced was place n → HasGrown was now known.recording n
has-grown was now place n known whole noted placed =
    let g = was.ring.geometry in
    let keep = was.table.keep in
    let j = place_segment place in
    let heads = was.table.heads in
    let r = known.recording in
    let some = (limits g was.ring.good).slots.0 in
    let head : IsHeadIn g (Some (head_after g was.next n)) = (placed.room, appended-low g was.next some whole.few placed.unspent) in
    let next = known.known.next_is in
    let is = placed.at r (drawn_image g heads was.clips) known.known in
    let drawn_on : Regrown g (set heads j (Some (head_after g r.next n))) was.clips r (steps_before g keep r) n =
    regrown g keep heads was.clips r place n was.ring.good whole.count whole.within placed.within known.known.held is.1
    (subst (λ (k : ℕ). IsHeadIn g (Some (head_after g k n))) next head) in
    let back : Regrown g (set heads j (Some (head_after g was.next n))) was.clips r (steps_before g keep r) n =
    subst (λ (k : ℕ). Regrown g (set heads j (Some (head_after g k n))) was.clips r (steps_before g keep r) n)
    (sym next) drawn_on in
    let t = plain (ring_of g) r (steps_before g keep r ++ map store back.pictures) in
    let all = known-drawn now g (set heads j (Some (head_after g was.next n))) was.clips t was.ring.good
    (length-set heads j (Some (head_after g was.next n)) ∙ whole.count)
    (All-set (IsHeadIn g) heads j (Some (head_after g was.next n)) head whole.within) back.held
    (ap (λ (x : LoopRing). x.geometry) noted.ring) noted.heads noted.clips
    (noted.next ∙ (λ i. next i + sym back.size i) ∙ sym (appended-next g keep r back.pictures))
    (known.known.clips_are ∙ sym (appended-clips g keep r back.pictures)) in
    record { pictures = back.pictures; size = back.size; known = all }

stamps-grown : {A : Type 0} (was now : Index A) (r0 r1 r : Recording) (image image' : List ℕ) (ps : List Picture) (n j : ℕ)
    → IsIndexOf was r0 image → IsIndexOf now r1 image' → IsNoted was now j n → n ≡ length ps
    → j < was.ring.geometry.segments → was.next % was.ring.geometry.slots + n ≤ was.ring.geometry.slots → IsSame r0 r
    → IsSame r1 (plain (ring_of was.ring.geometry) r (steps_before was.ring.geometry was.table.keep r ++ map store ps))
    → IsWellFormed r → was.next ≡ r.next → IsPut was now j ps → AreStamps (stamps-in was) r
    → AreStamps (stamps-in now) (plain (ring_of was.ring.geometry) r (steps_before was.ring.geometry was.table.keep r ++ map store ps))
stamps-grown was now r0 r1 r image image' ps n j known known' noted count low room same same' formed next put times =
    let g = was.ring.geometry in
    let keep = was.table.keep in
    let t = plain (ring_of g) r (steps_before g keep r ++ map store ps) in
    let geometry : now.ring.geometry ≡ g = ap (λ (x : LoopRing). x.geometry) noted.ring in
    subst (λ (h : Geometry). AreStamps (stamp_under h.slots now.table.heads now.stamps.items) t) (sym geometry)
    (grown-stamps g keep was.table.heads now.table.heads was.stamps.items now.stamps.items j r0 r1 r image image' ps (record {
      some = (limits g was.ring.good).slots.0;
      low = low;
      room = subst (λ (k : ℕ). k % g.slots + length ps ≤ g.slots) next (subst (λ (k : ℕ). was.next % g.slots + k ≤ g.slots) count room);
      formed = formed;
      held = known.held;
      heads_are = known.heads_are;
      held' = subst (λ (h : Geometry). Holds h r1 image') geometry known'.held;
      heads_are' = known'.heads_are ∙ ap (λ (h : Geometry). heads_of h image') geometry;
      noted = noted.heads ∙ (λ i. set was.table.heads j (Some (head_after g (next i) (count i))));
      same = same;
      same' = same';
      put = subst (λ (k : ℕ). HasStamps was.stamps.items now.stamps.items (j * g.slots + k % g.slots) ps) next put;
      known = times;
    }))

pub kept-grown : {D A : Type 0} (medium : D → Medium) (old new : D) (was now : Index A) (place : AppendPlace) (n j : ℕ)
    (ps : List Picture) (must : Bool) → IsKept medium old was must → must ≡ false → j ≡ place_segment place
    → IsPlaced was place n → IsNoted was now j n → (medium new).size ≡ (medium old).size
    → Grew medium was.ring.geometry was.table.keep old new was.next n j ps → IsPut was now j ps → IsKept medium new now must
kept-grown medium old new was now place n j ps must kept fine at placed noted size grew put = record {
  fits = record {
    size_is = size ∙ kept.fits.size_is ∙ ap disk_size (sym (ap (λ (x : LoopRing). x.geometry) noted.ring));
    whole = grown-index was now n j noted kept.fits.whole (limits was.ring.geometry was.ring.good).slots.0 placed.unspent placed.room put.long;
  };
  known =
      let grown = has-grown was now place n kept.known kept.fits.whole (noted-at was now j (place_segment place) n at noted) placed in record {
        recording = plain (ring_of was.ring.geometry) kept.known.recording
            (steps_before was.ring.geometry was.table.keep kept.known.recording ++ map store grown.pictures);
        known = grown.known;
      };
  present = λ f honest.
      let back = grew.back honest in record {
        recorded = recorded honest;
        version = (grew.grown back).version ∙ (kept.present fine back).version ∙ sym noted.version;
        settled = grew.settled back;
        unstray = subst (λ (h : Geometry). HasNoneStray h (medium new).bytes) (sym (ap (λ (x : LoopRing). x.geometry) noted.ring)) (grew.grown back).unstray;
        stamped = record { each = λ r held. timed honest r held };
      };
}
  where
    recorded : (medium new).honest → IsRecovered now (medium new).bytes
    recorded honest =
        let back = grew.back honest in
        let there = (kept.present fine back).recorded in
        let g = was.ring.geometry in record {
          recording = plain (ring_of g) there.recording (steps_before g was.table.keep there.recording ++ map store ps);
          known = grown-known medium old new was now n j ps there.recording noted grew back there.known;
        }

    timed : (medium new).honest → (r : Recording) → Holds now.ring.geometry r (medium new).bytes → AreStamps (stamps-in now) r
    timed honest r held =
        let back = grew.back honest in
        let there = (kept.present fine back).recorded in
        let g = was.ring.geometry in
        let t = plain (ring_of g) there.recording (steps_before g was.table.keep there.recording ++ map store ps) in
        subst (AreStamps (stamps-in now)) (one-recording now.ring.geometry t r (medium new).bytes (recorded honest).known.held held)
        (stamps-grown was now there.recording t there.recording (medium old).bytes (medium new).bytes ps n j there.known
        (recorded honest).known noted grew.count (subst (λ (k : ℕ). k < g.segments) (sym at) placed.within) placed.room
        (itself there.recording) (itself t) (reading-well_formed g there.recording (medium old).bytes there.known.held) there.known.next_is put
        ((kept.present fine back).stamped.each there.recording there.known.held))

-- each recording that the store reported before, with the steps of the append
pub told-grown : {D A : Type 0} (medium : D → Medium) (old new : D) (was now : Index A) (place : AppendPlace) (n j : ℕ)
    (ps : List Picture) (must : Bool) (r : Recording) → (kept : IsKept medium old was must)
    → Tells (seen_with old was must) r → j ≡ place_segment place
    → IsPlaced was place n → IsNoted was now j n → n ≡ length ps → IsPut was now j ps → Tells (seen_with new now must)
    (plain (ring_of was.ring.geometry) r (steps_or_none (steps (ring_of was.ring.geometry) was.table.keep r ps)))
told-grown medium old new was now place n j ps must r kept told_before at placed noted count put =
    let g = was.ring.geometry in
    let keep = was.table.keep in
    let some = (limits g was.ring.good).slots.0 in
    let r0 = kept.known.recording in
    let same = alike-by medium old was must r kept told_before in
    let grown = has-grown was now place n kept.known kept.fits.whole (noted-at was now j (place_segment place) n at noted) placed in
    let is = placed.at r0 (drawn_image g was.table.heads was.clips) kept.known.known in
    let steps_are : steps_before g keep r ++ map store ps ≡ steps_or_none (steps (ring_of g) keep r ps) =
    steps-are g keep r ps (λ spent. is.0 (same.next ∙ spent))
    (λ none. place-some g keep r0 (drawn_image g was.table.heads was.clips) place is.1 (place-same g keep r0 r same ∙ none))
    in
    let slots : 1 ≤ now.ring.geometry.slots = subst (λ (h : Geometry). 1 ≤ h.slots) (sym (ap (λ (x : LoopRing). x.geometry) noted.ring)) some in
    let t0 = plain (ring_of g) r0 (steps_before g keep r0 ++ map store grown.pictures) in
    let t = plain (ring_of g) r (steps_before g keep r ++ map store ps) in
    let numbers = appended-same g keep r0 r grown.pictures ps same (grown.size ∙ count) in
    subst (λ (l : List Step). Tells (seen_with new now must) (plain (ring_of g) r l)) steps_are
    (told-as new now must t0 t (drawn_image now.ring.geometry now.table.heads now.clips) slots
    (grown-index was now n j noted kept.fits.whole some placed.unspent placed.room put.long).within grown.known numbers
    (stamps-grown was now r0 t0 r (drawn_image g was.table.heads was.clips) (drawn_image now.ring.geometry now.table.heads now.clips)
    ps n j kept.known.known grown.known noted count (subst (λ (k : ℕ). k < g.segments) (sym at) placed.within) placed.room same numbers
    told_before.formed told_before.next_is put (stamps-known old was must r told_before)))

-- it stands for that one, and an honest disk holds it
pub stands-grown : {D A : Type 0} (medium : D → Medium) (old new : D) (was now : Index A) (place : AppendPlace) (n j : ℕ)
    (ps : List Picture) (must : Bool) (r : Recording) → (kept : IsKept medium old was must) → must ≡ false
    → StandsFor medium (seen_with old was must) r → j ≡ place_segment place
    → IsPlaced was place n → IsNoted was now j n → Grew medium was.ring.geometry was.table.keep old new was.next n j ps
    → IsPut was now j ps → StandsFor medium (seen_with new now must)
    (plain (ring_of was.ring.geometry) r (steps_or_none (steps (ring_of was.ring.geometry) was.table.keep r ps)))
stands-grown medium old new was now place n j ps must r kept fine stands at placed noted grew put =
    let g = was.ring.geometry in
    let keep = was.table.keep in
    let t : Recording = plain (ring_of g) r (steps_or_none (steps (ring_of g) keep r ps)) in record {
      told = told-grown medium old new was now place n j ps must r kept stands.told at placed noted grew.count put;
      settled = λ still there. grew.settled (grew.back there);
      held = λ still there.
          let back = grew.back there in
          let known = known-by medium old was must r kept stands fine back in
          let is = placed.at r (medium old).bytes known in
          let same : steps_before g keep r ++ map store ps ≡ steps_or_none (steps (ring_of g) keep r ps) =
          steps-are g keep r ps is.0 (place-some g keep r (medium old).bytes place is.1) in
          let after : IsIndexOf now t (medium new).bytes =
          subst (λ (l : List Step). IsIndexOf now (plain (ring_of g) r l) (medium new).bytes) same
          (grown-known medium old new was now n j ps r noted grew back known) in
          after.held;
      version_is = λ still there.
          let back = grew.back there in
          (grew.grown back).version ∙ stands.version_is fine back ∙ sym noted.version;
    }
