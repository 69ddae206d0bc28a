-- An index of what was read of any disk: the image that it draws holds a recording.
use Rattle.std.proofs.Common.{◌≡◌, ℕ, zero, suc, ◌+◌, ◌-◌, ◌*◌, ◌/◌, ◌%◌, ◌^◌, ◌<◌, ◌≤◌, Bool, true, false, not, eqb, ltb, IsTrue, All, Option, Some, None, List, [], ◌∷◌, length, get_or, map, refl, sym, ap, ◌∙◌, subst, arith}
use Rattle.std.proofs.Math.Nat.{add-mul, div-add-mod'}
use Rattle.std.specs.Prelude.{◌||◌}
use Rattle.std.specs.List.{list_all, list_any, range_with_len}
use Rattle.loop_record.specs.declared.clip.Span.{Span}
use Rattle.loop_record.specs.declared.geometry.Geometry.{Geometry}
use Rattle.loop_record.specs.declared.image.Found.{Found}
use Rattle.loop_record.specs.Geometry.{is_good}
use Rattle.loop_record.specs.Layout.{clip_in}
use Rattle.loop_record.specs.Plain.{IsTagFit, AreIn, found_number, lacks_number, segments_of}
use Rattle.loop_record.specs.Reading.{is_bad_slot, lacks_frame, next_after, repeats}
use Rattle.loop_record.proofs.Bounds.{limits}
use Rattle.loop_record.proofs.TestFacts.{at_most, both, equal, neither, not_below, not_false}
use Rattle.loop_record.proofs.FoundSegments.{AreFull, IsFoundIn, found-read}
use Rattle.loop_record.proofs.OwnBytes.{map_range}
use Rattle.loop_record.proofs.HeldNumbers.{bad-lacks, clips-table}
use Rattle.loop_record.proofs.NumberOrder.{all_range-each}
use Rattle.loop_ring.specs.Heads.{heads_of, in_order}
use Rattle.loop_store.specs.declared.index.Index.{Index}
use Rattle.loop_store.specs.Drawn.{drawn_image}
use Rattle.loop_store.specs.Found.{IsHeadIn, clips_of, some_bad_clip}
use Rattle.loop_store.specs.Index.{IsOf, IsRecovered, SaysRecording}
use Rattle.loop_store.proofs.IndexImages.{Clips, FitsDrawn, Heads, all-there, clip-drawn, drawn-geometry, drawn-length, heads-drawn, none-bad}
use Rattle.loop_store.proofs.RecoveredWhole.{found-by, recovered}
use Rattle.loop_store.proofs.SegmentOrder.{order-within}
use Rattle.loop_store.proofs.AppendImages.{all-stand}

-- ---- clips of which each number is held

below : (g : Geometry) (fs : List Found) (n : ℕ) → 1 ≤ g.slots → AreIn g fs → list_any (found_number g n) fs ≡ true
    → n < 2 ^ 62
below g [] n some within e = absurd cc
below g (f ∷ fs) n some within e = go (found_number g n f) refl e (λ rest. below g fs n some within.1 rest)
  where
    here : found_number g n f ≡ true → n < 2 ^ 62
    here is =
        let k = both (eqb f.block (n / g.slots)) (ltb (n % g.slots) f.frames) is in
        let product : f.block * g.slots ≡ n / g.slots * g.slots = ap (λ (b : ℕ). b * g.slots) (equal f.block (n / g.slots) k.0) in
        let slot : suc (n % g.slots) ≤ f.frames = at_most (suc (n % g.slots)) f.frames k.1 in
        let end : (f.block + 1) * g.slots ≤ 2 ^ 62 = not_below (2 ^ 62) ((f.block + 1) * g.slots) within.0.low in
        omega (arith, product, slot, end, within.0.few, div-add-mod' n g.slots, add-mul f.block 1 g.slots)

    go : (t : Bool) → found_number g n f ≡ t → (t || list_any (found_number g n) fs) ≡ true
        → (list_any (found_number g n) fs ≡ true → n < 2 ^ 62) → n < 2 ^ 62
    go true is e rest = here is
    go false is e rest = rest e

fits-held : (g : Geometry) (fs : List Found) (c : Option Span) → 1 ≤ g.slots → AreIn g fs
    → lacks_number g fs c ≡ false → IsTagFit c → FitsDrawn c
fits-held g fs None some within e tag = tt
fits-held g fs (Some s) some within e tag =
    let k = neither (ltb s.to s.from) (not (list_all (λ n. list_any (found_number g n) fs) (range_with_len s.from (s.to + 1 - s.from)))) e in
    let order = not_below s.to s.from k.0 in
    let all = not_false (list_all (λ n. list_any (found_number g n) fs) (range_with_len s.from (s.to + 1 - s.from))) k.1 in
    let top = below g fs s.to some within (all_range-each (λ n. list_any (found_number g n) fs) s.from
    (s.to + 1 - s.from) s.to all order (omega (arith, order))) in
    record { from = omega (arith, order, top); to = omega (arith, top); tag = tag; placed = refl }

fits-all : (g : Geometry) (fs : List Found) (clips : Clips) (id : ℕ) → 1 ≤ g.slots → AreIn g fs
    → list_any (lacks_number g fs) clips ≡ false → IsTagFit (get_or clips id None) → FitsDrawn (get_or clips id None)
fits-all g fs [] id some within e tag = tt
fits-all g fs (c ∷ clips) zero some within e tag = fits-held g fs c some within (neither (lacks_number g fs c) (list_any (lacks_number g fs) clips) e).0 tag
fits-all g fs (c ∷ clips) (suc id) some within e tag = fits-all g fs clips id some within
    (neither (lacks_number g fs c) (list_any (lacks_number g fs) clips) e).1 tag

clips-drawn : (g : Geometry) (heads : Heads) (clips : Clips) → length clips ≡ 64
    → ((id : ℕ) → FitsDrawn (get_or clips id None)) → clips_of (drawn_image g heads clips) ≡ clips
clips-drawn g heads clips count fits =
    map_range (clip_in (drawn_image g heads clips)) (λ id. get_or clips id None) 0 64
    (λ id low high. clip-drawn g heads clips id (get_or clips id None) (omega (arith, high)) refl (fits id))
    ∙ ap (λ (n : ℕ). map (λ id. get_or clips id None) (range_with_len 0 n)) (sym count) ∙ all-there clips

-- ---- what was read

-- what the checks of an opening say, of any image that has these headers
pub record IsChecked (g : Geometry) (heads : Heads) (clips : Clips) (fs : List Found) (next : ℕ) : Type 0 where
  pub good : IsTrue (is_good g)
  pub count : length heads ≡ g.segments
  pub stand : All (IsHeadIn g) heads
  pub found : fs ≡ in_order 0 heads
  pub single : (image : List ℕ) → repeats (segments_of g image fs) ≡ false
  pub full : (image : List ℕ) → lacks_frame g (segments_of g image fs) ≡ false
  pub ids : length clips ≡ 64
  pub held : list_any (lacks_number g fs) clips ≡ false
  pub tags : (id : ℕ) → IsTagFit (get_or clips id None)
  pub next_is : (image : List ℕ) → next ≡ next_after g (segments_of g image fs)

pub says-recording : {A : Type 0} (index : Index A) (g : Geometry) (heads : Heads) (clips : Clips)
    (fs : List Found) (next : ℕ) → IsOf index g heads clips next → IsChecked g heads clips fs next
    → SaysRecording index
says-recording index g heads clips fs next is c =
    subst (λ (x : List ℕ). IsRecovered index x) (λ i. drawn_image (sym is.geometry i) (sym is.heads_are i) (sym is.clips_are i))
    (recovered index g image fs heads clips next is all right (sym clips_are, bad) (c.next_is image) (sym heads_are))
  where
    image : List ℕ
    image = drawn_image g heads clips

    some : 1 ≤ g.slots
    some = (limits g c.good).slots.0

    inside : AreIn g fs
    inside = order-within g heads fs c.count c.stand c.found

    heads_are : heads_of g image ≡ heads
    heads_are = heads-drawn g heads clips c.good c.count (all-stand g heads c.count c.stand)

    clips_are : clips_of image ≡ clips
    clips_are = clips-drawn g heads clips c.ids (λ id. fits-all g fs clips id some inside c.held (c.tags id))

    found : IsFoundIn g image fs
    found = found-by g image fs heads (drawn-geometry g heads clips c.good) (drawn-length g heads clips) (sym heads_are) inside c.found

    all : AreFull g image fs
    all = record { found = found; single = c.single image; full = c.full image }

    right : list_any (is_bad_slot g) (segments_of g image fs) ≡ false
    right = ap (list_any (is_bad_slot g)) (found-read g image fs found).are ∙ none-bad g heads clips c.good (all-stand g heads c.count c.stand)

    bad : some_bad_clip g image fs ≡ false
    bad = bad-lacks g image fs false some inside (ap (list_any (lacks_number g fs)) (clips-table image ∙ clips_are) ∙ c.held)
