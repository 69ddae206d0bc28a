-- What a slot of an image says of the recording that the image holds.
use Rattle.std.proofs.Common.{◌≡◌, ℕ, zero, suc, ◌+◌, ◌*◌, ◌<◌, ◌≤◌, Bool, true, false, cond, eqb, Option, Some, None, List, [], ◌∷◌, ◌++◌, length, map, get_or, set, refl, sym, ap, ◌∙◌, arith}
use Rattle.std.proofs.Math.Nat.{mul-le-mul_right, add-mul}
use Rattle.std.proofs.lemmas.Bool.Decides.{nat_tests}
use Rattle.std.proofs.lemmas.List.{length-map, get_or-map, set-get_or}
use Rattle.std.specs.Prelude.{◌||◌}
use Rattle.std.specs.List.{list_any, enumerate_from, range_with_len}
use Rattle.loop_record.specs.declared.geometry.Geometry.{Geometry}
use Rattle.loop_record.specs.Geometry.{frame_bytes, slot_at}
use Rattle.loop_record.specs.Recording.{Picture, Recording, frame_under}
use Rattle.loop_record.specs.Layout.{Slot, Segment, is_open, slot_in, is_slot_of, segment_in, whole_frames}
use Rattle.loop_record.specs.Reading.{Holds, is_bad_slot, frames_of, open_segments, by_block, recording_or_damage}
use Rattle.loop_record.specs.Parts.{parts_of}
use Rattle.loop_record.proofs.TestFacts.{both, neither, not_false}
use Rattle.loop_record.proofs.Parts.{reading-stages}
use Rattle.loop_record.proofs.Growth.{AllBelow}
use Rattle.loop_record.proofs.Segments.{placed_there, any_move}
use Rattle.loop_record.proofs.Changes.{shown_of, is_overfull, all_frames-append}
use Rattle.loop_record.proofs.Readings.{get_or-map_range, overfull_none, whole-length, segments_length, segment_there}
use Rattle.loop_record.proofs.Names.{hold_from, all_frames}

-- ---- the frames of lower segments

-- each number is below this one
abbrev Under : ℕ → List (ℕ × Picture) → Type 0
Under high [] = Unit {0}
Under high (f ∷ fs) = (f.0 < high) × Under high fs

under-append : (high : ℕ) (fs gs : List (ℕ × Picture)) → Under high fs → Under high gs → Under high (fs ++ gs)
under-append high [] gs h k = k
under-append high (f ∷ fs) gs h k = (h.0, under-append high fs gs h.1 k)

under-enumerate : (high n : ℕ) (ps : List Picture) → n + length ps ≤ high → Under high (enumerate_from n ps)
under-enumerate high n [] h = tt
under-enumerate high n (p ∷ ps) h = (omega (arith, h), under-enumerate high (n + 1) ps (omega (arith, h)))

lower-under : (g : Geometry) (b : ℕ) (ss : List Segment) → AllBelow b ss → list_any (is_overfull g) ss ≡ false
    → Under (b * g.slots) (all_frames g ss)
lower-under g b [] h fits = tt
lower-under g b (s ∷ ss) h fits =
    let k = neither (is_overfull g s) (list_any (is_overfull g) ss) fits in
    let most : length s.slots ≤ g.slots = grind (arith, nat_tests, k.0) in
    let le : (s.block + 1) * g.slots ≤ b * g.slots = mul-le-mul_right g.slots (omega (arith, h.0)) in
    let split : (s.block + 1) * g.slots ≡ s.block * g.slots + g.slots = omega (arith, add-mul s.block 1 g.slots) in
    under-append (b * g.slots) (frames_of g s) (all_frames g ss)
    (under-enumerate (b * g.slots) (s.block * g.slots) (map (λ t. t.picture) s.slots) (omega (arith, length-map s.slots (λ t. t.picture), most, le, split)))
    (lower-under g b ss h.1 k.1)

-- a number is found after frames of lower ones
frame_under-behind : (high n : ℕ) (fs gs : List (ℕ × Picture)) → Under high fs → high ≤ n
    → frame_under (fs ++ gs) n ≡ frame_under gs n
frame_under-behind high n [] gs h le = refl
frame_under-behind high n (f ∷ fs) gs h le =
    let apart : eqb f.0 n ≡ false = grind (arith, nat_tests, h.0, le) in
    let rest = frame_under-behind high n fs gs h.1 le in
    λ i. cond (apart i) (Some f.1) (rest i)

frame_under-enumerate : (n i : ℕ) (ps : List Picture) (p : Picture) (gs : List (ℕ × Picture)) → i < length ps
    → frame_under (enumerate_from n ps ++ gs) (n + i) ≡ Some (get_or ps i p)
frame_under-enumerate n i [] p gs l = absurd (omega (arith, l))
frame_under-enumerate n zero (q ∷ ps) p gs l =
    let same : eqb n (n + 0) ≡ true = grind (arith, nat_tests) in
    λ i. cond (same i) (Some q) (frame_under (enumerate_from (n + 1) ps ++ gs) (n + 0))
frame_under-enumerate n (suc i) (q ∷ ps) p gs l =
    let apart : eqb n (n + suc i) ≡ false = grind (arith, nat_tests) in
    let at : n + suc i ≡ n + 1 + i = omega arith in
    (λ k. cond (apart k) (Some q) (frame_under (enumerate_from (n + 1) ps ++ gs) (at k))) ∙ frame_under-enumerate (n + 1) i ps p gs (omega (arith, l))

hold_from-at : (n number i : ℕ) (ss : List Slot) (s : Slot) → i < length ss → hold_from n number ss ≡ true
    → is_slot_of n (number + i) (get_or ss i s) ≡ true
hold_from-at n number i [] s l e = absurd (omega (arith, l))
hold_from-at n number zero (t ∷ ss) s l e =
    let h = both (is_slot_of n number t) (hold_from n (number + 1) ss) e in
    let at : number + 0 ≡ number = omega arith in
    ap (λ (k : ℕ). is_slot_of n k t) at ∙ h.0
hold_from-at n number (suc i) (t ∷ ss) s l e =
    let h = both (is_slot_of n number t) (hold_from n (number + 1) ss) e in
    let at : number + suc i ≡ number + 1 + i = omega arith in
    ap (λ (k : ℕ). is_slot_of n k (get_or ss i s)) at ∙ hold_from-at n (number + 1) i ss s (omega (arith, l)) h.1

-- ---- slots

-- the slots of an open segment are at their places
pub slots-are : (g : Geometry) (image : List ℕ) (j : ℕ) (u : Segment) → segment_in g image j ≡ Some u
    → u.slots ≡ map (λ i. slot_in (frame_bytes g) image (slot_at g j i)) (range_with_len 0 (whole_frames g image j))
slots-are g image j u e = go (is_open image _) _ e
  where
    slots_of : Option Segment → List Slot
    slots_of None = []
    slots_of (Some s) = s.slots

    go : (t : Bool) (b : ℕ) → cond t
        (Some (record {
          block = b;
          slots = map (λ i. slot_in (frame_bytes g) image (slot_at g j i))
              (range_with_len 0 (whole_frames g image j));
        })) None ≡ Some u
        → u.slots ≡ map (λ i. slot_in (frame_bytes g) image (slot_at g j i)) (range_with_len 0 (whole_frames g image j))
    go true b e = sym (ap slots_of e)
    go false b e = absurd cc

-- what slot i of an open segment of block b says: it is that of the frame with number b * slots + i, which is held
pub record IsSlotOf (g : Geometry) (r : Recording) (number : ℕ) (s : Slot) : Type 0 where
  pub right : is_slot_of (frame_bytes g) number s ≡ true
  pub held : frame_under r.frames number ≡ Some s.picture

pub reading-slot : (g : Geometry) (r : Recording) (image : List ℕ) (j i : ℕ) (u : Segment) → Holds g r image
    → j < g.segments → segment_in g image j ≡ Some u → i < whole_frames g image j
    → IsSlotOf g r (u.block * g.slots + i) (slot_in (frame_bytes g) image (slot_at g j i))
reading-slot g r image j i u e l there within =
    let ps = (parts_of g image).segments in
    let clips = (parts_of g image).clips in
    let s : Slot = slot_in (frame_bytes g) image (slot_at g j i) in
    let was = reading-stages g r image e in
    let is : get_or ps j None ≡ Some u = segment_there g image j l ∙ there in
    let found = shown_of g (by_block (open_segments ps)) clips r was.recording in
    let p = placed_there u j ps (omega (arith, l, segments_length g image)) is found.single in
    let whole : set ps j (Some u) ≡ ps = sym (ap (λ (q : Option Segment). set ps j q) is) ∙ set-get_or ps j None in
    let sorted : by_block (open_segments ps) ≡ p.lower ++ u ∷ p.higher = sym (ap (λ qs. by_block (open_segments qs)) whole) ∙ p.with_it u refl in
    let now = shown_of g (p.lower ++ u ∷ p.higher) clips r (sym (ap (λ ss. recording_or_damage g ss clips) sorted) ∙ was.recording) in
    let count : length u.slots ≡ whole_frames g image j = sym (whole-length g image j u there) in
    let at : 0 + i ≡ i = omega arith in
    let slot : get_or u.slots i s ≡ s = ap (λ (ss : List Slot). get_or ss i s) (slots-are g image j u there)
    ∙ get_or-map_range (λ k. slot_in (frame_bytes g) image (slot_at g j k)) 0 (whole_frames g image j) i s within
    ∙ ap (λ (k : ℕ). slot_in (frame_bytes g) image (slot_at g j k)) at in
    let bad = neither (is_bad_slot g u) (list_any (is_bad_slot g) (p.lower ++ p.higher)) (sym (any_move (is_bad_slot g) u p.lower p.higher) ∙ now.right) in
    let hold : hold_from (frame_bytes g) (u.block * g.slots) u.slots ≡ true = not_false _ bad.0 in
    let overfull = neither (is_overfull g u) (list_any (is_overfull g) (p.lower ++ p.higher))
    (sym (any_move (is_overfull g) u p.lower p.higher) ∙ sym (ap (list_any (is_overfull g)) sorted)
    ∙ overfull_none g image) in
    let frames : r.frames ≡ all_frames g p.lower ++ (frames_of g u ++ all_frames g p.higher) =
    sym (ap (λ (q : Recording). q.frames) now.is) ∙ all_frames-append g p.lower (u ∷ p.higher) in
    record {
      right = sym (ap (λ (t : Slot). is_slot_of (frame_bytes g) (u.block * g.slots + i) t) slot)
          ∙ hold_from-at (frame_bytes g) (u.block * g.slots) i u.slots s (omega (arith, within, count)) hold;
      held =
          ap (λ (fs : List (ℕ × Picture)). frame_under fs (u.block * g.slots + i)) frames
          ∙ frame_under-behind (u.block * g.slots) (u.block * g.slots + i) (all_frames g p.lower)
          (frames_of g u ++ all_frames g p.higher)
          (lower-under g u.block p.lower p.below (front p.lower p.higher overfull.1)) (omega arith)
          ∙ frame_under-enumerate (u.block * g.slots) i (map (λ t. t.picture) u.slots) s.picture
          (all_frames g p.higher) (omega (arith, within, count, length-map u.slots (λ t. t.picture)))
          ∙ ap (λ (q : Picture). Some q) (get_or-map (λ t. t.picture) u.slots i s s.picture (omega (arith, within, count)) ∙ ap (λ (t : Slot). t.picture) slot);
    }
  where
    front : (xs ys : List Segment) → list_any (is_overfull g) (xs ++ ys) ≡ false → list_any (is_overfull g) xs ≡ false
    front [] ys e = refl
    front (x ∷ xs) ys e =
        let k = neither (is_overfull g x) (list_any (is_overfull g) (xs ++ ys)) e in
        let rest = front xs ys k.1 in
        λ i. k.0 i || rest i
