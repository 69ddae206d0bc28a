-- The numbers of held frames.
use Rattle.std.proofs.Common.{◌≡◌, ℕ, zero, suc, ◌+◌, ◌*◌, ◌/◌, ◌%◌, ◌<◌, ◌≤◌, Bool, true, false, ◌&&◌, eqb, leb, ltb, Option, None, Some, List, [], ◌∷◌, ◌++◌, get_or, length, map, take, refl, sym, ap, ◌∙◌, subst, arith}
use Rattle.std.proofs.Math.Nat.{add-mul, div-eq_of_lt-le}
use Rattle.std.proofs.lemmas.Bool.Decides.{nat_tests}
use Rattle.std.proofs.lemmas.List.{append-nil, append_assoc, length-append, length-map, map-append, take_more}
use Rattle.std.proofs.lemmas.List.Folds.{list_any-append}
use Rattle.std.proofs.lemmas.Nat.{div-add-mod', mul-le}
use Rattle.std.specs.List.{All, enumerate_from, list_any, range_with_len}
use Rattle.std.specs.Prelude.{◌||◌}
use Rattle.loop_record.specs.declared.geometry.Geometry.{Geometry}
use Rattle.loop_record.specs.declared.image.Found.{Found}
use Rattle.loop_record.specs.declared.segment.SegmentHead.{SegmentHead}
use Rattle.loop_record.specs.Geometry.{frame_bytes, slot_at}
use Rattle.loop_record.specs.Layout.{Segment, slot_in}
use Rattle.loop_record.specs.Plain.{AreIn, IsIn, segment_of, segments_of}
use Rattle.loop_record.specs.Reading.{Holds, by_block, frames_of, open_segments}
use Rattle.loop_record.specs.Parts.{parts_of}
use Rattle.loop_record.specs.Recording.{Picture, Recording}
use Rattle.loop_record.proofs.TestFacts.{at_most, at_most_test, both, equal, equal_test}
use Rattle.loop_record.proofs.Gates.{range_append}
use Rattle.loop_record.proofs.Readings.{length-range}
use Rattle.loop_ring.specs.Heads.{has_number}
use Rattle.loop_ring.proofs.HeldBlocks.{sorted}
use Rattle.loop_store.specs.Numbers.{is_among, numbers_in, numbers_under}
use Rattle.loop_store.specs.Found.{IsHeadIn}
use Rattle.loop_record.proofs.Names.{all_frames}

enumerated : (n : ℕ) (ps : List Picture) → map (λ f. f.0) (enumerate_from n ps) ≡ range_with_len n (length ps)
enumerated n [] = refl
enumerated n (p ∷ ps) = ap (λ (ns : List ℕ). n ∷ ns) (enumerated (n + 1) ps)

segment-numbers : (g : Geometry) (image : List ℕ) (f : Found)
    → map (λ f. f.0) (frames_of g (segment_of g image f)) ≡ range_with_len (f.block * g.slots) f.frames
segment-numbers g image f =
    let slots = map (λ i. slot_in (frame_bytes g) image (slot_at g f.segment i)) (range_with_len 0 f.frames) in
    enumerated (f.block * g.slots) (map (λ t. t.picture) slots)
    ∙ ap (range_with_len (f.block * g.slots)) (length-map slots (λ t. t.picture)
    ∙ length-map (range_with_len 0 f.frames) (λ i. slot_in (frame_bytes g) image (slot_at g f.segment i))
    ∙ length-range 0 f.frames)

numbers-are : (g : Geometry) (image : List ℕ) (fs : List Found)
    → map (λ f. f.0) (all_frames g (segments_of g image fs)) ≡ numbers_in g fs
numbers-are g image [] = refl
numbers-are g image (f ∷ fs) = map-append (λ f. f.0) (frames_of g (segment_of g image f))
    (all_frames g (segments_of g image fs)) ∙ (λ i. segment-numbers g image f i ++ numbers-are g image fs i)

-- the numbers of the open segments, in the order of their blocks, are those of the recording
pub held-numbers : (g : Geometry) (r : Recording) (image : List ℕ) (fs : List Found) → Holds g r image
    → segments_of g image fs ≡ by_block (open_segments (parts_of g image).segments)
    → numbers_in g fs ≡ map (λ f. f.0) r.frames
held-numbers g r image fs held are =
    sym (numbers-are g image fs) ∙ ap (λ (ss : List Segment). map (λ f. f.0) (all_frames g ss)) are
    ∙ ap (λ (ps : List (ℕ × Picture)). map (λ f. f.0) ps) (sorted g r image held).frames

-- ---- the numbers, one after the other

-- one number more
pub number-more : (first n number : ℕ) (old new now : List ℕ) → number ≡ first + n → now ≡ old
    ++ range_with_len first n → new ≡ now ++ number ∷ [] → new ≡ old ++ range_with_len first (n + 1)
number-more first n number old new now is so_far pushed =
    pushed ∙ (λ i. so_far i ++ is i ∷ []) ∙ append_assoc old (range_with_len first n) ((first + n) ∷ [])
    ∙ ap (λ (ns : List ℕ). old ++ ns) (sym (range_append first n 1))

-- how many they are
pub number-count : (first n : ℕ) (old now : List ℕ) → now ≡ old ++ range_with_len first n → length now ≡ length old + n
number-count first n old now so_far = omega (arith, ap (λ (ns : List ℕ). length ns) so_far, length-append old (range_with_len first n), length-range first n)

numbers-append : (g : Geometry) (fs hs : List Found) → numbers_in g (fs ++ hs) ≡ numbers_in g fs ++ numbers_in g hs
numbers-append g [] hs = refl
numbers-append g (f ∷ fs) hs =
    let ns = range_with_len (f.block * g.slots) f.frames in
    ap (λ (ms : List ℕ). ns ++ ms) (numbers-append g fs hs) ∙ sym (append_assoc ns (numbers_in g fs) (numbers_in g hs))

-- the numbers of one segment more
pub segment-more : (g : Geometry) (fs : List Found) (k : ℕ) (d : Found) (now new : List ℕ) → k < length fs
    → now ≡ numbers_in g (take k fs)
    → (let f = get_or fs k d in new ≡ now ++ range_with_len (f.block * g.slots) f.frames)
    → new ≡ numbers_in g (take (k + 1) fs)
segment-more g fs k d now new l so_far added =
    let f = get_or fs k d in
    let ns = range_with_len (f.block * g.slots) f.frames in
    added ∙ ap (λ (ms : List ℕ). ms ++ ns) so_far ∙ ap (λ (ms : List ℕ). numbers_in g (take k fs) ++ ms)
    (sym (append-nil ns)) ∙ sym (numbers-append g (take k fs) (f ∷ []))
    ∙ ap (numbers_in g) (sym (take_more fs k d l))

-- and they are no more than the slots so far
pub few-more : (slots k first frames : ℕ) (now new : List ℕ) → new ≡ now ++ range_with_len first frames
    → length now ≤ k * slots → frames ≤ slots → length new ≤ (k + 1) * slots
few-more slots k first frames now new added few in_slots = omega (arith, number-count first frames now new added, add-mul k 1 slots, few, in_slots)

-- one of those found
pub one-in : (g : Geometry) (fs : List Found) (k : ℕ) (d : Found) → AreIn g fs → k < length fs → IsIn g (get_or fs k d)
one-in g [] k d all l = absurd (omega (arith, l))
one-in g (f ∷ fs) zero d all l = all.0
one-in g (f ∷ fs) (suc k) d all l = one-in g fs k d all.1 (omega (arith, l))

-- there is room for its numbers
pub room-for : (slots k count have frames room : ℕ) → k < count → have ≤ k * slots → frames ≤ slots
    → count * slots ≤ room → have + frames ≤ room
room-for slots k count have frames room l few in_slots enough =
    let one : (k + 1) * slots ≡ k * slots + slots = omega (arith, add-mul k 1 slots) in
    let all : (k + 1) * slots ≤ count * slots = mul-le (k + 1) slots count slots (omega (arith, l)) (omega arith) in
    omega (arith, one, all, few, in_slots, enough)

-- ---- the numbers that headers name

below : (m n : ℕ) → ltb m n ≡ true → m < n
below m n e = at_most (suc m) n e

below_test : (m n : ℕ) → m < n → ltb m n ≡ true
below_test m n l = at_most_test (suc m) n l

same-test : (a b : Bool) → (a ≡ true → b ≡ true) → (b ≡ true → a ≡ true) → a ≡ b
same-test true b there back = sym (there refl)
same-test false true there back = back refl
same-test false false there back = refl

-- a number is among those of a range where it lies between its ends
pub among-range : (n a count : ℕ) → is_among (range_with_len a count) n ≡ (leb a n && ltb n (a + count))
among-range n a zero = same-test false (leb a n && ltb n (a + 0)) (λ e. absurd cc)
    (λ e. absurd (let t = both (leb a n) (ltb n (a + 0)) e in omega (arith, at_most a n t.0, below n (a + 0) t.1)))
among-range n a (suc count) = ap (λ (t : Bool). eqb a n || t) (among-range n (a + 1) count) ∙ grind (arith, nat_tests)

-- the same for the numbers of a block's frames
pub among-block : (n slots b frames : ℕ) → 1 ≤ slots → frames ≤ slots
    → is_among (range_with_len (b * slots) frames) n ≡ (eqb b (n / slots) && ltb (n % slots) frames)
among-block n slots b frames some few = among-range n (b * slots) frames
    ∙ same-test (leb (b * slots) n && ltb n (b * slots + frames)) (eqb b (n / slots) && ltb (n % slots) frames) there
    back
  where
    split : n / slots * slots + n % slots ≡ n
    split = div-add-mod' n slots

    there : (leb (b * slots) n && ltb n (b * slots + frames)) ≡ true
        → (eqb b (n / slots) && ltb (n % slots) frames) ≡ true
    there e =
        let t = both (leb (b * slots) n) (ltb n (b * slots + frames)) e in
        let low : b * slots ≤ n = at_most (b * slots) n t.0 in
        let high : n < b * slots + frames = below n (b * slots + frames) t.1 in
        let one : (b + 1) * slots ≡ b * slots + 1 * slots = add-mul b 1 slots in
        let is : n / slots ≡ b = div-eq_of_lt-le slots low (omega (arith, one, high, few)) in
        let rest : b * slots + n % slots ≡ n = subst (λ (k : ℕ). k * slots + n % slots ≡ n) is split in
        (λ i. equal_test b (n / slots) (sym is) i && ltb (n % slots) frames) ∙ below_test (n % slots) frames (omega (arith, rest, high))

    back : (eqb b (n / slots) && ltb (n % slots) frames) ≡ true
        → (leb (b * slots) n && ltb n (b * slots + frames)) ≡ true
    back e =
        let t = both (eqb b (n / slots)) (ltb (n % slots) frames) e in
        let is : b ≡ n / slots = equal b (n / slots) t.0 in
        let less : n % slots < frames = below (n % slots) frames t.1 in
        let rest : b * slots + n % slots ≡ n = subst (λ (k : ℕ). k * slots + n % slots ≡ n) (sym is) split in
        (λ i. at_most_test (b * slots) n (omega (arith, rest)) i && ltb n (b * slots + frames)) ∙ below_test n (b * slots + frames) (omega (arith, rest, less))

-- a number is among those that headers name where a segment has its frame
pub among-under : (g : Geometry) (n : ℕ) (heads : List (Option SegmentHead)) → 1 ≤ g.slots → All (IsHeadIn g) heads
    → is_among (numbers_under g.slots heads) n ≡ list_any (has_number g.slots n) heads
among-under g n [] some all = refl
among-under g n (None ∷ heads) some all = among-under g n heads some (λ k d l. all (suc k) d (omega (arith, l)))
among-under g n (Some head ∷ heads) some all =
    list_any-append (λ m. eqb m n) (range_with_len (head.block * g.slots) head.frames) (numbers_under g.slots heads)
    ∙ (λ i. among-block n g.slots head.block head.frames some (all 0 None (omega arith)).0 i || among-under g n heads
    some (λ k d l. all (suc k) d (omega (arith, l))) i)
