-- Parts of a segment: what changes them, and what doesn't.
use Rattle.std.proofs.Common.{◌≡◌, ◌≢◌, inl, inr, ℕ, zero, suc, ◌+◌, ◌-◌, ◌<◌, ◌≤◌, Bool, true, false, cond, Option, Some, None, List, length, take, drop, get_or, map, refl, sym, ap, ◌∙◌, subst, arith}
use Rattle.std.proofs.lemmas.List.{length-drop, length-take, get_or-take, get_or-drop, ext_get_or}
use Rattle.std.specs.Prelude.{slice_range}
use Rattle.std.specs.List.{range_with_len, prefix_len}
use Rattle.loop_disk.specs.Medium.{SameOutside, with_bytes_at}
use Rattle.loop_disk.specs.Steps.{TornInTurn}
use Rattle.loop_record.specs.declared.geometry.Geometry.{Geometry}
use Rattle.loop_record.specs.Change.{ShowsSegment}
use Rattle.loop_record.specs.Geometry.{frame_bytes, segment_size, segment_at, gate_at, slot_at}
use Rattle.loop_record.specs.Layout.{Segment, is_open, slot_in, whole_frames, segment_in}
use Rattle.loop_record.proofs.Fields.{moved_number}
use Rattle.loop_record.proofs.OwnBytes.{SameWithin, SameWithin-part, prefix_range, prefix_range-le, map_range, slot_within, same_open, same_number, same_slot}

-- an image with the same bytes outside a segment shows what is in the segment
pub shows : (g : Geometry) (j : ℕ) (part : Option Segment) (old new : List ℕ) → SameOutside (segment_at g j)
    (segment_size g) old new → segment_in g new j ≡ part → ShowsSegment g j part old new
shows g j part old new s is = record { outside = record { size = s.size; before = s.before; behind = s.behind }; holds = is }

-- where both places are what they are meant to be
pub torn_at : (a b a' b' n n' : ℕ) (first old c : List ℕ) → a ≡ a' → b ≡ b' → n ≡ n' → TornInTurn a first b n old c
    → TornInTurn a' first b' n' old c
torn_at a b a' b' n n' first old c e f h (inl torn) = inl (subst (λ (k : ℕ). SameOutside k (length first) old c) e torn)
torn_at a b a' b' n n' first old c e f h (inr torn) =
    let one = subst (λ (k : ℕ). SameOutside b n (with_bytes_at k first old) c) e torn in
    let two = subst (λ (k : ℕ). SameOutside k n (with_bytes_at a' first old) c) f one in
    inr (subst (λ (k : ℕ). SameOutside b' k (with_bytes_at a' first old) c) h two)

-- ---- a segment's bytes

-- a segment except its gate
pub same_but_gate : (g : Geometry) (a b : List ℕ) (j : ℕ) → g.slots ≤ 256 → SameWithin (segment_at g j + 1)
    (segment_at g j + segment_size g) a b → is_open a (segment_at g j) ≡ is_open b (segment_at g j)
    → segment_in g a j ≡ segment_in g b j
same_but_gate g a b j few s gate =
    let at = segment_at g j in
    let part : (low high : ℕ) → at + 1 ≤ low → high ≤ at + segment_size g → SameWithin low high a b =
    λ low high. SameWithin-part (at + 1) (at + segment_size g) low high a b s in
    let block = same_number 8 (at + 8) a b (part (at + 8) (at + 8 + 8) (omega arith) (omega arith)) in
    let whole : whole_frames g a j ≡ whole_frames g b j = prefix_range (λ i. is_open a (gate_at g j i)) (λ i. is_open b (gate_at g j i)) 0 g.slots (λ i l h.
    same_open a b (gate_at g j i) (part (gate_at g j i) (gate_at g j i + 1) (omega arith) (omega (arith, few, h)))) in
    let slots : map (λ i. slot_in (frame_bytes g) a (slot_at g j i)) (range_with_len 0 (whole_frames g b j)) ≡ map
    (λ i. slot_in (frame_bytes g) b (slot_at g j i)) (range_with_len 0 (whole_frames g b j)) =
    map_range (λ i. slot_in (frame_bytes g) a (slot_at g j i)) (λ i. slot_in (frame_bytes g) b (slot_at g j i)) 0 (whole_frames g b j) (λ i l h.
    let few' = prefix_range-le (λ i. is_open b (gate_at g j i)) 0 g.slots in
    let end = slot_within g j i (omega (arith, h, few')) in
    same_slot (frame_bytes g) (slot_at g j i) a b (part (slot_at g j i) (slot_at g j i + 32 + frame_bytes g) (omega arith) (omega (arith, end)))) in
    rw (gate, block, whole, slots) refl

-- a segment is open where its gate is
pub closed_none : (g : Geometry) (c : List ℕ) (j : ℕ) → is_open c (segment_at g j) ≡ false → segment_in g c j ≡ None
closed_none g c j e = rw e refl

pub none_closed : (g : Geometry) (c : List ℕ) (j : ℕ) → segment_in g c j ≡ None → is_open c (segment_at g j) ≡ false
none_closed g c j e = go (is_open c (segment_at g j)) _ e
  where
    go : (t : Bool) (s : Segment) → cond t (Some s) None ≡ None → t ≡ false
    go true s e = absurd cc
    go false s e = refl

pub some_open : (g : Geometry) (c : List ℕ) (j : ℕ) → segment_in g c j ≢ None → is_open c (segment_at g j) ≡ true
some_open g c j ne = go (is_open c (segment_at g j)) refl
  where
    go : (t : Bool) → is_open c (segment_at g j) ≡ t → is_open c (segment_at g j) ≡ true
    go true e = e
    go false e = absurd (ne (closed_none g c j e))

-- each of the gates before the first closed one is open
pub prefix_open : (p : ℕ → Bool) (lo n i : ℕ) → i < prefix_len p (range_with_len lo n) → p (lo + i) ≡ true
prefix_open p lo zero i l = absurd (omega (arith, l))
prefix_open p lo (suc n) i l = go (p lo) refl i l (λ k. prefix_open p (lo + 1) n k)
  where
    go : (t : Bool) → p lo ≡ t → (i : ℕ) → i < cond t (1 + prefix_len p (range_with_len (lo + 1) n)) 0
        → ((k : ℕ) → k < prefix_len p (range_with_len (lo + 1) n) → p (lo + 1 + k) ≡ true) → p (lo + i) ≡ true
    go false e i l rest = absurd (omega (arith, l))
    go true e zero l rest = ap p (omega arith) ∙ e
    go true e (suc i) l rest = ap p (omega arith) ∙ rest i (omega (arith, l))

-- ---- bytes at another place

moved_slice : (n p q : ℕ) (a b : List ℕ) → p + n ≤ length a → q + n ≤ length b
    → ((k : ℕ) → k < n → get_or a (p + k) 0 ≡ get_or b (q + k) 0) → slice_range a p (p + n) ≡ slice_range b q (q + n)
moved_slice n p q a b fa fb same =
    let sa : p + n - p ≡ n = omega arith in
    let sb : q + n - q ≡ n = omega arith in
    let size : length (take n (drop p a)) ≡ length (take n (drop q b)) =
    omega (arith, fa, fb, length-take n (drop p a), length-take n (drop q b), length-drop p a, length-drop q b) in
    ap (λ (k : ℕ). take k (drop p a)) sa
    ∙ ext_get_or 0 (take n (drop p a)) (take n (drop q b)) size (λ i h.
    let low : i < n = omega (arith, h, length-take n (drop p a)) in
    get_or-take n (drop p a) i 0 low ∙ get_or-drop p a i 0 ∙ same i low ∙ sym (get_or-drop q b i 0) ∙ sym (get_or-take n (drop q b) i 0 low))
    ∙ sym (ap (λ (k : ℕ). take k (drop q b)) sb)

pub moved_slot : (n p q : ℕ) (a b : List ℕ) → p + (32 + n) ≤ length a → q + (32 + n) ≤ length b
    → ((k : ℕ) → k < 32 + n → get_or a (p + k) 0 ≡ get_or b (q + k) 0) → slot_in n a p ≡ slot_in n b q
moved_slot n p q a b fa fb same =
    let at : (i k : ℕ) → i + k < 32 + n → get_or a (p + i + k) 0 ≡ get_or b (q + i + k) 0 = λ i k l.
    let l' : p + i + k ≡ p + (i + k) = omega arith in
    let r' : q + (i + k) ≡ q + i + k = omega arith in
    ap (λ (x : ℕ). get_or a x 0) l' ∙ same (i + k) l ∙ ap (λ (x : ℕ). get_or b x 0) r' in
    let number = moved_number 8 p q a b (λ k l. same k (omega (arith, l))) in
    let sequence = moved_number 4 (p + 8) (q + 8) a b (λ k l. at 8 k (omega (arith, l))) in
    let flags = moved_number 4 (p + 12) (q + 12) a b (λ k l. at 12 k (omega (arith, l))) in
    let timestamp = moved_number 8 (p + 16) (q + 16) a b (λ k l. at 16 k (omega (arith, l))) in
    let size = moved_number 4 (p + 24) (q + 24) a b (λ k l. at 24 k (omega (arith, l))) in
    let bytes = moved_slice n (p + 32) (q + 32) a b (omega (arith, fa)) (omega (arith, fb)) (λ k l. at 32 k (omega (arith, l))) in
    λ i. record { number = number i; size = size i; picture = record { sequence = sequence i; flags = flags i; timestamp = timestamp i; bytes = bytes i } }
