-- What the closing of stray gates makes of a segment.
use Rattle.std.proofs.Common.{◌≡◌, ◌⊎◌, inl, inr, ℕ, zero, suc, ◌+◌, ◌-◌, ◌<◌, ◌≤◌, Bool, true, false, cond, eqb, Some, None, List, length, min, take, replicate, get_or, refl, sym, ap, ◌∙◌, arith}
use Rattle.std.proofs.lemmas.Bool.{cases_lt}
use Rattle.std.proofs.lemmas.List.{get_or-replicate, get_or-take, length-take}
use Rattle.std.proofs.lemmas.List.Elements.{All-from_get_or}
use Rattle.std.proofs.lemmas.List.Folds.{list_any_at, list_any_none}
use Rattle.std.specs.List.{list_any, range_with_len, prefix_len}
use Rattle.loop_disk.specs.Medium.{SameOutside, piece, with_bytes_at}
use Rattle.loop_disk.proofs.Images.{get_or-piece, get_or-written_there, length-piece, untouched, widened}
use Rattle.loop_record.specs.declared.geometry.Geometry.{Geometry}
use Rattle.loop_record.specs.Change.{ShowsSegment}
use Rattle.loop_record.specs.Geometry.{frame_bytes, segment_size, segment_at, gate_at, slot_at}
use Rattle.loop_record.specs.Layout.{is_open, slot_in, whole_frames, segment_in}
use Rattle.loop_record.proofs.OwnBytes.{SameWithin, map_range, same_open, same_number, same_slot}
use Rattle.loop_record.proofs.Gates.{first_closed_between, slots_from}
use Rattle.loop_ring.specs.Writes.{AreClosed, HasNoStray}
use Rattle.loop_ring.proofs.Bytes.{shows, prefix_open}

-- ---- gates of a range

-- a test doesn't have both results
pub never : {X : Type 0} (b : Bool) → b ≡ true → b ≡ false → X
never b left right = absurd cc

-- the first of 256 zeros
abbrev pub zeros : ℕ → List ℕ
zeros n = take n (replicate 256 0)

pub length-zeros : (n : ℕ) → n ≤ 256 → length (zeros n) ≡ n
length-zeros n few = let size : length (zeros n) ≡ min n 256 = length-take n (replicate {A = ℕ} 256 0) in omega (arith, few, size)

zero_there : (n i : ℕ) → n ≤ 256 → i < n → get_or (zeros n) i 0 ≡ 0
zero_there n i few l = get_or-take n (replicate 256 0) i 0 l ∙ get_or-replicate 256 i 0 0 (omega (arith, l, few))

-- what is read over the first of 256 zeros
pub read_front : (at n : ℕ) (image gates : List ℕ) → n ≤ 256 → gates ≡ piece at (length (zeros n)) image
    → gates ≡ piece at n image
read_front at n image gates few read = read ∙ ap (λ (k : ℕ). piece at k image) (length-zeros n few)

-- where none of the gates that were read is open, they are closed
pub closed_as_read : (at n : ℕ) (image gates : List ℕ) → at + n ≤ length image → gates ≡ piece at n image
    → list_any (λ gate. eqb gate 0xA5) gates ≡ false → AreClosed at n image
closed_as_read at n image gates fits read none i low high = go (is_open image i) refl
  where
    size : length gates ≡ n
    size = omega (arith, ap length read, length-piece at n image, fits)

    there : get_or gates (i - at) 0 ≡ get_or image i 0
    there =
        let place : at + (i - at) ≡ i = omega (arith, low) in
        ap (λ (l : List ℕ). get_or l (i - at) 0) read ∙ get_or-piece at n image (i - at) (omega (arith, low, high)) ∙ ap (λ (k : ℕ). get_or image k 0) place

    go : (t : Bool) → is_open image i ≡ t → is_open image i ≡ false
    go false e = e
    go true e = e ∙ sym (list_any_at (λ gate. eqb gate 0xA5) gates (i - at) 0 (omega (arith, size, low, high)) (ap (λ (k : ℕ). eqb k 0xA5) there ∙ e)) ∙ none

-- where they are closed, none of the gates that were read is open
pub none_open : (at n : ℕ) (image gates : List ℕ) → at + n ≤ length image → gates ≡ piece at n image
    → AreClosed at n image → list_any (λ gate. eqb gate 0xA5) gates ≡ false
none_open at n image gates fits read closed = list_any_none (λ gate. eqb gate 0xA5) gates (All-from_get_or (λ gate. eqb gate 0xA5 ≡ false) gates 0 (λ i l.
    let within : i < n = omega (arith, l, ap length read, length-piece at n image) in
    ap (λ (l : List ℕ). eqb (get_or l i 0) 0xA5) read ∙ ap (λ (k : ℕ). eqb k 0xA5) (get_or-piece at n image i within)
    ∙ closed (at + i) (omega arith) (omega (arith, within))))

-- zeros are closed gates
pub closed_written : (at n : ℕ) (image new : List ℕ) → n ≤ 256 → at + n ≤ length image
    → new ≡ with_bytes_at at (zeros n) image → AreClosed at n new
closed_written at n image new few fits is i low high =
    let place : at + (i - at) ≡ i = omega (arith, low) in
    let within : i - at < n = omega (arith, low, high) in
    let size = length-zeros n few in
    let byte : get_or (with_bytes_at at (zeros n) image) i 0 ≡ 0 =
    sym (ap (λ (k : ℕ). get_or (with_bytes_at at (zeros n) image) k 0) place)
    ∙ get_or-written_there at (zeros n) image (i - at) (omega (arith, fits)) (omega (arith, within, size))
    ∙ zero_there n (i - at) few within in
    ap (λ (l : List ℕ). is_open l i) is ∙ ap (λ (k : ℕ). eqb k 0xA5) byte

-- ---- a segment

-- the first closed of some gates is closed
prefix_closed : (p : ℕ → Bool) (lo n : ℕ) → prefix_len p (range_with_len lo n) < n
    → p (lo + prefix_len p (range_with_len lo n)) ≡ false
prefix_closed p lo zero l = absurd (omega (arith, l))
prefix_closed p lo (suc n) l = go (p lo) refl l (λ h. prefix_closed p (lo + 1) n h)
  where
    go : (t : Bool) → p lo ≡ t → cond t (1 + prefix_len p (range_with_len (lo + 1) n)) 0 < suc n
        → (prefix_len p (range_with_len (lo + 1) n) < n → p (lo + 1 + prefix_len p (range_with_len (lo + 1) n)) ≡ false)
        → p (lo + cond t (1 + prefix_len p (range_with_len (lo + 1) n)) 0) ≡ false
    go false e l rest = ap p (omega arith) ∙ e
    go true e l rest = ap p (omega arith) ∙ rest (omega (arith, l))

-- the gate that ends the whole frames
ends_closed : (g : Geometry) (j k : ℕ) (image : List ℕ) → whole_frames g image j ≡ k → k < g.slots
    → is_open image (gate_at g j k) ≡ false
ends_closed g j k image whole l =
    let gate = λ (i : ℕ). is_open image (gate_at g j i) in
    let at : k ≡ 0 + whole_frames g image j = omega (arith, whole) in
    ap gate at ∙ prefix_closed gate 0 g.slots (omega (arith, whole, l))

-- where the gates after the first closed one are these, whatever they are
pub record IsBehind (g : Geometry) (j k at n : ℕ) (old : List ℕ) : Type 0 where
  pub few : g.slots ≤ 256
  pub place : at ≡ gate_at g j (k + 1)
  pub end : k + 1 + n ≡ g.slots
  pub whole : whole_frames g old j ≡ k

-- the gates up to the first closed one stay
front_kept : (g : Geometry) (j k at n i : ℕ) (old c : List ℕ) → IsBehind g j k at n old → SameOutside at n old c
    → i ≤ k → is_open c (gate_at g j i) ≡ is_open old (gate_at g j i)
front_kept g j k at n i old c b torn l = ap (λ (x : ℕ). eqb x 0xA5) (torn.before (gate_at g j i) (omega (arith, l, b.place)))

-- the number of whole frames stays
whole_kept : (g : Geometry) (j k at n : ℕ) (old c : List ℕ) → IsBehind g j k at n old → SameOutside at n old c
    → whole_frames g c j ≡ k
whole_kept g j k at n old c b torn =
    let gate = λ (i : ℕ). is_open old (gate_at g j i) in
    let range = first_closed_between (λ i. is_open c (gate_at g j i)) 0 g.slots k k
    (λ i low high.
    let here : i ≡ 0 + i = omega arith in
    front_kept g j k at n i old c b torn (omega (arith, high)) ∙ ap gate here ∙ prefix_open gate 0 g.slots i (omega (arith, high, b.whole)))
    (omega arith) (omega (arith, b.end))
    (inr (front_kept g j k at n (0 + k) old c b torn (omega arith) ∙ ends_closed g j (0 + k) old (b.whole ∙ omega arith) (omega (arith, b.end)))) in
    omega (arith, range.0, range.1)

segment_kept : (g : Geometry) (j k at n : ℕ) (old c : List ℕ) → IsBehind g j k at n old → SameOutside at n old c
    → segment_in g c j ≡ segment_in g old j
segment_kept g j k at n old c b torn =
    let from = segment_at g j in
    let front : (low high : ℕ) → high ≤ at → SameWithin low high c old =
    λ low high h. record { size = torn.size; bytes = λ i l u. torn.before i (omega (arith, u, h)) } in
    let gate = same_open c old from (front from (from + 1) (omega (arith, b.place))) in
    let block = same_number 8 (from + 8) c old (front (from + 8) (from + 8 + 8) (omega (arith, b.place))) in
    let whole : whole_frames g c j ≡ whole_frames g old j = whole_kept g j k at n old c b torn ∙ sym b.whole in
    let same : slots_from g c j 0 (whole_frames g old j) ≡ slots_from g old j 0 (whole_frames g old j) =
    map_range (λ i. slot_in (frame_bytes g) c (slot_at g j i)) (λ i. slot_in (frame_bytes g) old (slot_at g j i)) 0 (whole_frames g old j) (λ i l h.
    same_slot (frame_bytes g) (slot_at g j i) c old
    (record {
      size = torn.size;
      bytes =
          λ x low high. torn.behind x (omega (arith, low, b.place, b.end, b.few));
    })) in
    let slots : slots_from g c j 0 (whole_frames g c j) ≡ slots_from g old j 0 (whole_frames g old j) = ap (slots_from g c j 0) whole ∙ same in
    λ i. cond (gate i) (Some (record { block = block i; slots = slots i })) None

-- whatever the gates after the first closed one are, the segment reads as before
pub stray_torn : (g : Geometry) (j k at n : ℕ) (old c : List ℕ) → IsBehind g j k at n old → SameOutside at n old c
    → ShowsSegment g j (segment_in g old j) old c
stray_torn g j k at n old c b torn =
    shows g j _ old c (widened at n (segment_at g j) (segment_size g) old c torn (omega (arith, b.place))
    (omega (arith, b.place, b.end, b.few))) (segment_kept g j k at n old c b torn)

-- no gate is open after the first closed one
pub stray_closed : (g : Geometry) (j k at n : ℕ) (old c : List ℕ) → IsBehind g j k at n old → SameOutside at n old c
    → AreClosed at n c → HasNoStray g j c
stray_closed g j k at n old c b torn closed i low high = side (cases_lt k i)
  where
    side : (k < i) ⊎ (i ≤ k) → is_open c (gate_at g j i) ≡ false
    side (inl l) = closed (gate_at g j i) (omega (arith, l, b.place)) (omega (arith, high, b.place, b.end))
    side (inr l) =
        let whole = whole_kept g j k at n old c b torn in
        let here : i ≡ k = omega (arith, l, low, whole) in
        ap (λ (x : ℕ). is_open c (gate_at g j x)) here ∙ ends_closed g j k c whole (omega (arith, b.end))

-- where no gate is stray, those after the first closed one are closed
pub quiet_closed : (g : Geometry) (j k at n : ℕ) (old : List ℕ) → IsBehind g j k at n old → HasNoStray g j old
    → AreClosed at n old
quiet_closed g j k at n old b stray i low high =
    let here : i ≡ gate_at g j (k + 1 + (i - at)) = omega (arith, low, b.place) in
    ap (is_open old) here ∙ stray (k + 1 + (i - at)) (omega (arith, b.whole)) (omega (arith, low, high, b.end))

-- a segment without a gate after the first closed one has no stray gate
pub none_behind : (g : Geometry) (j k : ℕ) (image : List ℕ) → whole_frames g image j ≡ k → g.slots ≤ k + 1
    → HasNoStray g j image
none_behind g j k image whole few i low high =
    let here : i ≡ k = omega (arith, low, high, whole, few) in
    ap (λ (x : ℕ). is_open image (gate_at g j x)) here ∙ ends_closed g j k image whole (omega (arith, here, high))

pub unchanged : (g : Geometry) (j : ℕ) (image : List ℕ) → ShowsSegment g j (segment_in g image j) image image
unchanged g j image = shows g j _ image image (untouched (segment_at g j) (segment_size g) image) refl
