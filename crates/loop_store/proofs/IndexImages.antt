-- What the image of an index shows.
use Rattle.std.proofs.Common.{◌≡◌, ◌⊎◌, inl, inr, ℕ, zero, suc, ◌+◌, ◌-◌, ◌*◌, ◌/◌, ◌%◌, ◌^◌, ◌<◌, ◌≤◌, Bool, true, false, not, ◌&&◌, cond, eqb, ltb, IsTrue, Option, Some, None, Ok, List, [], ◌∷◌, ◌++◌, length, get_or, map, refl, sym, ap, ◌∙◌, subst, append_assoc, arith}
use Rattle.std.proofs.Math.Nat.{mul-le-mul_left, mul-le-mul_right, add-mul}
use Rattle.std.proofs.Math.Seq.{get_or-append_seam}
use Rattle.std.proofs.lemmas.Bool.{cases_lt}
use Rattle.std.proofs.lemmas.List.{get_or_append_left, get_or-append_right, length-append, length-replicate}
use Rattle.std.proofs.lemmas.List.FromFn.{get_or-map-range_with_len, length-map-range_with_len}
use Rattle.std.proofs.lemmas.Nat.{div-mul-add, mod-mul-add, mul-add-lt}
use Rattle.std.specs.Prelude.{◌||◌}
use Rattle.std.specs.List.{list_any, range_with_len}
use Rattle.byteorder.specs.Endian.{little_from}
use Rattle.byteorder.specs.Numbers.{little_number-reads_back}
use Rattle.loop_record.specs.declared.clip.Span.{Span}
use Rattle.loop_record.specs.declared.geometry.Geometry.{Geometry}
use Rattle.loop_record.specs.declared.segment.SegmentHead.{SegmentHead}
use Rattle.loop_record.specs.Geometry.{clip_at, disk_size, frame_bytes, is_good, segment_at, segment_size, slot_at, slot_size}
use Rattle.loop_record.specs.Layout.{Slot, Segment, clip_in, entry_at, entry_bytes, version_in, geometry_in, header_at, header_bytes, is_open, is_slot_of, open_gates, segment_in, slot_bytes, slot_in, super_bytes, whole_frames}
use Rattle.loop_record.specs.Laws.{FitsEntry}
use Rattle.loop_record.specs.Reading.{by_block, is_bad_slot, open_segments}
use Rattle.loop_record.specs.Parts.{parts_of}
use Rattle.loop_record.proofs.Bounds.{limits}
use Rattle.loop_record.proofs.TestFacts.{at_most_test, equal_test, not_below_test}
use Rattle.loop_record.proofs.Fields.{moved_number}
use Rattle.loop_record.proofs.OwnBytes.{map_range, moved_entry}
use Rattle.loop_record.proofs.Fresh.{written-entry}
use Rattle.loop_record.proofs.Gates.{open_gates-are, slots_from}
use Rattle.loop_record.proofs.Segments.{any-by_block}
use Rattle.loop_record.proofs.ReadBack.{geometry_in-super_bytes, length-super_bytes, version_in-super_bytes}
use Rattle.loop_ring.specs.Heads.{heads_of}
use Rattle.loop_ring.proofs.Bytes.{closed_none}
use Rattle.loop_store.specs.Drawn.{blank, drawn_image, drawn_byte, drawn_super, entry_byte, segment_byte, slot_byte}
use Rattle.loop_record.proofs.Names.{entry_fields, hold_from}

-- ---- its bytes

abbrev pub Heads : Type 0
Heads = List (Option SegmentHead)

abbrev pub Clips : Type 0
Clips = List (Option Span)

pub drawn-length : (g : Geometry) (heads : Heads) (clips : Clips) → length (drawn_image g heads clips) ≡ disk_size g
drawn-length g heads clips = omega (
  arith,
  length-append (super_bytes (drawn_super g))
      (map (drawn_byte g heads clips) (range_with_len 512 (disk_size g - 512))),
  length-super_bytes (drawn_super g),
  length-map-range_with_len (drawn_byte g heads clips) 512 (disk_size g - 512),
)

pub drawn-geometry : (g : Geometry) (heads : Heads) (clips : Clips) → IsTrue (is_good g)
    → geometry_in (drawn_image g heads clips) ≡ Ok g
drawn-geometry g heads clips good = geometry_in-super_bytes (drawn_super g) (map (drawn_byte g heads clips) (range_with_len 512 (disk_size g - 512))) good

pub byte-front : (g : Geometry) (heads : Heads) (clips : Clips) (k : ℕ) → k < 512
    → get_or (drawn_image g heads clips) k 0 ≡ get_or (super_bytes (drawn_super g)) k 0
byte-front g heads clips k l = get_or_append_left (super_bytes (drawn_super g))
    (map (drawn_byte g heads clips) (range_with_len 512 (disk_size g - 512))) 0 k
    (omega (arith, l, length-super_bytes (drawn_super g)))

pub byte-behind : (g : Geometry) (heads : Heads) (clips : Clips) (k : ℕ) → 512 ≤ k → k < disk_size g
    → get_or (drawn_image g heads clips) k 0 ≡ drawn_byte g heads clips k
byte-behind g heads clips k low high =
    get_or-append_right (super_bytes (drawn_super g))
    (map (drawn_byte g heads clips) (range_with_len 512 (disk_size g - 512))) 512 k 0
    (length-super_bytes (drawn_super g)) low
    ∙ get_or-map-range_with_len (drawn_byte g heads clips) 512 (disk_size g - 512) (k - 512) k 0 (omega (arith, low, high)) (omega (arith, low))

-- ---- its segments

picked : {X : Type 0} (t : Bool) (x y : X) → t ≡ true → cond t x y ≡ x
picked t x y e = ap (λ (s : Bool). cond s x y) e

skipped : {X : Type 0} (t : Bool) (x y : X) → t ≡ false → cond t x y ≡ y
skipped t x y e = ap (λ (s : Bool). cond s x y) e

below_test : (m n : ℕ) → m < n → ltb m n ≡ true
below_test m n l = at_most_test (suc m) n l

-- the header of a segment, and its byte
abbrev pub head_in : Heads → ℕ → Option SegmentHead
head_in heads j = get_or heads j None

pub segment-end : (g : Geometry) (j : ℕ) → j < g.segments → segment_at g j + segment_size g ≤ disk_size g
segment-end g j l =
    let le : (j + 1) * segment_size g ≤ g.segments * segment_size g = mul-le-mul_right (segment_size g) (omega (arith, l)) in
    let split : (j + 1) * segment_size g ≡ j * segment_size g + segment_size g = omega (arith, add-mul j 1 (segment_size g)) in
    omega (arith, le, split)

pub byte-segment : (g : Geometry) (heads : Heads) (clips : Clips) (j o : ℕ) → j < g.segments → o < segment_size g
    → get_or (drawn_image g heads clips) (segment_at g j + o) 0 ≡ segment_byte g (head_in heads j) o
byte-segment g heads clips j o l u =
    let k = segment_at g j + o in
    let place : k - 2560 ≡ j * segment_size g + o = omega arith in
    let which : (k - 2560) / segment_size g ≡ j = ap (λ (n : ℕ). n / segment_size g) place ∙ div-mul-add j (segment_size g) o u in
    let where_in : (k - 2560) % segment_size g ≡ o = ap (λ (n : ℕ). n % segment_size g) place ∙ mod-mul-add j (segment_size g) o u in
    byte-behind g heads clips k (omega arith) (omega (arith, segment-end g j l, u))
    ∙ skipped (ltb k 2560) _ _ (not_below_test k 2560 (omega arith))
    ∙ (λ i. segment_byte g (head_in heads (which i)) (where_in i))

-- the bytes of a header that is open
front_byte : (g : Geometry) (h : SegmentHead) (o : ℕ) → o < 256 → segment_byte g (Some h) o ≡ get_or
    (header_bytes h.block) o 0
front_byte g h o l = picked (ltb o 256) _ _ (below_test o 256 l)

gate_byte : (g : Geometry) (h : SegmentHead) (i : ℕ) → i < 256 → segment_byte g (Some h) (256 + i) ≡ cond
    (ltb i h.frames) 0xA5 0
gate_byte g h i l =
    let back : 256 + i - 256 ≡ i = omega arith in
    skipped (ltb (256 + i) 256) _ _ (not_below_test (256 + i) 256 (omega arith)) ∙ picked (ltb (256 + i) 512) _ _ (below_test (256 + i) 512 (omega (arith, l)))
    ∙ ap (λ (n : ℕ). cond (ltb n h.frames) 0xA5 0) back

pub slots_byte : (g : Geometry) (h : SegmentHead) (o : ℕ) → segment_byte g (Some h) (512 + o) ≡ slot_byte g h.block o
slots_byte g h o =
    let back : 512 + o - 512 ≡ o = omega arith in
    skipped (ltb (512 + o) 256) _ _ (not_below_test (512 + o) 256 (omega arith)) ∙ skipped (ltb (512 + o) 512) _ _ (not_below_test (512 + o) 512 (omega arith))
    ∙ ap (slot_byte g h.block) back

pub closed-header : (g : Geometry) (heads : Heads) (clips : Clips) (j : ℕ) → j < g.segments → head_in heads j ≡ None
    → is_open (drawn_image g heads clips) (segment_at g j) ≡ false
closed-header g heads clips j l none =
    let at : segment_at g j ≡ segment_at g j + 0 = omega arith in
    ap (λ (k : ℕ). is_open (drawn_image g heads clips) k) at
    ∙ ap (λ (b : ℕ). eqb b 0xA5) (byte-segment g heads clips j 0 l (omega arith)
    ∙ ap (λ (o : Option SegmentHead). segment_byte g o 0) none)

-- what is known of the header of an open segment
pub record IsDrawn (g : Geometry) (image : List ℕ) (j : ℕ) (h : SegmentHead) : Type 0 where
  pub gate : is_open image (segment_at g j) ≡ true
  pub block : little_from (segment_at g j + 8) 8 image ≡ h.block
  pub whole : whole_frames g image j ≡ h.frames

pub open-header : (g : Geometry) (heads : Heads) (clips : Clips) (j : ℕ) (h : SegmentHead) → j < g.segments
    → head_in heads j ≡ Some h → g.slots ≤ 256 → h.frames ≤ g.slots → h.block < 2 ^ 64
    → IsDrawn g (drawn_image g heads clips) j h
open-header g heads clips j h l is few fits low = record {
  gate = ap (λ (k : ℕ). is_open image k) at ∙ ap (λ (b : ℕ). eqb b 0xA5) (byte 0 (omega arith) ∙ front_byte g h 0 (omega arith));
  block =
      moved_number 8 (segment_at g j + 8) 8 image (header_bytes h.block) (λ k u.
      let there : segment_at g j + 8 + k ≡ segment_at g j + (8 + k) = omega arith in
      ap (λ (n : ℕ). get_or image n 0) there ∙ byte (8 + k) (omega (arith, u)) ∙ front_byte g h (8 + k) (omega (arith, u)))
      ∙ little_number-reads_back 8 h.block [] low;
  whole = open_gates-are g.slots h.frames (segment_at g j + 256) image (λ i u. gate i (omega (arith, u, fits, few))
      ∙ ap (λ (t : Bool). eqb (cond t 0xA5 0) 0xA5) (below_test i h.frames u)) fits (end (cases_lt h.frames g.slots));
}
  where
    image : List ℕ
    image = drawn_image g heads clips

    at : segment_at g j ≡ segment_at g j + 0
    at = omega arith

    byte : (o : ℕ) → o < 512 → get_or image (segment_at g j + o) 0 ≡ segment_byte g (Some h) o
    byte o u = byte-segment g heads clips j o l (omega (arith, u)) ∙ ap (λ (x : Option SegmentHead). segment_byte g x o) is

    gate : (i : ℕ) → i < 256 → is_open image (segment_at g j + 256 + i) ≡ eqb (cond (ltb i h.frames) 0xA5 0) 0xA5
    gate i u =
        let there : segment_at g j + 256 + i ≡ segment_at g j + (256 + i) = omega arith in
        ap (λ (k : ℕ). is_open image k) there ∙ ap (λ (b : ℕ). eqb b 0xA5) (byte (256 + i) (omega (arith, u)) ∙ gate_byte g h i u)

    end : (h.frames < g.slots) ⊎ (g.slots ≤ h.frames) → (h.frames ≡ g.slots)
        ⊎ (is_open image (segment_at g j + 256 + h.frames) ≡ false)
    end (inl u) = inr (gate h.frames (omega (arith, u, few)) ∙ ap (λ (t : Bool). eqb (cond t 0xA5 0) 0xA5) (not_below_test h.frames h.frames (omega arith)))
    end (inr u) = inl (omega (arith, u, fits))

-- a slot of it: its number and its length
pub slot-right : (g : Geometry) (heads : Heads) (clips : Clips) (j i : ℕ) (h : SegmentHead) → j < g.segments
    → head_in heads j ≡ Some h → i < g.slots → frame_bytes g < 2 ^ 32 → h.block * g.slots + i < 2 ^ 64
    → is_slot_of (frame_bytes g) (h.block * g.slots + i) (slot_in (frame_bytes g) (drawn_image g heads clips) (slot_at g j i)) ≡ true
slot-right g heads clips j i h l is u small low = λ k. first k && second k
  where
    image : List ℕ
    image = drawn_image g heads clips

    slot : List ℕ
    slot = slot_bytes (h.block * g.slots + i) (blank g)

    blank-length : length (blank g).bytes ≡ frame_bytes g
    blank-length = let nothing : ℕ = 0 in length-replicate (frame_bytes g) nothing

    byte : (o : ℕ) → o < 32 → get_or image (slot_at g j i + o) 0 ≡ get_or slot o 0
    byte o v =
        let there : slot_at g j i + o ≡ segment_at g j + (512 + (i * slot_size g + o)) = omega arith in
        let inside : i * slot_size g + o < slot_size g * g.slots = mul-add-lt i (slot_size g) o g.slots u (omega (arith, v)) in
        let which : (i * slot_size g + o) / slot_size g ≡ i = div-mul-add i (slot_size g) o (omega (arith, v)) in
        let where_in : (i * slot_size g + o) % slot_size g ≡ o = mod-mul-add i (slot_size g) o (omega (arith, v)) in
        ap (λ (n : ℕ). get_or image n 0) there ∙ byte-segment g heads clips j (512 + (i * slot_size g + o)) l (omega (arith, inside))
        ∙ ap (λ (x : Option SegmentHead). segment_byte g x (512 + (i * slot_size g + o))) is ∙ slots_byte g h (i * slot_size g + o)
        ∙ (λ k. get_or (slot_bytes (h.block * g.slots + which k) (blank g)) (where_in k) 0)

    number : little_from (slot_at g j i) 8 image ≡ h.block * g.slots + i
    number = moved_number 8 (slot_at g j i) 0 image slot (λ k v. let zero_on : k ≡ 0 + k = omega arith in
        byte k (omega (arith, v)) ∙ ap (λ (n : ℕ). get_or slot n 0) zero_on)
        ∙ little_number-reads_back 8 (h.block * g.slots + i) [] low

    size : little_from (slot_at g j i + 24) 4 image ≡ frame_bytes g
    size =
        moved_number 4 (slot_at g j i + 24) 24 image slot (λ k v.
        let there : slot_at g j i + 24 + k ≡ slot_at g j i + (24 + k) = omega arith in
        ap (λ (n : ℕ). get_or image n 0) there ∙ byte (24 + k) (omega (arith, v)))
        ∙ little_number-reads_back 4 (length (blank g).bytes) [] (omega (arith, small, blank-length)) ∙ blank-length

    first : eqb (little_from (slot_at g j i) 8 image) (h.block * g.slots + i) ≡ true
    first = equal_test _ _ number

    second : eqb (little_from (slot_at g j i + 24) 4 image) (frame_bytes g) ≡ true
    second = equal_test _ _ size

-- ---- what its segments show

abbrev slot_of : Geometry → List ℕ → ℕ → ℕ → Slot
slot_of g image j i = slot_in (frame_bytes g) image (slot_at g j i)

-- slots that hold the frames from a number on
pub hold-range : (n number lo count : ℕ) (f : ℕ → Slot)
    → ((i : ℕ) → i < count → is_slot_of n (number + i) (f (lo + i)) ≡ true)
    → hold_from n number (map f (range_with_len lo count)) ≡ true
hold-range n number lo zero f right = refl
hold-range n number lo (suc count) f right =
    let at : number + 0 ≡ number = omega arith in
    let place : lo ≡ lo + 0 = omega arith in
    let first : is_slot_of n number (f lo) ≡ true = (λ k. is_slot_of n (sym at k) (f (place k))) ∙ right 0 (omega arith) in
    let rest = hold-range n (number + 1) (lo + 1) count f (λ i l.
    let a : number + 1 + i ≡ number + suc i = omega arith in
    let b : lo + 1 + i ≡ lo + suc i = omega arith in
    (λ k. is_slot_of n (a k) (f (b k))) ∙ right (suc i) (omega (arith, l))) in
    λ k. first k && rest k

-- a possible header
abbrev pub MayStand : Geometry → Option SegmentHead → Type 0
MayStand g None = Unit {0}
MayStand g (Some h) = (h.frames ≤ g.slots) × ((h.block + 1) * g.slots ≤ 2 ^ 62)

-- each header of the segments is possible
abbrev pub AllStand : Geometry → Heads → Type 0
AllStand g heads = (j : ℕ) → j < g.segments → MayStand g (head_in heads j)

block-low : (b slots : ℕ) → 1 ≤ slots → (b + 1) * slots ≤ 2 ^ 62 → b < 2 ^ 64
block-low b slots some l =
    let le : b * 1 ≤ b * slots = mul-le-mul_left b some in
    omega (arith, le, l, add-mul b 1 slots)

pub segment-drawn : (g : Geometry) (heads : Heads) (clips : Clips) (j : ℕ) (h : SegmentHead) → IsTrue (is_good g)
    → j < g.segments → head_in heads j ≡ Some h → MayStand g (Some h) → IsDrawn g (drawn_image g heads clips) j h
segment-drawn g heads clips j h good l is may =
    let m = limits g good in
    open-header g heads clips j h l is m.slots.1 may.0 (block-low h.block g.slots m.slots.0 may.1)

pub header-drawn : (g : Geometry) (heads : Heads) (clips : Clips) (j : ℕ) (o : Option SegmentHead)
    → IsTrue (is_good g) → j < g.segments → head_in heads j ≡ o → MayStand g o
    → header_at g (drawn_image g heads clips) (segment_at g j) ≡ o
header-drawn g heads clips j None good l is may = let gate = closed-header g heads clips j l is in
    λ i. cond (gate i) (Some (record {
      block = little_from (segment_at g j + 8) 8 (drawn_image g heads clips);
      frames = open_gates g.slots (drawn_image g heads clips) (segment_at g j + 256);
    })) None
header-drawn g heads clips j (Some h) good l is may =
    let d = segment-drawn g heads clips j h good l is may in
    λ i. cond (d.gate i) (Some (record { block = d.block i; frames = d.whole i })) None

-- each element of a list, one after the other
pub all-there : {X : Type 0} (xs : List (Option X)) → map (λ j. get_or xs j None) (range_with_len 0 (length xs)) ≡ xs
all-there {X} xs = from 0 [] xs refl
  where
    from : (n : ℕ) (xs ys : List (Option X)) → length xs ≡ n → map (λ j. get_or (xs ++ ys) j None)
        (range_with_len n (length ys)) ≡ ys
    from n xs [] e = refl
    from n xs (y ∷ ys) e =
        let here : get_or (xs ++ y ∷ ys) n None ≡ y = ap (λ (j : ℕ). get_or (xs ++ y ∷ ys) j None) (sym e) ∙ get_or-append_seam xs y ys None in
        let grouped : (xs ++ y ∷ []) ++ ys ≡ xs ++ y ∷ ys = append_assoc xs (y ∷ []) ys in
        let rest = from (n + 1) (xs ++ y ∷ []) ys (omega (arith, length-append xs (y ∷ []), e)) in
        let rest_is : map (λ j. get_or (xs ++ y ∷ ys) j None) (range_with_len (n + 1) (length ys)) ≡ ys =
        ap (λ (zs : List (Option X)). map (λ j. get_or zs j None) (range_with_len (n + 1) (length ys)))
        (sym grouped) ∙ rest in
        λ i. here i ∷ rest_is i

pub heads-drawn : (g : Geometry) (heads : Heads) (clips : Clips) → IsTrue (is_good g) → length heads ≡ g.segments
    → AllStand g heads → heads_of g (drawn_image g heads clips) ≡ heads
heads-drawn g heads clips good count all =
    map_range (λ j. header_at g (drawn_image g heads clips) (segment_at g j)) (head_in heads) 0 g.segments
    (λ j low high. header-drawn g heads clips j (head_in heads j) good (omega (arith, high)) refl
    (all j (omega (arith, high))))
    ∙ ap (λ (n : ℕ). map (head_in heads) (range_with_len 0 n)) (sym count) ∙ all-there heads

-- no segment has a bad slot
abbrev IsRight : Geometry → Option Segment → Type 0
IsRight g None = Unit {0}
IsRight g (Some s) = is_bad_slot g s ≡ false

right-opened : (g : Geometry) (image : List ℕ) (lo n : ℕ)
    → ((j : ℕ) → lo ≤ j → j < lo + n → IsRight g (segment_in g image j))
    → list_any (is_bad_slot g) (open_segments (map (segment_in g image) (range_with_len lo n))) ≡ false
right-opened g image lo zero all = refl
right-opened g image lo (suc n) all = go (segment_in g image lo) (all lo (omega arith) (omega arith))
    (right-opened g image (lo + 1) n (λ j low high. all j (omega (arith, low)) (omega (arith, high))))
  where
    go : (o : Option Segment) → IsRight g o
        → list_any (is_bad_slot g) (open_segments (map (segment_in g image) (range_with_len (lo + 1) n))) ≡ false
        → list_any (is_bad_slot g) (open_segments (o ∷ map (segment_in g image) (range_with_len (lo + 1) n))) ≡ false
    go None right rest = rest
    go (Some s) right rest = λ i. right i || rest i

-- the slots of a segment from one on hold the frames of its block
pub slots-drawn : (g : Geometry) (heads : Heads) (clips : Clips) (j first count : ℕ) (h : SegmentHead)
    → IsTrue (is_good g) → j < g.segments → head_in heads j ≡ Some h → MayStand g (Some h) → first + count ≤ g.slots
    → hold_from (frame_bytes g) (h.block * g.slots + first) (slots_from g (drawn_image g heads clips) j first count) ≡ true
slots-drawn g heads clips j first count h good l is may room =
    let m = limits g good in
    hold-range (frame_bytes g) (h.block * g.slots + first) first count (slot_of g (drawn_image g heads clips) j) (λ i u.
    let at : h.block * g.slots + first + i ≡ h.block * g.slots + (first + i) = omega arith in
    ap (λ (n : ℕ). is_slot_of (frame_bytes g) n (slot_of g (drawn_image g heads clips) j (first + i))) at
    ∙ slot-right g heads clips j (first + i) h l is (omega (arith, room, u)) (omega (arith, m.bytes.1))
    (omega (arith, may.1, add-mul h.block 1 g.slots, room, u)))

right-drawn : (g : Geometry) (heads : Heads) (clips : Clips) (j : ℕ) (o : Option SegmentHead) → IsTrue (is_good g)
    → j < g.segments → head_in heads j ≡ o → MayStand g o → IsRight g (segment_in g (drawn_image g heads clips) j)
right-drawn g heads clips j None good l is may = subst (IsRight g) (sym (closed_none g (drawn_image g heads clips) j (closed-header g heads clips j l is))) tt
right-drawn g heads clips j (Some h) good l is may =
    let image = drawn_image g heads clips in
    let d = segment-drawn g heads clips j h good l is may in
    let hold = slots-drawn g heads clips j 0 h.frames h good l is may (omega (arith, may.0)) in
    let first : h.block * g.slots + 0 ≡ h.block * g.slots = omega arith in
    let all : hold_from (frame_bytes g) (h.block * g.slots) (slots_from g image j 0 h.frames) ≡ true =
    ap (λ (n : ℕ). hold_from (frame_bytes g) n (slots_from g image j 0 h.frames)) (sym first) ∙ hold in
    let there : segment_in g image j ≡ Some (record { block = h.block; slots = slots_from g image j 0 h.frames }) =
    λ i. cond (d.gate i) (Some (record { block = d.block i; slots = slots_from g image j 0 (d.whole i) })) None in
    subst (IsRight g) (sym there) (ap not all)

pub none-bad : (g : Geometry) (heads : Heads) (clips : Clips) → IsTrue (is_good g) → AllStand g heads
    → list_any (is_bad_slot g) (by_block (open_segments (parts_of g (drawn_image g heads clips)).segments)) ≡ false
none-bad g heads clips good all =
    any-by_block (is_bad_slot g) (open_segments (parts_of g (drawn_image g heads clips)).segments)
    ∙ right-opened g (drawn_image g heads clips) 0 g.segments
    (λ j low high. right-drawn g heads clips j (head_in heads j) good (omega (arith, high)) refl
    (all j (omega (arith, high))))

-- ---- its clips

pub byte-clip : (g : Geometry) (heads : Heads) (clips : Clips) (id o : ℕ) → id < 64 → o < 32
    → get_or (drawn_image g heads clips) (clip_at id + o) 0 ≡ entry_byte (get_or clips id None) o
byte-clip g heads clips id o l u =
    let k = clip_at id + o in
    let place : k - 512 ≡ id * 32 + o = omega arith in
    let which : (k - 512) / 32 ≡ id = ap (λ (n : ℕ). n / 32) place ∙ div-mul-add id 32 o u in
    let where_in : (k - 512) % 32 ≡ o = ap (λ (n : ℕ). n % 32) place ∙ mod-mul-add id 32 o u in
    byte-behind g heads clips k (omega arith) (omega (arith, l, u))
    ∙ picked (ltb k 2560) _ _ (below_test k 2560 (omega (arith, l, u)))
    ∙ (λ i. entry_byte (get_or clips (which i) None) (where_in i))

pub closed-entry : (g : Geometry) (heads : Heads) (clips : Clips) (id : ℕ) → id < 64 → get_or clips id None ≡ None
    → is_open (drawn_image g heads clips) (clip_at id) ≡ false
closed-entry g heads clips id l none =
    let at : clip_at id ≡ clip_at id + 0 = omega arith in
    ap (λ (k : ℕ). is_open (drawn_image g heads clips) k) at
    ∙ ap (λ (b : ℕ). eqb b 0xA5) (byte-clip g heads clips id 0 l (omega arith)
    ∙ ap (λ (o : Option Span). entry_byte o 0) none)

-- a clip that has room in an entry of version 2
abbrev pub FitsDrawn : Option Span → Type 0
FitsDrawn None = Unit {0}
FitsDrawn (Some s) = FitsEntry 2 s

drawn-version : (g : Geometry) (heads : Heads) (clips : Clips) → version_in (drawn_image g heads clips) ≡ 2
drawn-version g heads clips = version_in-super_bytes (drawn_super g) (map (drawn_byte g heads clips) (range_with_len 512 (disk_size g - 512))) (inr refl)

pub clip-drawn : (g : Geometry) (heads : Heads) (clips : Clips) (id : ℕ) (c : Option Span) → id < 64
    → get_or clips id None ≡ c → FitsDrawn c → clip_in (drawn_image g heads clips) id ≡ c
clip-drawn g heads clips id c l is fits = ap (λ (v : ℕ). entry_at v image (clip_at id)) (drawn-version g heads clips) ∙ go c refl fits
  where
    image : List ℕ
    image = drawn_image g heads clips

    byte : (o : ℕ) → o < 32 → get_or image (clip_at id + o) 0 ≡ entry_byte c o
    byte o u = byte-clip g heads clips id o l u ∙ ap (λ (x : Option Span). entry_byte x o) is

    go : (x : Option Span) → c ≡ x → FitsDrawn x → entry_at 2 image (clip_at id) ≡ x
    go None e fits =
        let at : clip_at id ≡ clip_at id + 0 = omega arith in
        let closed : is_open image (clip_at id) ≡ false = ap (λ (k : ℕ). is_open image k) at
        ∙ ap (λ (b : ℕ). eqb b 0xA5) (byte 0 (omega arith) ∙ ap (λ (y : Option Span). entry_byte y 0) e) in
        λ i. cond (closed i) (Some (entry_fields 2 image (clip_at id))) None
    go (Some s) e fits =
        moved_entry 2 (clip_at id) 0 image (entry_bytes s) (λ k u.
        let at : k ≡ 0 + k = omega arith in
        byte k u ∙ ap (λ (y : Option Span). entry_byte y k) e ∙ ap (λ (x : ℕ). get_or (entry_bytes s) x 0) at) ∙ written-entry 2 s fits
