-- What changes of the image of an index when one header or one clip of it does.
use Rattle.std.proofs.Common.{◌≡◌, ◌≢◌, ◌⊎◌, inl, inr, ℕ, suc, ◌+◌, ◌-◌, ◌*◌, ◌/◌, ◌%◌, ◌<◌, ◌≤◌, Bool, true, false, cond, ltb, IsTrue, Option, Some, None, List, ◌++◌, length, set, get_or, refl, sym, ap, ◌∙◌, arith}
use Rattle.std.proofs.Math.Nat.{add-mul, div-lt_iff_lt-mul}
use Rattle.std.proofs.lemmas.Bool.{cases_lt}
use Rattle.std.proofs.lemmas.List.{get_or_past, get_or-set_other, get_or-set_same}
use Rattle.std.proofs.lemmas.Nat.{le-div}
use Rattle.loop_disk.specs.Medium.{SameOutside}
use Rattle.loop_record.specs.declared.clip.Span.{Span}
use Rattle.loop_record.specs.declared.geometry.Geometry.{Geometry}
use Rattle.loop_record.specs.declared.segment.SegmentHead.{SegmentHead}
use Rattle.loop_record.specs.Change.{ShowsClip, ShowsSegment}
use Rattle.loop_record.specs.Geometry.{disk_size, frame_bytes, is_good, segment_at, segment_size, slot_at}
use Rattle.loop_record.specs.Layout.{Segment, segment_in, slot_in}
use Rattle.loop_record.specs.Reading.{empty_segment}
use Rattle.loop_record.proofs.TestFacts.{at_most, not_below}
use Rattle.loop_record.proofs.OwnBytes.{map_range, same_slot, slot_within}
use Rattle.loop_record.proofs.Gates.{segment_in-more, slots_from}
use Rattle.loop_ring.proofs.Bytes.{closed_none}
use Rattle.loop_ring.proofs.Heads.{there}
use Rattle.loop_store.specs.Drawn.{drawn_image, drawn_byte, entry_byte, segment_byte, slot_byte}
use Rattle.loop_store.proofs.IndexImages.{Clips, FitsDrawn, Heads, IsDrawn, MayStand, byte-behind, byte-front, byte-segment, clip-drawn, closed-header, drawn-length, head_in, segment-drawn, slots_byte}

-- ---- bytes that stay

-- a byte that both draw the same
byte-same : (g : Geometry) (heads heads' : Heads) (clips clips' : Clips) (k : ℕ)
    → (512 ≤ k → k < disk_size g → drawn_byte g heads' clips' k ≡ drawn_byte g heads clips k)
    → get_or (drawn_image g heads' clips') k 0 ≡ get_or (drawn_image g heads clips) k 0
byte-same g heads heads' clips clips' k same = front (cases_lt k 512)
  where
    behind : 512 ≤ k → (k < disk_size g) ⊎ (disk_size g ≤ k) → get_or (drawn_image g heads' clips') k 0 ≡ get_or
        (drawn_image g heads clips) k 0
    behind low (inl high) = byte-behind g heads' clips' k low high ∙ same low high ∙ sym (byte-behind g heads clips k low high)
    behind low (inr over) =
        get_or_past (drawn_image g heads' clips') k 0 (omega (arith, over, drawn-length g heads' clips'))
        ∙ sym (get_or_past (drawn_image g heads clips) k 0 (omega (arith, over, drawn-length g heads clips)))

    front : (k < 512) ⊎ (512 ≤ k) → get_or (drawn_image g heads' clips') k 0 ≡ get_or (drawn_image g heads clips) k 0
    front (inl low) = byte-front g heads' clips' k low ∙ sym (byte-front g heads clips k low)
    front (inr high) = behind high (cases_lt k (disk_size g))

cond-same : {X : Type 0} (t : Bool) (a b x y : X) → (t ≡ true → a ≡ b) → (t ≡ false → x ≡ y) → cond t a x ≡ cond t b y
cond-same true a b x y f h = f refl
cond-same false a b x y f h = h refl

-- where another segment's header is
segment-same : (g : Geometry) (heads : Heads) (clips : Clips) (j k : ℕ) (h : Option SegmentHead)
    → (2560 ≤ k → (k - 2560) / segment_size g ≢ j) → drawn_byte g (set heads j h) clips k ≡ drawn_byte g heads clips k
segment-same g heads clips j k h apart =
    cond-same (ltb k 2560) _ _ _ _ (λ e. refl) (λ e.
    ap (λ (o : Option SegmentHead). segment_byte g o ((k - 2560) % segment_size g))
    (get_or-set_other heads j ((k - 2560) / segment_size g) h None (apart (not_below k 2560 e))))

clip-same : (g : Geometry) (heads : Heads) (clips : Clips) (id k : ℕ) (c : Option Span)
    → (k < 2560 → (k - 512) / 32 ≢ id) → drawn_byte g heads (set clips id c) k ≡ drawn_byte g heads clips k
clip-same g heads clips id k c apart =
    cond-same (ltb k 2560) _ _ _ _ (λ e.
    ap (λ (o : Option Span). entry_byte o ((k - 512) % 32)) (get_or-set_other clips id ((k - 512) / 32) c None (apart (below e)))) (λ e. refl)
  where
    below : ltb k 2560 ≡ true → k < 2560
    below e = at_most (suc k) 2560 e

-- ---- one header

segment-outside : (g : Geometry) (heads : Heads) (clips : Clips) (j : ℕ) (h : Option SegmentHead)
    → SameOutside (segment_at g j) (segment_size g) (drawn_image g heads clips) (drawn_image g (set heads j h) clips)
segment-outside g heads clips j h = record {
  size = drawn-length g (set heads j h) clips ∙ sym (drawn-length g heads clips);
  before = λ k l. byte-same g heads (set heads j h) clips clips k (λ low high. segment-same g heads clips j k h (λ in_segments same.
      let before : (k - 2560) / segment_size g < j = (div-lt_iff_lt-mul some).1 (omega (arith, l, in_segments)) in
      omega (arith, before, same)));
  behind = λ k l. byte-same g heads (set heads j h) clips clips k (λ low high. segment-same g heads clips j k h (λ in_segments same.
      let split : (j + 1) * segment_size g ≡ j * segment_size g + segment_size g = omega (arith, add-mul j 1 (segment_size g)) in
      let behind : j + 1 ≤ (k - 2560) / segment_size g = le-div (j + 1) (k - 2560) (segment_size g) some (omega (arith, l, split)) in
      omega (arith, behind, same)));
}
  where
    some : 0 < segment_size g
    some = omega arith

pub drawn-shows : (g : Geometry) (heads : Heads) (clips : Clips) (j : ℕ) (h : Option SegmentHead)
    (part : Option Segment) → segment_in g (drawn_image g (set heads j h) clips) j ≡ part
    → ShowsSegment g j part (drawn_image g heads clips) (drawn_image g (set heads j h) clips)
drawn-shows g heads clips j h part is = let s = segment-outside g heads clips j h in
    record { outside = record { size = s.size; before = s.before; behind = s.behind }; holds = is }

-- one that closes
pub drawn-closed : (g : Geometry) (heads : Heads) (clips : Clips) (j : ℕ) → j < g.segments → j < length heads
    → ShowsSegment g j None (drawn_image g heads clips) (drawn_image g (set heads j None) clips)
drawn-closed g heads clips j l u =
    drawn-shows g heads clips j None None
    (closed_none g (drawn_image g (set heads j None) clips) j
    (closed-header g (set heads j None) clips j l (get_or-set_same heads j None None u)))

-- an open one, by its slots
pub segment-of : (g : Geometry) (heads : Heads) (clips : Clips) (j : ℕ) (h : SegmentHead) → IsTrue (is_good g)
    → j < g.segments → head_in heads j ≡ Some h → MayStand g (Some h)
    → segment_in g (drawn_image g heads clips) j ≡ Some (record { block = h.block; slots = slots_from g (drawn_image g heads clips) j 0 h.frames })
segment-of g heads clips j h good l is may =
    let image = drawn_image g heads clips in
    let d = segment-drawn g heads clips j h good l is may in
    λ i. cond (d.gate i) (Some (record { block = d.block i; slots = slots_from g image j 0 (d.whole i) })) None

-- one that begins
pub drawn-begun : (g : Geometry) (heads : Heads) (clips : Clips) (j b : ℕ) → IsTrue (is_good g) → j < g.segments
    → j < length heads → MayStand g (Some (record { block = b; frames = 0 }))
    → ShowsSegment g j (Some (empty_segment b)) (drawn_image g heads clips) (drawn_image g (set heads j (Some (record { block = b; frames = 0 }))) clips)
drawn-begun g heads clips j b good l u may =
    let h : SegmentHead = record { block = b; frames = 0 } in
    drawn-shows g heads clips j (Some h) (Some (empty_segment b))
    (segment-of g (set heads j (Some h)) clips j h good l (get_or-set_same heads j (Some h) None u) may)

-- a byte of a slot doesn't depend on how many frames there are
slot-kept : (g : Geometry) (heads heads' : Heads) (clips : Clips) (j i : ℕ) (h h' : SegmentHead) → j < g.segments
    → head_in heads j ≡ Some h → head_in heads' j ≡ Some h' → h'.block ≡ h.block → i < g.slots
    → slot_in (frame_bytes g) (drawn_image g heads' clips) (slot_at g j i) ≡ slot_in (frame_bytes g) (drawn_image g heads clips) (slot_at g j i)
slot-kept g heads heads' clips j i h h' l is is' same u =
    same_slot (frame_bytes g) (slot_at g j i) (drawn_image g heads' clips) (drawn_image g heads clips) (record {
      size = drawn-length g heads' clips ∙ sym (drawn-length g heads clips);
      bytes = λ k low high.
          let o = k - (segment_at g j + 512) in
          let place : k ≡ segment_at g j + (512 + o) = omega (arith, low) in
          let inside : 512 + o < segment_size g = omega (arith, low, high, slot_within g j i u) in
          let one : get_or (drawn_image g heads' clips) (segment_at g j + (512 + o)) 0 ≡ slot_byte g h'.block o =
          byte-segment g heads' clips j (512 + o) l inside
          ∙ ap (λ (x : Option SegmentHead). segment_byte g x (512 + o)) is' ∙ slots_byte g h' o in
          let two : get_or (drawn_image g heads clips) (segment_at g j + (512 + o)) 0 ≡ slot_byte g h.block o =
          byte-segment g heads clips j (512 + o) l inside
          ∙ ap (λ (x : Option SegmentHead). segment_byte g x (512 + o)) is ∙ slots_byte g h o in
          ap (λ (n : ℕ). get_or (drawn_image g heads' clips) n 0) place ∙ one ∙ ap (λ (b : ℕ). slot_byte g b o) same
          ∙ sym two ∙ sym (ap (λ (n : ℕ). get_or (drawn_image g heads clips) n 0) place);
    })

-- one that has grown
pub drawn-grown : (g : Geometry) (heads : Heads) (clips : Clips) (j count : ℕ) (h : SegmentHead) → IsTrue (is_good g)
    → j < g.segments → head_in heads j ≡ Some h
    → MayStand g (Some (record { block = h.block; frames = h.frames + count }))
    → let new = set heads j (Some (record { block = h.block; frames = h.frames + count })) in
    ShowsSegment g j (Some (record {
      block = h.block;
      slots = slots_from g (drawn_image g heads clips) j 0 h.frames
          ++ slots_from g (drawn_image g new clips) j h.frames count;
    })) (drawn_image g heads clips)
    (drawn_image g new clips)
drawn-grown g heads clips j count h good l is may =
    drawn-shows g heads clips j (Some grown) _ (segment_in-more g image j h.frames count d.gate d.whole
    ∙ (λ i. Some (record { block = d.block i; slots = kept i ++ slots_from g image j h.frames count })))
  where
    grown : SegmentHead
    grown = record { block = h.block; frames = h.frames + count }

    image : List ℕ
    image = drawn_image g (set heads j (Some grown)) clips

    is' : head_in (set heads j (Some grown)) j ≡ Some grown
    is' = get_or-set_same heads j (Some grown) None (there heads j h is)

    d : IsDrawn g (drawn_image g (set heads j (Some grown)) clips) j grown
    d = segment-drawn g (set heads j (Some grown)) clips j grown good l is' may

    kept : slots_from g image j 0 h.frames ≡ slots_from g (drawn_image g heads clips) j 0 h.frames
    kept = map_range _ _ 0 h.frames (λ i low high. slot-kept g heads (set heads j (Some grown)) clips j i h grown l is is' refl (omega (arith, high, may.0)))

-- ---- one clip

pub drawn-clip : (g : Geometry) (heads : Heads) (clips : Clips) (id : ℕ) (c : Option Span) → id < 64
    → id < length clips → FitsDrawn c → ShowsClip id c (drawn_image g heads clips)
    (drawn_image g heads (set clips id c))
drawn-clip g heads clips id c l u fits = record {
  outside = record {
    size = drawn-length g heads (set clips id c) ∙ sym (drawn-length g heads clips);
    before = λ k low. byte-same g heads heads clips (set clips id c) k (λ a b. clip-same g heads clips id k c (λ in_table same.
        let before : (k - 512) / 32 < id = (div-lt_iff_lt-mul (omega arith)).1 (omega (arith, low, a)) in
        omega (arith, before, same)));
    behind = λ k high. byte-same g heads heads clips (set clips id c) k (λ a b. clip-same g heads clips id k c (λ in_table same.
        let behind : id + 1 ≤ (k - 512) / 32 = le-div (id + 1) (k - 512) 32 (omega arith) (omega (arith, high)) in
        omega (arith, behind, same)));
  };
  holds = clip-drawn g heads (set clips id c) id c l (get_or-set_same clips id c None u) fits;
}
