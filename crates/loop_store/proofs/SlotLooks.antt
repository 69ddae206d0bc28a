-- What a read of a slot says of the recording.
use Rattle.std.proofs.Common.{◌≡◌, IsErrAnd, inr, inl, ℕ, ◌+◌, ◌*◌, ◌/◌, ◌%◌, ◌<◌, ◌≤◌, true, false, cond, eqb, ltb, Option, Some, None, Result, Ok, Err, IfNone, is_some, List, length, get_or, refl, sym, ap, ◌∙◌, subst, arith}
use Rattle.std.proofs.Math.Nat.{div-add-mod'}
use Rattle.std.proofs.lemmas.Bool.Decides.{nat_tests}
use Rattle.std.proofs.lemmas.List.Folds.{list_any_at}
use Rattle.std.proofs.lemmas.List.Quantifiers.{position-Some}
use Rattle.std.proofs.lemmas.Nat.{div-mul-add, mod-mul-add}
use Rattle.std.specs.Prelude.{◌&&◌}
use Rattle.std.specs.List.{list_any, position}
use Rattle.loop_disk.specs.Calls.{Called, Stays}
use Rattle.loop_disk.specs.Medium.{Medium, piece}
use Rattle.loop_record.specs.declared.damage.Damage.{Damage}
use Rattle.loop_record.specs.declared.damage.Damage.TheVariants.{SlotHead}
use Rattle.loop_record.specs.declared.frame.FrameHead.{FrameHead}
use Rattle.loop_record.specs.declared.geometry.Geometry.{Geometry}
use Rattle.loop_record.specs.declared.segment.SegmentHead.{SegmentHead}
use Rattle.loop_record.specs.Geometry.{frame_bytes}
use Rattle.loop_record.specs.Layout.{Slot, is_slot_of, segment_in, slot_head, whole_frames}
use Rattle.loop_record.specs.Reading.{Holds}
use Rattle.loop_record.specs.Recording.{Picture, Recording, head, holds}
use Rattle.loop_record.proofs.TestFacts.{both, clash, equal, equal_test, untrue}
use Rattle.loop_record.proofs.Readings.{whole-length}
use Rattle.loop_record.proofs.Slots.{IsSlotOf, reading-slot}
use Rattle.loop_ring.specs.Heads.{has_number, heads_of, is_of}
use Rattle.loop_ring.specs.Reads.{AnswersHead, failed_read, slot_of}
use Rattle.loop_ring.specs.declared.fault.SlotFault.{SlotFault}
use Rattle.loop_ring.specs.declared.fault.SlotFault.TheVariants as slot
use Rattle.loop_ring.proofs.Heads.{any-index, head-some, head-there, one-entry, position-none, there}
use Rattle.loop_ring.proofs.HeldBlocks.{held-number}
use Rattle.loop_store.specs.declared.fault.StoreFault.{StoreFault}
use Rattle.loop_store.specs.declared.fault.StoreFault.TheVariants.{Damaged}
use Rattle.loop_store.specs.Faults.{failed_by, is_disk, slot_refusal}
use Rattle.loop_store.specs.Look.{AnswersFrame, AnswersFramePart, ReadsHeld, bytes_under}

below : (m n : ℕ) → ltb m n ≡ true → m < n
below m n e = grind (arith, nat_tests, e)

below-test : (m n : ℕ) → m < n → ltb m n ≡ true
below-test m n l = grind (arith, nat_tests, l)

-- ---- the segment of a number

-- what a search of the table has found
pub found-at : (table heads : List (Option SegmentHead)) (slots n from : ℕ) (found answer : Option ℕ) → table ≡ heads
    → from ≡ slots → found ≡ position (is_of (n / from)) table → found ≡ answer
    → position (is_of (n / slots)) heads ≡ answer
found-at table heads slots n from found answer same is said was = (λ i. position (is_of (n / sym is i)) (sym same i)) ∙ sym said ∙ was

some-inj : (h k : SegmentHead) → let x : Option SegmentHead = Some h in let y : Option SegmentHead = Some k in x ≡ y → h ≡ k
some-inj h k e = cc

-- the segment of that block has its frame
pub there-is : (table : List (Option SegmentHead)) (slots n j : ℕ) (h : SegmentHead)
    → position (is_of (n / slots)) table ≡ Some j → get_or table j None ≡ Some h → n % slots < h.frames
    → has_number slots n (get_or table j None) ≡ true
there-is table slots n j h found is l =
    let at = position-Some (is_of (n / slots)) table j None found in
    let block : eqb h.block (n / slots) ≡ true = sym (ap (is_of (n / slots)) is) ∙ at.1 in
    let slot = below-test (n % slots) h.frames l in
    ap (has_number slots n) is ∙ (λ i. block i && slot i)

-- no segment has it
none-held : (g : Geometry) (r : Recording) (image : List ℕ) (n : ℕ) → Holds g r image
    → ((k : ℕ) (h : SegmentHead) → get_or (heads_of g image) k None ≡ Some h → h.block ≡ n / g.slots
    → n % g.slots < h.frames → ⊥) → holds r n ≡ false
none-held g r image n held apart =
    sym (held-number g r image n held) ∙ untrue (list_any (has_number g.slots n) (heads_of g image)) (λ e.
    let k = any-index (has_number g.slots n) (heads_of g image) e in
    go k.0 (get_or (heads_of g image) k.0 None) refl k.1.1)
  where
    go : (k : ℕ) (o : Option SegmentHead) → get_or (heads_of g image) k None ≡ o → has_number g.slots n o ≡ true → ⊥
    go k None is e = absurd cc
    go k (Some h) is e =
        let b = both (eqb h.block (n / g.slots)) (ltb (n % g.slots) h.frames) e in
        apart k h is (equal h.block (n / g.slots) b.0) (below (n % g.slots) h.frames b.1)

pub missing-block : (g : Geometry) (r : Recording) (image : List ℕ) (n : ℕ) → Holds g r image
    → position (is_of (n / g.slots)) (heads_of g image) ≡ None → holds r n ≡ false
missing-block g r image n held missing = none-held g r image n held (λ k h is block l.
    let of : is_of (n / g.slots) (get_or (heads_of g image) k None) ≡ true = ap (is_of (n / g.slots)) is ∙ equal_test h.block (n / g.slots) block in
    clash (list_any (is_of (n / g.slots)) (heads_of g image)) (list_any_at (is_of (n / g.slots)) (heads_of g image) k None (there (heads_of g image) k h is) of)
    (position-none (is_of (n / g.slots)) (heads_of g image) missing))

pub missing-head : (g : Geometry) (r : Recording) (image : List ℕ) (n j : ℕ) → position (is_of (n / g.slots))
    (heads_of g image) ≡ Some j → get_or (heads_of g image) j None ≡ None → ⊥
missing-head g r image n j found is =
    let at = position-Some (is_of (n / g.slots)) (heads_of g image) j None found in
    let no : false ≡ true = sym (ap (is_of (n / g.slots)) is) ∙ at.1 in
    clash false no refl

pub missing-slot : (g : Geometry) (r : Recording) (image : List ℕ) (n j : ℕ) (h : SegmentHead) → Holds g r image
    → position (is_of (n / g.slots)) (heads_of g image) ≡ Some j → get_or (heads_of g image) j None ≡ Some h
    → h.frames ≤ n % g.slots → holds r n ≡ false
missing-slot g r image n j h held found at few = none-held g r image n held (λ k u is block l.
    let p = position-Some (is_of (n / g.slots)) (heads_of g image) j None found in
    let of : eqb h.block (n / g.slots) ≡ true = sym (ap (is_of (n / g.slots)) at) ∙ p.1 in
    let same : j ≡ k = one-entry g r image j k h u held at is (equal h.block (n / g.slots) of ∙ sym block) in
    let one : h ≡ u = some-inj h u (sym at ∙ ap (λ (i : ℕ). get_or (heads_of g image) i None) same ∙ is) in
    let frames : h.frames ≡ u.frames = ap (λ (x : SegmentHead). x.frames) one in
    omega (arith, frames, few, l))

-- the number after the frames of a segment that has room for more
pub missing-behind : (g : Geometry) (r : Recording) (image : List ℕ) (j : ℕ) (h : SegmentHead) → Holds g r image
    → get_or (heads_of g image) j None ≡ Some h → h.frames < g.slots → holds r (h.block * g.slots + h.frames) ≡ false
missing-behind g r image j h held at room =
    let of : (h.block * g.slots + h.frames) / g.slots ≡ h.block = div-mul-add h.block g.slots h.frames room in
    let slot : (h.block * g.slots + h.frames) % g.slots ≡ h.frames = mod-mul-add h.block g.slots h.frames room in
    none-held g r image (h.block * g.slots + h.frames) held (λ k u is block l.
    let same : j ≡ k = one-entry g r image j k h u held at is (sym of ∙ sym block) in
    let one : h ≡ u = some-inj h u (sym at ∙ ap (λ (i : ℕ). get_or (heads_of g image) i None) same ∙ is) in
    let frames : h.frames ≡ u.frames = ap (λ (x : SegmentHead). x.frames) one in
    omega (arith, frames, slot, l))

pub if-none : {T : Type 0} {P : Type 0} (o : Option T) → P → IfNone o P
if-none None p = p
if-none (Some x) p = tt

-- ---- its slot

-- the slot of a number in the segment that has it
pub held-slot : (g : Geometry) (r : Recording) (image : List ℕ) (j n : ℕ) → Holds g r image → j < g.segments
    → has_number g.slots n (get_or (heads_of g image) j None) ≡ true → IsSlotOf g r n (slot_of g image j (n % g.slots))
held-slot g r image j n held l has = go (get_or (heads_of g image) j None) refl has
  where
    go : (o : Option SegmentHead) → get_or (heads_of g image) j None ≡ o → has_number g.slots n o ≡ true
        → IsSlotOf g r n (slot_of g image j (n % g.slots))
    go None is e = absurd cc
    go (Some h) is e =
        let b = both (eqb h.block (n / g.slots)) (ltb (n % g.slots) h.frames) e in
        let s = head-some (segment_in g image j) h (sym (head-there g image j l) ∙ is) in
        let block : s.0.block ≡ n / g.slots = s.1.1.0 ∙ equal h.block (n / g.slots) b.0 in
        let whole : whole_frames g image j ≡ length s.0.slots = whole-length g image j s.0 s.1.0 in
        let within : n % g.slots < whole_frames g image j = omega (arith, whole, s.1.1.1, below (n % g.slots) h.frames b.1) in
        let at : s.0.block * g.slots + n % g.slots ≡ n = ap (λ (b : ℕ). b * g.slots + n % g.slots) block ∙ div-add-mod' n g.slots in
        subst (λ (m : ℕ). IsSlotOf g r m (slot_of g image j (n % g.slots))) at (reading-slot g r image j (n % g.slots) s.0 held l s.1.0 within)

-- the same, where the slot was counted with this many slots
pub held-slot_at : (g : Geometry) (r : Recording) (image : List ℕ) (j n slots : ℕ) → Holds g r image → j < g.segments
    → slots ≡ g.slots → has_number g.slots n (get_or (heads_of g image) j None) ≡ true
    → IsSlotOf g r n (slot_of g image j (n % slots))
held-slot_at g r image j n slots held l same has = subst (λ (m : ℕ). IsSlotOf g r n (slot_of g image j (n % m))) (sym same) (held-slot g r image j n held l has)

ok_head : (h k : FrameHead) → let x : Result FrameHead Damage = Ok h in let y : Result FrameHead Damage = Ok k in x ≡ y → h ≡ k
ok_head h k e = cc

not_damaged : (h : FrameHead) (d : Damage) → let x : Result FrameHead Damage = Ok h in let y : Result FrameHead Damage = Err d in x ≡ y → ⊥
not_damaged h d e = absurd cc

right-head : (n number : ℕ) (s : Slot) → is_slot_of n number s ≡ true
    → slot_head n number s ≡ Ok (head number s.picture)
right-head n number s e = λ i. cond (e i) (Ok (head number s.picture)) (Err SlotHead)

-- a read of the right slot that was answered
pub answers-ok : (g : Geometry) (r : Recording) (number : ℕ) (s : Slot) (h : FrameHead) (out : List ℕ)
    → IsSlotOf g r number s → slot_head (frame_bytes g) number s ≡ Ok h → out ≡ s.picture.bytes
    → AnswersFrame r number (Ok h) out
answers-ok g r number s h out is said bytes = record {
  picture = s.picture;
  there = is.held;
  head_is = sym (ok_head (head number s.picture) h (sym (right-head (frame_bytes g) number s is.right) ∙ said));
  bytes_are = bytes;
}

-- the same for a read of its head alone: the bytes are those on the disk
pub held-head : (g : Geometry) (r : Recording) (image : List ℕ) (j n slots : ℕ) (h : FrameHead) → Holds g r image
    → j < g.segments → slots ≡ g.slots → has_number g.slots n (get_or (heads_of g image) j None) ≡ true
    → slot_head (frame_bytes g) n (slot_of g image j (n % slots)) ≡ Ok h
    → AnswersFrame r n (Ok h) (bytes_under g image j n)
held-head g r image j n slots h held l same has said =
    answers-ok g r n (slot_of g image j (n % g.slots)) h (bytes_under g image j n) (held-slot g r image j n held l has)
    (sym (ap (λ (m : ℕ). slot_head (frame_bytes g) n (slot_of g image j (n % m))) same) ∙ said) refl

-- or refused: a call of the disk failed
pub answers-err : (g : Geometry) (r : Recording) (number : ℕ) (s : Slot) (fault : SlotFault) (out : List ℕ)
    → IsSlotOf g r number s → AnswersHead (slot_head (frame_bytes g) number s) (Err fault)
    → AnswersFrame r number (Err (slot_refusal fault)) out
answers-err g r number s (slot.Disk fault) out is said = (refl, ap (λ (o : Option Picture). is_some o) is.held)
answers-err g r number s (slot.Damaged damage) out is said =
    absurd (not_damaged (head number s.picture) damage (sym (right-head (frame_bytes g) number s is.right) ∙ said))

-- the same for a read of a part of it
pub part-ok : (g : Geometry) (r : Recording) (number at : ℕ) (s : Slot) (out : List ℕ) → IsSlotOf g r number s
    → out ≡ piece at (length out) s.picture.bytes → AnswersFramePart r number at (Ok tt) out
part-ok g r number at s out is bytes = record { picture = s.picture; there = is.held; bytes_are = bytes }

pub part-err : (g : Geometry) (r : Recording) (number at : ℕ) (s : Slot) (fault : SlotFault) (out : List ℕ)
    → IsSlotOf g r number s → AnswersHead (slot_head (frame_bytes g) number s) (Err fault)
    → AnswersFramePart r number at (Err (slot_refusal fault)) out
part-err g r number at s fault out is said = answers-err g r number s fault out is said

-- ---- a read that failed

pub held-refused : {T U : Type 0} (g : Geometry) (segment number : ℕ) (Answers : Recording → Type 0)
    (old new : Medium) (r : Result T StoreFault) (f : SlotFault)
    → ((d : Damage) → let x : Result U SlotFault = Err f in let y : Result U SlotFault = Err (slot.Damaged d) in x ≡ y
    → d ≡ SlotHead) → (old.honest → Stays old new)
    → Called old new (failed_read (let x : Result U SlotFault = Err f in x))
    → ((t : Recording) → old.honest → Holds g t old.bytes
    → has_number g.slots number (get_or (heads_of g old.bytes) segment None) ≡ true → Answers t)
    → IsErrAnd r (λ made. made ≡ slot_refusal f) → ReadsHeld g segment number Answers old new r
held-refused g segment number Answers old new (Ok x) f only stays called frame made = absurd made
held-refused g segment number Answers old new (Err e) (slot.Damaged d) only stays called frame made =
    record {
      frame = frame;
      refusals = inl (made ∙ ap (λ (x : Damage). Damaged x) (only d refl));
      stays = stays;
      called = subst (λ (x : StoreFault). Called old new (failed_by x)) (sym made) called;
    }
held-refused g segment number Answers old new (Err e) (slot.Disk fault) only stays called frame made =
    record {
      frame = frame;
      refusals = inr (ap is_disk made);
      stays = stays;
      called =
          subst (λ (x : StoreFault). Called old new (failed_by x)) (sym made) called;
    }
