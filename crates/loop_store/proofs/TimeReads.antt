-- The times and sequences of the frames that a disk holds, as they are read again.
use Rattle.std.proofs.Common.{◌≡◌, ◌⊎◌, inl, inr, ℕ, ◌+◌, ◌*◌, ◌/◌, ◌%◌, ◌<◌, ◌≤◌, Bool, true, false, cond, Option, Some, None, Result, Ok, Err, List, [], ◌∷◌, is_some, length, get_or, set, refl, sym, ap, ◌∙◌, subst, arith}
use Rattle.std.proofs.Math.Nat.{add-mul, mul-le-mul_right}
use Rattle.std.proofs.lemmas.Bool.{cases_eq, cases_lt}
use Rattle.std.proofs.lemmas.List.{get_or-set_same, get_or-set_other}
use Rattle.std.proofs.lemmas.List.Quantifiers.{position-Some}
use Rattle.std.proofs.lemmas.Nat.{div-mul-add, mod-mul-add}
use Rattle.std.specs.List.{position}
use Rattle.loop_record.specs.declared.damage.Damage.{Damage}
use Rattle.loop_record.specs.declared.frame.FrameHead.{FrameHead}
use Rattle.loop_record.specs.declared.geometry.Geometry.{Geometry}
use Rattle.loop_record.specs.declared.image.Found.{Found}
use Rattle.loop_record.specs.declared.segment.SegmentHead.{SegmentHead}
use Rattle.loop_record.specs.declared.clip.Span.{Span}
use Rattle.loop_record.specs.Layout.{Slot, is_slot_of, slot_head}
use Rattle.loop_record.specs.Reading.{Holds}
use Rattle.loop_record.specs.Recording.{Picture, Recording, head, holds}
use Rattle.loop_record.proofs.TestFacts.{clash, equal}
use Rattle.loop_ring.specs.declared.group.SlotStamp.{SlotStamp}
use Rattle.loop_ring.specs.Groups.{slot_stamp}
use Rattle.loop_ring.specs.Heads.{found_at, heads_of, in_order, is_of}
use Rattle.loop_ring.specs.Reads.{slot_of}
use Rattle.loop_ring.proofs.Heads.{heads-length}
use Rattle.loop_store.proofs.SlotLooks.{held-slot, missing-block, missing-head, missing-slot, there-is}
use Rattle.loop_ring.proofs.SegmentOrder.{IsAmong, among-order}
use Rattle.loop_store.specs.declared.index.Index.{Index}
use Rattle.loop_store.specs.Index.{IsOf}
use Rattle.loop_store.specs.Times.{AllStamped, AreStamped, IsStamped, KnowsStamps, KeepsStamps, no_stamp, stamp_in, stamp_at}

-- ---- one slot

-- what a head says
abbrev pub stamp_said : FrameHead → SlotStamp
stamp_said h = record { time = h.timestamp; sequence = h.sequence }

-- a head that was decoded has the stamp of its slot
pub slot-stamp : (n number : ℕ) (s : Slot) (h : FrameHead)
    → (let r : Result FrameHead Damage = Ok h in r) ≡ slot_head n number s → stamp_said h ≡ slot_stamp s.picture
slot-stamp n number s h e = go (is_slot_of n number s) e
  where
    ok : FrameHead → Result FrameHead Damage
    ok x = Ok x

    go : (t : Bool) → ok h ≡ cond t (ok (head number s.picture)) (Err Damage.SlotHead)
        → stamp_said h ≡ slot_stamp s.picture
    go true e =
        let is : h ≡ head number s.picture = cc in
        ap stamp_said is
    go false e = absurd cc

-- different slots have different places
same-place : (slots j k m n : ℕ) → k < slots → n < slots → j * slots + k ≡ m * slots + n → (j ≡ m) × (k ≡ n)
same-place slots j k m n low less same = (
  sym (div-mul-add j slots k low) ∙ ap (λ (x : ℕ). x / slots) same ∙ div-mul-add m slots n less,
  sym (mod-mul-add j slots k low) ∙ ap (λ (x : ℕ). x % slots) same ∙ mod-mul-add m slots n less,
)

-- a stamp noted at its place
pub stamped : (g : Geometry) (image : List ℕ) (j k at : ℕ) (stamp : SlotStamp) (old new : List SlotStamp) → at < length old
    → at ≡ j * g.slots + k → stamp ≡ stamp_in g image j k → new ≡ set old at stamp → IsStamped g image new j k
stamped g image j k at stamp old new l here is noted =
    ap (λ (xs : List SlotStamp). get_or xs (j * g.slots + k) no_stamp) noted ∙ ap (λ (i : ℕ). get_or (set old at stamp) i no_stamp) (sym here)
    ∙ get_or-set_same old at stamp no_stamp l ∙ is

pub keeps-stamped : (g : Geometry) (image : List ℕ) (j k at : ℕ) (stamp : SlotStamp) (old new : List SlotStamp) → at < length old
    → k < g.slots → at ≡ j * g.slots + k → stamp ≡ stamp_in g image j k → new ≡ set old at stamp → KeepsStamps g image old new
keeps-stamped g image j k at stamp old new l low here is noted = λ m n less was. go m n less was (cases_eq (m * g.slots + n) at)
  where
    go : (m n : ℕ) → n < g.slots → IsStamped g image old m n → (m * g.slots + n ≡ at) ⊎ (m * g.slots + n ≡ at → ⊥)
        → IsStamped g image new m n
    go m n less was (inl same) =
        let both = same-place g.slots m n j k less low (same ∙ here) in
        subst (λ (a : ℕ). IsStamped g image new a n) (sym both.0)
        (subst (λ (b : ℕ). IsStamped g image new j b) (sym both.1) (stamped g image j k at stamp old new l here is noted))
    go m n less was (inr apart) =
        ap (λ (xs : List SlotStamp). get_or xs (m * g.slots + n) no_stamp) noted
        ∙ get_or-set_other old at (m * g.slots + n) stamp no_stamp apart ∙ was

pub keeps-on : (g : Geometry) (image : List ℕ) (a b c : List SlotStamp) → KeepsStamps g image a b → KeepsStamps g image b c → KeepsStamps g image a c
keeps-on g image a b c first second = λ j k l is. second j k l (first j k l is)

-- one slot more of a segment
pub stamped-more : (g : Geometry) (image : List ℕ) (j k at : ℕ) (stamp : SlotStamp) (old new : List SlotStamp) → at < length old
    → k < g.slots → at ≡ j * g.slots + k → stamp ≡ stamp_in g image j k → new ≡ set old at stamp
    → AreStamped g image old j k → AreStamped g image new j (k + 1)
stamped-more g image j k at stamp old new l low here is noted so_far = λ n less. go n less (cases_eq n k)
  where
    go : (n : ℕ) → n < k + 1 → (n ≡ k) ⊎ (n ≡ k → ⊥) → IsStamped g image new j n
    go n less (inl same) = subst (λ (m : ℕ). IsStamped g image new j m) (sym same) (stamped g image j k at stamp old new l here is noted)
    go n less (inr apart) = keeps-stamped g image j k at stamp old new l low here is noted j n (omega (arith, less, apart, low))
        (so_far n (omega (arith, less, apart)))

-- ---- found segments

-- the stamps of one that was found
pub among-stamped : (g : Geometry) (image : List ℕ) (stamps : List SlotStamp) (f : Found) (fs : List Found) → IsAmong f fs
    → AllStamped g image stamps fs → AreStamped g image stamps f.segment f.frames
among-stamped g image stamps f (x ∷ fs) (inl same) all = subst (λ (y : Found). AreStamped g image stamps y.segment y.frames) same all.0
among-stamped g image stamps f (x ∷ fs) (inr at) all = among-stamped g image stamps f fs at all.1
among-stamped g image stamps f [] at all = absurd at

-- a slot's place is within the stamps of all slots
pub place-within : (segments slots j k : ℕ) → j < segments → k < slots → j * slots + k < segments * slots
place-within segments slots j k low less =
    let next : (j + 1) * slots ≤ segments * slots = mul-le-mul_right slots (omega (arith, low)) in
    omega (arith, next, add-mul j 1 slots, less)

-- ---- where a held number lies

-- the segment that has the frame of a number, and its header
pub record HeldAt (g : Geometry) (image : List ℕ) (n : ℕ) : Type 0 where
  pub segment : ℕ
  pub header : SegmentHead
  pub low : segment < g.segments
  pub found : position (is_of (n / g.slots)) (heads_of g image) ≡ Some segment
  pub head : get_or (heads_of g image) segment None ≡ Some header
  pub block : header.block ≡ n / g.slots
  pub slot : n % g.slots < header.frames

pub held-at : (g : Geometry) (r : Recording) (image : List ℕ) (n : ℕ) → Holds g r image → holds r n ≡ true → HeldAt g image n
held-at g r image n held is = go (position (is_of (n / g.slots)) (heads_of g image)) refl
  where
    here : (j : ℕ) → position (is_of (n / g.slots)) (heads_of g image) ≡ Some j → (o : Option SegmentHead)
        → get_or (heads_of g image) j None ≡ o → HeldAt g image n
    here j found None at = absurd (missing-head g r image n j found at)
    here j found (Some h) at = by (cases_lt (n % g.slots) h.frames)
      where
        of : is_of (n / g.slots) (get_or (heads_of g image) j None) ≡ true
        of = (position-Some (is_of (n / g.slots)) (heads_of g image) j None found).1

        by : (n % g.slots < h.frames) ⊎ (h.frames ≤ n % g.slots) → HeldAt g image n
        by (inl l) = record {
          segment = j;
          header = h;
          low = omega (arith, (position-Some (is_of (n / g.slots)) (heads_of g image) j None found).0, heads-length g image);
          found = found;
          head = at;
          block = equal h.block (n / g.slots) (sym (ap (is_of (n / g.slots)) at) ∙ of);
          slot = l;
        }
        by (inr few) = absurd (clash (holds r n) is (missing-slot g r image n j h held found at few))

    go : (o : Option ℕ) → position (is_of (n / g.slots)) (heads_of g image) ≡ o → HeldAt g image n
    go None found = absurd (clash (holds r n) is (missing-block g r image n held found))
    go (Some j) found = here j found (get_or (heads_of g image) j None) refl

some-picture : (p q : Picture) → let x : Option Picture = Some p in let y : Option Picture = Some q in x ≡ y → p ≡ q
some-picture p q e = cc

-- the stamps of all that was found are those of what the image holds
pub stamps-read : (g : Geometry) (heads : List (Option SegmentHead)) (stamps : List SlotStamp) (image : List ℕ) → heads ≡ heads_of g image
    → AllStamped g image stamps (in_order 0 heads) → KnowsStamps g heads stamps image
stamps-read g heads stamps image are all = record {
  each = λ r held n p there.
      let at = held-at g r image n held (ap (λ (o : Option Picture). is_some o) there) in
      let j = at.segment in
      let has = there-is (heads_of g image) g.slots n j at.header at.found at.head at.slot in
      let slot = held-slot g r image j n held at.low has in
      let same : (slot_of g image j (n % g.slots)).picture ≡ p = some-picture _ p (sym slot.held ∙ there) in
      let among = among-order heads j at.header (ap (λ (hs : List (Option SegmentHead)). get_or hs j None) are ∙ at.head) in
      ap (stamp_at g.slots stamps n) (ap (position (is_of (n / g.slots))) are ∙ at.found)
      ∙ among-stamped g image stamps (found_at j at.header) (in_order 0 heads) among all (n % g.slots) at.slot
      ∙ ap slot_stamp same;
}

-- the index of what was read
pub stamped-index : {A : Type 0} (index : Index A) (g : Geometry) (heads : List (Option SegmentHead)) (clips : List (Option Span))
    (next : ℕ) (stamps : List SlotStamp) (image : List ℕ) (fs : List Found) → IsOf index g heads clips next → index.stamps.items ≡ stamps
    → heads ≡ heads_of g image → fs ≡ in_order 0 heads → AllStamped g image stamps fs
    → KnowsStamps index.ring.geometry index.table.heads index.stamps.items image
stamped-index index g heads clips next stamps image fs is noted are found all =
    let read = stamps-read g heads stamps image are (subst (AllStamped g image stamps) found all) in
    subst (λ (h : Geometry). KnowsStamps h index.table.heads index.stamps.items image) (sym is.geometry)
    (subst (λ (hs : List (Option SegmentHead)). KnowsStamps g hs index.stamps.items image) (sym is.heads_are)
    (subst (λ (ts : List SlotStamp). KnowsStamps g heads ts image) (sym noted) read))
