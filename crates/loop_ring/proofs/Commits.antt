-- What a commit makes of its segment.
use Rattle.std.proofs.Common.{◌≡◌, ◌⊎◌, inl, inr, ℕ, zero, suc, ◌+◌, ◌-◌, ◌*◌, ◌<◌, ◌≤◌, Bool, true, false, cond, eqb, Option, Some, None, Result, OnOk, List, [], ◌∷◌, ◌++◌, length, take, get_or, map, refl, sym, ap, ◌∙◌, subst, arith}
use Rattle.std.proofs.Math.Nat.{mul-le-mul_right, add-mul}
use Rattle.std.proofs.lemmas.Bool.{cases_lt}
use Rattle.std.proofs.lemmas.List.{append-nil}
use Rattle.std.proofs.lemmas.Result.{on_ok_weaker}
use Rattle.std.specs.List.{range_with_len}
use Rattle.byteorder.specs.Endian.{little_from}
use Rattle.loop_disk.specs.declared.fault.DiskFault.{DiskFault}
use Rattle.loop_disk.specs.Medium.{Medium, with_bytes_at, SameOutside, LeavesOnly}
use Rattle.loop_disk.specs.Steps.{TornInTurn, StoresInTurn}
use Rattle.loop_disk.proofs.Moments.{weaker}
use Rattle.loop_disk.proofs.Images.{get_or-written_there, written_outside, widened, both}
use Rattle.loop_record.specs.declared.geometry.Geometry.{Geometry}
use Rattle.loop_record.specs.Change.{ShowsSegment}
use Rattle.loop_record.specs.Geometry.{frame_bytes, slot_size, segment_size, segment_at, gate_at, slot_at}
use Rattle.loop_record.specs.Layout.{Slot, Segment, is_open, slot_in, whole_frames, segment_in}
use Rattle.loop_record.specs.Recording.{Picture}
use Rattle.loop_record.proofs.OwnBytes.{SameWithin, prefix_range, map_range, same_open, same_number, same_slot}
use Rattle.loop_record.proofs.Gates.{first_closed_between, segment_in-more, slots_from}
use Rattle.loop_ring.specs.Writes.{ShowsFrames, ShowsBeginning, HasNoStray, slots_in, slots_of, with_more}
use Rattle.loop_record.proofs.Fields.{moved_number}
use Rattle.loop_ring.proofs.Bytes.{shows, torn_at, closed_none, prefix_open, moved_slot}
use Rattle.loop_ring.proofs.SlotStages.{slots-beginning}

-- what is known of a commit before its first write
pub record CanCommit (g : Geometry) (j first count : ℕ) (bytes old : List ℕ) : Type 0 where
  pub few : g.slots ≤ 256
  pub some : 1 ≤ count
  pub room : first + count ≤ g.slots
  pub size : length bytes ≡ count * slot_size g
  pub fits : segment_at g j + segment_size g ≤ length old
  pub whole : whole_frames g old j ≡ first
  pub stray : HasNoStray g j old

pub slots_end : (g : Geometry) (j first count : ℕ) → first + count ≤ g.slots
    → slot_at g j first + count * slot_size g ≤ segment_at g j + segment_size g
slots_end g j first count room =
    let le : (first + count) * slot_size g ≤ g.slots * slot_size g = mul-le-mul_right (slot_size g) room in
    let split : (first + count) * slot_size g ≡ first * slot_size g + count * slot_size g = omega (arith, add-mul first count (slot_size g)) in
    omega (arith, le, split)

slot_before : (g : Geometry) (j i first : ℕ) → i < first → slot_at g j i + slot_size g ≤ slot_at g j first
slot_before g j i first l =
    let le : (i + 1) * slot_size g ≤ first * slot_size g = mul-le-mul_right (slot_size g) (omega (arith, l)) in
    let split : (i + 1) * slot_size g ≡ i * slot_size g + slot_size g = omega (arith, add-mul i 1 (slot_size g)) in
    omega (arith, le, split)

slots_outside : (g : Geometry) (j first count : ℕ) (bytes old c : List ℕ) → CanCommit g j first count bytes old
    → SameOutside (slot_at g j first) (length bytes) old c → SameOutside (segment_at g j) (segment_size g) old c
slots_outside g j first count bytes old c can torn =
    widened (slot_at g j first) (length bytes) (segment_at g j) (segment_size g) old c torn (omega arith)
    (omega (arith, can.size, slots_end g j first count can.room))

-- the frames that were whole are read as before
first_slots : (g : Geometry) (j first : ℕ) (old c : List ℕ)
    → ((k : ℕ) → segment_at g j + 512 ≤ k → k < slot_at g j first → get_or c k 0 ≡ get_or old k 0)
    → length c ≡ length old → slots_from g c j 0 first ≡ slots_from g old j 0 first
first_slots g j first old c same size =
    map_range (λ i. slot_in (frame_bytes g) c (slot_at g j i)) (λ i. slot_in (frame_bytes g) old (slot_at g j i)) 0 first (λ i low h.
    let before = slot_before g j i first (omega (arith, h)) in
    same_slot (frame_bytes g) (slot_at g j i) c old (record { size = size; bytes = λ k l u. same k (omega (arith, l)) (omega (arith, u, before)) }))

slots_torn : (g : Geometry) (j first count : ℕ) (bytes old c : List ℕ) → CanCommit g j first count bytes old
    → SameOutside (slot_at g j first) (length bytes) old c → segment_in g c j ≡ segment_in g old j
slots_torn g j first count bytes old c can torn =
    let at = segment_at g j in
    let part : (low high : ℕ) → high ≤ slot_at g j first → SameWithin low high c old =
    λ low high h. record { size = torn.size; bytes = λ k l u. torn.before k (omega (arith, u, h)) } in
    let gate = same_open c old at (part at (at + 1) (omega arith)) in
    let block = same_number 8 (at + 8) c old (part (at + 8) (at + 8 + 8) (omega arith)) in
    let few = can.few in
    let whole : whole_frames g c j ≡ whole_frames g old j = prefix_range (λ i. is_open c (gate_at g j i)) (λ i. is_open old (gate_at g j i)) 0 g.slots (λ i l h.
    same_open c old (gate_at g j i) (part (gate_at g j i) (gate_at g j i + 1) (omega (arith, few, h)))) in
    let slots : slots_from g c j 0 (whole_frames g c j) ≡ slots_from g old j 0 (whole_frames g old j) =
    ap (slots_from g c j 0) (whole ∙ can.whole) ∙ first_slots g j first old c (λ k l u. torn.before k u) torn.size
    ∙ sym (ap (slots_from g old j 0) can.whole) in
    λ i. cond (gate i) (Some (record { block = block i; slots = slots i })) None

-- the slots are on the disk, and some gates of theirs
abbrev Gated : Geometry → ℕ → ℕ → ℕ → List ℕ → List ℕ → List ℕ → Type 0
Gated g j first count bytes old c = SameOutside (gate_at g j first) count (with_bytes_at (slot_at g j first) bytes old) c

slots_written : (g : Geometry) (j first count : ℕ) (bytes old : List ℕ) → CanCommit g j first count bytes old
    → SameOutside (slot_at g j first) (length bytes) old (with_bytes_at (slot_at g j first) bytes old)
slots_written g j first count bytes old can = written_outside (slot_at g j first) bytes old
    (omega (arith, can.size, can.fits, slots_end g j first count can.room))

-- a byte of the header that isn't a gate of theirs
header_kept : (g : Geometry) (j first count k : ℕ) (bytes old c : List ℕ) → CanCommit g j first count bytes old
    → Gated g j first count bytes old c → k < slot_at g j first → (k < gate_at g j first)
    ⊎ (gate_at g j first + count ≤ k) → get_or c k 0 ≡ get_or old k 0
header_kept g j first count k bytes old c can gated h (inl l) = gated.before k l ∙ (slots_written g j first count bytes old can).before k h
header_kept g j first count k bytes old c can gated h (inr l) = gated.behind k l ∙ (slots_written g j first count bytes old can).before k h

-- the slots that were staged
new_slots : (g : Geometry) (j first count k : ℕ) (bytes old c : List ℕ) → CanCommit g j first count bytes old
    → Gated g j first count bytes old c → k ≤ count → slots_from g c j first k ≡ slots_in (frame_bytes g) bytes k
new_slots g j first count k bytes old c can gated le = go k first 0 (omega arith) (omega (arith, le))
  where
    wrote : SameOutside (slot_at g j first) (length bytes) old (with_bytes_at (slot_at g j first) bytes old)
    wrote = slots_written g j first count bytes old can

    one : (i : ℕ) → i < count → slot_in (frame_bytes g) c (slot_at g j (first + i)) ≡ slot_in (frame_bytes g) bytes
        (i * slot_size g)
    one i l =
        let split : (first + i) * slot_size g ≡ first * slot_size g + i * slot_size g = omega (arith, add-mul first i (slot_size g)) in
        let most : (i + 1) * slot_size g ≤ count * slot_size g = mul-le-mul_right (slot_size g) (omega (arith, l)) in
        let next : (i + 1) * slot_size g ≡ i * slot_size g + slot_size g = omega (arith, add-mul i 1 (slot_size g)) in
        let end = slots_end g j first count can.room in
        moved_slot (frame_bytes g) (slot_at g j (first + i)) (i * slot_size g) c bytes
        (omega (arith, split, most, next, end, can.fits, gated.size, wrote.size))
        (omega (arith, most, next, can.size)) (λ k u.
        let at : slot_at g j (first + i) + k ≡ slot_at g j first + (i * slot_size g + k) = omega (arith, split) in
        gated.behind (slot_at g j (first + i) + k) (omega (arith, split, can.few, can.room))
        ∙ ap (λ (x : ℕ). get_or (with_bytes_at (slot_at g j first) bytes old) x 0) at
        ∙ get_or-written_there (slot_at g j first) bytes old (i * slot_size g + k) (omega (arith, can.fits, end)) (omega (arith, u, most, next, can.size)))

    go : (n p i : ℕ) → p ≡ first + i → i + n ≤ count
        → slots_from g c j p n ≡ map (λ x. slot_in (frame_bytes g) bytes (x * slot_size g)) (range_with_len i n)
    go zero p i e l = refl
    go (suc n) p i e l =
        let head : slot_in (frame_bytes g) c (slot_at g j p) ≡ slot_in (frame_bytes g) bytes (i * slot_size g) =
        ap (λ (x : ℕ). slot_in (frame_bytes g) c (slot_at g j x)) e ∙ one i (omega (arith, l)) in
        let rest = go n (p + 1) (i + 1) (omega (arith, e)) (omega (arith, l)) in
        λ x. head x ∷ rest x

commit_holds : (g : Geometry) (j first count k : ℕ) (bytes old c : List ℕ) → CanCommit g j first count bytes old
    → Gated g j first count bytes old c → k ≤ count → whole_frames g c j ≡ first + k
    → segment_in g c j ≡ with_more (slots_in (frame_bytes g) bytes k) (segment_in g old j)
commit_holds g j first count k bytes old c can gated le whole = go (is_open old (segment_at g j)) refl
  where
    size : length c ≡ length old
    size = gated.size ∙ (slots_written g j first count bytes old can).size

    kept : (x : ℕ) → x < segment_at g j + 256 → get_or c x 0 ≡ get_or old x 0
    kept x l = header_kept g j first count x bytes old c can gated (omega (arith, l)) (inl (omega (arith, l)))

    gate : is_open c (segment_at g j) ≡ is_open old (segment_at g j)
    gate = ap (λ (x : ℕ). eqb x 0xA5) (kept (segment_at g j) (omega arith))

    block_same : little_from (segment_at g j + 8) 8 c ≡ little_from (segment_at g j + 8) 8 old
    block_same = moved_number 8 (segment_at g j + 8) (segment_at g j + 8) c old (λ x l. kept (segment_at g j + 8 + x) (omega (arith, l)))

    behind : slots_from g c j 0 first ≡ slots_from g old j 0 first
    behind = first_slots g j first old c (λ x l u. header_kept g j first count x bytes old c can gated u (inr (omega (arith, l, can.few, can.room)))) size

    go : (t : Bool) → is_open old (segment_at g j) ≡ t → segment_in g c j ≡ with_more
        (slots_in (frame_bytes g) bytes k) (segment_in g old j)
    go false e = closed_none g c j (gate ∙ e) ∙ sym (ap (with_more (slots_in (frame_bytes g) bytes k)) (closed_none g old j e))
    go true e =
        let was : segment_in g old j ≡ Some (record { block = little_from (segment_at g j + 8) 8 old; slots = slots_from g old j 0 first }) =
        λ i. cond (e i) (Some (record { block = little_from (segment_at g j + 8) 8 old; slots = slots_from g old j 0 (can.whole i) })) None in
        let more = new_slots g j first count k bytes old c can gated le in
        segment_in-more g c j first k (gate ∙ e) whole
        ∙ (λ i. Some (record { block = block_same i; slots = behind i ++ more i }))
        ∙ sym (ap (with_more (slots_in (frame_bytes g) bytes k)) was)

with_more-nothing : (o : Option Segment) → with_more [] o ≡ o
with_more-nothing None = refl
with_more-nothing (Some s) = λ i. Some (record s { slots = append-nil s.slots i })

gates_kept : (g : Geometry) (j first count i : ℕ) (bytes old c : List ℕ) → CanCommit g j first count bytes old
    → Gated g j first count bytes old c → i < g.slots → (i < first) ⊎ (first + count ≤ i)
    → is_open c (gate_at g j i) ≡ is_open old (gate_at g j i)
gates_kept g j first count i bytes old c can gated l o =
    ap (λ (x : ℕ). eqb x 0xA5) (header_kept g j first count (gate_at g j i) bytes old c can gated
    (omega (arith, l, can.few)) (side o))
  where
    side : (i < first) ⊎ (first + count ≤ i) → (gate_at g j i < gate_at g j first)
        ⊎ (gate_at g j first + count ≤ gate_at g j i)
    side (inl a) = inl (omega (arith, a))
    side (inr a) = inr (omega (arith, a))

-- with the first n gates open, from n to first + count frames are whole
wholes : (g : Geometry) (j first count n : ℕ) (bytes old c : List ℕ) → CanCommit g j first count bytes old
    → Gated g j first count bytes old c → n ≤ count
    → ((i : ℕ) → first ≤ i → i < first + n → is_open c (gate_at g j i) ≡ true)
    → (first + n ≤ whole_frames g c j) × (whole_frames g c j ≤ first + count)
wholes g j first count n bytes old c can gated le opened =
    first_closed_between (λ i. is_open c (gate_at g j i)) 0 g.slots (first + n) (first + count) front
    (omega (arith, le)) can.room (end (cases_lt (first + count) g.slots))
  where
    front : (i : ℕ) → 0 ≤ i → i < 0 + (first + n) → is_open c (gate_at g j i) ≡ true
    front i low h = side (cases_lt i first)
      where
        side : (i < first) ⊎ (first ≤ i) → is_open c (gate_at g j i) ≡ true
        side (inl a) =
            let at : i ≡ 0 + i = omega arith in
            gates_kept g j first count i bytes old c can gated (omega (arith, a, can.room)) (inl a)
            ∙ ap (λ (x : ℕ). is_open old (gate_at g j x)) at
            ∙ prefix_open (λ x. is_open old (gate_at g j x)) 0 g.slots i (omega (arith, a, can.whole))
        side (inr a) = opened i a (omega (arith, h))

    end : (first + count < g.slots) ⊎ (g.slots ≤ first + count) → (first + count ≡ g.slots)
        ⊎ (is_open c (gate_at g j (0 + (first + count))) ≡ false)
    end (inl a) =
        let at : 0 + (first + count) ≡ first + count = omega arith in
        inr (ap (λ (x : ℕ). is_open c (gate_at g j x)) at ∙ gates_kept g j first count (first + count) bytes old c can
        gated a (inr (omega arith)) ∙ can.stray (first + count) (omega (arith, can.whole)) a)
    end (inr a) = inl (omega (arith, a, can.room))

gated_outside : (g : Geometry) (j first count : ℕ) (bytes old c : List ℕ) → CanCommit g j first count bytes old
    → Gated g j first count bytes old c → SameOutside (segment_at g j) (segment_size g) old c
gated_outside g j first count bytes old c can gated =
    both (segment_at g j) (segment_size g) old _ c (slots_outside g j first count bytes old _ can (slots_written g j first count bytes old can))
    (widened (gate_at g j first) count (segment_at g j) (segment_size g) _ c gated (omega arith) (omega (arith, can.few, can.room)))

-- segment j with the first k of the slots in some bytes after its own
abbrev pub ShowsStaged : Geometry → ℕ → List ℕ → ℕ → List ℕ → List ℕ → Type 0
ShowsStaged g j bytes k old new = ShowsSegment g j (with_more (slots_in (frame_bytes g) bytes k) (segment_in g old j)) old new

abbrev pub ShowsSome : Geometry → ℕ → List ℕ → ℕ → List ℕ → List ℕ → Type 0
ShowsSome g j bytes count old new = (k : ℕ) × ((k ≤ count) × ShowsStaged g j bytes k old new)

pub commit_torn : (g : Geometry) (j first count : ℕ) (bytes old c : List ℕ) → CanCommit g j first count bytes old
    → TornInTurn (slot_at g j first) bytes (gate_at g j first) count old c → ShowsSome g j bytes count old c
commit_torn g j first count bytes old c can (inl torn) = (
  0,
  (
    omega arith,
    shows g j _ old c (slots_outside g j first count bytes old c can torn)
        (slots_torn g j first count bytes old c can torn ∙ sym (with_more-nothing (segment_in g old j))),
  ),
)
commit_torn g j first count bytes old c can (inr gated) =
    let range = wholes g j first count 0 bytes old c can gated (omega arith) (λ i low h. absurd (omega (arith, low, h))) in
    let le : whole_frames g c j - first ≤ count = omega (arith, range.1) in
    let whole : whole_frames g c j ≡ first + (whole_frames g c j - first) = omega (arith, range.0) in (
      whole_frames g c j - first,
      (
        le,
        shows g j _ old c (gated_outside g j first count bytes old c can gated)
            (commit_holds g j first count (whole_frames g c j - first) bytes old c can gated le whole),
      ),
    )

-- open gates
pub record AreGates (count : ℕ) (gates : List ℕ) : Type 0 where
  pub size : length gates ≡ count
  pub open_all : (i : ℕ) → i < count → get_or gates i 0 ≡ 165

abbrev pub committed : Geometry → ℕ → ℕ → List ℕ → List ℕ → List ℕ → List ℕ
committed g j first bytes gates old = with_bytes_at (gate_at g j first) gates (with_bytes_at (slot_at g j first) bytes old)

commit_image : (g : Geometry) (j first count : ℕ) (bytes gates old : List ℕ) → CanCommit g j first count bytes old
    → AreGates count gates → Gated g j first count bytes old (committed g j first bytes gates old)
commit_image g j first count bytes gates old can are =
    let wrote = slots_written g j first count bytes old can in
    subst (λ (n : ℕ). SameOutside (gate_at g j first) n (with_bytes_at (slot_at g j first) bytes old) (committed g j first bytes gates old)) are.size
    (written_outside (gate_at g j first) gates (with_bytes_at (slot_at g j first) bytes old) (omega (arith, are.size, wrote.size, can.fits, can.few, can.room)))

commit_whole : (g : Geometry) (j first count : ℕ) (bytes gates old : List ℕ) → CanCommit g j first count bytes old
    → AreGates count gates → whole_frames g (committed g j first bytes gates old) j ≡ first + count
commit_whole g j first count bytes gates old can are =
    let gated = commit_image g j first count bytes gates old can are in
    let wrote = slots_written g j first count bytes old can in
    let range = wholes g j first count count bytes old (committed g j first bytes gates old) can gated (omega arith) (λ i low h.
    let at : gate_at g j i ≡ gate_at g j first + (i - first) = omega (arith, low) in
    ap (λ (x : ℕ). is_open (committed g j first bytes gates old) x) at
    ∙ ap (λ (x : ℕ). eqb x 0xA5) (get_or-written_there (gate_at g j first) gates
    (with_bytes_at (slot_at g j first) bytes old) (i - first)
    (omega (arith, wrote.size, can.fits, can.few, can.room)) (omega (arith, low, h, are.size))
    ∙ are.open_all (i - first) (omega (arith, low, h)))) in
    omega (arith, range.0, range.1)

pub commit_done : (g : Geometry) (j first count : ℕ) (bytes gates old : List ℕ) → CanCommit g j first count bytes old
    → AreGates count gates → ShowsStaged g j bytes count old (committed g j first bytes gates old)
commit_done g j first count bytes gates old can are =
    let gated = commit_image g j first count bytes gates old can are in
    shows g j _ old _ (gated_outside g j first count bytes old _ can gated)
    (commit_holds g j first count count bytes old _ can gated (omega arith)
    (commit_whole g j first count bytes gates old can are))

pub commit_stray : (g : Geometry) (j first count : ℕ) (bytes gates old : List ℕ) → CanCommit g j first count bytes old
    → AreGates count gates → HasNoStray g j (committed g j first bytes gates old)
commit_stray g j first count bytes gates old can are i low l =
    let whole = commit_whole g j first count bytes gates old can are in
    gates_kept g j first count i bytes old (committed g j first bytes gates old) can
    (commit_image g j first count bytes gates old can are) l (inr (omega (arith, low, whole)))
    ∙ can.stray i (omega (arith, low, whole, can.whole)) l

-- ---- what the call says

-- the bytes that are written are the slots of these frames
pub record AreStaged (g : Geometry) (number : ℕ) (frames : List Picture) (bytes : List ℕ) : Type 0 where
  pub size : length bytes ≡ length frames * slot_size g
  pub slots : slots_in (frame_bytes g) bytes (length frames) ≡ slots_of (frame_bytes g) number frames

-- some bytes hold the slots of these frames, and this is their number
pub record IsGroup (g : Geometry) (number : ℕ) (frames : List Picture) (bytes : List ℕ) (count : ℕ) : Type 0 where
  pub count_is : count ≡ length frames
  pub slots : slots_in (frame_bytes g) bytes count ≡ slots_of (frame_bytes g) number frames

-- the slots of a group are those of its frames
pub is_group : (g : Geometry) (number n count : ℕ) (frames : List Picture) (bytes : List ℕ) → n ≡ frame_bytes g
    → count ≡ length frames → slots_in n bytes (length frames) ≡ slots_of n number frames
    → IsGroup g number frames bytes count
is_group g number n count frames bytes n_is count_is slots = record {
  count_is = count_is;
  slots = subst (λ (k : ℕ). slots_in k bytes count ≡ slots_of k number frames) n_is (ap (λ (k : ℕ). slots_in n bytes k) count_is ∙ slots);
}

-- what is written where, and what is known of the disk before
pub record IsReady (g : Geometry) (j first number : ℕ) (frames : List Picture) (at gate : ℕ) (bytes gates old : List ℕ) : Type 0 where
  pub at_is : at ≡ slot_at g j first
  pub gate_is : gate ≡ gate_at g j first
  pub staged : AreStaged g number frames bytes
  pub gates_are : AreGates (length frames) gates
  pub can : CanCommit g j first (length frames) bytes old

as_frames : (g : Geometry) (j number k : ℕ) (frames : List Picture) (bytes old new : List ℕ)
    → AreStaged g number frames bytes → k ≤ length frames → ShowsStaged g j bytes k old new
    → ShowsFrames g j number (take k frames) old new
as_frames g j number k frames bytes old new are le shown =
    subst (λ (slots : List Slot). ShowsSegment g j (with_more slots (segment_in g old j)) old new)
    (slots-beginning (frame_bytes g) number k (length frames) bytes frames le are.slots) shown

pub commit_moments : {T : Type 0} (g : Geometry) (j first number at gate : ℕ) (frames : List Picture)
    (bytes gates : List ℕ) (old new : Medium) (r : Result T DiskFault)
    → IsReady g j first number frames at gate bytes gates old.bytes
    → StoresInTurn at bytes gate gates old new r → LeavesOnly old new (ShowsBeginning g j number frames old.bytes)
commit_moments g j first number at gate frames bytes gates old new r ready stores =
    weaker old new _ _ stores.moments
    (λ c torn. some c (commit_torn g j first (length frames) bytes old.bytes c ready.can
    (torn_at at gate (slot_at g j first) (gate_at g j first) (length gates) (length frames) bytes old.bytes c
    ready.at_is ready.gate_is ready.gates_are.size torn)))
  where
    some : (c : List ℕ) → ShowsSome g j bytes (length frames) old.bytes c → ShowsBeginning g j number frames old.bytes c
    some c shown = (shown.0, (shown.1.0, as_frames g j number shown.0 frames bytes old.bytes c ready.staged shown.1.0 shown.1.1))

commit_is : (g : Geometry) (j first at gate : ℕ) (bytes gates old new : List ℕ) → at ≡ slot_at g j first
    → gate ≡ gate_at g j first → new ≡ with_bytes_at gate gates (with_bytes_at at bytes old)
    → committed g j first bytes gates old ≡ new
commit_is g j first at gate bytes gates old new is gate_is e = sym (e ∙ (λ i. with_bytes_at (gate_is i) gates (with_bytes_at (is i) bytes old)))

pub commit_ok : {T : Type 0} (g : Geometry) (j first number at gate : ℕ) (frames : List Picture)
    (bytes gates : List ℕ) (old new : Medium) (r : Result T DiskFault)
    → IsReady g j first number frames at gate bytes gates old.bytes
    → StoresInTurn at bytes gate gates old new r → OnOk r (ShowsFrames g j number frames old.bytes new.bytes)
commit_ok g j first number at gate frames bytes gates old new r ready stores =
    on_ok_weaker r (λ (e : new.bytes ≡ with_bytes_at gate gates (with_bytes_at at bytes old.bytes)). shown new.bytes
    (subst (ShowsStaged g j bytes (length frames) old.bytes)
    (commit_is g j first at gate bytes gates old.bytes new.bytes ready.at_is ready.gate_is e)
    (commit_done g j first (length frames) bytes gates old.bytes ready.can ready.gates_are))) stores.done
  where
    shown : (c : List ℕ) → ShowsStaged g j bytes (length frames) old.bytes c → ShowsFrames g j number frames old.bytes c
    shown c s = subst (λ (slots : List Slot). ShowsSegment g j (with_more slots (segment_in g old.bytes j)) old.bytes c) ready.staged.slots s

pub commit_stray_done : {T : Type 0} (g : Geometry) (j first count at gate : ℕ) (bytes gates : List ℕ)
    (old new : Medium) (r : Result T DiskFault) → at ≡ slot_at g j first → gate ≡ gate_at g j first
    → CanCommit g j first count bytes old.bytes → AreGates count gates
    → StoresInTurn at bytes gate gates old new r → OnOk r (HasNoStray g j new.bytes)
commit_stray_done g j first count at gate bytes gates old new r at_is gate_is can are stores =
    on_ok_weaker r (λ (e : new.bytes ≡ with_bytes_at gate gates (with_bytes_at at bytes old.bytes)). subst
    (HasNoStray g j) (commit_is g j first at gate bytes gates old.bytes new.bytes at_is gate_is e)
    (commit_stray g j first count bytes gates old.bytes can are)) stores.done
