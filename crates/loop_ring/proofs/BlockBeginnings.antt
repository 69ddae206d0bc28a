-- What opening a segment for a block makes of it.
use Rattle.std.proofs.Common.{◌≡◌, inl, inr, ℕ, zero, suc, ◌+◌, ◌≤◌, ◌<◌, Bool, true, false, cond, eqb, Some, None, Result, OnOk, List, [], ◌∷◌, length, drop, get_or, map, refl, sym, ap, ◌∙◌, subst, arith}
use Rattle.std.proofs.lemmas.List.{get_or-drop, get_or-replicate}
use Rattle.std.proofs.lemmas.Result.{on_ok_weaker}
use Rattle.std.specs.List.{range_with_len, prefix_len}
use Rattle.byteorder.specs.Endian.{little_from}
use Rattle.byteorder.specs.Numbers.{little_number-reads_back}
use Rattle.loop_disk.specs.declared.fault.DiskFault.{DiskFault}
use Rattle.loop_disk.specs.Medium.{Medium, with_bytes_at, SameOutside, LeavesOnly}
use Rattle.loop_disk.specs.Steps.{TornInTurn, StoresInTurn}
use Rattle.loop_disk.proofs.Moments.{weaker}
use Rattle.loop_disk.proofs.Images.{length-written, get_or-written_there, written_outside, widened, both}
use Rattle.loop_record.specs.declared.geometry.Geometry.{Geometry}
use Rattle.loop_record.specs.Change.{ShowsSegment}
use Rattle.loop_record.specs.Geometry.{frame_bytes, segment_size, segment_at, gate_at, slot_at}
use Rattle.loop_record.specs.Layout.{header_bytes, is_open, slot_in, whole_frames, segment_in}
use Rattle.loop_record.specs.Reading.{empty_segment}
use Rattle.loop_record.proofs.Fields.{moved_number}
use Rattle.loop_ring.specs.Writes.{ShowsOrNot, HasNoStray}
use Rattle.loop_ring.proofs.Bytes.{shows, torn_at, closed_none, none_closed}

-- what the header of an empty segment of a block has after its gate
pub record IsHeader (block : ℕ) (header : List ℕ) : Type 0 where
  pub size : length header ≡ 511
  pub number : little_from 7 8 header ≡ block
  pub gates : (i : ℕ) → i < 256 → get_or header (255 + i) 0 ≡ 0

pub is_header : (block : ℕ) (header : List ℕ) → block < 18446744073709551616 → header ≡ drop 1 (header_bytes block)
    → IsHeader block header
is_header block header fits is = record {
  size = ap length is;
  number = ap (little_from 7 8) is ∙ little_number-reads_back 8 block [] fits;
  gates = λ i l. ap (λ h. get_or h (255 + i) 0) is ∙ sym (get_or-drop 255 (drop 1 (header_bytes block)) i 0) ∙ get_or-replicate 256 i 0 0 l;
}

whole_none : (g : Geometry) (c : List ℕ) (j : ℕ) → ((i : ℕ) → i < g.slots → is_open c (gate_at g j i) ≡ false)
    → whole_frames g c j ≡ 0
whole_none g c j closed = go g.slots (λ i. is_open c (gate_at g j i)) closed
  where
    go : (n : ℕ) (p : ℕ → Bool) → ((i : ℕ) → i < n → p i ≡ false) → prefix_len p (range_with_len 0 n) ≡ 0
    go zero p none = refl
    go (suc n) p none = let first = none 0 (omega arith) in λ i. cond (first i) (1 + prefix_len p (range_with_len (0 + 1) n)) 0

-- an image with that header
header_there : (g : Geometry) (j k : ℕ) (header old c : List ℕ) → length header ≡ 511
    → segment_at g j + 512 ≤ length old → SameOutside (segment_at g j) 1
    (with_bytes_at (segment_at g j + 1) header old) c → k < 511
    → get_or c (segment_at g j + 1 + k) 0 ≡ get_or header k 0
header_there g j k header old c size fits torn l =
    torn.behind (segment_at g j + 1 + k) (omega arith) ∙ get_or-written_there (segment_at g j + 1) header old k (omega (arith, fits)) (omega (arith, size, l))

gates_closed : (g : Geometry) (j block : ℕ) (header old c : List ℕ) → IsHeader block header → g.slots ≤ 256
    → segment_at g j + 512 ≤ length old → SameOutside (segment_at g j) 1
    (with_bytes_at (segment_at g j + 1) header old) c
    → (i : ℕ) → i < g.slots → is_open c (gate_at g j i) ≡ false
gates_closed g j block header old c h few fits torn i l =
    let at : segment_at g j + 256 + i ≡ segment_at g j + 1 + (255 + i) = omega arith in
    let byte : get_or c (gate_at g j i) 0 ≡ 0 = ap (λ (k : ℕ). get_or c k 0) at
    ∙ header_there g j (255 + i) header old c h.size fits torn (omega (arith, l, few))
    ∙ h.gates i (omega (arith, l, few)) in
    ap (λ (k : ℕ). eqb k 0xA5) byte

header_outside : (g : Geometry) (j : ℕ) (header old : List ℕ) → length header ≡ 511
    → segment_at g j + 512 ≤ length old → SameOutside (segment_at g j) (segment_size g) old
    (with_bytes_at (segment_at g j + 1) header old)
header_outside g j header old size fits =
    widened (segment_at g j + 1) (length header) (segment_at g j) (segment_size g) old _
    (written_outside (segment_at g j + 1) header old (omega (arith, size, fits))) (omega arith)
    (omega (arith, size))

begun_there : (g : Geometry) (j block : ℕ) (header old c : List ℕ) → IsHeader block header → g.slots ≤ 256
    → segment_at g j + 512 ≤ length old → SameOutside (segment_at g j) 1
    (with_bytes_at (segment_at g j + 1) header old) c
    → is_open c (segment_at g j) ≡ true → segment_in g c j ≡ Some (empty_segment block)
begun_there g j block header old c h few fits torn gate =
    let number : little_from (segment_at g j + 8) 8 c ≡ block =
    moved_number 8 (segment_at g j + 8) 7 c header (λ k l.
    let at : segment_at g j + 8 + k ≡ segment_at g j + 1 + (7 + k) = omega arith in
    ap (λ (x : ℕ). get_or c x 0) at ∙ header_there g j (7 + k) header old c h.size fits torn (omega (arith, l))) ∙ h.number in
    let whole = whole_none g c j (gates_closed g j block header old c h few fits torn) in
    λ i. cond (gate i) (Some (record { block = number i; slots = map (λ k. slot_in (frame_bytes g) c (slot_at g j k)) (range_with_len 0 (whole i)) })) None

pub begin_torn : (g : Geometry) (j block : ℕ) (header old c : List ℕ) → IsHeader block header → g.slots ≤ 256
    → segment_at g j + 512 ≤ length old → segment_in g old j ≡ None
    → TornInTurn (segment_at g j + 1) header (segment_at g j) 1 old c → ShowsOrNot g j (Some (empty_segment block)) old c
begin_torn g j block header old c h few fits closed (inl torn) =
    let outside : SameOutside (segment_at g j) (segment_size g) old c = widened (segment_at g j + 1) (length header)
    (segment_at g j) (segment_size g) old c torn (omega arith) (omega (arith, h.size)) in
    let gate : is_open c (segment_at g j) ≡ false = ap (λ (k : ℕ). eqb k 0xA5) (torn.before (segment_at g j) (omega arith)) ∙ none_closed g old j closed in
    inl (shows g j _ old c outside (closed_none g c j gate ∙ sym closed))
begin_torn g j block header old c h few fits closed (inr torn) = go (is_open c (segment_at g j)) refl
  where
    outside : SameOutside (segment_at g j) (segment_size g) old c
    outside = both (segment_at g j) (segment_size g) old _ c (header_outside g j header old h.size fits)
        (widened (segment_at g j) 1 (segment_at g j) (segment_size g) _ c torn (omega arith) (omega arith))

    go : (t : Bool) → is_open c (segment_at g j) ≡ t → ShowsOrNot g j (Some (empty_segment block)) old c
    go true e = inr (shows g j _ old c outside (begun_there g j block header old c h few fits torn e))
    go false e = inl (shows g j _ old c outside (closed_none g c j e ∙ sym closed))

-- both stores done
begin_image : (g : Geometry) (j : ℕ) (header old : List ℕ) → length header ≡ 511 → segment_at g j + 512 ≤ length old
    → SameOutside (segment_at g j) 1 (with_bytes_at (segment_at g j + 1) header old)
    (with_bytes_at (segment_at g j) (165 ∷ []) (with_bytes_at (segment_at g j + 1) header old))
begin_image g j header old size fits = written_outside (segment_at g j) (165 ∷ []) _
    (omega (arith, size, fits, length-written (segment_at g j + 1) header old (omega (arith, size, fits))))

pub begin_done : (g : Geometry) (j block : ℕ) (header old : List ℕ) → IsHeader block header → g.slots ≤ 256
    → segment_at g j + 512 ≤ length old
    → ShowsSegment g j (Some (empty_segment block)) old (with_bytes_at (segment_at g j) (165 ∷ []) (with_bytes_at (segment_at g j + 1) header old))
begin_done g j block header old h few fits =
    let at = segment_at g j in
    let mid = with_bytes_at (at + 1) header old in
    let torn = begin_image g j header old h.size fits in
    let there : at ≡ at + 0 = omega arith in
    let size = length-written (at + 1) header old (omega (arith, h.size, fits)) in
    let gate : get_or (with_bytes_at at (165 ∷ []) mid) at 0 ≡ 165 =
    ap (λ (k : ℕ). get_or (with_bytes_at at (165 ∷ []) mid) k 0) there ∙ get_or-written_there at (165 ∷ []) mid 0
    (omega (arith, fits, size)) (omega arith) in
    shows g j _ old _ (both at (segment_size g) old mid _ (header_outside g j header old h.size fits)
    (widened at 1 at (segment_size g) mid _ torn (omega arith) (omega arith)))
    (begun_there g j block header old _ h few fits torn (ap (λ (k : ℕ). eqb k 0xA5) gate))

pub begin_stray : (g : Geometry) (j block : ℕ) (header old : List ℕ) → IsHeader block header → g.slots ≤ 256
    → segment_at g j + 512 ≤ length old
    → HasNoStray g j (with_bytes_at (segment_at g j) (165 ∷ []) (with_bytes_at (segment_at g j + 1) header old))
begin_stray g j block header old h few fits i low l = gates_closed g j block header old _ h few fits (begin_image g j header old h.size fits) i l

-- ---- what the call says

-- the gate after its header
stores_open : {T : Type 0} (at : ℕ) (header gate : List ℕ) (old new : Medium) (r : Result T DiskFault) → gate ≡ 165 ∷ []
    → StoresInTurn (at + 1) header at gate old new r → StoresInTurn (at + 1) header at (165 ∷ []) old new r
stores_open at header gate old new r opens stores = subst (λ (bytes : List ℕ). StoresInTurn (at + 1) header at bytes old new r) opens stores

pub begin_moments : {T : Type 0} (g : Geometry) (j block at : ℕ) (header gate : List ℕ) (old new : Medium)
    (r : Result T DiskFault) → at ≡ segment_at g j → gate ≡ 165 ∷ [] → IsHeader block header → g.slots ≤ 256
    → segment_at g j + 512 ≤ length old.bytes → segment_in g old.bytes j ≡ None
    → StoresInTurn (at + 1) header at gate old new r → LeavesOnly old new (ShowsOrNot g j (Some (empty_segment block)) old.bytes)
begin_moments g j block at header gate old new r is opens h few fits closed stores =
    weaker old new _ _ (stores_open at header gate old new r opens stores).moments
    (λ c torn. begin_torn g j block header old.bytes c h few fits closed
    (torn_at (at + 1) at (segment_at g j + 1) (segment_at g j) 1 1 header old.bytes c
    (ap (λ (k : ℕ). k + 1) is) is refl torn))

begin_is : (g : Geometry) (j at : ℕ) (header old new : List ℕ) → at ≡ segment_at g j
    → new ≡ with_bytes_at at (165 ∷ []) (with_bytes_at (at + 1) header old) → with_bytes_at (segment_at g j)
    (165 ∷ []) (with_bytes_at (segment_at g j + 1) header old) ≡ new
begin_is g j at header old new is e = sym (e ∙ ap (λ (k : ℕ). with_bytes_at k (165 ∷ []) (with_bytes_at (k + 1) header old)) is)

pub begin_ok : {T : Type 0} (g : Geometry) (j block at : ℕ) (header gate : List ℕ) (old new : Medium)
    (r : Result T DiskFault) → at ≡ segment_at g j → gate ≡ 165 ∷ [] → IsHeader block header → g.slots ≤ 256
    → segment_at g j + 512 ≤ length old.bytes
    → StoresInTurn (at + 1) header at gate old new r → OnOk r (ShowsSegment g j (Some (empty_segment block)) old.bytes new.bytes)
begin_ok g j block at header gate old new r is opens h few fits stores =
    on_ok_weaker r (λ (e : new.bytes ≡ with_bytes_at at (165 ∷ []) (with_bytes_at (at + 1) header old.bytes)). subst
    (ShowsSegment g j (Some (empty_segment block)) old.bytes) (begin_is g j at header old.bytes new.bytes is e)
    (begin_done g j block header old.bytes h few fits)) (stores_open at header gate old new r opens stores).done

pub begin_stray_ok : {T : Type 0} (g : Geometry) (j block at : ℕ) (header gate : List ℕ) (old new : Medium)
    (r : Result T DiskFault) → at ≡ segment_at g j → gate ≡ 165 ∷ [] → IsHeader block header → g.slots ≤ 256
    → segment_at g j + 512 ≤ length old.bytes
    → StoresInTurn (at + 1) header at gate old new r → OnOk r (HasNoStray g j new.bytes)
begin_stray_ok g j block at header gate old new r is opens h few fits stores =
    on_ok_weaker r (λ (e : new.bytes ≡ with_bytes_at at (165 ∷ []) (with_bytes_at (at + 1) header old.bytes)). subst
    (HasNoStray g j) (begin_is g j at header old.bytes new.bytes is e)
    (begin_stray g j block header old.bytes h few fits)) (stores_open at header gate old new r opens stores).done
