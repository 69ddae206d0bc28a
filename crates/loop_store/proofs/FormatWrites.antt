-- What formatting leaves of a disk, write by write.
use Rattle.std.proofs.Common.{◌≡◌, ◌≢◌, ◌⊎◌, inl, inr, ℕ, ◌+◌, ◌-◌, ◌*◌, ◌<◌, ◌≤◌, Bool, true, false, eqb, Result, OnOk, List, [], ◌∷◌, ◌++◌, length, drop, get_or, replicate, refl, sym, ap, ◌∙◌, subst, arith}
use Rattle.std.proofs.lemmas.Bool.{cases_lt}
use Rattle.std.proofs.lemmas.List.{ext_get_or, get_or-take, get_or-drop, get_or-replicate, get_or_append_left, get_or-append_right, length-take, length-drop, length-append, length-replicate}
use Rattle.std.proofs.lemmas.Result.{on_ok_weaker}
use Rattle.loop_disk.specs.declared.fault.DiskFault.{DiskFault}
use Rattle.loop_disk.specs.Calls.{Called, Stays, Writes, failed_call}
use Rattle.loop_disk.specs.Medium.{Medium, IsSound, IsSettled, LeavesOnly, SameOutside, TornAt, with_bytes_at, piece}
use Rattle.loop_disk.specs.Steps.{Stores}
use Rattle.loop_disk.proofs.Images.{get_or-written_before, get_or-written_there, length-written, get_or-piece}
use Rattle.loop_disk.proofs.Moments.{each_now, started, goes_on, joined, stored}
use Rattle.loop_record.specs.declared.superblock.SuperHead.{SuperHead}
use Rattle.loop_record.specs.Geometry.{clip_at, disk_size, segment_at}
use Rattle.loop_record.specs.Layout.{is_open, super_bytes}
use Rattle.loop_record.proofs.TestFacts.{differ_test, equal}
use Rattle.loop_record.proofs.Parts.{apart}
use Rattle.loop_store.specs.Fresh.{LeavesClosed, IsClosed, IsLaid, IsLaidClosed, WasOrClosed}
use Rattle.loop_store.specs.Grow.{Brings}
use Rattle.loop_store.proofs.AnswerPairs.{both_ok}
use Rattle.loop_store.proofs.Looks.{stays-settled}

-- ---- the gate is closed

-- an image in which an open gate may have been torn: it was there before, or the gate is closed
pub closing-torn : (m : Medium) (c : List ℕ) → IsSound m → is_open m.bytes 0 ≡ true → SameOutside 0 1 m.bytes c
    → WasOrClosed m c
closing-torn m c sound opened torn = go (is_open c 0) refl
  where
    place : (i : ℕ) → is_open c 0 ≡ true → (i < 1) ⊎ (1 ≤ i) → get_or c i 0 ≡ get_or m.bytes i 0
    place i e (inl l) =
        let first : i ≡ 0 = omega (arith, l) in
        ap (λ (k : ℕ). get_or c k 0) first ∙ equal (get_or c 0 0) 165 e ∙ sym (equal (get_or m.bytes 0 0) 165 opened)
        ∙ ap (λ (k : ℕ). get_or m.bytes k 0) (sym first)
    place i e (inr h) = torn.behind i (omega (arith, h))

    go : (t : Bool) → is_open c 0 ≡ t → WasOrClosed m c
    go true e =
        let same : c ≡ m.bytes = ext_get_or 0 c m.bytes torn.size (λ i l. place i e (cases_lt i 1)) in
        inl (subst (λ (image : List ℕ). m.may_leave image) (sym same) sound.present)
    go false e = inr e

-- a read, and then the gate's store
pub closing : {T : Type 0} (old mid new : Medium) (r : Result T DiskFault) → IsSound old → IsSettled old
    → Stays old mid → is_open old.bytes 0 ≡ true → Stores 0 (0 ∷ []) mid new r → LeavesOnly old new (WasOrClosed old)
closing old mid new r sound settled stays opened stores =
    let P = WasOrClosed old in
    let before : LeavesOnly old mid P = goes_on old old mid P old.may_leave (started old P sound (λ c left. inl left)) stays.time (λ c left. inl left) in
    joined old mid new P before (stored 0 (0 ∷ []) mid new r P (stays-settled old mid stays settled) stores (λ c torn.
    closing-torn old c sound opened (subst (λ (image : List ℕ). SameOutside 0 1 image c) stays.bytes torn)))

-- at Ok it is closed in each image that a crash may leave
pub closing-done : {T : Type 0} (mid new : Medium) (r : Result T DiskFault) → Stores 0 (0 ∷ []) mid new r
    → OnOk r (LeavesClosed new)
closing-done mid new r stores =
    both_ok r (λ (done : new.bytes ≡ with_bytes_at 0 (0 ∷ []) mid.bytes) (settled : IsSettled new) c left. ap
    (λ (image : List ℕ). is_open image 0) (settled c left ∙ done)) stores.done stores.settled

-- and the same where it was read as closed
pub closed-read : (old mid : Medium) (gate : List ℕ) → IsSettled old → Stays old mid → gate ≡ piece 0 1 old.bytes
    → get_or gate 0 0 ≢ 165 → LeavesClosed mid
closed-read old mid gate settled stays is shut c left =
    ap (λ (image : List ℕ). is_open image 0) (settled c (stays.images c left))
    ∙ differ_test (get_or old.bytes 0 0) 165 (λ e. shut (ap (λ (bytes : List ℕ). get_or bytes 0 0) is ∙ get_or-piece 0 1 old.bytes 0 (omega arith) ∙ e))

-- ---- while the gate is closed

-- a write after the gate leaves it closed
pub closed-behind : (at n : ℕ) (m : Medium) (c : List ℕ) → 1 ≤ at → LeavesClosed m → TornAt at n m c → IsClosed c
closed-behind at n m c behind closed torn = ap (λ (b : ℕ). eqb b 165) (torn.2.before 0 (omega (arith, behind))) ∙ closed torn.0 torn.1

pub writing-closed : {T : Type 0} (at : ℕ) (bytes : List ℕ) (old new : Medium) (r : Result T DiskFault) → 1 ≤ at
    → IsSound old → LeavesClosed old → Writes at bytes old new r → LeavesOnly old new IsClosed
writing-closed at bytes old new r behind sound closed writes =
    goes_on old old new IsClosed (TornAt at (length bytes) old) (started old IsClosed sound closed) writes.time
    (λ c torn. closed-behind at (length bytes) old c behind closed torn)

-- ---- the bytes

-- the superblock and the clip table
pub laid-front : (h : SuperHead) (bytes old : List ℕ) → length bytes ≡ 2559 → length old ≡ disk_size h.geometry
    → ((i : ℕ) → i < 511 → get_or bytes i 0 ≡ get_or (super_bytes h) (i + 1) 0)
    → ((i : ℕ) → 511 ≤ i → i < 2559 → get_or bytes i 0 ≡ 0)
    → length (super_bytes h) ≡ 512 → IsLaid h 0 (with_bytes_at 1 bytes old)
laid-front h bytes old long whole front rest super_size = record {
  size = length-written 1 bytes old (omega (arith, long, whole)) ∙ whole;
  superblock =
      ext_get_or 0 _ _ (omega (
        arith,
        length-take 511 (drop 1 new),
        length-drop 1 new,
        length-written 1 bytes old (omega (arith, long, whole)),
        whole,
        length-drop 1 (super_bytes h),
        super_size,
      ))
      (λ i l.
      let below : i < 511 = omega (arith, l, length-take 511 (drop 1 new)) in
      let at : 1 + i ≡ i + 1 = omega arith in
      get_or-take 511 (drop 1 new) i 0 below ∙ get_or-drop 1 new i 0 ∙ there i (omega (arith, below)) ∙ front i below
      ∙ sym (get_or-drop 1 (super_bytes h) i 0 ∙ ap (λ (k : ℕ). get_or (super_bytes h) k 0) at));
  clips = λ id l.
      let at : 512 + id * 32 ≡ 1 + (511 + id * 32) = omega arith in
      let none : get_or new (512 + id * 32) 0 ≡ 0 = ap (λ (k : ℕ). get_or new k 0) at
      ∙ there (511 + id * 32) (omega (arith, l)) ∙ rest (511 + id * 32) (omega arith) (omega (arith, l)) in
      ap (λ (b : ℕ). eqb b 165) none;
  segments = λ j l. absurd (omega (arith, l));
}
  where
    new : List ℕ
    new = with_bytes_at 1 bytes old

    there : (i : ℕ) → i < 2559 → get_or new (1 + i) 0 ≡ get_or bytes i 0
    there i l = get_or-written_there 1 bytes old i (omega (arith, whole)) (omega (arith, long, l))

-- one header more
pub laid-header : (h : SuperHead) (count : ℕ) (old : List ℕ) → count < h.geometry.segments → IsLaid h count old
    → IsLaid h (count + 1) (with_bytes_at (segment_at h.geometry count) (replicate 512 0) old)
laid-header h count old below laid = record {
  size = length-written at zeros old fits ∙ laid.size;
  superblock =
      ext_get_or 0 _ _ (omega (
        arith,
        length-take 511 (drop 1 new),
        length-drop 1 new,
        length-take 511 (drop 1 old),
        length-drop 1 old,
        length-written at zeros old fits,
      )) (λ i l.
      let within : i < 511 = omega (arith, l, length-take 511 (drop 1 new)) in
      get_or-take 511 (drop 1 new) i 0 within ∙ get_or-drop 1 new i 0 ∙ before (1 + i) (omega (arith, within))
      ∙ sym (get_or-take 511 (drop 1 old) i 0 within ∙ get_or-drop 1 old i 0)) ∙ laid.superblock;
  clips = λ id l. ap (λ (b : ℕ). eqb b 165) (before (clip_at id) (omega (arith, l))) ∙ laid.clips id l;
  segments = λ j l. segment j (cases_lt j count) l;
}
  where
    at : ℕ
    at = segment_at h.geometry count

    zeros : List ℕ
    zeros = replicate 512 0

    new : List ℕ
    new = with_bytes_at at zeros old

    fits : at + length zeros ≤ length old
    fits = omega (arith, laid.size, apart h.geometry count h.geometry.segments below, length-replicate {A = ℕ} 512 0)

    before : (i : ℕ) → i < at → get_or new i 0 ≡ get_or old i 0
    before i l = get_or-written_before at zeros old i (omega (arith, fits)) l

    segment : (j : ℕ) → (j < count) ⊎ (count ≤ j) → j < count + 1 → is_open new (segment_at h.geometry j) ≡ false
    segment j (inl l) u = ap (λ (b : ℕ). eqb b 165) (before (segment_at h.geometry j) (omega (arith, apart h.geometry j count l))) ∙ laid.segments j l
    segment j (inr l) u =
        let same : j ≡ count = omega (arith, l, u) in
        let here : at ≡ at + 0 = omega arith in
        let none : get_or new at 0 ≡ 0 = ap (λ (k : ℕ). get_or new k 0) here ∙ get_or-written_there at zeros old 0
        (omega (arith, fits)) (omega (arith, length-replicate {A = ℕ} 512 0))
        ∙ get_or-replicate 512 0 0 0 (omega arith) in
        ap (λ (k : ℕ). is_open new (segment_at h.geometry k)) same ∙ ap (λ (b : ℕ). eqb b 165) none

-- a gate that was read as open
pub gate-read : (image gate : List ℕ) → gate ≡ piece 0 1 image → get_or gate 0 0 ≡ 165 → is_open image 0 ≡ true
gate-read image gate is opened = ap (λ (b : ℕ). eqb b 165) (sym (get_or-piece 0 1 image 0 (omega arith))
    ∙ sym (ap (λ (bytes : List ℕ). get_or bytes 0 0) is) ∙ opened)

-- the superblock before zeros, except its gate
pub laid-super : (h : SuperHead) (front old : List ℕ) → front ≡ super_bytes h ++ drop 512 (replicate 2560 0)
    → length front ≡ 2560 → length old ≡ disk_size h.geometry → IsLaid h 0 (with_bytes_at 1 (drop 1 front) old)
laid-super h front old is long whole = laid-front h (drop 1 front) old (omega (arith, length-drop 1 front, long)) whole head rest super_size
  where
    zeros : List ℕ
    zeros = replicate 2560 0

    super_size : length (super_bytes h) ≡ 512
    super_size = omega (
      arith,
      ap (λ (b : List ℕ). length b) is,
      long,
      length-append (super_bytes h) (drop 512 zeros),
      length-drop 512 zeros,
      length-replicate {A = ℕ} 2560 0,
    )

    head : (i : ℕ) → i < 511 → get_or (drop 1 front) i 0 ≡ get_or (super_bytes h) (i + 1) 0
    head i l =
        let at : 1 + i ≡ i + 1 = omega arith in
        get_or-drop 1 front i 0 ∙ ap (λ (k : ℕ). get_or front k 0) at ∙ ap (λ (b : List ℕ). get_or b (i + 1) 0) is
        ∙ get_or_append_left (super_bytes h) (drop 512 zeros) 0 (i + 1) (omega (arith, l, super_size))

    rest : (i : ℕ) → 511 ≤ i → i < 2559 → get_or (drop 1 front) i 0 ≡ 0
    rest i low high =
        get_or-drop 1 front i 0 ∙ ap (λ (b : List ℕ). get_or b (1 + i) 0) is ∙ get_or-append_right (super_bytes h)
        (drop 512 zeros) 512 (1 + i) 0 super_size (omega (arith, low))
        ∙ get_or-drop 512 zeros (1 + i - 512) 0 ∙ get_or-replicate 2560 (512 + (1 + i - 512)) 0 0 (omega (arith, low, high))

-- ---- what the writes say

pub front-laid : {T : Type 0} (h : SuperHead) (front bytes : List ℕ) (old new : Medium) (r : Result T DiskFault)
    → front ≡ super_bytes h ++ drop 512 (replicate 2560 0) → length front ≡ 2560 → bytes ≡ drop 1 front → IsSound old
    → old.size ≡ disk_size h.geometry
    → Writes 1 bytes old new r → OnOk r (IsLaid h 0 new.bytes)
front-laid h front bytes old new r is long behind sound whole writes =
    on_ok_weaker r (λ (done : new.bytes ≡ with_bytes_at 1 bytes old.bytes).
    subst (λ (image : List ℕ). IsLaid h 0 image) (sym (done ∙ (λ i. with_bytes_at 1 (behind i) old.bytes)))
    (laid-super h front old.bytes is long (sound.length_is ∙ whole))) writes.done

pub header-laid : {T : Type 0} (h : SuperHead) (at count : ℕ) (old new : Medium) (r : Result T DiskFault)
    → at ≡ segment_at h.geometry count → count < h.geometry.segments → IsLaid h count old.bytes
    → Writes at (replicate 512 0) old new r → OnOk r (IsLaid h (count + 1) new.bytes)
header-laid h at count old new r is below laid writes =
    on_ok_weaker r (λ (done : new.bytes ≡ with_bytes_at at (replicate 512 0) old.bytes).
    subst (λ (image : List ℕ). IsLaid h (count + 1) image)
    (sym (done ∙ (λ i. with_bytes_at (is i) (replicate 512 0) old.bytes)))
    (laid-header h count old.bytes below laid)) writes.done

-- a write after the closed gate leaves the disk so
pub brings-laid : {T : Type 0} (h : SuperHead) (count : ℕ) (old new : Medium) (r : Result T DiskFault)
    → (old.honest → IsSound new) → (old.honest → LeavesOnly old new IsClosed)
    → (old.honest → OnOk r (IsLaid h count new.bytes)) → Called old new (failed_call r)
    → Brings IsClosed (IsLaidClosed h count) old new r
brings-laid h count old new r sound moments laid called = record {
  moments = moments;
  such = λ honest. on_ok_weaker r (λ is. (each_now old new IsClosed (sound honest) (moments honest), is)) (laid honest);
  called = called;
}
