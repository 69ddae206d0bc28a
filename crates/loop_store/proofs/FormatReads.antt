-- What formatting leaves of a disk, read.
use Rattle.std.proofs.Common.{◌≡◌, ◌⊎◌, inl, inr, ℕ, ◌+◌, ◌-◌, ◌<◌, ◌≤◌, Bool, true, false, cond, eqb, leb, Result, OnOk, Err, List, [], ◌∷◌, length, take, drop, get_or, refl, sym, ap, ◌∙◌, subst, arith}
use Rattle.std.proofs.lemmas.Bool.{cases_lt}
use Rattle.std.proofs.lemmas.List.{ext_get_or, get_or-take, get_or-drop, length-take}
use Rattle.std.proofs.lemmas.Result.{on_ok_weaker}
use Rattle.std.specs.Prelude.{IsTrue, ◌&&◌}
use Rattle.loop_disk.specs.declared.fault.DiskFault.{DiskFault}
use Rattle.loop_disk.specs.Calls.{Stays}
use Rattle.loop_disk.specs.Medium.{Medium, IsSound, IsSettled, LeavesOnly, SameOutside, with_bytes_at}
use Rattle.loop_disk.specs.Steps.{Stores}
use Rattle.loop_disk.proofs.Images.{get_or-written_there, written_outside}
use Rattle.loop_disk.proofs.Moments.{started, goes_on, joined, stored, weaker}
use Rattle.loop_record.specs.declared.damage.LayoutFault.TheVariants.{NotFormatted}
use Rattle.loop_record.specs.declared.superblock.SuperHead.{SuperHead}
use Rattle.loop_record.specs.Geometry.{clip_at, is_good, segment_at}
use Rattle.loop_record.specs.Layout.{IsVersion, checked_geometry, format_at, has_bytes, is_open, magic, super_bytes}
use Rattle.loop_record.specs.Reading.{IsFreshImage, contents, reading}
use Rattle.loop_record.proofs.TestFacts.{equal}
use Rattle.loop_record.proofs.Fresh.{reading-fresh}
use Rattle.loop_record.proofs.ReadBack.{length-super_bytes}
use Rattle.loop_store.specs.Fresh.{LeavesClosed, IsClosed, IsLaid, WasOrClosed}
use Rattle.loop_store.specs.Make.{NoneOrEmpty, WasOr}

-- with a closed gate an image isn't formatted
pub closed-none : (image : List ℕ) → IsClosed image → reading image ≡ Err NotFormatted
closed-none image closed = λ i. contents image (cond (all i) (checked_geometry image (format_at image 20)) (Err NotFormatted))
  where
    go : (a b : Bool) → (a && false && b) ≡ false
    go true b = refl
    go false b = refl

    all : (leb 512 (length image) && is_open image 0 && has_bytes image 1 magic) ≡ false
    all = (λ i. leb 512 (length image) && closed i && has_bytes image 1 magic) ∙ go (leb 512 (length image)) (has_bytes image 1 magic)

-- what was laid out, with its gate open
pub opened-fresh : (h : SuperHead) (old c : List ℕ) → IsLaid h h.geometry.segments old → SameOutside 0 1 old c
    → is_open c 0 ≡ true → IsFreshImage h c
opened-fresh h old c laid torn gate = record {
  size = torn.size ∙ laid.size;
  superblock = ext_get_or 0 (take 512 c) (super_bytes h) (omega (arith, length-take 512 c, torn.size, laid.size, super_size)) (λ i l.
      let within : i < 512 = omega (arith, l, length-take 512 c) in
      get_or-take 512 c i 0 within ∙ place i within (cases_lt i 1));
  clips = λ id l. ap (λ (b : ℕ). eqb b 165) (torn.behind (clip_at id) (omega arith)) ∙ laid.clips id l;
  segments = λ j l. ap (λ (b : ℕ). eqb b 165) (torn.behind (segment_at h.geometry j) (omega arith)) ∙ laid.segments j l;
}
  where
    super_size : length (super_bytes h) ≡ 512
    super_size = length-super_bytes h

    first : get_or (super_bytes h) 0 0 ≡ 165
    first = refl

    place : (i : ℕ) → i < 512 → (i < 1) ⊎ (1 ≤ i) → get_or c i 0 ≡ get_or (super_bytes h) i 0
    place i below (inl l) =
        let zero_is : i ≡ 0 = omega (arith, l) in
        ap (λ (k : ℕ). get_or c k 0) zero_is ∙ equal (get_or c 0 0) 165 gate ∙ sym first ∙ ap (λ (k : ℕ). get_or (super_bytes h) k 0) (sym zero_is)
    place i below (inr l) =
        let at : 1 + (i - 1) ≡ i = omega (arith, l) in
        torn.behind i (omega (arith, l)) ∙ ap (λ (k : ℕ). get_or old k 0) (sym at)
        ∙ sym (get_or-take 511 (drop 1 old) (i - 1) 0 (omega (arith, l, below)) ∙ get_or-drop 1 old (i - 1) 0)
        ∙ ap (λ (b : List ℕ). get_or b (i - 1) 0) laid.superblock ∙ get_or-drop 1 (super_bytes h) (i - 1) 0 ∙ ap (λ (k : ℕ). get_or (super_bytes h) k 0) at

-- an image in which the gate may be torn
opening-torn : (h : SuperHead) (old c : List ℕ) → IsVersion h.version → IsTrue (is_good h.geometry)
    → IsLaid h h.geometry.segments old → SameOutside 0 1 old c → NoneOrEmpty h c
opening-torn h old c is good laid torn = go (is_open c 0) refl
  where
    go : (t : Bool) → is_open c 0 ≡ t → NoneOrEmpty h c
    go true e = inr (reading-fresh h c is good (opened-fresh h old c laid torn e))
    go false e = inl (closed-none c e)

pub opening-moments : {T : Type 0} (h : SuperHead) (old new : Medium) (r : Result T DiskFault) → IsVersion h.version
    → IsTrue (is_good h.geometry) → IsSettled old → IsLaid h h.geometry.segments old.bytes
    → Stores 0 (165 ∷ []) old new r → LeavesOnly old new (NoneOrEmpty h)
opening-moments h old new r is good settled laid stores =
    stored 0 (165 ∷ []) old new r (NoneOrEmpty h) settled stores
    (λ c torn. opening-torn h old.bytes c is good laid torn)

pub opening-fresh : {T : Type 0} (h : SuperHead) (old new : Medium) (r : Result T DiskFault)
    → IsLaid h h.geometry.segments old.bytes → Stores 0 (165 ∷ []) old new r → OnOk r (IsFreshImage h new.bytes)
opening-fresh h old new r laid stores =
    let fits : 0 + 1 ≤ length old.bytes = omega (arith, laid.size) in
    let gate : get_or (with_bytes_at 0 (165 ∷ []) old.bytes) 0 0 ≡ 165 = get_or-written_there 0 (165 ∷ []) old.bytes 0 (omega arith) (omega arith) in
    on_ok_weaker r (λ (done : new.bytes ≡ with_bytes_at 0 (165 ∷ []) old.bytes). subst
    (λ (image : List ℕ). IsFreshImage h image) (sym done)
    (opened-fresh h old.bytes (with_bytes_at 0 (165 ∷ []) old.bytes) laid
    (written_outside 0 (165 ∷ []) old.bytes fits) (ap (λ (b : ℕ). eqb b 165) gate))) stores.done

-- ---- the whole

-- a sync while the gate is closed
pub sync-none : (h : SuperHead) (old new : Medium) → IsSound old → LeavesClosed old → Stays old new
    → LeavesOnly old new (NoneOrEmpty h)
sync-none h old new sound closed stays =
    goes_on old old new (NoneOrEmpty h) old.may_leave
    (started old (NoneOrEmpty h) sound (λ c left. inl (closed-none c (closed c left)))) stays.time
    (λ c left. inl (closed-none c (closed c left)))

-- what closed the gate, and then a write after it
pub closed-on : (old mid new : Medium) → LeavesOnly old mid (WasOrClosed old) → LeavesOnly mid new IsClosed
    → LeavesOnly old new (WasOrClosed old)
closed-on old mid new first second = joined old mid new (WasOrClosed old) first (weaker mid new IsClosed (WasOrClosed old) second (λ c closed. inr closed))

pub closed-or_empty : (h : SuperHead) (old new : Medium) → LeavesOnly old new (WasOrClosed old)
    → LeavesOnly old new (WasOr old (NoneOrEmpty h))
closed-or_empty h old new run = weaker old new (WasOrClosed old) (WasOr old (NoneOrEmpty h)) run go
  where
    go : (c : List ℕ) → WasOrClosed old c → WasOr old (NoneOrEmpty h) c
    go c (inl left) = inl left
    go c (inr closed) = inr (inl (closed-none c closed))

-- and then what opened it
pub empty-on : (h : SuperHead) (old mid new : Medium) → LeavesOnly old mid (WasOrClosed old)
    → LeavesOnly mid new (NoneOrEmpty h) → LeavesOnly old new (WasOr old (NoneOrEmpty h))
empty-on h old mid new first second = joined old mid new (WasOr old (NoneOrEmpty h)) (closed-or_empty h old mid first)
    (weaker mid new (NoneOrEmpty h) (WasOr old (NoneOrEmpty h)) second (λ c none. inr none))
