-- What closing a segment makes of it.
use Rattle.std.proofs.Common.{◌≡◌, ◌≢◌, inl, inr, ℕ, ◌+◌, ◌≤◌, Bool, true, false, eqb, None, Result, OnOk, List, [], ◌∷◌, length, get_or, refl, sym, ap, ◌∙◌, subst, arith}
use Rattle.std.proofs.lemmas.Result.{on_ok_weaker}
use Rattle.loop_disk.specs.declared.fault.DiskFault.{DiskFault}
use Rattle.loop_disk.specs.Medium.{Medium, with_bytes_at, SameOutside, IsSettled, LeavesOnly}
use Rattle.loop_disk.specs.Steps.{Stores}
use Rattle.loop_disk.proofs.Moments.{stored}
use Rattle.loop_disk.proofs.Images.{get_or-written_there, written_outside, widened}
use Rattle.loop_record.specs.declared.geometry.Geometry.{Geometry}
use Rattle.loop_record.specs.Change.{ShowsSegment}
use Rattle.loop_record.specs.Geometry.{segment_size, segment_at}
use Rattle.loop_record.specs.Layout.{is_open, segment_in}
use Rattle.loop_record.proofs.OwnBytes.{SameWithin}
use Rattle.loop_ring.specs.Writes.{ShowsOrNot}
use Rattle.loop_ring.proofs.Bytes.{shows, same_but_gate, closed_none, some_open}

after_gate : (at n : ℕ) (old c : List ℕ) → SameOutside at 1 old c → SameWithin (at + 1) (at + n) c old
after_gate at n old c s = record { size = s.size; bytes = λ k l h. s.behind k l }

pub retire_torn : (g : Geometry) (j : ℕ) (old c : List ℕ) → g.slots ≤ 256 → segment_in g old j ≢ None
    → SameOutside (segment_at g j) 1 old c → ShowsOrNot g j None old c
retire_torn g j old c few there torn = go (is_open c (segment_at g j)) refl
  where
    wide : SameOutside (segment_at g j) (segment_size g) old c
    wide = widened (segment_at g j) 1 (segment_at g j) (segment_size g) old c torn (omega arith) (omega arith)

    go : (t : Bool) → is_open c (segment_at g j) ≡ t → ShowsOrNot g j None old c
    go true e = inl (shows g j _ old c wide
        (same_but_gate g c old j few (after_gate (segment_at g j) (segment_size g) old c torn)
        (e ∙ sym (some_open g old j there))))
    go false e = inr (shows g j _ old c wide (closed_none g c j e))

pub retire_done : (g : Geometry) (j : ℕ) (old : List ℕ) → segment_at g j + segment_size g ≤ length old
    → ShowsSegment g j None old (with_bytes_at (segment_at g j) (0 ∷ []) old)
retire_done g j old fits =
    let at = segment_at g j in
    let there : at + 0 ≡ at = omega arith in
    let gate : get_or (with_bytes_at at (0 ∷ []) old) at 0 ≡ 0 =
    sym (ap (λ (k : ℕ). get_or (with_bytes_at at (0 ∷ []) old) k 0) there)
    ∙ get_or-written_there at (0 ∷ []) old 0 (omega (arith, fits)) (omega arith) in
    shows g j None old _ (widened at 1 at (segment_size g) old _
    (written_outside at (0 ∷ []) old (omega (arith, fits))) (omega arith) (omega arith))
    (closed_none g _ j (ap (λ (k : ℕ). eqb k 0xA5) gate))

-- ---- what the call says

pub retire_moments : {T : Type 0} (g : Geometry) (j at : ℕ) (old new : Medium) (r : Result T DiskFault)
    → at ≡ segment_at g j → g.slots ≤ 256 → IsSettled old → segment_in g old.bytes j ≢ None
    → Stores at (0 ∷ []) old new r → LeavesOnly old new (ShowsOrNot g j None old.bytes)
retire_moments g j at old new r is few settled there stores =
    stored at (0 ∷ []) old new r _ settled stores (λ c torn. retire_torn g j old.bytes c few there (subst (λ (k : ℕ). SameOutside k 1 old.bytes c) is torn))

pub retire_ok : {T : Type 0} (g : Geometry) (j at : ℕ) (old new : Medium) (r : Result T DiskFault)
    → at ≡ segment_at g j → segment_at g j + segment_size g ≤ length old.bytes
    → Stores at (0 ∷ []) old new r → OnOk r (ShowsSegment g j None old.bytes new.bytes)
retire_ok g j at old new r is fits stores =
    on_ok_weaker r (λ (e : new.bytes ≡ with_bytes_at at (0 ∷ []) old.bytes). subst (ShowsSegment g j None old.bytes)
    (sym (e ∙ ap (λ (k : ℕ). with_bytes_at k (0 ∷ []) old.bytes) is)) (retire_done g j old.bytes fits)) stores.done
