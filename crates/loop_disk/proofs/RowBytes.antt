-- Rows put in their places, one after the other.
use Rattle.std.proofs.lemmas.Bool.{cases_lt}
use Rattle.std.proofs.Common.{◌≡◌, ◌⊎◌, inl, inr, ℕ, ◌+◌, ◌-◌, ◌<◌, ◌≤◌, List, [], ◌∷◌, ◌++◌, length, take, drop, Result, Ok, IsErr, sym, ◌∙◌, ap, arith, length-append}
use Rattle.std.proofs.lemmas.List.{append_assoc, append-nil, drop-drop, length-take-le, take-append-drop, take-append-le, take_all}
use Rattle.std.proofs.Math.Seq.{take-append_seam, take-append-add, drop-append-add}
use Rattle.std.specs.Borrow.{Bor}
use Rattle.loop_disk.specs.declared.fault.DiskFault.{DiskFault}
use Rattle.loop_disk.specs.Medium.{Medium, with_bytes_at}
use Rattle.loop_disk.specs.Failing.{Tears}
use Rattle.loop_disk.specs.Rows.{joined}
use Rattle.loop_disk.proofs.TornWrites.{tears_failed, tears_same, tears_then, tears_within}

-- of no bytes nothing is written
pub written_none : (at : ℕ) (image : List ℕ) → with_bytes_at at [] image ≡ image
written_none at image =
    ap (λ (k : ℕ). take at image ++ [] ++ drop k image) (omega arith)
    ∙ (λ i. append-nil (take at image) i ++ drop at image) ∙ take-append-drop at image

-- the bytes of one row and of those after it
pub written_on : (at : ℕ) (front others image : List ℕ) → at + length front ≤ length image
    → with_bytes_at (at + length front) others (with_bytes_at at front image) ≡ with_bytes_at at (front ++ others) image
written_on at front others image fits =
    (λ i. before i ++ others ++ behind i)
    ∙ (λ i. append_assoc (take at image) front others i ++ drop (place i) image)
  where
    done : List ℕ
    done = take at image ++ front

    long : length done ≡ at + length front
    long = omega (arith, length-append (take at image) front, length-take-le at image (omega (arith, fits)))

    rest : List ℕ
    rest = drop (at + length front) image

    before : take (at + length front) (done ++ rest) ≡ done
    before = ap (λ (k : ℕ). take k (done ++ rest)) (sym long) ∙ take-append_seam done rest

    behind : drop (at + length front + length others) (done ++ rest) ≡ drop (at + length front + length others) image
    behind = ap (λ (k : ℕ). drop (k + length others) (done ++ rest)) (sym long)
        ∙ drop-append-add done rest (length others) ∙ drop-drop (length others) (at + length front) image

    place : at + length front + length others ≡ at + length (front ++ others)
    place = omega (arith, length-append front others)

-- the first `keep` bytes of one row and of those after it
pub kept_on : (at keep : ℕ) (front others image : List ℕ) → at + length front ≤ length image
    → with_bytes_at (at + length front) (take (keep - length front) others) (with_bytes_at at (take keep front) image)
    ≡ with_bytes_at at (take keep (front ++ others)) image
kept_on at keep front others image fits = go (cases_lt keep (length front))
  where
    go : (keep < length front) ⊎ (length front ≤ keep)
        → with_bytes_at (at + length front) (take (keep - length front) others) (with_bytes_at at (take keep front) image)
        ≡ with_bytes_at at (take keep (front ++ others)) image
    go (inl short) =
        let gone : keep - length front ≡ 0 = omega (arith, short) in
        ap (λ (k : ℕ). with_bytes_at (at + length front) (take k others) (with_bytes_at at (take keep front) image)) gone
        ∙ written_none (at + length front) (with_bytes_at at (take keep front) image)
        ∙ sym (ap (λ (l : List ℕ). with_bytes_at at l image) (take-append-le keep front others (omega (arith, short))))
    go (inr long) =
        let whole : take keep front ≡ front = take_all keep front long in
        let both : front ++ take (keep - length front) others ≡ take keep (front ++ others) =
        sym (take-append-add front others (keep - length front))
        ∙ ap (λ (k : ℕ). take k (front ++ others)) (omega (arith, long)) in
        ap (λ (l : List ℕ). with_bytes_at (at + length front) (take (keep - length front) others) (with_bytes_at at l image)) whole
        ∙ written_on at front (take (keep - length front) others) image fits
        ∙ ap (λ (l : List ℕ). with_bytes_at at l image) both

-- rows have as many bytes as the first and the others
pub counted : (rows : List (Bor (List ℕ))) (first : Bor (List ℕ)) (others : List (Bor (List ℕ)))
    → rows ≡ first ∷ others → length (joined rows) ≡ length first.now + length (joined others)
counted rows first others is =
    ap (λ (l : List (Bor (List ℕ))). length (joined l)) is ∙ length-append first.now (joined others)

-- a write of rows is one of the first, and then one of the others
pub rows_written : (at : ℕ) (rows : List (Bor (List ℕ))) (first : Bor (List ℕ)) (others : List (Bor (List ℕ)))
    (image mid new : List ℕ) → rows ≡ first ∷ others → at + length (joined rows) ≤ length image
    → mid ≡ with_bytes_at at first.now image → new ≡ with_bytes_at (at + length first.now) (joined others) mid
    → new ≡ with_bytes_at at (joined rows) image
rows_written at rows first others image mid new is fits one two =
    two ∙ ap (λ (l : List ℕ). with_bytes_at (at + length first.now) (joined others) l) one
    ∙ written_on at first.now (joined others) image (omega (arith, fits, counted rows first others is))
    ∙ sym (ap (λ (l : List (Bor (List ℕ))). with_bytes_at at (joined l) image) is)

-- a torn write of rows is one of the first, and then one of the others
pub rows_torn : {T : Type 0} (at keep left : ℕ) (rows : List (Bor (List ℕ))) (first : Bor (List ℕ))
    (others : List (Bor (List ℕ))) (old mid new : Medium) (x : Unit {0}) (r : Result T DiskFault)
    → rows ≡ first ∷ others → left ≡ keep - length first.now → at + length (joined rows) ≤ length old.bytes
    → Tears at (length first.now) (with_bytes_at at (take keep first.now) old.bytes) old mid (Ok x)
    → Tears (at + length first.now) (length (joined others))
    (with_bytes_at (at + length first.now) (take left (joined others)) mid.bytes) mid new r
    → Tears at (length (joined rows)) (with_bytes_at at (take keep (joined rows)) old.bytes) old new r
rows_torn at keep left rows first others old mid new x r is less fits one two =
    let n = length first.now in
    let m = length (joined others) in
    let count = counted rows first others is in
    let all : List ℕ = with_bytes_at (at + n) (take left (joined others)) mid.bytes in
    tears_same at (length (joined rows)) all (with_bytes_at at (take keep (joined rows)) old.bytes) old new r
    ((λ i. with_bytes_at (at + n) (take (less i) (joined others)) (one.done i))
    ∙ kept_on at keep first.now (joined others) old.bytes (omega (arith, fits, count))
    ∙ sym (ap (λ (l : List (Bor (List ℕ))). with_bytes_at at (take keep (joined l)) old.bytes) is))
    (tears_then at (length (joined rows)) (with_bytes_at at (take keep first.now) old.bytes) all old mid new x r
    (tears_within at n at (length (joined rows)) (with_bytes_at at (take keep first.now) old.bytes) old mid (Ok x)
    (omega arith) (omega (arith, count)) one)
    (tears_within (at + n) m at (length (joined rows)) all mid new r (omega arith) (omega (arith, count)) two))

-- the first of the rows couldn't be written
pub first_failed : {T U : Type 0} (at : ℕ) (rows : List (Bor (List ℕ))) (first : Bor (List ℕ))
    (others : List (Bor (List ℕ))) (bytes other : List ℕ) (old new : Medium) (r : Result T DiskFault)
    (failed : Result U DiskFault) → rows ≡ first ∷ others → IsErr failed
    → Tears at (length first.now) bytes old new r → Tears at (length (joined rows)) other old new failed
first_failed at rows first others bytes other old new r failed is err tears =
    tears_failed at (length (joined rows)) bytes other old new r failed err
    (tears_within at (length first.now) at (length (joined rows)) bytes old new r (omega arith)
    (omega (arith, counted rows first others is)) tears)
