-- A write laid over a part of an image.
use Rattle.std.proofs.Common.{◌≡◌, ◌⊎◌, ⊎_elim, ℕ, ◌+◌, ◌-◌, ◌<◌, ◌≤◌, min, List, ◌++◌, length, take, get_or, sym, ◌∙◌, ap, arith, length-append, length-take}
use Rattle.std.proofs.lemmas.Bool.{cases_lt}
use Rattle.std.proofs.lemmas.List.{ext_get_or, get_or-take, get_or_append_left}
use Rattle.loop_disk.specs.Medium.{piece, with_bytes_at}
use Rattle.loop_disk.proofs.Images.{length-piece, length-written, get_or-piece, get_or-written_there, get_or-written_before, get_or-written_behind, same_piece}
use Rattle.loop_overlay.specs.Layers.{LaidWrite, laid_on}
use Rattle.loop_overlay.specs.Sound.{length-laid_on}
use Rattle.loop_overlay.specs.Parts.{IsBufferOf}

-- a byte before the write
laid_before : (image : List ℕ) (w : LaidWrite) (i : ℕ) → i < length image → i < w.at
    → get_or (laid_on image w) i 0 ≡ get_or image i 0
laid_before image w i within before =
    let front : length (take w.at image) ≡ min w.at (length image) = length-take w.at image in
    get_or-take (length image) (with_bytes_at w.at w.bytes image) i 0 within
    ∙ get_or_append_left (take w.at image ++ w.bytes) _ 0 i (omega (arith, within, before, front, length-append (take w.at image) w.bytes))
    ∙ get_or_append_left (take w.at image) w.bytes 0 i (omega (arith, within, before, front))
    ∙ get_or-take w.at image i 0 before

-- a byte of the write
laid_there : (image : List ℕ) (w : LaidWrite) (i : ℕ) → i < length image → w.at ≤ i → i < w.at + length w.bytes
    → get_or (laid_on image w) i 0 ≡ get_or w.bytes (i - w.at) 0
laid_there image w i within from to =
    get_or-take (length image) (with_bytes_at w.at w.bytes image) i 0 within
    ∙ ap (λ (k : ℕ). get_or (with_bytes_at w.at w.bytes image) k 0) (omega (arith, from))
    ∙ get_or-written_there w.at w.bytes image (i - w.at) (omega (arith, within, from)) (omega (arith, from, to))

-- a byte after the write
laid_behind : (image : List ℕ) (w : LaidWrite) (i : ℕ) → i < length image → w.at + length w.bytes ≤ i
    → get_or (laid_on image w) i 0 ≡ get_or image i 0
laid_behind image w i within behind =
    get_or-take (length image) (with_bytes_at w.at w.bytes image) i 0 within
    ∙ get_or-written_behind w.at w.bytes image i (omega (arith, within, behind)) behind

-- a byte from `at` on, where the write has none from there on
laid_beyond : (at : ℕ) (image : List ℕ) (w : LaidWrite) (i : ℕ) → i < length image → at ≤ i
    → length w.bytes ≤ at - w.at → get_or (laid_on image w) i 0 ≡ get_or image i 0
laid_beyond at image w i within low behind = ⊎_elim
    (λ (before : i < w.at). laid_before image w i within before)
    (λ (past : w.at ≤ i). laid_behind image w i within (omega (arith, past, low, behind)))
    (cases_lt i w.at)

-- a write that touches no byte of the part
pub part_outside : (at to from : ℕ) (image buf : List ℕ) (w : LaidWrite) → to ≡ w.at - at → from ≡ at - w.at
    → (length buf ≤ to) ⊎ (length w.bytes ≤ from) → IsBufferOf at image buf → IsBufferOf at (laid_on image w) buf
part_outside at to from image buf w to_is from_is outside part =
    let same : (i : ℕ) → at ≤ i → i < at + length buf → get_or (laid_on image w) i 0 ≡ get_or image i 0 = λ i low high. ⊎_elim
    (λ (before : length buf ≤ to). laid_before image w i (omega (arith, high, part.fits)) (omega (arith, low, high, before, to_is)))
    (λ (behind : length w.bytes ≤ from). laid_beyond at image w i (omega (arith, high, part.fits)) low (omega (arith, behind, from_is)))
    outside in record {
      fits = omega (arith, part.fits, length-laid_on image w);
      same = part.same ∙ sym (same_piece at (length buf) image (laid_on image w) (length-laid_on image w) same);
    }

-- the bytes that the write has in the part, written over it
pub part_laid : (at to from count : ℕ) (image buf : List ℕ) (w : LaidWrite) → to ≡ w.at - at → from ≡ at - w.at
    → count ≡ min (length buf - to) (length w.bytes - from)
    → to < length buf → from < length w.bytes → IsBufferOf at image buf → IsBufferOf at (laid_on image w) (with_bytes_at to (piece from count w.bytes) buf)
part_laid at to from count image buf w to_is from_is count_is inside has part =
    let laid_bytes = piece from count w.bytes in
    let n = length buf in
    let many : length laid_bytes ≡ count = omega (arith, length-piece from count w.bytes, count_is, has) in
    let room : to + length laid_bytes ≤ n = omega (arith, many, count_is, inside) in
    let long : length (with_bytes_at to laid_bytes buf) ≡ n = length-written to laid_bytes buf room in
    let size = length-laid_on image w in
    let whole : length (piece at n (laid_on image w)) ≡ n = omega (arith, length-piece at n (laid_on image w), size, part.fits) in
    let held : (i : ℕ) → i < n → get_or buf i 0 ≡ get_or image (at + i) 0 =
    λ i within. ap (λ (l : List ℕ). get_or l i 0) part.same ∙ get_or-piece at n image i within in
    let each : (i : ℕ) → i < n → get_or (with_bytes_at to laid_bytes buf) i 0 ≡ get_or (laid_on image w) (at + i) 0 = λ i within.
    let far : at + i < length image = omega (arith, within, part.fits) in
    ⊎_elim
    (λ (below : i < to).
    get_or-written_before to laid_bytes buf i (omega (arith, inside)) below
    ∙ held i within
    ∙ sym (laid_before image w (at + i) far (omega (arith, below, to_is))))
    (λ (above : to ≤ i).
    ⊎_elim
    (λ (there : i < to + count).
    ap (λ (k : ℕ). get_or (with_bytes_at to laid_bytes buf) k 0) (omega (arith, above))
    ∙ get_or-written_there to laid_bytes buf (i - to) (omega (arith, inside)) (omega (arith, above, there, many))
    ∙ get_or-piece from count w.bytes (i - to) (omega (arith, above, there))
    ∙ ap (λ (k : ℕ). get_or w.bytes k 0) (omega (arith, above, to_is, from_is, inside, has))
    ∙ sym (laid_there image w (at + i) far (omega (arith, above, to_is)) (omega (arith, there, to_is, from_is, count_is, has, above))))
    (λ (past : to + count ≤ i).
    get_or-written_behind to laid_bytes buf i (omega (arith, inside)) (omega (arith, past, many))
    ∙ held i within
    ∙ sym (laid_behind image w (at + i) far (omega (arith, past, within, to_is, from_is, count_is, has))))
    (cases_lt i (to + count)))
    (cases_lt i to) in record {
      fits = omega (arith, long, size, part.fits);
      same = ext_get_or 0 _ _ (omega (arith, long, size, part.fits, length-piece at (length (with_bytes_at to laid_bytes buf)) (laid_on image w)))
          (λ i within.
          let inside : i < n = omega (arith, within, long) in
          each i inside ∙ sym (get_or-piece at (length (with_bytes_at to laid_bytes buf)) (laid_on image w) i within));
    }
