-- What a buffer gets from a disk.
use Rattle.std.proofs.Common.{◌≡◌, ⊎_elim, ℕ, ◌+◌, ◌-◌, ◌<◌, ◌≤◌, List, ◌++◌, length, take, drop, get_or, sym, ◌∙◌, ap, arith, length-append, length-take, length-drop}
use Rattle.std.proofs.lemmas.Bool.{cases_lt}
use Rattle.std.proofs.lemmas.List.{ext_get_or, get_or-take, get_or_append_left, get_or-append_right, length-take-le}
use Rattle.loop_disk.specs.Medium.{piece}
use Rattle.loop_disk.proofs.Images.{length-piece, get_or-piece}
use Rattle.loop_file.specs.Windows.{IsCopy}

-- a buffer whose first bytes were known, and whose rest was read
pub read_on : (at k n : ℕ) (image given rest : List ℕ) → k ≤ n → length given ≡ n → at + n ≤ length image
    → IsCopy at k image given
    → rest ≡ piece (at + k) (length (take (length given - k) (drop k given))) image
    → take k given ++ (rest ++ drop (length given - k) (drop k given)) ≡ piece at n image
read_on at k n image given rest few long fits known read =
    let m = length (take (length given - k) (drop k given)) in
    let tail = drop (length given - k) (drop k given) in
    let left : m ≡ n - k = omega (arith, few, long, length-take (length given - k) (drop k given), length-drop k given) in
    let many : length rest ≡ n - k = omega (arith, ap (λ (l : List ℕ). length l) read, length-piece (at + k) m image, left, few, fits) in
    let whole : length (piece at n image) ≡ n = omega (arith, length-piece at n image, fits) in
    ext_get_or 0 (take k given ++ (rest ++ tail)) (piece at n image)
    (omega (
      arith,
      whole,
      few,
      long,
      many,
      length-append (take k given) (rest ++ tail),
      length-append rest tail,
      length-take k given,
      length-drop (length given - k) (drop k given),
      length-drop k given,
    ))
    (λ i within.
    let inside : i < n = omega (
      arith,
      within,
      few,
      long,
      many,
      length-append (take k given) (rest ++ tail),
      length-append rest tail,
      length-take k given,
      length-drop (length given - k) (drop k given),
      length-drop k given,
    ) in
    ⊎_elim
    (λ (below : i < k).
    get_or_append_left (take k given) (rest ++ tail) 0 i (omega (arith, below, few, long, length-take k given))
    ∙ get_or-take k given i 0 below
    ∙ known i below
    ∙ sym (get_or-piece at n image i inside))
    (λ (above : k ≤ i).
    get_or-append_right (take k given) (rest ++ tail) k i 0 (length-take-le k given (omega (arith, few, long))) above
    ∙ get_or_append_left rest tail 0 (i - k) (omega (arith, above, inside, many))
    ∙ ap (λ (l : List ℕ). get_or l (i - k) 0) read
    ∙ get_or-piece (at + k) m image (i - k) (omega (arith, above, inside, left))
    ∙ ap (λ (j : ℕ). get_or image j 0) (omega (arith, above))
    ∙ sym (get_or-piece at n image i inside))
    (cases_lt i k))
