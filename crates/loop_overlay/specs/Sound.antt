-- A disk that shows writes over another is sound where that one is.
use Rattle.std.proofs.Common.{◌≡◌, ℕ, ◌+◌, ◌≤◌, List, [], ◌∷◌, ◌++◌, length, take, drop, refl, sym, ◌∙◌, ap, arith, length-append, length-take, length-drop}
use Rattle.std.proofs.lemmas.List.{take_all}
use Rattle.loop_disk.specs.declared.fault.Failures.{Failures}
use Rattle.loop_disk.specs.Medium.{IsSound, Medium, with_bytes_at}
use Rattle.loop_overlay.specs.Layers.{LaidWrite, laid, laid_on, overlaid}

pub length-laid_on : (image : List ℕ) (w : LaidWrite) → length (laid_on image w) ≡ length image
length-laid_on image w =
    let end = w.at + length w.bytes in
    let front = length-append (take w.at image) w.bytes in
    let whole = length-append (take w.at image ++ w.bytes) (drop end image) in
    let cut = length-take (length image) (with_bytes_at w.at w.bytes image) in
    omega (arith, cut, whole, front, length-take w.at image, length-drop end image)

pub length-laid : (writes : List LaidWrite) (image : List ℕ) → length (laid writes image) ≡ length image
length-laid [] image = refl
length-laid (w ∷ writes) image = length-laid writes (laid_on image w) ∙ length-laid_on image w

pub sound_overlaid : (m : Medium) (writes : List LaidWrite) (failures : Failures) → IsSound m
    → IsSound (overlaid m writes failures)
sound_overlaid m writes failures sound =
    let whole : length (laid writes m.bytes) ≡ m.size = length-laid writes m.bytes ∙ sound.length_is in
    let all : (k : ℕ) → length writes ≤ k → laid (take k writes) m.bytes ≡ laid writes m.bytes =
    λ k many. ap (λ (ws : List LaidWrite). laid ws m.bytes) (take_all k writes many) in record {
      length_is = whole;
      images_length = λ c left. ap (λ (l : List ℕ). length l) left ∙ whole;
      present = refl;
      shown = record { base = m.bytes; may = record { size = sound.length_is; agrees = sound.shown }; is = refl };
      counts_now = λ t c le left. (length writes, le, omega arith, left ∙ sym (all (length writes) (omega arith)));
      only_now = λ c left. left.3 ∙ all left.0 left.1;
    }
