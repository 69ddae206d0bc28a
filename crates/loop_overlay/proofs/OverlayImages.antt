-- What the calls of an overlay do to it.
use Rattle.std.proofs.Common.{◌≡◌, inl, inr, ⊎_elim, ℕ, ◌+◌, ◌<◌, ◌≤◌, List, [], ◌∷◌, ◌++◌, length, take, get_or, Ok, refl, sym, ◌∙◌, ap, subst, arith, length-append}
use Rattle.std.proofs.lemmas.Bool.{cases_lt}
use Rattle.std.proofs.lemmas.List.{take_all, take-append-le, take_more}
use Rattle.std.proofs.lemmas.List.Sums.{fold-append}
use Rattle.loop_disk.specs.declared.fault.Failures.{Failures}
use Rattle.loop_disk.specs.Medium.{Medium, SameOutside, TornAt, with_bytes_at}
use Rattle.loop_disk.specs.Calls.{Stays, Syncs, Writes}
use Rattle.loop_disk.proofs.Images.{length-written, written_outside}
use Rattle.loop_overlay.specs.Layers.{LaidWrite, laid, laid_on, overlaid}
use Rattle.loop_overlay.specs.Sound.{length-laid}

-- one write more
pub laid_more : (writes : List LaidWrite) (w : LaidWrite) (image : List ℕ) → laid (writes ++ w ∷ []) image ≡ laid_on
    (laid writes image) w
laid_more writes w image = fold-append laid_on image writes (w ∷ [])

-- one that fits
laid_fits : (writes : List LaidWrite) (w : LaidWrite) (image : List ℕ) → w.at + length w.bytes ≤ length image
    → laid (writes ++ w ∷ []) image ≡ with_bytes_at w.at w.bytes (laid writes image)
laid_fits writes w image fits =
    let size = length-laid writes image in
    laid_more writes w image
    ∙ take_all (length (laid writes image)) (with_bytes_at w.at w.bytes (laid writes image))
    (omega (arith, length-written w.at w.bytes (laid writes image) (omega (arith, fits, size))))

torn_now : (m : Medium) (writes : List LaidWrite) (f : Failures) (at n : ℕ) (c : List ℕ)
    → SameOutside at n (laid writes m.bytes) c → TornAt at n (overlaid m writes f) c
torn_now m writes f at n c outside = (laid writes m.bytes, refl, outside)

-- one more write that fits
pub write_laid : (m : Medium) (writes : List LaidWrite) (f : Failures) (w : LaidWrite)
    → w.at + length w.bytes ≤ length m.bytes
    → Writes {T = Unit {0}} w.at w.bytes (overlaid m writes f) (overlaid m (writes ++ w ∷ []) f) (Ok tt)
write_laid m writes f w fits =
    let now = laid writes m.bytes in
    let n = length w.bytes in
    let done : laid (writes ++ w ∷ []) m.bytes ≡ with_bytes_at w.at w.bytes now = laid_fits writes w m.bytes fits in
    let outside : SameOutside w.at n now (with_bytes_at w.at w.bytes now) = written_outside w.at w.bytes now
    (omega (arith, fits, length-laid writes m.bytes)) in
    let torn : (c : List ℕ) → c ≡ laid (writes ++ w ∷ []) m.bytes → TornAt w.at n (overlaid m writes f) c =
    λ c left. torn_now m writes f w.at n c (subst (λ (l : List ℕ). SameOutside w.at n now l) (sym (left ∙ done)) outside) in
    let longer : length (writes ++ w ∷ []) ≡ length writes + 1 = length-append writes (w ∷ []) in
    let before : (k : ℕ) → k ≤ length writes → laid (take k (writes ++ w ∷ [])) m.bytes ≡ laid (take k writes) m.bytes =
    λ k few. ap (λ (ws : List LaidWrite). laid ws m.bytes) (take-append-le k writes (w ∷ []) few) in record {
      done = done;
      elsewhere = subst (λ (l : List ℕ). SameOutside w.at n now l) (sym done) outside;
      images = torn;
      time = record {
        later = omega (arith, longer);
        nothing_else = λ t c le left. ⊎_elim
            (λ (new : length writes < left.0). inr
            (torn c (left.3 ∙ ap (λ (ws : List LaidWrite). laid ws m.bytes)
            (take_all left.0 (writes ++ w ∷ []) (omega (arith, new, longer))))))
            (λ (old : left.0 ≤ length writes). inl (left.0, left.1, old, left.3 ∙ before left.0 old))
            (cases_lt (length writes) left.0);
      };
      keeps = λ t c le left. (left.0, left.1, omega (arith, left.2, longer), left.3 ∙ sym (before left.0 left.2));
    }

pub synced : (m : Medium) (writes : List LaidWrite) (f : Failures) → Syncs {T = Unit {0}} (overlaid m writes f) (overlaid m writes f) (Ok tt)
synced m writes f = record {
  stays = record {
    bytes = refl;
    images = λ c left. left;
    time =
        record { later = omega arith; nothing_else = λ t c le left. inl left };
    keeps = λ t c le left. left;
  };
  settled = λ c left. left;
}

-- a read of the disk beneath
pub looked : (old new : Medium) (writes : List LaidWrite) (f g : Failures) → Stays old new
    → Stays (overlaid old writes f) (overlaid new writes g)
looked old new writes f g stays =
    let same : (ws : List LaidWrite) → laid ws new.bytes ≡ laid ws old.bytes = λ ws. ap (λ (l : List ℕ). laid ws l) stays.bytes in record {
      bytes = same writes;
      images = λ c left. left ∙ same writes;
      time = record { later = omega arith; nothing_else = λ t c le left. inl (left.0, left.1, left.2, left.3 ∙ same (take left.0 writes)) };
      keeps = λ t c le left. (left.0, left.1, left.2, left.3 ∙ sym (same (take left.0 writes)));
    }

-- the next write of some
pub laid_next : (writes : List LaidWrite) (i : ℕ) (w : LaidWrite) (image : List ℕ) → i < length writes
    → w ≡ get_or writes i w
    → laid (take (i + 1) writes) image ≡ laid_on (laid (take i writes) image) w
laid_next writes i w image within is =
    ap (λ (ws : List LaidWrite). laid ws image) (take_more writes i w within ∙ ap (λ (v : LaidWrite). take i writes ++ v ∷ []) (sym is))
    ∙ laid_more (take i writes) w image
