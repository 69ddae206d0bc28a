-- A disk in memory is sound.
use Rattle.std.proofs.Common.{inl, ⊎_elim, ℕ, ◌+◌, ◌≤◌, List, [], ◌∷◌, length, refl, arith}
use Rattle.loop_disk.specs.declared.fault.Failures.{Failures}
use Rattle.loop_disk.specs.Medium.{Medium, IsSound}
use Rattle.loop_disk.specs.History.{Moment, IsLeft, IsLeftSince, medium_of}

-- no moment is later than the present one
left_by : (moments : List Moment) (t : ℕ) (c : List ℕ) → IsLeftSince moments t c → t + 1 ≤ length moments
left_by [] t c left = absurd left
left_by (m ∷ earlier) t c left = ⊎_elim
    (λ (now : (t ≤ length earlier) × IsLeft m c). omega (arith, now.0))
    (λ (before : IsLeftSince earlier t c). omega (arith, left_by earlier t c before))
    left

left_last : (now : Moment) (earlier : List Moment) (c : List ℕ) → IsLeftSince (now ∷ earlier) (length earlier) c
    → IsLeft now c
left_last now earlier c left = ⊎_elim
    (λ (here : (length earlier ≤ length earlier) × IsLeft now c). here.1)
    (λ (before : IsLeftSince earlier (length earlier) c).
    let past : length earlier + 1 ≤ length earlier = left_by earlier (length earlier) c before in
    absurd (omega (arith, past)))
    left

pub sound_of : (failures : Failures) (now : Moment) (earlier : List Moment) → IsSound (medium_of failures now earlier)
sound_of failures now earlier = record {
  length_is = refl;
  images_length = λ c left. left.size;
  present = record { size = refl; kept = λ i fixed. refl };
  shown = refl;
  counts_now = λ t c le left. inl (le, left);
  only_now = λ c left. left_last now earlier c left;
}

-- so is a disk over a sound one, whatever calls have failed
pub sound_recounted : (m : Medium) (failures : Failures) → IsSound m → IsSound (record m { failures = failures })
sound_recounted m failures sound = record {
  length_is = sound.length_is;
  images_length = sound.images_length;
  present = sound.present;
  shown = sound.shown;
  counts_now = sound.counts_now;
  only_now = sound.only_now;
}
