-- Three calls of a crash disk, one after the other, and what a crash leaves after them.
use Rattle.std.proofs.Common.{◌≡◌, ℕ, List, [], ◌∷◌, ◌++◌, replicate, take, get_or, refl, ap, subst, ◌∙◌}
use Rattle.loop_disk.specs.Calls.{no_failures}
use Rattle.loop_disk.specs.Crashing.{IsSpoiled, Tape, moment_after}
use Rattle.loop_disk.specs.declared.crash.DeviceCall.{DeviceCall}
use Rattle.loop_disk.specs.declared.crash.DeviceCall.TheVariants as call
use Rattle.loop_disk.specs.declared.crash.Spoil.{Spoil}

-- a tape with one more call
abbrev pub with_call : DeviceCall (List ℕ) → Tape → Tape
with_call c tape = record tape { calls = tape.calls ++ c ∷ [] }

-- six bytes of zero, and these calls
abbrev pub tape_of : List (DeviceCall (List ℕ)) → Tape
tape_of calls = record { start = replicate 6 0; calls = calls; failures = no_failures }

pub three_calls : {a b c d : Tape} {x y z : DeviceCall (List ℕ)} → a ≡ tape_of [] → b ≡ with_call x a
    → c ≡ with_call y b → d ≡ with_call z c → d ≡ tape_of (x ∷ y ∷ z ∷ [])
three_calls {x = x} {y = y} {z = z} first second third last =
    last ∙ ap (with_call z) (third ∙ ap (with_call y) (second ∙ ap (with_call x) first))

-- two bytes that were synced, and one that is after those written since
pub bytes_kept : {tape : Tape} (s : Spoil) (image : List ℕ)
    → tape ≡ tape_of (call.Write 1 (7 ∷ 8 ∷ []) ∷ call.Sync ∷ call.Write 3 (9 ∷ []) ∷ [])
    → IsSpoiled s (moment_after tape.start (take 3 tape.calls)) image
    → (get_or image 1 0 ≡ 7) × (get_or image 2 0 ≡ 8) × (get_or image 4 0 ≡ 0)
bytes_kept s image is h =
    let same = ap (λ (t : Tape). moment_after t.start (take 3 t.calls)) is in
    let left = subst (λ m. IsSpoiled s m image) same h in
    (left.left.kept 1 refl, left.left.kept 2 refl, left.left.kept 4 refl)
