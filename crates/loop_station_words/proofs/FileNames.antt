-- Paths that don't end in some bytes.
use Rattle.std.proofs.Common.{◌≡◌, ◌≢◌, ℕ, ◌-◌, List, ◌++◌, false, length, take, drop, sym, subst}
use Rattle.std.proofs.lemmas.Bool.{false_from_ne_true}
use Rattle.std.proofs.lemmas.Slice.Eq.{bytes_eq-Decides}
use Rattle.std.proofs.lemmas.List.{take-append-drop}
use Rattle.loop_station_words.specs.Files.{ends_in}

-- a path that is nothing followed by an end doesn't end in it
pub ends-not : (end path : List ℕ) → ((front : List ℕ) → path ≢ front ++ end) → ends_in end path ≡ false
ends-not end path none =
    let at = length path - length end in
    false_from_ne_true (ends_in end path) (λ yes.
    let same : drop at path ≡ end = (bytes_eq-Decides (drop at path) end).0 yes in
    none (take at path) (subst (λ rest. path ≡ take at path ++ rest) same (sym (take-append-drop at path))))
