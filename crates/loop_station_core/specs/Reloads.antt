-- What becomes of each camera where the configuration is read anew.
use Rattle.std.specs.Prelude.{◌≡◌, ◌≢◌, ℕ, ◌==◌, Bool, true, false, Option, Some, None, is_some, if◌then◌else◌}
use Rattle.loop_station_core.specs.declared.reload.Fate.{Fate}
use Rattle.loop_station_core.specs.declared.reload.Fate.TheVariants.{Nothing, GoesOn, Ends, Starts, Changes}

-- a camera that runs goes on where the configuration is refused, or has the same words for it
abbrev pub fate_of : Bool → Option ℕ → Option ℕ → Fate
fate_of refused None None = Nothing
fate_of refused None (Some said) = if refused then Nothing else Starts
fate_of refused (Some runs) None = if refused then GoesOn else Ends
fate_of refused (Some runs) (Some said) = if refused then GoesOn else if runs == said then GoesOn else Changes

-- by which words it records after that
abbrev pub runs_after : Fate → Option ℕ → Option ℕ → Option ℕ
runs_after Nothing runs said = runs
runs_after GoesOn runs said = runs
runs_after Ends runs said = None
runs_after Starts runs said = said
runs_after Changes runs said = said

-- one ends
abbrev pub ends_one : Fate → Bool
ends_one Ends = true
ends_one Changes = true
ends_one _ = false

-- one begins
abbrev pub starts_one : Fate → Bool
starts_one Starts = true
starts_one Changes = true
starts_one _ = false

-- A configuration that is refused changes nothing: no camera ends, and none begins.
abbrev pub RefusedReloadsChangeNothing : Type 0
RefusedReloadsChangeNothing = (runs said : Option ℕ) → let fate = fate_of true runs said in
    (runs_after fate runs said ≡ runs) × (ends_one fate ≡ false) × (starts_one fate ≡ false)

-- After any other, cameras record by its words. Those that had the same words have neither ended nor begun; of the
-- others each one that recorded has ended, and each one that it names has begun.
abbrev pub ReloadsAreFollowed : Type 0
ReloadsAreFollowed = (runs said : Option ℕ) → let fate = fate_of false runs said in
    (runs_after fate runs said ≡ said)
    × (runs ≡ said → (ends_one fate ≡ false) × (starts_one fate ≡ false))
    × (runs ≢ said → (ends_one fate ≡ is_some runs) × (starts_one fate ≡ is_some said))
