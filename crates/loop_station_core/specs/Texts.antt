-- The steps by which a text gets its name.
use Rattle.std.specs.Prelude.{Bool, true, false, List, [], ◌∷◌, if◌then◌else◌}
use Rattle.loop_station_core.specs.declared.text.TextStep.{TextStep}
use Rattle.loop_station_core.specs.declared.text.TextStep.TheVariants.{SyncText, Name, SyncName, Unname, Saved, NotSaved}

-- what follows a step that failed: a new name is removed, and one that replaced another stays
abbrev pub refused_step : TextStep → Bool → TextStep
refused_step SyncName false = Unname
refused_step _ _ = NotSaved

-- what follows a step that came through, or failed
abbrev pub next_step : TextStep → Bool → Bool → TextStep
next_step Saved done replaces = Saved
next_step NotSaved done replaces = NotSaved
next_step SyncText done replaces = if done then Name else refused_step SyncText replaces
next_step Name done replaces = if done then SyncName else refused_step Name replaces
next_step SyncName done replaces = if done then Saved else refused_step SyncName replaces
next_step Unname done replaces = if done then NotSaved else refused_step Unname replaces

-- after steps that came through or failed, one after the other
abbrev pub after_steps : TextStep → Bool → List Bool → TextStep
after_steps step replaces [] = step
after_steps step replaces (done ∷ rest) = after_steps (next_step step done replaces) replaces rest

-- the text is on the disk after the first of some steps, its name is given by the second, and kept by the third
abbrev pub AllThreeCame : List Bool → Type 0
AllThreeCame (true ∷ true ∷ true ∷ rest) = Unit {0}
AllThreeCame _ = ⊥

-- the text is on the disk after the first of some steps
abbrev pub FirstCame : List Bool → Type 0
FirstCame (true ∷ rest) = Unit {0}
FirstCame _ = ⊥
