-- What the words after the program's name mean.
use Rattle.std.specs.Prelude.{ℕ, ◌==◌, ◌&&◌, List, [], ◌∷◌, Option, Some, None, option_map, if◌then◌else◌, codes}
use Rattle.std.specs.List.{after_first, before_first, list_any}
use Rattle.std.specs.Option.{option_zip}
use Rattle.std.specs.Str.{bytes_eq}
use denote.Ref.{Bor}
use Rattle.loop_script.specs.declared.task.FileCommand.{FileCommand}
use Rattle.loop_script.specs.declared.task.FileCommand.TheVariants.{Export, Format, List as ListAll, Lock, Unlock, Upgrade}
use Rattle.loop_script.specs.declared.task.Task.{Task}
use Rattle.loop_script.specs.declared.task.Task.TheVariants.{OnFile, Record, Simulate}
use Rattle.loop_record.specs.Geometry.{format_named}
use Rattle.loop_script.specs.Script.{geometry_of, number, rate_said, small_number, span_of}

-- what a name and the words after the path of a file ask for
abbrev pub on_file_said : List ℕ → List (Bor (List ℕ)) → Option FileCommand
on_file_said name [] =
    if bytes_eq name (codes "list") then Some ListAll
    else if bytes_eq name (codes "upgrade") then Some Upgrade else None
on_file_said name (id ∷ []) = if bytes_eq name (codes "unlock") then option_map Unlock (small_number id.now) else None
on_file_said name (from ∷ to ∷ []) =
    if bytes_eq name (codes "lock") then option_map Lock (span_of (number from.now) (number to.now) (Some 0)) else None
on_file_said name (from ∷ to ∷ third ∷ []) =
    if bytes_eq name (codes "lock") then option_map Lock (span_of (number from.now) (number to.now) (number third.now))
    else if bytes_eq name (codes "export") then option_map (λ range. Export range.0 range.1 third)
    (option_zip (number from.now) (number to.now)) else None
on_file_said name (width ∷ height ∷ format ∷ rate ∷ segments ∷ slots ∷ []) =
    if bytes_eq name (codes "format") then option_map Format
    (geometry_of (small_number width.now) (small_number height.now) (format_named format.now)
    (rate_said rate.now) (small_number segments.now) (small_number slots.now)) else None
on_file_said name _ = None

-- what a name other than `record` and the words after it ask for
abbrev pub other_said : List ℕ → List (Bor (List ℕ)) → Option Task
other_said name [] = if bytes_eq name (codes "simulate") then Some Simulate else None
other_said name (path ∷ words) = option_map (OnFile path) (on_file_said name words)

-- what follows `keep=` in a word that begins with it
abbrev pub keep_value : List ℕ → Option (List ℕ)
keep_value word =
    if list_any (λ b. b == 61) word && bytes_eq (before_first (λ b. b == 61) word) (codes "keep")
    then Some (after_first (λ b. b == 61) word) else None

-- the task of a count, a source, how many blocks are kept, and one path or more, if each of them is there
abbrev pub recording_named : Option ℕ → Bor (List ℕ) → Option ℕ → List (Bor (List ℕ)) → Option Task
recording_named (Some frames) source (Some keep) (path ∷ paths) =
    Some (Record (record { frames = frames; source = source; keep = keep; paths = path ∷ paths }))
recording_named frames source keep paths = None

-- the task of a count, a source and paths, with or without a word before the paths that says how many blocks are kept
abbrev pub recording_kept
    : Option ℕ → Bor (List ℕ) → Option (List ℕ) → Bor (List ℕ) → List (Bor (List ℕ)) → Option Task
recording_kept frames source None path paths = recording_named frames source (Some 1) (path ∷ paths)
recording_kept frames source (Some value) word paths = recording_named frames source (small_number value) paths

-- what the words after a source ask for
abbrev pub kept_said : Option ℕ → Bor (List ℕ) → List (Bor (List ℕ)) → Option Task
kept_said frames source [] = None
kept_said frames source (first ∷ more) = recording_kept frames source (keep_value first.now) first more

-- what the words after `record` ask for: a count, a source, how many blocks are kept, which may be left out, and one
-- path or more
abbrev pub recording_said : List (Bor (List ℕ)) → Option Task
recording_said (count ∷ source ∷ more) = kept_said (small_number count.now) source more
recording_said _ = None

-- what a name and the words after it ask for, if they can be read
abbrev pub task_said : List ℕ → List (Bor (List ℕ)) → Option Task
task_said name words =
    if bytes_eq name (codes "record") then recording_said words else other_said name words
