-- What the configuration says of a camera whose blocks are all locked.
use Rattle.std.specs.Prelude.{ℕ, List, Option, Some, None, option_map, if◌then◌else◌, codes}
use Rattle.std.specs.Str.{bytes_eq}
use Rattle.toml.specs.Data.{Data, string}
use Rattle.loop_script.specs.Script.{number}
use Rattle.loop_station_words.specs.Cuts.{cut}
use Rattle.loop_station_words.specs.declared.choices.WhenFull.{WhenFull}
use Rattle.loop_station_words.specs.declared.choices.WhenFull.TheVariants.{ReleaseOldest, ReleaseSaved, Stop}

-- `tag N`, cut at its space
abbrev pub rule_tag : Option (List ℕ × List ℕ) → Option WhenFull
rule_tag None = None
rule_tag (Some parts) = if bytes_eq parts.0 (codes "tag")
    then option_map (λ tag. ReleaseOldest (Some tag)) (number parts.1) else None

-- `oldest tag N`, cut at its first space
abbrev pub rule_oldest : Option (List ℕ × List ℕ) → Option WhenFull
rule_oldest None = None
rule_oldest (Some parts) = if bytes_eq parts.0 (codes "oldest") then rule_tag (cut 32 parts.1) else None

-- `release oldest tag N`, cut at its first space
abbrev pub rule_release : Option (List ℕ × List ℕ) → Option WhenFull
rule_release None = None
rule_release (Some parts) = if bytes_eq parts.0 (codes "release") then rule_oldest (cut 32 parts.1) else None

-- `stop`, `release saved`, `release oldest` or `release oldest tag N`
abbrev pub rule_said : List ℕ → Option WhenFull
rule_said text =
    if bytes_eq text (codes "stop") then Some Stop
    else if bytes_eq text (codes "release saved") then Some ReleaseSaved
    else if bytes_eq text (codes "release oldest") then Some (ReleaseOldest None)
    else rule_release (cut 32 text)

-- what is done where every block is locked, if the key is there
abbrev pub rule_of : Option Data → Option (Option WhenFull)
rule_of None = Some None
rule_of (Some (string text)) = option_map (λ rule. Some rule) (rule_said text)
rule_of _ = None
