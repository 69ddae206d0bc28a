use Rattle.std.proofs.Common.{◌≡◌, drop}
use Rattle.std.specs.List.{find}
use Rattle.std.specs.Str.{bytes_eq}
use Rattle.loop_record.specs.Geometry.{format_name, format_named, formats}
use Rattle.loop_record.proofs.geometry.PixelFormat.named.Given as goal

-- the format is among those that are left
abbrev pub invariant-loop-format : goal.invariant-loop-format
invariant-loop-format l = format_named l.name ≡ find (λ format. bytes_eq l.name (format_name format)) (drop l.format-index formats)
