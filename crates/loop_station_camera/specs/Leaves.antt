-- The clip that leave to unlock is for, as a desk has it.
use Rattle.std.specs.Prelude.{ℕ, ◌%◌}
use Rattle.loop_record.specs.declared.clip.Span.{Span}
use Rattle.loop_station_core.specs.declared.leave.ShownClip.{ShownClip}

-- its id there
abbrev pub own_id : ShownClip → ℕ
own_id clip = clip.id % 64

-- its frames, and its tag
abbrev pub desk_span : ShownClip → Span
desk_span clip = record { from = clip.from; to = clip.to; tag = clip.tag }
