-- The parts of an image, each by itself. Only private contracts use this.
use Rattle.std.specs.Prelude.{ℕ, Bool, Option, Result, List, map}
use Rattle.std.specs.List.{range_with_len}
use Rattle.loop_record.specs.declared.clip.Span.{Span}
use Rattle.loop_record.specs.declared.damage.Damage.{Damage}
use Rattle.loop_record.specs.declared.geometry.Geometry.{Geometry}
use Rattle.loop_record.specs.Layout.{Segment, clip_in, is_too_high, segment_in}
use Rattle.loop_record.specs.Reading.{by_block, open_segments, recording_or_damage}
use Rattle.loop_record.specs.Recording.{Recording}

-- each segment that is open, and the clip of each id
pub record Parts : Type 0 where
  pub segments : List (Option Segment)
  pub clips : List (Option Span)

-- each part, read from its own bytes alone
abbrev pub parts_of : Geometry → List ℕ → Parts
parts_of g image = record {
  segments = map (segment_in g image) (range_with_len 0 g.segments);
  clips = map (clip_in image) (range_with_len 0 64);
}

-- what the parts of an image show; those of `parts_of` show what `shown_in` says
abbrev pub shown_by : Geometry → Parts → Result Recording Damage
shown_by g p = recording_or_damage g (by_block (open_segments p.segments)) p.clips

-- the segment's block is too high
abbrev pub is_high : Geometry → Segment → Bool
is_high g s = is_too_high g s.block
