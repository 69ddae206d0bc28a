use Rattle.std.proofs.Common.{sym, ◌∙◌}
use Rattle.loop_record.specs.Recording.{ring_of}
use Rattle.loop_ring.proofs.ClipCounts.{counts-empty}
use Rattle.loop_ring.proofs.count.clips_on.Goals as goal

pub returns-then-not-some_stands : goal.returns-then-not-some_stands
returns-then-not-some_stands c = counts-empty (ring_of c.args.geometry.now) c.args.clips.now c.args.head (sym c.some_stands.ensures ∙ c.if-not-some_stands.true)
