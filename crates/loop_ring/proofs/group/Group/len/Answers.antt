use Rattle.std.proofs.Common.{length, sym, ap, ◌∙◌}
use Rattle.loop_ring.specs.Groups.{Grouped, first_slots}
use Rattle.loop_ring.proofs.SlotStages.{frames-length}
use Rattle.loop_ring.proofs.group.Group.len.Goals as goal

pub returns-clause-count : goal.returns-clause-count
returns-clause-count c =
    let s = c.self.inside in
    sym (frames-length s.frame_bytes s.count (first_slots s.count s.heads s.bodies))
    ∙ ap (λ (v : Grouped). length v.frames) c.self.view_is
