use Rattle.std.proofs.Common.{◌≡◌, ◌+◌, ◌*◌, List, ℕ, length, take, subst, sym, ap, ◌∙◌}
use Rattle.loop_disk.specs.Rows.{joined}
use Rattle.loop_ring.specs.Groups.{Grouped, first_slots}
use Rattle.loop_ring.specs.Writes.{slots_in, slots_of}
use Rattle.loop_ring.proofs.SlotStages.{frames-length}
use Rattle.loop_ring.proofs.group.Group.rows.Goals as goal

pub returns-clause-size : goal.returns-clause-size
returns-clause-size c =
    let s = c.self.inside in
    let many = frames-length s.frame_bytes s.count (first_slots s.count s.heads s.bodies) in
    subst (λ (v : Grouped). length (joined (take (2 * length v.frames) c.rows_of.result)) ≡ length v.frames * (32 + v.size))
    c.self.view_is
    ((λ i. length (joined (take (2 * many i) c.rows_of.result))) ∙ ap (λ (b : List ℕ). length b) c.rows_of.ensures
    ∙ c.self.invariant.long ∙ (λ i. sym many i * (32 + s.frame_bytes)))

pub returns-clause-slots : goal.returns-clause-slots
returns-clause-slots c =
    let s = c.self.inside in
    let many = frames-length s.frame_bytes s.count (first_slots s.count s.heads s.bodies) in
    subst (λ (v : Grouped). slots_in v.size (joined (take (2 * length v.frames) c.rows_of.result)) (length v.frames)
    ≡ slots_of v.size v.first v.frames) c.self.view_is
    ((λ i. slots_in s.frame_bytes (joined (take (2 * many i) c.rows_of.result)) (many i))
    ∙ ap (λ (b : List ℕ). slots_in s.frame_bytes b s.count) c.rows_of.ensures
    ∙ c.self.invariant.slots)
