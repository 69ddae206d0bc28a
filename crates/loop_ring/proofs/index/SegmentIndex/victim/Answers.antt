use Rattle.std.proofs.Common.{ap, ◌∙◌}
use Rattle.loop_ring.specs.Heads.{going_free}
use Rattle.loop_ring.proofs.ClipCounts.{free-victim}
use Rattle.loop_ring.proofs.index.SegmentIndex.victim.Goals as goal

pub returns-clause-victim : goal.returns-clause-victim
returns-clause-victim g c = λ h r image held is counted. c.self.invariant.victim_is ∙ ap going_free c.self.view_is
    ∙ free-victim h r image c.args.self.now held is counted
