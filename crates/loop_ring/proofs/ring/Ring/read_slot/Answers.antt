use Rattle.std.proofs.Common.{◌∙◌}
use Rattle.loop_ring.proofs.SlotReads.{whole_part}
use Rattle.loop_ring.proofs.ring.Ring.read_slot.Goals as goal

pub returns-clause-slot : goal.returns-clause-slot
returns-clause-slot g c = λ honest. whole_part c.args.self.now.geometry c.args.segment c.args.slot c.args.number _ _ _
    (c.read_part.auto.out ∙ c.requires.size) (c.read_part.ensures.part honest)
