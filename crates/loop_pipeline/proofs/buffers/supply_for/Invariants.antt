use Rattle.std.specs.Arc.{arc_value}
use Rattle.loop_pages.specs.Place.{IsIdle}
use Rattle.loop_pipeline.proofs.buffers.supply_for.Given as goal

abbrev pub invariant-loop : goal.invariant-loop
invariant-loop l = IsIdle (arc_value l.ledger) l.seat
