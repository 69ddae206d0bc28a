use Rattle.loop_pipeline.specs.Fronts.{IsOpen}
use Rattle.loop_pipeline.proofs.start.start_queue.Given as goal

abbrev pub invariant-buffers : goal.invariant-buffers
invariant-buffers g l = IsOpen g.P.PlaneMemory.plane l.queue l.table
