use Rattle.std.proofs.Common.{◌≡◌, ◌<◌, List, Result, length}
use Rattle.loop_store.specs.declared.fault.StoreFault.{StoreFault}
use Rattle.loop_desk.specs.declared.limits.Flushed.{Flushed}
use Rattle.loop_pipeline.specs.Backs.{GoesAt}
use Rattle.loop_station_camera.specs.Keeping.{Flushes}
use Rattle.loop_station_camera.proofs.keeping.store_all.Given as goal

abbrev pub invariant-flushes : goal.invariant-flushes
invariant-flushes g l = record {
  place : l.place ≡ l.fn.desks.lent.active;
  inside : l.place < length l.fn.desks.desks;
  lent : l.desks.lent ≡ l.fn.desks.lent;
  went : GoesAt l.fn.desks.lent.active l.fn.desks.desks l.desks.desks
      (λ d e. (answers : List (Result Flushed StoreFault)) × Flushes g.D.Disk.medium d answers e);
}
