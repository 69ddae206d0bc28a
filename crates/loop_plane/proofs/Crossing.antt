-- A table of fds, over planes that may, may go to another thread, and be shared by several: each alone, and (`in`) as a field of what holds it.
use denote.RattleType.{RattleType}
use denote.Param.Send.{IsSend, sendable}
use Rattle.std.proofs.Crossing.{crosses}
use Rattle.std.specs.contracts.alloc.Global as heap
use Rattle.std.specs.contracts.impls.GlobalAllocator.TheImpl.{ghosts}
use Rattle.loop_plane.specs.contracts.table.FdTable as FdTable

module _ (P : RattleType) where
  pub table_send : IsSend P → IsSend (FdTable.the_row P heap.the_row ghosts)
  table_send s = search (sendable, crosses) depth 20
