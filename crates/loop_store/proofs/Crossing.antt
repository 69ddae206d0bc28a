-- That a store over a disk that may be sent to another thread, and shared by several, may be too: each alone, and (`in`) as part of what holds it.
use denote.RattleType.{RattleType}
use denote.Param.Send.{IsSend, IsSync, sendable}
use Rattle.std.proofs.Crossing.{crosses}
use Rattle.std.specs.contracts.alloc.Global as heap
use Rattle.std.specs.contracts.impls.GlobalAllocator.TheImpl.{ghosts}
use Rattle.loop_disk.specs.declared.disk.Disk as disk
use Rattle.loop_clips.proofs.Crossing.{clips_send, clips_sync}
use Rattle.loop_ring.proofs.Crossing.{ring_in_send, ring_in_sync, segments_send, segments_sync}
use Rattle.loop_store.specs.contracts.fault.StoreFault as StoreFault
use Rattle.loop_store.specs.contracts.index.Index as Index
use Rattle.loop_store.specs.contracts.store.Store as Store

pub fault_in_send : IsSend StoreFault.the_field.row
fault_in_send = search sendable depth 40

index_in_send : IsSend (Index.the_field heap.the_row ghosts).row
index_in_send = let a = segments_send in let b = ring_in_send in let c = clips_send in search (sendable, crosses) depth 20

module _ (D : RattleType) (g : disk.Ghosts D.Denot) where
  pub store_send : IsSend D → IsSend (Store.the_row D heap.the_row g ghosts)
  store_send d = let a = index_in_send in search sendable depth 20

pub fault_in_sync : IsSync StoreFault.the_field.row
fault_in_sync = search sendable depth 40

index_in_sync : IsSync (Index.the_field heap.the_row ghosts).row
index_in_sync = let a = segments_sync in let b = ring_in_sync in let c = clips_sync in search (sendable, crosses) depth 20

module _ (D : RattleType) (g : disk.Ghosts D.Denot) where
  pub store_sync : IsSync D → IsSync (Store.the_row D heap.the_row g ghosts)
  store_sync d = let a = index_in_sync in search sendable depth 20
