-- A desk, over a disk that may, and what it returns may go to another thread, and be shared by several: each alone, and (`in`) as a field of what holds it.
use denote.RattleType.{RattleType}
use denote.Param.Send.{IsSend, IsSync, sendable}
use denote.Builtin.{u8}
use Rattle.std.proofs.Crossing.{crosses, frees}
use Rattle.std.specs.contracts.alloc.Global as heap
use Rattle.std.specs.contracts.vec.Vec as Vec
use Rattle.std.specs.contracts.impls.GlobalAllocator.TheImpl.{ghosts}
use Rattle.circular_buffer.proofs.Crosses.{Cells-send, Cells-sync, Deed-send, Deed-sync}
use Rattle.circular_buffer.specs.contracts.ring.Ring as Places
use Rattle.circular_buffer.specs.contracts.heap.HeapCircularBuffer as Buffer
use Rattle.loop_disk.specs.declared.disk.Disk as disk
use Rattle.loop_record.proofs.Crossing.{frame_in_send, frame_in_sync, frame_send, frame_sync}
use Rattle.loop_store.proofs.Crossing.{store_send, store_sync}
use Rattle.loop_desk.specs.contracts.desk.Desk as Desk
use Rattle.loop_desk.specs.contracts.limits.Flushed as Flushed
use Rattle.loop_desk.specs.contracts.limits.Outline as Outline
use Rattle.loop_desk.specs.contracts.limits.Status as Status

pub flushed_in_send : IsSend Flushed.the_field.row
flushed_in_send = search sendable depth 40

pub status_in_send : IsSend Status.the_field.row
status_in_send = search sendable depth 40

pub outline_in_send : IsSend (Outline.the_field heap.the_row ghosts).row
outline_in_send = search (sendable, crosses) depth 20

module _ (T : RattleType) where
  places_in_send : IsSend T → IsSend (Places.the_field T heap.the_row ghosts).row
  places_in_send t = let a = Cells-send T t in let b = Deed-send T heap.the_row ghosts frees in search (sendable, crosses) depth 20

  buffer_send : IsSend T → IsSend (Buffer.the_row T heap.the_row ghosts)
  buffer_send t = let a = places_in_send t in search sendable depth 20

bytes_send : IsSend (Vec.the_row u8 heap.the_row ghosts)
bytes_send = search (sendable, crosses) depth 20

bytes_in_send : IsSend (Vec.the_field u8 heap.the_row ghosts).row
bytes_in_send = search (sendable, crosses) depth 20

module _ (D : RattleType) (g : disk.Ghosts D.Denot) where
  pub desk_send : IsSend D → IsSend (Desk.the_row D heap.the_row g ghosts)
  desk_send d = let a = store_send D g d in let b = buffer_send _ frame_send in let c = buffer_send _ frame_in_send in
      let e = buffer_send _ bytes_send in let f = buffer_send _ bytes_in_send in search sendable depth 20

pub flushed_in_sync : IsSync Flushed.the_field.row
flushed_in_sync = search sendable depth 40

pub status_in_sync : IsSync Status.the_field.row
status_in_sync = search sendable depth 40

pub outline_in_sync : IsSync (Outline.the_field heap.the_row ghosts).row
outline_in_sync = search (sendable, crosses) depth 20

pub outline_sync : IsSync (Outline.the_row heap.the_row ghosts)
outline_sync = let a = outline_in_sync in search (sendable, crosses) depth 20

module _ (T : RattleType) where
  places_in_sync : IsSync T → IsSync (Places.the_field T heap.the_row ghosts).row
  places_in_sync t = let a = Cells-sync T t in let b = Deed-sync T heap.the_row ghosts in search (sendable, crosses) depth 20

  buffer_sync : IsSync T → IsSync (Buffer.the_row T heap.the_row ghosts)
  buffer_sync t = let a = places_in_sync t in search sendable depth 20

bytes_sync : IsSync (Vec.the_row u8 heap.the_row ghosts)
bytes_sync = search (sendable, crosses) depth 20

bytes_in_sync : IsSync (Vec.the_field u8 heap.the_row ghosts).row
bytes_in_sync = search (sendable, crosses) depth 20

module _ (D : RattleType) (g : disk.Ghosts D.Denot) where
  pub desk_sync : IsSync D → IsSync (Desk.the_row D heap.the_row g ghosts)
  desk_sync d = let a = store_sync D g d in let b = buffer_sync _ frame_sync in let c = buffer_sync _ frame_in_sync in
      let e = buffer_sync _ bytes_sync in let f = buffer_sync _ bytes_in_sync in search sendable depth 20
