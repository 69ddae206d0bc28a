-- What a front leaves, over a source and planes that may, may go to another thread; so may a camera with its guide, and
-- what filming it answers. The link of two threads may be shared by both, the barrier by all.
use denote.RattleType.{RattleType}
use denote.Param.Send.{IsSend, IsSync, sendable}
use Rattle.std.proofs.Crossing.{crosses, Vec-send, Vec-sync}
use Rattle.std.specs.contracts.alloc.Global as heap
use Rattle.std.specs.contracts.impls.GlobalAllocator.TheImpl.{ghosts}
use Rattle.loop_plane.proofs.Crossing.{table_send}
use Rattle.loop_record.proofs.Crossing.{frame_in_send, head_in_send, head_in_sync, span_in_send, span_in_sync}
use Rattle.loop_store.proofs.Crossing.{fault_in_send, fault_in_sync}
use Rattle.loop_vb2.specs.contracts.planes.PlaneSet as PlaneSet
use Rattle.loop_vb2.proofs.Crossing.{queue_send}
use Rattle.loop_capture.proofs.Crossing.{device_send}
use Rattle.loop_capture.specs.declared.source.FrameSource as source
use Rattle.loop_disk.specs.declared.disk.Disk as disk
use Rattle.loop_plane.specs.declared.memory.PlaneMemory as plane
use Rattle.loop_pipeline.specs.declared.seat.Noting as noting
use Rattle.loop_desk.specs.contracts.hand.Hand as Hand
use Rattle.loop_desk.proofs.Crossing.{desk_send, flushed_in_send, flushed_in_sync, outline_in_send, status_in_send, status_in_sync}
use Rattle.loop_pipeline.specs.contracts.entry.Entry as Entry
use Rattle.loop_pipeline.specs.contracts.entry.FrameInfo as FrameInfo
use Rattle.loop_pipeline.specs.contracts.entry.Noted as Noted
use Rattle.loop_pipeline.specs.contracts.entry.Pass as Pass
use Rattle.loop_pipeline.specs.contracts.entry.Receipt as Receipt
use Rattle.loop_pipeline.specs.contracts.seat.Notes as Notes
use Rattle.loop_pipeline.specs.contracts.seat.Seat as Seat
use Rattle.loop_pipeline.specs.contracts.camera.Camera as Camera
use Rattle.loop_pipeline.specs.contracts.ending.CameraEnd as CameraEnd
use Rattle.loop_pipeline.specs.contracts.film.Unfilmed as Unfilmed
use Rattle.loop_pipeline.specs.declared.visits.Visits as visits
use Rattle.loop_pipeline.specs.contracts.start_barrier.StartBarrier as StartBarrier
use Rattle.loop_pipeline.specs.contracts.film.Inlet as Inlet
use Rattle.loop_pipeline.specs.contracts.film.Left as Left
use Rattle.loop_pipeline.specs.contracts.film.Link as Link

-- ---- entries and receipts

stamp_in_send : IsSend FrameInfo.the_field.row
stamp_in_send = search sendable depth 40

noted_in_send : IsSend Noted.the_field.row
noted_in_send = let a = fault_in_send in let b = flushed_in_send in let c = status_in_send in let d = head_in_send in
    let e = span_in_send in let f = stamp_in_send in search sendable depth 60

pub entry_in_send : IsSend Entry.the_field.row
entry_in_send = let a = noted_in_send in search sendable depth 20

pub entry_send : IsSend Entry.the_row
entry_send = let a = entry_in_send in search sendable depth 20

receipt_in_send : IsSend Receipt.the_field.row
receipt_in_send = let a = noted_in_send in search sendable depth 20

receipt_send : IsSend Receipt.the_row
receipt_send = let a = receipt_in_send in search sendable depth 20

pub pass_in_send : IsSend (Pass.the_field heap.the_row ghosts).row
pass_in_send = let a = Vec-send _ receipt_send in let b = Vec-send _ receipt_in_send in search sendable depth 20

pub pass_send : IsSend (Pass.the_row heap.the_row ghosts)
pass_send = let a = pass_in_send in search sendable depth 20

stamp_in_sync : IsSync FrameInfo.the_field.row
stamp_in_sync = search sendable depth 40

noted_in_sync : IsSync Noted.the_field.row
noted_in_sync = let a = fault_in_sync in let b = flushed_in_sync in let c = status_in_sync in let d = head_in_sync in
    let e = span_in_sync in let f = stamp_in_sync in search sendable depth 60

pub entry_in_sync : IsSync Entry.the_field.row
entry_in_sync = let a = noted_in_sync in search sendable depth 20

pub entry_sync : IsSync Entry.the_row
entry_sync = let a = entry_in_sync in search sendable depth 20

-- ---- a seat

module _ (D : RattleType) (g : disk.Ghosts D.Denot) where
  notes_in_send : IsSend D → IsSend (Notes.the_field D heap.the_row g ghosts).row
  notes_in_send d = let a = desk_send D g d in let b = Vec-send _ entry_send in let c = Vec-send _ entry_in_send in
      let d = outline_in_send in let p = pass_in_send in search (sendable, crosses) depth 20

module _ (D N : RattleType) (g : disk.Ghosts D.Denot) (n : noting.Ghosts N.Denot) where
  pub seat_send : IsSend D → IsSend N → IsSend (Seat.the_row D N heap.the_row g n ghosts)
  seat_send d s = let a = desk_send D g d in let b = notes_in_send D g d in search (sendable, crosses) depth 20

-- ---- threads of a camera

pub link_sync : IsSync Link.the_row
link_sync = search (sendable, crosses) depth 30

module _ (P : RattleType) where
  set_in_send : IsSend P → IsSend (PlaneSet.the_field P).row
  set_in_send s = search sendable depth 20

  hand_in_send : IsSend P → IsSend (Hand.the_field P heap.the_row ghosts).row
  hand_in_send s = let a = set_in_send s in let b = frame_in_send in search (sendable, crosses) depth 30

module _ (S P W : RattleType) where
  pub inlet_send : IsSend S → IsSend P → IsSend W → IsSend (Inlet.the_row S P W)
  inlet_send s sp sw =
      let a = device_send S s in
      let b = queue_send P sp in
      let c = table_send P sp in
      search (sendable, crosses) depth 30

  pub left_send : IsSend S → IsSend P → IsSend W → IsSend (Left.the_row S P W)
  left_send s sp sw =
      let a = device_send S s in
      let b = queue_send P sp in
      let c = table_send P sp in
      let d = hand_in_send P sp in
      search (sendable, crosses) depth 30

-- ---- several cameras

pub barrier_sync : IsSync StartBarrier.the_row
barrier_sync = search (sendable, crosses) depth 30

pub barrier_send : IsSend StartBarrier.the_row
barrier_send = search (sendable, crosses) depth 30

module _ (S D P G : RattleType) (d : disk.Ghosts D.Denot) (n : noting.Ghosts G.Denot) where
  pub ended_in_send : IsSend S → IsSend D → IsSend P → IsSend G → IsSend (CameraEnd.the_field S D P G heap.the_row d n ghosts).row
  ended_in_send s sd sp sg =
      let a = device_send S s in
      let b = queue_send P sp in
      let c = table_send P sp in
      let e = seat_send D G d n sd sg in
      let f = hand_in_send P sp in
      search (sendable, crosses) depth 30

  pub ended_send : IsSend S → IsSend D → IsSend P → IsSend G → IsSend (CameraEnd.the_row S D P G heap.the_row d n ghosts)
  ended_send s sd sp sg = let a = ended_in_send s sd sp sg in search (sendable, crosses) depth 30

module _ (S D P G : RattleType) (f : source.Ghosts S.Denot) (d : disk.Ghosts D.Denot) (p : plane.Ghosts P.Denot)
    (v : visits.Ghosts G.Denot) (n : noting.Ghosts G.Denot) where
  pub camera_in_send : IsSend S → IsSend D → IsSend P → IsSend G → IsSend (Camera.the_field S D P G f d p v n).row
  camera_in_send s sd sp sg =
      let a = device_send S s in
      let b = queue_send P sp in
      let c = table_send P sp in
      let e = seat_send D G d n sd sg in
      search (sendable, crosses) depth 30

  pub unfilmed_in_send : IsSend S → IsSend D → IsSend P → IsSend G → IsSend (Unfilmed.the_field S D P G f d p v n).row
  unfilmed_in_send s sd sp sg =
      let a = camera_in_send s sd sp sg in
      let b = ended_in_send S D P G d n s sd sp sg in
      search (sendable, crosses) depth 30

  pub unfilmed_send : IsSend S → IsSend D → IsSend P → IsSend G → IsSend (Unfilmed.the_row S D P G f d p v n)
  unfilmed_send s sd sp sg = let a = unfilmed_in_send s sd sp sg in search (sendable, crosses) depth 30
