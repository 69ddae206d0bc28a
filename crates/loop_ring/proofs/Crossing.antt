-- That a ring and its index may be sent to another thread, and shared by several: each alone, and (`in`) as part of what holds it.
use denote.Param.Send.{IsSend, IsSync, sendable}
use Rattle.std.proofs.Crossing.{crosses}
use Rattle.std.specs.contracts.alloc.Global as heap
use Rattle.std.specs.contracts.impls.GlobalAllocator.TheImpl.{ghosts}
use Rattle.loop_ring.specs.contracts.index.SegmentIndex as SegmentIndex
use Rattle.loop_ring.specs.contracts.ring.Ring as Ring

pub ring_in_send : IsSend Ring.the_field.row
ring_in_send = search sendable depth 40

pub segments_send : IsSend (SegmentIndex.the_row heap.the_row ghosts)
segments_send = search (sendable, crosses) depth 20

pub ring_in_sync : IsSync Ring.the_field.row
ring_in_sync = search sendable depth 40

pub segments_sync : IsSync (SegmentIndex.the_row heap.the_row ghosts)
segments_sync = search (sendable, crosses) depth 20
