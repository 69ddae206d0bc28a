-- That the source of a camera's device may go to another thread. What it shares with the source's thread may be shared.
use denote.RattleType.{RattleType}
use denote.Param.Send.{IsSend, IsSync, sendable}
use Rattle.std.proofs.Crossing.{crosses, frees}
use Rattle.std.specs.contracts.alloc.Global as heap
use Rattle.std.specs.contracts.impls.GlobalAllocator.TheImpl.{ghosts}
use Rattle.circular_buffer.proofs.Crosses.{Cells-send, Deed-send}
use Rattle.circular_buffer.specs.contracts.ring.Ring as Places
use Rattle.circular_buffer.specs.contracts.heap.HeapCircularBuffer as Buffer
use Rattle.loop_station_shared.specs.contracts.feed.Fed as Fed
use Rattle.loop_station_shared.specs.contracts.feed.Feed as Feed
use Rattle.loop_station_shared.specs.contracts.feed.FeedSource as FeedSource
use Rattle.loop_station_shared.specs.contracts.feed.Ready as Ready
use Rattle.loop_station_shared.specs.contracts.feed.Times as Times
use Rattle.loop_station_shared.specs.contracts.feed.WaitingFrames as WaitingFrames
use Rattle.std.specs.contracts.vec.Vec as Vec
use denote.Builtin.{u8}

module _ (T : RattleType) where
  places_in_send : IsSend T → IsSend (Places.the_field T heap.the_row ghosts).row
  places_in_send t = let a = Cells-send T t in let b = Deed-send T heap.the_row ghosts frees in search (sendable, crosses) depth 20

  buffer_send : IsSend T → IsSend (Buffer.the_row T heap.the_row ghosts)
  buffer_send t = let a = places_in_send t in search sendable depth 20

bytes_send : IsSend (Vec.the_row u8 heap.the_row ghosts)
bytes_send = search (sendable, crosses) depth 20

fed_in_send : IsSend Fed.the_field.row
fed_in_send = search (sendable, crosses) depth 20

fed_send : IsSend Fed.the_row
fed_send = let a = fed_in_send in search (sendable, crosses) depth 20

waiting_send : IsSend WaitingFrames.the_row
waiting_send = let a = buffer_send _ fed_send in let b = buffer_send _ bytes_send in search (sendable, crosses) depth 20

times_send : IsSend Times.the_row
times_send = search (sendable, crosses) depth 60

ready_send : IsSend Ready.the_row
ready_send = let a = fed_in_send in let b = fed_send in search (sendable, crosses) depth 20

feed_send : IsSend Feed.the_row
feed_send = let a = waiting_send in let b = times_send in let c = ready_send in search (sendable, crosses) depth 20

feed_sync : IsSync Feed.the_row
feed_sync = let a = waiting_send in let b = times_send in let c = ready_send in search (sendable, crosses) depth 20

pub source_send : IsSend FeedSource.the_row
source_send = let a = feed_send in let b = feed_sync in search (sendable, crosses) depth 20
