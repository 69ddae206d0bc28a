-- A queue, over planes that may, may go to another thread.
use denote.RattleType.{RattleType}
use denote.Param.Send.{IsSend, sendable}
use Rattle.std.proofs.Crossing.{Vec-send}
use Rattle.std.specs.contracts.alloc.Global as heap
use Rattle.std.specs.contracts.impls.GlobalAllocator.TheImpl.{ghosts}
use Rattle.loop_vb2.specs.contracts.buffer.Buffer as Buffer
use Rattle.loop_vb2.specs.contracts.line.Line as Line
use Rattle.loop_vb2.specs.contracts.planes.PlaneSet as PlaneSet
use Rattle.loop_vb2.specs.contracts.queue.Queue as Queue

line_send : IsSend Line.the_row
line_send = search sendable depth 40

module _ (P : RattleType) where
  set_in_send : IsSend P → IsSend (PlaneSet.the_field P).row
  set_in_send s = search sendable depth 20

  buffer_in_send : IsSend P → IsSend (Buffer.the_field P).row
  buffer_in_send s = let a = set_in_send s in search sendable depth 20

  buffer_send : IsSend P → IsSend (Buffer.the_row P)
  buffer_send s = let a = buffer_in_send s in search sendable depth 20

  pub queue_send : IsSend P → IsSend (Queue.the_row P heap.the_row ghosts)
  queue_send s = let a = Vec-send _ (buffer_send s) in let b = line_send in search sendable depth 20
