-- That spans, heads and frames may be sent to another thread, and shared by several: each alone, and (`in`) as part of what holds it.
use denote.Param.Send.{IsSend, IsSync, sendable}
use Rattle.std.proofs.Crossing.{crosses}
use Rattle.std.specs.contracts.alloc.Global as heap
use Rattle.std.specs.contracts.impls.GlobalAllocator.TheImpl.{ghosts}
use Rattle.loop_record.specs.contracts.clip.Span as Span
use Rattle.loop_record.specs.contracts.frame.Frame as Frame
use Rattle.loop_record.specs.contracts.frame.FrameHead as FrameHead

pub span_in_send : IsSend Span.the_field.row
span_in_send = search sendable depth 40

pub head_in_send : IsSend FrameHead.the_field.row
head_in_send = search sendable depth 40

pub frame_in_send : IsSend (Frame.the_field heap.the_row ghosts).row
frame_in_send = search (sendable, crosses) depth 20

pub frame_send : IsSend (Frame.the_row heap.the_row ghosts)
frame_send = let a = frame_in_send in search (sendable, crosses) depth 20

pub span_in_sync : IsSync Span.the_field.row
span_in_sync = search sendable depth 40

pub head_in_sync : IsSync FrameHead.the_field.row
head_in_sync = search sendable depth 40

pub frame_in_sync : IsSync (Frame.the_field heap.the_row ghosts).row
frame_in_sync = search (sendable, crosses) depth 20

pub frame_sync : IsSync (Frame.the_row heap.the_row ghosts)
frame_sync = let a = frame_in_sync in search (sendable, crosses) depth 20
