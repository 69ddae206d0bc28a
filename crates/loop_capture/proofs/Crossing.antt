-- That a device, over a source that may, may go to another thread.
use denote.RattleType.{RattleType}
use denote.Param.Send.{IsSend, sendable}
use Rattle.std.proofs.Crossing.{crosses}
use Rattle.std.specs.contracts.alloc.Global as heap
use Rattle.std.specs.contracts.impls.GlobalAllocator.TheImpl.{ghosts}
use Rattle.loop_capture.specs.contracts.device.Device as Device

module _ (S : RattleType) where
  pub device_send : IsSend S → IsSend (Device.the_row S heap.the_row ghosts)
  device_send s = search (sendable, crosses) depth 20
