use Rattle.loop_ioctl.proofs.OutsidePlanes.{new_queues_stand}
use Rattle.loop_ioctl.proofs.laws.new_queues_stand.Goals as goal

pub returns : goal.returns
returns g c = new_queues_stand g.P.PlaneMemory.plane
