use Rattle.loop_recorder.proofs.port.Port.copy_plane.Goals as goal

pub returns : goal.returns
returns g c = let s = c.self.invariant in ((s.state.queue, (c.copy_plane.ensures.step s.state.queue s.stands.queue).0), c.copy_plane.ensures.same)
