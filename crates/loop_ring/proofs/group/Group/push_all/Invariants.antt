use Rattle.std.proofs.Common.{◌≡◌, ◌++◌, take}
use Rattle.loop_record.specs.Plain.{pictures}
use Rattle.loop_ring.proofs.group.Group.push_all.Given as goal

-- the frames so far are there, after those from before, and nothing else has changed
abbrev pub invariant-loop-frame : goal.invariant-loop-frame
invariant-loop-frame g l = record {
  stays : l.self ≡ record l.fn.self { frames = l.fn.self.frames ++ pictures (take l.frame-index l.fn.frames) };
}
