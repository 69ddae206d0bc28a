use Rattle.std.proofs.Common.{ℕ, List, take}
use Rattle.loop_overlay.specs.Layers.{laid}
use Rattle.loop_overlay.specs.Parts.{IsBufferOf}
use Rattle.loop_overlay.proofs.overlaid_write.lay_all.Given as goal

abbrev pub invariant-loop-write : goal.invariant-loop-write
invariant-loop-write g l = (image : List ℕ) → IsBufferOf l.at image l.fn.buf → IsBufferOf l.at (laid (take l.write-index l.writes) image) l.buf
