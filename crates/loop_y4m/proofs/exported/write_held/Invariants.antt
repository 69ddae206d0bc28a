use Rattle.std.proofs.Common.{◌≡◌, ◌≤◌, ◌-◌, None, Some, take}
use Rattle.std.specs.Io.KnownBytes.{Appends}
use Rattle.loop_record.specs.Geometry.{frame_bytes}
use Rattle.loop_record.specs.Recording.{Picture, Recording, frame_under}
use Rattle.loop_store.specs.Seen.{StandsFor}
use Rattle.loop_y4m.specs.Export.{OnlyRead}
use Rattle.loop_y4m.specs.Text.{frame}
use Rattle.loop_y4m.proofs.exported.write_held.Given as goal

-- the frame's first bytes were written, and the store was only read
abbrev pub invariant-loop-at : goal.invariant-loop-at
invariant-loop-at g l = record {
  store : OnlyRead g.D.Disk.medium l.fn.store l.store None;
  size : l.size ≡ frame_bytes l.fn.store.geometry;
  within : l.at ≤ l.size;
  moved : (r : Recording) (p : Picture) → StandsFor g.D.Disk.medium l.fn.store r
      → frame_under r.frames l.number ≡ Some p → (g.D.Disk.medium l.fn.store.disk).honest
      → Appends (g.W.Write.contents l.fn.out) (g.W.Write.contents l.out) (frame (take l.at p.bytes));
}

-- bytes that are left
abbrev pub decreases-loop-at : goal.decreases-loop-at
decreases-loop-at g l = l.size - l.at
