use Rattle.std.proofs.Common.{◌≡◌, ◌<◌, ◌≤◌, ◌^◌, None, true}
use Rattle.std.specs.Prelude.{IfSome}
use Rattle.loop_record.specs.Recording.{Recording, holds}
use Rattle.loop_store.specs.Seen.{StandsFor}
use Rattle.loop_y4m.specs.Export.{OnlyRead}
use Rattle.loop_y4m.proofs.Ranges.{Given, numbers_left}
use Rattle.loop_y4m.proofs.exported.write_frames.Given as goal

-- the frames so far were written, the next one is held, and the store was only read
abbrev pub invariant-loop-next : goal.invariant-loop-next
invariant-loop-next g l = record {
  store : OnlyRead g.D.Disk.medium l.fn.store l.store None;
  low : IfSome l.next (λ n. (l.count ≤ n) × ((n ≤ l.to) × (n < 2 ^ 62)));
  held : (r : Recording) → StandsFor g.D.Disk.medium l.fn.store r → holds r l.first ≡ true
      → IfSome l.next (λ n. holds r n ≡ true);
  moved : (r : Recording) → StandsFor g.D.Disk.medium l.fn.store r → holds r l.first ≡ true
      → Given (g.D.Disk.medium l.fn.store.disk).honest r l.first l.to l.count l.next (g.W.Write.contents l.fn.out)
      (g.W.Write.contents l.out);
}

-- the numbers from the next one on
abbrev pub decreases-loop-next : goal.decreases-loop-next
decreases-loop-next g l = numbers_left l.next
