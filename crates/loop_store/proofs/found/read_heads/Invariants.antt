use Rattle.std.proofs.Common.{◌≡◌, ℕ, List, None, length, map}
use Rattle.std.specs.Prelude.{vec_capacity}
use Rattle.std.specs.List.{All, range_with_len}
use Rattle.loop_disk.specs.Calls.{Called, Stays}
use Rattle.loop_disk.specs.Medium.{MayBe}
use Rattle.loop_record.specs.Geometry.{segment_at}
use Rattle.loop_record.specs.Layout.{header_at}
use Rattle.loop_store.specs.Found.{IsHeadIn}
use Rattle.loop_store.proofs.found.read_heads.Given as goal

abbrev pub invariant-loop-segment : goal.invariant-loop-segment
invariant-loop-segment g l = record {
  count : length l.heads.items ≡ l.segment;
  capacity : vec_capacity l.heads ≡ l.geometry.segments;
  within : All (IsHeadIn l.geometry) l.heads.items;
  called : Called (g.D.Disk.medium l.fn.disk) (g.D.Disk.medium l.disk) None;
  stays : (g.D.Disk.medium l.fn.disk).honest → Stays (g.D.Disk.medium l.fn.disk) (g.D.Disk.medium l.disk);
  gives : (image : List ℕ) → MayBe (g.D.Disk.medium l.disk) image → MayBe (g.D.Disk.medium l.fn.disk) image;
  heads : (image : List ℕ) → MayBe (g.D.Disk.medium l.disk) image
      → l.heads.items ≡ map (λ j. header_at l.geometry image (segment_at l.geometry j)) (range_with_len 0 l.segment);
}
