use Rattle.std.proofs.Common.{◌≡◌, ◌+◌, ◌++◌, ◌≤◌, All, length, map, vec_len}
use Rattle.std.specs.List.{zip}
use Rattle.std.specs.Iterator.Adapters.{zip_first, zip_second}
use Rattle.std.specs.Vec.{vec_capacity}
use Rattle.std.specs.Vec.Iter.{into_iter_items, into_iter_len}
use Rattle.loop_plane.specs.Kinds.{mmap_plane}
use Rattle.loop_commands.specs.Recorded.{IsRecordingShot, source_and_store}
use Rattle.loop_commands.proofs.cameras.shots_of.Given as goal

abbrev pub invariant-loop-source : goal.invariant-loop-source
invariant-loop-source l = record {
  first : into_iter_len (zip_first l.source-iterator) ≡ length (into_iter_items (zip_first l.source-iterator));
  second : into_iter_len (zip_second l.source-iterator) ≡ length (into_iter_items (zip_second l.source-iterator));
  room : vec_len l.shots + into_iter_len (zip_second l.source-iterator) ≤ vec_capacity l.shots;
  held : map source_and_store l.shots.items
      ++ zip (into_iter_items (zip_first l.source-iterator)) (into_iter_items (zip_second l.source-iterator))
      ≡ zip l.fn.sources.items l.fn.stores.items;
  ready : All (IsRecordingShot mmap_plane l.frames) l.shots.items;
}
