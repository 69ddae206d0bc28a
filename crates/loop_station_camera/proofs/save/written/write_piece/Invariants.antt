use Rattle.std.proofs.Common.{◌≡◌, map, length}
use Rattle.std.specs.Io.KnownBytes.{Appends}
use Rattle.std.specs.List.{flat_map, range_with_len}
use Rattle.loop_y4m.specs.Text.{frame}
use Rattle.loop_station_camera.specs.Answers.{answered_bytes}
use Rattle.loop_station_camera.specs.Saves.{AreSaved}
use Rattle.loop_station_camera.proofs.save.written.write_piece.Given as goal

abbrev pub invariant-frames : goal.invariant-frames
invariant-frames g l = record {
  written : Appends (g.W.Write.contents l.fn.out) (g.W.Write.contents l.out) (flat_map frame (answered_bytes l.written));
  frames : AreSaved l.depth (map (λ k. (l.piece.clip, k)) (range_with_len l.piece.clip.clip.from l.at)) l.written;
  counted : length l.written ≡ l.at;
}
