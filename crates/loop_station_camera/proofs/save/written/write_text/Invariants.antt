use Rattle.std.proofs.Common.{◌≡◌, ◌+◌, List, length}
use Rattle.std.specs.Io.KnownBytes.{Appends}
use Rattle.std.specs.List.{flat_map}
use Rattle.loop_y4m.specs.Text.{deep_text}
use Rattle.loop_station_camera.specs.declared.save.pieces.Piece.{Piece}
use Rattle.loop_station_camera.specs.Answers.{answered_bytes}
use Rattle.loop_station_camera.specs.Saves.{AreCut, AreSaved, clips_read, frames_in_clips, piece_numbers}
use Rattle.loop_station_camera.proofs.save.written.write_text.Given as goal

abbrev pub invariant-pieces : goal.invariant-pieces
invariant-pieces g l = record {
  pieces : List Piece;
  cut : AreCut (clips_read l.save) pieces l.left.items;
  frames : AreSaved l.depth (flat_map piece_numbers pieces) l.written;
  written : Appends (g.W.Write.contents l.fn.out) (g.W.Write.contents l.out) (deep_text l.geometry l.depth (answered_bytes l.written));
  left : length l.written + frames_in_clips l.left.items ≡ frames_in_clips (clips_read l.save);
}
