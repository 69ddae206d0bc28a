use Rattle.std.proofs.Common.{◌≡◌, ◌++◌, [], ◌∷◌, rules, sym}
use Rattle.loop_station_camera.proofs.SaveFrames.{begun, counted-piece, none-counted, none-saved, saved-piece, some-more}
use Rattle.loop_station_camera.proofs.SavePieces.{all-frames, one-more-cut}
use Rattle.loop_station_camera.specs.Saves.{TakesFirst, clips_read}
use Rattle.loop_station_camera.proofs.save.written.write_text.Goals as goal

pub pieces-init : goal.pieces-init
pieces-init g c =
    let none = c.nothing-written.ensures in let w = c.nothing-written.result in
    record {
      pieces = [];
      cut = sym c.in_ok-left.ensures;
      frames = none-saved c.in_ok-depth.depth w none;
      written =
          begun c.args.geometry.now c.in_ok-depth.depth (g.W.Write.contents c.args.out.now)
          (g.W.Write.contents c.write_deep_header.new.out) w none c.in-Ok.ensures;
      left = none-counted w (clips_read c.args.save.now) c.in_ok-left.left.items none c.in_ok-left.ensures;
    }

pub pieces-preserved : goal.pieces-preserved
pieces-preserved g c =
    let was = c.pieces.left.items in let new = c.next_piece.new.left.items in let p = c.in-Some-2.piece in
    let takes : TakesFirst was new p = search rules in
    let wrote = c.in_ok-more.ensures in let more = c.in_ok-more.more in
    let w = c.pieces.written in let after = c.append.new.self in let so = c.in_ok-append.ensures in
    let clips = clips_read c.args.save.now in let all = c.pieces.invariant in
    record {
      pieces = all.pieces ++ p ∷ [];
      cut = one-more-cut clips all.pieces was new p all.cut takes;
      frames = saved-piece c.in_ok-depth.depth all.pieces p w more after so all.frames wrote.frames;
      written =
          some-more c.args.geometry.now c.in_ok-depth.depth (g.W.Write.contents c.args.out.now)
          (g.W.Write.contents c.pieces.out) (g.W.Write.contents c.write_piece.new.out) w more after so all.written
          wrote.written;
      left =
          counted-piece w more after clips was new p.clip.clip.from p.end so all.left takes.some wrote.all
          (all-frames was new p takes);
    }
