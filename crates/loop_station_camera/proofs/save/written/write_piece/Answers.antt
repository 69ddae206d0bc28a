use Rattle.std.proofs.Common.{ap, length}
use Rattle.loop_station_camera.proofs.SaveFrames.{counted-one, none-saved, none-written, one-more, saved-one}
use Rattle.loop_station_camera.proofs.save.written.write_piece.Goals as goal

pub frames-init : goal.frames-init
frames-init g c = record {
  written = none-written (g.W.Write.contents c.args.out.now) c.nothing-written.result c.nothing-written.ensures;
  frames = none-saved c.args.depth c.nothing-written.result c.nothing-written.ensures;
  counted = ap length c.nothing-written.ensures;
}

pub frames-preserved : goal.frames-preserved
frames-preserved g c =
    let wrote = c.in_ok-write_one.ensures in let f = c.args.piece.now.clip in
    let was = c.frames.written in let now = c.write_one.new.written in let a = c.in_ok-frame.frame in
    record {
      written =
          one-more (g.W.Write.contents c.args.out.now) (g.W.Write.contents c.frames.out)
          (g.W.Write.contents c.write_one.new.out) was now a wrote.stands c.frames.invariant.written wrote.written;
      frames =
          saved-one c.args.depth f f.clip.from c.frames.at was now a wrote.stands c.frames.invariant.frames
          (c.in_ok-frame.ensures, wrote.deep);
      counted = counted-one was now a c.frames.at wrote.stands c.frames.invariant.counted;
    }
