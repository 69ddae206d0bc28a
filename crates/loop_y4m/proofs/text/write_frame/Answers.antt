use Rattle.std.proofs.Common.{[], ◌∷◌, ◌++◌}
use Rattle.std.specs.Prelude.{codes}
use Rattle.loop_y4m.proofs.PartWrites.{both, first_failed}
use Rattle.loop_y4m.proofs.text.write_frame.Goals as goal

pub returns-in_err-write_frame_line : goal.returns-in_err-write_frame_line
returns-in_err-write_frame_line g c = first_failed (g.W.Write.contents c.args.out.now)
    (g.W.Write.contents c.write_frame_line.new.out) c.in_err-write_frame_line.field-0.0 c.from_residual.result
    (codes "FRAME" ++ 10 ∷ []) c.args.bytes.now c.from_residual.ensures.0 c.in_err-write_frame_line.ensures

pub returns : goal.returns
returns g c = both (g.W.Write.contents c.args.out.now) (g.W.Write.contents c.write_frame_line.new.out)
    (g.W.Write.contents c.write_pixels.new.out) c.write_pixels.result (codes "FRAME" ++ 10 ∷ []) c.args.bytes.now
    c.in_ok-write_frame_line.ensures c.write_pixels.ensures
