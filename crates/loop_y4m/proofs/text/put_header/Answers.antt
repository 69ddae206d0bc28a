use Rattle.std.proofs.Common.{[], ◌∷◌, ◌++◌, ◌∙◌}
use Rattle.std.specs.Prelude.{codes, decimal}
use Rattle.loop_y4m.specs.Text.{header_with}
use Rattle.loop_y4m.proofs.PartWrites.{nested, written}
use Rattle.loop_y4m.proofs.text.put_header.Goals as goal

pub returns : goal.returns
returns g c = written (g.W.Write.contents c.args.out.now) (g.W.Write.contents c.put.new.out) c.put.result
    c.as_slice.result.now (header_with c.args.width (c.args.name.now ++ c.args.rest.now) c.args.geometry.now) c.put.ensures
    (c.as_slice.ensures.value ∙ (rw c.new-line.ensures at c.in_ok-write.ensures.bytes)
    ∙ nested (codes "YUV4MPEG2 W") (decimal c.args.width) (codes " H") (decimal c.args.geometry.now.height) (codes " F")
    (decimal c.args.geometry.now.rate_num) (codes ":") (decimal c.args.geometry.now.rate_den) (codes " Ip A0:0 C")
    c.args.name.now c.args.rest.now (10 ∷ []))
