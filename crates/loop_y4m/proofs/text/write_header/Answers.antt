use Rattle.loop_y4m.specs.Text.{colour_name}
use Rattle.loop_y4m.proofs.PartWrites.{written_alone}
use Rattle.loop_y4m.proofs.text.write_header.Goals as goal

pub returns : goal.returns
returns g c = written_alone (g.W.Write.contents c.args.out.now) (g.W.Write.contents c.put_header.new.out)
    c.put_header.result c.args.geometry.now.width (colour_name c.args.geometry.now.format) c.args.geometry.now
    (rw c.colour_name.ensures at c.put_header.ensures)
