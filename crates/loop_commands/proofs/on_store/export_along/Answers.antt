use Rattle.std.specs.Prelude.{codes}
use Rattle.loop_y4m.specs.Export.{frames_between}
use Rattle.loop_y4m.specs.Text.{text}
use Rattle.loop_commands.specs.Printed.{line_of}
use Rattle.loop_commands.proofs.OutputBytes.{followed_by_line}
use Rattle.loop_commands.proofs.on_store.export_along.Goals as goal

pub returns-else-is_err-clause-text : goal.returns-else-is_err-clause-text
returns-else-is_err-clause-text g c = λ r stands honest.
    followed_by_line (g.W.Write.contents c.args.out) (g.W.Write.contents c.in-Ok.out) (g.W.Write.contents c.print_number-printed.new.out)
    (text c.args.store.now.geometry (frames_between c.args.from c.args.to r.frames)) (line_of (codes "exported") c.in-Ok.count) c.print_number-printed.result
    ((c.in-Ok.ensures.text r stands).0 honest) c.print_number-printed.ensures
