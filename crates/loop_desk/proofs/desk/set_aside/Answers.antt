use Rattle.std.proofs.Common.{List, drop, ap, ◌∙◌}
use Rattle.std.proofs.lemmas.List.{drop-drop}
use Rattle.circular_buffer.specs.Buffer.{Buffer, buffer}
use Rattle.loop_record.specs.declared.frame.Frame.{Frame}
use Rattle.loop_desk.proofs.desk.set_aside.Goals as goal

pub loop-preserved : goal.loop-preserved
loop-preserved g c =
    let was = c.args.pending.now in
    c.pop_front.ensures.items ∙ ap (λ (b : Buffer (Frame g.row.A.Denot)). buffer (drop 1 b.items) b.capacity) c.loop.invariant
    ∙ ap (λ (l : List (Frame g.row.A.Denot)). buffer l was.capacity) (drop-drop 1 c.loop.counter was.items)
