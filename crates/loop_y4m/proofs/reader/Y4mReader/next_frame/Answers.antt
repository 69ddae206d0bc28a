use Rattle.std.proofs.Common.{rules, sym}
use Rattle.loop_y4m.proofs.Frames.{gives_next}
use Rattle.loop_y4m.proofs.reader.Y4mReader.next_frame.Goals as goal

pub returns-clause-frame : goal.returns-clause-frame
returns-clause-frame g c = rw (sym c.self.view_is) (rw c.in_default.is (rw c.err-self-inside.ensures.value
    (gives_next c.self.inside.header (g.R.Read.remaining c.self.inside.reader)
    (g.R.Read.remaining c.next_frame-result.new.reader) c.next_frame-result.result c.next_frame-result.new.out
    (search rules) c.next_frame-result.ensures)))
