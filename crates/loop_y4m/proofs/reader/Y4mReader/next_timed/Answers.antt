use Rattle.std.proofs.Common.{rules, sym}
use Rattle.loop_y4m.proofs.Frames.{gives_timed}
use Rattle.loop_y4m.proofs.reader.Y4mReader.next_timed.Goals as goal

pub returns-clause-frame : goal.returns-clause-frame
returns-clause-frame g c = rw (sym c.self.view_is) (rw c.in_default.is (rw c.err-self-inside.ensures.value
    (gives_timed c.self.inside.header (g.R.Read.remaining c.self.inside.reader)
    (g.R.Read.remaining c.next_timed-result.new.reader) c.next_timed-result.result c.next_timed-result.new.out
    (search rules) c.next_timed-result.ensures)))
