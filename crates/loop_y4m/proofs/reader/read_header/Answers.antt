use Rattle.std.proofs.Common.{◌∙◌, ap}
use Rattle.loop_y4m.specs.Header.{header_of}
use Rattle.loop_y4m.proofs.HeaderStart.{behind_ten, header_known}
use Rattle.loop_y4m.proofs.reader.read_header.Goals as goal

pub returns-clause-header : goal.returns-clause-header
returns-clause-header g c = header_known c.args.colours (g.R.Read.remaining c.args.reader.now)
    (g.R.Read.remaining c.read_header_line.new.reader) c.in_ok-n.n c.read_header_line.new.line c.parse_header.result
    (rw c.min.ensures at c.parse_header.ensures.value
    ∙ ap (header_of c.args.colours) (behind_ten c.in_ok-n.n c.read_header_line.new.line)) c.in_ok-n.ensures.line
