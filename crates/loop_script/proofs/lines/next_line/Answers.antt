use Rattle.std.proofs.Common.{ap, arith}
use Rattle.loop_script.proofs.FirstLine.{first_read, some_left}
use Rattle.loop_script.proofs.lines.next_line.Goals as goal

pub returns-clause-line : goal.returns-clause-line
returns-clause-line g c =
    let same = ap (λ r. g.R.Read.remaining r.now) c.take-limited.ensures.inner in
    first_read _ _ _ _ _ _ same c.clear.ensures.items c.in-Ok.ensures.bytes c.strip_newline.ensures
    (omega (arith, c.take-limited.ensures.limit, c.len.ensures, c.if-len-gt-MAX_LINE.false))

pub returns-clause-more : goal.returns-clause-more
returns-clause-more g c =
    let same = ap (λ r. g.R.Read.remaining r.now) c.take-limited.ensures.inner in
    some_left _ _ _ _ _ same c.clear.ensures.items c.in-Ok.ensures.bytes (omega (arith, c.in-Ok.ensures.ok, c.in-Ok.field-0-test.1))
