use Rattle.std.proofs.Common.{rules, arith, drop, length-take, ◌∙◌, sym}
use Rattle.loop_y4m.proofs.HeaderStart.{bare_known, another_known, not_so, so, spaced_known}
use Rattle.loop_y4m.proofs.reader.read_header_line.Goals as goal

pub returns-then-eq-clause-line : goal.returns-then-eq-clause-line
returns-then-eq-clause-line g c = bare_known (g.R.Read.remaining c.args.reader.now)
    (g.R.Read.remaining c.fill.new.reader) c.fill.new.out (drop 10 c.args.line.now) (search rules)
    (rw c.as_slice.ensures at (sym c.eq.ensures ∙ c.if-eq.true)) c.in_ok-fill.ensures

pub returns-then-ne-clause-line : goal.returns-then-ne-clause-line
returns-then-ne-clause-line g c = another_known (g.R.Read.remaining c.args.reader.now)
    (g.R.Read.remaining c.fill.new.reader) c.fill.new.out (drop 10 c.args.line.now)
    (c.fill.auto.out ∙ omega (arith, length-take 10 c.args.line.now, c.requires))
    (rw c.as_slice-2.ensures at (not_so _ _ c.ne.ensures c.if-ne.true))
    (rw c.as_slice.ensures at (sym c.eq.ensures ∙ c.if-eq.false)) c.in_ok-fill.ensures

pub returns-clause-line : goal.returns-clause-line
returns-clause-line g c = spaced_known (g.R.Read.remaining c.args.reader.now) (g.R.Read.remaining c.fill.new.reader)
    (g.R.Read.remaining c.next_line.new.reader) c.fill.new.out (drop 10 c.args.line.now) c.next_line.new.buf
    c.next_line.result (c.fill.auto.out ∙ omega (arith, length-take 10 c.args.line.now, c.requires))
    (rw c.as_slice-2.ensures at (so _ _ c.ne.ensures c.if-ne.false)) c.in_ok-fill.ensures c.next_line.ensures.line
