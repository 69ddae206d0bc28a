use Rattle.std.proofs.Common.{sym}
use Rattle.loop_script.proofs.Words.{said-counted}
use Rattle.loop_script.proofs.command.read_command.Goals as goal

pub returns-in-Some-4 : goal.returns-in-Some-4
returns-in-Some-4 c =
    let counted = said-counted c.first_word.result.0.now c.in-Some-4.rest.now (sym c.if-eq.ensures)
    (sym c.if-eq-2.ensures) (sym c.if-eq-3.ensures) in
    rw (c.counted.ensures, c.first_word.ensures, c.in-Some-4.is) (sym counted)
