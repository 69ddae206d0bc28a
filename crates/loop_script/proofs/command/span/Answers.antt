use Rattle.std.proofs.Common.{sym}
use Rattle.loop_script.proofs.Words.{span-long}
use Rattle.loop_script.proofs.command.span.Goals as goal

pub returns-then-is_some : goal.returns-then-is_some
returns-then-is_some c =
    let long = span-long c.first_word.result.0.now c.first_word-2.result.0.now c.first_word-in-Some.result.0.now
    c.first_word-in-Some.result.1 (sym c.if-is_some.ensures) in
    rw (
      c.first_word.ensures,
      c.in_ok-rest.was,
      c.first_word-2.ensures,
      c.in-Some.is,
      c.first_word-in-Some.ensures,
    ) (sym long)
