use Rattle.std.proofs.Common.{sym}
use Rattle.loop_script.proofs.Words.{geometry-long}
use Rattle.loop_script.proofs.command.geometry.Goals as goal

pub returns-then-is_some : goal.returns-then-is_some
returns-then-is_some c =
    let long = geometry-long c.first_word.result.0.now c.first_word-2.result.0.now c.first_word-3.result.0.now
    c.first_word-4.result.0.now c.first_word-5.result.0.now c.first_word-6.result.0.now c.first_word-6.result.1
    (sym c.if-is_some.ensures) in
    rw (
      c.first_word.ensures,
      c.in_ok-rest.was,
      c.first_word-2.ensures,
      c.in_ok-rest-2.was,
      c.first_word-3.ensures,
      c.in_ok-rest-3.was,
      c.first_word-4.ensures,
      c.in_ok-rest-4.was,
      c.first_word-5.ensures,
      c.in_ok-rest-5.was,
      c.first_word-6.ensures,
    ) (sym long)
