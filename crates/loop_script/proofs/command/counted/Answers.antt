use Rattle.std.proofs.Common.{sym}
use Rattle.loop_script.proofs.Words.{counted-long}
use Rattle.loop_script.proofs.command.counted.Goals as goal

pub returns-then-is_some : goal.returns-then-is_some
returns-then-is_some c =
    let long = counted-long c.args.name.now c.first_word.result.0.now c.first_word.result.1 (sym c.if-is_some.ensures) in
    rw c.first_word.ensures (sym long)
