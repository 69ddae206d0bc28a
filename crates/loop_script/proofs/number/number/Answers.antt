use Rattle.std.proofs.Common.{rules}
use Rattle.loop_script.proofs.Numerals.{number-parsed}
use Rattle.loop_script.proofs.number.number.Goals as goal

pub returns : goal.returns
returns c =
    let parsed = number-parsed c.args.word.now c.parse.result (search rules) (search rules) c.parse.ensures.value.0 in
    search (rules, parsed)
