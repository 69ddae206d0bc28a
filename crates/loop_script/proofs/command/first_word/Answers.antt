use Rattle.std.proofs.Common.{Some, None, lit<}
use Rattle.std.proofs.lemmas.Str.Pattern.{split_once_first, split_parts}
use Rattle.loop_script.proofs.Words.{words-parted, words-one}
use Rattle.loop_script.proofs.command.first_word.Goals as goal

pub returns-in-Some : goal.returns-in-Some
returns-in-Some c =
    let line = c.args.line.now in
    let parts = split_once_first 32 line (Some (c.in-Some.word, c.in-Some.rest)) c.in-Some.ensures.cases (lit< tt) in
    words-parted line c.in-Some.word.now c.in-Some.rest.now parts.1 parts.2 parts.0

pub returns-in-None : goal.returns-in-None
returns-in-None c =
    words-one c.args.line.now (split_parts 32 c.args.line.now None c.in-None.ensures.cases (lit< tt))
