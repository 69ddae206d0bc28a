use Rattle.std.proofs.Common.{rules, arith, ◌∙◌, sym, length-take, length-drop}
use Rattle.loop_y4m.proofs.Words.{last_word, said, unsaid}
use Rattle.loop_y4m.proofs.frame.line_says.Goals as goal

pub returns-in-Some : goal.returns-in-Some
returns-in-Some c = sym (said c.args.name.now c.loop-number.rest.now c.find-end.result c.in-Some.number c.find-end.ensures.value
    c.find-end.ensures.bound (sym c.word_says.ensures ∙ c.in-Some.is)) ∙ c.loop-number.invariant.unsaid

pub returns-then-end-rest : goal.returns-then-end-rest
returns-then-end-rest c = sym (last_word c.args.name.now c.loop-number.rest.now c.find-end.result c.find-end.ensures.value
    (omega (arith, c.if-end-rest.true)) ∙ (sym c.word_says.ensures ∙ c.in_default.is)) ∙ c.loop-number.invariant.unsaid

pub loop-number-preserved : goal.loop-number-preserved
loop-number-preserved c = record {
  shorter = search (rules, c.loop-number.invariant.shorter, length-take, length-drop);
  unsaid = unsaid c.args.name.now c.loop-number.rest.now c.find-end.result c.find-end.ensures.value
      (omega (arith, c.find-end.ensures.bound, c.if-end-rest.false)) (sym c.word_says.ensures ∙ c.in_default.is)
      ∙ c.loop-number.invariant.unsaid;
}
