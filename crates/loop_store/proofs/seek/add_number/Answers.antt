use Rattle.std.proofs.Common.{[], ◌∷◌, ◌++◌, sym, ap, ◌∙◌}
use Rattle.loop_record.specs.declared.clip.Span.{Span}
use Rattle.loop_record.proofs.TestFacts.{differ, equal}
use Rattle.loop_store.proofs.TimeRuns.{added-longer, added-new}
use Rattle.loop_store.proofs.seek.add_number.Goals as goal

pub returns-then-is_next : goal.returns-then-is_next
returns-then-is_next g c =
    let n = c.args.number in
    added-longer c.args.runs.now.items c.pop.new.self.items c.push_reserved-then-is_next.new.self.items c.in-Some.last n
    (sym c.reserve.ensures.items ∙ c.in-Some.ensures.items) (equal _ n (sym c.is_next.ensures ∙ c.if-is_next.true))
    c.push_reserved-then-is_next.ensures.items

pub returns-else-is_next : goal.returns-else-is_next
returns-else-is_next g c =
    let n = c.args.number in
    added-new c.args.runs.now.items c.pop.new.self.items c.push_reserved-else-is_next.new.self.items
    c.push_reserved-else-is_next-2.new.self.items c.in-Some.last n
    (sym c.reserve.ensures.items ∙ c.in-Some.ensures.items) (differ _ n (sym c.is_next.ensures ∙ c.if-is_next.false))
    c.push_reserved-else-is_next.ensures.items
    (c.push_reserved-else-is_next-2.ensures.items ∙ ap (λ (s : Span). c.push_reserved-else-is_next.new.self.items ++ s ∷ []) c.one-else-is_next.ensures)
