use Rattle.std.proofs.Common.{◌≡◌, true, false, sym, ◌∙◌}
use Rattle.loop_pipeline.proofs.Searching.{elsewhere-best}
use Rattle.loop_pipeline.proofs.next.Search.next.Goals as goal

pub returns-in-None : goal.returns-in-None
returns-in-None c end spaces is =
    elsewhere-best end c.args.active spaces c.args.self.oldest c.place_of.result c.place_of.ensures.some c.place_of.ensures.none
    (sym is.free ∙ c.in-None.is) is.oldest (λ f. absurd (let e : true ≡ false = sym (is.here.1 f) ∙ c.if-self.false in cc))
