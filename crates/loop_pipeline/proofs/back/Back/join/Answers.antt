use Rattle.std.proofs.Common.{◌∷◌, [], ap, subst}
use Rattle.std.proofs.lemmas.List.{map-append}
use Rattle.loop_store.specs.Reopen.{TellsOne}
use Rattle.loop_pipeline.proofs.BackRuns.{one-more}
use Rattle.loop_pipeline.proofs.Visiting.{kept-as}
use Rattle.loop_pipeline.proofs.back.Back.join.Goals as goal

pub invariant_of-self : goal.invariant_of-self
invariant_of-self g c =
    let done = c.in-Ok.ensures.done in
    rw (c.push_reserved.ensures.items, map-append (λ s. s.value) c.self.inside.began.items (c.of-opened.result ∷ []), c.of-opened.ensures)
    (kept-as g.D.Disk.medium g.K.Visits.asks g.K.Visits.gives_up _ _ _ _ _ _ _ c.join.new.self done.1 done.2 done.3
    (one-more g.D.Disk.medium g.K.Visits.asks g.K.Visits.gives_up _ _ _ _ _ _ _ c.args.desk (subst TellsOne (ap (λ d. d.store) c.desk.ensures) c.opens.ensures.tells)
    (λ now. g.met.D.Disk.sound c.args.desk.store.disk now) c.self.invariant))
