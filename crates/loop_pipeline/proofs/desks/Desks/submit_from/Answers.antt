use Rattle.std.proofs.Common.{◌<◌, refl, subst, sym}
use Rattle.std.proofs.lemmas.List.{length-set}
use Rattle.loop_pipeline.proofs.Places.{read-at}
use Rattle.loop_pipeline.proofs.Visiting.{none-visited}
use Rattle.loop_pipeline.proofs.desks.Desks.submit_from.Goals as goal

pub invariant_of-self : goal.invariant_of-self
invariant_of-self g c =
    rw c.of.ensures (none-visited g.D.Disk.medium g.K.Visits.asks _ _
    (subst (λ n. c.self.inside.active < n) (sym (length-set c.self.inside.seats.items c.self.inside.active _))
    c.self.invariant.inside))

pub returns : goal.returns
returns g c =
    rw (sym c.self.view_is) (record {
      before = c.index_mut.result.now;
      after = c.submit_from-taken.new.self;
      at = read-at _ _ _ c.self.invariant.inside c.index_mut.ensures.value;
      takes = c.submit_from-taken.ensures.takes;
      desks = refl;
      active = refl;
      end = c.end_with-self-inside.ensures;
    })
