use Rattle.std.proofs.Common.{◌<◌, ap, length, refl, subst}
use Rattle.loop_pipeline.specs.Backs.{IsSoAt, SeenBack}
use Rattle.loop_pipeline.specs.Desks.{SeenDesks}
use Rattle.loop_pipeline.specs.Turns.{IsBetween, TurnsTo}
use Rattle.loop_pipeline.proofs.BackRuns.{turned-once}
use Rattle.loop_pipeline.proofs.Visiting.{back-but-active, back-stays, kept-as}
use Rattle.loop_pipeline.proofs.back.Back.turn.Goals as goal

pub invariant_of-self : goal.invariant_of-self
invariant_of-self g c =
    let new = c.turn-is_locked.new.self in
    let old = c.self.inside.desks in
    let same = ap (λ (b : SeenDesks g.row.D.Denot). b.desks) c.turn-is_locked.ensures.same in
    let still = ap (λ (b : SeenDesks g.row.D.Denot). b.lent.end) c.turn-is_locked.ensures.same in
    kept-as g.D.Disk.medium g.K.Visits.asks g.K.Visits.gives_up _ _ _ _ _ _ _ new same refl still
    (turned-once g.D.Disk.medium g.K.Visits.asks g.K.Visits.gives_up _ old.desks old.lent.active new.lent.active _ _ _ _
    c.turn-is_locked.result (subst (λ l. new.lent.active < length l) same c.visited.ensures.inside)
    c.turn-is_locked.ensures.turns
    (λ never. ap (λ (b : SeenDesks g.row.D.Denot). b.lent.active) (c.turn-is_locked.ensures.stays never).0) c.self.invariant)

pub returns-clause-turns : goal.returns-clause-turns
returns-clause-turns g c =
    subst (λ (b : SeenBack g.row.D.Denot g.row.A.Denot). IsSoAt b.active b.desks IsBetween
    → TurnsTo g.D.Disk.medium b.desks b.end b.active c.turn-is_locked.new.self.lent.active c.turn-is_locked.result) c.self.view_is
    c.turn-is_locked.ensures.turns

pub returns-clause-stays : goal.returns-clause-stays
returns-clause-stays g c =
    let new = c.turn-is_locked.new.self in
    back-stays _ _ new.desks new.lent.active new.lent.end c.turn-is_locked.result c.self.view_is
    (λ never. let both = c.turn-is_locked.ensures.stays never in (
      ap (λ (b : SeenDesks g.row.D.Denot). b.desks) both.0,
      ap (λ (b : SeenDesks g.row.D.Denot). b.lent.active) both.0,
      ap (λ (b : SeenDesks g.row.D.Denot). b.lent.end) both.0,
      both.1,
    ))

pub returns-clause-same : goal.returns-clause-same
returns-clause-same g c =
    back-but-active _ _ _ c.turn-is_locked.new.self.lent.active _ c.self.view_is
    (ap (λ (b : SeenDesks g.row.D.Denot). b.desks) c.turn-is_locked.ensures.same)
    (ap (λ (b : SeenDesks g.row.D.Denot). b.lent.end) c.turn-is_locked.ensures.same)
