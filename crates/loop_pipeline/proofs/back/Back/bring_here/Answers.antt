use Rattle.std.proofs.Common.{◌≤◌, Err, refl, ap, length, slice_get, subst, sym, ◌∙◌}
use Rattle.loop_record.specs.Recording.{picture}
use Rattle.loop_pipeline.specs.declared.entry.FrameInfo.{FrameInfo}
use Rattle.loop_pipeline.specs.Backs.{FitsBlock, HasRoom, IsSoAt, SeenBack}
use Rattle.loop_pipeline.specs.DeskEvents.{TakesFrame, desks_now}
use Rattle.loop_pipeline.specs.Nexts.{end_past}
use Rattle.loop_pipeline.specs.Turns.{MayBegin}
use Rattle.loop_pipeline.proofs.BackRuns.{accepted, brought, last, nothing}
use Rattle.loop_pipeline.proofs.DeskPlaces.{answered, brought-to, same-desk, still-fits, unchanged-end}
use Rattle.loop_pipeline.proofs.Places.{get-set-same, set-got}
use Rattle.loop_pipeline.proofs.Visiting.{kept-as, last-as}
use Rattle.loop_pipeline.proofs.back.Back.bring_here.Goals as goal

pub invariant_of-self : goal.invariant_of-self
invariant_of-self g c =
    let s = c.in-Nothing.ensures in
    kept-as g.D.Disk.medium g.K.Visits.asks g.K.Visits.gives_up _ _ _ _ _ _ _ c.submit_from.new.self
    (s.desks ∙ set-got _ _ _ _ s.at s.takes.same) s.active s.end
    (nothing g.D.Disk.medium g.K.Visits.asks g.K.Visits.gives_up _ _ _ _ _ _ _ _ c.self.invariant s.takes.ring s.takes.got)

pub invariant_of-self-in-Unnoted : goal.invariant_of-self-in-Unnoted
invariant_of-self-in-Unnoted g c =
    let s = c.in-Unnoted.ensures in
    kept-as g.D.Disk.medium g.K.Visits.asks g.K.Visits.gives_up _ _ _ _ _ _ _ c.submit_from.new.self
    (s.desks ∙ set-got _ _ _ _ s.at s.takes.same) s.active s.end
    (nothing g.D.Disk.medium g.K.Visits.asks g.K.Visits.gives_up _ _ _ _ _ _ _ _ c.self.invariant s.takes.ring s.takes.got)

pub invariant_of-self-in-Asked-default-Ok : goal.invariant_of-self-in-Asked-default-Ok
invariant_of-self-in-Asked-default-Ok g c =
    let s = c.in-Asked-default-Ok.ensures in
    kept-as g.D.Disk.medium g.K.Visits.asks g.K.Visits.gives_up _ _ _ _ _ _ _ c.submit_from.new.self s.desks s.active
    (s.end ∙ ap (λ (i : FrameInfo). end_past i.sequence) s.takes.is)
    (accepted g.D.Disk.medium g.K.Visits.asks g.K.Visits.gives_up _ _ _ _ _ _ _ _ c.self.invariant _ _ _ s.at s.takes.frame c.in-Asked-default-Ok.number
    refl (subst (λ (b : SeenBack g.row.D.Denot g.row.A.Denot). 2 ≤ length b.desks → TakesFrame g.D.Disk.medium (desks_now b))
    (sym c.self.view_is) c.requires)
    s.takes.ring s.takes.got (answered _ _ _ _ _ _ _ c.in-Asked-default-Ok.field-1-is s.takes.goes))

pub invariant_of-self-in-Asked-default-Err : goal.invariant_of-self-in-Asked-default-Err
invariant_of-self-in-Asked-default-Err g c =
    let s = c.in-Asked-default-Err.ensures in
    kept-as g.D.Disk.medium g.K.Visits.asks g.K.Visits.gives_up _ _ _ _ _ _ _ c.submit_from.new.self s.desks s.active
    (s.end ∙ ap (λ (i : FrameInfo). end_past i.sequence) s.takes.is)
    (brought g.D.Disk.medium g.K.Visits.asks g.K.Visits.gives_up _ _ _ _ _ _ _ _ c.self.invariant _ _ _ s.at s.takes.frame
    (Err c.in-Asked-default-Err.fault) refl (subst (λ (b : SeenBack g.row.D.Denot g.row.A.Denot). 2 ≤ length b.desks → TakesFrame g.D.Disk.medium (desks_now b))
    (sym c.self.view_is) c.requires)
    s.takes.ring s.takes.got
    (answered _ _ _ _ _ _ _ c.in-Asked-default-Err.field-1-is s.takes.goes))

pub returns-in-Asked-default-Ok-clause-told : goal.returns-in-Asked-default-Ok-clause-told
returns-in-Asked-default-Ok-clause-told g c =
    let s = c.in-Asked-default-Ok.ensures in (
      picture s.takes.frame,
      s.end ∙ ap (λ (i : FrameInfo). end_past i.sequence) s.takes.is,
      last-as g.D.Disk.medium _ _ _ _ c.submit_from.new.self s.desks s.active
          (last g.D.Disk.medium g.K.Visits.asks g.K.Visits.gives_up _ _ _ _ c.self.inside.from c.self.inside.from _ _ c.self.invariant
          _ _ _ s.at (answered _ _ _ _ _ _ _ c.in-Asked-default-Ok.field-1-is s.takes.goes)),
    )

pub returns-in-Asked-default-Err-clause-told : goal.returns-in-Asked-default-Err-clause-told
returns-in-Asked-default-Err-clause-told g c =
    let s = c.in-Asked-default-Err.ensures in (
      picture s.takes.frame,
      c.in-Asked-default-Err.fault,
      ap (λ (i : FrameInfo). record { sequence = i.sequence; timestamp = i.timestamp }) s.takes.is,
      s.end ∙ ap (λ (i : FrameInfo). end_past i.sequence) s.takes.is,
      last-as g.D.Disk.medium _ _ _ _ c.submit_from.new.self s.desks s.active
          (last g.D.Disk.medium g.K.Visits.asks g.K.Visits.gives_up _ _ _ _ c.self.inside.from c.self.inside.from _ _ c.self.invariant
          _ _ _ s.at (answered _ _ _ _ _ _ _ c.in-Asked-default-Err.field-1-is s.takes.goes)),
    )

pub returns-in-Asked-default-Ok-clause-fits : goal.returns-in-Asked-default-Ok-clause-fits
returns-in-Asked-default-Ok-clause-fits g c n is several =
    let s = c.in-Asked-default-Ok.ensures in
    let room = c.has_room.ensures.frame c.if-not-has_room.false
    (λ a. subst (λ (b : SeenBack g.row.D.Denot g.row.A.Denot). 2 ≤ length b.desks) (sym c.self.view_is) (several a)) in
    subst (λ (b : SeenBack g.row.D.Denot g.row.A.Denot). IsSoAt b.active c.submit_from.new.self.desks FitsBlock)
    c.self.view_is (
      s.after,
      ap (λ l. slice_get l c.self.inside.desks.lent.active) s.desks
          ∙ get-set-same c.self.inside.desks.desks c.self.inside.desks.lent.active _ _ s.at,
      still-fits g.D.Disk.medium _ _ _ _ _ (answered _ _ _ _ _ _ _ c.in-Asked-default-Ok.field-1-is s.takes.goes) s.takes.same
          (same-desk HasRoom c.self.inside.desks.desks c.self.inside.desks.lent.active _ s.at room),
    )

pub returns-then-self-clause-same : goal.returns-then-self-clause-same
returns-then-self-clause-same g c = unchanged-end _ _ c.self.view_is c.self.invariant.inside

pub returns-then-not-has_room-clause-same : goal.returns-then-not-has_room-clause-same
returns-then-not-has_room-clause-same g c = unchanged-end _ _ c.self.view_is c.self.invariant.inside

pub returns-in-Nothing-clause-same : goal.returns-in-Nothing-clause-same
returns-in-Nothing-clause-same g c =
    let s = c.in-Nothing.ensures in brought-to _ _ s.after _ _ c.self.view_is s.desks s.active

pub returns-in-Unnoted-clause-same : goal.returns-in-Unnoted-clause-same
returns-in-Unnoted-clause-same g c =
    let s = c.in-Unnoted.ensures in brought-to _ _ s.after _ _ c.self.view_is s.desks s.active

pub returns-in-Asked-default-Ok-clause-same : goal.returns-in-Asked-default-Ok-clause-same
returns-in-Asked-default-Ok-clause-same g c =
    let s = c.in-Asked-default-Ok.ensures in brought-to _ _ s.after _ _ c.self.view_is s.desks s.active

pub returns-in-Asked-default-Err-clause-same : goal.returns-in-Asked-default-Err-clause-same
returns-in-Asked-default-Err-clause-same g c =
    let s = c.in-Asked-default-Err.ensures in brought-to _ _ s.after _ _ c.self.view_is s.desks s.active

pub returns-in-Asked-default-Ok-clause-begins : goal.returns-in-Asked-default-Ok-clause-begins
returns-in-Asked-default-Ok-clause-begins g c n is usual several =
    subst (λ (b : SeenBack g.row.D.Denot g.row.A.Denot). IsSoAt b.active b.desks (MayBegin g.D.Disk.medium)) c.self.view_is
    (c.has_room.ensures.block c.if-not-has_room.false usual
    (λ a. subst (λ (b : SeenBack g.row.D.Denot g.row.A.Denot). 2 ≤ length b.desks) (sym c.self.view_is) (several a)))

pub returns-in-Nothing-clause-told : goal.returns-in-Nothing-clause-told
returns-in-Nothing-clause-told g c =
    c.in-Nothing.ensures.end ∙ ap (λ (b : SeenBack g.row.D.Denot g.row.A.Denot). b.end) c.self.view_is

pub returns-in-Unnoted-clause-told : goal.returns-in-Unnoted-clause-told
returns-in-Unnoted-clause-told g c =
    c.in-Unnoted.ensures.end ∙ ap (λ (b : SeenBack g.row.D.Denot g.row.A.Denot). b.end) c.self.view_is
