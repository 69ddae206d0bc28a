use Rattle.std.proofs.Common.{◌≤◌, ◌*◌, ◌-◌, ◌^◌, min, sym, ap, ◌∙◌, subst}
use Rattle.loop_record.specs.declared.geometry.Geometry.{Geometry}
use Rattle.loop_record.specs.Recording.{Recording}
use Rattle.loop_record.proofs.Bounds.{limits}
use Rattle.loop_store.specs.Numbers.{is_among}
use Rattle.loop_store.specs.Seen.{StandsFor, ring_in}
use Rattle.loop_desk.specs.Seen.{SeenDesk}
use Rattle.loop_desk.specs.Space.{TellsOldest}
use Rattle.loop_desk.proofs.Spaces.{one-held, tells-first}
use Rattle.loop_desk.proofs.desk.Desk.oldest.Goals as goal

pub returns-in_err-first : goal.returns-in_err-first
returns-in_err-first g c =
    let s = c.self.inside in
    let medium = g.D.Disk.medium in
    let ring = ring_in s.store in
    let slots = (limits c.geometry.result c.geometry.ensures.good).slots.0 in
    let some = subst (λ (geometry : Geometry). 1 ≤ geometry.slots) c.geometry.ensures.geometry slots in
    let start-is = c.saturating_mul.ensures ∙ ap (λ n. min (c.in_ok-block.block * n) (2 ^ 64 - 1))
    (c.from-slots.ensures ∙ ap (λ (geometry : Geometry). geometry.slots) c.geometry.ensures.geometry) in
    subst (λ (v : SeenDesk g.row.D.Denot). (r : Recording) → StandsFor medium v.store r
    → TellsOldest (ring_in v.store) v.store.keep r c.from_residual-in_err-first.result) c.self.view_is
    (λ r stands. absurd (one-held ring s.store.keep r c.in_ok-block.block some stands.told.formed
    (sym (c.in_ok-block.ensures r stands)) (is_among s.store.numbers) stands.told.numbers_are
    c.saturating_mul.result start-is c.in_err-first.ensures.least))

pub returns : goal.returns
returns g c =
    let s = c.self.inside in
    let medium = g.D.Disk.medium in
    let ring = ring_in s.store in
    let slots = (limits c.geometry.result c.geometry.ensures.good).slots.0 in
    let some = subst (λ (geometry : Geometry). 1 ≤ geometry.slots) c.geometry.ensures.geometry slots in
    let start-is = c.saturating_mul.ensures ∙ ap (λ n. min (c.in_ok-block.block * n) (2 ^ 64 - 1))
    (c.from-slots.ensures ∙ ap (λ (geometry : Geometry). geometry.slots) c.geometry.ensures.geometry) in
    subst (λ (v : SeenDesk g.row.D.Denot). (r : Recording) → StandsFor medium v.store r
    → TellsOldest (ring_in v.store) v.store.keep r c.sequence.result) c.self.view_is
    (λ r stands. tells-first ring s.store.keep r c.in_ok-block.block some stands.told.formed
    (sym (c.in_ok-block.ensures r stands)) (is_among s.store.numbers) stands.told.numbers_are
    c.saturating_mul.result start-is c.in_ok-first.first c.sequence.result c.in_ok-first.ensures.low
    c.in_ok-first.ensures.least (c.sequence.ensures r stands))
