use Rattle.std.proofs.Common.{◌≡◌, map, ◌∙◌, subst}
use Rattle.loop_record.specs.Recording.{Recording}
use Rattle.loop_store.specs.Drawn.{drawn_image}
use Rattle.loop_store.specs.Seen.{Seen, StandsFor}
use Rattle.loop_store.proofs.Looks.{alike-by}
use Rattle.loop_store.proofs.store.Store.frames.Goals as goal

pub returns-clause-numbers : goal.returns-clause-numbers
returns-clause-numbers g c =
    subst (λ (v : Seen g.row.D.Denot). (r : Recording) → StandsFor g.D.Disk.medium v r
    → c.in_ok-held_numbers.field-0.items ≡ map (λ f. f.0) r.frames) c.self.view_is (λ r stands.
    let s = c.self.inside in
    let at = c.self.invariant.known in
    c.in_ok-held_numbers.ensures at.recording (drawn_image s.index.ring.geometry s.index.table.heads s.index.clips) at.known
    ∙ (alike-by g.D.Disk.medium s.disk s.index s.must_reopen r c.self.invariant stands.told).numbers)
