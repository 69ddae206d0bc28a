use Rattle.std.proofs.Common.{◌≡◌, ap, ◌∙◌, subst}
use Rattle.loop_record.specs.Recording.{Recording, ring_of, victim}
use Rattle.loop_ring.specs.Heads.{clip_counts}
use Rattle.loop_store.specs.Drawn.{drawn_image}
use Rattle.loop_store.specs.Seen.{Seen, StandsFor}
use Rattle.loop_store.proofs.Looks.{alike-by}
use Rattle.loop_store.proofs.Same.{victim-same}
use Rattle.loop_store.proofs.store.Store.victim.Goals as goal

pub returns : goal.returns
returns g c =
    let s = c.self.inside in
    let i = s.index in
    let medium = g.D.Disk.medium in
    subst (λ (v : Seen g.row.D.Denot). (r : Recording) → StandsFor medium v r → c.victim.result ≡ victim (ring_of v.geometry) v.keep r) c.self.view_is
    (λ r stands.
    let at = c.self.invariant.known in
    let known = at.known in
    c.victim.ensures.victim i.ring.geometry at.recording (drawn_image i.ring.geometry i.table.heads i.clips)
    known.held known.heads_are (c.self.invariant.fits.whole.counted
    ∙ ap (λ cs. clip_counts (ring_of i.ring.geometry) cs i.table.heads) known.clips_are)
    ∙ victim-same (ring_of i.ring.geometry) i.table.keep at.recording r (alike-by medium s.disk i s.must_reopen r c.self.invariant stands.told))
