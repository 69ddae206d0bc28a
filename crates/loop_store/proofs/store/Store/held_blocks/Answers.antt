use Rattle.std.proofs.Common.{◌≡◌, ap, length, ◌∙◌, subst}
use Rattle.loop_record.specs.Recording.{Recording, held_blocks, ring_of}
use Rattle.std.specs.List.{count_by}
use Rattle.loop_ring.specs.Heads.{has_frame}
use Rattle.loop_ring.proofs.HeldBlocks.{held-count}
use Rattle.loop_store.specs.Drawn.{drawn_image}
use Rattle.loop_store.specs.Seen.{Seen, StandsFor}
use Rattle.loop_store.proofs.Looks.{alike-by}
use Rattle.loop_store.proofs.Same.{blocks-same}
use Rattle.loop_store.proofs.store.Store.held_blocks.Goals as goal

pub returns : goal.returns
returns g c =
    let s = c.self.inside in
    let i = s.index in
    let medium = g.D.Disk.medium in
    subst (λ (v : Seen g.row.D.Denot). (r : Recording) → StandsFor medium v r
    → c.held_blocks.result ≡ length (held_blocks (ring_of v.geometry) r)) c.self.view_is
    (λ r stands.
    let at = c.self.invariant.known in
    c.held_blocks.ensures ∙ (ap (λ hs. count_by has_frame hs) at.known.heads_are
    ∙ (held-count i.ring.geometry at.recording (drawn_image i.ring.geometry i.table.heads i.clips) at.known.held
    ∙ ap length (blocks-same (ring_of i.ring.geometry) at.recording r
    (alike-by medium s.disk i s.must_reopen r c.self.invariant stands.told)))))
