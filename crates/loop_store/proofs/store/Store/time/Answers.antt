use Rattle.std.proofs.Common.{◌≡◌, Some, ap, ◌∙◌, subst}
use Rattle.loop_record.specs.Recording.{Picture, Recording, frame_under}
use Rattle.loop_ring.specs.declared.group.SlotStamp.{SlotStamp}
use Rattle.loop_store.specs.Seen.{Seen, StandsFor}
use Rattle.loop_store.proofs.Looks.{stamps-known}
use Rattle.loop_store.proofs.store.Store.time.Goals as goal

pub returns : goal.returns
returns g c =
    let s = c.self.inside in
    let medium = g.D.Disk.medium in
    subst (λ (v : Seen g.row.D.Denot). (r : Recording) → StandsFor medium v r → (p : Picture)
    → frame_under r.frames c.args.number ≡ Some p → c.stamp_under.result.time ≡ p.timestamp) c.self.view_is
    (λ r stands p there. ap (λ (x : SlotStamp). x.time)
    (c.stamp_under.ensures ∙ stamps-known s.disk s.index s.must_reopen r stands.told c.args.number p there))
