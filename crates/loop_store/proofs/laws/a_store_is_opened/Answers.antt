use Rattle.std.proofs.Common.{◌≡◌, Bool, false, refl, subst, sym}
use Rattle.loop_record.proofs.Bounds.{limits}
use Rattle.loop_store.specs.Reopen.{IsOpened}
use Rattle.loop_store.specs.Seen.{Seen, seen_with}
use Rattle.loop_store.proofs.Openings.{present-opened}
use Rattle.loop_store.proofs.laws.a_store_is_opened.Goals as goal

pub returns : goal.returns
returns g c =
    let s = c.store.inside in
    let i = s.index in
    let medium = g.D.Disk.medium in
    subst (λ (v : Seen g.row.D.Denot). v.must_reopen ≡ false → (medium v.disk).honest → IsOpened medium (medium v.disk).bytes v) c.store.view_is
    (λ fine now.
    subst (λ (b : Bool). IsOpened medium (medium s.disk).bytes (seen_with s.disk i b)) (sym fine)
    (present-opened medium s.disk i (medium s.disk).bytes (limits i.ring.geometry i.ring.good).slots.0
    c.store.invariant.fits.whole.within (c.store.invariant.present fine now) (refl, refl)))
