use Rattle.std.proofs.Common.{◌⊎◌, subst}
use Rattle.loop_record.specs.Recording.{Recording}
use Rattle.loop_store.specs.Seen.{Seen, StandsFor}
use Rattle.loop_store.proofs.SomeRecording.{stands-known}
use Rattle.loop_store.proofs.laws.a_store_stands.Goals as goal

pub returns : goal.returns
returns g c =
    let s = c.store.inside in
    let medium = g.D.Disk.medium in
    subst (λ (v : Seen g.row.D.Denot). (medium v.disk).honest ⊎ ((medium v.disk).honest → ⊥) → (r : Recording) × StandsFor medium v r) c.store.view_is
    (stands-known medium s.disk s.index s.must_reopen c.store.invariant)
