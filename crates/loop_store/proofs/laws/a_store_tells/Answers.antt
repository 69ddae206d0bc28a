use Rattle.loop_store.proofs.Looks.{one-seen}
use Rattle.loop_store.proofs.laws.a_store_tells.Goals as goal

pub returns : goal.returns
returns g c =
    let s = c.store.inside in
    one-seen g.D.Disk.medium s.disk s.index s.must_reopen c.store.invariant c.store.view_is
