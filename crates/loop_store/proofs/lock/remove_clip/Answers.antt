use Rattle.loop_record.proofs.Bounds.{limits}
use Rattle.loop_store.proofs.Locks.{entry-open, unlock-makes}
use Rattle.loop_store.proofs.lock.remove_clip.Goals as goal

pub unlock-written-requires-clause-there : goal.unlock-written-requires-clause-there
unlock-written-requires-clause-there g c = λ honest. entry-open c.args.index.now (g.D.Disk.medium c.args.disk.now)
    c.args.id (c.requires.present honest) c.requires.id.0 c.requires.id.1

pub returns-then-is_ok-clause-makes : goal.returns-then-is_ok-clause-makes
returns-then-is_ok-clause-makes g c = unlock-makes c.args.index.now.ring.geometry c.args.id _ _ _
    (limits c.args.index.now.ring.geometry c.args.index.now.ring.good).slots.1 c.requires.id.0
    (λ honest. (c.requires.present honest).unstray) c.unlock-written.ensures

pub returns-else-is_ok-clause-makes : goal.returns-else-is_ok-clause-makes
returns-else-is_ok-clause-makes g c = unlock-makes c.args.index.now.ring.geometry c.args.id _ _ _
    (limits c.args.index.now.ring.geometry c.args.index.now.ring.good).slots.1 c.requires.id.0
    (λ honest. (c.requires.present honest).unstray) c.unlock-written.ensures
