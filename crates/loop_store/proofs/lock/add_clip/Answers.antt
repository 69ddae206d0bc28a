use Rattle.std.proofs.Common.{ℕ, IsTrue, sym, subst}
use Rattle.loop_record.specs.Layout.{has_tag_place}
use Rattle.loop_record.proofs.Bounds.{limits}
use Rattle.loop_store.proofs.Locks.{entry-closed, lock-makes}
use Rattle.loop_store.proofs.lock.add_clip.Goals as goal

pub lock-written-requires-clause-closed : goal.lock-written-requires-clause-closed
lock-written-requires-clause-closed g c = λ honest. entry-closed c.args.index.now (g.D.Disk.medium c.args.disk.now)
    c.args.id (c.requires.present honest) c.requires.id.0 c.requires.id.1

pub returns-then-is_ok-clause-makes : goal.returns-then-is_ok-clause-makes
returns-then-is_ok-clause-makes g c = lock-makes c.args.index.now.version c.args.index.now.ring.geometry c.args.span c.args.id _ _ _
    (limits c.args.index.now.ring.geometry c.args.index.now.ring.good).slots.1 c.requires.id.0
    (λ honest. (c.requires.present honest).unstray) c.lock-written.ensures

pub returns-else-is_ok-clause-makes : goal.returns-else-is_ok-clause-makes
returns-else-is_ok-clause-makes g c = lock-makes c.args.index.now.version c.args.index.now.ring.geometry c.args.span c.args.id _ _ _
    (limits c.args.index.now.ring.geometry c.args.index.now.ring.good).slots.1 c.requires.id.0
    (λ honest. (c.requires.present honest).unstray) c.lock-written.ensures

pub lock-written-requires-clause-tag : goal.lock-written-requires-clause-tag
lock-written-requires-clause-tag g c = λ honest.
    subst (λ (v : ℕ). IsTrue (has_tag_place v c.args.span)) (sym (c.requires.present honest).version) c.requires.tag
