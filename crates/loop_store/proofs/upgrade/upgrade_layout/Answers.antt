use Rattle.std.proofs.Common.{Err, refl}
use Rattle.loop_store.specs.declared.fault.StoreFault.TheVariants.{MustReopen}
use Rattle.loop_store.specs.Calls.{upgraded}
use Rattle.loop_store.proofs.Locks.{entry-is}
use Rattle.loop_store.proofs.Looks.{one-kept}
use Rattle.loop_store.proofs.Once.{goes-must}
use Rattle.loop_store.proofs.Upgrades.{goes-already, goes-not_upgraded, goes-upgraded, kept-upgraded}
use Rattle.loop_store.proofs.upgrade.upgrade_layout.Goals as goal

pub returns-then-must_reopen-clause-goes : goal.returns-then-must_reopen-clause-goes
returns-then-must_reopen-clause-goes g c =
    goes-must g.D.Disk.medium _ (upgraded (Err MustReopen))
    (one-kept g.D.Disk.medium c.args.disk.now c.args.index.now c.args.must_reopen.now c.requires)
    (λ honest. g.met.D.Disk.sound c.args.disk.now honest) c.if-must_reopen.true
    (record { version = λ v. refl; unfailed = refl; none = refl; made_none = λ h t. refl; begun_none = λ h t. refl }) refl

pub returns-then-index-eq-TAGGED-clause-goes : goal.returns-then-index-eq-TAGGED-clause-goes
returns-then-index-eq-TAGGED-clause-goes g c =
    goes-already g.D.Disk.medium c.args.disk.now c.args.index.now c.args.must_reopen.now c.requires
    c.if-must_reopen.false c.if-index-eq-TAGGED.true (λ honest. g.met.D.Disk.sound c.args.disk.now honest)

pub upgrade-requires-clause-settled : goal.upgrade-requires-clause-settled
upgrade-requires-clause-settled g c = λ honest. (c.requires.present c.if-must_reopen.false honest).settled

pub upgrade-requires-clause-clips : goal.upgrade-requires-clause-clips
upgrade-requires-clause-clips g c = λ honest id l. entry-is c.args.index.now (g.D.Disk.medium c.args.disk.now) id
    (c.requires.present c.if-must_reopen.false honest) l

pub returns-in-Ok-clause-kept : goal.returns-in-Ok-clause-kept
returns-in-Ok-clause-kept g c = (
  kept-upgraded g.D.Disk.medium c.args.disk.now c.upgrade.new.disk c.args.index.now c.args.must_reopen.now c.requires
      c.if-must_reopen.false (record {
        called = c.in-Ok.ensures.called;
        moments = c.in-Ok.ensures.moments;
        such = c.in-Ok.ensures.such;
        settled = c.in-Ok.ensures.settled;
      }),
  refl,
)

pub returns-in-Ok-clause-goes : goal.returns-in-Ok-clause-goes
returns-in-Ok-clause-goes g c =
    goes-upgraded g.D.Disk.medium c.args.disk.now c.upgrade.new.disk c.args.index.now c.args.must_reopen.now c.requires
    c.if-must_reopen.false c.if-index-eq-TAGGED.false (record {
      called = c.in-Ok.ensures.called;
      moments = c.in-Ok.ensures.moments;
      such = c.in-Ok.ensures.such;
      settled = c.in-Ok.ensures.settled;
    })

pub returns-in-Err-clause-goes : goal.returns-in-Err-clause-goes
returns-in-Err-clause-goes g c =
    goes-not_upgraded g.D.Disk.medium c.args.disk.now c.upgrade.new.disk c.args.index.now c.args.must_reopen.now
    c.in-Err.fault c.requires c.if-must_reopen.false c.if-index-eq-TAGGED.false
    (λ honest. g.met.D.Disk.sound c.upgrade.new.disk honest) c.in-Err.ensures.called c.in-Err.ensures.moments
    c.in-Err.ensures.fault
