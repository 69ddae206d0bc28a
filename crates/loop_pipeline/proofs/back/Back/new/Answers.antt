use Rattle.std.proofs.Common.{ap, subst}
use Rattle.loop_store.specs.Reopen.{TellsOne}
use Rattle.loop_pipeline.proofs.BackRuns.{begun}
use Rattle.loop_pipeline.proofs.back.Back.new.Goals as goal

pub invariant_of-result : goal.invariant_of-result
invariant_of-result g c =
    rw (c.push_reserved.ensures.items, c.in-Ok.ensures.items, c.of-opened.ensures, c.of-from_before.ensures, c.in-Ok-new.ensures.made)
    (begun g.D.Disk.medium g.K.Visits.asks g.K.Visits.gives_up c.args.desk c.args.from (subst TellsOne (ap (λ d. d.store) c.desk.ensures) c.opens.ensures.tells)
    (λ now. g.met.D.Disk.sound c.args.desk.store.disk now) c.requires.ring)
