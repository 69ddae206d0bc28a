use Rattle.loop_pipeline.specs.Backs.{FitsBlock}
use Rattle.loop_pipeline.specs.Turns.{MayBegin}
use Rattle.loop_pipeline.proofs.Bringing.{as-many-there, brought-then, so-after, so-before}
use Rattle.loop_pipeline.proofs.back.Back.bring.Goals as goal

pub returns-clause-same : goal.returns-clause-same
returns-clause-same g c =
    brought-then c.args.self.now c.turn_among.new.self c.bring_here.new.self c.turn_among.ensures.same
    c.bring_here.ensures.same

pub returns-clause-fits : goal.returns-clause-fits
returns-clause-fits g c n is several =
    so-after c.args.self.now c.turn_among.new.self c.bring_here.new.self c.turn_among.ensures.same
    c.bring_here.ensures.same FitsBlock (c.bring_here.ensures.fits n is (λ a.
    as-many-there c.args.self.now c.turn_among.new.self c.bring_here.new.self c.turn_among.ensures.same
    c.bring_here.ensures.same (several a)))

pub returns-clause-begins : goal.returns-clause-begins
returns-clause-begins g c n is usual several =
    so-before c.args.self.now c.turn_among.new.self c.bring_here.new.self c.turn_among.ensures.same
    c.bring_here.ensures.same (MayBegin g.D.Disk.medium) (c.bring_here.ensures.begins n is usual (λ a.
    as-many-there c.args.self.now c.turn_among.new.self c.bring_here.new.self c.turn_among.ensures.same
    c.bring_here.ensures.same (several a)))
