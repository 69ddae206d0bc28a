use Rattle.loop_desk.proofs.Blind.{outline-bare, outline-tells}
use Rattle.loop_desk.proofs.laws.outlines_are_blind.Goals as goal

pub returns : goal.returns
returns g c = λ outline s told stands now.
    let is = outline-tells g.D.Disk.medium _ outline s told stands now in
    (is, outline-bare s outline is)
