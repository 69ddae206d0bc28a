use Rattle.std.proofs.Common.{subst}
use Rattle.loop_pipeline.specs.Seats.{AreNoted}
use Rattle.loop_pipeline.proofs.Seating.{kept-more}
use Rattle.loop_pipeline.proofs.seat.add_note.Goals as goal

pub returns-in-Some : goal.returns-in-Some
returns-in-Some g c noted before after call goes same kept =
    let here = subst (λ o. AreNoted g.D.Disk.medium noted o before) c.in-Some.is kept in
    (here.0, rw c.note.ensures.history (kept-more g.D.Disk.medium _ _ _ before after call _ here.1 goes same))
