use Rattle.std.proofs.Common.{arith}
use Rattle.loop_pipeline.proofs.SeveralStarts.{all-told}
use Rattle.loop_pipeline.proofs.several.film_in.Goals as goal

pub returns-clause-shots : goal.returns-clause-shots
returns-clause-shots g c =
    all-told _ _ _ _ _ _ _ c.with_rest.ensures.shots c.with_one.ensures.shots c.join_all-outcomes.ensures.shots
    c.start_all-one.ensures.shots

pub with_rest-requires-clause-room : goal.with_rest-requires-clause-room
with_rest-requires-clause-room g c =
    omega (
      arith,
      c.with_one.ensures.count,
      c.with_one.ensures.capacity,
      c.join_all-outcomes.ensures.count,
      c.join_all-outcomes.ensures.capacity,
      c.start_all-one.ensures.count,
      c.requires.outcomes.1,
    )
