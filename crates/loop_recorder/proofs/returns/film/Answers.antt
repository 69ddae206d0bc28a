use Rattle.std.proofs.Common.{◌≡◌, ◌∙◌, ap, arith, length, map, vec_len}
use Rattle.std.proofs.lemmas.List.{length-map}
use Rattle.loop_pipeline.specs.Several.{shot_of}
use Rattle.loop_recorder.specs.Recordings.{outcome_left, outcome_rest, seen_filmed, shot_left, shot_rest}
use Rattle.loop_recorder.proofs.Kept.{are-filmed, back-filmed}
use Rattle.loop_recorder.proofs.Standing.{holds-fewer, stands-after}
use Rattle.loop_recorder.proofs.returns.film.Goals as goal

pub outcomes_back-requires-clause-each : goal.outcomes_back-requires-clause-each
outcomes_back-requires-clause-each g c κs within =
    λ k d l. stands-after _ _ _ _ _ _ _ _ _ (c.in-Ok.ensures.each k d l)

pub outcomes_back-requires-clause-room : goal.outcomes_back-requires-clause-room
outcomes_back-requires-clause-room g c κs within =
    holds-fewer
    (omega (
      arith,
      length-map c.in-Ok.outcomes.items shot_of,
      ap length c.in-Ok.ensures.shots,
      c.in-Ok.outcomes.ok.0,
      c.args.shots.ok.0,
    ))
    c.requires.room

pub returns-in-Ok-clause-count : goal.returns-in-Ok-clause-count
returns-in-Ok-clause-count g c =
    let outcomes = c.in-Ok.outcomes.items in
    let back = c.outcomes_back in
    let count : length outcomes ≡ vec_len c.args.shots =
    omega (arith, length-map outcomes shot_of, ap length c.in-Ok.ensures.shots, c.args.shots.ok.0) in (
      omega (arith, count, ap length back.ensures.rests, length-map outcomes outcome_rest, back.result.rests.ok.0),
      omega (
        arith,
        count,
        ap length back.ensures.filmed,
        length-map outcomes outcome_left,
        length-map back.result.filmed.items seen_filmed,
        back.result.filmed.ok.0,
      ),
    )

pub returns-in-Ok-clause-filmed : goal.returns-in-Ok-clause-filmed
returns-in-Ok-clause-filmed g c =
    are-filmed g.D.Disk.medium g.S.FrameSource.next_gives g.P.PlaneMemory.plane c.args.shots.items
    c.outcomes_back.result c.in-Ok.outcomes.items c.in-Ok.ensures.shots c.in-Ok.ensures.each
    c.outcomes_back.ensures.rests c.outcomes_back.ensures.filmed

pub returns-in-Err-clause-filmed : goal.returns-in-Err-clause-filmed
returns-in-Err-clause-filmed g c =
    back-filmed g.D.Disk.medium g.S.FrameSource.next_gives g.P.PlaneMemory.plane c.args.shots.items c.shots_back.result
    (c.shots_back.ensures.rests ∙ (λ i. map shot_rest (c.in-Err.ensures.refused i).items))
    (c.shots_back.ensures.filmed ∙ (λ i. map shot_left (c.in-Err.ensures.refused i).items))
