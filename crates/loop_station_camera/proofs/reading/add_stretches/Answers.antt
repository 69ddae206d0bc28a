use Rattle.std.proofs.Common.{length, refl, sym, ap, subst, ◌∙◌}
use Rattle.loop_pipeline.specs.Backs.{GoesAt}
use Rattle.loop_pipeline.specs.Desks.{SeenDesks}
use Rattle.loop_pipeline.proofs.DeskPlaces.{goes-still}
use Rattle.loop_station_camera.specs.Keeping.{IsOnlyRead}
use Rattle.loop_station_camera.proofs.ReadRuns.{here-then, not-read}
use Rattle.loop_station_camera.proofs.reading.add_stretches.Goals as goal
use Rattle.loop_station_camera.proofs.reading.add_stretches.Goals.{in-Read+in-Ok, in-Gap+in_ok-push-in-Gap, in-Again, else-turns-test, then-turns-test+in-Read+in-Err, then-turns-test+in-Over}

pub turns-init : goal.turns-init
turns-init g c = record {
  reads = goes-still c.args.desks.now.desks c.args.place (IsOnlyRead g.D.Disk.medium) c.requires
      (not-read g.D.Disk.medium);
  lent = refl;
  still = refl;
}

pub turns-preserved : goal.turns-preserved
turns-preserved g c = record {
  reads = elim c.match-turn.branch [
    | in-Read+in-Ok w ↦
        subst
        (λ (d : SeenDesks g.row.D.Denot). GoesAt c.args.place c.args.desks.now.desks d.desks (IsOnlyRead g.D.Disk.medium))
        (sym w.desks-is)
        (here-then g.D.Disk.medium c.args.desks.now.desks c.turns.desks.desks w.head_at.new.desks.desks c.args.place
        c.turns.invariant.reads w.head_at.ensures.reads)
    | in-Gap+in_ok-push-in-Gap w ↦
        subst
        (λ (d : SeenDesks g.row.D.Denot). GoesAt c.args.place c.args.desks.now.desks d.desks (IsOnlyRead g.D.Disk.medium))
        (sym w.desks-is) c.turns.invariant.reads
    | in-Again w ↦
        subst
        (λ (d : SeenDesks g.row.D.Denot). GoesAt c.args.place c.args.desks.now.desks d.desks (IsOnlyRead g.D.Disk.medium))
        (sym w.desks-is) c.turns.invariant.reads
  ];
  lent = elim c.match-turn.branch [
    | in-Read+in-Ok w ↦
        ap (λ (d : SeenDesks g.row.D.Denot). d.lent) w.desks-is ∙ (w.head_at.ensures.lent ∙ c.turns.invariant.lent)
    | in-Gap+in_ok-push-in-Gap w ↦
        ap (λ (d : SeenDesks g.row.D.Denot). d.lent) w.desks-is ∙ c.turns.invariant.lent
    | in-Again w ↦ ap (λ (d : SeenDesks g.row.D.Denot). d.lent) w.desks-is ∙ c.turns.invariant.lent
  ];
  still = elim c.match-turn.branch [
    | in-Read+in-Ok w ↦
        ap (λ (d : SeenDesks g.row.D.Denot). length d.desks) w.desks-is
        ∙ (w.head_at.ensures.still ∙ c.turns.invariant.still)
    | in-Gap+in_ok-push-in-Gap w ↦
        ap (λ (d : SeenDesks g.row.D.Denot). length d.desks) w.desks-is ∙ c.turns.invariant.still
    | in-Again w ↦ ap (λ (d : SeenDesks g.row.D.Denot). length d.desks) w.desks-is ∙ c.turns.invariant.still
  ];
}

pub returns-in_err-push-clause-reads : goal.returns-in_err-push-clause-reads
returns-in_err-push-clause-reads g c =
    elim c.turns-test.branch [
      | else-turns-test w ↦
          subst
          (λ (d : SeenDesks g.row.D.Denot). GoesAt c.args.place c.args.desks.now.desks d.desks (IsOnlyRead g.D.Disk.medium))
          (sym w.desks-is) c.turns.invariant.reads
      | then-turns-test+in-Read+in-Err w ↦
          subst
          (λ (d : SeenDesks g.row.D.Denot). GoesAt c.args.place c.args.desks.now.desks d.desks (IsOnlyRead g.D.Disk.medium))
          (sym w.desks-is)
          (here-then g.D.Disk.medium c.args.desks.now.desks c.turns.desks.desks w.head_at.new.desks.desks c.args.place
          c.turns.invariant.reads w.head_at.ensures.reads)
      | then-turns-test+in-Over w ↦
          subst
          (λ (d : SeenDesks g.row.D.Denot). GoesAt c.args.place c.args.desks.now.desks d.desks (IsOnlyRead g.D.Disk.medium))
          (sym w.desks-is) c.turns.invariant.reads
    ]

pub returns-clause-reads : goal.returns-clause-reads
returns-clause-reads g c =
    elim c.turns-test.branch [
      | else-turns-test w ↦
          subst
          (λ (d : SeenDesks g.row.D.Denot). GoesAt c.args.place c.args.desks.now.desks d.desks (IsOnlyRead g.D.Disk.medium))
          (sym w.desks-is) c.turns.invariant.reads
      | then-turns-test+in-Read+in-Err w ↦
          subst
          (λ (d : SeenDesks g.row.D.Denot). GoesAt c.args.place c.args.desks.now.desks d.desks (IsOnlyRead g.D.Disk.medium))
          (sym w.desks-is)
          (here-then g.D.Disk.medium c.args.desks.now.desks c.turns.desks.desks w.head_at.new.desks.desks c.args.place
          c.turns.invariant.reads w.head_at.ensures.reads)
      | then-turns-test+in-Over w ↦
          subst
          (λ (d : SeenDesks g.row.D.Denot). GoesAt c.args.place c.args.desks.now.desks d.desks (IsOnlyRead g.D.Disk.medium))
          (sym w.desks-is) c.turns.invariant.reads
    ]
