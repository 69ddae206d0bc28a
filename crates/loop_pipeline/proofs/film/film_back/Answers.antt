use Rattle.std.proofs.Common.{◌≡◌, ◌∙◌, false, true, ap, refl, subst, sym}
use Rattle.std.specs.Global.{Global}
use Rattle.loop_pipeline.specs.Backs.{IsSettledBack, Joins, SeenBack}
use Rattle.loop_pipeline.proofs.Joining.{joins-none, joins-then}
use Rattle.loop_pipeline.proofs.film.film_back.Goals.{in-None, in-Some+then-NOTED+then-is_closed, in-Some+in-None-2}
use Rattle.loop_pipeline.proofs.film.film_back.Goals as goal

pub returns-clause-joins : goal.returns-clause-joins
returns-clause-joins g c =
    elim c.match-next.branch [
      | in-None w ↦ subst (Joins (c.args.door.now ≡ false) c.args.back) (sym w.back-is) c.turns.invariant
      | in-Some+then-NOTED+then-is_closed w ↦ subst (Joins (c.args.door.now ≡ false) c.args.back) (sym w.back-is)
          (joins-then _ _ _ _ c.turns.invariant (joins-then _ _ _ _ w.serve-some.ensures
          (joins-none _ _ _ (ap (λ (b : SeenBack g.row.D.Denot Global). b.began) w.flush_some.ensures.same)
          (ap (λ (b : SeenBack g.row.D.Denot Global). b.from) w.flush_some.ensures.same)
          (ap (λ (b : SeenBack g.row.D.Denot Global). b.start) w.flush_some.ensures.same))))
      | in-Some+in-None-2 w ↦ subst (Joins (c.args.door.now ≡ false) c.args.back) (sym w.back-is)
          (joins-then _ _ _ _ c.turns.invariant (joins-then _ _ _ _ w.serve-some.ensures
          (joins-none _ _ _ (ap (λ (b : SeenBack g.row.D.Denot Global). b.began) w.flush_some.ensures.same)
          (ap (λ (b : SeenBack g.row.D.Denot Global). b.from) w.flush_some.ensures.same)
          (ap (λ (b : SeenBack g.row.D.Denot Global). b.start) w.flush_some.ensures.same))))
    ]

pub turns-init : goal.turns-init
turns-init g c = joins-none _ _ _ refl refl refl

pub turns-preserved : goal.turns-preserved
turns-preserved g c =
    joins-then _ _ _ _ c.turns.invariant (joins-then _ _ _ _ c.serve-some.ensures
    (joins-none _ _ _ (ap (λ (b : SeenBack g.row.D.Denot Global). b.began) c.flush_some.ensures.same)
    (ap (λ (b : SeenBack g.row.D.Denot Global). b.from) c.flush_some.ensures.same)
    (ap (λ (b : SeenBack g.row.D.Denot Global). b.start) c.flush_some.ensures.same)))

pub turns-preserved-then-rest-gt0 : goal.turns-preserved-then-rest-gt0
turns-preserved-then-rest-gt0 g c =
    joins-then _ _ _ _ c.turns.invariant (joins-then _ _ _ _ c.serve-some.ensures
    (joins-none _ _ _ (ap (λ (b : SeenBack g.row.D.Denot Global). b.began) c.flush_some.ensures.same)
    (ap (λ (b : SeenBack g.row.D.Denot Global). b.from) c.flush_some.ensures.same)
    (ap (λ (b : SeenBack g.row.D.Denot Global). b.start) c.flush_some.ensures.same)))

-- it ends where nothing was left to flush
pub returns-clause-settled : goal.returns-clause-settled
returns-clause-settled g c plain =
    elim c.match-next.branch [
      | in-None w ↦ absurd (let no = w.in-None.ensures.steps in cc)
      | in-Some+then-NOTED+then-is_closed w ↦ absurd (let both : true ≡ false = w.if-NOTED.ensures ∙ plain in cc)
      | in-Some+in-None-2 w ↦ subst (λ (b : SeenBack g.row.D.Denot Global). IsSettledBack g.D.Disk.medium g.G.Visits.gives_up b)
          (sym w.back-is) (w.flush_some.ensures.settled plain w.in-None-2.is)
    ]
