use Rattle.std.proofs.Common.{rules, refl, sym, ◌∙◌}
use Rattle.loop_record.specs.Geometry.{is_good}
use Rattle.loop_station_words.proofs.ShapeTexts.{check-failed, check-passed, shape-none, shape-some}
use Rattle.loop_station_words.proofs.shape.shape_in.Goals as goal

pub returns-in_err-geometry-clause-said : goal.returns-in_err-geometry-clause-said
returns-in_err-geometry-clause-said c =
    let none = shape-none c.args.width.now c.args.height.now c.args.format.now c.args.rate.now
    (sym c.geometry_in.ensures ∙ c.in_err-geometry.was) in
    search (rules, none)

pub returns-then-is_err-clause-said : goal.returns-then-is_err-clause-said
returns-then-is_err-clause-said c =
    let some = shape-some c.args.width.now c.args.height.now c.args.format.now c.args.rate.now c.in_ok-geometry.geometry
    (sym c.geometry_in.ensures ∙ c.in_ok-geometry.was) in
    let bad = check-failed c.check.result (is_good c.in_ok-geometry.geometry) c.check.ensures
    (sym c.is_err.ensures.value ∙ c.if-is_err.true) in
    rw (some, bad) refl

pub returns-clause-said : goal.returns-clause-said
returns-clause-said c =
    let some = shape-some c.args.width.now c.args.height.now c.args.format.now c.args.rate.now c.in_ok-geometry.geometry
    (sym c.geometry_in.ensures ∙ c.in_ok-geometry.was) in
    let good = check-passed c.check.result (is_good c.in_ok-geometry.geometry) c.check.ensures
    (sym c.is_err.ensures.value ∙ c.if-is_err.false) in
    rw (some, good) refl
