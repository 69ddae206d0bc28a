use Rattle.std.proofs.Common.{◌≡◌, ap, arith, length, refl, subst, vec_len}
use Rattle.loop_recorder.specs.Opened.{AreNumbered, SeenRecorder}
use Rattle.loop_recorder.proofs.Ends.{broken-seen, none-given-up}
use Rattle.loop_recorder.proofs.opening.OpenRecorder.end.Goals as goal

pub returns-then-len-self-clause-refused : goal.returns-then-len-self-clause-refused
returns-then-len-self-clause-refused g c = (
  omega (arith, c.if-len-self.true, c.len.ensures, c.len-given.ensures),
  omega (arith, c.len-given.ensures, c.args.passes.ok.0),
  ap (λ (o : SeenRecorder g.row.A.Denot). o.passes) c.self.view_is,
  c.lock_again-recorder.ensures,
  refl,
)

pub part_cameras-cameras-requires-clause-few : goal.part_cameras-cameras-requires-clause-few
part_cameras-cameras-requires-clause-few g c =
    let outlines : c.self.inside.outlines.items ≡ c.args.self.outlines = ap (λ (o : SeenRecorder g.row.A.Denot). o.outlines) c.self.view_is in
    let all : vec_len c.args.cameras ≡ vec_len c.self.inside.outlines = omega (arith, c.requires, ap length outlines, c.self.inside.outlines.ok.0) in
    omega (arith, all, c.self.invariant.1.1.1.1.0)

pub part_cameras-cameras-requires-clause-ended : goal.part_cameras-cameras-requires-clause-ended
part_cameras-cameras-requires-clause-ended g c =
    let outlines : c.self.inside.outlines.items ≡ c.args.self.outlines = ap (λ (o : SeenRecorder g.row.A.Denot). o.outlines) c.self.view_is in
    let all : vec_len c.args.cameras ≡ vec_len c.self.inside.outlines = omega (arith, c.requires, ap length outlines, c.self.inside.outlines.ok.0) in
    (c.self.invariant.1.1.0, omega (arith, all, c.self.invariant.1.1.1.0))

pub compared-requires-clause-few : goal.compared-requires-clause-few
compared-requires-clause-few g c =
    let outlines : c.self.inside.outlines.items ≡ c.args.self.outlines = ap (λ (o : SeenRecorder g.row.A.Denot). o.outlines) c.self.view_is in
    let all : vec_len c.args.cameras ≡ vec_len c.self.inside.outlines = omega (arith, c.requires, ap length outlines, c.self.inside.outlines.ok.0) in
    omega (arith, c.part_cameras-cameras.ensures.count, all, c.self.invariant.1.1.1.1.0)

pub compared-requires-clause-ports : goal.compared-requires-clause-ports
compared-requires-clause-ports g c =
    let outlines : c.self.inside.outlines.items ≡ c.args.self.outlines = ap (λ (o : SeenRecorder g.row.A.Denot). o.outlines) c.self.view_is in
    let all : vec_len c.args.cameras ≡ vec_len c.self.inside.outlines = omega (arith, c.requires, ap length outlines, c.self.inside.outlines.ok.0) in
    subst (λ n. AreNumbered n c.part_cameras-cameras.result.1.items) all c.part_cameras-cameras.ensures.numbers

pub compared-requires-clause-counts : goal.compared-requires-clause-counts
compared-requires-clause-counts g c =
    let counts =
    none-given-up _ _ (vec_len c.self.inside.outlines) _ _ c.self.view_is c.self.inside.outlines.ok.0
    c.self.invariant.1.1.1.1.1 in
    omega (arith, counts.0, c.self.inside.given_up.ok.0)

pub returns-in-Ok-clause-desks : goal.returns-in-Ok-clause-desks
returns-in-Ok-clause-desks g c = rw c.in-Ok.ensures.parts.0 c.part_cameras-cameras.ensures.desks

pub returns-in-Ok-clause-given_up : goal.returns-in-Ok-clause-given_up
returns-in-Ok-clause-given_up g c =
    rw c.in-Ok.ensures.parts.2
    (none-given-up _ _ (vec_len c.self.inside.outlines) _ _ c.self.view_is c.self.inside.outlines.ok.0
    c.self.invariant.1.1.1.1.1).1

-- no pass is missing
pub returns-clause-refused : goal.returns-clause-refused
returns-clause-refused g c =
    broken-seen g.D.Disk.medium _ _ _ _ c.in-Err.ended c.self.view_is
    (c.in-Err.ensures.broken c.self.inside.passes (omega (arith, c.if-len-self.false, c.len.ensures)))
