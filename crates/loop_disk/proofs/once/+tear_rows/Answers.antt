use Rattle.std.proofs.Common.{◌≡◌, ◌+◌, length, ap, subst, arith}
use Rattle.std.proofs.lemmas.List.{nil_from_length}
use Rattle.std.proofs.lemmas.Result.{on_ok_weaker}
use Rattle.loop_disk.specs.Medium.{LeavesEachTorn}
use Rattle.loop_disk.specs.Rows.{joined}
use Rattle.loop_disk.proofs.RowBytes.{counted, first_failed, rows_torn}
use Rattle.loop_disk.proofs.TornWrites.{torn_joined, torn_none}
use Rattle.loop_disk.proofs.once.+tear_rows.Goals as goal

pub returns-in_default-clause-each : goal.returns-in_default-clause-each
returns-in_default-clause-each g t c = λ honest harsh.
    torn_none c.args.at (length (joined c.args.rows.now)) (g.D.Disk.medium c.args.disk.now)
    (ap (λ l. length (joined l)) (nil_from_length c.args.rows.now c.in_default.ensures.cases))

pub returns-in_err-tear-clause-disk : goal.returns-in_err-tear-clause-disk
returns-in_err-tear-clause-disk g t c = λ honest.
    first_failed c.args.at c.args.rows.now c.in-Some.first.now c.in-Some.others.now _ _ (g.D.Disk.medium c.args.disk.now)
    (g.D.Disk.medium c.tear.new.disk) c.tear.result c.from_residual.result c.in-Some.ensures.cases.0 c.from_residual.ensures.0
    (c.tear.ensures.disk honest)

pub returns-clause-disk : goal.returns-clause-disk
returns-clause-disk g t c = λ honest.
    rows_torn c.args.at c.args.keep c.saturating_sub-left.result c.args.rows.now c.in-Some.first.now c.in-Some.others.now
    (g.D.Disk.medium c.args.disk.now) (g.D.Disk.medium c.tear.new.disk) (g.D.Disk.medium c.tear_rows.new.disk) tt
    c.tear_rows.result c.in-Some.ensures.cases.0 c.saturating_sub-left.ensures
    (omega (arith, c.requires, (g.met.D.Disk.sound c.args.disk.now honest).length_is)) (c.in_ok-tear.ensures.disk honest)
    (c.tear_rows.ensures.disk (c.tear.ensures.called.honest.0 honest))

pub returns-clause-each : goal.returns-clause-each
returns-clause-each g t c = λ honest harsh.
    let n = length c.in-Some.first.now.now in
    let m = length (joined c.in-Some.others.now) in
    let old = g.D.Disk.medium c.args.disk.now in
    let new = g.D.Disk.medium c.tear_rows.new.disk in
    let count : length (joined c.args.rows.now) ≡ n + m = counted c.args.rows.now c.in-Some.first.now c.in-Some.others.now c.in-Some.ensures.cases.0 in
    on_ok_weaker c.tear_rows.result (λ rest.
    subst (λ k. LeavesEachTorn c.args.at k old new) (omega (arith, count))
    (torn_joined c.args.at n m old (g.D.Disk.medium c.tear.new.disk) new (g.met.D.Disk.sound c.args.disk.now honest)
    (omega (arith, c.requires, count)) (c.in_ok-tear.ensures.each honest harsh) rest))
    (c.tear_rows.ensures.each (c.tear.ensures.called.honest.0 honest) (c.tear.ensures.harsh harsh))
