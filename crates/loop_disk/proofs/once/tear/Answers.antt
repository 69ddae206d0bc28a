use Rattle.std.proofs.Common.{◌≡◌, ℕ, ◌-◌, ◌≤◌, length, take, ap, subst, arith}
use Rattle.std.proofs.lemmas.List.{length-take}
use Rattle.std.proofs.lemmas.Result.{on_ok_weaker}
use Rattle.loop_disk.specs.Medium.{LeavesEachTorn}
use Rattle.loop_disk.proofs.TornWrites.{kept_and_rewritten, torn_joined}
use Rattle.loop_disk.proofs.once.tear.Goals as goal

pub returns-clause-disk : goal.returns-clause-disk
returns-clause-disk g c = λ honest.
    kept_and_rewritten c.args.at c.args.keep c.args.bytes.now _ (g.D.Disk.medium c.args.disk.now)
    (g.D.Disk.medium c.write_at.new.self) (g.D.Disk.medium c.rewrite.new.disk) tt c.rewrite.result
    (ap (λ (k : ℕ). take k c.args.bytes.now) c.min-keep.ensures) (c.in_ok-write_at.ensures.disk honest)
    (c.rewrite.ensures.disk (c.write_at.ensures.called.honest.0 honest))

pub returns-clause-each : goal.returns-clause-each
returns-clause-each g c = λ honest harsh.
    let at = c.args.at in
    let all = length c.args.bytes.now in
    let keep = c.min-keep.result in
    let old = g.D.Disk.medium c.args.disk.now in
    let mid = g.D.Disk.medium c.write_at.new.self in
    let new = g.D.Disk.medium c.rewrite.new.disk in
    let first = (c.in_ok-write_at.ensures.each harsh).1 in
    let few : keep ≤ all = omega (arith, c.min-keep.ensures) in
    let front : length (take keep c.args.bytes.now) ≡ keep = omega (arith, length-take keep c.args.bytes.now, few) in
    on_ok_weaker c.rewrite.result (λ rest.
    subst (λ (k : ℕ). LeavesEachTorn at k old new) (omega (arith, few))
    (torn_joined at keep (all - keep) old mid new (g.met.D.Disk.sound c.args.disk.now honest)
    (omega (arith, c.requires, few)) (subst (λ (k : ℕ). LeavesEachTorn at k old mid) front first) rest))
    (c.rewrite.ensures.each (c.write_at.ensures.called.honest.0 honest) (c.write_at.ensures.each harsh).0)
