use Rattle.std.proofs.Common.{◌≡◌, ◌≤◌, ◌+◌, ℕ, ◌∙◌, sym, subst, arith}
use Rattle.std.proofs.lemmas.Result.{err_from_is_err_and}
use Rattle.loop_disk.proofs.Moments.{called_on}
use Rattle.loop_record.specs.Change.{HasNoTags}
use Rattle.loop_clips.proofs.UpgradeWrites.{IsCleared, cleared-none, cleared-more, cleared-past, clearing, known-open}
use Rattle.loop_clips.proofs.upgrade.clear_tags.Goals.{then-is_some+in_ok-clear_tag, else-is_some}
use Rattle.loop_clips.proofs.upgrade.clear_tags.Goals as goal

pub loop-id-init : goal.loop-id-init
loop-id-init g c = cleared-none _ (g.met.D.Disk.sound c.args.disk.now) c.requires.settled

pub clear_tag-requires-clause-extent : goal.clear_tag-requires-clause-extent
clear_tag-requires-clause-extent g c = omega (arith, c.loop-id.invariant.called.size, c.requires.extent)

pub returns-in_err-clear_tag-clause-moments : goal.returns-in_err-clear_tag-clause-moments
returns-in_err-clear_tag-clause-moments g c = λ honest.
    let there = c.loop-id.invariant.called.honest.0 honest in
    clearing c.loop-id.id _ _ _ c.clear_tag.result (omega arith)
    (known-open c.args.clips.now c.loop-id.id _ (omega arith) (c.requires.known honest) (sym c.is_some.ensures ∙ c.if-is_some.true))
    (g.met.D.Disk.sound c.loop-id.disk there)
    (c.loop-id.invariant.moments honest) (c.clear_tag.ensures.disk there)

pub returns-in_err-clear_tag-clause-called : goal.returns-in_err-clear_tag-clause-called
returns-in_err-clear_tag-clause-called g c =
    let p = err_from_is_err_and c.from_residual.result c.from_residual.ensures.1 in
    rw (p.1, p.2) (called_on (g.D.Disk.medium c.args.disk.now) (g.D.Disk.medium c.loop-id.disk) _ _
    c.loop-id.invariant.called c.in_err-clear_tag.ensures.called)

pub loop-id-preserved : goal.loop-id-preserved
loop-id-preserved g c =
    let old = g.D.Disk.medium c.args.disk.now in
    let sound = g.met.D.Disk.sound c.loop-id.disk in
    let room : 2560 ≤ (g.D.Disk.medium c.loop-id.disk).size = omega (arith, c.loop-id.invariant.called.size, c.requires.extent) in
    elim c.if-is_some.branch [
      | then-is_some+in_ok-clear_tag w ↦ subst (λ d. IsCleared (c.loop-id.id + 1) old (g.D.Disk.medium d)) (sym w.disk-is)
          (cleared-more c.loop-id.id old _ _ w.clear_tag.result (omega arith) room sound
          (λ honest. known-open c.args.clips.now c.loop-id.id _ (omega arith) (c.requires.known honest) (sym c.is_some.ensures ∙ w.if-is_some.true))
          c.loop-id.invariant
          w.clear_tag.ensures.disk (λ there. (w.in_ok-clear_tag.ensures.disk there).done)
          w.in_ok-clear_tag.ensures.called)
      | else-is_some w ↦ subst (λ d. IsCleared (c.loop-id.id + 1) old (g.D.Disk.medium d)) (sym w.disk-is)
          (cleared-past c.args.clips.now c.loop-id.id old _ (omega arith) sound c.requires.known c.loop-id.invariant
          (sym c.is_some.ensures ∙ w.if-is_some.false))
    ]

pub returns-clause-moments : goal.returns-clause-moments
returns-clause-moments g c = c.loop-id.invariant.moments

pub returns-clause-none : goal.returns-clause-none
returns-clause-none g c = λ honest.
    let all : c.loop-id.id ≡ 64 = omega arith in
    subst (λ (n : ℕ). HasNoTags n (g.D.Disk.medium c.loop-id.disk).bytes) all (c.loop-id.invariant.none honest)

pub returns-clause-called : goal.returns-clause-called
returns-clause-called g c = c.loop-id.invariant.called
