use Rattle.std.proofs.Common.{ℕ, [], ◌∷◌, List, OnOk, sym, subst}
use Rattle.std.proofs.lemmas.Result.{on_ok_weaker, err_from_is_err_and}
use Rattle.loop_disk.specs.Medium.{LeavesOnly}
use Rattle.loop_disk.proofs.Moments.{called_on, weaker}
use Rattle.loop_record.specs.Reading.{Holds}
use Rattle.loop_record.specs.Recording.{Step, after_step, plain, recycle, ring_of}
use Rattle.loop_record.proofs.Bounds.{limits}
use Rattle.loop_store.specs.Grow.{IsFreeFor}
use Rattle.loop_store.proofs.BlockImages.{steps-joined}
use Rattle.loop_store.proofs.Room.{first-of, goes, replaced-begun, retired-free, retired-held, retired-held_or}
use Rattle.loop_store.proofs.grow.replace.Goals as goal
use Rattle.loop_store.proofs.Names.{HoldsSome}

pub returns-in_err-retire : goal.returns-in_err-retire
returns-in_err-retire g c =
    let h = c.args.index.now.ring.geometry in
    let j = c.args.segment in
    let p = err_from_is_err_and c.from_residual.result c.from_residual.ensures.1 in
    rw (p.1, p.2) (record {
      moments = λ r is honest held.
          let gone = goes h c.args.index.now.table.keep r c.args.next j _ (c.requires.known honest) held in
          subst (λ (steps : List Step). LeavesOnly (g.D.Disk.medium c.args.disk.now) (g.D.Disk.medium c.retire.new.disk) (HoldsSome h r steps)) (sym gone.steps)
          (weaker _ _ _ _ (c.retire.ensures.moments honest)
          (λ image either. retired-held_or h c.args.index.now.table.keep r gone.block j _ image held c.requires.segment gone.chosen gone.is
          either));
      held = λ r is honest held. tt;
      such = λ honest. tt;
      settled = λ honest. tt;
      fault = c.in_err-retire.ensures.fault;
      called = c.in_err-retire.ensures.called;
    })

pub begin-requires-clause-first : goal.begin-requires-clause-first
begin-requires-clause-first g c = λ now. first-of c.args.index.now.ring.geometry c.args.index.now.table.keep c.args.next c.args.segment _
    (c.requires.known (c.retire.ensures.called.honest.1 now))

pub begin-requires-clause-settled : goal.begin-requires-clause-settled
begin-requires-clause-settled g c = λ now. c.in_ok-retire.ensures.settled (c.retire.ensures.called.honest.1 now)

pub begin-requires-clause-free : goal.begin-requires-clause-free
begin-requires-clause-free g c = λ now.
    let honest = c.retire.ensures.called.honest.1 now in
    let h = c.args.index.now.ring.geometry in
    let known = c.requires.known honest in
    let gone = goes h c.args.index.now.table.keep known.recording c.args.next c.args.segment _ known known.held in
    subst (λ (n : ℕ). IsFreeFor h n c.args.segment (g.D.Disk.medium c.retire.new.disk).bytes) known.next_is
    (retired-free h known.recording.next gone.block c.args.segment _ _ (limits h c.args.index.now.ring.good).slots.1
    c.requires.segment gone.is (c.in_ok-retire.ensures.such honest))

pub returns : goal.returns
returns g c =
    let h = c.args.index.now.ring.geometry in
    let j = c.args.segment in
    let old = g.D.Disk.medium c.args.disk.now in
    let mid = g.D.Disk.medium c.retire.new.disk in
    let new = g.D.Disk.medium c.begin.new.disk in record {
      moments = λ r is honest held.
          let now = c.retire.ensures.called.honest.0 honest in
          let gone = goes h c.args.index.now.table.keep r c.args.next j old.bytes (c.requires.known honest) held in
          let gap = retired-held h c.args.index.now.table.keep r gone.block j old.bytes mid.bytes held
          c.requires.segment gone.chosen gone.is (c.in_ok-retire.ensures.such honest) in
          subst (λ (steps : List Step). LeavesOnly old new (HoldsSome h r steps)) (sym gone.steps)
          (steps-joined h r (recycle gone.block ∷ []) [] old mid new
          (weaker _ _ _ _ (c.retire.ensures.moments honest)
          (λ image either. retired-held_or h c.args.index.now.table.keep r gone.block j old.bytes image held c.requires.segment gone.chosen
          gone.is either))
          (c.begin.ensures.moments (after_step (ring_of h) r (recycle gone.block)) is now gap));
      held = λ r is honest held.
          let now = c.retire.ensures.called.honest.0 honest in
          let gone = goes h c.args.index.now.table.keep r c.args.next j old.bytes (c.requires.known honest) held in
          let gap = retired-held h c.args.index.now.table.keep r gone.block j old.bytes mid.bytes held
          c.requires.segment gone.chosen gone.is (c.in_ok-retire.ensures.such honest) in
          subst (λ (steps : List Step). OnOk c.begin.result (Holds h (plain (ring_of h) r steps) new.bytes)) (sym gone.steps)
          (c.begin.ensures.held (after_step (ring_of h) r (recycle gone.block)) is now gap);
      such = λ honest.
          let now = c.retire.ensures.called.honest.0 honest in
          let known = c.requires.known honest in
          on_ok_weaker c.begin.result (λ begun. (
            begun.0,
            replaced-begun h c.args.next j old.bytes mid.bytes new.bytes (limits h c.args.index.now.ring.good).slots.1
                c.requires.segment (first-of h c.args.index.now.table.keep c.args.next j old.bytes known) known.unstray
                (c.in_ok-retire.ensures.such honest) begun.1 begun.0.stray,
          ))
          (c.begin.ensures.such now);
      settled = λ honest. c.begin.ensures.settled (c.retire.ensures.called.honest.0 honest);
      fault = c.begin.ensures.fault;
      called = called_on old mid new _ c.in_ok-retire.ensures.called c.begin.ensures.called;
    }
