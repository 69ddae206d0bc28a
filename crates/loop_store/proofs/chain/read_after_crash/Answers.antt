use Rattle.std.proofs.Common.{List, ℕ, sym, ap, subst, ◌∙◌}
use Rattle.loop_record.specs.Geometry.{frame_bytes}
use Rattle.loop_record.specs.Reading.{Holds}
use Rattle.loop_store.proofs.CrashOpenings.{opened-same, read-held}
use Rattle.loop_store.proofs.CallRuns.{told-of}
use Rattle.loop_store.proofs.Openings.{refused-held, refused-honest}
use Rattle.loop_store.proofs.chain.read_after_crash.Goals as goal

pub returns-in-Err : goal.returns-in-Err
returns-in-Err g c = λ s stands fine honest crashed there.
    let kept = stands.must_reopen ∙ fine in
    let image = (g.E.Disk.medium c.args.crashed).bytes in
    let same = stands.recording.settled kept honest image c.requires.left in
    refused-held c.args.store.now.geometry s.recording image c.in-Err.field-0.fault
    (subst (λ (i : List ℕ). Holds c.args.store.now.geometry s.recording i) (sym same) (stands.recording.held kept honest))
    (refused-honest (g.E.Disk.medium c.args.crashed) (g.E.Disk.medium c.in-Err.field-0.disk) 1 c.in-Err.field-0.fault
    c.in-Err.ensures.called.honest.0 (λ now. g.met.E.Disk.sound c.in-Err.field-0.disk now) c.in-Err.ensures.stays
    c.in-Err.ensures.refused crashed)

pub returns-then-out-frame_bytes : goal.returns-then-out-frame_bytes
returns-then-out-frame_bytes g c = λ s stands fine honest crashed there.
    let same = opened-same g.D.Disk.medium g.E.Disk.medium c.args.store.now c.in-Ok.opened
    (g.E.Disk.medium c.args.crashed).bytes s stands fine honest c.requires.left (c.in-Ok.ensures.opened crashed)
    c.in-Ok.ensures.fine in
    absurd (c.if-out-frame_bytes.true (c.requires.size ∙ sym (c.frame_bytes.ensures ∙ ap frame_bytes (c.geometry.ensures.geometry ∙ same.geometry))))

pub returns : goal.returns
returns g c = λ s stands fine honest crashed there.
    let same = opened-same g.D.Disk.medium g.E.Disk.medium c.args.store.now c.in-Ok.opened
    (g.E.Disk.medium c.args.crashed).bytes s stands fine honest c.requires.left (c.in-Ok.ensures.opened crashed)
    c.in-Ok.ensures.fine in
    let now = c.in-Ok.ensures.called.honest.0 crashed in
    read-held _ c.in-Ok.opened.geometry (record s { keep = c.in-Ok.opened.keep }) c.args.number c.read.result c.read.new.out (now, same.stands) fine there
    (c.read.ensures.goes.answers (record s { keep = c.in-Ok.opened.keep })
    (told-of g.E.Disk.medium c.in-Ok.opened (record s { keep = c.in-Ok.opened.keep }) same.stands)).0
