use Rattle.std.proofs.Common.{sym, ap, ◌∙◌, subst}
use Rattle.loop_desk.proofs.CallRuns.{store-goes}
use Rattle.loop_lane.proofs.RecordTexts.{exported}
use Rattle.loop_lane.proofs.text.record_and_export.Goals as goal

pub returns-in-Ok-export : goal.returns-in-Ok-export
returns-in-Ok-export g c = λ s stands now.
    let keeps = c.in-Ok.ensures.headline in
    let ran = keeps.ran in
    let kept = keeps.footage s stands now in
    let lane = c.lane_run.new.lane in
    let new = lane.desk in
    let medium = g.D.Disk.medium in
    let went = store-goes medium c.args.lane.desk new ran.calls ran.desk in
    let honest = went.called.honest.0 now in
    let fine = sym c.status.ensures.must_reopen ∙ c.if-status.false in
    let image = (medium c.into_disk.result).bytes in
    let there = subst (λ d. (medium d).honest) (sym c.into_disk.ensures) honest in
    let store = c.in-Ok-open.store in
    let opened = c.in-Ok-open.ensures.called.honest.0 there in (
      lane,
      (
        ran,
        exported medium new.store c.args.lane.desk.store.geometry _ store image c.args.from c.args.to
            c.in-Ok-export.field-0 (g.W.Write.contents c.args.out.now) (g.W.Write.contents c.export.new.out)
            kept.recording fine honest went.geometry (ap (λ d. (medium d).bytes) c.into_disk.ensures) (c.in-Ok-open.ensures.opened there) opened
            c.in-Ok-export.ensures.exported,
      ),
    )
