use Rattle.std.proofs.Common.{refl, sym, ap, ◌∙◌, subst}
use Rattle.loop_store.proofs.Openings.{refused-honest}
use Rattle.loop_desk.proofs.CallRuns.{store-goes}
use Rattle.loop_pipeline.specs.Backs.{calls_at}
use Rattle.loop_pipeline.specs.Cameras.{CameraKeeps, SeenCamera}
use Rattle.loop_lane.proofs.RecordTexts.{exported, not-exported, read-again}
use Rattle.loop_lane.proofs.StopImages.{want}
use Rattle.loop_lane.proofs.filmed.film_and_export.Goals as goal

pub returns-in-Ok-export : goal.returns-in-Ok-export
returns-in-Ok-export g c = λ s stands now regular.
    let medium = g.D.Disk.medium in
    let camera = c.args.guided.camera in
    let ended = c.in-Ok.ended in
    let end : SeenCamera g.row.S.Denot g.row.D.Denot g.row.P.Denot =
    record { device = ended.device; queue = ended.queue; desk = ended.desk; joined = ended.joined.items } in
    let keeps = subst (λ over. CameraKeeps medium g.S.FrameSource.next_gives g.P.PlaneMemory.plane g.G.Visits.asks
    g.G.Visits.gives_up (g.G.Guide.due c.args.guided.guide.now) (g.G.Guide.ends c.args.guided.guide.now) camera end ended.given_up
    ended.left ended.missed ended.failed over) c.in-Ok.ensures.ended (c.in-Ok.ensures.keeps regular) in
    let calls = calls_at 0 keeps.parts in
    let kept = keeps.footage 0 camera.desk ended.desk refl refl s stands now in
    let went = store-goes medium camera.desk ended.desk calls (keeps.served 0 camera.desk ended.desk refl refl).goes in
    let honest = went.called.honest.0 now in
    let fine = sym c.status.ensures.must_reopen ∙ c.if-status.false in
    let image = (medium c.into_disk.result).bytes in
    let there = subst (λ d. (medium d).honest) (sym c.into_disk.ensures) honest in
    let opened = c.in-Ok-open.ensures.called.honest.0 there in
    record {
      end = end;
      keeps = keeps;
      stored = kept.none_lost;
      text_is = exported medium ended.desk.store camera.desk.store.geometry _ c.in-Ok-open.store image c.args.numbers.from c.args.numbers.to
          c.in-Ok-export.field-0 (g.W.Write.contents c.args.out.now) (g.W.Write.contents c.export.new.out)
          kept.recording fine honest went.geometry (ap (λ d. (medium d).bytes) c.into_disk.ensures)
          (c.in-Ok-open.ensures.opened there) opened c.in-Ok-export.ensures.exported;
    }

pub returns-then-status : goal.returns-then-status
returns-then-status g c = λ s stands now regular.
    let medium = g.D.Disk.medium in
    let ended = c.in-Ok.ended in
    let end : SeenCamera g.row.S.Denot g.row.D.Denot g.row.P.Denot =
    record { device = ended.device; queue = ended.queue; desk = ended.desk; joined = ended.joined.items } in
    record {
      end = end;
      lost = record { given_up = ended.given_up; left = ended.left; missed = ended.missed; failed = ended.failed };
      keeps = subst (λ over. CameraKeeps medium g.S.FrameSource.next_gives g.P.PlaneMemory.plane g.G.Visits.asks
          g.G.Visits.gives_up (g.G.Guide.due c.args.guided.guide.now) (g.G.Guide.ends c.args.guided.guide.now) c.args.guided.camera end ended.given_up
          ended.left ended.missed ended.failed over) c.in-Ok.ensures.ended (c.in-Ok.ensures.keeps regular);
      broken = sym c.status.ensures.must_reopen ∙ c.if-status.true;
    }

pub returns-in-Err-open : goal.returns-in-Err-open
returns-in-Err-open g c = λ s stands now regular.
    let medium = g.D.Disk.medium in
    let camera = c.args.guided.camera in
    let ended = c.in-Ok.ended in
    let keeps = c.in-Ok.ensures.keeps regular in
    let calls = calls_at 0 keeps.parts in
    let kept = keeps.footage 0 camera.desk ended.desk refl refl s stands now in
    let went = store-goes medium camera.desk ended.desk calls (keeps.served 0 camera.desk ended.desk refl refl).goes in
    let honest = went.called.honest.0 now in
    let fine = sym c.status.ensures.must_reopen ∙ c.if-status.false in
    let image = (medium c.into_disk.result).bytes in
    let there = subst (λ d. (medium d).honest) (sym c.into_disk.ensures) honest in
    want c.in-Err-open.field-0.fault camera.desk.store.geometry image
    (read-again medium ended.desk.store camera.desk.store.geometry _ image kept.recording fine honest went.geometry
    (ap (λ d. (medium d).bytes) c.into_disk.ensures))
    (refused-honest (medium c.into_disk.result) (medium c.in-Err-open.field-0.disk) 1 c.in-Err-open.field-0.fault
    c.in-Err-open.ensures.called.honest.0 (λ now. g.met.D.Disk.sound c.in-Err-open.field-0.disk now)
    c.in-Err-open.ensures.stays c.in-Err-open.ensures.refused there)

pub returns : goal.returns
returns g c = λ s stands now regular.
    let medium = g.D.Disk.medium in
    let camera = c.args.guided.camera in
    let ended = c.in-Ok.ended in
    let end : SeenCamera g.row.S.Denot g.row.D.Denot g.row.P.Denot =
    record { device = ended.device; queue = ended.queue; desk = ended.desk; joined = ended.joined.items } in
    let keeps = subst (λ over. CameraKeeps medium g.S.FrameSource.next_gives g.P.PlaneMemory.plane g.G.Visits.asks
    g.G.Visits.gives_up (g.G.Guide.due c.args.guided.guide.now) (g.G.Guide.ends c.args.guided.guide.now) camera end ended.given_up
    ended.left ended.missed ended.failed over) c.in-Ok.ensures.ended (c.in-Ok.ensures.keeps regular) in
    let calls = calls_at 0 keeps.parts in
    let kept = keeps.footage 0 camera.desk ended.desk refl refl s stands now in
    let went = store-goes medium camera.desk ended.desk calls (keeps.served 0 camera.desk ended.desk refl refl).goes in
    let honest = went.called.honest.0 now in
    let fine = sym c.status.ensures.must_reopen ∙ c.if-status.false in
    let image = (medium c.into_disk.result).bytes in
    let there = subst (λ d. (medium d).honest) (sym c.into_disk.ensures) honest in
    let opened = c.in-Ok-open.ensures.called.honest.0 there in
    record {
      end = end;
      lost = record { given_up = ended.given_up; left = ended.left; missed = ended.missed; failed = ended.failed };
      keeps = keeps;
      refused = not-exported medium ended.desk.store camera.desk.store.geometry _ c.in-Ok-open.store image c.args.numbers.from
          c.args.numbers.to (g.W.Write.contents c.args.out.now) (g.W.Write.contents c.export.new.out) c.in-Err-export.fault
          kept.recording fine honest went.geometry (ap (λ d. (medium d).bytes) c.into_disk.ensures)
          (c.in-Ok-open.ensures.opened there) c.in-Ok-open.ensures.fine opened c.in-Err-export.ensures.exported;
    }
