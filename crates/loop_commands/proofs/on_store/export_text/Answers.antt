use Rattle.loop_y4m.specs.Export.{frames_between}
use Rattle.loop_y4m.specs.Text.{text}
use Rattle.loop_commands.proofs.OutputBytes.{through}
use Rattle.loop_commands.proofs.on_store.export_text.Goals as goal

pub returns-clause-text : goal.returns-clause-text
returns-clause-text g c = λ r stands.
    let is = c.in_ok-count.ensures.exported r stands in (
      λ honest. through g.W.Write.contents _ _ c.in-Ok.gathered c.new-text.result.inner c.export.new.out.inner c.into_inner-gathered.result c.flush.new.self
          (text c.args.store.now.geometry (frames_between c.args.from c.args.to r.frames)) c.in-Ok.ensures.inner
          c.in-Ok.ensures.empty c.new-text.ensures (is.1.1.0 honest)
          c.into_inner-gathered.ensures c.flush.ensures.bytes c.in_ok-flush.ensures.ok c.into_parts-out.ensures.inner,
      is.1.1.1,
    )
