use Rattle.loop_y4m.specs.Export.{frames_between}
use Rattle.loop_y4m.specs.Text.{text}
use Rattle.loop_commands.proofs.OutputBytes.{kept_first, kept_last}
use Rattle.loop_commands.proofs.on_store.export_into.Goals as goal

pub returns-in-Some-settled-clause-text : goal.returns-in-Some-settled-clause-text
returns-in-Some-settled-clause-text g c = λ r stands.
    let written = c.in-Ok.ensures.text r stands in
    let bytes = text c.args.store.now.geometry (frames_between c.args.from c.args.to r.frames) in
    let old = g.T.ExportTarget.emptied c.args.target in
    let exported = g.T.Write.contents c.in-Ok.done.1 in (
      λ honest. kept_last old exported (g.T.Write.contents c.in-Some-settled.target) bytes
          (kept_first old (g.T.Write.contents c.in-Some-emptied.target) exported bytes c.in-Some-emptied.ensures (written.0 honest))
          c.in-Some-settled.ensures.kept,
      written.1,
    )
