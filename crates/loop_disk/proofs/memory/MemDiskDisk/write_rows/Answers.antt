use Rattle.std.proofs.Common.{◌∙◌}
use Rattle.loop_disk.specs.Calls.{no_failures}
use Rattle.loop_disk.specs.Rows.{joined}
use Rattle.loop_disk.proofs.Calls.{behind_write, writes_behind}
use Rattle.loop_disk.proofs.memory.MemDiskDisk.write_rows.Goals as goal

pub returns-clause-disk : goal.returns-clause-disk
returns-clause-disk g c = λ honest.
    let past = c.args.self.now.past.behind in
    writes_behind no_failures past c.after-self.result.behind c.args.self.now.bytes.items c.put_rows.new.image.items
    (joined c.args.rows.now) c.args.at c.requires
    (c.after-self.ensures ∙ (λ i. behind_write c.args.at (c.length_of.ensures i) past (c.deref.ensures.value i)))
    c.put_rows.ensures
