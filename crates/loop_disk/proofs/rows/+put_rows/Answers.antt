use Rattle.loop_disk.proofs.RowBytes.{rows_written}
use Rattle.loop_disk.proofs.rows.+put_rows.Goals as goal

pub returns-in-Some : goal.returns-in-Some
returns-in-Some g t c =
    rows_written c.args.at c.args.rows.now c.in-Some.first.now c.in-Some.others.now c.args.image.now.items c.put.new.image.items
    c.put_rows.new.image.items c.in-Some.ensures.cases.0 c.requires c.put.ensures c.put_rows.ensures
