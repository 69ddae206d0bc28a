use Rattle.loop_y4m.proofs.Starts.{start_cut, start_failed, start_filled}
use Rattle.loop_y4m.proofs.frame.next_timed.Goals as goal

pub returns-in-Err : goal.returns-in-Err
returns-in-Err g c = start_failed (g.R.Read.remaining c.args.reader.now) (g.R.Read.remaining c.frame_start.new.reader)
    c.in-Err.fault c.args.out.now c.in-Err.ensures

pub returns-in-Err-fill : goal.returns-in-Err-fill
returns-in-Err-fill g c = start_cut (g.R.Read.remaining c.args.reader.now) (g.R.Read.remaining c.frame_start.new.reader)
    (g.R.Read.remaining c.fill.new.reader) c.in-Ok-Some.line c.in-Err-fill.fault c.fill.new.out
    (rw c.in-Ok-Some.field-0-is at c.in-Ok-Some.ensures) c.in-Err-fill.ensures

pub returns-in-Ok : goal.returns-in-Ok
returns-in-Ok g c = start_filled (g.R.Read.remaining c.args.reader.now) (g.R.Read.remaining c.frame_start.new.reader)
    (g.R.Read.remaining c.fill.new.reader) c.in-Ok-Some.line c.in-Ok.field-0 c.fill.new.out
    (rw c.in-Ok-Some.field-0-is at c.in-Ok-Some.ensures) c.in-Ok.ensures
