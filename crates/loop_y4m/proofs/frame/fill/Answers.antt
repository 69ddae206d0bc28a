use Rattle.std.proofs.Common.{rules, ◌-◌, length}
use Rattle.loop_y4m.proofs.Pixels.{taken_known}
use Rattle.loop_y4m.proofs.frame.fill.Goals as goal

pub loop-at-preserved : goal.loop-at-preserved
loop-at-preserved g c = record {
  room = search rules;
  taken = taken_known (g.R.Read.remaining c.args.reader.now) c.loop-at.at (length c.loop-at.out - c.loop-at.at)
      c.in_ok-n.n c.loop-at.out c.read_some.new.buf (g.R.Read.remaining c.loop-at.reader)
      (g.R.Read.remaining c.read_some.new.reader) c.loop-at.invariant.taken (search rules) c.loop-at.invariant.room
      (search rules);
}
