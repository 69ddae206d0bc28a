use Rattle.std.proofs.Common.{rules}
use Rattle.loop_disk.proofs.Moments.{called_on, read_present}
use Rattle.loop_store.proofs.FormatWrites.{closed-read, closing, closing-done, gate-read}
use Rattle.loop_store.proofs.fresh.close_gate.Goals as goal

pub returns-then-gate : goal.returns-then-gate
returns-then-gate g c = record {
  moments = λ honest.
      closing _ _ _ c.store.result (g.met.D.Disk.sound c.args.disk.now honest) (c.requires.settled honest)
      (c.read.ensures.disk honest)
      (gate-read _ _ (read_present 0 1 (g.met.D.Disk.sound c.read.new.self (c.read.ensures.called.honest.0 honest))
      (c.read.ensures.disk honest) c.in_ok-read.ensures.gives) c.if-gate.true)
      (c.store.ensures.disk (c.read.ensures.called.honest.0 honest));
  such = λ honest. closing-done _ _ c.store.result (c.store.ensures.disk (c.read.ensures.called.honest.0 honest));
  called = called_on _ _ _ _ c.in_ok-read.ensures.called c.store.ensures.called;
}

pub returns-else-gate : goal.returns-else-gate
returns-else-gate g c = record {
  moments = search rules;
  such = λ honest.
      closed-read _ _ _ (c.requires.settled honest) (c.read.ensures.disk honest)
      (read_present 0 1 (g.met.D.Disk.sound c.read.new.self (c.read.ensures.called.honest.0 honest))
      (c.read.ensures.disk honest) c.in_ok-read.ensures.gives) c.if-gate.false;
  called = c.in_ok-read.ensures.called;
}
