use Rattle.std.proofs.Common.{rules, ℕ, List, sym, ap, ◌∙◌, arith}
use Rattle.std.proofs.lemmas.Result.{on_ok_weaker}
use Rattle.loop_disk.proofs.Moments.{read_present}
use Rattle.loop_record.specs.Layout.{is_open}
use Rattle.loop_ring.proofs.StrayGates.{never, read_front, closed_as_read, none_open, closed_written}
use Rattle.loop_ring.proofs.stray.close_gates.Goals as goal

pub returns-then-not-has_open : goal.returns-then-not-has_open
returns-then-not-has_open g c =
    let old = (g.D.Disk.medium c.args.disk.now).bytes in record {
      moments = search rules;
      such = λ honest. (
        search rules,
        λ i low high.
            ap (λ (l : List ℕ). is_open l i) (c.in_ok-read.ensures.disk honest).bytes
            ∙ closed_as_read c.args.at c.args.count old _
            (omega (arith, (g.met.D.Disk.sound c.args.disk.now honest).length_is, c.requires.inside))
            (read_front c.args.at c.args.count old _ c.requires.few
            (read_present _ _ (g.met.D.Disk.sound c.read.new.self (c.in_ok-read.ensures.called.honest.0 honest))
            (c.in_ok-read.ensures.disk honest) c.in_ok-read.ensures.gives))
            (sym c.has_open.ensures ∙ c.if-not-has_open.true) i low high,
      );
      settled = search rules;
      quiet = search rules;
      called = c.in_ok-read.ensures.called;
    }

pub returns : goal.returns
returns g c = record {
  moments = search rules;
  such = λ honest.
      let later = c.in_ok-read.ensures.called.honest.0 honest in
      on_ok_weaker c.store.result (λ done. (
        search rules,
        closed_written c.args.at c.args.count (g.D.Disk.medium c.read.new.self).bytes _ c.requires.few
            (omega (
              arith,
              (g.met.D.Disk.sound c.read.new.self later).length_is,
              c.in_ok-read.ensures.called.size,
              c.requires.inside,
            )) done,
      )) (c.store.ensures.disk later).done;
  settled = search rules;
  quiet = λ honest closed.
      let size = (g.met.D.Disk.sound c.args.disk.now honest).length_is in
      never _ (sym c.has_open.ensures ∙ c.if-not-has_open.false)
      (none_open c.args.at c.args.count (g.D.Disk.medium c.args.disk.now).bytes _
      (omega (arith, size, c.requires.inside))
      (read_front c.args.at c.args.count (g.D.Disk.medium c.args.disk.now).bytes _ c.requires.few
      (read_present _ _ (g.met.D.Disk.sound c.read.new.self (c.in_ok-read.ensures.called.honest.0 honest))
      (c.in_ok-read.ensures.disk honest) c.in_ok-read.ensures.gives)) closed);
  called = search rules;
}
