use Rattle.std.proofs.Common.{get_or, refl, sym, ◌∙◌, subst, arith}
use Rattle.loop_record.specs.declared.geometry.Geometry.{Geometry}
use Rattle.loop_store.specs.declared.command.Command.{Command}
use Rattle.loop_store.specs.Runs.{IsOfSize}
use Rattle.loop_store.proofs.Looks.{one-seen}
use Rattle.loop_store.proofs.CommandRuns.{ran-none, ran-more, ran-all}
use Rattle.loop_store.proofs.store.Store.run.Goals as goal

pub loop-command-init : goal.loop-command-init
loop-command-init g c = record {
  ran = ran-none g.D.Disk.medium c.args.self.now c.in_ok-replies.replies.items c.in_ok-replies.ensures.items
      (one-seen g.D.Disk.medium c.self.inside.disk c.self.inside.index c.self.inside.must_reopen c.self.invariant
      c.self.view_is) (λ honest. g.met.D.Disk.sound c.args.self.now.disk honest);
  geometry = refl;
  count = c.in_ok-replies.ensures.len;
  room = omega (arith, c.in_ok-replies.ensures.capacity);
}

pub answer-requires : goal.answer-requires
answer-requires g c =
    subst (λ (x : Command g.row.A.Denot). IsOfSize c.loop-command.self.geometry x) (sym c.command-item.is)
    (subst (λ (h : Geometry). IsOfSize h
    (get_or c.args.commands.now c.loop-command.command-index c.command-item.result))
    (sym c.loop-command.invariant.geometry)
    (c.requires.sizes c.loop-command.command-index c.command-item.result c.loop-command-test.true))

pub loop-command-preserved : goal.loop-command-preserved
loop-command-preserved g c = record {
  ran =
      ran-more g.D.Disk.medium c.args.self.now c.loop-command.self c.answer.new.self c.args.commands.now
      c.loop-command.replies.items c.push_reserved.new.self.items c.loop-command.command-index
      c.command-item.result c.answer.result c.loop-command-test.true c.command-item.is
      c.push_reserved.ensures.items c.loop-command.invariant.ran c.answer.ensures;
  geometry = c.answer.ensures.1.1.geometry ∙ c.loop-command.invariant.geometry;
  count = omega (arith, c.push_reserved.ensures.len, c.loop-command.invariant.count);
  room = omega (arith, c.push_reserved.ensures.capacity, c.loop-command.invariant.room);
}

pub returns-clause-ran : goal.returns-clause-ran
returns-clause-ran g c = ran-all g.D.Disk.medium c.args.self.now c.loop-command.self c.args.commands.now
    c.loop-command.replies.items c.loop-command.command-index (omega (arith, c.loop-command-test.false))
    c.loop-command.invariant.ran
