use Rattle.std.proofs.Common.{◌∙◌}
use Rattle.loop_pipeline.proofs.Searching.{here-never, here-now, here-was, search-more}
use Rattle.loop_pipeline.proofs.next.Search.with.Goals.{then-self, else-self+then-space, else-self+else-space}
use Rattle.loop_pipeline.proofs.next.Search.with.Goals as goal

pub returns : goal.returns
returns c spaces count is =
    search-more c.args.end c.args.active c.args.place spaces c.args.space c.args.self _ _ _ count is
    (elim c.if-self.branch [
      | then-self w ↦ here-was c.args.self.here c.args.space.free c.args.place c.args.active _ w.if-self.true (w.result-is ∙ w.if-self.true)
      | else-self+then-space w ↦
          here-now c.args.self.here c.args.space.free c.args.place c.args.active _ w.if-self.false w.if-space.true w.result-is
      | else-self+else-space w ↦
          here-never c.args.self.here c.args.space.free c.args.place c.args.active _ w.if-self.false w.if-space.false (w.result-is ∙ w.if-space.false)
    ])
    c.first_free.ensures (c.older.ensures spaces count)
