use Rattle.loop_store.proofs.AnswerPairs.{both_ok}
use Rattle.loop_store.proofs.FormatReads.{opening-moments, opening-fresh}
use Rattle.loop_store.proofs.fresh.open_gate.Goals as goal

pub returns : goal.returns
returns g c = record {
  moments = λ honest. opening-moments c.args.head.now _ _ c.store.result c.requires.version c.requires.fits.0
      (c.requires.settled honest) (c.requires.laid honest) (c.store.ensures.disk honest);
  such = λ honest.
      both_ok c.store.result (λ fresh settled. (fresh, settled))
      (opening-fresh c.args.head.now _ _ c.store.result (c.requires.laid honest) (c.store.ensures.disk honest))
      (c.store.ensures.disk honest).settled;
  called = c.store.ensures.called;
}
