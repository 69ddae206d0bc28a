use Rattle.std.proofs.Common.{◌∙◌, arith}
use Rattle.lapyrei.proofs.PutOver.{put_all, put_step}
use Rattle.lapyrei.specs.Shown.{span_run}
use Rattle.lapyrei.proofs.on_store.put_spans.Goals as goal

pub loop-i-preserved : goal.loop-i-preserved
loop-i-preserved c =
    put_step span_run c.args.spans.now c.args.out.now c.loop-i.out c.loop-i.i _ c.of_span.result (omega arith) (omega arith)
    c.loop-i.invariant c.of_span.ensures

pub returns : goal.returns
returns c =
    c.loop-i.invariant ∙ put_all span_run c.args.spans.now c.args.out.now c.loop-i.i (omega arith)
