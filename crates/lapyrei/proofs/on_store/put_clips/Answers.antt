use Rattle.std.proofs.Common.{◌∙◌, arith}
use Rattle.lapyrei.proofs.PutOver.{put_all, put_step}
use Rattle.lapyrei.specs.Shown.{clip_run}
use Rattle.lapyrei.proofs.on_store.put_clips.Goals as goal

pub loop-i-preserved : goal.loop-i-preserved
loop-i-preserved c =
    put_step clip_run c.args.clips.now c.args.out.now c.loop-i.out c.loop-i.i _ c.of_clip.result (omega arith) (omega arith)
    c.loop-i.invariant c.of_clip.ensures

pub returns : goal.returns
returns c =
    c.loop-i.invariant ∙ put_all clip_run c.args.clips.now c.args.out.now c.loop-i.i (omega arith)
