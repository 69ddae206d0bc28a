use Rattle.std.proofs.Common.{ap, slice_index_or}
use Rattle.loop_clips.specs.declared.clip.Clip.{Clip}
use Rattle.loop_station_camera.specs.Keeping.{known}
use Rattle.loop_vb2.proofs.Sweeps.{swept_end, swept_step}
use Rattle.loop_station_camera.proofs.keeping.name_clips.Goals as goal

pub loop-clip-preserved : goal.loop-clip-preserved
loop-clip-preserved c =
    let none : Clip = record { id = 0; from = 0; to = 0; tag = 0 } in
    let clip : Clip = slice_index_or c.loop-clip.clips c.loop-clip.clip-index none in
    swept_step (known c.args.number) c.loop-clip.clip-index c.args.clips.now c.loop-clip.clips none
    (record clip { id = c.clip_id-clip.result }) c.loop-clip.invariant c.loop-clip-test.true
    (ap (λ n. record clip { id = n }) c.clip_id-clip.ensures)

pub returns : goal.returns
returns c =
    swept_end (known c.args.number) c.loop-clip.clip-index c.args.clips.now c.loop-clip.clips c.loop-clip.invariant
    c.loop-clip-test.false
