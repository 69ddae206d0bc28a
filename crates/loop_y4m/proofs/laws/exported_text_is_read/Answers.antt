use Rattle.std.proofs.Common.{◌≡◌, length}
use Rattle.loop_record.specs.Geometry.{frame_bytes}
use Rattle.loop_record.proofs.Bounds.{limits}
use Rattle.loop_record.proofs.Form.{reading-well_formed}
use Rattle.loop_store.proofs.FrameSizes.{sized}
use Rattle.loop_y4m.specs.Export.{frames_between}
use Rattle.loop_y4m.proofs.Ranges.{each_between}
use Rattle.loop_y4m.proofs.ReadBack.{text_read}
use Rattle.loop_y4m.proofs.laws.exported_text_is_read.Goals as goal

pub returns : goal.returns
returns c = λ r image from to good held.
    let h = c.args.geometry.now in
    text_read h (frames_between from to r.frames) good
    (each_between (λ f. length f ≡ frame_bytes h) from to 0 r.next r.frames
    (reading-well_formed h r image held).rising
    (λ n p there. sized h r image n p (limits h good).slots.0 held there))
