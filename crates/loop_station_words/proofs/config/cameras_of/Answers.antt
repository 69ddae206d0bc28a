use Rattle.std.proofs.Common.{◌≡◌, ◌+◌, ◌<◌, ◌∷◌, [], ap, length, length-append, vec_len, arith, rules, ◌∙◌}
use Rattle.loop_station_words.specs.Config.{AreCameras}
use Rattle.loop_station_words.proofs.Cameras.{says-more}
use Rattle.loop_station_words.proofs.config.cameras_of.Goals as goal

pub loop-i-preserved : goal.loop-i-preserved
loop-i-preserved c =
    let pushed = c.in_ok-add_camera-in-Ok.ensures.pushed in
    let cameras : AreCameras c.add_camera.new.cameras.items = search rules in
    let longer = ap length pushed ∙ length-append c.loop-i.cameras.items (c.in-Ok.camera ∷ []) in
    let count : vec_len c.add_camera.new.cameras ≡ c.loop-i.i + 1 = omega (arith, longer) in
    let inside : c.loop-i.i < length c.args.tables.now = omega arith in
    let says = says-more c.args.tables.now c.loop-i.i c.index-tables-i.result c.loop-i.cameras.items c.in-Ok.camera inside
    c.index-tables-i.is c.loop-i.invariant.2 c.in-Ok.ensures.says in
    (cameras, count, rw pushed says)
