use Rattle.std.proofs.Common.{refl}
use Rattle.std.specs.Prelude.{string_bytes}
use Rattle.std.specs.Str.{bytes_eq}
use Rattle.loop_station_words.specs.Files.{share_file}
use Rattle.loop_station_words.proofs.Cameras.{cameras-push, no-camera}
use Rattle.loop_station_words.proofs.config.add_camera.Goals as goal

pub returns-clause-cameras : goal.returns-clause-cameras
returns-clause-cameras c =
    let items = c.args.cameras.now.items in
    let camera = c.args.camera in
    let names = no-camera (λ x. bytes_eq (string_bytes x.name)) c.has_name.result c.as_str.result.now (string_bytes camera.name)
    c.deref.result.now items c.has_name.ensures c.if-has_name.false c.as_str.ensures.value c.deref.ensures.value in
    let stores = no-camera (λ x. share_file (string_bytes x.store)) c.has_store.result c.as_str-2.result.now (string_bytes camera.store)
    c.deref-2.result.now items c.has_store.ensures c.if-has_store.false c.as_str-2.ensures.value c.deref-2.ensures.value in
    let pushed = cameras-push items camera (string_bytes camera.name) (string_bytes camera.store)
    c.requires.cameras c.requires.name refl refl names stores c.requires.buffers in
    rw c.in_ok-push.ensures.items pushed
