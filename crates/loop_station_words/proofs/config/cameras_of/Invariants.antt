use Rattle.std.proofs.Common.{◌≡◌, take, vec_len}
use Rattle.toml.specs.View.{items_view}
use Rattle.loop_station_words.specs.Config.{AreCameras, SayCameras}
use Rattle.loop_station_words.proofs.config.cameras_of.Given as goal

abbrev pub invariant-loop-i : goal.invariant-loop-i
invariant-loop-i l =
    AreCameras l.cameras.items × (vec_len l.cameras ≡ l.i) × SayCameras (items_view (take l.i l.tables)) l.cameras.items
