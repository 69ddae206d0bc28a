-- What the configuration file says of cameras.
use Rattle.std.specs.Prelude.{◌≡◌, ◌≢◌, ◌≤◌, ℕ, ◌-◌, ◌^◌, false, true, List, [], ◌∷◌, Option, Some, None, option_map, All, AllPairs, IsTrue, codes, string_bytes, vec_len}
use Rattle.toml.specs.Data.{Data, array, table, Items, no_items, item, Members, get_member}
use Rattle.toml.specs.Parse.{parse_document}
use Rattle.loop_station_words.specs.declared.config.CameraConfig.{CameraConfig}
use Rattle.loop_station_words.specs.declared.config.Config.{Config}
use Rattle.loop_station_words.specs.declared.config.Source.{Source}
use Rattle.loop_station_words.specs.declared.config.Source.TheVariants.{Path, Pattern}
use Rattle.loop_station_words.specs.Fields.{form_of, losses_of, memory_of, number_or, path_of, pattern_of, room_of, text_of, times_of, truth_of}
use Rattle.loop_station_words.specs.Files.{share_file}
use Rattle.loop_station_words.specs.Names.{is_name}
use Rattle.loop_station_words.specs.Rules.{rule_of}

-- how many buffers a camera may have
abbrev pub HasBuffers : ℕ → Type 0
HasBuffers count = (4 ≤ count) × (count ≤ 32)

-- each has a name and 4 to 32 buffers, no two have the same name, and no two could have one file
pub record AreCameras (cameras : List CameraConfig) : Type 0 where
  pub named : All (λ c. IsTrue (is_name (string_bytes c.name))) cameras
  pub names : AllPairs (λ a b. string_bytes a.name ≢ string_bytes b.name) cameras
  pub stores : AllPairs (λ a b. share_file (string_bytes a.store) (string_bytes b.store) ≡ false) cameras
  pub buffers : All (λ c. HasBuffers c.buffers) cameras

-- 1 to 16 cameras
pub record IsConfig (config : Config) : Type 0 where
  pub cameras : AreCameras config.cameras.items
  pub some : 1 ≤ vec_len config.cameras
  pub few : vec_len config.cameras ≤ 16

-- ---- what the file says

-- where a camera's frames come from: the pattern of a shape, or a path with no `pattern` beside it
abbrev pub SaysSource : Members → Source → Type 0
SaysSource keys (Pattern shape) =
    (text_of (get_member (codes "source") keys) ≡ Some (codes "pattern"))
    × (pattern_of (get_member (codes "pattern") keys) ≡ Some shape)
SaysSource keys (Path path) =
    (text_of (get_member (codes "source") keys) ≡ Some (string_bytes path))
    × (string_bytes path ≢ codes "pattern") × (get_member (codes "pattern") keys ≡ None)

-- a camera is as its keys say
pub record SaysCamera (keys : Members) (camera : CameraConfig) : Type 0 where
  pub name : text_of (get_member (codes "name") keys) ≡ Some (string_bytes camera.name)
  pub source : SaysSource keys camera.source
  pub store : text_of (get_member (codes "store") keys) ≡ Some (string_bytes camera.store)
  pub room : room_of (get_member (codes "hours") keys) (get_member (codes "minutes") keys)
      (get_member (codes "bytes") keys) ≡ Some camera.room
  pub seconds : number_or 60 (2 ^ 32 - 1) (get_member (codes "keep") keys) ≡ Some camera.seconds
  pub after : number_or 0 3600 (get_member (codes "after") keys) ≡ Some camera.after
  pub tag : number_or 0 (2 ^ 64 - 1) (get_member (codes "tag") keys) ≡ Some camera.tag
  pub buffers : number_or 8 32 (get_member (codes "buffers") keys) ≡ Some camera.buffers
  pub memory : memory_of (get_member (codes "memory") keys) ≡ Some camera.memory
  pub save_to : path_of (get_member (codes "save_to") keys) ≡ Some (option_map string_bytes camera.save_to)
  pub release : truth_of false (get_member (codes "release") keys) ≡ Some camera.release
  pub times_from : times_of (get_member (codes "times_from") keys) ≡ Some camera.times_from
  pub losses : losses_of (get_member (codes "losses") keys) ≡ Some camera.losses
  pub when_full : rule_of (get_member (codes "when_full") keys) ≡ Some camera.when_full

-- a table describes a camera
abbrev pub SaysOne : Data → CameraConfig → Type 0
SaysOne (table keys) camera = SaysCamera keys camera
SaysOne _ camera = ⊥

-- each table describes the camera at its place, and there is no other camera
abbrev pub SayCameras : Items → List CameraConfig → Type 0
SayCameras no_items [] = Unit {0}
SayCameras (item one more) (camera ∷ cameras) = SaysOne one camera × SayCameras more cameras
SayCameras _ _ = ⊥

-- an array of tables describes the cameras
abbrev pub SaysCameras : Option Data → List CameraConfig → Type 0
SaysCameras (Some (array tables)) cameras = SayCameras tables cameras
SaysCameras _ cameras = ⊥

-- the configuration is as the keys of the file say
pub record SaysConfig (keys : Members) (config : Config) : Type 0 where
  pub orders : path_of (get_member (codes "orders") keys) ≡ Some (option_map string_bytes config.orders)
  pub answers : path_of (get_member (codes "answers") keys) ≡ Some (option_map string_bytes config.answers)
  pub answers_form : form_of (get_member (codes "answers_form") keys) ≡ Some config.answers_form
  pub saves : path_of (get_member (codes "saves") keys) ≡ Some (option_map string_bytes config.saves)
  pub times : truth_of true (get_member (codes "times") keys) ≡ Some config.times
  pub events : truth_of true (get_member (codes "events") keys) ≡ Some config.events
  pub when_full : rule_of (get_member (codes "when_full") keys) ≡ Some config.when_full
  pub cameras : SaysCameras (get_member (codes "camera") keys) config.cameras.items

-- the configuration is as the text says, read as TOML
abbrev pub SaysText : List ℕ → Config → Type 0
SaysText text config = (keys : Members) × (parse_document text ≡ Some keys) × SaysConfig keys config
