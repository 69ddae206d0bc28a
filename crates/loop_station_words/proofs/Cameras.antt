-- One more camera.
use Rattle.std.proofs.Common.{◌≡◌, ◌≢◌, Bool, ℕ, ◌+◌, ◌<◌, List, [], ◌∷◌, ◌++◌, false, get_or, length, take, sym, subst, ◌∙◌}
use Rattle.std.specs.Prelude.{IsTrue, string_bytes}
use Rattle.std.specs.List.{list_any}
use Rattle.std.specs.Str.{bytes_eq}
use Rattle.std.proofs.lemmas.Bool.{false_from_ne_true, false≢true}
use Rattle.std.proofs.lemmas.List.{take_more}
use Rattle.std.proofs.lemmas.List.Elements.{All-push}
use Rattle.std.proofs.lemmas.List.Folds.{list_any_at}
use Rattle.std.proofs.lemmas.List.Quantifiers.{all_pairs_push}
use Rattle.std.proofs.lemmas.Slice.Eq.{bytes_eq-Decides}
use Rattle.toml.proofs.Views.{items_view-push}
use Rattle.toml.specs.Data.{Data, Items, no_items, item, push_item}
use Rattle.toml.specs.View.{items_view, view}
use Rattle.toml.specs.declared.value.Value.{Value}
use Rattle.loop_station_words.specs.Config.{AreCameras, HasBuffers, SayCameras, SaysOne}
use Rattle.loop_station_words.specs.Files.{share_file}
use Rattle.loop_station_words.specs.Names.{is_name}
use Rattle.loop_station_words.specs.declared.config.CameraConfig.{CameraConfig}

-- where no element passes, none at a place does
none-at : {A : Type 0} (p : A → Bool) (xs : List A) (k : ℕ) (d : A) → list_any p xs ≡ false → k < length xs
    → p (get_or xs k d) ≡ false
none-at p xs k d none inside = false_from_ne_true (p (get_or xs k d)) (λ yes. false≢true (sym none ∙ list_any_at p xs k d inside yes))

-- a camera with another name and other files than those before it, and a good number of buffers
pub cameras-push : (cameras : List CameraConfig) (camera : CameraConfig) (name store : List ℕ) → AreCameras cameras
    → IsTrue (is_name name) → string_bytes camera.name ≡ name → string_bytes camera.store ≡ store
    → list_any (λ c. bytes_eq (string_bytes c.name) name) cameras ≡ false
    → list_any (λ c. share_file (string_bytes c.store) store) cameras ≡ false → HasBuffers camera.buffers → AreCameras (cameras ++ camera ∷ [])
cameras-push cameras camera name store are good called kept names stores buffers = record {
  named = All-push (λ c. IsTrue (is_name (string_bytes c.name))) cameras camera are.named
      (subst (λ bytes. IsTrue (is_name bytes)) (sym called) good);
  names = all_pairs_push (λ a b. string_bytes a.name ≢ string_bytes b.name) cameras camera are.names (λ k d inside same.
      let here = list_any_at (λ c. bytes_eq (string_bytes c.name) name) cameras k d inside
      ((bytes_eq-Decides (string_bytes (get_or cameras k d).name) name).1 (same ∙ called)) in
      false≢true (sym names ∙ here));
  stores = all_pairs_push (λ a b. share_file (string_bytes a.store) (string_bytes b.store) ≡ false) cameras camera are.stores
      (λ k d inside. subst (λ bytes. share_file (string_bytes (get_or cameras k d).store) bytes ≡ false) (sym kept)
      (none-at (λ c. share_file (string_bytes c.store) store) cameras k d stores inside));
  buffers = All-push (λ c. HasBuffers c.buffers) cameras camera are.buffers buffers;
}

-- no camera has such a text
pub no-camera : (f : CameraConfig → List ℕ → Bool) (found : Bool) (text bytes : List ℕ) (slice items : List CameraConfig)
    → found ≡ list_any (λ c. f c text) slice → found ≡ false → text ≡ bytes → slice ≡ items
    → list_any (λ c. f c bytes) items ≡ false
no-camera f found text bytes slice items is lacks same all =
    subst (λ b. list_any (λ c. f c b) items ≡ false) same
    (subst (λ s. list_any (λ c. f c text) s ≡ false) all (sym is ∙ lacks))

-- one more table, and the camera that it describes
says-push : (tables : Items) (cameras : List CameraConfig) (one : Data) (camera : CameraConfig)
    → SayCameras tables cameras → SaysOne one camera → SayCameras (push_item tables one) (cameras ++ camera ∷ [])
says-push no_items [] one camera all says = (says, tt)
says-push no_items (c ∷ cameras) one camera all says = absurd all
says-push (item d tables) [] one camera all says = absurd all
says-push (item d tables) (c ∷ cameras) one camera all says = (all.0, says-push tables cameras one camera all.1 says)

-- the same of tables that are read one by one
pub says-more : (tables : List Value) (i : ℕ) (v : Value) (cameras : List CameraConfig) (camera : CameraConfig)
    → i < length tables → v ≡ get_or tables i v → SayCameras (items_view (take i tables)) cameras → SaysOne (view v) camera
    → SayCameras (items_view (take (i + 1) tables)) (cameras ++ camera ∷ [])
says-more tables i v cameras camera inside is all says =
    rw (take_more tables i v inside, items_view-push (take i tables) (get_or tables i v), ← is)
    (says-push (items_view (take i tables)) cameras (view v) camera all says)
