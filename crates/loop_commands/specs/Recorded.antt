-- What the sources of a recording give, when their frames are, and what a recording into stores keeps.
use Rattle.std.specs.Prelude.{◌≡◌, ◌<◌, ◌≤◌, ℕ, ⊤, [], ◌∷◌, true, List, None, Option, Some, Result, Ok, Err, length, min, slice_get}
use Rattle.std.specs.Global.{Global}
use Rattle.loop_disk.specs.Medium.{Medium}
use Rattle.loop_plane.specs.Plane.{Plane}
use Rattle.loop_record.specs.declared.geometry.Geometry.{Geometry}
use Rattle.loop_record.specs.Geometry.{frame_bytes}
use Rattle.loop_store.specs.Reopen.{OpensKeeping}
use Rattle.loop_store.specs.Seen.{Seen}
use Rattle.loop_capture.specs.declared.source.Next.{Next}
use Rattle.loop_capture.specs.Sources.{GivesFootage, GivesPattern}
use Rattle.loop_capture.specs.Ticks.{IsNew}
use Rattle.loop_desk.specs.Desk.{DeskCall}
use Rattle.loop_script.specs.Pattern.{timestamp_of}
use Rattle.loop_script.specs.Sessions.{script_limits}
use Rattle.loop_pipeline.specs.declared.ending.CameraEnd.{CameraEnd}
use Rattle.loop_pipeline.specs.declared.film.Unfilmed.{Unfilmed}
use Rattle.loop_pipeline.specs.declared.several.Outcome.{Outcome}
use Rattle.loop_pipeline.specs.declared.several.Shot.{Shot}
use Rattle.loop_pipeline.specs.Cameras.{CameraKeeps, IsSettledDesk, SeenCamera}
use Rattle.loop_pipeline.specs.Fronts.{IsRegular}
use Rattle.loop_commands.specs.declared.cameras.Post.{Post}
use Rattle.loop_commands.specs.declared.cameras.Take.{Take}
use Rattle.loop_commands.specs.declared.source.RecordSource.{RecordSource}
use Rattle.loop_commands.specs.declared.source.RecordSource.TheVariants as source

-- the pattern's next frame, or what the reader of the file or pipe gives
abbrev pub GivesRecorded : RecordSource → Next → List ℕ → RecordSource → Type 0
GivesRecorded (source.Pattern n) answer out (source.Pattern m) = GivesPattern n answer out m
GivesRecorded (source.Footage s g) answer out (source.Footage t h) = GivesFootage s answer out t × (h ≡ g)
GivesRecorded _ answer out _ = ⊥

-- tick n is at n periods of the store's rate
abbrev pub IsPeriod : Geometry → ℕ → ℕ → Type 0
IsPeriod g n now = 0 < g.rate_num → now ≡ timestamp_of n g.rate_num g.rate_den

-- a recording ends after so many ticks
abbrev pub MayEnd : ℕ → ℕ → Type 0
MayEnd frames n = frames ≤ n

-- nobody asks a desk for anything: its calls are the filming's own submits and flushes, so no clip is unlocked
abbrev pub AsksNothing : DeskCall → Type 0
AsksNothing call = ⊥

-- ---- what a recording keeps

-- A camera from this source into this store, before its first tick: its device is a new one of this very source, for
-- frames of the store's size. Its only desk is that of this very store, at which nothing waits. Its queue streams.
pub record IsCameraOf {D P : Type 0} (meaning : P → Plane) (source : RecordSource) (store : Seen D)
    (camera : SeenCamera RecordSource D P) : Type 0 where
  pub device : IsNew source (frame_bytes store.geometry) camera.device
  pub desk : camera.desk ≡ record { store = store; pending = []; limits = script_limits }
  pub alone : camera.joined ≡ []
  pub regular : IsRegular meaning camera.queue
  pub streams : camera.queue.body.streaming ≡ true

-- What a camera recorded of this source into this store: it was filmed to its end, until its guide or its source was
-- over. Each frame that came was stored, waits at the desk, or is told as lost, and no clip of the store was unlocked.
-- None waits there at the end, unless a flush was refused.
-- What is told is what the camera says: the next number of its store, how many frames wait, were given up, were left,
-- found no buffer, and couldn't be got.
pub record HasRecorded {D P : Type 0} (medium : D → Medium) (meaning : P → Plane) (frames : ℕ) (source : RecordSource)
    (store : Seen D) (take : Take) : Type 0 where
  pub camera : SeenCamera RecordSource D P
  pub is : IsCameraOf meaning source store camera
  pub ended : SeenCamera RecordSource D P
  pub keeps : CameraKeeps medium GivesRecorded meaning AsksNothing (λ fault. ⊤) (IsPeriod store.geometry)
      (MayEnd frames) camera ended take.given_up take.left take.missed take.failed true
  pub settled : IsSettledDesk medium (λ fault. ⊤) camera.desk ended.desk
  pub next : take.next ≡ ended.desk.store.next
  pub waiting : take.waiting ≡ length ended.desk.pending

-- There is a take for each source with a store at its place, in their order, and each is what its camera recorded: all
-- cameras were filmed.
pub record AreRecorded {D P : Type 0} (medium : D → Medium) (meaning : P → Plane) (frames : ℕ)
    (sources : List RecordSource) (stores : List (Seen D)) (takes : List Take) : Type 0 where
  pub count : length takes ≡ min (length sources) (length stores)
  pub each : (k : ℕ) (source : RecordSource) (store : Seen D) (take : Take) → slice_get sources k ≡ Some source
      → slice_get stores k ≡ Some store → slice_get takes k ≡ Some take
      → HasRecorded {P = P} medium meaning frames source store take

-- each store is what opening the disk at its place found, with so many of the newest blocks kept
abbrev pub AreOpened : {D : Type 0} → (D → Medium) → ℕ → List D → List (Seen D) → Type 0
AreOpened medium keep [] [] = Unit {0}
AreOpened medium keep (disk ∷ disks) (store ∷ stores) =
    OpensKeeping medium keep disk (Ok store) × AreOpened medium keep disks stores
AreOpened medium keep _ _ = ⊥

-- ---- how it is recorded (private contracts alone)

-- the source and the store of a camera
abbrev pub source_and_store : {D P : Type 0} → Shot RecordSource D P Post → RecordSource × Seen D
source_and_store shot = (shot.camera.device.source, shot.camera.desk.store)

-- a camera of its source and its store, whose guide makes so many ticks at the store's rate
pub record IsRecordingShot {D P : Type 0} (meaning : P → Plane) (frames : ℕ) (shot : Shot RecordSource D P Post)
    : Type 0 where
  pub camera : IsCameraOf meaning shot.camera.device.source shot.camera.desk.store shot.camera
  pub ticks : shot.guide.frames ≡ frames
  pub geometry : shot.guide.geometry ≡ shot.camera.desk.store.geometry

-- what is told of a camera that was filmed
abbrev pub take_of : {S D P G : Type 0} → CameraEnd S D P G Global → Take
take_of e = record {
  next = e.desk.store.next;
  waiting = length e.desk.pending;
  given_up = e.given_up;
  left = e.left;
  missed = e.missed;
  failed = e.failed;
}

abbrev pub told_of : {S D P G : Type 0} → Result (CameraEnd S D P G Global) (Unfilmed S D P G) → Option Take
told_of (Ok e) = Some (take_of e)
told_of (Err unfilmed) = None

-- what is told of a camera, if it was filmed
abbrev pub taken_of : {S D P G : Type 0} → Outcome S D P G → Option Take
taken_of outcome = told_of outcome.filmed
