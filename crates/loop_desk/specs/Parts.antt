-- What the parts of a front's functions do. Only private functions say it.
use Rattle.std.specs.Prelude.{◌≡◌, ◌≤◌, ◌<◌, ◌+◌, ℕ, Bool, true, false, List, ◌++◌, length, take, Option, Some, slice_get}
use Rattle.loop_plane.specs.Plane.{Plane}
use Rattle.loop_vb2.specs.declared.buffer.Buffer.{Buffer}
use Rattle.loop_vb2.specs.declared.buffer.Dequeued.{Dequeued}
use Rattle.loop_vb2.specs.declared.planes.PlaneSet.{PlaneSet}
use Rattle.loop_vb2.specs.Answers.{buffer_answer, read_answer}
use Rattle.loop_vb2.specs.Buffers.{bytes_at, used_at, state_at, dequeued_from, handed_over}
use Rattle.loop_vb2.specs.Owner.{is_dequeued}
use Rattle.loop_vb2.specs.Planes.{number_at, bytes_in, plane_of_set, read_given}
use Rattle.loop_vb2.specs.State.{Body, QueueState, Lined, StandsQueue}
use Rattle.loop_ioctl.specs.declared.events.QueueEvent.{QueueEvent}
use Rattle.loop_ioctl.specs.declared.events.QueueEvent.TheVariants as event
use Rattle.loop_desk.specs.declared.hand.Hand.{Hand}
use Rattle.loop_desk.specs.Front.{hand_state, hand_of, taken_frame}

-- ---- bytes copied after others

-- these bytes follow the first ones of a slice, which stay, and end at `stop`
pub record Appends (bytes : List ℕ) (at : ℕ) (before : List ℕ) (stop : ℕ) (after : List ℕ) : Type 0 where
  pub ends : stop ≡ at + length bytes
  pub text : take stop after ≡ take at before ++ bytes
  pub long : length after ≡ length before

-- the first bytes of a plane of a set
abbrev pub begin_of : PlaneSet Plane → ℕ → ℕ → List ℕ
begin_of set most plane = take most (bytes_in (plane_of_set set plane))

-- the first bytes of a plane of a buffer in a queue
abbrev pub begin_at : List (Buffer Plane) → ℕ → ℕ → ℕ → List ℕ
begin_at bs index most plane = take most (bytes_at bs index plane)

-- a buffer is the application's, and at least so many bytes of a plane were used
pub record IsOwn (bs : List (Buffer Plane)) (index most plane : ℕ) : Type 0 where
  pub within : index < length bs
  pub free : is_dequeued (state_at bs index) ≡ true
  pub used : most ≤ used_at bs index plane

-- the first bytes of the planes of a set, one after the other
abbrev pub begins_of : PlaneSet Plane → List ℕ → List ℕ
begins_of set counts =
    begin_of set (number_at counts 0) 0 ++ (begin_of set (number_at counts 1) 1 ++ begin_of set (number_at counts 2) 2)

abbrev pub begins_at : List (Buffer Plane) → ℕ → List ℕ → List ℕ
begins_at bs index counts =
    begin_at bs index (number_at counts 0) 0
    ++ (begin_at bs index (number_at counts 1) 1 ++ begin_at bs index (number_at counts 2) 2)

-- how many bytes are to be copied at most
abbrev pub count_of : List ℕ → ℕ
count_of counts = number_at counts 0 + number_at counts 1 + number_at counts 2

-- from each state that the queue stands for, where that much was used of a buffer of the application
abbrev pub AppendsOwn : {P : Type 0} → (P → Plane) → Lined P → ℕ → ℕ → ℕ → ℕ → List ℕ → ℕ → List ℕ → Type 0
AppendsOwn meaning code index plane most at before stop after =
    (s : QueueState) → StandsQueue meaning code s → IsOwn s.body.buffers index most plane
    → Appends (begin_at s.body.buffers index most plane) at before stop after

abbrev pub AppendsAllOwn : {P : Type 0} → (P → Plane) → Lined P → ℕ → List ℕ → List ℕ → ℕ → List ℕ → Type 0
AppendsAllOwn meaning code index counts before stop after =
    (s : QueueState) → StandsQueue meaning code s → IsOwn s.body.buffers index (number_at counts 0) 0
    → IsOwn s.body.buffers index (number_at counts 1) 1 → IsOwn s.body.buffers index (number_at counts 2) 2
    → Appends (begins_at s.body.buffers index counts) 0 before stop after

-- ---- a buffer that was dequeued

-- the buffer is still there, with what it kept
abbrev pub StaysIn : Body Plane → ℕ → Buffer Plane → Type 0
StaysIn body index b = slice_get body.buffers index ≡ Some (dequeued_from body.kind b)

-- its frame is copied to the start of a slice, and ends at `stop`
abbrev pub CopiesFrame : {P : Type 0} → (P → Plane) → Lined P → ℕ → List ℕ → Option (PlaneSet P) → List ℕ → ℕ
    → List ℕ → Type 0
CopiesFrame meaning code index used planes before stop after =
    (s : QueueState) (b : Buffer Plane) → StandsQueue meaning code s → StaysIn s.body index b → used ≡ b.used
    → read_given meaning planes ≡ handed_over s.body.kind b.planes
    → Appends (taken_frame s.body.shape b).bytes 0 before stop after

-- the hand has the buffer
abbrev pub GetsBuffer : {P A : Type 0} → (P → Plane) → Lined P → Dequeued P → Hand P A → Type 0
GetsBuffer meaning code answer held =
    (s : QueueState) (b : Buffer Plane) → StandsQueue meaning code s → StaysIn s.body answer.index b
    → read_answer meaning answer ≡ buffer_answer s.body.kind answer.index b
    → hand_state meaning held ≡ hand_of s.body answer.index b

-- ---- events

-- an event is a call of the application
abbrev pub is_ioctl : {P A : Type 0} → QueueEvent P A → Bool
is_ioctl (event.Ioctl c) = true
is_ioctl e = false
