-- A desk as its callers see it, and what calls make of it.
use Rattle.std.specs.Prelude.{◌≡◌, ◌⊎◌, ◌+◌, ◌≤◌, true, false, Result, Ok, Err, List, All, length, map}
use Rattle.circular_buffer.specs.Buffer.{Buffer}
use Rattle.loop_clips.specs.Table.{clip_list}
use Rattle.loop_disk.specs.Medium.{Medium}
use Rattle.loop_record.specs.declared.frame.Frame.{Frame}
use Rattle.loop_record.specs.Geometry.{frame_bytes}
use Rattle.loop_record.specs.Recording.{Picture, Recording, last_number, ring_of}
use Rattle.loop_record.specs.Turns.{Plays}
use Rattle.loop_store.specs.declared.fault.StoreFault.{StoreFault}
use Rattle.loop_store.specs.declared.fault.StoreFault.TheVariants.{MustReopen, NoMemory}
use Rattle.loop_store.specs.Goes.{Goes, Stands, TellsState}
use Rattle.loop_store.specs.Reopen.{TellsOne}
use Rattle.loop_store.specs.Seen.{Seen, StandsFor}
use Rattle.loop_desk.specs.declared.limits.DeskLimits.{DeskLimits}
use Rattle.loop_desk.specs.declared.limits.Outline.{Outline}
use Rattle.loop_desk.specs.declared.limits.Status.{Status}
use Rattle.loop_desk.specs.Desk.{DeskCall, DeskState, IsDeskTold, Rules, desk_after, store_calls_in}

-- the store, the frames that wait, and the limits
pub record SeenDesk (D : Type 0) : Type 0 where
  pub store : Seen D
  pub pending : List Picture
  pub limits : DeskLimits

-- an answer without the frame that a refusal hands back
abbrev pub answer_of : {T X : Type 0} → Result T (StoreFault × X) → Result T StoreFault
answer_of (Ok x) = Ok x
answer_of (Err refused) = Err refused.0

-- what doesn't change
abbrev pub rules_of : {D : Type 0} → SeenDesk D → Rules
rules_of d = record { geometry = d.store.geometry; limits = d.limits }

-- a desk's answers fit a state
pub record TellsDesk {D : Type 0} (d : SeenDesk D) (s : DeskState) : Type 0 where
  pub store : TellsState d.store s.store
  pub pending : d.pending ≡ s.pending

-- the desk stands for a state
pub record DeskStands {D : Type 0} (medium : D → Medium) (d : SeenDesk D) (s : DeskState) : Type 0 where
  pub store : Stands medium d.store s.store
  pub pending : d.pending ≡ s.pending

-- The desk can be written, and where its disk is honest its store stands for a recording.
pub record Opens {D : Type 0} (medium : D → Medium) (d : SeenDesk D) : Type 0 where
  pub recording : (medium d.store.disk).honest → Recording
  pub stands : (now : (medium d.store.disk).honest) → StandsFor medium d.store (recording now)
  pub writable : d.store.must_reopen ≡ false

-- What calls, one after the other, make of a desk, whatever its disk, from each state that its answers fit; they fit
-- one. The store's calls say what is left on the disk, and what is answered of it.
pub record DeskGoes {D : Type 0} (medium : D → Medium) (old new : SeenDesk D) (calls : List DeskCall) : Type 0 where
  pub one : TellsOne old.store
  -- the store's own calls lead from the old store to the new one
  pub store : (s : DeskState) → TellsDesk old s
      → Goes medium old.store new.store (store_calls_in (rules_of old) s calls)
  -- each answer is the model's, and the new desk's answers fit the state after the calls
  pub plays : Plays (record { after = desk_after (rules_of old); May = IsDeskTold (rules_of old) }) (TellsDesk old)
      (TellsDesk new) calls
  pub limits : new.limits ≡ old.limits

-- ---- what a desk answers without a call of the disk

pub record TellsStatus {D : Type 0} (medium : D → Medium) (d : SeenDesk D) (status : Status) : Type 0 where
  pub next : status.next ≡ d.store.next
  pub pending : status.pending ≡ length d.pending
  pub must_reopen : status.must_reopen ≡ d.store.must_reopen
  pub count : status.held ≡ length d.store.numbers
  pub held : (r : Recording) → StandsFor medium d.store r → status.held ≡ length r.frames

pub record TellsOutline {D A : Type 0} (medium : D → Medium) (d : SeenDesk D) (outline : Outline A) : Type 0 where
  pub version : outline.version ≡ d.store.version
  pub keep : outline.keep ≡ d.store.keep
  pub next : outline.next ≡ d.store.next
  pub pending : outline.pending ≡ length d.pending
  pub clips : outline.clips.items ≡ clip_list 0 d.store.clips
  pub frames : (r : Recording) → StandsFor medium d.store r → outline.frames.items ≡ map (λ f. f.0) r.frames

-- why no outline is given: the store must be reopened, or otherwise memory was refused
abbrev pub OutlineRefuses : {D : Type 0} → SeenDesk D → StoreFault → Type 0
OutlineRefuses d fault =
    (fault ≡ MustReopen) × (d.store.must_reopen ≡ true) ⊎ (fault ≡ NoMemory) × (d.store.must_reopen ≡ false)

-- ---- what only the desk's own code looks at

-- there are numbers for the frames that wait, these have the geometry's size, and the buffer has room for as many as
-- may wait
pub record IsDesk {D A : Type 0} (store : Seen D) (limits : DeskLimits) (buffer : Buffer (Frame A)) : Type 0 where
  pub capacity : buffer.capacity ≡ limits.pending
  pub most : (1 ≤ limits.pending) × (limits.pending ≤ 64)
  pub group : (1 ≤ limits.group) × (limits.group ≤ 64)
  pub few : length buffer.items ≤ limits.pending
  pub numbers : store.next + length buffer.items ≤ last_number (ring_of store.geometry)
  pub sizes : All (λ frame. length frame.bytes.items ≡ frame_bytes store.geometry) buffer.items
