-- What the calls do to an open store.
use Rattle.std.specs.Prelude.{◌≡◌, ◌⊎◌, ◌↔◌, ℕ, ◌+◌, ◌-◌, ◌*◌, ◌%◌, ◌^◌, Bool, true, false, ◌==◌, ◌&&◌, nat_le, List, [], ◌∷◌, drop, length, map, take, Option, unwrap_or, Result, Ok, Err, IfErr, IfOk, IsTrue}
use Rattle.std.specs.Int.{from_bool}
use Rattle.loop_clips.specs.declared.clip.Clip.{Clip}
use Rattle.loop_clips.specs.Table.{clip_list}
use Rattle.loop_overlay.specs.Pages.{Logged, logged}
use Rattle.loop_record.specs.declared.clip.Span.{Span}
use Rattle.loop_record.specs.declared.frame.FrameHead.{FrameHead}
use Rattle.loop_record.specs.declared.geometry.Geometry.{Geometry}
use Rattle.loop_record.specs.declared.times.Times.{Times}
use Rattle.loop_record.specs.Geometry.{frame_bytes}
use Rattle.loop_record.specs.Recording.{Picture, Recording, victim}
use Rattle.loop_store.specs.declared.fault.StoreFault.{StoreFault}
use Rattle.loop_store.specs.declared.fault.StoreFault.TheVariants.{MustReopen, NoMemory, WrongSize}
use Rattle.loop_store.specs.Calls.{Call, appended, locked, read_with, sought, unlocked, upgraded, was_read}
use Rattle.loop_store.specs.Goes.{Goes}
use Rattle.loop_store.specs.Numbers.{IsLeastFrom, is_among}
use Rattle.loop_store.specs.Seen.{Seen, StandsFor, ring_in}
use Rattle.lapyrei.specs.declared.answer.Head.{Head}
use Rattle.lapyrei.specs.declared.answer.Run.{Run}
use Rattle.lapyrei.specs.declared.answer.Shape.{Shape}
use Rattle.lapyrei.specs.declared.answer.Known.{Known}
use Rattle.lapyrei.specs.Shown.{clip_run, shown_head, put_over, shown_shape, span_run}
use Rattle.lapyrei.specs.Told.{Deed}

-- these calls of the model were made
abbrev pub Calls : Seen Logged → Seen Logged → List Call → Type 0
Calls old new calls = Goes logged old new calls

-- an outcome as a number
abbrev pub as_number : {T : Type 0} → (T → ℕ) → Result T StoreFault → Result ℕ StoreFault
as_number number (Ok value) = Ok (number value)
as_number number (Err fault) = Err fault

-- ---- frames

-- a store that has this next number takes a group of so many frames, which has so many bytes: from 1 to 64 frames of
-- its size, which fit into the block of the next number
abbrev pub takes : Geometry → ℕ → ℕ → ℕ → Bool
takes g next frames bytes =
    nat_le 1 frames && nat_le frames 64 && nat_le (next % g.slots + frames) g.slots && bytes == (frames * frame_bytes g)

-- the frames of these heads, whose bytes follow one another, so many for each
abbrev pub pictures_in : ℕ → List Head → List ℕ → List Picture
pictures_in size [] bytes = []
pictures_in size (head ∷ heads) bytes =
    record { sequence = head.sequence; flags = head.flags; timestamp = head.timestamp; bytes = take size bytes }
    ∷ pictures_in size heads (drop size bytes)

-- a group that the store takes is appended, and the number of its first frame told; another is of a wrong size
abbrev pub StoresGroup : List Head → List ℕ → Deed
StoresGroup heads bytes old new outcome =
    (takes old.geometry old.next (length heads) (length bytes) ≡ true)
    × Calls old new (appended (pictures_in (frame_bytes old.geometry) heads bytes) outcome ∷ [])
    ⊎ (takes old.geometry old.next (length heads) (length bytes) ≡ false)
    × ((new ≡ old) × (outcome ≡ Err WrongSize))

-- C gets the head, where there is one
abbrev pub IsHead : Result FrameHead StoreFault → Head → Type 0
IsHead (Ok found) head = head ≡ shown_head found
IsHead (Err fault) head = Unit {0}

-- a frame is read into so much memory, and its number, head and bytes told; memory that isn't as long as a frame is of
-- a wrong size
abbrev pub Reads : ℕ → ℕ → List ℕ → Head → Deed
Reads number room out head old new outcome =
    (room == (frame_bytes old.geometry) ≡ true) × ((found : Result FrameHead StoreFault)
    × (Calls old new (was_read number (read_with found out) ∷ [])
    × ((outcome ≡ as_number (λ h. h.number) found) × IsHead found head)))
    ⊎ (room == (frame_bytes old.geometry) ≡ false) × ((new ≡ old) × (outcome ≡ Err WrongSize))

-- a frame's head is read, and its number told
abbrev pub ReadsHead : ℕ → Head → Deed
ReadsHead number head old new outcome =
    (found : Result FrameHead StoreFault) × ((bytes : List ℕ)
    × (Calls old new (was_read number (read_with found bytes) ∷ [])
    × ((outcome ≡ as_number (λ h. h.number) found) × IsHead found head)))

-- ---- clips and the layout

-- a clip's numbers are locked, and its id told
abbrev pub Locks : Run → Deed
Locks clip old new outcome =
    Calls old new (locked (record { from = clip.from; to = clip.to; tag = clip.tag }) outcome ∷ [])

-- a clip is unlocked
abbrev pub Unlocks : ℕ → Deed
Unlocks id old new outcome =
    (done : Result (Unit {0}) StoreFault)
    × (Calls old new (unlocked id done ∷ []) × (outcome ≡ as_number (λ nothing. 0) done))

-- the layout is upgraded, and 1 told where it was
abbrev pub Upgrades : Deed
Upgrades old new outcome =
    (did : Result Bool StoreFault) × (Calls old new (upgraded did ∷ []) × (outcome ≡ as_number from_bool did))

-- ---- looks

-- the next number and the shape are told
abbrev pub Looks : Shape → Deed
Looks shape old new outcome =
    (new ≡ old) × ((outcome ≡ Ok old.next) × (shape ≡ shown_shape old.geometry old.version))

-- the number, or 2^64 - 1 where there is none
abbrev pub or_none : Option ℕ → ℕ
or_none number = unwrap_or number (2 ^ 64 - 1)

-- what a store knows: its next number, how many frames are held, the least number from one on that a frame has, the
-- block that goes next, the most frames of an append, and of any group
pub record ShowsKnown (from : ℕ) (store : Seen Logged) (known : Known) : Type 0 where
  pub next : known.next ≡ store.next
  pub held : known.held ≡ length store.numbers
  pub least : (found : Option ℕ) × (IsLeastFrom (is_among store.numbers) from found × (known.from ≡ or_none found))
  pub victim : (r : Recording) → StandsFor logged store r
      → known.victim ≡ or_none (victim (ring_in store) store.keep r)
  pub room : known.room ≡ store.geometry.slots - store.next % store.geometry.slots
  pub group : known.group ≡ 64

-- what the store knows is told
abbrev pub Knows : ℕ → Known → Deed
Knows from known old new outcome = (new ≡ old) × ((outcome ≡ Ok 0) × ShowsKnown from old known)

-- these are put into memory, and their count told; or the memory stays as it was
abbrev pub PutsRuns : List Run → List Run → Result (List Run) StoreFault → Result ℕ StoreFault → Type 0
PutsRuns before after (Ok runs) outcome = (after ≡ put_over runs before) × (outcome ≡ Ok (length runs))
PutsRuns before after (Err fault) outcome = (after ≡ before) × (outcome ≡ Err fault)

-- runs of C's
abbrev pub runs_of : {T : Type 0} → (T → Run) → Result (List T) StoreFault → Result (List Run) StoreFault
runs_of run (Ok found) = Ok (map run found)
runs_of run (Err fault) = Err fault

-- The clips that a store gives, as its own clauses say: it has to be opened again, exactly where it says so; or they are
-- its clips by rising id; or memory was refused.
pub record AreClips (store : Seen Logged) (clips : Result (List Clip) StoreFault) : Type 0 where
  pub must_reopen : (clips ≡ Err MustReopen) ↔ IsTrue store.must_reopen
  pub found : IfOk clips (λ found. found ≡ clip_list 0 store.clips)
  pub refusals : IfErr clips (λ fault. (fault ≡ MustReopen) ⊎ (fault ≡ NoMemory))

-- the clips are put into memory, and their count told
abbrev pub PutsClips : List Run → List Run → Deed
PutsClips before after old new outcome =
    (new ≡ old) × ((clips : Result (List Clip) StoreFault)
    × (AreClips old clips × PutsRuns before after (runs_of clip_run clips) outcome))

-- the runs of the frames of a time that the store's search gives are put into memory, and their count told
abbrev pub PutsSought : Times → List Run → List Run → Deed
PutsSought times before after old new outcome =
    (found : Result (List Span) StoreFault)
    × (Calls old new (sought times found ∷ []) × PutsRuns before after (runs_of span_run found) outcome)
