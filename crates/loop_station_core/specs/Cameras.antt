-- A camera's life: its filming and its source.
use Rattle.std.specs.Prelude.{◌≡◌, ◌≢◌, ◌⊎◌, ℕ, ◌+◌, ◌-◌, ◌*◌, ◌^◌, ◌==◌, ◌&&◌, ◌||◌, Bool, true, false, List, [], ◌∷◌, Some, None, max, min, nat_le, if◌then◌else◌, ◌<◌, ◌≤◌}
use Rattle.loop_station_core.specs.declared.changes.SourceSeen.{SourceSeen}
use Rattle.loop_station_core.specs.declared.changes.SourceSeen.TheVariants.{Missing, Silent, Other, Unusable, On}
use Rattle.loop_station_core.specs.declared.camera.Camera.{Camera}
use Rattle.loop_station_core.specs.declared.camera.Act.{Act}
use Rattle.loop_station_core.specs.declared.camera.Act.TheVariants.{GoOn, FlushAgain, GiveUp, Finish, MakeAnew, OpenAgain, Take, Refuse, RefuseAgain}
use Rattle.loop_station_core.specs.declared.camera.Event.{Event}
use Rattle.loop_station_core.specs.declared.camera.Event.TheVariants.{Filming, Source}
use Rattle.loop_station_core.specs.declared.camera.FilmingEvent.{FilmingEvent}
use Rattle.loop_station_core.specs.declared.camera.FilmingEvent.TheVariants.{Stop, Begin, Store, AllLocked, Break, Move, End, Leave}
use Rattle.loop_station_core.specs.declared.camera.SourceEvent.{SourceEvent}
use Rattle.loop_station_core.specs.declared.camera.SourceEvent.TheVariants as its

-- what follows the end of a filming; where the store must be opened again, that is told even at a stop
abbrev pub after_filming : Camera → Bool → Act
after_filming c must_reopen = if c.stopping
    then (if must_reopen then OpenAgain else Finish)
    else (if c.moved then MakeAnew else OpenAgain)

-- a camera whose store isn't there, and what follows
abbrev pub without_store : Camera → Camera × Act
without_store c = if c.stopping then (c, Finish) else (if c.moved
    then (record c { moved = false }, MakeAnew)
    else (record c { faults = min (c.faults + 1) (2 ^ 64 - 1) }, OpenAgain))

-- a camera after something happened to its filming, and what follows
abbrev pub step_filming : Camera → FilmingEvent → Camera × Act
step_filming c Stop = (record c { stopping = true }, GoOn)
step_filming c Begin = (record c { over = false; locked = false; moved = false }, GoOn)
step_filming c (Store count) = (record c { locked = c.locked && (count == 0) }, GoOn)
step_filming c AllLocked = (record c { locked = true }, if c.stopping || c.over then GiveUp else FlushAgain)
step_filming c Break = (record c { over = true }, GiveUp)
step_filming c Move = (record c { over = true; moved = true }, GoOn)
step_filming c (End must_reopen) = (c, after_filming c must_reopen)
step_filming c Leave = without_store c

-- its source is open, or wasn't there, and gives nothing: for two seconds, or for three of its frames
abbrev pub is_silent : Camera → ℕ → ℕ → Bool
is_silent c now frame = elim c.waits [
  | None ↦ false
  | Some since ↦ elim c.source [
    | On ↦ nat_le (max 2000000 (min (frame * 3) (2 ^ 64 - 1))) (now - since)
    | Missing ↦ nat_le (max 2000000 (min (frame * 3) (2 ^ 64 - 1))) (now - since)
    | Silent ↦ false
    | Other ↦ false
    | Unusable ↦ false
  ]
]

-- frames of another size, format or rate than the store's: told where they weren't so before
abbrev pub refused : SourceSeen → Act
refused Other = RefuseAgain
refused _ = Refuse

-- a source that gave frames is missing once it has ended
abbrev pub closed : SourceSeen → SourceSeen
closed On = Missing
closed seen = seen

-- a camera after something happened to its source, and what follows
abbrev pub step_source : Camera → SourceEvent → Camera × Act
step_source c its.Missing = (record c { source = Missing }, GoOn)
step_source c its.Unusable = (record c { source = Unusable }, GoOn)
step_source c (its.Offer true) = (record c { source = On }, Take)
step_source c (its.Offer false) = (record c { source = Other }, refused c.source)
step_source c its.Close = (record c { source = closed c.source }, GoOn)
step_source c (its.Wait now) = (record c { waits = Some now }, GoOn)
step_source c its.Read = (record c { waits = None; silent = false }, GoOn)
step_source c (its.Look now frame) = (record c { silent = is_silent c now frame }, GoOn)

-- a camera after something happened, and what follows
abbrev pub step_camera : Camera → Event → Camera × Act
step_camera c (Filming e) = step_filming c e
step_camera c (Source e) = step_source c e

-- the state of its source
abbrev pub source_seen : Camera → SourceSeen
source_seen c = if c.silent then Silent else c.source

-- a camera after all that happened
abbrev pub lived : Camera → List Event → Camera
lived c [] = c
lived c (e ∷ es) = lived (step_camera c e).0 es

-- the program ends
abbrev pub stops_in : List Event → Bool
stops_in [] = false
stops_in (Filming Stop ∷ events) = true
stops_in (e ∷ events) = stops_in events

-- A camera ends at the end of its filming, or where its store isn't there, once the program ends, whatever happened
-- before, unless the store must be opened again; and it never ends while the program goes on.
abbrev pub CamerasEndWithTheProgram : Type 0
CamerasEndWithTheProgram = (c : Camera) (events : List Event) → c.stopping ≡ false → let d = lived c events in
    (stops_in events ≡ true → ((step_camera d (Filming (End false))).1 ≡ Finish)
    × ((step_camera d (Filming (End true))).1 ≡ OpenAgain) × ((step_camera d (Filming Leave)).1 ≡ Finish))
    × (stops_in events ≡ false → (e : Event) → (step_camera d e).1 ≢ Finish)

-- While the program goes on, a filming whose store was moved away is followed by a store that is made anew. Where it
-- wasn't since the filming began, the store is opened again.
abbrev pub EndedFilmingsGoOn : Type 0
EndedFilmingsGoOn = (c : Camera) (must_reopen : Bool) → c.stopping ≡ false
    → ((step_camera (step_camera c (Filming Move)).0 (Filming (End must_reopen))).1 ≡ MakeAnew)
    × ((step_camera (step_camera c (Filming Begin)).0 (Filming (End must_reopen))).1 ≡ OpenAgain)

-- Where each block is locked, a flush is tried again, exactly as long as the filming and the program go on.
abbrev pub LockedFilmingsWait : Type 0
LockedFilmingsWait = (c : Camera) → let act = (step_camera c (Filming AllLocked)).1 in
    (c.over ≡ false → c.stopping ≡ false → act ≡ FlushAgain) × ((c.over ≡ true) ⊎ (c.stopping ≡ true) → act ≡ GiveUp)

-- Frames that the store can have are taken, and others are refused; that is told where they weren't so before, and not
-- again for as long as nothing else happens to the source.
abbrev pub OffersAreAnswered : Type 0
OffersAreAnswered = (c : Camera) → let refused = step_camera c (Source (its.Offer false)) in
    ((step_camera c (Source (its.Offer true))).1 ≡ Take) × (c.source ≢ Other → refused.1 ≡ Refuse)
    × ((step_camera refused.0 (Source (its.Offer false))).1 ≡ RefuseAgain)

-- A source that is open, or wasn't there, and has been waited for is seen as silent exactly from two seconds on, and
-- from three of its frames on. Once a byte comes, it is seen as what it was.
abbrev pub SilenceIsSeen : Type 0
SilenceIsSeen = (c : Camera) (since now frame : ℕ) → c.waits ≡ Some since → (c.source ≡ On) ⊎ (c.source ≡ Missing)
    → frame * 3 < 2 ^ 64 → let d = (step_camera c (Source (its.Look now frame))).0 in
    (since + 2000000 ≤ now → since + frame * 3 ≤ now → source_seen d ≡ Silent)
    × ((now < since + 2000000) ⊎ (now < since + frame * 3) → source_seen d ≡ c.source)
    × (source_seen (step_camera d (Source its.Read)).0 ≡ c.source)

-- While the program goes on, a store that isn't there is opened again, and that is counted; one that was moved away is
-- made anew, once.
abbrev pub StoresAreOpenedAgain : Type 0
StoresAreOpenedAgain = (c : Camera) → c.stopping ≡ false → c.faults + 1 < 2 ^ 64
    → let left = step_camera c (Filming Leave) in
    (c.moved ≡ false → (left.1 ≡ OpenAgain) × (left.0.faults ≡ c.faults + 1))
    × (c.moved ≡ true → (left.1 ≡ MakeAnew) × (left.0.moved ≡ false) × (left.0.faults ≡ c.faults))

-- Each block is known to be locked from a refused flush on until a flush stores a frame, or another filming begins.
abbrev pub LockedBlocksAreKnown : Type 0
LockedBlocksAreKnown = (c : Camera) (frames : ℕ) → ((step_camera c (Filming AllLocked)).0.locked ≡ true)
    × ((step_camera c (Filming Begin)).0.locked ≡ false) × ((step_camera c (Filming (Store 0))).0.locked ≡ c.locked)
    × (1 ≤ frames → (step_camera c (Filming (Store frames))).0.locked ≡ false)

-- A source is seen as what it was found to be; one that gave frames is missing once it is closed, and others stay what
-- they are.
abbrev pub SourcesAreSeen : Type 0
SourcesAreSeen = (c : Camera) → let closed = step_camera c (Source its.Close) in
    (c.source ≡ On → closed.0.source ≡ Missing) × (c.source ≢ On → closed.0.source ≡ c.source)
    × ((step_camera c (Source (its.Offer true))).0.source ≡ On)
    × ((step_camera c (Source its.Missing)).0.source ≡ Missing)
    × ((step_camera c (Source its.Unusable)).0.source ≡ Unusable)
