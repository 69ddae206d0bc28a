-- Which lines about a camera follow from what is seen of it.
use Rattle.std.specs.Prelude.{◌≡◌, ℕ, ◌+◌, ◌-◌, ◌*◌, ◌/◌, ◌^◌, ◌==◌, ◌&&◌, ◌||◌, Bool, true, false, not, Option, Some, None, is_some, unwrap_or, max, min, nat_lt, nat_le, if◌then◌else◌, ◌≤◌, ◌<◌, ◌⊎◌}
use Rattle.loop_station_core.specs.declared.changes.SourceSeen.{SourceSeen}
use Rattle.loop_station_core.specs.declared.changes.SourceSeen.TheVariants.{Missing, Silent, Other, Unusable, On}
use Rattle.loop_station_core.specs.declared.changes.StoreSeen.{StoreSeen}
use Rattle.loop_station_core.specs.declared.changes.StoreSeen.TheVariants.{Unknown, Open, Absent, Making}
use Rattle.loop_station_core.specs.declared.changes.Seen.{Seen}
use Rattle.loop_station_core.specs.declared.changes.DiskSeen.{DiskSeen}
use Rattle.loop_station_core.specs.declared.changes.Change.{Change}
use Rattle.loop_station_core.specs.declared.changes.Change.TheVariants.{SourceOn, SourceMissing, SourceSilent, StoreOpen, StoreAbsent, GivenUp, AllLocked, RoomAgain, NearlyAllLocked, Behind, CaughtUp, Waited, SourceUnusable, Made, Syncs, TooSlow}
use Rattle.loop_station_core.specs.declared.changes.Changes.{Changes}
use Rattle.loop_station_core.specs.declared.changes.LostTold.{LostTold}
use Rattle.loop_station_core.specs.declared.changes.WaitTold.{WaitTold}
use Rattle.loop_station_core.specs.declared.changes.Reported.{Reported}

-- two states of a source, or of a store, are the same
abbrev pub same_source : SourceSeen → SourceSeen → Bool
same_source Missing Missing = true
same_source Silent Silent = true
same_source Other Other = true
same_source Unusable Unusable = true
same_source On On = true
same_source _ _ = false

-- the line for a source that has just become so; another size or an unusable source has a line of its own elsewhere
abbrev pub source_line : SourceSeen → Option Change
source_line Missing = Some SourceMissing
source_line Silent = Some SourceSilent
source_line On = Some SourceOn
source_line _ = None

-- it isn't there
abbrev pub is_missing : SourceSeen → Bool
is_missing Missing = true
is_missing _ = false

-- what is known of a source, and its line: none for what is known, and none for one that hasn't come yet
abbrev pub told_source : Option SourceSeen → SourceSeen → Bool → Option SourceSeen × Option Change
told_source None seen early = if is_missing seen && early then (None, None) else (Some seen, source_line seen)
told_source (Some known) seen early =
    if same_source known seen then (Some known, None) else (Some seen, source_line seen)

-- what is known of a store, and its line
abbrev pub told_store : StoreSeen → StoreSeen → Bool → StoreSeen × Option Change
told_store Open Open early = (Open, None)
told_store known Open early = (Open, Some StoreOpen)
told_store (Absent why) (Absent cause) early = if (why == cause) || ((cause == 0) && early)
    then (Absent why, None)
    else (Absent cause, Some (StoreAbsent cause))
told_store known (Absent cause) early =
    if (cause == 0) && early then (known, None) else (Absent cause, Some (StoreAbsent cause))
told_store known _ early = (known, None)

-- What is known of lost frames, and their line: all that aren't told, at most once a second, but always at the end.
abbrev pub told_lost : LostTold → ℕ → ℕ → Bool → LostTold × Option Change
told_lost known lost now stopping = if nat_le lost known.frames
    then (record known { since = now }, None)
    else (if nat_lt now known.again && not stopping
    then (known, None)
    else (
      record { frames = lost; since = now; again = min (now + 1000000) (2 ^ 64 - 1) },
      Some (GivenUp (lost - known.frames) known.since),
    ))

-- the line for blocks that are all locked, or not any more
abbrev pub told_locked : Bool → Bool → Option Change
told_locked false true = Some AllLocked
told_locked true false = Some RoomAgain
told_locked _ _ = None

-- Whether it was told that at least four of five blocks are locked, and its line: again only after fewer than seven of
-- ten were.
abbrev pub told_nearly : Bool → ℕ → ℕ → Bool × Option Change
told_nearly known room blocks = if blocks == 0 then (known, None)
    else (if not known && nat_le (room * 5) blocks
    then (true, Some NearlyAllLocked)
    else (known && nat_le (room * 10) (blocks * 3), None))

-- How far behind the disk was told to be, 0 where it wasn't, and its line: from more than a second on, each time that
-- it has doubled, and once it is below half a second.
abbrev pub told_behind : ℕ → ℕ → ℕ × Option Change
told_behind known behind = if known == 0
    then (if nat_lt 1000000 behind then (behind, Some (Behind behind)) else (0, None))
    else (if nat_lt behind 500000 then (0, Some CaughtUp)
    else (if nat_le (known * 2) behind then (behind, Some (Behind behind)) else (known, None)))

-- a wait for memory that goes on: told from a second on, each time that it has doubled
abbrev pub wait_goes_on : WaitTold → ℕ → ℕ → WaitTold × Option Change
wait_goes_on known since now = if nat_le 1000000 (now - since) && nat_le (known.told * 2) (now - since)
    then (record { since = Some since; last = now; told = now - since }, Some (Waited (now - since) since))
    else (record { since = Some since; last = now; told = known.told }, None)

-- a wait for memory that is over: told if it was a tenth of a second, and longer than was told
abbrev pub wait_is_over : WaitTold → ℕ → WaitTold × Option Change
wait_is_over known since = (
  record { since = None; last = known.last; told = 0 },
  (if nat_le 100000 (known.last - since) && nat_lt known.told (known.last - since)
      then Some (Waited (known.last - since) since) else None),
)

-- What is known of waits for memory, and their line. Waits with less than a second between them are one.
abbrev pub told_waited : WaitTold → Option ℕ → ℕ → Bool → WaitTold × Option Change
told_waited known (Some waits) now stopping = wait_goes_on known (unwrap_or known.since waits) now
told_waited known None now stopping = elim known.since [
  | None ↦ (known, None)
  | Some since ↦ if nat_lt (now - known.last) 1000000 && not stopping then (known, None) else wait_is_over known since
]

-- The cause that is known of an unusable source, and its line: for each other cause, and again once its frames could be
-- had meanwhile.
abbrev pub told_unusable : Option ℕ → SourceSeen → ℕ → Option ℕ × Option Change
told_unusable None Unusable why = (Some why, Some (SourceUnusable why))
told_unusable (Some known) Unusable why =
    if known == why then (Some known, None) else (Some why, Some (SourceUnusable why))
told_unusable known Missing why = (known, None)
told_unusable known _ why = (None, None)

-- how many quarters of a store are known to be made, and the line: for each other quarter
abbrev pub told_making : Option ℕ → StoreSeen → Option ℕ × Option Change
told_making None (Making percent) = (Some (percent / 25), Some (Made percent))
told_making (Some known) (Making percent) =
    if known == percent / 25 then (Some known, None) else (Some (percent / 25), Some (Made percent))
told_making known _ = (None, None)

-- the line for a disk that is measured, unless there was one
abbrev pub told_syncs : Bool → Option DiskSeen → Option Change
told_syncs false (Some d) = Some (Syncs d.sync)
told_syncs _ _ = None

-- how many frames a second a disk takes: so many by each flush, which syncs twice
abbrev pub disk_frames : DiskSeen → ℕ
disk_frames d = d.group * 500000 / max d.sync 1

-- the line for a disk that takes fewer than its source gives, unless it was measured before
abbrev pub told_slow : Bool → Option DiskSeen → Option Change
told_slow false (Some d) = if nat_lt (disk_frames d * d.rate_den) d.rate_num
    then Some (TooSlow d.sync (disk_frames d))
    else None
told_slow _ _ = None

-- all that is known of a camera after it was seen, and the lines
abbrev pub known_after : Reported → Seen → Reported
known_after r s = let early = nat_lt s.now r.soon in record {
  soon = r.soon;
  source = (told_source r.source s.source early).0;
  store = (told_store r.store s.store early).0;
  lost = (told_lost r.lost s.lost s.now s.stopping).0;
  locked = s.locked;
  nearly = (told_nearly r.nearly s.room s.blocks).0;
  behind = (told_behind r.behind s.behind).0;
  waited = (told_waited r.waited s.waited s.now s.stopping).0;
  unusable = (told_unusable r.unusable s.source s.unusable).0;
  making = (told_making r.making s.store).0;
  disk = r.disk || is_some s.disk;
}

abbrev pub lines_of : Reported → Seen → Changes
lines_of r s = let early = nat_lt s.now r.soon in record {
  source = (told_source r.source s.source early).1;
  store = (told_store r.store s.store early).1;
  given_up = (told_lost r.lost s.lost s.now s.stopping).1;
  locked = told_locked r.locked s.locked;
  nearly = (told_nearly r.nearly s.room s.blocks).1;
  behind = (told_behind r.behind s.behind).1;
  waited = (told_waited r.waited s.waited s.now s.stopping).1;
  unusable = (told_unusable r.unusable s.source s.unusable).1;
  making = (told_making r.making s.store).1;
  syncs = told_syncs r.disk s.disk;
  slow = told_slow r.disk s.disk;
}

-- before a camera was ever seen
abbrev pub nothing_known : ℕ → Reported
nothing_known now = record {
  soon = min (now + 1000000) (2 ^ 64 - 1);
  source = None;
  store = Unknown;
  lost = record { frames = 0; since = now; again = 0 };
  locked = false;
  nearly = false;
  behind = 0;
  waited = record { since = None; last = 0; told = 0 };
  unusable = None;
  making = None;
  disk = false;
}

-- the line of a kind, in their order
abbrev pub IsLineOfKind : Changes → ℕ → Option Change → Type 0
IsLineOfKind c kind line = (kind ≡ 0 → line ≡ c.source) × (kind ≡ 1 → line ≡ c.store) × (kind ≡ 2 → line ≡ c.given_up)
    × (kind ≡ 3 → line ≡ c.locked) × (kind ≡ 4 → line ≡ c.nearly) × (kind ≡ 5 → line ≡ c.behind)
    × (kind ≡ 6 → line ≡ c.waited) × (kind ≡ 7 → line ≡ c.unusable) × (kind ≡ 8 → line ≡ c.making)
    × (kind ≡ 9 → line ≡ c.syncs) × (kind ≡ 10 → line ≡ c.slow)

-- What is known of a store to whoever reads the lines about it.
abbrev pub heard_store : StoreSeen → Option Change → StoreSeen
heard_store known (Some StoreOpen) = Open
heard_store known (Some (StoreAbsent cause)) = Absent cause
heard_store known _ = known

-- the same of how far the disk is behind
abbrev pub heard_behind : ℕ → Option Change → ℕ
heard_behind known (Some (Behind micros)) = micros
heard_behind known (Some CaughtUp) = 0
heard_behind known _ = known

-- Whoever reads the lines knows all that is told: whether a store is there, or why not, unless it may still come; and
-- how far its disk is behind: by no more than a second where nothing is told, and by less than double of what is.
abbrev pub LinesTellAll : Type 0
LinesTellAll = (r : Reported) (s : Seen) → let lines = lines_of r s in let known = known_after r s in
    (known.store ≡ heard_store r.store lines.store) × (s.store ≡ Open → known.store ≡ Open)
    × ((cause : ℕ) → s.store ≡ Absent cause → r.soon ≤ s.now → known.store ≡ Absent cause)
    × (known.behind ≡ heard_behind r.behind lines.behind) × (known.behind ≡ 0 → s.behind ≤ 1000000)
    × (1 ≤ known.behind → (500000 ≤ s.behind) × (s.behind < known.behind * 2))

-- At the first look all that is so is told, but for a source or a store that may still come, and then no line says that
-- it isn't there.
abbrev pub FirstLooksTellAll : Type 0
FirstLooksTellAll = (now : ℕ) (s : Seen) → now + 1000000 < 2 ^ 64 → let lines = lines_of (nothing_known now) s in
    (s.source ≡ On → lines.source ≡ Some SourceOn) × (s.store ≡ Open → lines.store ≡ Some StoreOpen)
    × (s.locked ≡ true → lines.locked ≡ Some AllLocked) × (1 ≤ s.lost → lines.given_up ≡ Some (GivenUp s.lost now))
    × (s.source ≡ Missing → now + 1000000 ≤ s.now → lines.source ≡ Some SourceMissing)
    × (s.source ≡ Missing → s.now < now + 1000000 → lines.source ≡ None)
    × (s.source ≡ Unusable → lines.unusable ≡ Some (SourceUnusable s.unusable))
    × (1 ≤ s.blocks → s.room * 5 ≤ s.blocks → lines.nearly ≡ Some NearlyAllLocked)
    × (1000000 < s.behind → lines.behind ≡ Some (Behind s.behind))
    × ((percent : ℕ) → s.store ≡ Making percent → lines.making ≡ Some (Made percent))

-- The first look at which a disk is measured tells how fast it is, and that it is too slow exactly where it takes fewer
-- frames a second than come. It takes as many as it can in the time of two syncs for each group.
abbrev pub SlowDisksAreTold : Type 0
SlowDisksAreTold = (r : Reported) (s : Seen) (d : DiskSeen) → r.disk ≡ false → s.disk ≡ Some d → 1 ≤ d.sync
    → let lines = lines_of r s in let frames = disk_frames d in
    (lines.syncs ≡ Some (Syncs d.sync)) × (frames * d.rate_den < d.rate_num → lines.slow ≡ Some (TooSlow d.sync frames))
    × (d.rate_num ≤ frames * d.rate_den → lines.slow ≡ None)
    × (frames * d.sync ≤ d.group * 500000) × (d.group * 500000 < (frames + 1) * d.sync)

-- A wait for memory that wasn't told is told once it has lasted for a second, or once it is over, if it was a tenth of
-- one: over once none was seen for a second.
abbrev pub LongWaitsAreTold : Type 0
LongWaitsAreTold = (r : Reported) (s : Seen) (since : ℕ) → r.waited.told ≡ 0 → let lines = lines_of r s in
    (r.waited.since ≡ None → s.waited ≡ Some since → since + 1000000 ≤ s.now
    → lines.waited ≡ Some (Waited (s.now - since) since))
    × (r.waited.since ≡ Some since → s.waited ≡ None → r.waited.last + 1000000 ≤ s.now
    → since + 100000 ≤ r.waited.last → lines.waited ≡ Some (Waited (r.waited.last - since) since))

-- Lost frames are told as soon as they are seen, with how many and since when, but no more than once a second, unless
-- the program ends.
abbrev pub LostFramesAreToldSoon : Type 0
LostFramesAreToldSoon = (r : Reported) (s : Seen) → let line = (lines_of r s).given_up in
    (r.lost.frames < s.lost → r.lost.again ≤ s.now
    → line ≡ Some (GivenUp (s.lost - r.lost.frames) r.lost.since))
    × (is_some line ≡ true → ((r.lost.again ≤ s.now) ⊎ (s.stopping ≡ true))
    × (s.now + 1000000 < 2 ^ 64 → (known_after r s).lost.again ≡ s.now + 1000000))
