-- What holds over any list of events.
use Rattle.std.specs.Prelude.{ℕ, ◌+◌, ◌++◌, ◌-◌, ◌*◌, ◌%◌, ◌^◌, ◌≡◌, ◌≤◌, ◌<◌, ◌⊎◌, Bool, true, false, List, [], ◌∷◌, zero, suc, Option, Some, None, IfSome, is_some, option_map, slice_get, if◌then◌else◌}
use Rattle.std.specs.List.{list_any}
use Rattle.loop_station_core.specs.Answers.{all_answered, answers_of, given_by}
use Rattle.loop_station_core.specs.Cameras.{lived, step_camera}
use Rattle.loop_station_core.specs.declared.camera.Act.TheVariants.{GiveUp}
use Rattle.loop_station_core.specs.Frames.{FlowStep, after, all_of, come_in, no_frames}
use Rattle.loop_station_core.specs.Gaps.{AreWithin, gaps, micros_missing}
use Rattle.loop_station_core.specs.Keeps.{AreInOrder, EachTurn, HasTimesOf, IsRight, IsTimely}
use Rattle.loop_station_core.specs.Orders.{OrderStep, no_orders, orders_after_all, orders_handed_in, orders_taken_in}
use Rattle.loop_station_core.specs.Clips.{may_release, leave_for_part, may_release_saved}
use Rattle.loop_station_core.specs.Full.{full_leave, oldest_of}
use Rattle.loop_station_core.specs.Releases.{SaveStep, clip_released_in, lets_in, no_saves, saves_after_all, saves_ended_in, saves_taken_in}
use Rattle.loop_station_core.specs.SaveEnds.{waits_in}
use Rattle.loop_station_core.specs.Search.{ahead, has_gap, lost_counts, mark_at, most, told, turn}
use Rattle.loop_station_core.specs.Texts.{AllThreeCame, FirstCame, after_steps}
use Rattle.loop_station_core.specs.Saving.{Places, asked, covers, is_read, is_saving, left_to_others, key_clip, withdrawn}
use Rattle.loop_station_core.specs.declared.clips.MayRelease.{MayRelease}
use Rattle.loop_station_core.specs.declared.clips.MayRelease.TheVariants.{Now}
use Rattle.loop_station_core.specs.declared.full.FullRule.{FullRule}
use Rattle.loop_station_core.specs.declared.full.LockedClip.{LockedClip}
use Rattle.loop_station_core.specs.declared.leave.ShownClip.{ShownClip}
use Rattle.loop_station_core.specs.declared.saves.Asked.TheVariants.{Waits}
use Rattle.loop_station_core.specs.declared.saves.SaveKey.{SaveKey}
use Rattle.loop_station_core.specs.Telling.{IsLineOfKind, known_after, lines_of, told_locked}
use Rattle.loop_station_core.specs.declared.camera.Camera.{Camera}
use Rattle.loop_station_core.specs.declared.camera.Event.{Event}
use Rattle.loop_station_core.specs.declared.camera.Event.TheVariants.{Filming}
use Rattle.loop_station_core.specs.declared.camera.FilmingEvent.TheVariants.{Stop, Begin, AllLocked as AllAreLocked, Break, Move}
use Rattle.loop_station_core.specs.declared.keep.Keep.{Keep}
use Rattle.loop_station_core.specs.declared.keep.Look.{Look}
use Rattle.loop_station_core.specs.declared.runs.Run.{Run}
use Rattle.loop_station_core.specs.declared.save_end.SaveEnd.{SaveEnd}
use Rattle.loop_station_core.specs.declared.saves.Save.{Save}
use Rattle.loop_station_core.specs.declared.search.Mark.{Mark}
use Rattle.loop_station_core.specs.declared.search.Search.{Search}
use Rattle.loop_station_core.specs.declared.search.SearchTurn.{SearchTurn}
use Rattle.loop_station_core.specs.declared.search.SearchTurn.TheVariants.{Read, Gap as SearchGap, Again, Over}
use Rattle.loop_station_core.specs.declared.text.TextStep.TheVariants.{SyncText, SyncName, Saved, Unname, NotSaved}
use Rattle.loop_station_core.specs.declared.changes.SourceSeen.TheVariants.{Missing, Silent, Unusable, On}
use Rattle.loop_station_core.specs.declared.changes.StoreSeen.TheVariants.{Open, Absent, Making}
use Rattle.loop_station_core.specs.declared.changes.Seen.{Seen}
use Rattle.loop_station_core.specs.declared.changes.Change.{Change}
use Rattle.loop_station_core.specs.declared.changes.Change.TheVariants.{SourceOn, SourceMissing, SourceSilent, StoreOpen, StoreAbsent, GivenUp, AllLocked, RoomAgain, NearlyAllLocked, Behind, CaughtUp, Waited, SourceUnusable, Made, Syncs, TooSlow}
use Rattle.loop_station_core.specs.declared.changes.Reported.{Reported}

-- Each frame that came is stored, lost, at the desk, or on its way to it.
abbrev pub FramesAddUp : Type 0
FramesAddUp = (steps : List FlowStep) → come_in steps < 2 ^ 64 → all_of (after no_frames steps) ≡ come_in steps

-- At each look a keep does what is right by its line, and keeps its times.
abbrev pub KeepsAreRight : Type 0
KeepsAreRight = (k : Keep) (now : ℕ) (looks : List Look) → IsTimely now k → AreInOrder now looks
    → EachTurn (λ look after turn. IsRight k look after turn × HasTimesOf k after) k looks

-- What is held of a time and its gaps are all of it.
abbrev pub GapsAddUp : Type 0
GapsAddUp = (period since until : ℕ) (runs : List Run) → AreWithin since runs until
    → until - since - micros_missing (gaps period since runs until) + micros_missing (gaps period since runs until)
    ≡ until - since

-- A clip is released by the end of a save only where no other save is of it.
abbrev pub ReleasesAreFree : Type 0
ReleasesAreFree = (p : Places) (s : Save) → (left_to_others p s).1 ≡ true → is_saving p s.key ≡ false

-- An order releases only the clip that has its id, only the one that it means, and only where each save that was taken
-- in and reads it, as its clip or as one of an event, has ended. So it is after each list of what happens to saves.
abbrev pub OrdersSpareReadClips : Type 0
OrdersSpareReadClips = (places camera id : ℕ) (tag : Option ℕ) (steps : List SaveStep) (said : Option ℕ)
    (there : Option ShownClip) (clip : ShownClip)
    → let p = no_saves places in
    may_release (is_read (saves_after_all p steps) camera id tag) said there ≡ Now clip
    → (there ≡ Some clip) × ((said ≡ None) ⊎ (said ≡ Some clip.from))
    × (saves_taken_in (covers camera id tag) p steps ≡ saves_ended_in (covers camera id tag) p steps)

-- And it releases the clip where each of these saves has ended, and the order says no clip or that one.
abbrev pub OrdersReleaseUnreadClips : Type 0
OrdersReleaseUnreadClips = (places camera id : ℕ) (tag : Option ℕ) (steps : List SaveStep) (said : Option ℕ)
    (clip : ShownClip)
    → let p = no_saves places in
    saves_taken_in (covers camera id tag) p steps ≡ saves_ended_in (covers camera id tag) p steps
    → (said ≡ None) ⊎ (said ≡ Some clip.from)
    → may_release (is_read (saves_after_all p steps) camera id tag) said (Some clip) ≡ Now clip

-- Saves release a clip only where a save of it that began by itself has come to an end with its text whole, or saved
-- already, and clips of its camera are released then. So it is of each list of what happens to saves.
abbrev pub ReleasesAreEarned : Type 0
ReleasesAreEarned = (places : ℕ) (key : SaveKey) (steps : List SaveStep)
    → lets_in key (no_saves places) steps ≡ false → clip_released_in key (no_saves places) steps ≡ false

-- the clip of a save, whatever else the save reads
abbrev pub clip_key : SaveKey → SaveKey
clip_key key = record key { whole = false }

-- What is released since it is saved is the very clip that was saved, and only once each save that was taken in and
-- reads its id or its tag has ended. So a save of a store that was moved away releases no clip of the new one.
abbrev pub SavedClipsAreReleased : Type 0
SavedClipsAreReleased = (places : ℕ) (saved : SaveKey) (steps : List SaveStep) (there : Option SaveKey)
    (clip : ShownClip)
    → let p = no_saves places in let reads = covers saved.camera saved.id (Some saved.tag) in
    may_release_saved (is_read (saves_after_all p steps) saved.camera saved.id (Some saved.tag)) saved there ≡ Now clip
    → (option_map clip_key there ≡ Some (clip_key saved)) × (clip ≡ key_clip saved)
    × (saves_taken_in reads p steps ≡ saves_ended_in reads p steps)

-- And it is released then, where each save that reads it has ended.
abbrev pub UnreadSavedClipsAreReleased : Type 0
UnreadSavedClipsAreReleased = (places : ℕ) (saved there : SaveKey) (steps : List SaveStep)
    → let p = no_saves places in let reads = covers saved.camera saved.id (Some saved.tag) in
    saves_taken_in reads p steps ≡ saves_ended_in reads p steps → clip_key there ≡ clip_key saved
    → may_release_saved (is_read (saves_after_all p steps) saved.camera saved.id (Some saved.tag)) saved (Some there)
    ≡ Now (key_clip saved)

-- what leave to unlock a clip is asked for by, with what is seen then: an order and the clip that has its id; a clip
-- that was saved, and the one that has its id; a part of an event and a longer clip; where no block is free all clips
pub data Asks : Type 0 where
  of_order : Bool → Option ℕ → Option ShownClip → Asks
  of_saved : Bool → SaveKey → Option SaveKey → Asks
  of_part : Bool → ShownClip → ShownClip → Asks
  of_full : FullRule → ℕ → List LockedClip → Asks

-- the leave in an answer
abbrev pub leave_in : MayRelease → Option ShownClip
leave_in (Now clip) = Some clip
leave_in answer = None

-- the leave that is given
abbrev pub leave_for : Asks → Option ShownClip
leave_for (of_order is_read asked there) = leave_in (may_release is_read asked there)
leave_for (of_saved is_read saved there) = leave_in (may_release_saved is_read saved there)
leave_for (of_part is_read part longer) = leave_for_part is_read part longer
leave_for (of_full rule free clips) = full_leave rule free (oldest_of rule None clips)

-- the clip was shown, and no save reads it
abbrev pub IsShownUnread : Asks → ShownClip → Type 0
IsShownUnread (of_order is_read asked there) clip = (there ≡ Some clip) × (is_read ≡ false)
IsShownUnread (of_saved is_read saved there) clip = (option_map key_clip there ≡ Some clip) × (is_read ≡ false)
IsShownUnread (of_part is_read part longer) clip = (part ≡ clip) × (is_read ≡ false)
IsShownUnread (of_full rule free clips) clip =
    (i : ℕ) × (locked : LockedClip) × (slice_get clips i ≡ Some locked) × (locked.clip ≡ clip)
    × (locked.read ≡ false)

-- Whoever gives it, leave to unlock a clip is for a clip that was shown, and that no save reads.
abbrev pub LeavesAreForUnreadClips : Type 0
LeavesAreForUnreadClips = (asked : Asks) (clip : ShownClip) → leave_for asked ≡ Some clip → IsShownUnread asked clip

-- A save that is withdrawn once it was told to wait leaves all as if it hadn't been asked for.
abbrev pub WithdrawnSavesLeaveNothing : Type 0
WithdrawnSavesLeaveNothing = (p : Places) (key : SaveKey) (automatic : Bool)
    → (asked p key automatic).1 ≡ Waits → withdrawn (asked p key automatic).0 ≡ p

-- A save that is tried again is told as such once, however often it fails.
abbrev pub SavesWaitOnce : Type 0
SavesWaitOnce = (ends : List (SaveEnd × ℕ)) → waits_in false ends ≤ 1

-- At most 256 orders of a camera wait, and each one that was taken in waits or was handed out.
abbrev pub OrdersAreHandedOut : Type 0
OrdersAreHandedOut = (steps : List OrderStep) → let orders = orders_after_all no_orders steps in
    (orders.waiting ≤ 256) × (orders_handed_in no_orders steps + orders.waiting ≡ orders_taken_in no_orders steps)

-- what a line says was so when it was seen
abbrev pub IsSo : Seen → Change → Type 0
IsSo s SourceOn = s.source ≡ On
IsSo s SourceMissing = s.source ≡ Missing
IsSo s SourceSilent = s.source ≡ Silent
IsSo s StoreOpen = s.store ≡ Open
IsSo s (StoreAbsent cause) = s.store ≡ Absent cause
IsSo s (GivenUp frames since) = frames ≤ s.lost
IsSo s AllLocked = s.locked ≡ true
IsSo s RoomAgain = s.locked ≡ false
IsSo s NearlyAllLocked = s.room * 5 ≤ s.blocks
IsSo s (Behind micros) = micros ≡ s.behind
IsSo s CaughtUp = s.behind < 500000
IsSo s (Waited micros since) = 100000 ≤ micros
IsSo s (SourceUnusable why) = (s.source ≡ Unusable) × (why ≡ s.unusable)
IsSo s (Made percent) = s.store ≡ Making percent
IsSo s (Syncs micros) = option_map (λ d. d.sync) s.disk ≡ Some micros
IsSo s (TooSlow micros frames) = (option_map (λ d. d.sync) s.disk ≡ Some micros)
    × IfSome s.disk (λ d. frames * d.rate_den < d.rate_num)

-- Each line says what was so when it was seen, of whichever kind it is.
abbrev pub LinesAreSo : Type 0
LinesAreSo = (r : Reported) (s : Seen) (kind : ℕ) (line : Option Change) → kind < 11
    → IsLineOfKind (lines_of r s) kind line → IfSome line (IsSo s)

-- Where a camera is looked at again, and nothing has changed, nothing is told.
abbrev pub NothingIsToldTwice : Type 0
NothingIsToldTwice = (r : Reported) (s : Seen) (kind : ℕ) (line : Option Change) → kind < 11
    → IsLineOfKind (lines_of (known_after r s) s) kind line → line ≡ None

-- how many lines of some looks say how fast the disk is
abbrev pub syncs_in : Reported → List Seen → ℕ
syncs_in r [] = 0
syncs_in r (s ∷ ss) = (if is_some (lines_of r s).syncs then 1 else 0) + syncs_in (known_after r s) ss

-- the disk was measured at one of some looks
abbrev pub is_measured : List Seen → Bool
is_measured ss = list_any (λ s. is_some s.disk) ss

-- How fast a disk is, is told once: at the first look at which it is measured.
abbrev pub DisksAreToldOnce : Type 0
DisksAreToldOnce = (r : Reported) (seen : List Seen) → r.disk ≡ false
    → syncs_in r seen ≡ (if is_measured seen then 1 else 0)

-- how many frames a line says are lost
abbrev pub lost_in_line : Option Change → ℕ
lost_in_line (Some (GivenUp frames since)) = frames
lost_in_line _ = 0

-- how many the lines of some looks say are lost
abbrev pub lost_told_in : Reported → List Seen → ℕ
lost_told_in r [] = 0
lost_told_in r (s ∷ ss) = lost_in_line (lines_of r s).given_up + lost_told_in (known_after r s) ss

-- frames stay lost, and at the last look the program ends
abbrev pub StaysLost : ℕ → List Seen → ℕ → Type 0
StaysLost lost [] last = last ≡ lost
StaysLost lost (s ∷ []) last = (lost ≤ s.lost) × ((s.stopping ≡ true) × (last ≡ s.lost))
StaysLost lost (s ∷ ss) last = (lost ≤ s.lost) × StaysLost s.lost ss last

-- Each lost frame is told once: by the end all are, and none twice.
abbrev pub LostAreToldOnce : Type 0
LostAreToldOnce = (r : Reported) (seen : List Seen) (last : ℕ) → StaysLost r.lost.frames seen last
    → r.lost.frames + lost_told_in r seen ≡ last

-- the lines about locked blocks, of some looks
abbrev pub locked_lines : Bool → List Bool → List Change
locked_lines known [] = []
locked_lines known (b ∷ bs) = elim (told_locked known b) [
  | None ↦ locked_lines b bs
  | Some line ↦ line ∷ locked_lines b bs
]

-- they alternate, and begin with blocks that are all locked, or where they were with room again
abbrev pub Alternate : Bool → List Change → Type 0
Alternate locked [] = Unit {0}
Alternate false (AllLocked ∷ lines) = Alternate true lines
Alternate true (RoomAgain ∷ lines) = Alternate false lines
Alternate _ _ = ⊥

-- After 'all locked' comes 'room again', and the other way round.
abbrev pub LockedLinesAlternate : Type 0
LockedLinesAlternate = (known : Bool) (locked : List Bool) → Alternate known (locked_lines known locked)

-- each block is locked, by the lines that are read
abbrev pub heard_locked : Bool → List Change → Bool
heard_locked known [] = known
heard_locked known (AllLocked ∷ lines) = heard_locked true lines
heard_locked known (RoomAgain ∷ lines) = heard_locked false lines
heard_locked known (_ ∷ lines) = heard_locked known lines

-- Whoever reads the lines knows whether each block was locked at the last look.
abbrev pub LockedLinesTellAll : Type 0
LockedLinesTellAll = (known last : Bool) (locked : List Bool)
    → heard_locked known (locked_lines known (locked ++ last ∷ [])) ≡ last

-- Once the program ends, it ends for each camera, whatever happens.
abbrev pub StopsAreForGood : Type 0
StopsAreForGood = (c : Camera) (events : List Event) → (lived c (Filming Stop ∷ events)).stopping ≡ true

-- nothing breaks, and the store stays where it is
abbrev pub NothingBreaks : List Event → Type 0
NothingBreaks [] = Unit {0}
NothingBreaks (Filming Break ∷ events) = ⊥
NothingBreaks (Filming Move ∷ events) = ⊥
NothingBreaks (e ∷ events) = NothingBreaks events

-- A filming isn't over before something breaks, or its store is moved away.
abbrev pub FilmingsGoOn : Type 0
FilmingsGoOn = (c : Camera) (events : List Event) → NothingBreaks events
    → (lived c (Filming Begin ∷ events)).over ≡ false

-- no filming begins
abbrev pub NoneBegins : List Event → Type 0
NoneBegins [] = Unit {0}
NoneBegins (Filming Begin ∷ events) = ⊥
NoneBegins (e ∷ events) = NoneBegins events

-- A filming whose store was moved away ends: no flush of it is tried again, even where each block is locked.
abbrev pub MovedStoresAreLeft : Type 0
MovedStoresAreLeft = (c : Camera) (events : List Event) → NoneBegins events
    → (step_camera (lived c (Filming Move ∷ events)) (Filming AllAreLocked)).1 ≡ GiveUp

-- Once something breaks, or its store is moved away, a filming is over until another one begins, whatever happens.
abbrev pub BrokenFilmingsEnd : Type 0
BrokenFilmingsEnd = (c : Camera) (events : List Event) → NoneBegins events
    → ((lived c (Filming Break ∷ events)).over ≡ true) × ((lived c (Filming Move ∷ events)).over ≡ true)

-- A source that is told as silent waits for a byte.
abbrev pub SilentSourcesWait : Type 0
SilentSourcesWait = (c : Camera) (events : List Event) → c.silent ≡ false
    → (lived c events).silent ≡ true → is_some (lived c events).waits ≡ true

-- An order that isn't answered yet is answered once, when the last of its cameras answers, in whatever order they do.
abbrev pub OrdersAreAnsweredOnce : Type 0
OrdersAreAnsweredOnce = (given : List (Option ℕ)) (answers : List (ℕ × ℕ)) → all_answered given ≡ false
    → answers_of given answers ≡ (if all_answered (given_by given answers) then 1 else 0)

-- how a search of a clip goes on, whose frames have these times, and these sequences
abbrev pub step_search : (ℕ → ℕ) → (ℕ → ℕ) → Search → Search
step_search time count s = elim (turn s).1 [
  | Read n ↦ told s (time n) (count n % 2 ^ 32)
  | SearchGap from to ↦ (turn s).0
  | Again ↦ (turn s).0
  | Over ↦ s
]

-- after so many turns
abbrev pub searched : (ℕ → ℕ) → (ℕ → ℕ) → ℕ → Search → Search
searched time count zero s = s
searched time count (suc turns) s = searched time count turns (step_search time count s)

-- a search of the frames from one number to another
abbrev pub search_of : (ℕ → ℕ) → (ℕ → ℕ) → ℕ → ℕ → ℕ → Search
search_of time count period a b = record {
  period = period;
  from = mark_at time count a;
  to = mark_at time count b;
  end = mark_at time count b;
}

-- A gap that a search finds lies between two frames with consecutive numbers, and their sequences aren't consecutive, or
-- more time than that of a frame passes there: by half a period more, and a quarter of a second in all.
abbrev pub FoundGapsAreSo : Type 0
FoundGapsAreSo = (time count : ℕ → ℕ) (period a b turns : ℕ) (from to : Mark) → a ≤ b
    → let s = searched time count turns (search_of time count period a b) in
    (turn s).1 ≡ SearchGap from to
    → (from ≡ mark_at time count s.from.number) × (to ≡ mark_at time count (s.from.number + 1))
    × ((1 ≤ ahead from.sequence to.sequence 1) ⊎ (period + most period < to.time - from.time))

-- A search is over only once no gap is seen up to its end; it leaves no stretch with a gap that isn't told, and goes on
-- where the last one ended.
abbrev pub SearchesLookAtAll : Type 0
SearchesLookAtAll = (s : Search) → let now = turn s in
    (now.1 ≡ Over → (has_gap s.period s.from s.to ≡ false) × (s.end.number ≤ s.to.number))
    × (now.1 ≡ Again → (has_gap s.period s.from s.to ≡ false) × (now.0.from ≡ s.to) × (now.0.to ≡ s.end))

-- A stretch in which no frame came for a while is looked into, where no frame comes earlier than a period after the one
-- before.
abbrev pub GapsAreLookedFor : Type 0
GapsAreLookedFor = (time count : ℕ → ℕ) (period a b n : ℕ) → ((k : ℕ) → time k + period ≤ time (suc k))
    → a ≤ n → n < b → time n + period + most period < time (suc n)
    → has_gap period (mark_at time count a) (mark_at time count b) ≡ true

-- each stored frame is counted later than the one before
abbrev pub CountRises : (ℕ → ℕ) → Type 0
CountRises count = (k : ℕ) → count k < count (suc k)

-- how many were counted from one stored frame to another and aren't stored
abbrev pub lost_from : (ℕ → ℕ) → ℕ → ℕ → ℕ
lost_from count a b = count b - count a - (b - a)

-- Between two stored frames as many are lost as were counted from one to the other and aren't stored, where these are
-- fewer than half of all sequences; whatever their times are.
abbrev pub LostAreCounted : Type 0
LostAreCounted = (count : ℕ → ℕ) (a b : ℕ) → CountRises count → a ≤ b → lost_from count a b < 2 ^ 31
    → lost_counts (count a % 2 ^ 32) (count b % 2 ^ 32) (b - a) ≡ lost_from count a b

-- how many frames a turn tells as lost
abbrev pub lost_at : SearchTurn → ℕ
lost_at (SearchGap from to) = lost_counts from.sequence to.sequence (to.number - from.number)
lost_at _ = 0

-- how many so many turns do
abbrev pub lost_found : (ℕ → ℕ) → (ℕ → ℕ) → ℕ → Search → ℕ
lost_found time count zero s = 0
lost_found time count (suc turns) s = lost_at (turn s).1 + lost_found time count turns (step_search time count s)

-- A search that is over has found each lost frame, once, and no other: whatever the times of the frames are.
abbrev pub LostAreFound : Type 0
LostAreFound = (time count : ℕ → ℕ) (period a b turns : ℕ) → CountRises count → a ≤ b → lost_from count a b < 2 ^ 31
    → let s = search_of time count period a b in
    (turn (searched time count turns s)).1 ≡ Over → lost_found time count turns s ≡ lost_from count a b

-- A text is told to be saved once its three steps came; where a new name can't be kept, it is taken away again, and
-- where it replaced another, it stays.
abbrev pub TextsAreSaved : Type 0
TextsAreSaved = (replaces : Bool) (rest : List Bool)
    → (after_steps SyncText replaces (true ∷ true ∷ true ∷ rest) ≡ Saved)
    × (after_steps SyncText false (true ∷ true ∷ false ∷ []) ≡ Unname)
    × (after_steps SyncText true (true ∷ true ∷ false ∷ []) ≡ NotSaved)

-- A text is told to be saved only where its bytes were synced, then its name was given, and then its folder was synced;
-- and it has its name only once its bytes are synced.
abbrev pub SavedTextsAreThere : Type 0
SavedTextsAreThere = (replaces : Bool) (steps : List Bool)
    → (after_steps SyncText replaces steps ≡ Saved → AllThreeCame steps)
    × (after_steps SyncText replaces steps ≡ SyncName → FirstCame steps)
