-- Which saves run, which wait, and what follows from what happens to them.
use Rattle.std.specs.Prelude.{ℕ, ◌-◌, ◌==◌, ◌&&◌, ◌||◌, ◌++◌, Bool, true, false, not, List, [], ◌∷◌, Option, Some, None, is_some, length, remove, slice_get, slice_set, take, if◌then◌else◌, ◌≡◌, ◌⊎◌, ◌+◌, option_map}
use Rattle.std.specs.List.{list_any, position}
use Rattle.loop_station_core.specs.SaveEnds.{is_saved}
use Rattle.loop_station_core.specs.declared.leave.ShownClip.{ShownClip}
use Rattle.loop_station_core.specs.declared.save_end.SaveEnd.{SaveEnd}
use Rattle.loop_station_core.specs.declared.saves.SaveKey.{SaveKey}
use Rattle.loop_station_core.specs.declared.saves.Save.{Save}
use Rattle.loop_station_core.specs.declared.saves.Saves.{Saves}
use Rattle.loop_station_core.specs.declared.saves.Asked.{Asked}
use Rattle.loop_station_core.specs.declared.saves.Asked.TheVariants.{Begins, Waits, TooMany, Stopped}
use Rattle.loop_station_core.specs.declared.saves.Cancelled.{Cancelled}
use Rattle.loop_station_core.specs.declared.saves.Cancelled.TheVariants.{Running, Waiting, No}
use Rattle.loop_station_core.specs.declared.saves.Ended.{Ended}
use Rattle.loop_station_core.specs.declared.saves.StoppedSave.{StoppedSave}

-- the saves that run, each in its place, and those that wait, in their order
pub record Places : Type 0 where
  pub running : List (Option Save)
  pub waiting : List Save
  pub stopped : Bool

-- as the code has them
abbrev pub places_of : Saves → Places
places_of s = record { running = s.running.items; waiting = s.waiting.items; stopped = s.stopped }

-- a save that has just been asked for
abbrev pub new_save : SaveKey → Bool → Save
new_save key automatic = record { key = key; automatic = automatic; release = false; cancelled = false }

-- two saves are of one clip, whatever else they read
abbrev pub is_same : SaveKey → SaveKey → Bool
is_same a b = (a.camera == b.camera) && ((a.id == b.id) && ((a.first == b.first)
    && ((a.last == b.last) && ((a.tag == b.tag) && (a.time == b.time)))))

-- the clip of a save, as a decision is shown it
abbrev pub key_clip : SaveKey → ShownClip
key_clip key = record { id = key.id; from = key.first; to = key.last; tag = key.tag }

-- a save of a clip began by itself, and isn't to end before its text is whole
abbrev pub saves_itself : SaveKey → Save → Bool
saves_itself key s = s.automatic && (not s.cancelled && is_same key s.key)

-- it is of a clip
abbrev pub is_of_clip : SaveKey → Save → Bool
is_of_clip key s = is_same key s.key

-- it is of the clip of an id
abbrev pub reads : ℕ → ℕ → Save → Bool
reads camera id s = (s.key.camera == camera) && (s.key.id == id)

-- it is, and isn't to end already
abbrev pub picks : ℕ → ℕ → Save → Bool
picks camera id s = reads camera id s && not s.cancelled

-- a clip is known, and has this tag
abbrev pub is_tag : ℕ → Option ℕ → Bool
is_tag t None = false
is_tag t (Some tag) = t == tag

-- a save of a key reads the clip of an id and a tag: it is of that clip, or reads each one with its own tag
abbrev pub covers : ℕ → ℕ → Option ℕ → SaveKey → Bool
covers camera id tag key = (key.camera == camera) && ((key.id == id) || (key.whole && is_tag key.tag tag))

-- the key of a save passes
abbrev pub has_key : (SaveKey → Bool) → Save → Bool
has_key f s = f s.key

-- such a save runs in a place
abbrev pub has_such : (Save → Bool) → Option Save → Bool
has_such p None = false
has_such p (Some s) = p s

-- an element of a list is changed, if it is there
abbrev pub update : {X : Type 0} → (X → X) → ℕ → List X → List X
update f i xs = elim (slice_get xs i) [ None ↦ xs | Some x ↦ slice_set xs i (f x) ]

-- what a place holds is changed, if it holds a save
abbrev pub update_held : (Save → Save) → Option Save → Option Save
update_held f None = None
update_held f (Some s) = Some (f s)

-- the place in which a save of the clip of an id runs that isn't to end already, and where one waits
abbrev pub place_of : Places → ℕ → ℕ → Option ℕ
place_of p camera id = position (has_such (picks camera id)) p.running

abbrev pub turn_of_clip : Places → ℕ → ℕ → Option ℕ
turn_of_clip p camera id = position (reads camera id) p.waiting

-- a save that runs or waits reads a clip
abbrev pub is_read : Places → ℕ → ℕ → Option ℕ → Bool
is_read p camera id tag = list_any (has_such (has_key (covers camera id tag))) p.running
    || list_any (has_key (covers camera id tag)) p.waiting

-- a clip is being saved by itself, or waits for that
abbrev pub has_automatic : Places → SaveKey → Bool
has_automatic p key = is_some (position (has_such (saves_itself key)) p.running)
    || is_some (position (saves_itself key) p.waiting)

-- it releases its clip at its end, if no other save reads it then
abbrev pub with_release : Save → Save
with_release s = record s { release = true }

-- the place in which a save of a clip runs, and where one waits
abbrev pub place_with : Places → SaveKey → Option ℕ
place_with p key = position (has_such (is_of_clip key)) p.running

abbrev pub turn_with : Places → SaveKey → Option ℕ
turn_with p key = position (is_of_clip key) p.waiting

-- a save of a clip runs or waits
abbrev pub is_saving : Places → SaveKey → Bool
is_saving p key = is_some (place_with p key) || is_some (turn_with p key)

-- A clip is to be released once no save is of it: the first save of it bears that. Whether there is one.
abbrev pub wanted : Places → SaveKey → Places × Bool
wanted p key = elim (place_with p key) [
  | Some place ↦ (record p { running = update (update_held with_release) place p.running }, true)
  | None ↦ elim (turn_with p key) [
    | Some at ↦ (record p { waiting = update with_release at p.waiting }, true)
    | None ↦ (p, false)
  ]
]

-- what a save that is gone leaves to the others of its clip; whether the clip is released now
abbrev pub left_to_others : Places → Save → Places × Bool
left_to_others p s = if s.release
    then (let w = wanted p s.key in (w.0, not w.1))
    else (p, false)

-- the first save that waits begins in a free place
abbrev pub begun : Places → ℕ → Places × Option SaveKey
begun p place = if p.stopped then (p, None) else elim p.waiting [
  | [] ↦ (p, None)
  | s ∷ ss ↦ (record p { running = slice_set p.running place (Some s); waiting = ss }, Some s.key)
]

-- a save is asked for
abbrev pub asked : Places → SaveKey → Bool → Places × Asked
asked p key automatic = if p.stopped then (p, Stopped) else elim (position (λ o. not (is_some o)) p.running) [
  | Some place ↦ (record p { running = slice_set p.running place (Some (new_save key automatic)) }, Begins place)
  | None ↦ if automatic then (record p { waiting = p.waiting ++ new_save key automatic ∷ [] }, Waits) else (p, TooMany)
]

-- the save that was asked for last doesn't wait any more
abbrev pub withdrawn : Places → Places
withdrawn p = record p { waiting = take (length p.waiting - 1) p.waiting }

-- nothing runs in a place any more
abbrev pub freed : Places → ℕ → Places
freed p place = record p { running = slice_set p.running place None }

-- the save of a place has ended: what it leaves to the others, and the save that begins there
abbrev pub after_end_of : Places → ℕ → Save → Places × Ended
after_end_of p place s =
    let rest = left_to_others (freed p place) s in
    let next = begun rest.0 place in
    (next.0, record { release = rest.1; begun = next.1 })

-- what a place holds
abbrev pub held_at : Places → ℕ → Option Save
held_at p place = elim (slice_get p.running place) [ None ↦ None | Some o ↦ o ]

-- the save of a place has ended, if there is one
abbrev pub ended_at : Places → ℕ → Places × Ended
ended_at p place = elim (held_at p place) [
  | None ↦ (p, record { release = false; begun = None })
  | Some s ↦ after_end_of p place s
]

-- a save releases its clip: it began by itself, the text is there, and clips of its camera are released then
abbrev pub earns : Save → SaveEnd → Bool → Bool
earns s end releases = s.automatic && is_saved end && releases

-- the clip of the save of a place is to be released, where that follows from its end
abbrev pub with_wish : Places → ℕ → SaveEnd → Bool → Places
with_wish p place end releases = elim (held_at p place) [
  | None ↦ p
  | Some s ↦ if earns s end releases then (wanted p s.key).0 else p
]

-- the save of a place has come to its end by itself
abbrev pub finished : Places → ℕ → SaveEnd → Bool → Places × Ended
finished p place end releases = ended_at (with_wish p place end releases) place

-- it is to end before its text is whole
abbrev pub with_cancel : Save → Save
with_cancel s = record s { cancelled = true }

-- a save of a clip that waits ends
abbrev pub cancelled_at : Places → ℕ → Places × Cancelled
cancelled_at p at = elim (slice_get p.waiting at) [
  | None ↦ (p, No)
  | Some s ↦ let rest = left_to_others (record p { waiting = remove p.waiting at }) s in (rest.0, Waiting rest.1)
]

-- a save of a clip is to end: one that runs, or else one that waits
abbrev pub cancelled : Places → ℕ → ℕ → Places × Cancelled
cancelled p camera id = elim (place_of p camera id) [
  | Some place ↦ (record p { running = update (update_held with_cancel) place p.running }, Running place)
  | None ↦ elim (turn_of_clip p camera id) [
    | Some at ↦ cancelled_at p at
    | None ↦ (p, No)
  ]
]

-- the program ends: one save ends, those that run first
abbrev pub stopped : Places → Places × Option StoppedSave
stopped p = elim (position is_some p.running) [
  | Some place ↦ elim (held_at p place) [
    | None ↦ (record p { stopped = true }, None)
    | Some s ↦ (record (freed p place) { stopped = true }, Some (record { key = s.key; place = Some place }))
  ]
  | None ↦ elim p.waiting [
    | [] ↦ (record p { stopped = true }, None)
    | s ∷ ss ↦ (record p { waiting = ss; stopped = true }, Some (record { key = s.key; place = None }))
  ]
]

-- a save began by itself, is of this clip, and wasn't cancelled
abbrev pub IsByItself : SaveKey → Save → Type 0
IsByItself key s = (s.automatic ≡ true) × (s.cancelled ≡ false) × (is_same key s.key ≡ true)

-- A clip isn't saved by itself a second time exactly while a save of it that began by itself runs or waits. One that
-- was cancelled, or that a user asked for, or that is of another clip, holds none back.
abbrev pub ClipsAreSavedOnce : Type 0
ClipsAreSavedOnce = (p : Places) (key : SaveKey)
    → ((place : ℕ) (s : Save) → slice_get p.running place ≡ Some (Some s)
    → IsByItself key s → has_automatic p key ≡ true)
    × ((turn : ℕ) (s : Save) → slice_get p.waiting turn ≡ Some s → IsByItself key s → has_automatic p key ≡ true)
    × (((place : ℕ) (s : Save) → slice_get p.running place ≡ Some (Some s) → IsByItself key s → ⊥)
    → ((turn : ℕ) (s : Save) → slice_get p.waiting turn ≡ Some s → IsByItself key s → ⊥)
    → has_automatic p key ≡ false)

-- What saves are known by leaves nothing of them out.
abbrev pub PlacesTellAll : Type 0
PlacesTellAll = (s t : Saves) → places_of s ≡ places_of t
    → (s.running.items ≡ t.running.items) × (s.waiting.items ≡ t.waiting.items) × (s.stopped ≡ t.stopped)

-- A clip is read exactly by the saves of its camera that are of its id, or that read each clip with its tag.
abbrev pub ReadersAreSo : Type 0
ReadersAreSo = (camera id : ℕ) (tag : Option ℕ) (key : SaveKey)
    → (covers camera id tag key ≡ true
    → (key.camera ≡ camera) × ((key.id ≡ id) ⊎ ((key.whole ≡ true) × (tag ≡ Some key.tag))))
    × (key.camera ≡ camera → key.id ≡ id → covers camera id tag key ≡ true)
    × (key.camera ≡ camera → key.whole ≡ true → tag ≡ Some key.tag → covers camera id tag key ≡ true)

-- A save releases its clip exactly where it began by itself, its text is there, and clips of its camera are released
-- then.
abbrev pub SavesEarnTheirClip : Type 0
SavesEarnTheirClip = (s : Save) (end : SaveEnd) (releases : Bool)
    → (earns s end releases ≡ true → (s.automatic ≡ true) × (is_saved end ≡ true) × (releases ≡ true))
    × (s.automatic ≡ true → is_saved end ≡ true → releases ≡ true → earns s end releases ≡ true)

-- A cancel that finds a save that runs is of that camera's clip of that id, and it isn't found again.
abbrev pub CancelledSavesAreTheirs : Type 0
CancelledSavesAreTheirs = (p : Places) (camera id place : ℕ) (s : Save) → (cancelled p camera id).1 ≡ Running place
    → slice_get p.running place ≡ Some (Some s) → (s.key.camera ≡ camera) × (s.key.id ≡ id)
    × (has_such (picks camera id) (held_at (cancelled p camera id).0 place) ≡ false)

-- Once the program ends, each save ends, one after the other, and none is left when none is told.
abbrev pub StopsEndSaves : Type 0
StopsEndSaves = (p : Places) → ((stopped p).0.stopped ≡ true) × ((stopped p).1 ≡ None
    → (position is_some p.running ≡ None) × (p.waiting ≡ []))

-- What begins in a free place is told, and runs there; where nothing is told, nothing begins.
abbrev pub BegunSavesAreTold : Type 0
BegunSavesAreTold = (p : Places) (place : ℕ) (key : SaveKey) → slice_get p.running place ≡ Some None
    → let after = begun p place in
    (after.1 ≡ None → after.0 ≡ p)
    × (after.1 ≡ Some key → (option_map (λ s. s.key) (held_at after.0 place) ≡ Some key)
    × (length after.0.waiting + 1 ≡ length p.waiting))
