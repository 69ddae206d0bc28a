-- Which clips are released, by what happens to saves one after the other.
use Rattle.std.specs.Prelude.{◌≡◌, ◌⊎◌, ℕ, ◌+◌, ◌&&◌, ◌||◌, Bool, true, false, List, [], ◌∷◌, Option, Some, None, replicate, slice_get, ◌≢◌}
use Rattle.loop_station_core.specs.Saving.{Places, asked, cancelled, earns, finished, has_key, has_such, held_at, is_of_clip, is_saving, picks, reads, stopped, turn_of_clip, with_wish}
use Rattle.loop_station_core.specs.declared.save_end.SaveEnd.{SaveEnd}
use Rattle.loop_station_core.specs.declared.saves.Save.{Save}
use Rattle.loop_station_core.specs.declared.saves.SaveKey.{SaveKey}
use Rattle.loop_station_core.specs.declared.saves.Asked.{Asked}
use Rattle.loop_station_core.specs.declared.saves.Asked.TheVariants.{Begins, Waits}
use Rattle.loop_station_core.specs.declared.saves.Cancelled.{Cancelled}
use Rattle.loop_station_core.specs.declared.saves.Cancelled.TheVariants.{Waiting, No}
use Rattle.loop_station_core.specs.declared.saves.StoppedSave.{StoppedSave}

-- What happens: a save of a clip is asked for, by an order or by itself; the one in a place comes to an end; an order
-- cancels one of a clip; the program ends.
pub data SaveStep : Type 0 where
  asks : SaveKey → Bool → SaveStep
  ends : ℕ → SaveEnd → Bool → SaveStep
  cancels : ℕ → ℕ → SaveStep
  stops : SaveStep

-- the saves after that
abbrev pub saves_after : Places → SaveStep → Places
saves_after p (asks key automatic) = (asked p key automatic).0
saves_after p (ends place end releases) = (finished p place end releases).0
saves_after p (cancels camera id) = (cancelled p camera id).0
saves_after p stops = (stopped p).0

abbrev pub saves_after_all : Places → List SaveStep → Places
saves_after_all p [] = p
saves_after_all p (s ∷ ss) = saves_after_all (saves_after p s) ss

-- a cancelled save says that its clip is released
abbrev pub says_release : Cancelled → Bool
says_release (Waiting release) = release
says_release _ = false

-- the first save that waits and is of the clip of an id
abbrev pub next_reader : Places → ℕ → ℕ → Option Save
next_reader p camera id = elim (turn_of_clip p camera id) [ None ↦ None | Some at ↦ slice_get p.waiting at ]

-- what happens releases a clip
abbrev pub clip_released_by : SaveKey → Places → SaveStep → Bool
clip_released_by key p (ends place end releases) =
    has_such (is_of_clip key) (held_at (with_wish p place end releases) place)
    && (finished p place end releases).1.release
clip_released_by key p (cancels c i) = has_such (is_of_clip key) (next_reader p c i) && says_release (cancelled p c i).1
clip_released_by key p _ = false

-- a save that began by itself has come to an end with its text whole, or saved already, and that releases its clip
abbrev pub lets : SaveKey → Places → SaveStep → Bool
lets key p (ends place end releases) = has_such (λ s. is_of_clip key s && earns s end releases) (held_at p place)
lets key p _ = false

-- the same of each of a list
abbrev pub clip_released_in : SaveKey → Places → List SaveStep → Bool
clip_released_in key p [] = false
clip_released_in key p (s ∷ ss) = clip_released_by key p s || clip_released_in key (saves_after p s) ss

abbrev pub lets_in : SaveKey → Places → List SaveStep → Bool
lets_in key p [] = false
lets_in key p (s ∷ ss) = lets key p s || lets_in key (saves_after p s) ss

-- one or none
abbrev pub one_if : Bool → ℕ
one_if true = 1
one_if false = 0

-- a save that is asked for is taken in
abbrev pub is_taken : Asked → Bool
is_taken (Begins place) = true
is_taken Waits = true
is_taken _ = false

-- how many saves whose keys pass are taken in by what happens
abbrev pub saves_taken_by : (SaveKey → Bool) → Places → SaveStep → ℕ
saves_taken_by f p (asks key automatic) = one_if (is_taken (asked p key automatic).1 && f key)
saves_taken_by f p _ = 0

-- a save that waited has ended by a cancel, and one whose key passes by a stop
abbrev pub ended_waiting : Cancelled → Bool
ended_waiting (Waiting release) = true
ended_waiting _ = false

abbrev pub stops_one : (SaveKey → Bool) → Option StoppedSave → Bool
stops_one f None = false
stops_one f (Some s) = f s.key

-- how many of them have ended by what happens
abbrev pub saves_ended_by : (SaveKey → Bool) → Places → SaveStep → ℕ
saves_ended_by f p (asks key automatic) = 0
saves_ended_by f p (ends place end releases) = one_if (has_such (has_key f) (held_at p place))
saves_ended_by f p (cancels c i) =
    one_if (ended_waiting (cancelled p c i).1 && has_such (has_key f) (next_reader p c i))
saves_ended_by f p stops = one_if (stops_one f (stopped p).1)

-- how many by all of a list
abbrev pub saves_taken_in : (SaveKey → Bool) → Places → List SaveStep → ℕ
saves_taken_in f p [] = 0
saves_taken_in f p (s ∷ ss) = saves_taken_by f p s + saves_taken_in f (saves_after p s) ss

abbrev pub saves_ended_in : (SaveKey → Bool) → Places → List SaveStep → ℕ
saves_ended_in f p [] = 0
saves_ended_in f p (s ∷ ss) = saves_ended_by f p s + saves_ended_in f (saves_after p s) ss

-- no save, and so many places
abbrev pub no_saves : ℕ → Places
no_saves places = record { running = replicate places None; waiting = []; stopped = false }

-- No place is free.
abbrev pub NoneIsFree : Places → Type 0
NoneIsFree p = (place : ℕ) → slice_get p.running place ≡ Some None → ⊥

-- No save waits while a place is free, unless the program ends. So it is after each list of what happens to saves.
abbrev pub SavesWaitForPlaces : Type 0
SavesWaitForPlaces = (places : ℕ) (steps : List SaveStep) → let p = saves_after_all (no_saves places) steps in
    (p.stopped ≡ true) ⊎ ((p.waiting ≡ []) ⊎ NoneIsFree p)

-- how many elements of a list pass
abbrev pub how_many : {X : Type 0} → (X → Bool) → List X → ℕ
how_many f [] = 0
how_many f (x ∷ xs) = one_if (f x) + how_many f xs

-- how many saves that run or wait have a key that passes
abbrev pub readers : (SaveKey → Bool) → Places → ℕ
readers f p = how_many (has_such (has_key f)) p.running + how_many (has_key f) p.waiting

-- Each save that was taken in runs, waits or has ended, whichever of them are looked at.
abbrev pub SavesAddUp : Type 0
SavesAddUp = (places : ℕ) (f : SaveKey → Bool) (steps : List SaveStep) → let p = no_saves places in
    saves_taken_in f p steps ≡ saves_ended_in f p steps + readers f (saves_after_all p steps)

-- the program doesn't end
abbrev pub NeverStops : List SaveStep → Type 0
NeverStops [] = Unit {0}
NeverStops (stops ∷ ss) = ⊥
NeverStops (s ∷ ss) = NeverStops ss

-- As long as the program goes on, saves do release a clip once the text of one that began by itself is there, and clips
-- of its camera are released then: as soon as no save of it runs or waits any more.
abbrev pub EarnedClipsAreReleased : Type 0
EarnedClipsAreReleased = (places : ℕ) (key : SaveKey) (steps : List SaveStep) → let p = no_saves places in
    NeverStops steps → lets_in key p steps ≡ true → is_saving (saves_after_all p steps) key ≡ false
    → clip_released_in key p steps ≡ true

-- As long as the program goes on, a save that begins by itself is taken in, and so is each one where a place is free.
-- Once it ends, none is.
abbrev pub SavesAreTakenIn : Type 0
SavesAreTakenIn = (p : Places) (key : SaveKey) (automatic : Bool) (place : ℕ)
    → (p.stopped ≡ true → is_taken (asked p key automatic).1 ≡ false)
    × (p.stopped ≡ false → is_taken (asked p key true).1 ≡ true)
    × (p.stopped ≡ false → slice_get p.running place ≡ Some None → is_taken (asked p key automatic).1 ≡ true)

-- A cancel takes a save of the clip of its id, if one runs that isn't cancelled yet, or one waits.
abbrev pub CancelsFindTheirSave : Type 0
CancelsFindTheirSave = (p : Places) (camera id place : ℕ) (s : Save)
    → (slice_get p.running place ≡ Some (Some s) → picks camera id s ≡ true → (cancelled p camera id).1 ≢ No)
    × (slice_get p.waiting place ≡ Some s → reads camera id s ≡ true → (cancelled p camera id).1 ≢ No)
