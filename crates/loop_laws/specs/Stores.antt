-- Several stores of one ring, used as one long ring, and what happens to them.
use Rattle.std.specs.Prelude.{◌≡◌, ◌≢◌, ◌≤◌, ◌+◌, ◌%◌, ◌^◌, ℕ, Some, List, [], ◌∷◌, ◌++◌, length, map, replicate, slice_get, slice_set}
use Rattle.std.specs.List.{flat_map}
use Rattle.loop_record.specs.Recording.{Picture, Recording, Ring, Step, empty, plain, room, steps}
use Rattle.loop_desk.specs.declared.limits.Space.{Space}
use Rattle.loop_desk.specs.Space.{TellsSpace}
use Rattle.loop_pipeline.specs.Nexts.{TakesNext, end_past}

-- the recording of the store at each place, the place of the active one, and one past the sequence of the last frame
-- that came
pub record LongRing : Type 0 where
  pub recordings : List Recording
  pub active : ℕ
  pub end : ℕ

-- this many stores in which nothing is recorded
abbrev pub empty_stores : ℕ → ℕ → ℕ → LongRing
empty_stores count active end = record { recordings = replicate count empty; active = active; end = end }

-- each store tells the room that it has
pub record EachTells (ring : Ring) (keep : ℕ) (recordings : List Recording) (spaces : List Space) : Type 0 where
  pub all : length spaces ≡ length recordings
  pub tells : (place : ℕ) (r : Recording) (s : Space) → slice_get recordings place ≡ Some r
      → slice_get spaces place ≡ Some s → TellsSpace ring keep r s

-- by what each store tells, the one at this place takes the next block
pub record TakesBlock (ring : Ring) (keep : ℕ) (stores : LongRing) (place : ℕ) : Type 0 where
  pub spaces : List Space
  pub tell : EachTells ring keep stores.recordings spaces
  pub is : TakesNext stores.end stores.active spaces (Some place)

-- one past the last sequence, after frames
abbrev pub end_after : ℕ → List Picture → ℕ
end_after end [] = end
end_after end (p ∷ ps) = end_after (end_past p.sequence) ps

-- The store at this place takes a group of frames, by the steps of an append, and is the active one then: it is the
-- active one within a block, and the one that takes the next block where the active one's next number begins a block.
-- No group passes the end of a block.
pub record TakesGroup (ring : Ring) (keep : ℕ) (old new : LongRing) (place : ℕ) (group : List Picture) : Type 0 where
  pub active : Recording
  pub is_active : slice_get old.recordings old.active ≡ Some active
  pub within : active.next % ring.slots ≢ 0 → place ≡ old.active
  pub begins : active.next % ring.slots ≡ 0 → TakesBlock ring keep old place
  pub taker : Recording
  pub is_taker : slice_get old.recordings place ≡ Some taker
  pub some : 1 ≤ length group
  pub fits : length group ≤ room ring taker
  pub made : List Step
  pub by : steps ring keep taker group ≡ Some made
  pub leaves : new ≡ record {
    recordings = slice_set old.recordings place (plain ring taker made);
    active = place;
    end = end_after old.end group;
  }

-- What happens to the stores: a group of frames comes, and the store at this place takes it; a filming starts, and this
-- many were lost since the last frame; a store joins, as the last one.
pub data RingEvent : Type 0 where
  taken : ℕ → List Picture → RingEvent
  started : ℕ → RingEvent
  joined : RingEvent

-- At a start the store that has the newest frame is the active one, as before. A store that joins is empty.
abbrev pub TakesEvent : Ring → ℕ → LongRing → RingEvent → LongRing → Type 0
TakesEvent ring keep old (taken place group) new = TakesGroup ring keep old new place group
TakesEvent ring keep old (started lost) new = new ≡ record old { end = (old.end + lost) % 2 ^ 32 }
TakesEvent ring keep old joined new = new ≡ record old { recordings = old.recordings ++ empty ∷ [] }

-- one after the other
abbrev pub Run : Ring → ℕ → LongRing → List RingEvent → LongRing → Type 0
Run ring keep old [] new = new ≡ old
Run ring keep old (h ∷ hs) new = (mid : LongRing) × TakesEvent ring keep old h mid × Run ring keep mid hs new

abbrev pub placed_by : RingEvent → List (ℕ × Picture)
placed_by (taken place group) = map (λ p. (place, p)) group
placed_by _ = []

-- the frames, in the order in which they came, each with the place of its store
abbrev pub frames_placed : List RingEvent → List (ℕ × Picture)
frames_placed happened = flat_map placed_by happened

-- ---- how frames are counted

-- Each frame has a count of its own, which rises, from one number on and below another; its sequence is the count,
-- which goes round at 2^32.
abbrev pub Counted : ℕ → List Picture → ℕ → Type 0
Counted low [] high = high ≡ low
Counted low (p ∷ ps) high =
    (count : ℕ) × (low ≤ count) × (p.sequence ≡ count % 2 ^ 32) × Counted (count + 1) ps high

-- so it is of all frames, over starts: the count goes on there, after those that were lost
abbrev pub AreCounted : ℕ → List RingEvent → ℕ → Type 0
AreCounted low [] high = high ≡ low
AreCounted low (taken place group ∷ more) high = (mid : ℕ) × Counted low group mid × AreCounted mid more high
AreCounted low (started lost ∷ more) high = AreCounted (low + lost) more high
AreCounted low (joined ∷ more) high = AreCounted low more high
