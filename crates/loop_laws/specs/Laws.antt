-- How much several stores hold.
use Rattle.std.specs.Prelude.{◌≡◌, ◌≢◌, ◌≤◌, ◌<◌, ◌==◌, ◌+◌, ◌-◌, ◌*◌, ◌%◌, ◌^◌, ◌++◌, ℕ, Some, None, List, All, drop, length, map, max, min, slice_get}
use Rattle.std.specs.List.{filter}
use Rattle.loop_record.specs.Recording.{Picture, Recording, Ring, last_number, room}
use Rattle.loop_pipeline.specs.Nexts.{TakesNext}
use Rattle.loop_desk.specs.declared.limits.Space.{Space}
use Rattle.loop_laws.specs.Stores.{AreCounted, EachTells, RingEvent, Run, LongRing, TakesGroup, empty_stores, frames_placed}

-- the frames that the store at a place took, in order
abbrev pub taken_at : ℕ → List (ℕ × Picture) → List Picture
taken_at place came = map (λ t. t.1) (filter (λ t. t.0 == place) came)

-- of this many frames that came so many are held at least, the newest ones: all; or as many as fill all segments of all
-- stores but one, and one more
abbrev pub least_held : Ring → ℕ → ℕ → ℕ
least_held ring stores came = min came ((stores * ring.segments - 1) * ring.slots + 1)

-- The stores hold just the newest of all frames that came, each store those that it took: all but this many of the
-- first are held. So many frames came since there have been this many stores.
pub record HoldNewest (ring : Ring) (stores : LongRing) (came : List (ℕ × Picture)) (count since : ℕ) : Type 0 where
  pub placed : All (λ t. t.0 < length stores.recordings) came
  pub gone : ℕ
  pub hold : (place : ℕ) (r : Recording) → slice_get stores.recordings place ≡ Some r
      → map (λ f. f.1) r.frames ≡ taken_at place (drop gone came)
  pub enough : least_held ring count since ≤ length came - gone

-- Stores in which nothing was recorded at first and nothing is locked hold the newest of all frames that came, over
-- starts, and stores that join count from then on; within one round of the sequences.
abbrev pub StoresHoldNewest : Type 0
StoresHoldNewest =
    (ring : Ring) (keep count first low high : ℕ) (before after : List RingEvent) (mid stores : LongRing)
    → 1 ≤ ring.slots → Run ring keep (empty_stores count first (low % 2 ^ 32)) before mid
    → Run ring keep mid after stores → AreCounted low (before ++ after) high → high ≤ low + 2 ^ 32
    → HoldNewest ring stores (frames_placed (before ++ after)) (length mid.recordings) (length (frames_placed after))

-- no store has spent its numbers
abbrev pub NumbersLast : Ring → List Recording → Type 0
NumbersLast ring rs = (place : ℕ) (r : Recording) → slice_get rs place ≡ Some r → r.next ≢ last_number ring

-- Whatever the stores tell, one of them takes the next block; and each group is taken that the active store's block has
-- room for.
pub record GoOn (ring : Ring) (keep : ℕ) (stores : LongRing) (active : Recording) : Type 0 where
  pub turns : active.next % ring.slots ≡ 0 → (spaces : List Space) → EachTells ring keep stores.recordings spaces
      → TakesNext stores.end stores.active spaces None → ⊥
  pub takes : NumbersLast ring stores.recordings → (group : List Picture) → 1 ≤ length group
      → length group ≤ room ring active → (place : ℕ) × ((new : LongRing) × TakesGroup ring keep stores new place group)

-- And they go on, where fewer blocks are kept than a store has segments.
abbrev pub StoresGoOn : Type 0
StoresGoOn =
    (ring : Ring) (keep count first low high : ℕ) (happened : List RingEvent) (stores : LongRing) (active : Recording)
    → 1 ≤ ring.slots → max 1 keep < ring.segments
    → Run ring keep (empty_stores count first (low % 2 ^ 32)) happened stores → AreCounted low happened high
    → high ≤ low + 2 ^ 32 → slice_get stores.recordings stores.active ≡ Some active → GoOn ring keep stores active
