-- How many and how large stores have to be, how much of one is free, and how many frames may wait before it.
use Rattle.std.specs.Prelude.{◌≡◌, ◌≤◌, ◌<◌, ◌⊎◌, ℕ, ◌+◌, ◌-◌, ◌*◌, ◌/◌, ◌^◌, IsTrue, Bool, ◌&&◌, List, [], ◌∷◌, Option, Some, None, Result, Ok, Err, zero, suc, max, min, nat_le, if◌then◌else◌}
use Rattle.std.specs.List.{list_any}
use Rattle.loop_clips.specs.declared.clip.Clip.{Clip}
use Rattle.loop_record.specs.Geometry.{divided_up, frame_bytes, is_good}
use Rattle.loop_record.specs.declared.geometry.Geometry.{Geometry}
use Rattle.loop_station_words.specs.Rings.{file_size}
use Rattle.loop_station_words.specs.Sets.{IsLeastCount, IsLeastSetFor, IsSetWithin, IsStoreCount, held_by}
use Rattle.loop_station_words.specs.declared.choices.MemoryLimit.{MemoryLimit}
use Rattle.loop_station_words.specs.declared.choices.MemoryLimit.TheVariants.{Bytes as MemoryBytes, Seconds as MemorySeconds}
use Rattle.loop_station_words.specs.declared.choices.StoreSize.{StoreSize}
use Rattle.loop_station_words.specs.declared.choices.StoreSize.TheVariants.{Bytes, Seconds}
use Rattle.loop_station_words.specs.declared.ring.RingSize.{RingSize}
use Rattle.loop_station_words.specs.declared.room.NoRing.{NoRing}
use Rattle.loop_station_words.specs.declared.room.NoRing.TheVariants.{TooManyFrames, TooFewBytes, BadFrames}
use Rattle.loop_station_words.specs.declared.sets.SetSize.{SetSize}

-- how many frames come in so many seconds, as a u64 counts them
abbrev pub frames_in_seconds : Geometry → ℕ → ℕ
frames_in_seconds g seconds = min (divided_up (seconds * g.rate_num) (max g.rate_den 1)) (2 ^ 64 - 1)

-- how many bytes each of them has; 0 where no store may have them
abbrev pub size_in : Geometry → ℕ
size_in g = if is_good g then frame_bytes g else 0

-- how many tenths of a minute of them the most stores hold
abbrev pub most_tenths : Geometry → ℕ
most_tenths g = 4194049 * g.rate_den / (6 * max g.rate_num 1)

-- the stores that the configuration asks for, or why there are none
abbrev pub IsAskedSet : Geometry → StoreSize → Result SetSize NoRing → Type 0
IsAskedSet g (Seconds s) (Ok set) = IsLeastSetFor (size_in g) (frames_in_seconds g s) set
IsAskedSet g (Seconds s) (Err why) = (why ≡ TooManyFrames (most_tenths g)) × (4194049 < frames_in_seconds g s)
IsAskedSet g (Bytes b) (Ok set) = IsTrue (is_good g) × IsSetWithin (frame_bytes g) b set
IsAskedSet g (Bytes b) (Err why) = (why ≡ (if is_good g then TooFewBytes else BadFrames))
    × (IsTrue (is_good g) → b < file_size (frame_bytes g) (record { segments = 2; slots = 1 }))

-- the ring of a store
abbrev pub ring_size_of : Geometry → RingSize
ring_size_of g = record { segments = g.segments; slots = g.slots }

-- as many stores of a ring have files of at most so many bytes together, but one where none has, and 256 at most
pub record IsMostWithin (frame bytes : ℕ) (ring : RingSize) (stores : ℕ) : Type 0 where
  pub count : IsStoreCount stores
  pub fits : 2 ≤ stores → stores * file_size frame ring ≤ bytes
  pub most : (n : ℕ) → n ≤ 256 → n * file_size frame ring ≤ bytes → n ≤ stores

-- as many stores of a store's kind are asked for, but 256 where they have too little
abbrev pub IsAskedCount : Geometry → StoreSize → ℕ → Type 0
IsAskedCount g (Seconds s) stores = IsLeastCount (frames_in_seconds g s) (ring_size_of g) stores
    ⊎ ((stores ≡ 256) × (held_by 256 (ring_size_of g) < frames_in_seconds g s))
IsAskedCount g (Bytes b) stores = IsMostWithin (frame_bytes g) b (ring_size_of g) stores

-- how many frames so many stores of a ring always hold, as a u64 counts them
abbrev pub held_frames : ℕ → RingSize → ℕ
held_frames stores ring = min (held_by stores ring) (2 ^ 64 - 1)

-- as many frames of a store's kind are asked for
abbrev pub AreAsked : Geometry → StoreSize → ℕ → Type 0
AreAsked g (Seconds s) frames = frames ≡ frames_in_seconds g s
AreAsked g (Bytes b) frames = (asked : Result SetSize NoRing) × IsAskedSet g (Bytes b) asked
    × (frames ≡ elim asked [ Ok set ↦ held_frames set.stores set.ring | Err why ↦ 0 ])

-- how many microseconds so many frames last
abbrev pub duration_of : ℕ → Geometry → ℕ
duration_of frames g = min (frames * 1000000 * g.rate_den / max g.rate_num 1) (2 ^ 64 - 1)

-- how many microseconds are asked for
abbrev pub asked_micros : Geometry → StoreSize → ℕ → ℕ
asked_micros g (Seconds s) frames = min (s * 1000000) (2 ^ 64 - 1)
asked_micros g (Bytes b) frames = duration_of frames g

-- what so many stores of a kind always hold, and what is asked for, unless they hold that
abbrev pub HoldsLess : Geometry → ℕ → StoreSize → Option (ℕ × ℕ) → Type 0
HoldsLess g stores room less = (frames : ℕ) × AreAsked g room frames
    × (less ≡ (if nat_le frames (held_frames stores (ring_size_of g)) then None
    else Some (duration_of (held_frames stores (ring_size_of g)) g, asked_micros g room frames)))

-- how many frames of so many bytes have room in memory: those of four seconds and 256 MB at most where nothing is said
abbrev pub in_memory : Option MemoryLimit → ℕ → Geometry → ℕ
in_memory (Some (MemorySeconds s)) size g = frames_in_seconds g s
in_memory (Some (MemoryBytes b)) size g = b / size
in_memory None size g = min (frames_in_seconds g 4) (256000000 / size)

abbrev pub frames_before : Option MemoryLimit → Geometry → ℕ
frames_before memory g = if is_good g then min (in_memory memory (max (frame_bytes g) 1) g) 1000000 else 0

-- the number of the newest block
abbrev pub newest_block : Geometry → ℕ → ℕ
newest_block g next = (next - 1) / max g.slots 1

-- a clip has a frame in a block of so many slots
abbrev pub clip_meets : ℕ → ℕ → Clip → Bool
clip_meets slots block clip = nat_le (clip.from / slots) block && nat_le block (clip.to / slots)

-- one of some clips does
abbrev pub is_met : ℕ → List Clip → ℕ → Bool
is_met slots clips block = list_any (clip_meets slots block) clips

-- how many of the first blocks clips meet
abbrev pub locked_below : ℕ → List Clip → ℕ → ℕ
locked_below slots clips zero = 0
locked_below slots clips (suc block) = (if is_met slots clips block then 1 else 0) + locked_below slots clips block

-- the blocks of the ring but the newest one, and the older ones that clips meet
abbrev pub free_blocks : Geometry → ℕ → List Clip → ℕ
free_blocks g next clips = g.segments - 1 - locked_below (max g.slots 1) clips (newest_block g next)

-- the lowest block from one on that a clip meets
abbrev pub lowest_in : ℕ → ℕ → Clip → Option ℕ
lowest_in slots from clip =
    if nat_le (max (clip.from / slots) from) (clip.to / slots) then Some (max (clip.from / slots) from) else None

abbrev pub nearer : Option ℕ → Option ℕ → Option ℕ
nearer None other = other
nearer (Some one) None = Some one
nearer (Some one) (Some other) = Some (min one other)

-- the same of some clips
abbrev pub lowest_met : ℕ → ℕ → List Clip → Option ℕ
lowest_met slots from [] = None
lowest_met slots from (clip ∷ clips) = nearer (lowest_in slots from clip) (lowest_met slots from clips)
