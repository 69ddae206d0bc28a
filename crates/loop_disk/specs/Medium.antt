-- What is stored on a disk, and what a crash may leave of it. An image is all the bytes of a disk.
use Rattle.std.specs.Prelude.{◌≡◌, ◌⊎◌, ℕ, ◌+◌, ◌<◌, ◌≤◌, List, ◌++◌, length, take, drop, get_or}
use Rattle.loop_disk.specs.declared.fault.Failures.{Failures}

pub record Medium : Type 1 where
  -- how many bytes it has
  pub size : ℕ
  -- its calls do to bytes and images what their clauses say
  pub honest : Type 0
  -- how many of its calls have failed
  pub failures : Failures
  -- what a read gives
  pub bytes : List ℕ
  -- the images that agree with what its reads gave
  pub agrees : List ℕ → Type 0
  -- the images that a crash now may leave
  pub may_leave : List ℕ → Type 0
  -- the time, as a number that doesn't fall
  pub moment : ℕ
  -- the images that a crash at some moment from that one on might have left, during a call or between two
  pub left_since : ℕ → List ℕ → Type 0

-- the n bytes from `at` on
abbrev pub piece : ℕ → ℕ → List ℕ → List ℕ
piece at n image = take n (drop at image)

-- the image with these bytes at `at`
abbrev pub with_bytes_at : ℕ → List ℕ → List ℕ → List ℕ
with_bytes_at at bytes image = take at image ++ bytes ++ drop (at + length bytes) image

-- the same image but for the n bytes from `at` on, which may be any
pub record SameOutside (at n : ℕ) (old new : List ℕ) : Type 0 where
  pub size : length new ≡ length old
  pub before : (i : ℕ) → i < at → get_or new i 0 ≡ get_or old i 0
  pub behind : (i : ℕ) → at + n ≤ i → get_or new i 0 ≡ get_or old i 0

-- an image that a crash might have left before, with any bytes in the n places from `at` on
abbrev pub TornAt : ℕ → ℕ → Medium → List ℕ → Type 0
TornAt at n old c = (d : List ℕ) × old.may_leave d × SameOutside at n d c

-- a crash leaves the present bytes
abbrev pub IsSettled : Medium → Type 0
IsSettled m = (c : List ℕ) → m.may_leave c → c ≡ m.bytes

-- the disk holds this image, with nothing written since a sync
pub record IsFresh (image : List ℕ) (m : Medium) : Type 0 where
  pub bytes : m.bytes ≡ image
  pub settled : (c : List ℕ) → m.may_leave c → c ≡ image

-- Time passed from old to new: a crash since t might have left what it might have left before, or what has P.
pub record Meanwhile (old new : Medium) (P : List ℕ → Type 0) : Type 0 where
  pub later : old.moment ≤ new.moment
  pub nothing_else : (t : ℕ) (c : List ℕ) → t ≤ old.moment → new.left_since t c → old.left_since t c ⊎ P c

-- what a crash since t might have left before, it still might
abbrev pub Remembers : Medium → Medium → Type 0
Remembers old new = (t : ℕ) (c : List ℕ) → t ≤ old.moment → old.left_since t c → new.left_since t c

-- given what its reads gave, this may be the disk's image
pub record MayBe (m : Medium) (image : List ℕ) : Type 0 where
  pub size : length image ≡ m.size
  pub agrees : m.agrees image

-- what holds of every honest disk
pub record IsSound (m : Medium) : Type 0 where
  pub length_is : length m.bytes ≡ m.size
  pub images_length : (c : List ℕ) → m.may_leave c → length c ≡ m.size
  pub present : m.may_leave m.bytes
  pub shown : m.agrees m.bytes
  -- this moment is one of those since an earlier one
  pub counts_now : (t : ℕ) (c : List ℕ) → t ≤ m.moment → m.may_leave c → m.left_since t c
  -- since this moment there is no other
  pub only_now : (c : List ℕ) → m.left_since m.moment c → m.may_leave c

-- Each image of each moment since old has P.
pub record LeavesOnly (old new : Medium) (P : List ℕ → Type 0) : Type 0 where
  pub each : (c : List ℕ) → new.left_since old.moment c → P c
  -- for a run that began earlier
  pub time : Meanwhile old new P

-- a crash may leave each image that it might have left before, with any bytes in the n places from `at` on
abbrev pub LeavesEachTorn : ℕ → ℕ → Medium → Medium → Type 0
LeavesEachTorn at n old new = (c : List ℕ) → TornAt at n old c → new.may_leave c

-- what a crash might have left, it still may leave
abbrev pub LeavesEach : Medium → Medium → Type 0
LeavesEach old new = (c : List ℕ) → old.may_leave c → new.may_leave c

-- the same bytes, and the same images now and since each moment
pub record IsSame (old new : Medium) : Type 0 where
  pub bytes : new.bytes ≡ old.bytes
  pub moment : new.moment ≡ old.moment
  pub loses_none : (c : List ℕ) → old.may_leave c → new.may_leave c
  pub adds_none : (c : List ℕ) → new.may_leave c → old.may_leave c
  pub forgets_none : (t : ℕ) (c : List ℕ) → old.left_since t c → new.left_since t c
  pub invents_none : (t : ℕ) (c : List ℕ) → new.left_since t c → old.left_since t c
