-- The numbers of the frames of segments.
use Rattle.std.specs.Prelude.{◌≡◌, ℕ, ◌*◌, ◌==◌, ◌<◌, ◌≤◌, Bool, false, true, Option, None, Some, List, [], ◌∷◌, ◌++◌}
use Rattle.std.specs.List.{list_any, range_with_len}
use Rattle.loop_record.specs.declared.geometry.Geometry.{Geometry}
use Rattle.loop_record.specs.declared.image.Found.{Found}
use Rattle.loop_record.specs.declared.segment.SegmentHead.{SegmentHead}

-- the numbers of the frames of found segments, one segment after the other
abbrev pub numbers_in : Geometry → List Found → List ℕ
numbers_in g [] = []
numbers_in g (f ∷ fs) = range_with_len (f.block * g.slots) f.frames ++ numbers_in g fs

-- the numbers of the frames that headers name, where blocks have this many frames
abbrev pub numbers_under : ℕ → List (Option SegmentHead) → List ℕ
numbers_under slots [] = []
numbers_under slots (None ∷ heads) = numbers_under slots heads
numbers_under slots (Some head ∷ heads) = range_with_len (head.block * slots) head.frames ++ numbers_under slots heads

-- a number is one of these
abbrev pub is_among : List ℕ → ℕ → Bool
is_among numbers number = list_any (λ n. n == number) numbers

-- the least number from n on that passes a test; nothing where none passes it
abbrev pub IsLeastFrom : (ℕ → Bool) → ℕ → Option ℕ → Type 0
IsLeastFrom p n None = (k : ℕ) → n ≤ k → p k ≡ false
IsLeastFrom p n (Some m) = (n ≤ m) × ((p m ≡ true) × ((k : ℕ) → n ≤ k → k < m → p k ≡ false))
