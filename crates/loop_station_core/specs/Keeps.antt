-- When a keep of a camera locks, and what.
use Rattle.std.specs.Prelude.{ℕ, ◌+◌, ◌-◌, ◌*◌, ◌%◌, ◌^◌, ◌≡◌, ◌≢◌, ◌≤◌, ◌<◌, ◌⊎◌, ◌==◌, ◌&&◌, ◌||◌, Bool, true, not, List, [], ◌∷◌, Option, Some, None, is_some, unwrap_or, min, max, nat_lt, nat_le, if◌then◌else◌, false}
use Rattle.loop_station_core.specs.declared.tally.Tally.{Tally}
use Rattle.loop_station_core.specs.declared.keep.Keep.{Keep}
use Rattle.loop_station_core.specs.declared.keep.Look.{Look}
use Rattle.loop_station_core.specs.declared.keep.KeepPeriod.{KeepPeriod}
use Rattle.loop_station_core.specs.declared.keep.KeepPeriod.TheVariants.{Around, Between}
use Rattle.loop_station_core.specs.declared.keep.KeepTurn.{KeepTurn}
use Rattle.loop_station_core.specs.declared.keep.KeepTurn.TheVariants.{Wait, Part, Whole}

-- how many steps frames have taken, as a u64 counts them
abbrev pub steps_taken : Tally → ℕ
steps_taken t = (t.brought + t.left) % 2 ^ 64

-- a keep that has seen whether a frame made progress
abbrev pub progress_seen : Keep → ℕ → ℕ → Keep
progress_seen k steps now = if steps == k.steps then k else record k { steps = steps; moved = now }

-- a keep that has seen whether its end has passed, and how many frames had come by then
abbrev pub end_seen : Keep → ℕ → ℕ → Keep
end_seen k now come = if nat_le k.until now && not (is_some k.all) then record k { all = Some (max come k.come) } else k

-- a keep that has looked
abbrev pub looked : Keep → Look → Keep
looked k l = end_seen (progress_seen k (steps_taken l.tally) l.time) l.time l.come

-- So many frames are at the desk or lost; or nothing helps: every block is locked, or no frame has made progress for a
-- minute.
abbrev pub is_clear : ℕ → Keep → Look → Bool
is_clear needs k l = nat_le needs l.tally.brought || (l.locked || nat_lt 60000000 (l.time - k.moved))

-- its end has passed, or nothing further comes
abbrev pub is_over : Keep → Look → Bool
is_over k l = is_some k.all || l.stopping

-- how many frames have to be at the desk before it is done
abbrev pub needed : Keep → Look → ℕ
needed k l = unwrap_or k.all (max l.come k.come)

-- it has locked all of the newest block that there is
abbrev pub has_newest : Keep → Look → Bool
has_newest k l = is_some k.part && (k.block == l.block)

-- it is done
abbrev pub is_done : Keep → Look → Bool
is_done k l = is_over k l && is_clear (needed k l) k l

-- it locks what is there
abbrev pub part_is_due : Keep → Look → Bool
part_is_due k l = is_clear k.come k l && not (has_newest k l)

-- the keep once it has locked what is there, and up to when
abbrev pub part_locked : Keep → Look → Keep × KeepTurn
part_locked k l = (record k { block = l.block; part = Some (min l.time k.until) }, Part (min l.time k.until))

-- what a keep that has looked does
abbrev pub acts : Keep → Look → Keep × KeepTurn
acts k l = if is_done k l then (k, Whole) else (if part_is_due k l then part_locked k l else (k, Wait))

-- what a keep does
abbrev pub step_keep : Keep → Look → Keep × KeepTurn
step_keep k l = acts (looked k l) l

-- the first and the last microsecond of so many seconds before a line was read, and so many after
abbrev pub bounds : ℕ → ℕ → ℕ → ℕ × ℕ
bounds read seconds after = (read - seconds * 1000000, min (read + after * 1000000) (2 ^ 64 - 1))

-- the time that a line asks for, with a camera's own seconds where it doesn't say any
abbrev pub asked_time : KeepPeriod → ℕ → ℕ → ℕ → ℕ × ℕ
asked_time (Around seconds more) read before after = bounds read (unwrap_or seconds before) (unwrap_or more after)
asked_time (Between since until) read before after = (since, until)

-- this holds of each of some looks, of the keep after it and of what it does then
abbrev pub EachTurn : (Look → Keep → KeepTurn → Type 0) → Keep → List Look → Type 0
EachTurn P k [] = Unit {0}
EachTurn P k (l ∷ ls) = P l (step_keep k l).0 (step_keep k l).1 × EachTurn P (step_keep k l).0 ls

-- the looks come one after the other, none before a time
abbrev pub AreInOrder : ℕ → List Look → Type 0
AreInOrder now [] = Unit {0}
AreInOrder now (l ∷ ls) = (now ≤ l.time) × AreInOrder l.time ls

-- So many frames are at the desk or lost, or every block is locked, or no frame was seen to make progress for a minute.
abbrev pub IsClear : ℕ → Keep → Look → Type 0
IsClear needs k l = (needs ≤ l.tally.brought) ⊎ ((l.locked ≡ true) ⊎ (60000000 < l.time - k.moved))

-- Of this keep's time, it locks only what there is, and only once each frame that had come before its line is at the
-- desk or lost (or nothing moves); it is done only once its end has passed, or nothing further comes.
abbrev pub IsRight : Keep → Look → Keep → KeepTurn → Type 0
IsRight k l k' Wait = Unit {0}
IsRight k l k' (Part until) = (until ≡ min l.time k.until) × IsClear k.come k' l
IsRight k l k' Whole = ((k.until ≤ l.time) ⊎ (l.stopping ≡ true)) × IsClear k.come k' l

-- its event, its times and its tag are those of its line
abbrev pub HasTimesOf : Keep → Keep → Type 0
HasTimesOf k k' = (k'.event ≡ k.event) × (k'.since ≡ k.since) × (k'.until ≡ k.until) × (k'.tag ≡ k.tag)
    × (k'.come ≡ k.come)

-- once it is known how many frames had come by its end, that end has passed, and those before its line are among them
abbrev pub IsTimely : ℕ → Keep → Type 0
IsTimely now k = (n : ℕ) → k.all ≡ Some n → (k.until ≤ now) × (k.come ≤ n)

-- A keep whose end has passed is done at the first look at which as many frames are at the desk or lost as had come by
-- its end.
abbrev pub KeepsEnd : Type 0
KeepsEnd = (k : Keep) (l : Look) → k.until ≤ l.time → unwrap_or k.all (max l.come k.come) ≤ l.tally.brought
    → (step_keep k l).1 ≡ Whole

-- And it isn't done before, unless each block is locked, or no frame has made progress for a minute.
abbrev pub KeepsHaveAll : Type 0
KeepsHaveAll = (k : Keep) (l : Look) → (step_keep k l).1 ≡ Whole
    → IsClear (unwrap_or k.all (max l.come k.come)) (step_keep k l).0 l

-- a time is one of those that are asked for
abbrev pub IsAskedTime : ℕ × ℕ → ℕ → Type 0
IsAskedTime times t = (times.0 ≤ t) × (t ≤ times.1)

-- `keep CAMERA N +M`: of the times that a clock can tell, exactly those are asked for that lie no more than N seconds
-- before its line was read, and no more than M seconds after.
abbrev pub KeepsCoverTheirSeconds : Type 0
KeepsCoverTheirSeconds = (read seconds more before after t : ℕ) → t < 2 ^ 64
    → let asked = asked_time (Around (Some seconds) (Some more)) read before after in
    (IsAskedTime asked t → (read ≤ t + seconds * 1000000) × (t ≤ read + more * 1000000))
    × (read ≤ t + seconds * 1000000 → t ≤ read + more * 1000000 → IsAskedTime asked t)

-- What a line doesn't say is as if it had said its camera's own seconds. So a keep without any has the time of the
-- camera's seconds, and what is said of one side leaves the other side alone.
abbrev pub KeepsTakeTheCamerasSeconds : Type 0
KeepsTakeTheCamerasSeconds = (seconds more : Option ℕ) (read before after : ℕ)
    → (asked_time (Around None more) read before after ≡ asked_time (Around (Some before) more) read before after)
    × (asked_time (Around seconds None) read before after ≡ asked_time (Around seconds (Some after)) read before after)

-- `keep CAMERA from T to T`: exactly the times from the one to the other are asked for, both included, whatever the
-- camera's own seconds are and whenever the line was read.
abbrev pub KeepsCoverBothEnds : Type 0
KeepsCoverBothEnds = (since until read before after t : ℕ)
    → let asked = asked_time (Between since until) read before after in
    (IsAskedTime asked t → (since ≤ t) × (t ≤ until)) × (since ≤ t → t ≤ until → IsAskedTime asked t)

-- A keep waits only for frames that had come before its line, or for a block after the one that it has locked.
abbrev pub KeepsLockEachBlock : Type 0
KeepsLockEachBlock = (k : Keep) (l : Look) → k.come ≤ l.tally.brought → (k.part ≡ None) ⊎ (k.block ≢ l.block)
    → (step_keep k l).1 ≢ Wait

-- A keep is done once its end has passed, or the program ends, and nothing helps: each block is locked, or no frame has
-- made progress for a minute. At a stop it is done at once where the frames that came are at the desk or lost.
abbrev pub StuckKeepsEnd : Type 0
StuckKeepsEnd = (k : Keep) (l : Look) → (k.until ≤ l.time) ⊎ (l.stopping ≡ true)
    → (l.locked ≡ true) ⊎ ((60000000 < l.time - (looked k l).moved) ⊎ (needed (looked k l) l ≤ l.tally.brought))
    → (step_keep k l).1 ≡ Whole

-- A frame's progress is seen when the count of steps is another one.
abbrev pub ProgressIsSeen : Type 0
ProgressIsSeen = (k : Keep) (l : Look) → (steps_taken l.tally ≡ k.steps → (looked k l).moved ≡ k.moved)
    × (steps_taken l.tally ≢ k.steps → (looked k l).moved ≡ l.time)

-- A keep locks a part only once for each block.
abbrev pub KeepsLockOnce : Type 0
KeepsLockOnce = (k : Keep) (l : Look) (until : ℕ) → (step_keep k l).1 ≡ Part until
    → (has_newest k l ≡ false) × (has_newest (step_keep k l).0 l ≡ true)
