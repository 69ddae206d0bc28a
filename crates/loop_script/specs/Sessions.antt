-- What a session shows, and which calls of its desk it makes.
use Rattle.std.specs.Prelude.{◌≡◌, ◌≢◌, ◌⊎◌, ℕ, ◌+◌, ◌-◌, ◌<◌, ◌^◌, IsTrue, false, if◌then◌else◌, nat_lt, min, Option, Some, None, Result, Ok, Err, List, [], ◌∷◌, length}
use Rattle.loop_desk.specs.declared.limits.DeskLimits.{DeskLimits}
use Rattle.loop_desk.specs.declared.limits.Flushed.{Flushed}
use Rattle.loop_desk.specs.Desk.{DeskCall, flushed, submitted}
use Rattle.loop_desk.specs.Seen.{SeenDesk}
use Rattle.loop_disk.specs.Medium.{Medium}
use Rattle.loop_record.specs.declared.geometry.Geometry.{Geometry}
use Rattle.loop_record.specs.declared.superblock.SuperHead.{SuperHead}
use Rattle.loop_record.specs.Geometry.{frame_bytes, is_good}
use Rattle.loop_record.specs.Recording.{empty, last_number, ring_of}
use Rattle.loop_store.specs.declared.fault.StoreFault.{StoreFault}
use Rattle.loop_store.specs.declared.fault.StoreFault.TheVariants.{NoMemory, NumbersSpent, PendingFull}
use Rattle.loop_store.specs.Make.{IsFormatted}
use Rattle.loop_store.specs.Seen.{StandsFor}
use Rattle.loop_script.specs.Pattern.{pattern_picture}

-- its desk, and how many frames were accepted since its store was formatted
pub record Shown (D : Type 0) : Type 0 where
  pub desk : SeenDesk D
  pub accepted : ℕ

-- how much the desk of a script accepts
abbrev pub script_limits : DeskLimits
script_limits = record { pending = 64; group = 8; calls = 1000000 }

-- nothing waits at the desk, which accepts as much as a script's does
pub record IsNewDesk {D : Type 0} (d : SeenDesk D) : Type 0 where
  pub pending : d.pending ≡ []
  pub limits : d.limits ≡ script_limits

-- it was formatted with this head, its store stands for the empty recording, and no frame was accepted yet
pub record IsFreshSession {D : Type 0} (medium : D → Medium) (h : SuperHead) (s : Shown D) : Type 0 where
  pub formatted : IsFormatted h s.desk.store
  pub stands : StandsFor medium s.desk.store empty
  pub desk : IsNewDesk s.desk
  pub accepted : s.accepted ≡ 0

-- ---- one more frame

-- frame n of the pattern was submitted, and answered so
abbrev pub pattern_submitted : Geometry → ℕ → Result ℕ StoreFault → DeskCall
pattern_submitted g n answer = submitted (pattern_picture g n) (frame_bytes g) answer

-- the calls of a submit of frame n: none where there was no memory for it
abbrev pub calls_of_submit : Geometry → ℕ → Result ℕ StoreFault → List DeskCall
calls_of_submit g n (Err NoMemory) = []
calls_of_submit g n answer = pattern_submitted g n answer ∷ []

-- why a frame isn't accepted
abbrev pub RefusesFrame : StoreFault → Type 0
RefusesFrame fault = (fault ≡ NoMemory) ⊎ ((fault ≡ PendingFull) ⊎ (fault ≡ NumbersSpent))

-- the calls of a store of frame n: it is submitted, and once it is accepted, a flush follows and gives the answer
abbrev pub calls_of_store : {D : Type 0} → SeenDesk D → ℕ → Result Flushed StoreFault → List DeskCall
calls_of_store d n (Err NoMemory) = []
calls_of_store d n (Err PendingFull) = pattern_submitted d.store.geometry n (Err PendingFull) ∷ []
calls_of_store d n (Err NumbersSpent) = pattern_submitted d.store.geometry n (Err NumbersSpent) ∷ []
calls_of_store d n answer =
    pattern_submitted d.store.geometry n (Ok (d.store.next + length d.pending)) ∷ flushed answer ∷ []

-- how many frames are accepted after one more was submitted, up to the greatest u64: it counts though the flush after
-- it was refused
abbrev pub accepted_after : {T : Type 0} → ℕ → Result T StoreFault → ℕ
accepted_after count (Err NoMemory) = count
accepted_after count (Err PendingFull) = count
accepted_after count (Err NumbersSpent) = count
accepted_after count answer = min (count + 1) (2 ^ 64 - 1)

-- the first and the last number of what was stored since `before` was the next number, where `next` is so now
abbrev pub stored_since : ℕ → ℕ → Option (ℕ × ℕ)
stored_since before next = if nat_lt before next then Some (before, next - 1) else None

-- ---- what only the session's own code uses

-- frames of the geometry can be made, no call has failed, and each frame that waits has a number
pub record IsSession {D : Type 0} (d : SeenDesk D) : Type 0 where
  pub good : IsTrue (is_good d.store.geometry)
  pub fine : d.store.must_reopen ≡ false
  pub numbers : (k : ℕ) → k < length d.pending → d.store.next + k ≢ last_number (ring_of d.store.geometry)
