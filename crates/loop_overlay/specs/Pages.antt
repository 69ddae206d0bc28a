-- What a log's disk is: which of its bytes are there, and what its reads lacked.
use Rattle.std.specs.Prelude.{◌≡◌, ℕ, ◌+◌, ◌*◌, ◌<◌, ◌≤◌, List, length, get_or, Option, Some, None}
use Rattle.loop_disk.specs.declared.crash.DeviceCall.{DeviceCall}
use Rattle.loop_disk.specs.declared.fault.Failures.{Failures}
use Rattle.loop_disk.specs.Crashing.{Tape, medium_after, moment_after}
use Rattle.loop_disk.specs.Medium.{Medium}
use Rattle.loop_disk.specs.Replay.{IsRecorded}
use Rattle.loop_overlay.specs.declared.pages.Wanted.{Wanted}

-- what it began with and its calls, the marks of its pages, and the last read that failed
pub record Logged : Type 0 where
  pub tape : Tape
  pub present : List ℕ
  pub wanted : Option Wanted

-- its medium is that of a disk in memory with these calls
abbrev pub logged : Logged → Medium
logged log = medium_after log.tape

-- the same with other counts of failed calls
abbrev pub with_failures : Failures → Logged → Logged
with_failures failures log = record log { tape = record log.tape { failures = failures } }

-- the same with other calls
abbrev pub with_calls : List (DeviceCall (List ℕ)) → Logged → Logged
with_calls calls log = record log { tape = record log.tape { calls = calls } }

-- the same where this read was refused last
abbrev pub refused_read : ℕ → ℕ → Logged → Logged
refused_read at count log = record log { wanted = Some (record { at = at; count = count }) }

-- ---- pages

-- the bytes of a page are there: its mark is 1
abbrev pub IsThere : List ℕ → ℕ → Type 0
IsThere present page = get_or present page 0 ≡ 1

-- there are so many bytes from a place on, and a page has one of them
abbrev pub Meets : ℕ → ℕ → ℕ → Type 0
Meets page at count = (0 < count) × ((page * 4096 < at + count) × (at < (page + 1) * 4096))

-- so many bytes from a place on are there
abbrev pub AllAreThere : List ℕ → ℕ → ℕ → Type 0
AllAreThere present at count = (page : ℕ) → Meets page at count → IsThere present page

-- one of their pages isn't there
pub record LacksPage (present : List ℕ) (at count : ℕ) : Type 0 where
  pub page : ℕ
  pub meets : Meets page at count
  pub gone : IsThere present page → ⊥

-- they are bytes of the disk, and one of their pages isn't there
pub record Lacks (bytes present : List ℕ) (at count : ℕ) : Type 0 where
  pub within : at + count ≤ length bytes
  pub lacks : LacksPage present at count

-- no read failed, and none is wanted; or reads did, and bytes of the last one aren't there
abbrev pub Awaits : List ℕ → List ℕ → ℕ → Option Wanted → Type 0
Awaits bytes present reads None = reads ≡ 0
Awaits bytes present reads (Some read) = (0 < reads) × Lacks bytes present read.at read.count

-- ---- for private contracts

-- what holds of each log's disk
pub record IsSoundLog (start : List ℕ) (calls : List (DeviceCall (List ℕ))) (present : List ℕ) (reads : ℕ)
    (wanted : Option Wanted) : Type 0 where
  pub recorded : IsRecorded start calls (moment_after start calls).bytes
  pub awaits : Awaits start present reads wanted
