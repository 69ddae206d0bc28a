-- The past of a disk.
use Rattle.std.specs.Prelude.{ℕ, List, [], ◌∷◌}
use Rattle.loop_disk.specs.declared.past.DiskEvent.{DiskEvent}
use Rattle.loop_disk.specs.declared.past.DiskEvent.TheVariants.{Began, Gave, Synced, Wrote}
use Rattle.loop_disk.specs.History.{Moment}

-- what the last sync put on the disk, the ranges written since, the moments before the present one, and the places
-- and bytes of what reads gave: each list has the newest first
pub record Behind : Type 0 where
  pub settled : List ℕ
  pub loose : List (ℕ × ℕ)
  pub moments : List Moment
  pub reads : List (ℕ × List ℕ)

abbrev pub nothing_yet : Behind
nothing_yet = record { settled = []; loose = []; moments = []; reads = [] }

-- the present moment of a disk that holds these bytes
abbrev pub moment_now : Behind → List ℕ → Moment
moment_now behind bytes = record { settled = behind.settled; loose = behind.loose; bytes = bytes }

-- the disk's past after an event, which has the bytes from before it
abbrev pub behind_after : Behind → DiskEvent → Behind
behind_after behind (Began bytes) = record nothing_yet { settled = bytes.now }
behind_after behind (Wrote bytes at count) =
    record behind { loose = (at, count) ∷ behind.loose; moments = moment_now behind bytes.now ∷ behind.moments }
behind_after behind (Synced bytes) =
    record behind { settled = bytes.now; loose = []; moments = moment_now behind bytes.now ∷ behind.moments }
behind_after behind (Gave at bytes) = record behind { reads = (at, bytes.now) ∷ behind.reads }
