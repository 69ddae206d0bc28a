-- A file's answers as those of a disk, and a disk that was not used yet.
use Rattle.std.specs.Prelude.{◌≡◌, ℕ, Result, Ok, Err, List}
use Rattle.loop_disk.specs.Calls.{no_failures}
use Rattle.loop_disk.specs.Medium.{Medium}

-- the file's Ok is the disk's, and each error of the file is this fault
abbrev pub failing_as : {T E F : Type 0} → F → Result T E → Result T F
failing_as fault (Ok x) = Ok x
failing_as fault (Err error) = Err fault

-- no call has failed yet, and nothing was read
pub record IsUnused (m : Medium) : Type 0 where
  pub counted : m.failures ≡ no_failures
  pub unread : (image : List ℕ) → m.agrees image
