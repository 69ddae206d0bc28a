-- What a store keeps of its disk and its index. Only the store's own code uses this.
use Rattle.std.specs.Prelude.{◌≡◌, ℕ, Bool, false, List}
use Rattle.loop_disk.specs.Medium.{MayBe, Medium, IsSettled}
use Rattle.loop_record.specs.Layout.{version_in}
use Rattle.loop_store.specs.declared.index.Index.{Index}
use Rattle.loop_store.specs.Grow.{HasNoneStray}
use Rattle.loop_store.specs.Index.{IsFitting, IsRecovered, IsRecoveredIn, SaysRecording}
use Rattle.loop_store.specs.Times.{KnowsStamps}

-- the disk holds a recording of which the index says everything, its version and the stamps too; no gate is stray, and
-- a crash leaves nothing else
pub record IsPresent {A : Type 0} (index : Index A) (m : Medium) : Type 0 where
  pub recorded : IsRecovered index m.bytes
  pub version : version_in m.bytes ≡ index.version
  pub settled : IsSettled m
  pub unstray : HasNoneStray index.ring.geometry m.bytes
  pub stamped : KnowsStamps index.ring.geometry index.table.heads index.stamps.items m.bytes

-- there was a disk once all had been read, and the index is of each image that agrees with what it gave
pub record IsLookedUp {D A : Type 0} (medium : D → Medium) (disk : D) (index : Index A) : Type 0 where
  pub looked : D
  pub gives : (image : List ℕ) → MayBe (medium looked) image → MayBe (medium disk) image
  pub tells : (image : List ℕ) → MayBe (medium looked) image → IsRecoveredIn index image

-- the index fits the disk; with made-up frames it describes a whole recording; and where the store needn't be
-- reopened, it says what an honest disk holds
pub record IsKept {D A : Type 0} (medium : D → Medium) (disk : D) (index : Index A) (must_reopen : Bool) : Type 0 where
  pub fits : IsFitting index (medium disk).size
  pub known : SaysRecording index
  pub present : must_reopen ≡ false → (medium disk).honest → IsPresent index (medium disk)
