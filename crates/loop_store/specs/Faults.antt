-- Refusals: their numbers and names, and what each says of the disk.
use Rattle.std.specs.Prelude.{ℕ, Bool, true, false, not, ◌&&◌, Option, None, Some, Result, List, codes}
use Rattle.std.specs.Option.{option_map_or}
use Rattle.std.specs.Result.{result_err}
use Rattle.loop_disk.specs.declared.fault.DiskFault.{DiskFault}
use Rattle.loop_disk.specs.Calls.{is_write_or_sync}
use Rattle.loop_ring.specs.declared.fault.SlotFault.{SlotFault}
use Rattle.loop_ring.specs.declared.fault.SlotFault.TheVariants as slot
use Rattle.loop_store.specs.declared.fault.StoreFault.{StoreFault}
use Rattle.loop_store.specs.declared.fault.StoreFault.TheVariants.{NoMemory, Disk, MustReopen, NotFormatted, Damaged, NotHeld, BadGeometry, NumbersSpent, AllLocked, ClipEmpty, ClipNotHeld, ClipTableFull, NoSuchClip, PendingFull, WrongSize, HandFull, HandEmpty, OldLayout, BadKeep}

-- the number of each refusal
abbrev pub fault_number : StoreFault → ℕ
fault_number NoMemory = 1
fault_number (Disk fault) = 2
fault_number MustReopen = 3
fault_number NotFormatted = 4
fault_number (Damaged damage) = 5
fault_number AllLocked = 6
fault_number PendingFull = 7
fault_number WrongSize = 8
fault_number ClipEmpty = 9
fault_number (ClipNotHeld number) = 10
fault_number ClipTableFull = 11
fault_number NoSuchClip = 12
fault_number NotHeld = 13
fault_number NumbersSpent = 14
fault_number BadGeometry = 16
fault_number HandFull = 18
fault_number HandEmpty = 19
fault_number OldLayout = 21
fault_number BadKeep = 22

-- the name of each refusal
abbrev pub fault_name : StoreFault → List ℕ
fault_name NoMemory = codes "NoMemory"
fault_name (Disk fault) = codes "Disk"
fault_name MustReopen = codes "MustReopen"
fault_name NotFormatted = codes "NotFormatted"
fault_name (Damaged damage) = codes "Damaged"
fault_name AllLocked = codes "AllLocked"
fault_name PendingFull = codes "PendingFull"
fault_name WrongSize = codes "WrongSize"
fault_name ClipEmpty = codes "ClipEmpty"
fault_name (ClipNotHeld number) = codes "ClipNotHeld"
fault_name ClipTableFull = codes "ClipTableFull"
fault_name NoSuchClip = codes "NoSuchClip"
fault_name NotHeld = codes "NotHeld"
fault_name NumbersSpent = codes "NumbersSpent"
fault_name BadGeometry = codes "BadGeometry"
fault_name HandFull = codes "HandFull"
fault_name HandEmpty = codes "HandEmpty"
fault_name OldLayout = codes "OldLayout"
fault_name BadKeep = codes "BadKeep"

-- a call of the disk has failed
abbrev pub is_disk : StoreFault → Bool
is_disk (Disk fault) = true
is_disk _ = false

-- a write or a sync of the disk has failed
abbrev pub is_write_fault : StoreFault → Bool
is_write_fault (Disk fault) = is_write_or_sync fault
is_write_fault _ = false

-- there is a refusal, because a call of the disk failed
abbrev pub disk_failed : Option StoreFault → Bool
disk_failed fault = option_map_or is_disk fault false

-- the call of the disk that failed, if the refusal says so
abbrev pub failed_by : StoreFault → Option DiskFault
failed_by (Disk fault) = Some fault
failed_by _ = None

abbrev pub failed_as : Option StoreFault → Option DiskFault
failed_as None = None
failed_as (Some fault) = failed_by fault

-- the same of an answer
abbrev pub failed_in : {T : Type 0} → Result T StoreFault → Option DiskFault
failed_in result = failed_as (result_err result)

-- the disk isn't honest
abbrev pub is_damage : StoreFault → Bool
is_damage (Damaged damage) = true
is_damage _ = false

-- the refusal came before the disk was called
abbrev pub is_early : Option StoreFault → Bool
is_early fault = option_map_or (λ f. not (is_disk f) && not (is_damage f)) fault false

-- the store's refusal for that of a slot
abbrev pub slot_refusal : SlotFault → StoreFault
slot_refusal (slot.Disk fault) = Disk fault
slot_refusal (slot.Damaged damage) = Damaged damage
