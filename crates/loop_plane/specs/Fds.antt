-- What a table of fds says, and when a call of it is refused.
use Rattle.std.specs.Prelude.{◌≡◌, ℕ, ◌^◌, ◌<◌, ◌≤◌, Option, Some, None}
use Rattle.slab.specs.Slab.{Slab, get, HasRoomFor}
use Rattle.loop_plane.specs.declared.table.FdFault.{FdFault}
use Rattle.loop_plane.specs.declared.table.FdFault.TheVariants.{NoSuchFd, Attached, NotAttached, NoMemory, TableFull}

-- a table: each number has nothing, a value that is away, or a value; with them its room, and the number that comes
-- next
abbrev pub Fds : Type 0 → Type 0
Fds T = Slab (Option T)

module _ {T : Type 0} where
  -- what an fd names: None where it names nothing, Some None while its value is away
  abbrev pub names : Fds T → ℕ → Option (Option T)
  names fds fd = get fds fd

  -- the fd names nothing
  abbrev pub IsFree : Fds T → ℕ → Type 0
  IsFree fds fd = names fds fd ≡ None

  -- the fd is attached: its value is away
  abbrev pub IsAttached : Fds T → ℕ → Type 0
  IsAttached fds fd = names fds fd ≡ Some None

  -- the fd names this value, which isn't away
  abbrev pub IsHere : Fds T → ℕ → T → Type 0
  IsHere fds fd value = names fds fd ≡ Some (Some value)

  -- why a value wasn't added: the next fd is too large, or there was no room for one more
  abbrev pub AddFault : FdFault → Fds T → Type 0
  AddFault TableFull fds = 2 ^ 32 ≤ fds.vacant_key
  AddFault NoMemory fds = (fds.vacant_key < 2 ^ 32) × ¬ HasRoomFor fds 1
  AddFault NoSuchFd fds = ⊥
  AddFault Attached fds = ⊥
  AddFault NotAttached fds = ⊥

  -- why an fd wasn't attached or closed, by what it names: nothing, or a value that is away
  abbrev pub AttachFault : FdFault → Option (Option T) → Type 0
  AttachFault NoSuchFd named = named ≡ None
  AttachFault Attached named = named ≡ Some None
  AttachFault NotAttached named = ⊥
  AttachFault NoMemory named = ⊥
  AttachFault TableFull named = ⊥

  -- why a value wasn't brought back: the fd names nothing, or a value that is there
  abbrev pub DetachFault : FdFault → Option (Option T) → Type 0
  DetachFault NoSuchFd named = named ≡ None
  DetachFault NotAttached named = (value : T) × (named ≡ Some (Some value))
  DetachFault Attached named = ⊥
  DetachFault NoMemory named = ⊥
  DetachFault TableFull named = ⊥
