-- Lists of commands, and which replies they get.
use Rattle.std.specs.Prelude.{◌≡◌, ℕ, Result, Ok, Err, List, [], ◌∷◌, length}
use Rattle.loop_disk.specs.Medium.{Medium}
use Rattle.loop_record.specs.declared.frame.FrameHead.{FrameHead}
use Rattle.loop_record.specs.declared.geometry.Geometry.{Geometry}
use Rattle.loop_record.specs.Geometry.{frame_bytes}
use Rattle.loop_record.specs.Recording.{picture}
use Rattle.loop_store.specs.declared.command.Command.{Command}
use Rattle.loop_store.specs.declared.command.ReadFrame.{ReadFrame}
use Rattle.loop_store.specs.declared.command.Reply.{Reply}
use Rattle.loop_store.specs.declared.fault.StoreFault.{StoreFault}
use Rattle.loop_store.specs.Calls.{Call, appended, locked, unlocked, was_read}
use Rattle.loop_store.specs.Goes.{Goes}
use Rattle.loop_store.specs.Seen.{Seen}
use Rattle.loop_store.specs.declared.command.Command.TheVariants as command
use Rattle.loop_store.specs.declared.command.Reply.TheVariants as reply

-- a frame to be stored has the geometry's size
abbrev pub IsOfSize : {A : Type 0} → Geometry → Command A → Type 0
IsOfSize g (command.Store frame) = length frame.bytes.items ≡ frame_bytes g
IsOfSize g _ = Unit {0}

-- the answer of a read into newly allocated memory, without the place of its bytes
abbrev pub read_of : {A : Type 0} → Result (ReadFrame A) StoreFault → Result (FrameHead × List ℕ) StoreFault
read_of (Ok frame) = Ok (frame.head, frame.bytes.items)
read_of (Err fault) = Err fault

-- a command and its reply are this call of the model
abbrev pub IsCall : {A : Type 0} → Command A → Reply A → Call → Type 0
IsCall (command.Store frame) (reply.Store result) call = call ≡ appended (picture frame ∷ []) result
IsCall (command.Lock span) (reply.Lock result) call = call ≡ locked span result
IsCall (command.Unlock id) (reply.Unlock result) call = call ≡ unlocked id result
IsCall (command.Read number) (reply.Read result) call = call ≡ was_read number (read_of result)
IsCall _ _ call = ⊥

-- the commands of a list and the replies are these calls, one by one
abbrev pub AreCalls : {A : Type 0} → List (Command A) → List (Reply A) → List Call → Type 0
AreCalls [] [] [] = Unit {0}
AreCalls (c ∷ cs) (p ∷ ps) (call ∷ calls) = IsCall c p call × AreCalls cs ps calls
AreCalls _ _ _ = ⊥

-- The store ran these commands, and answered each.
pub record Ran {D A : Type 0} (medium : D → Medium) (old new : Seen D) (commands : List (Command A))
    (replies : List (Reply A)) : Type 0 where
  pub calls : List Call
  pub are : AreCalls commands replies calls
  pub goes : Goes medium old new calls
