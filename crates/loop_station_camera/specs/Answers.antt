-- Frames with which desks answered, and where a camera's stores are.
use Rattle.std.specs.Prelude.{ℕ, Result, Ok, Err, List, map}
use Rattle.loop_record.specs.declared.frame.FrameHead.{FrameHead}
use Rattle.loop_store.specs.declared.fault.StoreFault.{StoreFault}

-- the store of a number is at a place among a camera's desks
pub record SeenPlace : Type 0 where
  pub store : ℕ
  pub place : ℕ

-- a frame with which the desk of a store answered, when it was asked for a number: its head and its bytes
pub record SeenAnswer : Type 0 where
  pub store : ℕ
  pub number : ℕ
  pub head : FrameHead
  pub bytes : List ℕ

-- the answer as the desk's own call has it
abbrev pub desk_answer : Result SeenAnswer StoreFault → Result (FrameHead × List ℕ) StoreFault
desk_answer (Ok a) = Ok (a.head, a.bytes)
desk_answer (Err fault) = Err fault

-- the bytes of several, in their order
abbrev pub answered_bytes : List SeenAnswer → List (List ℕ)
answered_bytes answers = map (λ a. a.bytes) answers
