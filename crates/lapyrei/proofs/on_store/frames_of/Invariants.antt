use Rattle.std.proofs.Common.{◌≡◌, ◌+◌, ◌*◌, ◌≤◌, ◌++◌, All, drop, length, vec_len}
use Rattle.std.specs.Vec.{vec_capacity}
use Rattle.loop_record.specs.Plain.{pictures}
use Rattle.lapyrei.specs.Does.{pictures_in}
use Rattle.lapyrei.specs.Memory.{IsSpare}
use Rattle.lapyrei.proofs.on_store.frames_of.Given as goal

abbrev pub invariant-loop-head : goal.invariant-loop-head
invariant-loop-head l = record {
  frames : pictures l.frames.items ++ pictures_in l.size (drop l.head-index l.heads) l.rest
      ≡ pictures_in l.size l.heads l.bytes;
  sizes : All (λ frame. length frame.bytes.items ≡ l.size) l.frames.items;
  rest : l.head-index * l.size + length l.rest ≡ length l.heads * l.size;
  count : length l.frames.items ≡ l.head-index;
  filled : vec_len l.frames ≡ l.head-index;
  room : length l.heads ≤ vec_capacity l.frames;
  left : vec_len l.spare + l.head-index ≡ length l.heads;
  spare : All (IsSpare l.size) l.spare.items;
}
