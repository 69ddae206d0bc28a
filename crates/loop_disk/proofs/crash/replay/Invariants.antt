use Rattle.std.proofs.Common.{◌≡◌, length, map, take}
use Rattle.loop_disk.specs.Crashing.{call_of, moment_after}
use Rattle.loop_disk.specs.Replay.{IsReplayed}
use Rattle.loop_disk.proofs.crash.replay.Given as goal

abbrev pub invariant-loop-call : goal.invariant-loop-call
invariant-loop-call g l = record {
  replayed : IsReplayed l.spoil (moment_after l.fn.bytes.items
      (map (call_of (λ v. v.items)) (take l.call-index l.calls))) l.bytes.items l.image.items;
  size : length l.bytes.items ≡ length l.fn.bytes.items;
  image_size : length l.image.items ≡ length l.fn.bytes.items;
}
