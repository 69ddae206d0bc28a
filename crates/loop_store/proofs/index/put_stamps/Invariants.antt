use Rattle.std.proofs.Common.{◌≡◌, ◌⊎◌, ℕ, ◌+◌, ◌<◌, ◌≤◌, get_or}
use Rattle.loop_record.specs.Recording.{Picture}
use Rattle.loop_ring.specs.Groups.{slot_stamp}
use Rattle.loop_store.specs.Times.{no_stamp}
use Rattle.loop_store.proofs.index.put_stamps.Given as goal

abbrev pub invariant-loop-place : goal.invariant-loop-place
invariant-loop-place l = record {
  there : (k : ℕ) (d : Picture) → k < l.place → get_or l.stamps (l.at + k) no_stamp ≡ slot_stamp (get_or l.group.frames k d);
  others : (i : ℕ) → (i < l.at) ⊎ (l.at + l.place ≤ i) → get_or l.stamps i no_stamp ≡ get_or l.fn.stamps i no_stamp;
}
