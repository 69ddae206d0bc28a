use Rattle.std.proofs.Common.{◌≡◌, map, take}
use Rattle.lapyrei.specs.Shown.{clip_run, put_over}
use Rattle.lapyrei.proofs.on_store.put_clips.Given as goal

abbrev pub invariant-loop-i : goal.invariant-loop-i
invariant-loop-i l = l.out ≡ put_over (map clip_run (take l.i l.clips)) l.fn.out
