use Rattle.std.proofs.Common.{◌≡◌, ◌≤◌, ◌+◌, ◌++◌, true, length}
use Rattle.std.specs.Prelude.{vec_len, vec_capacity}
use Rattle.std.specs.Vec.Iter.{into_iter_items, into_iter_len}
use Rattle.loop_ioctl.specs.Events.{Runs, are_whole}
use Rattle.loop_ioctl.proofs.events.run_events.Given as goal

-- the events so far have run, those to come are whole, and there is room for their replies
abbrev pub invariant-loop-event : goal.invariant-loop-event
invariant-loop-event g l = record {
  items : l.yielded ++ into_iter_items l.event-iterator ≡ l.fn.events.items;
  left : into_iter_len l.event-iterator ≡ length (into_iter_items l.event-iterator);
  runs : Runs g.P.PlaneMemory.plane l.yielded l.replies.items l.fn.queue l.fn.table l.queue l.table;
  shape : l.queue.body.shape ≡ l.fn.queue.body.shape;
  whole : are_whole l.fn.queue.body.shape (into_iter_items l.event-iterator) ≡ true;
  room : vec_len l.replies + length (into_iter_items l.event-iterator) ≤ vec_capacity l.replies;
}
