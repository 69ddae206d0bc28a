use Rattle.std.proofs.Common.{◌≡◌, ◌≤◌, length, vec_capacity}
use Rattle.loop_lane.specs.Lane.{LaneRan}
use Rattle.loop_lane.proofs.lane.lane_run.Given as goal

-- the events so far have run, and there is room for all replies
abbrev pub invariant-loop-event : goal.invariant-loop-event
invariant-loop-event g l = record {
  can : (goal.iterator-loop-event g).can_next l.event-iterator;
  ends : (goal.iterator-loop-event g).is_finite l.event-iterator;
  ran : LaneRan g.P.PlaneMemory.plane g.D.Disk.medium l.fn.lane l.lane l.yielded l.replies.items;
  count : length l.replies.items ≡ length l.yielded;
  room : length l.fn.events.items ≤ vec_capacity l.replies;
}
