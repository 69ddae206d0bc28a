use Rattle.std.proofs.Common.{◌≡◌, ◌++◌, ◌≤◌, drop, vec_len, vec_capacity}
use Rattle.loop_clips.specs.Table.{clip_list}
use Rattle.loop_clips.proofs.table.ClipTable.list.Given as goal

-- the clips so far, and then those of the ids that are left, are all
abbrev pub invariant-loop-id : goal.invariant-loop-id
invariant-loop-id g l = record {
  few : vec_len l.list ≤ l.id;
  room : 64 ≤ vec_capacity l.list;
  clips : l.list.items ++ clip_list l.id (drop l.id l.self) ≡ clip_list 0 l.self;
}
