use Rattle.std.proofs.Common.{◌≡◌, ◌≤◌, length, take, vec_capacity, vec_len}
use Rattle.loop_store.specs.Runs.{Ran}
use Rattle.loop_store.proofs.store.Store.run.Given as goal

-- the commands so far have run, and there is room for all replies
abbrev pub invariant-loop-command : goal.invariant-loop-command
invariant-loop-command g l = record {
  ran : Ran g.D.Disk.medium l.fn.self l.self (take l.command-index l.fn.commands) l.replies.items;
  geometry : l.self.geometry ≡ l.fn.self.geometry;
  count : vec_len l.replies ≡ l.command-index;
  room : length l.fn.commands ≤ vec_capacity l.replies;
}
