use Rattle.std.proofs.Common.{◌≡◌}
use Rattle.std.specs.Prelude.{vec_len}
use Rattle.loop_ioctl.specs.Names.{names_in, AreAway, given_back}
use Rattle.loop_ioctl.proofs.Short.{values_of}
use Rattle.loop_ioctl.proofs.fds.give_all.Given as goal

-- what is left decides
abbrev pub invariant-along : goal.invariant-along
invariant-along g l = AreAway (values_of l.initial.sets.items) (names_in l.initial.table) → record {
  away : AreAway (values_of l.sets.items) (names_in l.table);
  back : given_back (values_of l.sets.items) (names_in l.table) ≡ given_back (values_of l.initial.sets.items)
      (names_in l.initial.table);
}

abbrev pub decreases-along : goal.decreases-along
decreases-along g l = vec_len l.sets
