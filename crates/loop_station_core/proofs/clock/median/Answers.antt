use Rattle.std.proofs.Common.{rules, refl}
use Rattle.std.proofs.lemmas.List.Sorted.{IsNonDecreasingBy-from_sort}
use Rattle.loop_station_core.proofs.clock.median.Goals as goal

pub returns-clause-some : goal.returns-clause-some
returns-clause-some c = (
  c.sort_unstable.new.self,
  c.sort_unstable.ensures.permutation,
  IsNonDecreasingBy-from_sort (λ v. v) _ c.sort_unstable.ensures.sorted,
  search rules,
  refl,
)
