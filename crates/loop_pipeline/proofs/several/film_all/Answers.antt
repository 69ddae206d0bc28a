use denote.Param.Send.{sendable}
use Rattle.std.proofs.Common.{arith, rules}
use Rattle.loop_pipeline.proofs.several.film_all.Goals as goal

-- what the scope's closure requires, and that its type parameters may cross threads
pub scoped-outcomes-requires : goal.scoped-outcomes-requires
scoped-outcomes-requires g c =
    let s = c.type_bounds.send-S in
    let d = c.type_bounds.send-D in
    let p = c.type_bounds.send-P in
    let k = c.type_bounds.send-G in
    let threads = c.in-Ok.ensures in
    let outcomes = c.in-Ok-with_capacity.ensures in
    record {
      at = λ scope. (
        (
          (threads.items, omega (arith, c.len-count.ensures, threads.capacity)),
          (outcomes.items, omega (arith, c.len-count.ensures, outcomes.capacity)),
        ),
        (search sendable, search sendable, search sendable, search sendable, search rules, search rules),
      );
    }
