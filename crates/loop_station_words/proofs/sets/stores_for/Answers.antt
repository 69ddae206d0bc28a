use Rattle.std.proofs.Common.{◌≤◌, ◌+◌, ◌-◌, arith, rules}
use Rattle.std.proofs.Math.Nat.{mul-le-mul_right}
use Rattle.std.proofs.lemmas.Bool.{true≢false}
use Rattle.loop_station_words.proofs.StoreCounts.{enough-blocks, least-blocks, some-stores, up-bounds}
use Rattle.loop_station_words.proofs.sets.stores_for.Goals as goal

pub returns-then-stores-from-clause-none : goal.returns-then-stores-from-clause-none
returns-then-stores-from-clause-none c =
    let frames = c.args.frames in
    let slots = c.args.ring.slots in
    let segments = c.args.ring.segments in
    let blocks = up-bounds (frames - 1) slots c.div_ceil-blocks.result (omega arith) (search rules) in
    let stores = up-bounds (c.div_ceil-blocks.result + 1) segments c.div_ceil-stores.result (omega arith) (search rules) in
    let least = least-blocks frames slots segments c.div_ceil-blocks.result c.div_ceil-stores.result 256 blocks.1 stores.1
    (omega arith) (omega arith) in
    grind (arith, least)

pub returns-clause-least : goal.returns-clause-least
returns-clause-least c =
    let frames = c.args.frames in
    let slots = c.args.ring.slots in
    let segments = c.args.ring.segments in
    let blocks = up-bounds (frames - 1) slots c.div_ceil-blocks.result (omega arith) (search rules) in
    let stores = up-bounds (c.div_ceil-blocks.result + 1) segments c.div_ceil-stores.result (omega arith) (search rules) in
    record {
      count = (some-stores c.div_ceil-stores.result segments c.div_ceil-blocks.result stores.0, omega arith);
      enough = enough-blocks frames slots segments c.div_ceil-blocks.result c.div_ceil-stores.result blocks.0 stores.0;
      least = λ fewer one held. least-blocks frames slots segments c.div_ceil-blocks.result c.div_ceil-stores.result fewer
          blocks.1 stores.1 (omega arith) one held;
    }

pub returns-clause-none : goal.returns-clause-none
returns-clause-none c =
    let frames = c.args.frames in
    let slots = c.args.ring.slots in
    let segments = c.args.ring.segments in
    let blocks = up-bounds (frames - 1) slots c.div_ceil-blocks.result (omega arith) (search rules) in
    let stores = up-bounds (c.div_ceil-blocks.result + 1) segments c.div_ceil-stores.result (omega arith) (search rules) in
    let few : c.div_ceil-stores.result ≤ 256 = omega arith in
    let held = enough-blocks frames slots segments c.div_ceil-blocks.result 256 blocks.0
    (omega (arith, stores.0, mul-le-mul_right segments few)) in
    (λ no. absurd (true≢false no), λ less. absurd (omega (arith, less, held)))
