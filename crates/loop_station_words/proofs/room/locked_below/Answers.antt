use Rattle.std.proofs.Common.{◌≡◌, ◌≤◌, ℕ, Some, arith}
use Rattle.std.proofs.lemmas.Grind.{common_steps}
use Rattle.loop_station_words.proofs.Rooms.{all_counted, counted_on}
use Rattle.loop_station_words.specs.Rooms.{lowest_met}
use Rattle.loop_station_words.proofs.room.locked_below.Goals as goal

pub blocks-2-smaller : goal.blocks-2-smaller
blocks-2-smaller c =
    let found : lowest_met c.args.slots c.blocks-2.counted c.args.clips.now ≡ Some c.in-Some.block =
    grind (arith, common_steps) in
    let on = counted_on c.args.slots c.blocks-2.counted c.in-Some.block c.args.clips.now found in
    omega (arith, on.1)

pub blocks-2-preserved : goal.blocks-2-preserved
blocks-2-preserved c =
    let found : lowest_met c.args.slots c.blocks-2.counted c.args.clips.now ≡ Some c.in-Some.block =
    grind (arith, common_steps) in
    let on = counted_on c.args.slots c.blocks-2.counted c.in-Some.block c.args.clips.now found in
    record {
      locked = grind (arith, common_steps);
      few = omega (arith, on.1, c.blocks-2.invariant.few);
      counted = omega arith;
    }

pub returns-in_default : goal.returns-in_default
returns-in_default c =
    let found : lowest_met c.args.slots c.blocks-2.counted c.args.clips.now ≡ Some c.in-Some.block =
    grind (arith, common_steps) in
    let far : (b : ℕ) → lowest_met c.args.slots c.blocks-2.counted c.args.clips.now ≡ Some b → c.args.end ≤ b =
    λ b e. grind (arith, common_steps) in
    let all = all_counted c.args.slots c.blocks-2.counted c.args.end c.args.clips.now c.blocks-2.invariant.counted far in
    grind (arith, common_steps)

pub returns-in_default-2 : goal.returns-in_default-2
returns-in_default-2 c =
    let far : (b : ℕ) → lowest_met c.args.slots c.blocks-2.counted c.args.clips.now ≡ Some b → c.args.end ≤ b =
    λ b e. grind (arith, common_steps) in
    let all = all_counted c.args.slots c.blocks-2.counted c.args.end c.args.clips.now c.blocks-2.invariant.counted far in
    grind (arith, common_steps)
