use Rattle.std.proofs.Common.{ℕ, ◌/◌, ◌^◌, ◌<◌, ◌≤◌, sym, subst, arith}
use Rattle.std.proofs.lemmas.Bool.Decides.{nat_tests}
use Rattle.loop_record.proofs.Headers.{is_low, is_high_from, checked_header-low, checked_header-high}
use Rattle.loop_record.proofs.segment.decode_header.Goals as goal

pub returns-then-block-from : goal.returns-then-block-from
returns-then-block-from c =
    let block = c.u64_at-block.result in
    let high : 2 ^ 62 / c.args.geometry.now.slots ≤ block = subst (λ (n : ℕ). 2 ^ 62 / n ≤ block) c.from.ensures c.if-block-from.true in
    sym (checked_header-high c.args.geometry.now c.args.bytes.now 0 block (grind (arith, nat_tests, c.if-bytes.false))
    (sym c.u64_at-block.ensures) (is_high_from c.args.geometry.now block c.requires.good high))

pub returns : goal.returns
returns c =
    let block = c.u64_at-block.result in
    let low : block < 2 ^ 62 / c.args.geometry.now.slots = subst (λ (n : ℕ). block < 2 ^ 62 / n) c.from.ensures c.if-block-from.false in
    sym (checked_header-low c.args.geometry.now c.args.bytes.now 0 block c.open_gates.result
    (grind (arith, nat_tests, c.if-bytes.false)) (sym c.u64_at-block.ensures) (sym c.open_gates.ensures)
    (is_low c.args.geometry.now block c.requires.good low))
