use Rattle.std.proofs.Common.{◌+◌, ◌%◌, length, arith, rules}
use Rattle.std.proofs.lemmas.List.FromFn.{fill_by_all}
use Rattle.loop_record.proofs.pattern.fill_pattern.Goals as goal

pub returns : goal.returns
returns c =
    fill_by_all (λ i. (c.args.n + i) % 256) c.loop-byte.byte-items (length c.args.bytes.now) 0 (search rules)
    (λ k inside. c.loop-byte.invariant.1 k (omega (arith, c.loop-byte-test.false)))
