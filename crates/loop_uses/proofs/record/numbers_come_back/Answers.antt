use Rattle.std.proofs.Common.{ap, ◌∙◌}
use Rattle.byteorder.specs.Endian.{little_from}
use Rattle.loop_uses.proofs.Numbers.{large_is_read, small_is_read}
use Rattle.loop_uses.proofs.record.numbers_come_back.Goals as goal

pub returns : goal.returns
returns c =
    let small = c.u32_at.ensures ∙ ap (little_from 7 4) c.put_u32.ensures ∙ small_is_read c.args.small c.ranges.small.fits in
    let large = c.u64_at.ensures ∙ ap (little_from 3 8) c.put_u64.ensures ∙ large_is_read c.args.large c.ranges.large.fits in
    λ i. (small i, large i)
