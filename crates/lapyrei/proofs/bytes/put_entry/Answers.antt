use Rattle.std.proofs.Common.{◌+◌, refl, arith}
use Rattle.lapyrei.proofs.LogBytes.{length-entry, put_one}
use Rattle.lapyrei.proofs.bytes.put_entry.Goals as goal

pub returns-clause-end : goal.returns-clause-end
returns-clause-end c = omega (arith, length-entry c.args.at c.args.bytes.now)

pub returns-clause-entry : goal.returns-clause-entry
returns-clause-entry c =
    (put_one c.args.from (c.args.from + 8) (c.args.from + 16) _ c.args.at c.args.bytes.now c.args.log.now _ _ _ refl
    (omega arith) refl (omega arith) c.put_u64.ensures c.put_u64-2.ensures c.put_bytes.ensures).0

pub returns-clause-size : goal.returns-clause-size
returns-clause-size c =
    (put_one c.args.from (c.args.from + 8) (c.args.from + 16) _ c.args.at c.args.bytes.now c.args.log.now _ _ _ refl
    (omega arith) refl (omega arith) c.put_u64.ensures c.put_u64-2.ensures c.put_bytes.ensures).1
