-- What two clauses of an answer say together.
use Rattle.std.proofs.Common.{Result, Ok, Err, OnOk}

pub both_ok : {T E : Type 0} {P Q R : Type 0} (r : Result T E) → (P → Q → R) → OnOk r P → OnOk r Q → OnOk r R
both_ok (Ok x) f p q = f p q
both_ok (Err e) f p q = tt
