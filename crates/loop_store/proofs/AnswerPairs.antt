-- What two clauses of an answer say together.
use Rattle.std.proofs.Common.{None, Result, Ok, Err, OnOk, refl}
use Rattle.loop_disk.specs.Calls.{Called}
use Rattle.loop_disk.specs.Medium.{Medium}

pub both_ok : {T E : Type 0} {P Q R : Type 0} (r : Result T E) → (P → Q → R) → OnOk r P → OnOk r Q → OnOk r R
both_ok (Ok x) f p q = f p q
both_ok (Err e) f p q = tt

-- what was called when nothing was
pub called-none : (m : Medium) → Called m m None
called-none m = record { size = refl; honest = (λ h. h, λ h. h); failures = refl }
