-- What follows where no check of a call fails.
use Rattle.std.proofs.Common.{◌≡◌, Bool, true, false, not, cond, List, [], ◌∷◌, Option, Some, None, refl}
use Rattle.loop_vb2.specs.declared.reason.Reason.{Reason}
use Rattle.loop_vb2.specs.Checks.{first_reason}

pub passed_here : (test : Bool) (reason : Reason) (rest : Option Reason) → cond test (Some reason) rest ≡ None
    → test ≡ false
passed_here true reason rest e = absurd (cc)
passed_here false reason rest e = refl

pub passed_on : (test : Bool) (reason : Reason) (rest : Option Reason) → cond test (Some reason) rest ≡ None
    → rest ≡ None
passed_on true reason rest e = absurd (cc)
passed_on false reason rest e = e

-- each check has passed
abbrev pub Passed : List (Bool × Reason) → Type 0
Passed [] = Unit {0}
Passed (check ∷ checks) = (check.0 ≡ false) × Passed checks

pub all_passed : (checks : List (Bool × Reason)) → first_reason checks ≡ None → Passed checks
all_passed [] e = tt
all_passed (check ∷ checks) e = (passed_here check.0 check.1 (first_reason checks) e, all_passed checks (passed_on check.0 check.1 (first_reason checks) e))

pub true_of : (b : Bool) → not b ≡ false → b ≡ true
true_of true e = refl
true_of false e = absurd (cc)
