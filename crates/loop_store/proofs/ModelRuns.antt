-- Calls of the model of a store, one after the other.
use Rattle.std.proofs.Common.{◌≡◌, Bool, true, false, Option, List, [], ◌∷◌, ◌++◌, if◌then◌else◌, refl, sym, ap, ◌∙◌}
use Rattle.std.specs.Prelude.{◌||◌}
use Rattle.std.specs.Result.{result_err}
use Rattle.loop_record.specs.declared.geometry.Geometry.{Geometry}
use Rattle.loop_record.specs.Recording.{Step, lock, plain, ring_of, unlock}
use Rattle.loop_record.proofs.TestFacts.{neither}
use Rattle.loop_record.proofs.Steps.{plain-append}
use Rattle.loop_store.specs.declared.fault.StoreFault.{StoreFault}
use Rattle.loop_store.specs.Faults.{disk_failed}
use Rattle.loop_store.specs.Calls.{AreAnswered, Call, IsAnswered, StoreState, appended, locked, unlocked, was_read, after_store_call, after_calls, begun_by, begun_in, sought, made_by, made_in, steps_of, upgraded, was_read_part}
use Rattle.loop_store.proofs.CheckAnswers.{must-answer}
use Rattle.loop_store.proofs.Names.{steps_asked, has_failed, if_answered, if_failed}

-- the recording after calls is the one after their steps
pub recording-after : (g : Geometry) (s : StoreState) (calls : List Call)
    → (after_calls (ring_of g) s calls).recording ≡ plain
    (ring_of g) s.recording (made_in (ring_of g) s calls)
recording-after g s [] = refl
recording-after g s (c ∷ calls) = recording-after g (after_store_call (ring_of g) s c) calls
    ∙ sym (plain-append (ring_of g) s.recording (made_by (ring_of g) s c) (made_in (ring_of g) (after_store_call (ring_of g) s c) calls))

-- ---- what hasn't failed has made all that it began

abbrev no_steps : List Step
no_steps = []

pub none-either : (b : Bool) → (if b then no_steps else no_steps) ≡ no_steps
none-either true = refl
none-either false = refl

begun-none : (g : Geometry) (s : StoreState) (c : Call) → has_failed c ≡ false → begun_by (ring_of g) s c ≡ []
begun-none g s (was_read number result) fine = none-either (disk_failed (result_err result))
begun-none g s (upgraded result) fine = none-either (disk_failed (result_err result))
begun-none g s (locked span result) fine = ap (λ (b : Bool). if b then lock span ∷ [] else []) fine
begun-none g s (unlocked id result) fine = ap (λ (b : Bool). if b then unlock id ∷ [] else []) fine
begun-none g s (was_read_part number at result) fine = none-either (disk_failed (result_err result))
begun-none g s (sought times result) fine = none-either (disk_failed (result_err result))
begun-none g s (appended group result) fine = ap (λ (b : Bool). if b then steps_asked (ring_of g) s.keep s.recording group else []) fine

-- nothing has failed before
pub record IsFine (g : Geometry) (s : StoreState) (calls : List Call) : Type 0 where
  pub before : s.must_reopen ≡ false
  pub none : begun_in (ring_of g) s calls ≡ []

pub fine-all : (g : Geometry) (s : StoreState) (calls : List Call)
    → (after_calls (ring_of g) s calls).must_reopen ≡ false
    → IsFine g s calls
fine-all g s [] fine = record { before = fine; none = refl }
fine-all g s (c ∷ calls) fine =
    let rest = fine-all g (after_store_call (ring_of g) s c) calls fine in
    let both = neither s.must_reopen (has_failed c) rest.before in
    let none = begun-none g s c both.1 in
    let later = rest.none in
    record { before = both.0; none = λ i. none i ++ later i }

-- ---- a store that must be reopened does nothing

pub record IsIdle (a b : List Step) : Type 0 where
  pub made : a ≡ []
  pub begun : b ≡ []

idle-one : (H : Type 0) (g : Geometry) (s : StoreState) (c : Call) → s.must_reopen ≡ true → IsAnswered H (ring_of g) s c
    → IsIdle (made_by (ring_of g) s c) (begun_by (ring_of g) s c)
idle-one H g s c must said =
    let is = must-answer H g s c must said in
    record {
      made = ap (λ (o : Option StoreFault). if_answered o (steps_of (ring_of g) s c)) is;
      begun =
          ap (λ (o : Option StoreFault). if_failed o (steps_of (ring_of g) s c)) is;
    }

pub idle-all : (H : Type 0) (g : Geometry) (s : StoreState) (calls : List Call) → s.must_reopen ≡ true
    → AreAnswered H (ring_of g) s calls → IsIdle (made_in (ring_of g) s calls) (begun_in (ring_of g) s calls)
idle-all H g s [] must said = record { made = refl; begun = refl }
idle-all H g s (c ∷ calls) must said =
    let one = idle-one H g s c must said.0 in
    let rest = idle-all H g (after_store_call (ring_of g) s c) calls (ap (λ (b : Bool). b || has_failed c) must) said.1 in
    let a = one.made in
    let b = rest.made in
    let d = one.begun in
    let e = rest.begun in
    record { made = λ i. a i ++ b i; begun = λ i. d i ++ e i }
