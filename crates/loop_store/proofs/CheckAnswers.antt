-- What the checks of a call say of its answer.
use Rattle.std.proofs.Common.{◌≡◌, ◌⊎◌, inl, inr, Bool, true, false, Option, Some, None, Ok, Err, List, [], ◌∷◌, refl, sym, ◌∙◌, subst}
use Rattle.loop_record.specs.declared.geometry.Geometry.{Geometry}
use Rattle.loop_store.specs.declared.fault.StoreFault.{StoreFault}
use Rattle.loop_store.specs.declared.fault.StoreFault.TheVariants as kind
use Rattle.loop_store.specs.Faults.{is_disk, is_write_fault}
use Rattle.loop_store.specs.declared.fault.StoreFault.TheVariants.{MustReopen}
use Rattle.loop_record.specs.Recording.{ring_of}
use Rattle.loop_store.specs.Calls.{AnswersDue, AreAnswered, Call, IsAnswered, AnswersOtherwise, StoreState, after_store_call, appended, locked, unlocked, was_read, was_read_part, sought, upgraded, checks, checks_on, due, fault_answered, first_of}

-- ---- which is the first

pub passed : (b : Bool) (fault : StoreFault) (more : List (Option StoreFault)) → b ≡ false
    → first_of (due b fault ∷ more) ≡ first_of more
passed true fault more e = absurd cc
passed false fault more e = refl

pub failed : (b : Bool) (fault : StoreFault) (more : List (Option StoreFault)) → b ≡ true
    → first_of (due b fault ∷ more) ≡ Some fault
failed true fault more e = refl
failed false fault more e = absurd cc

pub skipped : (o : Option StoreFault) (more : List (Option StoreFault)) → o ≡ None → first_of (o ∷ more) ≡ first_of more
skipped None more e = refl
skipped (Some fault) more e = absurd cc

pub found : (o : Option StoreFault) (fault : StoreFault) (more : List (Option StoreFault)) → o ≡ Some fault
    → first_of (o ∷ more) ≡ Some fault
found None fault more e = absurd cc
found (Some other) fault more e = e

-- where none is due, each check passes
pub passes : (b : Bool) (fault : StoreFault) (more : List (Option StoreFault)) → first_of (due b fault ∷ more) ≡ None
    → (b ≡ false) × (first_of more ≡ None)
passes true fault more e = absurd cc
passes false fault more e = (refl, e)

pub none-before : (o : Option StoreFault) (more : List (Option StoreFault)) → first_of (o ∷ more) ≡ None → (o ≡ None)
    × (first_of more ≡ None)
none-before None more e = (refl, e)
none-before (Some fault) more e = absurd cc

-- ---- an answer

apart : (fault : StoreFault) → let x : Option StoreFault = Some fault in x ≡ None → ⊥
apart fault e = absurd cc

-- what was answered without a refusal: no check fails
pub due-none : (o : Option StoreFault) (c : Call) (Given : Type 0) → AnswersDue o c Given → fault_answered c ≡ None
    → (o ≡ None) × Given
due-none None c Given said fine = (refl, said)
due-none (Some fault) c Given said fine = absurd (apart fault (sym said ∙ fine))

-- a refusal is the first that is due, or no check is
pub due-some : (o : Option StoreFault) (c : Call) (Given : Type 0) → AnswersDue o c Given → (o ≡ fault_answered c)
    ⊎ ((o ≡ None) × Given)
due-some None c Given said = inr (refl, said)
due-some (Some fault) c Given said = inl (sym said)

pub given : (o : Option StoreFault) (c : Call) (Given : Type 0) → o ≡ None → Given → AnswersDue o c Given
given o c Given none is = subst (λ (x : Option StoreFault). AnswersDue x c Given) (sym none) is

pub refused : (o : Option StoreFault) (c : Call) (Given : Type 0) (fault : StoreFault) → o ≡ Some fault
    → fault_answered c ≡ Some fault → AnswersDue o c Given
refused o c Given fault first is = subst (λ (x : Option StoreFault). AnswersDue x c Given) (sym first) is

-- ---- a store that must be reopened

-- each call is refused in that way
pub must-first : (g : Geometry) (s : StoreState) (c : Call) → s.must_reopen ≡ true
    → first_of (checks (ring_of g) s c) ≡ Some MustReopen
must-first g s c must = failed s.must_reopen MustReopen (checks_on (ring_of g) s c) must

pub must-answer : (H : Type 0) (g : Geometry) (s : StoreState) (c : Call) → s.must_reopen ≡ true
    → IsAnswered H (ring_of g) s c
    → fault_answered c ≡ Some MustReopen
must-answer H g s c must said = go (first_of (checks (ring_of g) s c)) (must-first g s c must) said
  where
    go : (o : Option StoreFault) → o ≡ Some MustReopen → AnswersDue o c (AnswersOtherwise H s c)
        → fault_answered c ≡ Some MustReopen
    go None e x = absurd cc
    go (Some fault) e x = x ∙ e

-- where it needn't be, the checks on what is recorded decide
pub fine-first : (g : Geometry) (s : StoreState) (c : Call) → s.must_reopen ≡ false
    → first_of (checks (ring_of g) s c) ≡ first_of (checks_on (ring_of g) s c)
fine-first g s c fine = passed s.must_reopen MustReopen (checks_on (ring_of g) s c) fine

pub answer-given : (H : Type 0) (g : Geometry) (s : StoreState) (c : Call) → s.must_reopen ≡ false
    → first_of (checks_on (ring_of g) s c) ≡ None → AnswersOtherwise H s c → IsAnswered H (ring_of g) s c
answer-given H g s c fine none is = given (first_of (checks (ring_of g) s c)) c (AnswersOtherwise H s c) (fine-first g s c fine ∙ none) is

pub answer-due : (H : Type 0) (g : Geometry) (s : StoreState) (c : Call) (fault : StoreFault) → s.must_reopen ≡ false
    → first_of (checks_on (ring_of g) s c) ≡ Some fault → fault_answered c ≡ Some fault → IsAnswered H (ring_of g) s c
answer-due H g s c fault fine first is = refused (first_of (checks (ring_of g) s c)) c
    (AnswersOtherwise H s c) fault (fine-first g s c fine ∙ first) is

-- ---- honest disks

otherwise-as : (H K : Type 0) (s : StoreState) (c : Call) → (K → H) → AnswersOtherwise H s c → AnswersOtherwise K s c
otherwise-as H K s (appended group (Ok number)) f x = x
otherwise-as H K s (locked span (Ok id)) f x = x
otherwise-as H K s (unlocked id (Ok done)) f x = x
otherwise-as H K s (was_read number (Ok read)) f x = λ k. x (f k)
otherwise-as H K s (was_read_part number at (Ok bytes)) f x = λ k. x (f k)
otherwise-as H K s (was_read number (Err fault)) f (inl x) = inl x
otherwise-as H K s (was_read number (Err fault)) f (inr (inl x)) = inr (inl x)
otherwise-as H K s (was_read number (Err fault)) f (inr (inr x)) = inr (inr (x.0, λ k. x.1 (f k)))
otherwise-as H K s (was_read_part number at (Err fault)) f (inl x) = inl x
otherwise-as H K s (was_read_part number at (Err fault)) f (inr x) = inr (x.0, λ k. x.1 (f k))
otherwise-as H K s (sought times (Ok runs)) f x = x
otherwise-as H K s (sought times (Err fault)) f x = x
otherwise-as H K s (appended group (Err fault)) f x = x
otherwise-as H K s (locked span (Err fault)) f x = x
otherwise-as H K s (unlocked id (Err fault)) f x = x
otherwise-as H K s (upgraded (Ok made)) f x = x
otherwise-as H K s (upgraded (Err fault)) f x = x

-- an answer of one disk is one of another that is honest only where the first is
pub answered-as : (H K : Type 0) (g : Geometry) (s : StoreState) (c : Call) → (K → H) → IsAnswered H (ring_of g) s c
    → IsAnswered K (ring_of g) s c
answered-as H K g s c f said = go (first_of (checks (ring_of g) s c)) said
  where
    go : (o : Option StoreFault) → AnswersDue o c (AnswersOtherwise H s c)
        → AnswersDue o c (AnswersOtherwise K s c)
    go None x = otherwise-as H K s c f x
    go (Some fault) x = x

pub are-answered-as : (H K : Type 0) (g : Geometry) (s : StoreState) (calls : List Call) → (K → H)
    → AreAnswered H (ring_of g) s calls → AreAnswered K (ring_of g) s calls
are-answered-as H K g s [] f said = tt
are-answered-as H K g s (c ∷ calls) f said = (answered-as H K g s c f said.0, are-answered-as H K g (after_store_call (ring_of g) s c) calls f said.1)

-- ---- which call of the disk failed

-- a failed write or sync is a failed call
pub write-disk : (refusal : StoreFault) → is_write_fault refusal ≡ true → is_disk refusal ≡ true
write-disk (kind.Disk call) e = refl
write-disk kind.NoMemory e = absurd cc
write-disk kind.MustReopen e = absurd cc
write-disk kind.NotFormatted e = absurd cc
write-disk (kind.Damaged damage) e = absurd cc
write-disk kind.NotHeld e = absurd cc
write-disk kind.BadGeometry e = absurd cc
write-disk kind.NumbersSpent e = absurd cc
write-disk kind.AllLocked e = absurd cc
write-disk kind.ClipEmpty e = absurd cc
write-disk (kind.ClipNotHeld number) e = absurd cc
write-disk kind.ClipTableFull e = absurd cc
write-disk kind.NoSuchClip e = absurd cc
write-disk kind.PendingFull e = absurd cc
write-disk kind.WrongSize e = absurd cc
write-disk kind.HandFull e = absurd cc
write-disk kind.HandEmpty e = absurd cc
write-disk kind.OldLayout e = absurd cc
write-disk kind.BadKeep e = absurd cc
