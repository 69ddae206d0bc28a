-- A read of a frame.
use Rattle.std.proofs.Common.{◌≡◌, ◌⊎◌, inl, inr, ℕ, Bool, true, false, not, ◌&&◌, IfErr, Option, None, Some, Result, Ok, Err, List, [], ◌∷◌, refl, sym, ◌∙◌, ap, subst}
use Rattle.std.specs.Prelude.{◌||◌}
use Rattle.std.specs.Result.{result_err}
use Rattle.loop_disk.specs.declared.fault.DiskFault.{DiskFault}
use Rattle.loop_disk.specs.Calls.{Called, Stays}
use Rattle.loop_disk.specs.Medium.{Medium, IsSound}
use Rattle.loop_record.specs.declared.damage.Damage.TheVariants.{SlotHead}
use Rattle.loop_record.specs.declared.geometry.Geometry.{Geometry}
use Rattle.loop_record.specs.declared.frame.FrameHead.{FrameHead}
use Rattle.loop_record.specs.declared.clip.Span.{Span}
use Rattle.loop_record.specs.declared.times.Times.{Times}
use Rattle.loop_record.specs.Recording.{Step, holds, plain, ring_of}
use Rattle.loop_record.proofs.TestFacts.{clash}
use Rattle.loop_store.specs.declared.fault.StoreFault.{StoreFault}
use Rattle.loop_store.specs.declared.fault.StoreFault.TheVariants.{Damaged, MustReopen, NoMemory, NotHeld}
use Rattle.loop_store.specs.Calls.{AnswersDue, Call, ReadFails, IsAnswered, StoreState, begun_by, checks_on, due, failed_for, first_of, made_by, part_with, read_with, sought, was_read, was_read_part, version_after, was_refused}
use Rattle.loop_store.specs.Faults.{disk_failed, failed_in, is_damage, is_disk, is_early}
use Rattle.loop_store.specs.Goes.{Goes, Stands, TellsState}
use Rattle.loop_store.specs.Reopen.{TellsOne}
use Rattle.loop_store.specs.Look.{AnswersFrame, AnswersFramePart}
use Rattle.loop_store.specs.Seen.{Seen, StandsFor, Tells}
use Rattle.loop_store.proofs.CheckAnswers.{answer-due, answer-given, failed, passed}
use Rattle.loop_store.proofs.CallRuns.{goes-once, stays-still}
use Rattle.loop_store.proofs.Leaves.{leaves-looked, leaves-same}
use Rattle.loop_store.proofs.Looks.{looked-stands, looked-told}
use Rattle.loop_store.proofs.ModelRuns.{none-either}
use Rattle.loop_store.proofs.Names.{has_failed, if_answered}

or-false : (b : Bool) → (b || false) ≡ b
or-false true = refl
or-false false = refl

made-either : (o : Option StoreFault) → if_answered o [] ≡ []
made-either None = refl
made-either (Some fault) = refl

-- a call that makes no step, begins none and fails none, and leaves the version
pub record IsLook (c : Call) : Type 0 where
  pub steps : (g : Geometry) (s : StoreState) → made_by (ring_of g) s c ≡ []
  pub begins : (g : Geometry) (s : StoreState) → begun_by (ring_of g) s c ≡ []
  pub version : (v : ℕ) → version_after v c ≡ v
  pub fine : has_failed c ≡ false

pub look-read : (number : ℕ) (result : Result (FrameHead × List ℕ) StoreFault) → IsLook (was_read number result)
look-read number result = record {
  steps = λ g s. made-either (result_err result);
  begins = λ g s. none-either (disk_failed (result_err result));
  version = λ v. refl;
  fine = refl;
}

pub look-part : (number at : ℕ) (result : Result (List ℕ) StoreFault) → IsLook (was_read_part number at result)
look-part number at result = record {
  steps = λ g s. made-either (result_err result);
  begins = λ g s. none-either (disk_failed (result_err result));
  version = λ v. refl;
  fine = refl;
}

pub look-sought : (times : Times) (result : Result (List Span) StoreFault) → IsLook (sought times result)
look-sought times result = record {
  steps = λ g s. made-either (result_err result);
  begins = λ g s. none-either (disk_failed (result_err result));
  version = λ v. refl;
  fine = refl;
}

-- what is known of a read
pub record Looked {D : Type 0} (medium : D → Medium) (old : Seen D) (disk : D) (c : Call) : Type 0 where
  pub one : TellsOne old
  pub answers : (s : StoreState) → TellsState old s → IsAnswered ((medium old.disk).honest × Stands medium old s)
      (ring_of old.geometry) s c
  pub stays : (medium old.disk).honest → Stays (medium old.disk) (medium disk)
  pub called : Called (medium old.disk) (medium disk) (failed_for c)
  pub unmoved : was_refused c ≡ true → disk ≡ old.disk

pub goes-looked : {D : Type 0} (medium : D → Medium) (old : Seen D) (disk : D) (c : Call) → IsLook c
    → ((medium old.disk).honest → IsSound (medium old.disk)) → Looked medium old disk c
    → Goes medium old (record old { disk = disk }) (c ∷ [])
goes-looked {D} medium old disk c look sound looked = goes-once medium old (record old { disk = disk }) c (record {
  one = looked.one;
  answers = looked.answers;
  tells = λ s told. record {
    recording = subst (λ (l : List Step). Tells (record old { disk = disk })
        (plain (ring_of old.geometry) s.recording l)) (sym (look.steps old.geometry s))
        (looked-told old disk s.recording told.recording);
    version = told.version ∙ sym (look.version s.version);
    keep = told.keep;
    must_reopen = told.must_reopen ∙ unfailed s.must_reopen;
  };
  stands = λ s stands. record {
    recording = subst (λ (l : List Step). StandsFor medium (record old { disk = disk })
        (plain (ring_of old.geometry) s.recording l)) (sym (look.steps old.geometry s))
        (looked-stands medium old disk s.recording stands.recording looked.called.honest.1 looked.stays);
    version = stands.version ∙ sym (look.version s.version);
    keep = stands.keep;
    must_reopen = stands.must_reopen ∙ unfailed s.must_reopen;
  };
  leaves = λ s stands now fine.
      let still : old.must_reopen ≡ false = stands.must_reopen ∙ fine in
      leaves-same old.geometry s.recording [] (made_by (ring_of old.geometry) s c) [] (begun_by (ring_of old.geometry) s c)
      (medium old.disk) (medium disk) (sym (look.steps old.geometry s)) (sym (look.begins old.geometry s))
      (leaves-looked old.geometry s.recording (medium old.disk) (medium disk) (sound now)
      (stands.recording.settled still now) (stands.recording.held still now) (looked.stays now));
  looks = λ look now. looked.stays now;
  unmoved = λ early. ap (λ (d : D). record old { disk = d }) (looked.unmoved early);
  geometry = refl;
  called = looked.called;
})
  where
    unfailed : (b : Bool) → b ≡ (b || has_failed c)
    unfailed b = sym (or-false b) ∙ ap (λ (x : Bool). b || x) (sym look.fine)

-- refused before the disk was called
pub goes-unread : {D : Type 0} (medium : D → Medium) (s : Seen D) (c : Call) → IsLook c → TellsOne s
    → ((medium s.disk).honest → IsSound (medium s.disk)) → failed_for c ≡ None
    → ((H : Type 0) (t : StoreState) → TellsState s t → IsAnswered H (ring_of s.geometry) t c) → Goes medium s s (c ∷ [])
goes-unread medium s c look one sound none answers = goes-looked medium s s.disk c look sound (record {
  one = one;
  answers = λ t told. answers ((medium s.disk).honest × Stands medium s t) t told;
  stays = λ now. stays-still (medium s.disk);
  called = subst (λ (f : Option DiskFault). Called (medium s.disk) (medium s.disk) f) (sym none)
      (record { size = refl; honest = (λ h. h, λ h. h); failures = refl });
  unmoved = λ early. refl;
})

-- ---- the checks

held-none : (g : Geometry) (s : StoreState) (number : ℕ) (result : Result (FrameHead × List ℕ) StoreFault)
    → holds s.recording number ≡ true → first_of (checks_on (ring_of g) s (was_read number result)) ≡ None
held-none g s number result held = passed (not (holds s.recording number)) NotHeld [] (ap not held)

held-none-part : (g : Geometry) (s : StoreState) (number at : ℕ) (result : Result (List ℕ) StoreFault)
    → holds s.recording number ≡ true → first_of (checks_on (ring_of g) s (was_read_part number at result)) ≡ None
held-none-part g s number at result held = passed (not (holds s.recording number)) NotHeld [] (ap not held)

-- a read that failed, where the call of an honest disk did
read-fails : (H : Type 0) (fault : StoreFault) → (fault ≡ Damaged SlotHead) ⊎ (is_disk fault ≡ true)
    → (H → is_disk fault ≡ true) → ReadFails H fault
read-fails H fault (inl is) honest = inr (is, λ h. clash (is_disk fault) (honest h) (ap is_disk is))
read-fails H fault (inr is) honest = inl is

-- ---- answers

-- a number that isn't held
pub read-missing : (H : Type 0) (g : Geometry) (s : StoreState) (number : ℕ) → s.must_reopen ≡ false
    → holds s.recording number ≡ false → IsAnswered H (ring_of g) s (was_read number (Err NotHeld))
read-missing H g s number fine none = answer-due H g s (was_read number (Err NotHeld)) NotHeld fine
    (failed (not (holds s.recording number)) NotHeld [] (ap not none)) refl

pub part-missing : (H : Type 0) (g : Geometry) (s : StoreState) (number at : ℕ) → s.must_reopen ≡ false
    → holds s.recording number ≡ false → IsAnswered H (ring_of g) s (was_read_part number at (Err NotHeld))
part-missing H g s number at fine none = answer-due H g s (was_read_part number at (Err NotHeld)) NotHeld fine
    (failed (not (holds s.recording number)) NotHeld [] (ap not none)) refl

-- why a read is refused
pub read-refusal : (H : Type 0) (g : Geometry) (s : StoreState) (number : ℕ) (fault : StoreFault)
    → s.must_reopen ≡ false → IsAnswered H (ring_of g) s (was_read number (Err fault)) → (fault ≡ NotHeld)
    ⊎ ((fault ≡ NoMemory) ⊎ ((fault ≡ Damaged SlotHead) ⊎ (is_disk fault ≡ true)))
read-refusal H g s number fault fine said =
    go (not (holds s.recording number))
    (subst (λ (o : Option StoreFault). AnswersDue o (was_read number (Err fault))
    ((fault ≡ NoMemory) ⊎ ReadFails H fault))
    (passed s.must_reopen MustReopen (due (not (holds s.recording number)) NotHeld ∷ []) fine) said)
  where
    same : (a b : StoreFault) → Some a ≡ Some b → a ≡ b
    same a b e = cc

    go : (b : Bool) → AnswersDue (first_of (due b NotHeld ∷ [])) (was_read number (Err fault))
        ((fault ≡ NoMemory) ⊎ ReadFails H fault) → (fault ≡ NotHeld)
        ⊎ ((fault ≡ NoMemory) ⊎ ((fault ≡ Damaged SlotHead) ⊎ (is_disk fault ≡ true)))
    go true is = inl (same fault NotHeld is)
    go false (inl is) = inr (inl is)
    go false (inr (inl is)) = inr (inr (inr is))
    go false (inr (inr is)) = inr (inr (inl is.0))

-- one for which there is no memory
pub read-unread : (H : Type 0) (g : Geometry) (s : StoreState) (number : ℕ) → s.must_reopen ≡ false
    → holds s.recording number ≡ true → IsAnswered H (ring_of g) s (was_read number (Err NoMemory))
read-unread H g s number fine held = answer-given H g s (was_read number (Err NoMemory)) fine (held-none g s number (Err NoMemory) held) (inl refl)

-- what a read into lent memory answers
pub read-answered : (H : Type 0) (g : Geometry) (s : StoreState) (number : ℕ) (result : Result FrameHead StoreFault)
    (out : List ℕ) → s.must_reopen ≡ false → holds s.recording number ≡ true
    → IfErr result (λ fault. (fault ≡ Damaged SlotHead) ⊎ (is_disk fault ≡ true))
    → (H → AnswersFrame s.recording number result out) → IsAnswered H (ring_of g) s (was_read number (read_with result out))
read-answered H g s number (Ok h) out fine held refusals said =
    answer-given H g s (was_read number (Ok (h, out))) fine (held-none g s number (Ok (h, out)) held) said
read-answered H g s number (Err fault) out fine held refusals said =
    answer-given H g s (was_read number (Err fault)) fine (held-none g s number (Err fault) held)
    (inr (read-fails H fault refusals (λ h. (said h).0)))

pub read-failed : (result : Result FrameHead StoreFault) (out : List ℕ) (old new : Medium)
    → Called old new (failed_in result) → Called old new (failed_in (read_with result out))
read-failed (Ok h) out old new called = called
read-failed (Err fault) out old new called = called

-- the disk was called
late-fault : (fault : StoreFault) → (fault ≡ Damaged SlotHead) ⊎ (is_disk fault ≡ true) → is_early (Some fault) ≡ false
late-fault fault (inl is) = ap (λ (f : StoreFault). is_early (Some f)) is
late-fault fault (inr is) = ap (λ (b : Bool). not b && not (is_damage fault)) is

pub read-late : (number : ℕ) (result : Result FrameHead StoreFault) (out : List ℕ)
    → IfErr result (λ fault. (fault ≡ Damaged SlotHead) ⊎ (is_disk fault ≡ true))
    → was_refused (was_read number (read_with result out)) ≡ false
read-late number (Ok h) out said = refl
read-late number (Err fault) out said = late-fault fault said

pub part-late : (number at : ℕ) (result : Result (Unit {0}) StoreFault) (out : List ℕ)
    → IfErr result (λ fault. (fault ≡ Damaged SlotHead) ⊎ (is_disk fault ≡ true))
    → was_refused (was_read_part number at (part_with result out)) ≡ false
part-late number at (Ok done) out said = refl
part-late number at (Err fault) out said = late-fault fault said

-- the same for a read of a part
pub part-answered : (H : Type 0) (g : Geometry) (s : StoreState) (number at : ℕ)
    (result : Result (Unit {0}) StoreFault) (out : List ℕ) → s.must_reopen ≡ false → holds s.recording number ≡ true
    → IfErr result (λ fault. (fault ≡ Damaged SlotHead) ⊎ (is_disk fault ≡ true))
    → (H → AnswersFramePart s.recording number at result out) → IsAnswered H (ring_of g) s (was_read_part number at (part_with result out))
part-answered H g s number at (Ok done) out fine held refusals said =
    answer-given H g s (was_read_part number at (Ok out)) fine (held-none-part g s number at (Ok out) held) said
part-answered H g s number at (Err fault) out fine held refusals said =
    answer-given H g s (was_read_part number at (Err fault)) fine (held-none-part g s number at (Err fault) held)
    (read-fails H fault refusals (λ h. (said h).0))

pub part-failed : (result : Result (Unit {0}) StoreFault) (out : List ℕ) (old new : Medium)
    → Called old new (failed_in result) → Called old new (failed_in (part_with result out))
part-failed (Ok done) out old new called = called
part-failed (Err fault) out old new called = called
