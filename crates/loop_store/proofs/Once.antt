-- One call that writes: it was refused before the disk was called, or it was done, or the disk failed.
use Rattle.std.proofs.Common.{◌≡◌, ℕ, Bool, true, false, Option, None, Some, List, [], ◌∷◌, ◌++◌, length, refl, sym, ap, ◌∙◌, subst}
use Rattle.std.proofs.lemmas.List.{append-nil}
use Rattle.std.specs.Prelude.{◌||◌}
use Rattle.loop_disk.specs.declared.fault.DiskFault.{DiskFault}
use Rattle.loop_disk.specs.Calls.{Called}
use Rattle.loop_disk.specs.Medium.{Medium, IsSettled, IsSound, LeavesOnly}
use Rattle.loop_disk.proofs.Moments.{each_now}
use Rattle.loop_record.specs.declared.geometry.Geometry.{Geometry}
use Rattle.loop_record.specs.Reading.{Holds}
use Rattle.loop_record.specs.Recording.{Recording, Step, plain, ring_of}
use Rattle.loop_record.proofs.TestFacts.{clash}
use Rattle.loop_store.specs.Calls.{AnswersOtherwise, Call, IsAnswered, StoreState, begun_by, checks, failed_for, fault_answered, first_of, is_look, made_by, version_after, was_refused}
use Rattle.loop_store.specs.Goes.{Goes, Stands, TellsState}
use Rattle.loop_store.specs.Steps.{HoldsFrom, LeavesSteps}
use Rattle.loop_store.specs.Reopen.{TellsOne}
use Rattle.loop_store.specs.Seen.{HasFailed, Seen, StandsFor, Tells}
use Rattle.loop_store.specs.declared.fault.StoreFault.TheVariants.{MustReopen}
use Rattle.loop_store.proofs.AfterCalls.{failed-stands, failed-told, holds-all}
use Rattle.loop_store.proofs.CheckAnswers.{must-first, refused}
use Rattle.loop_store.proofs.CallRuns.{goes-once, stays-still}
use Rattle.loop_store.proofs.Leaves.{leaves-none, leaves-same}
use Rattle.loop_store.proofs.Names.{has_failed, HoldsSome}

or-false : (b : Bool) → (b || false) ≡ b
or-false true = refl
or-false false = refl

or-true : (b : Bool) → (b || true) ≡ true
or-true true = refl
or-true false = refl

or-quiet : (b t : Bool) → t ≡ false → (b || t) ≡ b
or-quiet b t quiet = ap (λ (x : Bool). b || x) quiet ∙ or-false b

or-loud : (b t : Bool) → t ≡ true → (b || t) ≡ true
or-loud b t loud = ap (λ (x : Bool). b || x) loud ∙ or-true b

-- ---- refused before the disk was called

-- the answer says that nothing was done, and that no call of the disk failed
pub record IsQuiet (c : Call) : Type 0 where
  pub version : (v : ℕ) → version_after v c ≡ v
  pub unfailed : has_failed c ≡ false
  pub none : failed_for c ≡ None
  pub made_none : (g : Geometry) (s : StoreState) → made_by (ring_of g) s c ≡ []
  pub begun_none : (g : Geometry) (s : StoreState) → begun_by (ring_of g) s c ≡ []

pub goes-refused : {D : Type 0} (medium : D → Medium) (s : Seen D) (c : Call) → TellsOne s
    → ((medium s.disk).honest → IsSound (medium s.disk)) → IsQuiet c
    → ((H : Type 0) (t : StoreState) → TellsState s t → IsAnswered H (ring_of s.geometry) t c) → Goes medium s s (c ∷ [])
goes-refused {D} medium s c one sound quiet answers = goes-once medium s s c (record {
  one = one;
  answers = λ t told. answers ((medium s.disk).honest × Stands medium s t) t told;
  tells = λ t told. record {
    recording = subst (λ (steps : List Step). Tells s (plain (ring_of s.geometry) t.recording steps)) (sym (quiet.made_none s.geometry t)) told.recording;
    version = told.version ∙ sym (quiet.version t.version);
    keep = told.keep;
    must_reopen = told.must_reopen ∙ sym (or-quiet t.must_reopen (has_failed c) quiet.unfailed);
  };
  stands = λ t stands. record {
    recording = subst (λ (steps : List Step). StandsFor medium s (plain (ring_of s.geometry) t.recording steps))
        (sym (quiet.made_none s.geometry t)) stands.recording;
    version = stands.version ∙ sym (quiet.version t.version);
    keep = stands.keep;
    must_reopen = stands.must_reopen ∙ sym (or-quiet t.must_reopen (has_failed c) quiet.unfailed);
  };
  leaves = λ t stands now fine.
      let still : s.must_reopen ≡ false = stands.must_reopen ∙ fine in
      leaves-same s.geometry t.recording [] (made_by (ring_of s.geometry) t c) [] (begun_by (ring_of s.geometry) t c) (medium s.disk)
      (medium s.disk) (sym (quiet.made_none s.geometry t)) (sym (quiet.begun_none s.geometry t))
      (leaves-none s.geometry t.recording (medium s.disk) (sound now) (stands.recording.settled still now) (stands.recording.held still now));
  looks = λ look now. stays-still (medium s.disk);
  unmoved = λ early. refl;
  geometry = refl;
  called = subst (λ (f : Option DiskFault). Called (medium s.disk) (medium s.disk) f) (sym quiet.none)
      (record { size = refl; honest = (λ h. h, λ h. h); failures = refl });
})

-- where the store must be reopened, each call is refused in that way
pub goes-must : {D : Type 0} (medium : D → Medium) (s : Seen D) (c : Call) → TellsOne s
    → ((medium s.disk).honest → IsSound (medium s.disk)) → s.must_reopen ≡ true → IsQuiet c
    → fault_answered c ≡ Some MustReopen → Goes medium s s (c ∷ [])
goes-must medium s c one sound must quiet is =
    goes-refused medium s c one sound quiet
    (λ H t told. refused (first_of (checks (ring_of s.geometry) t c)) c (AnswersOtherwise H t c) MustReopen
    (must-first s.geometry t c (sym told.must_reopen ∙ must)) is)

-- ---- done

done-leaves : (g : Geometry) (r : Recording) (steps : List Step) (old new : Medium)
    → LeavesOnly old new (HoldsSome g r steps) → IsSettled new → Holds g (plain (ring_of g) r steps) new.bytes
    → LeavesSteps g r steps [] old new
done-leaves g r steps old new run settled held = record {
  moments = subst (λ (l : List Step). LeavesOnly old new (HoldsSome g r l)) (sym (append-nil steps)) run;
  now = λ c left. subst (λ (image : List ℕ). HoldsFrom g r (length steps) (steps ++ []) image) (sym (settled c left)) (holds-all g r steps [] new.bytes held);
}

-- what is known where the call made its steps
pub record Done {D : Type 0} (medium : D → Medium) (old new : Seen D) (c : Call) (steps : Recording → List Step) : Type 0 where
  pub writes : is_look c ≡ false
  pub late : was_refused c ≡ false
  pub fine : old.must_reopen ≡ false
  pub still : new.must_reopen ≡ false
  pub geometry : new.geometry ≡ old.geometry
  pub version : (v : ℕ) → old.version ≡ v → new.version ≡ version_after v c
  pub keep : new.keep ≡ old.keep
  pub called : Called (medium old.disk) (medium new.disk) None
  pub unfailed : has_failed c ≡ false
  pub none : failed_for c ≡ None
  pub made_all : (s : StoreState) → old.keep ≡ s.keep → made_by (ring_of old.geometry) s c ≡ steps s.recording
  pub begun_none : (s : StoreState) → begun_by (ring_of old.geometry) s c ≡ []
  pub one : TellsOne old
  pub answers : (s : StoreState) → TellsState old s → IsAnswered ((medium old.disk).honest × Stands medium old s)
      (ring_of old.geometry) s c
  pub moments : (r : Recording) → StandsFor medium old r → (medium old.disk).honest → LeavesOnly (medium old.disk)
      (medium new.disk) (HoldsSome old.geometry r (steps r))
  pub tells : (r : Recording) → Tells old r → Tells new (plain (ring_of old.geometry) r (steps r))
  pub stands : (r : Recording) → StandsFor medium old r
      → StandsFor medium new (plain (ring_of old.geometry) r (steps r))

pub goes-done : {D : Type 0} (medium : D → Medium) (old new : Seen D) (c : Call) (steps : Recording → List Step)
    → Done medium old new c steps → Goes medium old new (c ∷ [])
goes-done {D} medium old new c steps done = goes-once medium old new c (record {
  one = done.one;
  answers = done.answers;
  tells = λ s told. record {
    recording = subst (λ (l : List Step). Tells new (plain (ring_of old.geometry) s.recording l))
        (sym (done.made_all s told.keep)) (done.tells s.recording told.recording);
    version = done.version s.version told.version;
    keep = done.keep ∙ told.keep;
    must_reopen = done.still ∙ sym (or-quiet s.must_reopen (has_failed c) done.unfailed ∙ sym told.must_reopen ∙ done.fine);
  };
  stands = λ s stands. record {
    recording = subst (λ (l : List Step). StandsFor medium new (plain (ring_of old.geometry) s.recording l))
        (sym (done.made_all s stands.keep)) (done.stands s.recording stands.recording);
    version = done.version s.version stands.version;
    keep = done.keep ∙ stands.keep;
    must_reopen = done.still ∙ sym (or-quiet s.must_reopen (has_failed c) done.unfailed ∙ sym stands.must_reopen ∙ done.fine);
  };
  leaves = λ s stands now fine.
      let r = s.recording in
      let later = done.stands r stands.recording in
      let there = done.called.honest.0 now in
      leaves-same old.geometry r (steps r) (made_by (ring_of old.geometry) s c) [] (begun_by (ring_of old.geometry) s c) (medium old.disk)
      (medium new.disk) (sym (done.made_all s stands.keep)) (sym (done.begun_none s))
      (done-leaves old.geometry r (steps r) (medium old.disk) (medium new.disk) (done.moments r stands.recording now) (later.settled done.still there)
      (subst (λ (g : Geometry). Holds g (plain (ring_of old.geometry) r (steps r)) (medium new.disk).bytes) done.geometry (later.held done.still there)));
  looks = λ look now. absurd (clash (is_look c) look done.writes);
  unmoved = λ early. absurd (clash (was_refused c) early done.late);
  geometry = done.geometry;
  called = subst (λ (f : Option DiskFault). Called (medium old.disk) (medium new.disk) f) (sym done.none) done.called;
})

-- ---- the disk failed

-- what is known where the disk failed
pub record Failed {D : Type 0} (medium : D → Medium) (old new : Seen D) (c : Call) (steps : Recording → List Step) (fault : DiskFault) : Type 0 where
  pub writes : is_look c ≡ false
  pub late : was_refused c ≡ false
  pub fine : old.must_reopen ≡ false
  pub failed : HasFailed old new
  pub version : (v : ℕ) → version_after v c ≡ v
  pub called : Called (medium old.disk) (medium new.disk) (Some fault)
  pub sound : (medium new.disk).honest → IsSound (medium new.disk)
  pub has : has_failed c ≡ true
  pub some : failed_for c ≡ Some fault
  pub made_none : (s : StoreState) → made_by (ring_of old.geometry) s c ≡ []
  pub begun_all : (s : StoreState) → old.keep ≡ s.keep → begun_by (ring_of old.geometry) s c ≡ steps s.recording
  pub one : TellsOne old
  pub answers : (s : StoreState) → TellsState old s → IsAnswered ((medium old.disk).honest × Stands medium old s)
      (ring_of old.geometry) s c
  pub moments : (r : Recording) → StandsFor medium old r → (medium old.disk).honest → LeavesOnly (medium old.disk)
      (medium new.disk) (HoldsSome old.geometry r (steps r))

pub goes-failed : {D : Type 0} (medium : D → Medium) (old new : Seen D) (c : Call) (steps : Recording → List Step)
    (fault : DiskFault) → Failed medium old new c steps fault → Goes medium old new (c ∷ [])
goes-failed {D} medium old new c steps fault failed = goes-once medium old new c (record {
  one = failed.one;
  answers = failed.answers;
  tells = λ s told. record {
    recording = subst (λ (l : List Step). Tells new (plain (ring_of old.geometry) s.recording l))
        (sym (failed.made_none s)) (failed-told old new s.recording failed.failed told.recording);
    version = ap (λ (x : Seen D). x.version) failed.failed ∙ told.version ∙ sym (failed.version s.version);
    keep = ap (λ (x : Seen D). x.keep) failed.failed ∙ told.keep;
    must_reopen = ap (λ (x : Seen D). x.must_reopen) failed.failed ∙ sym (or-loud s.must_reopen (has_failed c) failed.has);
  };
  stands = λ s stands. record {
    recording =
        subst (λ (l : List Step). StandsFor medium new (plain (ring_of old.geometry) s.recording l)) (sym (failed.made_none s))
        (failed-stands medium old new s.recording failed.failed stands.recording);
    version = ap (λ (x : Seen D). x.version) failed.failed ∙ stands.version ∙ sym (failed.version s.version);
    keep = ap (λ (x : Seen D). x.keep) failed.failed ∙ stands.keep;
    must_reopen = ap (λ (x : Seen D). x.must_reopen) failed.failed ∙ sym (or-loud s.must_reopen (has_failed c) failed.has);
  };
  leaves = λ s stands now fine.
      let run = failed.moments s.recording stands.recording now in
      leaves-same old.geometry s.recording [] (made_by (ring_of old.geometry) s c) (steps s.recording)
      (begun_by (ring_of old.geometry) s c) (medium old.disk) (medium new.disk) (sym (failed.made_none s))
      (sym (failed.begun_all s stands.keep)) (record {
        moments = run;
        now = each_now (medium old.disk) (medium new.disk) (HoldsSome old.geometry s.recording (steps s.recording))
            (failed.sound (failed.called.honest.0 now)) run;
      });
  looks = λ look now. absurd (clash (is_look c) look failed.writes);
  unmoved = λ early. absurd (clash (was_refused c) early failed.late);
  geometry = ap (λ (x : Seen D). x.geometry) failed.failed;
  called = subst (λ (f : Option DiskFault). Called (medium old.disk) (medium new.disk) f) (sym failed.some) failed.called;
})
