-- A group that was appended, or wasn't.
use Rattle.std.proofs.Common.{◌≡◌, ◌≢◌, ◌⊎◌, inl, inr, ℕ, Bool, true, false, not, ◌&&◌, eqb, is_some, Option, None, Some, Result, Ok, Err, List, [], ◌∷◌, if◌then◌else◌, refl, sym, ap, ◌∙◌, subst}
use Rattle.loop_disk.specs.declared.fault.DiskFault.{DiskFault}
use Rattle.loop_disk.specs.Calls.{Called, is_write_or_sync}
use Rattle.loop_disk.specs.Medium.{Medium, IsSound, LeavesOnly}
use Rattle.loop_record.specs.declared.geometry.Geometry.{Geometry}
use Rattle.loop_record.specs.Recording.{Picture, Recording, last_number, needs_recycling, plain, recycling_first, ring_of, steps, victim}
use Rattle.loop_record.proofs.TestFacts.{differ, differ_test, equal_test}
use Rattle.loop_store.specs.declared.fault.StoreFault.{StoreFault}
use Rattle.loop_store.specs.declared.fault.StoreFault.TheVariants.{AllLocked, Disk, MustReopen, NumbersSpent}
use Rattle.loop_store.specs.Calls.{AnswersDue, Call, IsAnswered, AnswersOtherwise, StoreState, appended, checks, checks_on, due, first_of}
use Rattle.loop_store.specs.Faults.{failed_by, is_disk, is_write_fault}
use Rattle.loop_store.specs.Goes.{Goes, Stands, TellsState}
use Rattle.loop_store.specs.AppendPlace.{RefusesPlace}
use Rattle.loop_store.specs.Reopen.{TellsOne}
use Rattle.loop_store.specs.Seen.{HasFailed, Seen, StandsFor, Tells}
use Rattle.loop_store.proofs.Appends.{steps-some}
use Rattle.loop_store.proofs.CheckAnswers.{answer-due, answer-given, due-none, failed, passed, passes, write-disk}
use Rattle.loop_store.proofs.Alike.{place-same}
use Rattle.loop_store.proofs.Same.{IsSame}
use Rattle.loop_store.proofs.Once.{goes-done, goes-failed, goes-refused}
use Rattle.loop_store.proofs.Names.{lacks_victim, steps_asked, HoldsSome}

-- ---- the checks

-- where the numbers are spent
first-spent : (g : Geometry) (s : StoreState) (ps : List Picture) (result : Result ℕ StoreFault)
    → s.recording.next ≡ last_number (ring_of g) → first_of (checks_on (ring_of g) s (appended ps result)) ≡ Some NumbersSpent
first-spent g s ps result spent = failed (eqb s.recording.next (last_number (ring_of g))) NumbersSpent _
    (equal_test s.recording.next (last_number (ring_of g)) spent)

lacks : (recycles : Bool) (v : Option ℕ) → recycling_first recycles v ≡ None → (recycles && not (is_some v)) ≡ true
lacks false v e = absurd cc
lacks true None e = refl
lacks true (Some b) e = absurd cc

has : (recycles : Bool) (v : Option ℕ) → recycling_first recycles v ≢ None → (recycles && not (is_some v)) ≡ false
has false v e = refl
has true None e = absurd (e refl)
has true (Some b) e = refl

-- where a block has to go and none may
first-locked : (g : Geometry) (s : StoreState) (ps : List Picture) (result : Result ℕ StoreFault)
    → s.recording.next ≢ last_number (ring_of g) → recycling_first (needs_recycling (ring_of g) s.recording) (victim (ring_of g) s.keep s.recording) ≡ None
    → first_of (checks_on (ring_of g) s (appended ps result)) ≡ Some AllLocked
first-locked g s ps result unspent none =
    passed (eqb s.recording.next (last_number (ring_of g))) NumbersSpent _ (differ_test s.recording.next (last_number (ring_of g)) unspent)
    ∙ failed (lacks_victim (ring_of g) s.keep s.recording) AllLocked []
    (lacks (needs_recycling (ring_of g) s.recording) (victim (ring_of g) s.keep s.recording) none)

-- where there is a place
first-none : (g : Geometry) (s : StoreState) (ps : List Picture) (result : Result ℕ StoreFault)
    → s.recording.next ≢ last_number (ring_of g) → recycling_first (needs_recycling (ring_of g) s.recording) (victim (ring_of g) s.keep s.recording) ≢ None
    → first_of (checks_on (ring_of g) s (appended ps result)) ≡ None
first-none g s ps result unspent some =
    passed (eqb s.recording.next (last_number (ring_of g))) NumbersSpent _ (differ_test s.recording.next (last_number (ring_of g)) unspent)
    ∙ passed (lacks_victim (ring_of g) s.keep s.recording) AllLocked []
    (has (needs_recycling (ring_of g) s.recording) (victim (ring_of g) s.keep s.recording) some)

some-first : (recycles : Bool) (v : Option ℕ) → (recycles && not (is_some v)) ≡ false
    → recycling_first recycles v ≢ None
some-first false v e none = absurd cc
some-first true None e none = absurd cc
some-first true (Some b) e none = absurd cc

-- a group that was appended has steps
pub answered-some : (H : Type 0) (g : Geometry) (s : StoreState) (ps : List Picture) (number : ℕ)
    → IsAnswered H (ring_of g) s (appended ps (Ok number)) → steps (ring_of g) s.keep s.recording ps ≢ None
answered-some H g s ps number said =
    let none = (due-none (first_of (checks (ring_of g) s (appended ps (Ok number)))) (appended ps (Ok number))
    (AnswersOtherwise H s (appended ps (Ok number))) said refl).0 in
    let a = passes s.must_reopen MustReopen _ none in
    let b = passes (eqb s.recording.next (last_number (ring_of g))) NumbersSpent _ a.1 in
    let c = passes (lacks_victim (ring_of g) s.keep s.recording) AllLocked [] b.1 in
    steps-some g s.keep s.recording ps (differ s.recording.next (last_number (ring_of g)) b.0)
    (some-first (needs_recycling (ring_of g) s.recording) (victim (ring_of g) s.keep s.recording) c.0)

-- and its number is the next one
pub answered-number : (H : Type 0) (g : Geometry) (s : StoreState) (ps : List Picture) (number : ℕ)
    → IsAnswered H (ring_of g) s (appended ps (Ok number)) → number ≡ s.recording.next
answered-number H g s ps number said =
    (due-none (first_of (checks (ring_of g) s (appended ps (Ok number)))) (appended ps (Ok number))
    (number ≡ s.recording.next) said refl).1

-- and the store needn't be reopened
pub answered-fine : (H : Type 0) (g : Geometry) (s : StoreState) (ps : List Picture) (number : ℕ)
    → IsAnswered H (ring_of g) s (appended ps (Ok number)) → s.must_reopen ≡ false
answered-fine H g s ps number said =
    (passes s.must_reopen MustReopen _
    (due-none (first_of (checks (ring_of g) s (appended ps (Ok number)))) (appended ps (Ok number))
    (AnswersOtherwise H s (appended ps (Ok number))) said refl).0).0

-- and where a number is left, it is refused since no block may go, or the disk failed
pub answered-refusal : (H : Type 0) (g : Geometry) (s : StoreState) (ps : List Picture) (fault : StoreFault)
    → s.must_reopen ≡ false → s.recording.next ≢ last_number (ring_of g) → IsAnswered H (ring_of g) s (appended ps (Err fault))
    → (fault ≡ AllLocked) ⊎ (is_disk fault ≡ true)
answered-refusal H g s ps fault fine unspent said = go (lacks_victim (ring_of g) s.keep s.recording)
    (subst (λ (o : Option StoreFault). AnswersDue o (appended ps (Err fault)) (is_write_fault fault ≡ true)) first said)
  where
    first : first_of (checks (ring_of g) s (appended ps (Err fault))) ≡ first_of
        (due (lacks_victim (ring_of g) s.keep s.recording) AllLocked ∷ [])
    first = passed s.must_reopen MustReopen _ fine
        ∙ passed (eqb s.recording.next (last_number (ring_of g))) NumbersSpent _
        (differ_test s.recording.next (last_number (ring_of g)) unspent)

    same : (a b : StoreFault) → Some a ≡ Some b → a ≡ b
    same a b e = cc

    go : (b : Bool) → AnswersDue (first_of (due b AllLocked ∷ [])) (appended ps (Err fault))
        (is_write_fault fault ≡ true) → (fault ≡ AllLocked) ⊎ (is_disk fault ≡ true)
    go true is = inl (same fault AllLocked is)
    go false is = inr (write-disk fault is)

-- ---- refused before the disk was called

-- where there is no place
pub place-refused : {D : Type 0} (medium : D → Medium) (s : Seen D) (ps : List Picture) (fault : StoreFault)
    → TellsOne s → ((medium s.disk).honest → IsSound (medium s.disk)) → s.must_reopen ≡ false → (fault ≡ NumbersSpent)
    ⊎ (fault ≡ AllLocked)
    → ((r : Recording) → Tells s r → RefusesPlace s.geometry s.keep r fault) → Goes medium s s (appended ps (Err fault) ∷ [])
place-refused {D} medium s ps fault one sound fine either known = goes-refused medium s (appended ps (Err fault)) one sound (record {
  version = λ v. refl;
  unfailed = quiet either;
  none = none either;
  made_none = λ g t. refl;
  begun_none = λ g t. ap (λ (b : Bool). if b then steps_asked (ring_of g) t.keep t.recording ps else []) (quiet either);
}) answers
  where
    call : Call
    call = appended ps (Err fault)

    quiet : (fault ≡ NumbersSpent) ⊎ (fault ≡ AllLocked) → is_disk fault ≡ false
    quiet (inl e) = ap is_disk e
    quiet (inr e) = ap is_disk e

    none : (fault ≡ NumbersSpent) ⊎ (fault ≡ AllLocked) → failed_by fault ≡ None
    none (inl e) = ap failed_by e
    none (inr e) = ap failed_by e

    refuses : (H : Type 0) (t : StoreState) → t.must_reopen ≡ false → RefusesPlace s.geometry t.keep t.recording fault
        → IsAnswered H (ring_of s.geometry) t call
    refuses H t still (inl x) = answer-due H s.geometry t call NumbersSpent still
        (first-spent s.geometry t ps (Err fault) x.1) (ap (λ (f : StoreFault). Some f) x.0)
    refuses H t still (inr x) = answer-due H s.geometry t call AllLocked still
        (first-locked s.geometry t ps (Err fault) x.1.0 x.1.1) (ap (λ (f : StoreFault). Some f) x.0)

    answers : (H : Type 0) (t : StoreState) → TellsState s t → IsAnswered H (ring_of s.geometry) t call
    answers H t told = refuses H t (sym told.must_reopen ∙ fine)
        (subst (λ (k : ℕ). RefusesPlace s.geometry k t.recording fault) told.keep (known t.recording told.recording))

-- ---- stored

-- a number is left, and no block has to go that may not
pub record HasPlace (g : Geometry) (keep : ℕ) (r : Recording) : Type 0 where
  pub unspent : r.next ≢ last_number (ring_of g)
  pub some : recycling_first (needs_recycling (ring_of g) r) (victim (ring_of g) keep r) ≢ None

placed : (H : Type 0) (g : Geometry) (s : StoreState) (ps : List Picture) (result : Result ℕ StoreFault)
    → s.must_reopen ≡ false → HasPlace g s.keep s.recording → AnswersOtherwise H s (appended ps result)
    → IsAnswered H (ring_of g) s (appended ps result)
placed H g s ps result fine place is = answer-given H g s (appended ps result) fine (first-none g s ps result place.unspent place.some) is

-- what is known where the frames were stored
pub record Stored {D : Type 0} (medium : D → Medium) (old new : Seen D) (ps : List Picture) : Type 0 where
  pub fine : old.must_reopen ≡ false
  pub still : new.must_reopen ≡ false
  pub one : TellsOne old
  pub geometry : new.geometry ≡ old.geometry
  pub version : new.version ≡ old.version
  pub keep : new.keep ≡ old.keep
  pub called : Called (medium old.disk) (medium new.disk) None
  pub place : (r : Recording) → Tells old r → HasPlace old.geometry old.keep r
  pub tells : (r : Recording) → Tells old r
      → Tells new (plain (ring_of old.geometry) r (steps_asked (ring_of old.geometry) old.keep r ps))
  pub moments : (r : Recording) → StandsFor medium old r → (medium old.disk).honest → LeavesOnly (medium old.disk)
      (medium new.disk) (HoldsSome old.geometry r (steps_asked (ring_of old.geometry) old.keep r ps))
  pub stands : (r : Recording) → StandsFor medium old r
      → StandsFor medium new (plain (ring_of old.geometry) r (steps_asked (ring_of old.geometry) old.keep r ps))

pub put-stored : {D : Type 0} (medium : D → Medium) (old new : Seen D) (ps : List Picture) → Stored medium old new ps
    → Goes medium old new (appended ps (Ok old.next) ∷ [])
put-stored medium old new ps stored = goes-done medium old new (appended ps (Ok old.next)) (λ r. steps_asked (ring_of old.geometry) old.keep r ps) (record {
  writes = refl;
  late = refl;
  fine = stored.fine;
  still = stored.still;
  one = stored.one;
  geometry = stored.geometry;
  version = λ v e. stored.version ∙ e;
  keep = stored.keep;
  called = stored.called;
  unfailed = refl;
  none = refl;
  made_all = λ s kept. ap (λ (k : ℕ). steps_asked (ring_of old.geometry) k s.recording ps) (sym kept);
  begun_none = λ s. refl;
  answers = λ s told. placed ((medium old.disk).honest × Stands medium old s) old.geometry s ps (Ok old.next)
      (sym told.must_reopen ∙ stored.fine)
      (subst (λ (k : ℕ). HasPlace old.geometry k s.recording) told.keep (stored.place s.recording told.recording))
      told.recording.next_is;
  moments = stored.moments;
  tells = stored.tells;
  stands = stored.stands;
})

-- ---- the disk failed

-- what is known where the disk failed
pub record Failed {D : Type 0} (medium : D → Medium) (old new : Seen D) (ps : List Picture) (fault : DiskFault) : Type 0 where
  pub fine : old.must_reopen ≡ false
  pub one : TellsOne old
  pub has_failed : HasFailed old new
  pub writes : is_write_or_sync fault ≡ true
  pub called : Called (medium old.disk) (medium new.disk) (Some fault)
  pub sound : (medium new.disk).honest → IsSound (medium new.disk)
  pub place : (r : Recording) → Tells old r → HasPlace old.geometry old.keep r
  pub moments : (r : Recording) → StandsFor medium old r → (medium old.disk).honest → LeavesOnly (medium old.disk)
      (medium new.disk) (HoldsSome old.geometry r (steps_asked (ring_of old.geometry) old.keep r ps))

pub put-failed : {D : Type 0} (medium : D → Medium) (old new : Seen D) (ps : List Picture) (fault : DiskFault)
    → Failed medium old new ps fault → Goes medium old new (appended ps (Err (Disk fault)) ∷ [])
put-failed medium old new ps fault failed = goes-failed medium old new (appended ps (Err (Disk fault)))
    (λ r. steps_asked (ring_of old.geometry) old.keep r ps) fault (record {
      writes = refl;
      late = refl;
      fine = failed.fine;
      one = failed.one;
      failed = failed.has_failed;
      version = λ v. refl;
      called = failed.called;
      sound = failed.sound;
      has = refl;
      some = refl;
      made_none = λ s. refl;
      begun_all = λ s kept. ap (λ (k : ℕ). steps_asked (ring_of old.geometry) k s.recording ps) (sym kept);
      answers = λ s told. placed ((medium old.disk).honest × Stands medium old s) old.geometry s ps (Err (Disk fault))
          (sym told.must_reopen ∙ failed.fine)
          (subst (λ (k : ℕ). HasPlace old.geometry k s.recording) told.keep (failed.place s.recording told.recording))
          failed.writes;
      moments = failed.moments;
    })

-- a place that is there for one recording is there for each with its numbers
pub place-alike : (g : Geometry) (keep : ℕ) (r t : Recording) → IsSame r t → HasPlace g keep r → HasPlace g keep t
place-alike g keep r t same place = record {
  unspent = λ spent. place.unspent (same.next ∙ spent);
  some = λ none. place.some (place-same g keep r t same ∙ none);
}
