-- What holds of a session, after each call of its desk too.
use Rattle.std.proofs.Common.{◌≡◌, ◌≢◌, ◌⊎◌, ℕ, ◌+◌, ◌-◌, ◌%◌, ◌<◌, ◌≤◌, ◌==◌, min, ◌||◌, Bool, true, false, not, if◌then◌else◌, IsTrue, Option, Some, None, Result, Ok, Err, List, [], ◌∷◌, ◌++◌, length, take, inl, inr, refl, sym, ap, ◌∙◌, subst, eq-eqb, add-zero, arith}
use Rattle.std.proofs.lemmas.Bool.{false≢true}
use Rattle.std.specs.Prelude.{IfErr, OnErr}
use Rattle.std.specs.Result.{result_err}
use Rattle.std.proofs.lemmas.List.{length-append, length-drop, length-take}
use Rattle.std.proofs.Math.Seq.{take-nil}
use Rattle.loop_disk.specs.declared.fault.DiskFault.{DiskFault}
use Rattle.loop_disk.specs.declared.fault.DiskFault.TheVariants.{Read, Write, Sync}
use Rattle.loop_disk.specs.declared.fault.Failures.{Failures}
use Rattle.loop_disk.specs.Calls.{no_failures, with_failed}
use Rattle.loop_disk.specs.Medium.{Medium}
use Rattle.loop_record.specs.declared.geometry.Geometry.{Geometry}
use Rattle.loop_record.specs.Geometry.{frame_bytes, is_good}
use Rattle.loop_record.specs.Recording.{Picture, last_number, ring_of}
use Rattle.loop_store.specs.declared.fault.StoreFault.{StoreFault}
use Rattle.loop_store.specs.declared.fault.StoreFault.TheVariants.{AllLocked, Damaged, Disk, MustReopen, NoMemory, NotHeld, NumbersSpent, PendingFull, WrongSize}
use Rattle.loop_store.specs.Calls.{AnswersDue, AnswersOtherwise, Call, StoreState, appended, due, failed_for, first_of, locked, unlocked, upgraded, was_read, was_read_part, sought}
use Rattle.loop_store.specs.Faults.{disk_failed, failed_by, failed_in, is_disk}
use Rattle.loop_store.specs.Goes.{Goes, Stands}
use Rattle.loop_store.specs.Reopen.{TellsOne}
use Rattle.loop_store.specs.declared.command.ReadFrame.{ReadFrame}
use Rattle.loop_store.specs.Runs.{read_of}
use Rattle.loop_store.specs.Seen.{Refused, Seen}
use Rattle.loop_store.proofs.CheckAnswers.{write-disk}
use Rattle.loop_store.proofs.CallRuns as store
use Rattle.loop_store.proofs.NextNumber.{count_stored, next-one}
use Rattle.loop_store.proofs.AppendAnswers.{answered-refusal}
use Rattle.loop_store.proofs.FrameReads.{read-refusal}
use Rattle.loop_record.specs.declared.damage.Damage.TheVariants.{SlotHead}
use Rattle.loop_record.proofs.TestFacts.{equal_test}
use Rattle.loop_desk.specs.declared.limits.Flushed.{Flushed}
use Rattle.loop_desk.specs.Desk.{IsFlush, append_of, flushed, frame_read, group_of, layout_upgraded, submitted}
use Rattle.loop_desk.specs.Seen.{DeskGoes, SeenDesk, rules_of}
use Rattle.loop_desk.proofs.CallRuns.{state-of, state-told, store-goes, told-one, told-then}
use Rattle.loop_desk.proofs.Always.{below}
use Rattle.loop_script.specs.Sessions.{IsSession, RefusesFrame, Shown}
use Rattle.loop_store.proofs.Names.{has_failed}

-- ---- a disk of which no call fails

no-fault : (failed : Option DiskFault) → no_failures ≡ with_failed failed no_failures → failed ≡ None
no-fault None e = refl
no-fault (Some Read) e = absurd (omega (arith, ap (λ (f : Failures). f.reads) e))
no-fault (Some Write) e = absurd (omega (arith, ap (λ (f : Failures). f.writes) e))
no-fault (Some Sync) e = absurd (omega (arith, ap (λ (f : Failures). f.syncs) e))

fine-fault : (fault : StoreFault) → failed_by fault ≡ None → is_disk fault ≡ false
fine-fault (Disk f) e = cc
fine-fault _ e = refl

fine-answer : {T : Type 0} (result : Result T StoreFault) → failed_in result ≡ None → disk_failed (result_err result) ≡ false
fine-answer (Ok x) e = refl
fine-answer (Err fault) e = fine-fault fault e

fine-call : (call : Call) → failed_for call ≡ None → has_failed call ≡ false
fine-call (appended group result) e = fine-answer result e
fine-call (locked span result) e = fine-answer result e
fine-call (unlocked id result) e = fine-answer result e
fine-call (upgraded result) e = fine-answer result e
fine-call (was_read number result) e = refl
fine-call (was_read_part number at result) e = refl
fine-call (sought times result) e = refl

or-false : (a b : Bool) → a ≡ false → b ≡ false → (a || b) ≡ false
or-false a b x y = rw (x, y) refl

-- ---- one call of the store

pub none-failed : {D : Type 0} {medium : D → Medium} (old new : Seen D) (call : Call)
    → Goes medium old new (call ∷ []) → ((d : D) → (medium d).failures ≡ no_failures) → failed_for call ≡ None
none-failed {medium = medium} old new call goes never =
    no-fault (failed_for call) (sym (never new.disk) ∙ goes.called.failures ∙ ap (with_failed (failed_for call)) (never old.disk))

pub fine-one : {D : Type 0} {medium : D → Medium} (old new : Seen D) (call : Call) → Goes medium old new (call ∷ [])
    → ((d : D) → (medium d).failures ≡ no_failures) → old.must_reopen ≡ false → new.must_reopen ≡ false
fine-one old new call goes never fine =
    (goes.tells (store.state-of old goes.one) (store.state-told old goes.one)).must_reopen
    ∙ or-false old.must_reopen (has_failed call) fine (fine-call call (none-failed old new call goes never))

-- ---- the desk's invariants

-- a desk whose store and list of waiting frames are so
session-of : {D : Type 0} (old new : SeenDesk D) (gone : ℕ) → new.store.geometry ≡ old.store.geometry
    → new.store.must_reopen ≡ false → new.store.next ≡ old.store.next + gone
    → length new.pending + gone ≡ length old.pending → IsSession old → IsSession new
session-of old new gone same fine next fewer kept = record {
  good = subst (λ (g : Geometry). IsTrue (is_good g)) (sym same) kept.good;
  fine = fine;
  numbers = λ k inside.
      let low : gone + k < length old.pending = omega (arith, inside, fewer) in
      let is : new.store.next + k ≡ old.store.next + (gone + k) = omega (arith, next) in
      subst (λ (g : Geometry). new.store.next + k ≢ last_number (ring_of g)) (sym same) (λ e. kept.numbers (gone + k) low (sym is ∙ e));
}

-- after a call that neither stores nor accepts a frame
pub kept-one : {D : Type 0} {medium : D → Medium} (old new : SeenDesk D) (call : Call)
    → Goes medium old.store new.store (call ∷ []) → ((d : D) → (medium d).failures ≡ no_failures)
    → count_stored call ≡ 0 → new.pending ≡ old.pending → IsSession old → IsSession new
kept-one old new call goes never none same kept =
    session-of old new 0 goes.geometry (fine-one old.store new.store call goes never kept.fine)
    (next-one old.store new.store call goes ∙ ap (λ (n : ℕ). old.store.next + n) none)
    (omega (arith, ap length same)) kept

-- ---- a submit

-- the answer to a submit that is accepted
chosen : (must right full spent : Bool) (number n : ℕ) → ◌≡◌ {A = Result ℕ StoreFault} (Ok number)
    (if must then Err MustReopen else if not right then Err WrongSize else if full then Err PendingFull else if spent
    then Err NumbersSpent else Ok n) → (spent ≡ false) × (number ≡ n)
chosen true right full spent number n e = cc
chosen false false full spent number n e = cc
chosen false true true spent number n e = cc
chosen false true false true number n e = cc
chosen false true false false number n e = (refl, (cc))

-- no submit is answered that there is no memory
no-memory : (must right full spent : Bool) (n : ℕ) → ◌≡◌ {A = Result ℕ StoreFault} (Err NoMemory)
    (if must then Err MustReopen else if not right then Err WrongSize else if full then Err PendingFull else if spent
    then Err NumbersSpent else Ok n) → ⊥
no-memory true right full spent n e = cc
no-memory false false full spent n e = cc
no-memory false true true spent n e = cc
no-memory false true false true n e = cc
no-memory false true false false n e = cc

err-is : (a b : StoreFault) → ◌≡◌ {A = Result ℕ StoreFault} (Err a) (Err b) → a ≡ b
err-is a b e = cc

-- why a submit is refused
refused-why : (must right full spent : Bool) (n : ℕ) (fault : StoreFault) → must ≡ false → right ≡ true
    → ◌≡◌ {A = Result ℕ StoreFault} (Err fault)
    (if must then Err MustReopen else if not right then Err WrongSize else if full then Err PendingFull else if spent
    then Err NumbersSpent else Ok n) → RefusesFrame fault
refused-why true right full spent n fault fine is e = absurd cc
refused-why false false full spent n fault fine is e = absurd cc
refused-why false true true spent n fault fine is e = inr (inl (err-is fault PendingFull e))
refused-why false true false true n fault fine is e = inr (inr (err-is fault NumbersSpent e))
refused-why false true false false n fault fine is e = absurd cc

apart : (a b : ℕ) → (a == b) ≡ false → a ≢ b
apart a b other e = false≢true (sym other ∙ eq-eqb a b e)

module _ {D : Type 0} {medium : D → Medium} (old new : SeenDesk D) (p : Picture) (size : ℕ) where
  pub submitted-as : (number : ℕ) → DeskGoes medium old new (submitted p size (Ok number) ∷ [])
      → ((old.store.next + length old.pending) == last_number (ring_of old.store.geometry) ≡ false)
      × (number ≡ old.store.next + length old.pending)
  submitted-as number goes =
      let is = goes.one.1.next_is in
      let next = goes.one.0.next + length old.pending in
      let said = chosen old.store.must_reopen (size == frame_bytes old.store.geometry)
      (length old.pending == old.limits.pending) (next == last_number (ring_of old.store.geometry)) number next
      (told-one medium old new (submitted p size (Ok number)) goes) in
      ((λ i. (is i + length old.pending) == last_number (ring_of old.store.geometry)) ∙ said.0, said.1 ∙ ap (λ (n : ℕ). n + length old.pending) (sym is))

  pub submit-memory : DeskGoes medium old new (submitted p size (Err NoMemory) ∷ []) → ⊥
  submit-memory goes =
      let next = goes.one.0.next + length old.pending in
      no-memory old.store.must_reopen (size == frame_bytes old.store.geometry)
      (length old.pending == old.limits.pending) (next == last_number (ring_of old.store.geometry)) next
      (told-one medium old new (submitted p size (Err NoMemory)) goes)

  -- why a frame of the right size is refused
  pub submit-refused : (fault : StoreFault) → DeskGoes medium old new (submitted p size (Err fault) ∷ [])
      → size ≡ frame_bytes old.store.geometry → IsSession old → RefusesFrame fault
  submit-refused fault goes is kept =
      let next = goes.one.0.next + length old.pending in
      refused-why old.store.must_reopen (size == frame_bytes old.store.geometry)
      (length old.pending == old.limits.pending) (next == last_number (ring_of old.store.geometry)) next fault
      kept.fine (equal_test size (frame_bytes old.store.geometry) is)
      (told-one medium old new (submitted p size (Err fault)) goes)

  pub submit-refusals : (answer : Result ℕ StoreFault) → DeskGoes medium old new (submitted p size answer ∷ [])
      → size ≡ frame_bytes old.store.geometry → IsSession old → IfErr answer RefusesFrame
  submit-refusals (Ok number) goes is kept = tt
  submit-refusals (Err fault) goes is kept = submit-refused fault goes is kept

  -- and then the desk is as it was
  pub submit-same : (answer : Result ℕ StoreFault) → DeskGoes medium old new (submitted p size answer ∷ [])
      → new ≡ record old { pending = new.pending } → OnErr answer (new ≡ old)
  submit-same (Ok number) goes same = tt
  submit-same (Err fault) goes same = same ∙ ap (λ (ps : List Picture). record old { pending = ps })
      (told-then medium old new (submitted p size (Err fault) ∷ []) goes).pending

  pub kept-submit : (answer : Result ℕ StoreFault) → DeskGoes medium old new (submitted p size answer ∷ [])
      → IsSession old → IsSession new
  kept-submit (Err fault) goes kept =
      let same : new.store ≡ old.store = (store-goes medium old new (submitted p size (Err fault) ∷ []) goes).unmoved refl in
      let next : new.store.next ≡ old.store.next + 0 = omega (arith, ap (λ (x : Seen D). x.next) same) in
      session-of old new 0 (ap (λ (x : Seen D). x.geometry) same) (ap (λ (x : Seen D). x.must_reopen) same
      ∙ kept.fine) next (omega (
        arith,
        ap length (told-then medium old new (submitted p size (Err fault) ∷ []) goes).pending,
      )) kept
  kept-submit (Ok number) goes kept =
      let same : new.store ≡ old.store = (store-goes medium old new (submitted p size (Ok number) ∷ []) goes).unmoved refl in
      let pending = (told-then medium old new (submitted p size (Ok number) ∷ []) goes).pending in record {
        good = subst (λ (x : Seen D). IsTrue (is_good x.geometry)) (sym same) kept.good;
        fine = ap (λ (x : Seen D). x.must_reopen) same ∙ kept.fine;
        numbers = λ k inside.
            let more : length new.pending ≡ length old.pending + 1 = omega (arith, ap length pending, length-append old.pending (p ∷ [])) in
            let last = apart (old.store.next + length old.pending) (last_number (ring_of old.store.geometry)) (submitted-as number goes).0 in
            subst (λ (x : Seen D). x.next + k ≢ last_number (ring_of x.geometry)) (sym same) (last-or k (omega (arith, inside, more)) last);
      }
    where
      -- a frame that waited, or the one that was submitted
      last-or : (k : ℕ) → k ≤ length old.pending → old.store.next + length old.pending ≢ last_number
          (ring_of old.store.geometry) → old.store.next + k ≢ last_number (ring_of old.store.geometry)
      last-or k within last e =
          let low : k < length old.pending = below k (length old.pending) within (λ same. last (ap (λ (n : ℕ). old.store.next + n) (sym same) ∙ e)) in
          kept.numbers k low e

-- ---- a flush

-- how many frames a flush of a group stored
abbrev stored-by : List Picture → Result Flushed StoreFault → ℕ
stored-by group (Ok f) = length group
stored-by group (Err fault) = 0

some-wait : (n : ℕ) (xs : List Picture) → 0 < length (take n xs) → 0 < length xs
some-wait n [] some =
    let none : ◌≡◌ {A = List Picture} (take n []) [] = take-nil n in
    absurd (omega (arith, some, ap length none))
some-wait n (x ∷ xs) some = omega arith

few-taken : (n : ℕ) (xs : List Picture) → length (take n xs) ≤ length xs
few-taken n xs = omega (arith, length-take n xs)

few-of : (group slots next : ℕ) (xs : List Picture) → length (take (min group (slots - next % slots)) xs) ≤ length xs
few-of group slots next xs = few-taken (min group (slots - next % slots)) xs

module _ {D : Type 0} {medium : D → Medium} (never : (d : D) → (medium d).failures ≡ no_failures) where
  -- the store after a flush of this group
  flush-next : (old new : Seen D) (group : List Picture) (result : Result Flushed StoreFault)
      → Goes medium old new (append_of group result ++ []) → new.next ≡ old.next + stored-by group result
  flush-next old new [] (Ok f) goes = omega (arith, ap (λ (x : Seen D). x.next) (goes.unmoved refl))
  flush-next old new [] (Err fault) goes = omega (arith, ap (λ (x : Seen D). x.next) (goes.unmoved refl))
  flush-next old new (p ∷ ps) (Ok f) goes = next-one old new (appended (p ∷ ps) (Ok f.first)) goes
  flush-next old new (p ∷ ps) (Err fault) goes = next-one old new (appended (p ∷ ps) (Err fault)) goes

  flush-fine : (old new : Seen D) (group : List Picture) (result : Result Flushed StoreFault)
      → Goes medium old new (append_of group result ++ []) → old.must_reopen ≡ false → new.must_reopen ≡ false
  flush-fine old new [] (Ok f) goes fine = ap (λ (x : Seen D). x.must_reopen) (goes.unmoved refl) ∙ fine
  flush-fine old new [] (Err fault) goes fine = ap (λ (x : Seen D). x.must_reopen) (goes.unmoved refl) ∙ fine
  flush-fine old new (p ∷ ps) (Ok f) goes fine = fine-one old new (appended (p ∷ ps) (Ok f.first)) goes never fine
  flush-fine old new (p ∷ ps) (Err fault) goes fine = fine-one old new (appended (p ∷ ps) (Err fault)) goes never fine

  pub kept-flush : (old new : SeenDesk D) (result : Result Flushed StoreFault)
      → DeskGoes medium old new (flushed result ∷ []) → IsSession old → IsSession new
  kept-flush old new (Err fault) goes kept =
      let group = group_of (rules_of old) (state-of old goes.one) in
      let store = store-goes medium old new (flushed (Err fault) ∷ []) goes in
      let pending = (told-then medium old new (flushed (Err fault) ∷ []) goes).pending in
      session-of old new 0 store.geometry (flush-fine old.store new.store group (Err fault) store kept.fine)
      (flush-next old.store new.store group (Err fault) store) (omega (arith, ap length pending)) kept
  kept-flush old new (Ok f) goes kept =
      let group = group_of (rules_of old) (state-of old goes.one) in
      let store = store-goes medium old new (flushed (Ok f) ∷ []) goes in
      let pending = (told-then medium old new (flushed (Ok f) ∷ []) goes).pending in
      let stored : f.stored ≡ length group = ap (λ (x : Flushed). x.stored) (told-one medium old new (flushed (Ok f)) goes).1 in
      let left : length new.pending ≡ length old.pending - f.stored = ap length pending ∙ length-drop f.stored old.pending in
      let few : length group ≤ length old.pending = few-of old.limits.group old.store.geometry.slots goes.one.0.next old.pending in
      session-of old new (length group) store.geometry (flush-fine old.store new.store group (Ok f) store kept.fine)
      (flush-next old.store new.store group (Ok f) store) (omega (arith, left, stored, few)) kept

  -- why a flush is refused
  flush-refusal : (old new : SeenDesk D) (one : TellsOne old.store) (group : List Picture) (fault : StoreFault)
      → Goes medium old.store new.store (append_of group (Err fault) ++ []) → IsFlush (state-of old one) group
      (Err fault) → (0 < length group → 0 < length old.pending) → IsSession old → fault ≡ AllLocked
  flush-refusal old new one [] fault goes told some kept = absurd (false≢true (sym kept.fine ∙ told.1))
  flush-refusal old new one (p ∷ ps) fault goes told some kept =
      let call = appended (p ∷ ps) (Err fault) in
      let s = state-of old one in
      let spent : one.0.next ≢ last_number (ring_of old.store.geometry) = λ e. kept.numbers 0 (some (omega arith))
      (add-zero old.store.next ∙ one.1.next_is ∙ e) in
      elim (answered-refusal ((medium old.store.disk).honest × Stands medium old.store s.store) old.store.geometry
      s.store (p ∷ ps) fault kept.fine spent (goes.answers s.store (state-told old one).store).0) [
        | inl is ↦ is
        | inr disk ↦ absurd (false≢true (sym (fine-fault fault (none-failed old.store new.store call goes never)) ∙ disk))
      ]

  pub flush-refused : (old new : SeenDesk D) (fault : StoreFault) → DeskGoes medium old new (flushed (Err fault) ∷ [])
      → IsSession old → fault ≡ AllLocked
  flush-refused old new fault goes kept =
      flush-refusal old new goes.one (group_of (rules_of old) (state-of old goes.one)) fault
      (store-goes medium old new (flushed (Err fault) ∷ []) goes)
      (told-one medium old new (flushed (Err fault)) goes)
      (some-wait (min old.limits.group (old.store.geometry.slots - goes.one.0.next % old.store.geometry.slots)) old.pending) kept

  pub flush-locked : (old new : SeenDesk D) (result : Result Flushed StoreFault)
      → DeskGoes medium old new (flushed result ∷ []) → IsSession old → IfErr result (λ fault. fault ≡ AllLocked)
  flush-locked old new (Ok f) goes kept = tt
  flush-locked old new (Err fault) goes kept = flush-refused old new fault goes kept

  pub flush-fault : (old new : SeenDesk D) (result : Result Flushed StoreFault)
      → DeskGoes medium old new (flushed result ∷ []) → IsSession old → IfErr result (λ fault. is_disk fault ≡ false)
  flush-fault old new (Ok f) goes kept = tt
  flush-fault old new (Err fault) goes kept = ap is_disk (flush-refused old new fault goes kept)

  -- why a read is refused
  pub read-refused : {A : Type 0} (old new : SeenDesk D) (number : ℕ) (result : Result (ReadFrame A) StoreFault)
      → DeskGoes medium old new (frame_read number (read_of result) ∷ []) → IsSession old
      → IfErr result (λ fault. (fault ≡ NotHeld) ⊎ ((fault ≡ NoMemory) ⊎ (fault ≡ Damaged SlotHead)))
  read-refused old new number (Ok frame) goes kept = tt
  read-refused old new number (Err fault) goes kept =
      let store = store-goes medium old new (frame_read number (Err fault) ∷ []) goes in
      let s = state-of old goes.one in
      let H = (medium old.store.disk).honest × Stands medium old.store s.store in
      elim (read-refusal H old.store.geometry s.store number fault kept.fine (store.answers s.store (state-told old goes.one).store).0) [
        | inl is ↦ inl is
        | inr other ↦ elim other [
          | inl is ↦ inr (inl is)
          | inr last ↦ elim last [
            | inl is ↦ inr (inr is)
            | inr disk ↦ absurd (false≢true (sym (fine-fault fault (none-failed old.store new.store (was_read number (Err fault)) store never)) ∙ disk))
          ]
        ]
      ]

-- ---- an upgrade

upgrade-told : (H : Type 0) (s : StoreState) (result : Result Bool StoreFault) → failed_in result ≡ None
    → AnswersOtherwise H s (upgraded result) → result ≡ Ok (not (s.version == 2))
upgrade-told H s (Ok made) none told = ap (λ (b : Bool). Ok b) told
upgrade-told H s (Err fault) none told = absurd (false≢true (sym (fine-fault fault none) ∙ write-disk fault told.1))

-- it is made where the version isn't 2, and never refused
pub upgrade-answer : {D : Type 0} {medium : D → Medium} (old new : SeenDesk D) (result : Result Bool StoreFault)
    → DeskGoes medium old new (layout_upgraded result ∷ []) → ((d : D) → (medium d).failures ≡ no_failures)
    → IsSession old → result ≡ Ok (not (old.store.version == 2))
upgrade-answer {medium = medium} old new result goes never kept =
    let store = store-goes medium old new (layout_upgraded result ∷ []) goes in
    let s = state-of old goes.one in
    let H = (medium old.store.disk).honest × Stands medium old.store s.store in
    upgrade-told H s.store result (none-failed old.store new.store (upgraded result) store never)
    (subst (λ (b : Bool). AnswersDue (first_of (due b MustReopen ∷ [])) (upgraded result)
    (AnswersOtherwise H s.store (upgraded result))) kept.fine
    (store.answers s.store (state-told old goes.one).store).0)

-- ---- a refusal changes nothing

pub fine-of : {T : Type 0} (result : Result T StoreFault) → failed_in result ≡ None
    → IfErr result (λ fault. is_disk fault ≡ false)
fine-of (Ok x) none = tt
fine-of (Err fault) none = fine-fault fault none

same-store : {D : Type 0} (T : Type 0) (old new : Seen D) (fault : StoreFault) → Refused {T = T} old new (Err fault) → is_disk fault ≡ false → new ≡ old
same-store T old new (Disk f) refused fine = cc
same-store T old new _ refused fine = refused

pub flush-waits : {D : Type 0} {medium : D → Medium} (old new : SeenDesk D) (result : Result Flushed StoreFault)
    → DeskGoes medium old new (flushed result ∷ []) → OnErr result (new.pending ≡ old.pending)
flush-waits old new (Ok f) goes = tt
flush-waits {medium = medium} old new (Err fault) goes = (told-then medium old new (flushed (Err fault) ∷ []) goes).pending

pub on-err : {T : Type 0} {P : Type 0} (result : Result T StoreFault) → P → OnErr result P
on-err (Ok x) p = tt
on-err (Err fault) p = p

pub unchanged : {D T : Type 0} (old new : Shown D) (result : Result T StoreFault)
    → Refused old.desk.store new.desk.store result → IfErr result (λ fault. is_disk fault ≡ false)
    → OnErr result (new.desk.pending ≡ old.desk.pending) → new.desk.limits ≡ old.desk.limits
    → new.accepted ≡ old.accepted → OnErr result (new ≡ old)
unchanged {T = T} old new (Ok x) refused fine pending limits count = tt
unchanged {T = T} old new (Err fault) refused fine pending limits count =
    let store = same-store T old.desk.store new.desk.store fault refused fine in
    λ i. record { desk = record { store = store i; pending = pending i; limits = limits i }; accepted = count i }
