-- One call of a desk, by what the store's own call says.
use Rattle.std.proofs.Common.{◌≡◌, ℕ, ◌+◌, ◌-◌, ◌<◌, Bool, true, false, min, inl, inr, Some, None, Result, Ok, Err, List, [], ◌∷◌, ◌++◌, append_assoc, length, take, drop, refl, sym, ap, ◌∙◌, subst, arith}
use Rattle.std.proofs.lemmas.List.{append-nil, length-append, length-take-le, take_min}
use Rattle.std.proofs.lemmas.Option.{same_Some, slice_get_past}
use Rattle.circular_buffer.proofs.Places.{slice_get-append_right}
use Rattle.std.proofs.Math.Seq.{take-nil}
use Rattle.std.specs.Prelude.{◌%◌, IfErr, IfOk, slice_get}
use Rattle.std.specs.Result.{result_map_both}
use Rattle.loop_disk.specs.Medium.{Medium, IsSound}
use Rattle.loop_record.specs.declared.clip.Span.{Span}
use Rattle.loop_record.specs.declared.frame.FrameHead.{FrameHead}
use Rattle.loop_record.specs.declared.times.Times.{Times}
use Rattle.loop_record.specs.Recording.{Picture, ring_of}
use Rattle.loop_record.specs.Times.{AreRuns, numbers_in_time}
use Rattle.loop_record.specs.Turns.{EachIn, after_all}
use Rattle.loop_store.specs.declared.fault.StoreFault.{StoreFault}
use Rattle.loop_store.specs.declared.fault.StoreFault.TheVariants.{MustReopen, NoMemory}
use Rattle.loop_store.specs.Calls.{AnswersDue, AnswersOtherwise, Call, StoreState, after_calls, appended, checks, due, first_of, runs_with, sought, was_read}
use Rattle.loop_store.specs.Goes.{Goes, Stands, TellsState}
use Rattle.loop_store.specs.Reopen.{TellsOne}
use Rattle.loop_store.specs.Seen.{Seen}
use Rattle.loop_store.proofs.CheckAnswers.{due-none}
use Rattle.loop_store.proofs.CallRuns.{goes-none}
use Rattle.loop_store.proofs.AppendAnswers.{answered-fine, answered-number}
use Rattle.loop_desk.specs.declared.limits.Flushed.{Flushed}
use Rattle.loop_desk.specs.Desk.{DeskCall, DeskState, IsFlush, IsDeskTold, append_of, desk_after, flushed, frame_read, group_of, pending_after, status_told, store_calls, store_calls_in, submit_answer, run_told, runs_told, submitted}
use Rattle.loop_desk.specs.declared.limits.Status.{Status}
use Rattle.loop_desk.specs.Seen.{DeskGoes, OutlineRefuses, SeenDesk, TellsDesk, TellsStatus, rules_of}

-- what the append of a flush answered
abbrev appended_as : Result Flushed StoreFault → Result ℕ StoreFault
appended_as result = result_map_both (λ f. f.first) (λ fault. fault) result

-- the desk with this store and these frames
abbrev pub with_store : {D : Type 0} → SeenDesk D → Seen D → List Picture → SeenDesk D
with_store d store pending = record { store = store; pending = pending; limits = d.limits }

module _ {D : Type 0} (medium : D → Medium) (d : SeenDesk D) where
  -- a call that makes these calls of the store, and is answered so
  pub called : (new : Seen D) (pending : List Picture) (c : DeskCall) (calls : List Call)
      → Goes medium d.store new calls → ((s : DeskState) → TellsDesk d s → (store_calls (rules_of d) s c ≡ calls)
      × IsDeskTold (rules_of d) s c) → pending ≡ pending_after d.pending c
      → DeskGoes medium d (with_store d new pending) (c ∷ [])
  called new pending c calls goes said waits = record {
    one = goes.one;
    store = λ s at. subst (λ (l : List Call). Goes medium d.store new l) (sym (append-nil (store_calls (rules_of d) s c) ∙ (said s at).0)) goes;
    plays = λ s at. (
      ((said s at).1, tt),
      record {
        store = subst (λ (l : List Call). TellsState new (after_calls (ring_of d.store.geometry) s.store l)) (sym (said s at).0) (goes.tells s.store at.store);
        pending = waits ∙ ap (λ (ps : List Picture). pending_after ps c) at.pending;
      },
    );
    limits = refl;
  }

  -- ---- a submit

  pub goes-submit : (pending : List Picture) (p : Picture) (n : ℕ) (result : Result ℕ StoreFault) → TellsOne d.store
      → ((medium d.store.disk).honest → IsSound (medium d.store.disk))
      → ((s : DeskState) → TellsDesk d s → result ≡ submit_answer (rules_of d) s n)
      → pending ≡ pending_after d.pending (submitted p n result)
      → DeskGoes medium d (with_store d d.store pending) (submitted p n result ∷ [])
  goes-submit pending p n result one sound answer waits = called d.store pending (submitted p n result) []
      (goes-none medium d.store one sound) (λ s at. (refl, answer s at)) waits

  -- ---- calls of the store alone

  pub goes-read : (new : Seen D) (number : ℕ) (result : Result (FrameHead × List ℕ) StoreFault)
      → Goes medium d.store new (was_read number result ∷ []) → DeskGoes medium d (with_store d new d.pending)
      (frame_read number result ∷ [])
  goes-read new number result goes = called new d.pending (frame_read number result) (was_read number result ∷ []) goes (λ s at. (refl, tt)) refl

  -- ---- the runs of a time

  none-called : (s : DeskState) (times : Times) (place : ℕ) (runs : List Span)
      → store_calls_in (rules_of d) s (runs_told times place runs) ≡ []
  none-called s times place [] = refl
  none-called s times place (r ∷ rs) = none-called (desk_after (rules_of d) s (run_told times place (Some r))) times (place + 1) rs

  -- the runs that a store returned, a desk returns one by one
  runs-play : (times : Times) (all before runs : List Span) (place : ℕ) (s : DeskState) → TellsDesk d s
      → ((s : DeskState) → TellsDesk d s → AreRuns (numbers_in_time times s.store.recording) all)
      → before ++ runs ≡ all → place ≡ length before
      → EachIn (desk_after (rules_of d)) (IsDeskTold (rules_of d)) s (runs_told times place runs)
      × TellsDesk d (after_all (desk_after (rules_of d)) s (runs_told times place runs))
  runs-play times all before [] place s at are parts is =
      (((all, (are s at, end)), tt), record { store = at.store; pending = at.pending })
    where
      end : slice_get all place ≡ None
      end = slice_get_past all place (omega (arith, is, ap length (sym parts ∙ append-nil before)))
  runs-play times all before (r ∷ rs) place s at are parts is =
      let next : DeskState = desk_after (rules_of d) s (run_told times place (Some r)) in
      let more = runs-play times all (before ++ r ∷ []) rs (place + 1) next (record { store = at.store; pending = at.pending }) are
      (append_assoc before (r ∷ []) rs ∙ parts) (omega (arith, is, length-append before (r ∷ []))) in
      (((all, (are s at, there)), more.0), more.1)
    where
      there : slice_get all place ≡ Some r
      there = ap (λ (l : List Span). slice_get l place) (sym parts)
          ∙ slice_get-append_right before (r ∷ rs) place 0 (omega (arith, is))

  goes-runs : (times : Times) (runs : List Span) → Goes medium d.store d.store (sought times (Ok runs) ∷ [])
      → ((medium d.store.disk).honest → IsSound (medium d.store.disk))
      → DeskGoes medium d d (runs_told times 0 runs)
  goes-runs times runs goes sound = record {
    one = goes.one;
    store = λ s at. subst (λ (l : List Call). Goes medium d.store d.store l) (sym (none-called s times 0 runs)) (goes-none medium d.store goes.one sound);
    plays = λ s at. runs-play times runs [] runs 0 s at are refl refl;
    limits = refl;
  }
    where
      are : (s : DeskState) → TellsDesk d s → AreRuns (numbers_in_time times s.store.recording) runs
      are s at =
          let H = (medium d.store.disk).honest × Stands medium d.store s.store in
          (due-none (first_of (checks (ring_of d.store.geometry) s.store (sought times (Ok runs)))) (sought times (Ok runs))
          (AnswersOtherwise H s.store (sought times (Ok runs))) (goes.answers s.store at.store).0 refl).1

  pub goes-sought : {V : Type 0} (items : V → List Span) (times : Times) (result : Result V StoreFault)
      → Goes medium d.store d.store (sought times (runs_with items result) ∷ [])
      → ((medium d.store.disk).honest → IsSound (medium d.store.disk))
      → IfOk result (λ runs. DeskGoes medium d d (runs_told times 0 (items runs)))
  goes-sought items times (Ok runs) goes sound = goes-runs times (items runs) goes sound
  goes-sought items times (Err fault) goes sound = tt

  -- why a store returned none
  refused-one : (times : Times) (fault : StoreFault)
      → Goes medium d.store d.store (sought times (Err fault) ∷ []) → OutlineRefuses d fault
  refused-one times fault goes = go s.must_reopen refl (goes.answers s tells).0
    where
      s : StoreState
      s = record { recording = goes.one.0; version = d.store.version; keep = d.store.keep; must_reopen = d.store.must_reopen }

      tells : TellsState d.store s
      tells = record { recording = goes.one.1; version = refl; keep = refl; must_reopen = refl }

      go : (b : Bool) → d.store.must_reopen ≡ b
          → AnswersDue (first_of (due b MustReopen ∷ [])) (sought times (Err fault)) (fault ≡ NoMemory)
          → OutlineRefuses d fault
      go true must said = inl (same_Some fault MustReopen said, must)
      go false fine said = inr (said, fine)

  pub sought-refused : {V : Type 0} (items : V → List Span) (times : Times) (result : Result V StoreFault)
      → Goes medium d.store d.store (sought times (runs_with items result) ∷ [])
      → IfErr result (λ fault. OutlineRefuses d fault)
  sought-refused items times (Ok runs) goes = tt
  sought-refused items times (Err fault) goes = refused-one times fault goes

  -- ---- a status

  pub goes-status : (status : Status) → TellsOne d.store
      → ((medium d.store.disk).honest → IsSound (medium d.store.disk)) → TellsStatus medium d status
      → DeskGoes medium d d (status_told status ∷ [])
  goes-status status one sound tells = called d.store d.pending (status_told status) [] (goes-none medium d.store one sound)
      (λ s at. (
        refl,
        record {
          next = tells.next ∙ at.store.recording.next_is;
          held = tells.count ∙ at.store.recording.count_is;
          pending = tells.pending ∙ ap (λ (ps : List Picture). length ps) at.pending;
          must_reopen = tells.must_reopen ∙ at.store.must_reopen;
        },
      )) refl

  -- ---- a flush where nothing waits

  none-waits : (s : DeskState) → TellsDesk d s → d.pending ≡ [] → group_of (rules_of d) s ≡ []
  none-waits s at none =
      let n = min d.limits.group (d.store.geometry.slots - s.store.recording.next % d.store.geometry.slots) in
      ap (λ (l : List Picture). take n l) (sym at.pending ∙ none) ∙ take-nil n

  -- such a flush makes no call of the store
  flush-nothing : (result : Result Flushed StoreFault) → d.pending ≡ [] → TellsOne d.store
      → ((medium d.store.disk).honest → IsSound (medium d.store.disk))
      → ((s : DeskState) → TellsDesk d s → IsFlush s [] result) → d.pending ≡ pending_after d.pending (flushed result)
      → DeskGoes medium d d (flushed result ∷ [])
  flush-nothing result none one sound told waits =
      called d.store d.pending (flushed result) [] (goes-none medium d.store one sound)
      (λ s at. let empty = none-waits s at none in (
        ap (λ (l : List Picture). append_of l result) empty,
        subst (λ (l : List Picture). IsFlush s l result)
            (sym empty) (told s at),
      )) waits

  pub flush-none : (number : ℕ) → number ≡ d.store.next → d.pending ≡ [] → d.store.must_reopen ≡ false
      → TellsOne d.store → ((medium d.store.disk).honest → IsSound (medium d.store.disk))
      → DeskGoes medium d d (flushed (Ok (record { first = number; stored = 0; left = 0 })) ∷ [])
  flush-none number is none fine one sound =
      flush-nothing (Ok (record { first = number; stored = 0; left = 0 })) none one sound
      (λ s at.
      let first = is ∙ at.store.recording.next_is in
      let left : 0 ≡ length s.pending - 0 = omega (arith, ap length (sym at.pending ∙ none)) in
      (sym at.store.must_reopen ∙ fine, λ i. record { first = first i; stored = 0; left = left i })) refl

  -- ---- a flush of a group

  -- the first frames that wait, as many as the least of the limits
  pub record IsGroup (most count : ℕ) : Type 0 where
    pub least : most ≡ min d.limits.group (d.store.geometry.slots - d.store.next % d.store.geometry.slots)
    pub counted : count ≡ min most (length d.pending)
    pub some : 0 < count

  group-is : (s : DeskState) → TellsDesk d s → (most count : ℕ) → IsGroup most count
      → group_of (rules_of d) s ≡ take count d.pending
  group-is s at most count group =
      (λ i. take (min d.limits.group (d.store.geometry.slots - sym at.store.recording.next_is i % d.store.geometry.slots)) (sym at.pending i))
      ∙ ap (λ (n : ℕ). take n d.pending) (sym group.least) ∙ sym (take_min most d.pending) ∙ ap (λ (n : ℕ). take n d.pending) (sym group.counted)

  group-size : (most count : ℕ) → IsGroup most count → length (take count d.pending) ≡ count
  group-size most count group = length-take-le count d.pending (omega (arith, group.counted))

  append-some : (group : List Picture) (result : Result Flushed StoreFault) → 0 < length group
      → append_of group result ≡ appended group (appended_as result) ∷ []
  append-some [] result some = absurd (omega (arith, some))
  append-some (p ∷ ps) result some = refl

  flush-calls : (s : DeskState) → TellsDesk d s → (most count : ℕ) (result : Result Flushed StoreFault)
      → IsGroup most count → append_of (group_of (rules_of d) s) result ≡ appended (take count d.pending)
      (appended_as result) ∷ []
  flush-calls s at most count result group =
      ap (λ (l : List Picture). append_of l result) (group-is s at most count group)
      ∙ append-some (take count d.pending) result (omega (arith, group-size most count group, group.some))

  told-err : (s : DeskState) (group : List Picture) (fault : StoreFault) → 0 < length group
      → IsFlush s group (Err fault)
  told-err s [] fault some = absurd (omega (arith, some))
  told-err s (p ∷ ps) fault some = tt

  pub flush-refused : (new : Seen D) (most count : ℕ) (fault : StoreFault) → IsGroup most count
      → Goes medium d.store new (appended (take count d.pending) (Err fault) ∷ [])
      → DeskGoes medium d (with_store d new d.pending) (flushed (Err fault) ∷ [])
  flush-refused new most count fault group goes =
      called new d.pending (flushed (Err fault)) (appended (take count d.pending) (Err fault) ∷ []) goes
      (λ s at. (
        flush-calls s at most count (Err fault) group,
        told-err s (group_of (rules_of d) s) fault
            (omega (arith, ap length (group-is s at most count group), group-size most count group, group.some)),
      )) refl

  pub flush-stored : (new : Seen D) (most count first waiting : ℕ) → IsGroup most count → waiting ≡ length d.pending
      → Goes medium d.store new (appended (take count d.pending) (Ok first) ∷ [])
      → DeskGoes medium d (with_store d new (drop count d.pending)) (flushed (Ok (record { first = first; stored = count; left = waiting - count })) ∷ [])
  flush-stored new most count first waiting group waits goes =
      let f : Flushed = record { first = first; stored = count; left = waiting - count } in
      called new (drop count d.pending) (flushed (Ok f)) (appended (take count d.pending) (Ok first) ∷ []) goes
      (λ s at.
      let H = (medium d.store.disk).honest × Stands medium d.store s.store in
      let said = (goes.answers s.store at.store).0 in
      let size : count ≡ length (group_of (rules_of d) s) = sym (ap length (group-is s at most count group) ∙ group-size most count group) in
      let number = answered-number H d.store.geometry s.store (take count d.pending) first said in
      let left = waits ∙ ap (λ (ps : List Picture). length ps) at.pending in (
        flush-calls s at most count (Ok f) group,
        (answered-fine H d.store.geometry s.store (take count d.pending) first said, λ i. record { first = number i; stored = size i; left = left i - size i }),
      )) refl
