-- The calls of the disk that failed, as a desk's answers say it.
use Rattle.std.proofs.Common.{◌≡◌, ℕ, ◌+◌, Bool, true, false, not, if◌then◌else◌, Option, None, Result, Ok, Err, List, [], ◌∷◌, ◌++◌, map, refl, sym, ap, ◌∙◌}
use Rattle.std.proofs.lemmas.List.{map-append}
use Rattle.std.specs.Prelude.{◌==◌, length}
use Rattle.loop_disk.specs.declared.fault.DiskFault.{DiskFault}
use Rattle.loop_disk.specs.declared.fault.Failures.{Failures}
use Rattle.loop_disk.specs.Calls.{with_failed}
use Rattle.loop_disk.specs.Medium.{Medium}
use Rattle.loop_record.specs.Geometry.{frame_bytes}
use Rattle.loop_record.specs.Recording.{Picture, last_number, ring_of}
use Rattle.loop_store.specs.declared.fault.StoreFault.{StoreFault}
use Rattle.loop_store.specs.declared.fault.StoreFault.TheVariants.{MustReopen, NumbersSpent, PendingFull, WrongSize}
use Rattle.loop_store.specs.Calls.{failed_for}
use Rattle.loop_store.specs.Faults.{failed_by, failed_in}
use Rattle.loop_store.specs.Goes.{with_each}
use Rattle.loop_desk.specs.declared.limits.Flushed.{Flushed}
use Rattle.loop_desk.specs.Desk.{AreTold, DeskCall, DeskState, IsDeskTold, IsFlush, Rules, append_of, clip_locked, clip_unlocked, desk_after, desk_failed_for, flushed, frame_read, group_of, layout_upgraded, status_told, store_calls, store_calls_in, submit_answer, run_told, submitted}
use Rattle.loop_desk.specs.Seen.{DeskGoes, SeenDesk, rules_of}
use Rattle.loop_desk.proofs.CallRuns.{state-of, state-told, store-goes}

with_each-behind : (xs ys : List (Option DiskFault)) (before : Failures) → with_each (xs ++ ys) before ≡ with_each ys
    (with_each xs before)
with_each-behind [] ys before = refl
with_each-behind (x ∷ xs) ys before = with_each-behind xs ys (with_failed x before)

-- a submit never says that the disk failed
submit-failed : (k : Rules) (w : DeskState) (n : ℕ) → failed_in (submit_answer k w n) ≡ None
submit-failed k w n = go w.store.must_reopen (not (n == frame_bytes k.geometry))
    (length w.pending == k.limits.pending)
    ((w.store.recording.next + length w.pending) == last_number (ring_of k.geometry))
  where
    go : (a b c d : Bool) → failed_in
        (if a then Err MustReopen else if b then Err WrongSize else if c then Err PendingFull else if d then Err
        NumbersSpent else Ok (w.store.recording.next + length w.pending)) ≡ None
    go true b c d = refl
    go false true c d = refl
    go false false true d = refl
    go false false false true = refl
    go false false false false = refl

flush-failed : (w : DeskState) (group : List Picture) (result : Result Flushed StoreFault) (before : Failures)
    → IsFlush w group result → with_each (map failed_for (append_of group result)) before ≡ with_failed
    (failed_in result) before
flush-failed w [] (Ok f) before told = refl
flush-failed w [] (Err fault) before told = ap (λ (x : StoreFault). with_failed (failed_by x) before) (sym told.0)
flush-failed w (p ∷ ps) (Ok f) before told = refl
flush-failed w (p ∷ ps) (Err fault) before told = refl

one-failed : (k : Rules) (w : DeskState) (c : DeskCall) (before : Failures) → IsDeskTold k w c
    → with_each (map failed_for (store_calls k w c)) before ≡ with_failed (desk_failed_for c) before
one-failed k w (submitted p size result) before told = ap (λ (x : Option DiskFault). with_failed x before) (sym (ap failed_in told ∙ submit-failed k w size))
one-failed k w (flushed result) before told = flush-failed w (group_of k w) result before told
one-failed k w (clip_locked span result) before told = refl
one-failed k w (clip_unlocked id result) before told = refl
one-failed k w (frame_read number result) before told = refl
one-failed k w (status_told status) before told = refl
one-failed k w (layout_upgraded result) before told = refl
one-failed k w (run_told times place run) before told = refl

each-failed : (k : Rules) (w : DeskState) (calls : List DeskCall) (before : Failures) → AreTold k w calls
    → with_each (map failed_for (store_calls_in k w calls)) before ≡ with_each (map desk_failed_for calls) before
each-failed k w [] before told = refl
each-failed k w (c ∷ cs) before told =
    let here = store_calls k w c in
    let v = desk_after k w c in
    let there = store_calls_in k v cs in
    ap (λ (l : List (Option DiskFault)). with_each l before) (map-append failed_for here there)
    ∙ with_each-behind (map failed_for here) (map failed_for there) before
    ∙ ap (λ (f : Failures). with_each (map failed_for there) f) (one-failed k w c before told.0)
    ∙ each-failed k v cs (with_failed (desk_failed_for c) before) told.1

-- the disk has failed as often since then as the answers say
pub failures-are : {D : Type 0} (medium : D → Medium) (old new : SeenDesk D) (calls : List DeskCall)
    → DeskGoes medium old new calls → (medium new.store.disk).failures ≡ with_each (map desk_failed_for calls)
    (medium old.store.disk).failures
failures-are medium old new calls goes = (store-goes medium old new calls goes).called.failures
    ∙ each-failed (rules_of old) (state-of old goes.one) calls (medium old.store.disk).failures
    (goes.plays (state-of old goes.one) (state-told old goes.one)).0
