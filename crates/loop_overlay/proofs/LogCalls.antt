-- What the calls of a log's disk do to it, and to a disk on which they are made.
use Rattle.std.proofs.Common.{◌≡◌, inl, inr, ⊎_elim, ℕ, ◌+◌, ◌<◌, ◌≤◌, List, [], ◌∷◌, ◌++◌, length, map, take, get_or, Result, Ok, Err, refl, sym, ◌∙◌, ap, subst, arith}
use Rattle.std.specs.Prelude.{OnOk, fold}
use Rattle.std.specs.Result.{IsErr}
use Rattle.std.specs.List.{All}
use Rattle.std.proofs.lemmas.List.{get_or-map, length-map, take-map, take_all}
use Rattle.std.proofs.lemmas.List.Elements.{All-head, All-tail}
use Rattle.std.proofs.lemmas.Result.{IfOk-from_err}
use Rattle.loop_disk.specs.declared.fault.DiskFault.{DiskFault}
use Rattle.loop_disk.specs.declared.fault.Failures.{Failures}
use Rattle.loop_disk.specs.declared.crash.DeviceCall.{DeviceCall}
use Rattle.loop_disk.specs.declared.crash.DeviceCall.TheVariants as call
use Rattle.loop_disk.specs.Medium.{IsFresh, IsSound, LeavesOnly, Medium, TornAt, with_bytes_at}
use Rattle.loop_disk.specs.Calls.{Writes, no_failures}
use Rattle.loop_disk.specs.History.{IsLeft, IsLeftSince, Moment, after_write, at_rest}
use Rattle.loop_disk.specs.Crashing.{IsWithin, Tape, after_call, call_of, medium_after, moment_after, moments_from}
use Rattle.loop_disk.specs.Replay.{IsRecorded}
use Rattle.loop_disk.proofs.Images.{length-written, untouched}
use Rattle.loop_disk.proofs.Calls.{leaves_torn}
use Rattle.loop_disk.proofs.Moments.{goes_on, started}
use Rattle.loop_disk.proofs.CrashCalls.{left-after, recorded-more, take-within, turned}
use Rattle.loop_overlay.specs.Layers.{laid_on}
use Rattle.loop_overlay.specs.Log.{Carries, CarriesOut, StandsAt}
use Rattle.loop_overlay.specs.Parts.{IsBufferOf}

-- a write that was refused is counted, and that is all
pub refused : (t later : Tape) (f : Failures) (at : ℕ) (v : List ℕ) (fault : DiskFault) (r : Result (Unit {0}) DiskFault)
    → r ≡ Err fault → later ≡ record t { failures = f }
    → Writes at v (medium_after t) (medium_after later) r
refused t later f at v fault r failed is =
    subst (λ (q : Result (Unit {0}) DiskFault). Writes at v (medium_after t) (medium_after later) q) (sym failed)
    (subst (λ (l : Tape). Writes {T = Unit {0}} at v (medium_after t) (medium_after l) (Err fault)) (sym is) (record {
      done = tt;
      elsewhere = untouched at (length v) (medium_after t).bytes;
      images = λ c left. (c, left, untouched at (length v) c);
      time = record { later = omega arith; nothing_else = λ s c le left. inl left };
      keeps = λ s c le left. left;
    }))

-- a call keeps the length
length-call : (m : Moment) (c : DeviceCall (List ℕ)) → IsWithin (length m.bytes) c
    → length (after_call m c).bytes ≡ length m.bytes
length-call m call.Read within = refl
length-call m (call.Write at v) within = length-written at v m.bytes within
length-call m call.Sync within = refl

-- one call more
pub noted : (start : List ℕ) (calls later : List (DeviceCall (List ℕ))) (c : DeviceCall (List ℕ))
    → later ≡ calls ++ c ∷ [] → IsWithin (length (moment_after start calls).bytes) c
    → IsRecorded start calls (moment_after start calls).bytes
    → IsRecorded start later (moment_after start later).bytes
noted start calls later c more within done =
    let m = moment_after start calls in
    let fits : IsWithin (length start) c = subst (λ (n : ℕ). IsWithin n c) done.size within in
    let it : IsRecorded start later (after_call m c).bytes =
    recorded-more start calls later m.bytes (after_call m c).bytes c more fits refl (length-call m c within ∙ done.size) done in
    subst (λ (l : List ℕ). IsRecorded start later l) it.whole it

-- a write more, as the disk's fields have it
pub noted_write : {V : Type 0} (t : Tape) (start : List ℕ) (calls : List (DeviceCall V)) (f : V → List ℕ)
    (later : List (DeviceCall (List ℕ))) (failures : Failures) (at : ℕ) (v : List ℕ)
    → record { start = start; calls = map (call_of f) calls; failures = failures } ≡ t
    → later ≡ map (call_of f) calls ++ call.Write at v ∷ []
    → at + length v ≤ length (moment_after t.start t.calls).bytes
    → IsRecorded start (map (call_of f) calls) (moment_after start (map (call_of f) calls)).bytes
    → IsRecorded start later (moment_after start later).bytes
noted_write t start calls f later failures at v seen more fits done =
    let same : length (moment_after t.start t.calls).bytes ≡ length (moment_after start (map (call_of f) calls)).bytes =
    ap (λ (tape : Tape). length (moment_after tape.start tape.calls).bytes) (sym seen) in
    noted start (map (call_of f) calls) later (call.Write at v) more (omega (arith, fits, same)) done

-- what a write lays over a part
pub laid_call : {V : Type 0} (f : V → List ℕ) (it : DeviceCall V) (from : ℕ) (w : V) (at : ℕ) (v old new : List ℕ)
    → it ≡ call.Write from w → v ≡ f w
    → ((image : List ℕ) → IsBufferOf at image old → IsBufferOf at (laid_on image (record { at = from; bytes = v })) new)
    → (m : Moment) → IsWithin (length m.bytes) (call_of f it) → IsBufferOf at m.bytes old
    → IsBufferOf at (after_call m (call_of f it)).bytes new
laid_call f it from w at v old new is same laid m within part =
    let fits : from + length (f w) ≤ length m.bytes = subst (λ (c : DeviceCall _). IsWithin (length m.bytes) (call_of f c)) is within in
    let it_is : laid_on m.bytes (record { at = from; bytes = v }) ≡ with_bytes_at from (f w) m.bytes =
    ap (λ (l : List ℕ). laid_on m.bytes (record { at = from; bytes = l })) same
    ∙ take_all (length m.bytes) (with_bytes_at from (f w) m.bytes) (omega (arith, length-written from (f w) m.bytes fits)) in
    subst (λ (c : DeviceCall _). IsBufferOf at (after_call m (call_of f c)).bytes new) (sym is)
    (subst (λ (l : List ℕ). IsBufferOf at l new) it_is (laid m.bytes part))

-- the length after calls
length-fold : (m : Moment) (calls : List (DeviceCall (List ℕ))) → All (IsWithin (length m.bytes)) calls
    → length (fold after_call m calls).bytes ≡ length m.bytes
length-fold m [] within = refl
length-fold m (c ∷ calls) within =
    let same : length (after_call m c).bytes ≡ length m.bytes =
    length-call m c (All-head (IsWithin (length m.bytes)) c calls within) in
    length-fold (after_call m c) calls
    (subst (λ (n : ℕ). All (IsWithin n) calls) (sym same) (All-tail (IsWithin (length m.bytes)) c calls within)) ∙ same

pub length-moment : {V : Type 0} (f : V → List ℕ) (start : List ℕ) (calls : List (DeviceCall V)) (k : ℕ)
    → All (IsWithin (length start)) (map (call_of f) calls)
    → length (moment_after start (map (call_of f) (take k calls))).bytes ≡ length start
length-moment f start calls k within =
    length-fold (at_rest start) (map (call_of f) (take k calls))
    (take-within f k (length start) start calls calls refl refl within)

-- since the beginning
since_first : (moments : List Moment) (t : ℕ) (c : List ℕ) → IsLeftSince moments t c → IsLeftSince moments 0 c
since_first [] t c left = left
since_first (m ∷ earlier) t c (inl here) = inl (omega arith, here.1)
since_first (m ∷ earlier) t c (inr before) = inr (since_first earlier t c before)

-- the calls that are carried out, and what a crash of the log's disk might have left
abbrev pub tape_of : List ℕ → List (DeviceCall (List ℕ)) → Tape
tape_of start calls = record { start = start; calls = calls; failures = no_failures }

pub left_of : {V : Type 0} (f : V → List ℕ) (start : List ℕ) (calls : List (DeviceCall V)) (n : ℕ) (c : List ℕ)
    → n ≤ length calls
    → IsLeft (moment_after start (map (call_of f) (take n calls))) c
    → (medium_after (tape_of start (map (call_of f) calls))).left_since 0 c
left_of f start calls n c few left =
    let all = map (call_of f) calls in
    let here : IsLeft (moment_after start (take n all)) c =
    subst (λ (l : List (DeviceCall (List ℕ))). IsLeft (moment_after start l) c) (sym (take-map (call_of f) n calls)) left in
    since_first (moment_after start all ∷ moments_from (at_rest start) [] all) n c
    (left-after (tape_of start all) n c (omega (arith, few, length-map calls (call_of f))) here)

-- a call on a disk that stands at a moment
pub carried_write : (m : Moment) (at : ℕ) (v : List ℕ) (old new : Medium) (r : Result (Unit {0}) DiskFault)
    → at + length v ≤ length m.bytes → StandsAt m old → Writes at v old new r
    → Carries m (call.Write at v) old new r
carried_write m at v old new r fits stands wrote =
    let torn : (c : List ℕ) → TornAt at (length v) old c → IsLeft (after_write at v m) c = λ c t.
    leaves_torn no_failures m [] v at fits c (t.0, stands.images t.0 t.1, t.2) in record {
      time = record {
        later = wrote.time.later;
        nothing_else = λ s c le left. ⊎_elim inl (λ (t : TornAt at (length v) old c). inr (inr (torn c t)))
            (wrote.time.nothing_else s c le left);
      };
      done = by_result r wrote torn;
    }
  where
    by_result : (r : Result (Unit {0}) DiskFault) → Writes at v old new r
        → ((c : List ℕ) → TornAt at (length v) old c → IsLeft (after_write at v m) c)
        → OnOk r (StandsAt (after_write at v m) new)
    by_result (Ok x) wrote torn = record {
      bytes = wrote.done ∙ ap (λ (l : List ℕ). with_bytes_at at v l) stands.bytes;
      images = λ c left. torn c (wrote.images c left);
    }
    by_result (Err x) wrote torn = tt

-- the same of a call as it is written down
pub carried_written : {V : Type 0} (f : V → List ℕ) (m : Moment) (it : DeviceCall V) (at : ℕ) (w : V) (v : List ℕ)
    (old new : Medium) (r : Result (Unit {0}) DiskFault) → it ≡ call.Write at w → v ≡ f w → StandsAt m old
    → IsWithin (length m.bytes) (call_of f it) → Writes at v old new r → Carries m (call_of f it) old new r
carried_written f m it at w v old new r is same stands within wrote =
    let fits : at + length (f w) ≤ length m.bytes =
    subst (λ (c : DeviceCall _). IsWithin (length m.bytes) (call_of f c)) is within in
    subst (λ (c : DeviceCall _). Carries m (call_of f c) old new r) (sym is)
    (subst (λ (l : List ℕ). Carries m (call.Write at l) old new r) same
    (carried_write m at v old new r (subst (λ (l : List ℕ). at + length l ≤ length m.bytes) (sym same) fits) stands wrote))

-- before the first call
pub carried_none : {V : Type 0} (f : V → List ℕ) (start : List ℕ) (calls : List (DeviceCall V)) (old : Medium)
    → IsFresh start old → IsSound old
    → StandsAt (at_rest start) old
    × LeavesOnly old old ((medium_after (tape_of start (map (call_of f) calls))).left_since 0)
carried_none f start calls old fresh sound =
    let rest : IsLeft (at_rest start) start = record { size = refl; kept = λ i fixed. refl } in
    let first : (c : List ℕ) → old.may_leave c → IsLeft (at_rest start) c = λ c left.
    subst (λ (l : List ℕ). IsLeft (at_rest start) l) (sym (fresh.settled c left)) rest in (
      record { bytes = fresh.bytes; images = first },
      started old _ sound (λ c left. left_of f start calls 0 c (omega arith) (first c left)),
    )

-- one more
pub carried_on : {V : Type 0} (f : V → List ℕ) (start : List ℕ) (calls : List (DeviceCall V)) (k : ℕ) (it : DeviceCall V)
    (old mid new : Medium) (r : Result (Unit {0}) DiskFault) → k < length calls
    → after_call (moment_after start (map (call_of f) (take k calls))) (call_of f it)
    ≡ moment_after start (map (call_of f) (take (k + 1) calls))
    → LeavesOnly old mid ((medium_after (tape_of start (map (call_of f) calls))).left_since 0)
    → Carries (moment_after start (map (call_of f) (take k calls))) (call_of f it) mid new r
    → LeavesOnly old new ((medium_after (tape_of start (map (call_of f) calls))).left_since 0)
carried_on f start calls k it old mid new r few next so_far one =
    let m = moment_after start (map (call_of f) (take k calls)) in
    goes_on old mid new _ _ so_far one.time (λ c during. ⊎_elim
    (λ (here : IsLeft m c). left_of f start calls k c (omega (arith, few)) here)
    (λ (there : IsLeft (after_call m (call_of f it)) c). left_of f start calls (k + 1) c (omega (arith, few))
    (subst (λ (n : Moment). IsLeft n c) next there))
    during)

-- the call of one turn lies on the disk
pub within_disk : {V : Type 0} (f : V → List ℕ) (size now : ℕ) (calls : List (DeviceCall V)) (k : ℕ) (it : DeviceCall V)
    → now ≡ size → k < length calls → it ≡ get_or calls k it → All (IsWithin size) (map (call_of f) calls)
    → IsWithin now (call_of f it)
within_disk f size now calls k it same lt is all =
    let here : IsWithin size (get_or (map (call_of f) calls) k (call_of f it)) =
    all k (call_of f it) (omega (arith, lt, length-map calls (call_of f))) in
    subst (λ (n : ℕ). IsWithin n (call_of f it)) (sym same)
    (subst (λ (c : DeviceCall (List ℕ)). IsWithin size c) (get_or-map (call_of f) calls k it (call_of f it) lt
    ∙ ap (call_of f) (sym is)) here)

-- one turn
pub carried_step : {V : Type 0} (f : V → List ℕ) (start : List ℕ) (calls : List (DeviceCall V)) (k : ℕ)
    (it : DeviceCall V) (old mid new : Medium) (r : Result (Unit {0}) DiskFault)
    → IsSound old → IsFresh start old → All (IsWithin old.size) (map (call_of f) calls)
    → k < length calls → it ≡ get_or calls k it
    → StandsAt (moment_after start (map (call_of f) (take k calls))) mid
    × LeavesOnly old mid ((medium_after (tape_of start (map (call_of f) calls))).left_since 0)
    → ((m : Moment) → StandsAt m mid → IsWithin (length m.bytes) (call_of f it) → Carries m (call_of f it) mid new r)
    → OnOk r (StandsAt (moment_after start (map (call_of f) (take (k + 1) calls))) new)
    × LeavesOnly old new ((medium_after (tape_of start (map (call_of f) calls))).left_since 0)
carried_step f start calls k it old mid new r sound fresh within lt is so_far call =
    let m = moment_after start (map (call_of f) (take k calls)) in
    let size : old.size ≡ length start = sym sound.length_is ∙ ap (λ (l : List ℕ). length l) fresh.bytes in
    let all : All (IsWithin (length start)) (map (call_of f) calls) =
    subst (λ (n : ℕ). All (IsWithin n) (map (call_of f) calls)) size within in
    let inside : IsWithin (length m.bytes) (call_of f it) =
    within_disk f (length start) (length m.bytes) calls k it (length-moment f start calls k all) lt is all in
    let one : Carries m (call_of f it) mid new r = call m so_far.0 inside in
    let next : after_call m (call_of f it) ≡ moment_after start (map (call_of f) (take (k + 1) calls)) = turned f start calls k it lt is in (
      subst (λ (n : Moment). OnOk r (StandsAt n new)) next one.done,
      carried_on f start calls k it old mid new r lt next so_far.1 one,
    )

pub carried_failed : (log old new : Medium) (r : Result (Unit {0}) DiskFault) → IsErr r
    → LeavesOnly old new (log.left_since 0) → CarriesOut log old new r
carried_failed log old new r failed moments = record {
  moments = moments;
  done = IfOk-from_err r (λ x. new.bytes ≡ log.bytes) failed;
  images = IfOk-from_err r (λ x. (c : List ℕ) → new.may_leave c → log.may_leave c) failed;
}

pub carried_all : {V : Type 0} (f : V → List ℕ) (start : List ℕ) (calls : List (DeviceCall V)) (k : ℕ)
    (old new : Medium) → length calls ≤ k
    → StandsAt (moment_after start (map (call_of f) (take k calls))) new
    × LeavesOnly old new ((medium_after (tape_of start (map (call_of f) calls))).left_since 0)
    → CarriesOut {T = Unit {0}} (medium_after (tape_of start (map (call_of f) calls))) old new (Ok tt)
carried_all f start calls k old new all done =
    let here : StandsAt (moment_after start (map (call_of f) calls)) new =
    subst (λ (l : List (DeviceCall _)). StandsAt (moment_after start (map (call_of f) l)) new) (take_all k calls all) done.0 in record {
      moments = done.1;
      done = here.bytes;
      images = here.images;
    }
