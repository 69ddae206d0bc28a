-- What a crash disk remembers, and its calls made again.
use Rattle.std.proofs.Common.{◌≡◌, ◌⊎◌, inl, inr, ⊎_elim, ℕ, ◌+◌, ◌-◌, ◌<◌, ◌≤◌, None, suc, Bool, ◌||◌, true, false, List, [], ◌∷◌, ◌++◌, length, map, take, drop, get_or, Ok, refl, sym, ◌∙◌, ap, subst, arith}
use Rattle.std.specs.Prelude.{fold, slice_index_or}
use Rattle.std.specs.List.{All}
use Rattle.std.proofs.lemmas.List.{map-append, take-append-drop, length-take, length-map, get_or-map, take-map}
use Rattle.std.proofs.lemmas.List.Sums.{fold-append}
use Rattle.std.proofs.lemmas.List.Elements.{All-append, All-take}
use Rattle.std.proofs.Math.Seq.{take-suc}
use Rattle.loop_disk.specs.declared.fault.Failures.{Failures}
use Rattle.loop_disk.specs.declared.crash.DeviceCall.{DeviceCall}
use Rattle.loop_disk.specs.declared.crash.DeviceCall.TheVariants as call
use Rattle.loop_disk.specs.declared.crash.Spoil.{Spoil}
use Rattle.loop_disk.specs.declared.crash.Spoil.TheVariants as spoil
use Rattle.loop_disk.specs.Medium.{LeavesEachTorn, Medium, with_bytes_at}
use Rattle.loop_disk.specs.Calls.{Called, Stays, Writes, Syncs}
use Rattle.loop_disk.specs.History.{Moment, at_rest, after_write, is_within, is_loose, IsLeft, IsLeftSince, medium_of}
use Rattle.loop_disk.specs.Crashing.{Tape, call_of, after_call, moment_after, moments_from, medium_after, IsWithin, IsSpoiled, spoiled_byte}
use Rattle.loop_disk.specs.Replay.{IsRecorded, IsReplayed, PutsSpoiled}
use Rattle.std.proofs.lemmas.Bool.{cases_lt, or_parts}
use Rattle.loop_disk.proofs.Images.{length-written, get_or-written_there}
use Rattle.loop_disk.proofs.Calls.{leaves_torn, looks, writes, syncs, outside_of, within_not, kept_outside}

moments-more : (m : Moment) (earlier : List Moment) (calls : List (DeviceCall (List ℕ))) (c : DeviceCall (List ℕ))
    → moments_from m earlier (calls ++ c ∷ []) ≡ fold after_call m calls ∷ moments_from m earlier calls
moments-more m earlier [] c = refl
moments-more m earlier (x ∷ calls) c = moments-more (after_call m x) (m ∷ earlier) calls c

after-more : (start : List ℕ) (calls : List (DeviceCall (List ℕ))) (c : DeviceCall (List ℕ))
    → moment_after start (calls ++ c ∷ []) ≡ after_call (moment_after start calls) c
after-more start calls c = fold-append after_call (at_rest start) calls (c ∷ [])

-- one call more
medium-more : (t later : Tape) (c : DeviceCall (List ℕ)) → later ≡ record t { calls = t.calls ++ c ∷ [] }
    → medium_after later ≡ medium_of t.failures (after_call (moment_after t.start t.calls) c)
    (moment_after t.start t.calls ∷ moments_from (at_rest t.start) [] t.calls)
medium-more t later c more =
    ap medium_after more ∙ (λ i. medium_of t.failures (after-more t.start t.calls c i) (moments-more (at_rest t.start) [] t.calls c i))

-- what a call of the record keeps
all-one : {X : Type 0} (P : X → Type 0) (x : X) → P x → All P (x ∷ [])
all-one {X} P x is k d within = subst (λ (i : ℕ). P (slice_index_or (x ∷ []) i d)) (sym first) is
  where
    first : k ≡ 0
    first = omega (arith, within)

pub recorded-more : (start : List ℕ) (calls later : List (DeviceCall (List ℕ))) (bytes next : List ℕ)
    (c : DeviceCall (List ℕ)) → later ≡ calls ++ c ∷ []
    → IsWithin (length start) c → next ≡ (after_call (moment_after start calls) c).bytes → length next ≡ length start
    → IsRecorded start calls bytes → IsRecorded start later next
recorded-more start calls later bytes next c more fits is size done = record {
  whole = is ∙ ap (λ (m : Moment). m.bytes) (sym (after-more start calls c)) ∙ ap (λ (l : List (DeviceCall (List ℕ))). (moment_after start l).bytes) (sym more);
  size = size;
  within = subst (λ (l : List (DeviceCall (List ℕ))). All (IsWithin (length start)) l) (sym more)
      (All-append (IsWithin (length start)) calls (c ∷ []) done.within (all-one (IsWithin (length start)) c fits));
}

-- what is seen of the fields, with one more call
pub view-more : {V : Type 0} (f : V → List ℕ) (t : Tape) (start : List ℕ) (calls : List (DeviceCall V))
    (later : List (DeviceCall (List ℕ))) (failures : Failures) (c : DeviceCall (List ℕ))
    → record { start = start; calls = map (call_of f) calls; failures = failures } ≡ t → later ≡ map (call_of f) calls ++ c ∷ []
    → record { start = start; calls = later; failures = failures } ≡ record t { calls = t.calls ++ c ∷ [] }
view-more f t start calls later failures c seen more =
    ap (λ (l : List (DeviceCall (List ℕ))). record { start = start; calls = l; failures = failures }) more
    ∙ ap (λ (tape : Tape). record tape { calls = tape.calls ++ c ∷ [] }) seen

-- a write, as the disk's fields have it
pub written-recorded : {V : Type 0} (t : Tape) (start : List ℕ) (calls : List (DeviceCall V)) (f : V → List ℕ)
    (later : List (DeviceCall (List ℕ))) (bytes next : List ℕ) (failures : Failures) (at : ℕ) (v : List ℕ)
    → record { start = start; calls = map (call_of f) calls; failures = failures } ≡ t → later ≡ map (call_of f) calls
    ++ call.Write at v ∷ [] → next ≡ with_bytes_at at v bytes
    → at + length v ≤ length (moment_after t.start t.calls).bytes → IsRecorded start (map (call_of f) calls) bytes → IsRecorded start later next
written-recorded t start calls f later bytes next failures at v seen more is fits done =
    let same : length (moment_after t.start t.calls).bytes ≡ length bytes =
    ap (λ (tape : Tape). length (moment_after tape.start tape.calls).bytes) (sym seen)
    ∙ ap (λ (l : List ℕ). length l) (sym done.whole) in
    let room : at + length v ≤ length bytes = omega (arith, fits, same) in
    recorded-more start (map (call_of f) calls) later bytes next (call.Write at v) more (omega (arith, room, done.size))
    (is ∙ ap (λ (l : List ℕ). with_bytes_at at v l) done.whole) (ap (λ (l : List ℕ). length l) is ∙ length-written at v bytes room ∙ done.size) done

pub looked : (t later : Tape) → later ≡ record t { calls = t.calls ++ call.Read ∷ [] } → Stays (medium_after t) (medium_after later)
looked t later more =
    subst (λ (m : Medium). Stays (medium_after t) m) (sym (medium-more t later call.Read more))
    (looks t.failures (moment_after t.start t.calls) (moments_from (at_rest t.start) [] t.calls))

pub looked-called : (t later : Tape) → later ≡ record t { calls = t.calls ++ call.Read ∷ [] } → Called (medium_after t) (medium_after later) None
looked-called t later more =
    subst (λ (m : Medium). Called (medium_after t) m None) (sym (medium-more t later call.Read more))
    (record { size = refl; honest = (λ honest. honest, λ honest. honest); failures = refl })

pub wrote : (t later : Tape) (at : ℕ) (v : List ℕ) → at + length v ≤ length (moment_after t.start t.calls).bytes
    → later ≡ record t { calls = t.calls ++ call.Write at v ∷ [] }
    → Writes {T = Unit {0}} at v (medium_after t) (medium_after later) (Ok tt)
wrote t later at v fits more =
    subst (λ (m : Medium). Writes {T = Unit {0}} at v (medium_after t) m (Ok tt)) (sym (medium-more t later (call.Write at v) more))
    (writes t.failures (moment_after t.start t.calls) (moments_from (at_rest t.start) [] t.calls) v at fits)

-- a crash may leave any bytes in the range
pub wrote-each : (t later : Tape) (at : ℕ) (v : List ℕ) → at + length v ≤ length (moment_after t.start t.calls).bytes
    → later ≡ record t { calls = t.calls ++ call.Write at v ∷ [] } → LeavesEachTorn at (length v) (medium_after t)
    (medium_after later)
wrote-each t later at v fits more =
    subst (λ (m : Medium). LeavesEachTorn at (length v) (medium_after t) m) (sym (medium-more t later (call.Write at v) more))
    (leaves_torn t.failures (moment_after t.start t.calls) (moments_from (at_rest t.start) [] t.calls) v at fits)

pub synced : (t later : Tape) → later ≡ record t { calls = t.calls ++ call.Sync ∷ [] } → Syncs {T = Unit {0}} (medium_after t) (medium_after later) (Ok tt)
synced t later more =
    subst (λ (m : Medium). Syncs {T = Unit {0}} (medium_after t) m (Ok tt)) (sym (medium-more t later call.Sync more))
    (syncs t.failures (moment_after t.start t.calls) (moments_from (at_rest t.start) [] t.calls))

-- an image of a moment is one of those since then
left-on : (m : Moment) (earlier : List Moment) (calls : List (DeviceCall (List ℕ))) (t : ℕ) (image : List ℕ)
    → IsLeftSince (m ∷ earlier) t image → IsLeftSince (fold after_call m calls ∷ moments_from m earlier calls) t image
left-on m earlier [] t image left = left
left-on m earlier (c ∷ calls) t image left = left-on (after_call m c) (m ∷ earlier) calls t image (inr left)

left-in : (m : Moment) (earlier : List Moment) (before later : List (DeviceCall (List ℕ))) (t : ℕ) (image : List ℕ)
    → t ≡ length earlier + length before
    → IsLeft (fold after_call m before) image → IsLeftSince (fold after_call m (before ++ later) ∷ moments_from m earlier (before ++ later)) t image
left-in m earlier [] later t image is left = left-on m earlier later t image (inl (omega (arith, is), left))
left-in m earlier (c ∷ before) later t image is left = left-in (after_call m c) (m ∷ earlier) before later t image (omega (arith, is)) left

pub left-after : (t : Tape) (n : ℕ) (image : List ℕ) → n ≤ length t.calls
    → IsLeft (moment_after t.start (take n t.calls)) image → (medium_after t).left_since n image
left-after t n image fits left =
    let all : take n t.calls ++ drop n t.calls ≡ t.calls = take-append-drop n t.calls in
    subst (λ (calls : List (DeviceCall (List ℕ))). IsLeftSince (moment_after t.start calls ∷ moments_from (at_rest t.start) [] calls) n image) all
    (left-in (at_rest t.start) [] (take n t.calls) (drop n t.calls) n image (omega (arith, length-take n t.calls, fits)) left)

-- an image that is replayed with the old bytes holds them everywhere
old-there : (m : Moment) (bytes image : List ℕ) (i : ℕ) → IsReplayed spoil.Old m bytes image → i < length image
    → get_or image i 0 ≡ get_or m.settled i 0
old-there m bytes image i done within = by_loose (is_loose m.loose i) refl
  where
    by_loose : (b : Bool) → is_loose m.loose i ≡ b → get_or image i 0 ≡ get_or m.settled i 0
    by_loose true is = done.spoilt.loose i within is
    by_loose false is = done.spoilt.left.kept i is ∙ done.steady i is

or_skips : (a b : Bool) → a ≡ false → (a || b) ≡ true → b ≡ true
or_skips a b out is = sym (ap (λ (x : Bool). x || b) out) ∙ is

-- what a crash leaves of a byte doesn't depend on what was in its place before
spoils-alike : (s : Spoil) (m : Moment) (bytes image : List ℕ) (i present : ℕ) → IsReplayed s m bytes image
    → i < length image
    → spoiled_byte s i (get_or image i 0) present ≡ spoiled_byte s i (get_or m.settled i 0) present
spoils-alike spoil.Keep m bytes image i present done within = refl
spoils-alike spoil.Old m bytes image i present done within = old-there m bytes image i done within
spoils-alike spoil.Zero m bytes image i present done within = refl
spoils-alike spoil.Ones m bytes image i present done within = refl
spoils-alike spoil.Gate m bytes image i present done within = refl
spoils-alike (spoil.Mix k) m bytes image i present done within = refl

module _ (s : Spoil) (m : Moment) (bytes image later v : List ℕ) (at : ℕ) (fits : at + length v ≤ length bytes)
    (done : IsReplayed s m bytes image) (put : PutsSpoiled s at v image later) where
  room : at + length v ≤ length m.bytes
  room = omega (arith, fits, ap (λ (l : List ℕ). length l) done.whole)

  still : (i : ℕ) → (i < at) ⊎ (at + length v ≤ i) → get_or later i 0 ≡ get_or image i 0
  still i (inl below) = put.outside.before i below
  still i (inr above) = put.outside.behind i above

  wrote-kept : (i : ℕ) → is_loose (after_write at v m).loose i ≡ false
      → get_or later i 0 ≡ get_or (with_bytes_at at v m.bytes) i 0
  wrote-kept i fixed =
      let parts = or_parts (is_within at (length v) i) (is_loose m.loose i) fixed in
      let out = outside_of at (length v) i parts.0 in
      still i out ∙ done.spoilt.left.kept i parts.1 ∙ sym (kept_outside at v m.bytes i room out)

  wrote-steady : (i : ℕ) → is_loose (after_write at v m).loose i ≡ false
      → get_or (with_bytes_at at v m.bytes) i 0 ≡ get_or m.settled i 0
  wrote-steady i fixed =
      let parts = or_parts (is_within at (length v) i) (is_loose m.loose i) fixed in
      kept_outside at v m.bytes i room (outside_of at (length v) i parts.0) ∙ done.steady i parts.1

  there-loose : (i : ℕ) → at ≤ i → i < at + length v → get_or later i 0 ≡ spoiled_byte s i (get_or m.settled i 0)
      (get_or (with_bytes_at at v m.bytes) i 0)
  there-loose i from inside =
      let k = i - at in
      let place : at + k ≡ i = omega (arith, from) in
      let same : get_or (with_bytes_at at v m.bytes) (at + k) 0 ≡ get_or v k 0 = get_or-written_there at v m.bytes k
      (omega (arith, room)) (omega (arith, from, inside)) in
      subst (λ (j : ℕ). get_or later j 0 ≡ spoiled_byte s j (get_or m.settled j 0) (get_or (with_bytes_at at v m.bytes) j 0)) place
      (put.there k (omega (arith, from, inside))
      ∙ spoils-alike s m bytes image (at + k) (get_or v k 0) done
      (omega (arith, from, inside, fits, ap (λ (l : List ℕ). length l) done.whole, done.spoilt.left.size))
      ∙ ap (λ (b : ℕ). spoiled_byte s (at + k) (get_or m.settled (at + k) 0) b) (sym same))

  else-loose : (i : ℕ) → (i < at) ⊎ (at + length v ≤ i) → i < length later
      → is_loose (after_write at v m).loose i ≡ true → get_or later i 0 ≡ spoiled_byte s i (get_or m.settled i 0)
      (get_or (with_bytes_at at v m.bytes) i 0)
  else-loose i out within loose =
      let before : is_loose m.loose i ≡ true = or_skips (is_within at (length v) i) (is_loose m.loose i) (within_not at (length v) i out) loose in
      still i out ∙ done.spoilt.loose i (omega (arith, within, put.outside.size)) before
      ∙ ap (λ (b : ℕ). spoiled_byte s i (get_or m.settled i 0) b) (sym (kept_outside at v m.bytes i room out))

  wrote-loose : (i : ℕ) → i < length later → is_loose (after_write at v m).loose i ≡ true
      → get_or later i 0 ≡ spoiled_byte s i (get_or m.settled i 0) (get_or (with_bytes_at at v m.bytes) i 0)
  wrote-loose i within loose =
      ⊎_elim
      (λ (below : i < at). else-loose i (inl below) within loose)
      (λ (from : at ≤ i).
      ⊎_elim
      (λ (inside : i < at + length v). there-loose i from inside)
      (λ (above : at + length v ≤ i). else-loose i (inr above) within loose)
      (cases_lt i (at + length v)))
      (cases_lt i at)

  pub replay-writes : IsReplayed s (after_write at v m) (with_bytes_at at v bytes) later
  replay-writes = record {
    whole = ap (λ (l : List ℕ). with_bytes_at at v l) done.whole;
    spoilt = record {
      left = record { size = put.outside.size ∙ done.spoilt.left.size ∙ sym (length-written at v m.bytes room); kept = wrote-kept };
      loose = wrote-loose;
    };
    size = done.size ∙ sym (length-written at v m.bytes room);
    steady = wrote-steady;
  }

-- the same, of a write as it is remembered
pub replay-wrote : {V : Type 0} (f : V → List ℕ) (s : Spoil) (m : Moment) (bytes image next later v u : List ℕ)
    (it : DeviceCall V) (at : ℕ) (w : V) → it ≡ call.Write at w
    → v ≡ f w → u ≡ f w → next ≡ with_bytes_at at v bytes → PutsSpoiled s at u image later → IsWithin (length bytes) (call_of f it) → IsReplayed s m bytes image
    → IsReplayed s (after_call m (call_of f it)) next later
replay-wrote f s m bytes image next later v u it at w is same_v same_u whole put within done =
    let fits : at + length (f w) ≤ length bytes = subst (λ (c : DeviceCall _). IsWithin (length bytes) (call_of f c)) is within in
    let there : PutsSpoiled s at (f w) image later = subst (λ (l : List ℕ). PutsSpoiled s at l image later) same_u put in
    let all : next ≡ with_bytes_at at (f w) bytes = whole ∙ ap (λ (l : List ℕ). with_bytes_at at l bytes) same_v in
    subst (λ (c : DeviceCall _). IsReplayed s (after_call m (call_of f c)) next later) (sym is)
    (subst (λ (l : List ℕ). IsReplayed s (after_write at (f w) m) l later) (sym all) (replay-writes s m bytes image later (f w) at fits done there))

-- the call of one turn of the loop
pub within-at : {V : Type 0} (f : V → List ℕ) (size : ℕ) (bytes : List ℕ) (calls : List (DeviceCall V)) (k : ℕ)
    (it : DeviceCall V) → length bytes ≡ size → k < length calls
    → it ≡ get_or calls k it → All (IsWithin size) (map (call_of f) calls) → IsWithin (length bytes) (call_of f it)
within-at f size bytes calls k it same lt is all =
    let here : IsWithin size (get_or (map (call_of f) calls) k (call_of f it)) = all k (call_of f it) (omega (arith, lt, length-map calls (call_of f))) in
    subst (λ (n : ℕ). IsWithin n (call_of f it)) (sym same)
    (subst (λ (c : DeviceCall (List ℕ)). IsWithin size c) (get_or-map (call_of f) calls k it (call_of f it) lt ∙ ap (call_of f) (sym is)) here)

pub turned : {V : Type 0} (f : V → List ℕ) (start : List ℕ) (calls : List (DeviceCall V)) (k : ℕ) (it : DeviceCall V)
    → k < length calls → it ≡ get_or calls k it
    → after_call (moment_after start (map (call_of f) (take k calls))) (call_of f it) ≡ moment_after start (map (call_of f) (take (k + 1) calls))
turned f start calls k it lt is =
    let next : k + 1 ≡ suc k = omega arith in
    let taken : take (k + 1) calls ≡ take k calls ++ it ∷ [] = ap (λ (n : ℕ). take n calls) next
    ∙ take-suc calls k it lt ∙ ap (λ (x : DeviceCall _). take k calls ++ x ∷ []) (sym is) in
    sym (ap (λ (l : List (DeviceCall _)). moment_after start (map (call_of f) l)) taken
    ∙ ap (moment_after start) (map-append (call_of f) (take k calls) (it ∷ []))
    ∙ after-more start (map (call_of f) (take k calls)) (call_of f it))

-- the first calls of a record
pub take-within : {V : Type 0} (f : V → List ℕ) (n size : ℕ) (bytes : List ℕ) (calls seen : List (DeviceCall V))
    → length bytes ≡ size → seen ≡ calls
    → All (IsWithin size) (map (call_of f) calls) → All (IsWithin (length bytes)) (map (call_of f) (take n seen))
take-within f n size bytes calls seen same is all =
    let first : All (IsWithin size) (map (call_of f) (take n calls)) =
    subst (λ (l : List (DeviceCall (List ℕ))). All (IsWithin size) l) (take-map (call_of f) n calls) (All-take (IsWithin size) n (map (call_of f) calls) all) in
    subst (λ (k : ℕ). All (IsWithin k) (map (call_of f) (take n seen))) (sym same)
    (subst (λ (l : List (DeviceCall _)). All (IsWithin size) (map (call_of f) (take n l))) (sym is) first)

-- a disk that is made of what the calls leave
pub crashed : {V : Type 0} (f : V → List ℕ) (s : Spoil) (n : ℕ) (t : Tape) (start : List ℕ)
    (calls seen : List (DeviceCall V)) (failures : Failures) (bytes image out : List ℕ)
    → record { start = start; calls = map (call_of f) calls; failures = failures } ≡ t → bytes ≡ start → seen ≡ calls → out ≡ image
    → IsSpoiled s (moment_after bytes (map (call_of f) (take n seen))) image → IsSpoiled s (moment_after t.start (take n t.calls)) out
crashed f s n t start calls seen failures bytes image out view same is held spoilt =
    let there : moment_after bytes (map (call_of f) (take n seen)) ≡ moment_after start
    (map (call_of f) (take n calls)) = λ i. moment_after (same i) (map (call_of f) (take n (is i))) in
    let moment : moment_after bytes (map (call_of f) (take n seen)) ≡ moment_after t.start (take n t.calls) =
    there ∙ ap (moment_after start) (sym (take-map (call_of f) n calls)) ∙ ap (λ (tape : Tape). moment_after tape.start (take n tape.calls)) view in
    subst (λ (l : List ℕ). IsSpoiled s (moment_after t.start (take n t.calls)) l) (sym held) (subst (λ (m : Moment). IsSpoiled s m image) moment spoilt)
