-- Nothing in the model of a desk looks at pixels.
use Rattle.std.proofs.Common.{◌≡◌, ℕ, ◌+◌, ◌-◌, ◌%◌, Bool, true, false, not, min, if◌then◌else◌, is_some, Option, Some, None, Result, Ok, Err, List, [], ◌∷◌, length, take, map, refl, sym, ap, ◌∙◌, subst, max}
use Rattle.std.proofs.lemmas.List.{drop-map, length-map, map-append, take-map}
use Rattle.std.specs.Prelude.{◌==◌, ◌&&◌, ◌||◌, nat_eq, nat_lt}
use Rattle.std.specs.List.{dedup, filter, find, range_with_len}
use Rattle.std.specs.Option.{option_map}
use Rattle.loop_clips.specs.Table.{clip_list}
use Rattle.loop_disk.specs.Medium.{Medium}
use Rattle.loop_record.specs.declared.geometry.Geometry.{Geometry}
use Rattle.loop_record.specs.declared.times.Times.{Times}
use Rattle.loop_record.specs.Times.{AreRuns, is_in}
use Rattle.loop_record.specs.Geometry.{frame_bytes}
use Rattle.loop_record.specs.Layout.{has_tag_place}
use Rattle.loop_record.specs.Recording.{Picture, Recording, Ring, Step, after_step as stepped, block, frame_under, holds, is_locked, last_number, lock, needs_recycling, plain, recycle, recycling_first, ring_of, steps, store, unlock, victim}
use Rattle.loop_store.specs.declared.fault.StoreFault.{StoreFault}
use Rattle.loop_store.specs.Calls.{AnswersDue, AreAnswered, Call, IsAnswered, AnswersOtherwise, StoreState, after_store_call as stored, after_calls, appended, checks, due, fault_answered, first_of, locked, made_by, steps_of, unlocked, upgraded, version_after, was_read, was_read_part, sought}
use Rattle.loop_desk.specs.declared.limits.Flushed.{Flushed}
use Rattle.loop_desk.specs.declared.limits.Outline.{Outline}
use Rattle.loop_desk.specs.Bare.{IsBlind, IsOutlineOf, bare, bare_call, bare_frame, bare_read, bare_recording, bare_state, bare_store}
use Rattle.loop_desk.specs.Desk.{AreDeskAnswers, DeskCall, DeskState, IsDeskAnswer, IsDeskTold, IsFlush, Rules, append_of, clip_locked, clip_unlocked, desk_after, desk_after_calls, flushed, frame_read, group_of, layout_upgraded, pending_after, status_told, store_calls, run_told, submitted}
use Rattle.loop_desk.specs.Seen.{SeenDesk, DeskStands, TellsOutline}
use Rattle.loop_record.proofs.Blocks.{blocks-made}
use Rattle.loop_record.proofs.Names.{free_id, stores_after, blocks_of, with_block}
use Rattle.loop_store.proofs.Names.{lacks_victim, steps_asked, has_failed, if_answered, steps_or_none}

abbrev bare_step : Step → Step
bare_step (store p) = store (bare p)
bare_step (recycle b) = recycle b
bare_step (lock span) = lock span
bare_step (unlock id) = unlock id

abbrev bare_part : Result (List ℕ) StoreFault → Result (List ℕ) StoreFault
bare_part (Ok bytes) = Ok []
bare_part (Err fault) = Err fault

-- a call of the store
abbrev bare_stored : Call → Call
bare_stored (appended group result) = appended (map bare group) result
bare_stored (locked span result) = locked span result
bare_stored (unlocked id result) = unlocked id result
bare_stored (was_read number result) = was_read number (bare_read result)
bare_stored (was_read_part number at result) = was_read_part number at (bare_part result)
bare_stored (upgraded result) = upgraded result
bare_stored (sought times result) = sought times result

-- ---- the recording

blocks-bare : (ring : Ring) (fs : List (ℕ × Picture)) → blocks_of ring (map bare_frame fs) ≡ blocks_of ring fs
blocks-bare ring [] = refl
blocks-bare ring (f ∷ fs) = ap (with_block (block ring f.0)) (blocks-bare ring fs)

held-bare : (ring : Ring) (fs : List (ℕ × Picture))
    → dedup nat_eq (map (λ f. block ring f.0) (map bare_frame fs)) ≡ dedup nat_eq (map (λ f. block ring f.0) fs)
held-bare ring fs = blocks-made ring (map bare_frame fs) ∙ blocks-bare ring fs ∙ sym (blocks-made ring fs)

under-bare : (fs : List (ℕ × Picture)) (number : ℕ) → frame_under (map bare_frame fs) number ≡ option_map bare
    (frame_under fs number)
under-bare [] number = refl
under-bare (f ∷ fs) number = go (f.0 == number) (under-bare fs number)
  where
    go : (b : Bool) → frame_under (map bare_frame fs) number ≡ option_map bare (frame_under fs number)
        → (if b then Some (bare f.1) else frame_under (map bare_frame fs) number) ≡ option_map bare
        (if b then Some f.1 else frame_under fs number)
    go true rest = refl
    go false rest = rest

some-under : (o : Option Picture) → is_some (option_map bare o) ≡ is_some o
some-under None = refl
some-under (Some p) = refl

holds-bare : (r : Recording) (number : ℕ) → holds (bare_recording r) number ≡ holds r number
holds-bare r number = ap is_some (under-bare r.frames number) ∙ some-under (frame_under r.frames number)

filter-bare : (q : ℕ → Bool) (fs : List (ℕ × Picture)) → filter (λ f. q f.0) (map bare_frame fs) ≡ map bare_frame
    (filter (λ f. q f.0) fs)
filter-bare q [] = refl
filter-bare q (f ∷ fs) = go (q f.0) (filter-bare q fs)
  where
    go : (b : Bool) → filter (λ x. q x.0) (map bare_frame fs) ≡ map bare_frame (filter (λ x. q x.0) fs)
        → (if b then bare_frame f ∷ filter (λ x. q x.0) (map bare_frame fs) else filter (λ x. q x.0)
        (map bare_frame fs)) ≡ map bare_frame (if b then f ∷ filter (λ x. q x.0) fs else filter (λ x. q x.0) fs)
    go true rest = ap (λ l. bare_frame f ∷ l) rest
    go false rest = rest

step-bare : (ring : Ring) (r : Recording) (step : Step) → stepped ring (bare_recording r)
    (bare_step step) ≡ bare_recording (stepped ring r step)
step-bare ring r (store p) = ap (λ (fs : List (ℕ × Picture)). record r { next = r.next + 1; frames = fs })
    (sym (map-append bare_frame r.frames ((r.next, p) ∷ [])))
step-bare ring r (recycle b) = ap (λ (fs : List (ℕ × Picture)). record r { frames = fs }) (filter-bare (λ n. not (block ring n == b)) r.frames)
step-bare ring r (lock span) = refl
step-bare ring r (unlock id) = refl

plain-bare : (ring : Ring) (r : Recording) (list : List Step) → plain ring (bare_recording r)
    (map bare_step list) ≡ bare_recording (plain ring r list)
plain-bare ring r [] = refl
plain-bare ring r (step ∷ list) = ap (λ (x : Recording). plain ring x (map bare_step list)) (step-bare ring r step) ∙ plain-bare ring (stepped ring r step) list

-- ---- the steps of a group

stores-bare : (ps : List Picture) → map store (map bare ps) ≡ map bare_step (map store ps)
stores-bare [] = refl
stores-bare (p ∷ ps) = ap (λ l. store (bare p) ∷ l) (stores-bare ps)

steps-bare : (ring : Ring) (keep : ℕ) (r : Recording) (ps : List Picture) → steps ring keep (bare_recording r)
    (map bare ps) ≡ option_map (map bare_step) (steps ring keep r ps)
steps-bare ring keep r ps =
    let same = held-bare ring r.frames in
    (λ i. if r.next == last_number ring then None else stores_after
    (recycling_first ((r.next % ring.slots == 0) && (length (same i) == ring.segments))
    (find (λ b. not (is_locked ring r b)) (take (length (same i) - max 1 keep) (same i)))) (map bare ps))
    ∙ go (r.next == last_number ring) (needs_recycling ring r) (victim ring keep r)
  where
    go : (b n : Bool) (v : Option ℕ) → (if b then None else stores_after (recycling_first n v) (map bare ps)) ≡
        option_map (map bare_step) (if b then None else stores_after (recycling_first n v) ps)
    go true n v = refl
    go false false v = ap Some (stores-bare ps)
    go false true None = refl
    go false true (Some b) = ap (λ l. Some (recycle b ∷ l)) (stores-bare ps)

or-none-bare : (o : Option (List Step)) → steps_or_none (option_map (map bare_step) o) ≡ map bare_step (steps_or_none o)
or-none-bare None = refl
or-none-bare (Some l) = refl

asked-bare : (g : Geometry) (keep : ℕ) (r : Recording) (ps : List Picture) → steps_asked (ring_of g) keep
    (bare_recording r) (map bare ps) ≡ map bare_step (steps_asked (ring_of g) keep r ps)
asked-bare g keep r ps = ap steps_or_none (steps-bare (ring_of g) keep r ps) ∙ or-none-bare (steps (ring_of g) keep r ps)

-- ---- the answers of the store

victim-bare : (ring : Ring) (keep : ℕ) (r : Recording)
    → lacks_victim ring keep (bare_recording r) ≡ lacks_victim ring keep r
victim-bare ring keep r =
    let same = held-bare ring r.frames in
    λ i. (r.next % ring.slots == 0 && length (same i) == ring.segments) && not
    (is_some (find (λ b. not (is_locked ring r b)) (take (length (same i) - max 1 keep) (same i))))

checks-bare : (g : Geometry) (s : StoreState) (c : Call) → checks (ring_of g) (bare_store s) (bare_stored c) ≡ checks
    (ring_of g) s c
checks-bare g s (appended ps result) =
    let same = victim-bare (ring_of g) s.keep s.recording in
    λ i. due s.must_reopen StoreFault.MustReopen
    ∷ due (s.recording.next == last_number (ring_of g)) StoreFault.NumbersSpent
    ∷ due (same i) StoreFault.AllLocked ∷ []
checks-bare g s (locked span result) =
    λ i. due s.must_reopen StoreFault.MustReopen ∷ due (nat_lt span.to span.from) StoreFault.ClipEmpty
    ∷ option_map StoreFault.ClipNotHeld
    (find (λ n. not (holds-bare s.recording n i)) (range_with_len span.from (span.to + 1 - span.from)))
    ∷ due (free_id s.recording == 64) StoreFault.ClipTableFull
    ∷ due (not (has_tag_place s.version span)) StoreFault.OldLayout ∷ []
checks-bare g s (unlocked id result) = refl
checks-bare g s (upgraded result) = refl
checks-bare g s (sought times result) = refl
checks-bare g s (was_read number result) = λ i. due s.must_reopen StoreFault.MustReopen ∷ due (not (holds-bare s.recording number i)) StoreFault.NotHeld ∷ []
checks-bare g s (was_read_part number at result) = λ i. due s.must_reopen StoreFault.MustReopen
    ∷ due (not (holds-bare s.recording number i)) StoreFault.NotHeld ∷ []

fault-bare : (c : Call) → fault_answered (bare_stored c) ≡ fault_answered c
fault-bare (appended ps result) = refl
fault-bare (locked span result) = refl
fault-bare (unlocked id result) = refl
fault-bare (was_read number (Ok x)) = refl
fault-bare (was_read number (Err fault)) = refl
fault-bare (was_read_part number at (Ok bytes)) = refl
fault-bare (was_read_part number at (Err fault)) = refl
fault-bare (upgraded result) = refl
fault-bare (sought times result) = refl

-- the held frames of a time
sought-bare : (times : Times) (fs : List (ℕ × Picture))
    → map (λ f. f.0) (filter (λ f. is_in times f.1.timestamp) (map bare_frame fs))
    ≡ map (λ f. f.0) (filter (λ f. is_in times f.1.timestamp) fs)
sought-bare times [] = refl
sought-bare times (f ∷ fs) = go (is_in times f.1.timestamp) (sought-bare times fs)
  where
    go : (b : Bool) → map (λ f. f.0) (filter (λ f. is_in times f.1.timestamp) (map bare_frame fs))
        ≡ map (λ f. f.0) (filter (λ f. is_in times f.1.timestamp) fs)
        → map (λ f. f.0) (if b then bare_frame f ∷ filter (λ f. is_in times f.1.timestamp) (map bare_frame fs) else
        filter (λ f. is_in times f.1.timestamp) (map bare_frame fs))
        ≡ map (λ f. f.0) (if b then f ∷ filter (λ f. is_in times f.1.timestamp) fs else filter (λ f. is_in times f.1.timestamp) fs)
    go true more = ap (λ (ns : List ℕ). f.0 ∷ ns) more
    go false more = more

given-bare : (s : StoreState) (c : Call) → AnswersOtherwise (Unit {0}) s c
    → AnswersOtherwise (Unit {0}) (bare_store s) (bare_stored c)
given-bare s (appended ps (Ok number)) is = is
given-bare s (appended ps (Err fault)) is = is
given-bare s (locked span (Ok id)) is = is
given-bare s (locked span (Err fault)) is = is
given-bare s (unlocked id (Ok x)) is = is
given-bare s (unlocked id (Err fault)) is = is
given-bare s (was_read number (Ok x)) given = λ now. let is = given now in
    record {
      picture = bare is.picture;
      there = under-bare s.recording.frames number ∙ ap (option_map bare) is.there;
      head_is =
          is.head_is;
      bytes_are = refl;
    }
given-bare s (was_read number (Err fault)) is = is
given-bare s (was_read_part number at (Ok bytes)) given = λ now. let is = given now in
    record {
      picture = bare is.picture;
      there = under-bare s.recording.frames number ∙ ap (option_map bare) is.there;
      bytes_are = refl;
    }
given-bare s (was_read_part number at (Err fault)) is = is
given-bare s (upgraded (Ok made)) is = is
given-bare s (upgraded (Err fault)) is = is
given-bare s (sought times (Ok runs)) is = subst (λ (ns : List ℕ). AreRuns ns runs) (sym (sought-bare times s.recording.frames)) is
given-bare s (sought times (Err fault)) is = is

stored-answer : (g : Geometry) (s : StoreState) (c : Call) → IsAnswered (Unit {0}) (ring_of g) s c
    → IsAnswered (Unit {0}) (ring_of g) (bare_store s) (bare_stored c)
stored-answer g s c said =
    subst (λ (l : List (Option StoreFault)). AnswersDue (first_of l) (bare_stored c)
    (AnswersOtherwise (Unit {0}) (bare_store s) (bare_stored c))) (sym (checks-bare g s c))
    (go (first_of (checks (ring_of g) s c)) said)
  where
    go : (o : Option StoreFault) → AnswersDue o c (AnswersOtherwise (Unit {0}) s c)
        → AnswersDue o (bare_stored c) (AnswersOtherwise (Unit {0}) (bare_store s) (bare_stored c))
    go None is = given-bare s c is
    go (Some fault) is = fault-bare c ∙ is

-- ---- the state of the store after a call

answered-bare : (o : Option StoreFault) (l : List Step) → if_answered o (map bare_step l) ≡ map bare_step
    (if_answered o l)
answered-bare None l = refl
answered-bare (Some fault) l = refl

steps-of-bare : (g : Geometry) (s : StoreState) (c : Call) → steps_of (ring_of g) (bare_store s)
    (bare_stored c) ≡ map bare_step
    (steps_of (ring_of g) s c)
steps-of-bare g s (appended ps result) = asked-bare g s.keep s.recording ps
steps-of-bare g s (locked span result) = refl
steps-of-bare g s (unlocked id result) = refl
steps-of-bare g s (was_read number result) = refl
steps-of-bare g s (was_read_part number at result) = refl
steps-of-bare g s (upgraded result) = refl
steps-of-bare g s (sought times result) = refl

made-bare : (g : Geometry) (s : StoreState) (c : Call) → made_by (ring_of g) (bare_store s)
    (bare_stored c) ≡ map bare_step
    (made_by (ring_of g) s c)
made-bare g s c =
    let same = fault-bare c in
    let steps = steps-of-bare g s c in
    (λ i. if_answered (same i) (steps i)) ∙ answered-bare (fault_answered c) (steps_of (ring_of g) s c)

failed-bare : (c : Call) → has_failed (bare_stored c) ≡ has_failed c
failed-bare (appended ps result) = refl
failed-bare (locked span result) = refl
failed-bare (unlocked id result) = refl
failed-bare (was_read number result) = refl
failed-bare (was_read_part number at result) = refl
failed-bare (upgraded result) = refl
failed-bare (sought times result) = refl

version-bare : (v : ℕ) (c : Call) → version_after v (bare_stored c) ≡ version_after v c
version-bare v (appended ps result) = refl
version-bare v (locked span result) = refl
version-bare v (unlocked id result) = refl
version-bare v (was_read number result) = refl
version-bare v (was_read_part number at result) = refl
version-bare v (upgraded result) = refl
version-bare v (sought times result) = refl

stored-bare : (g : Geometry) (s : StoreState) (c : Call) → stored (ring_of g) (bare_store s)
    (bare_stored c) ≡ bare_store
    (stored (ring_of g) s c)
stored-bare g s c =
    let ring = ring_of g in
    let recording = ap (plain ring (bare_recording s.recording)) (made-bare g s c) ∙ plain-bare ring s.recording (made_by (ring_of g) s c) in
    let failed = failed-bare c in
    let version = version-bare s.version c in
    λ i. record { recording = recording i; version = version i; keep = s.keep; must_reopen = s.must_reopen || failed i }

-- calls of the store
record IsStoreBlind (g : Geometry) (s : StoreState) (calls : List Call) : Type 0 where
  answers : AreAnswered (Unit {0}) (ring_of g) s calls → AreAnswered (Unit {0}) (ring_of g) (bare_store s)
      (map bare_stored calls)
  state : after_calls (ring_of g) (bare_store s) (map bare_stored calls) ≡ bare_store (after_calls (ring_of g) s calls)

store-blind : (g : Geometry) (s : StoreState) (calls : List Call) → IsStoreBlind g s calls
store-blind g s [] = record { answers = λ said. tt; state = refl }
store-blind g s (c ∷ calls) =
    let rest = store-blind g (stored (ring_of g) s c) calls in
    let one = stored-bare g s c in
    record {
      answers = λ said. (
        stored-answer g s c said.0,
        subst (λ (x : StoreState). AreAnswered (Unit {0}) (ring_of g) x (map bare_stored calls)) (sym one)
            (rest.answers said.1),
      );
      state = ap (λ (x : StoreState). after_calls (ring_of g) x (map bare_stored calls)) one ∙ rest.state;
    }

-- ---- the desk

group-bare : (k : Rules) (s : DeskState) → group_of k (bare_state s) ≡ map bare (group_of k s)
group-bare k s = take-map bare (min k.limits.group (k.geometry.slots - s.store.recording.next % k.geometry.slots)) s.pending

append-of-bare : (group : List Picture) (result : Result Flushed StoreFault)
    → append_of (map bare group) result ≡ map bare_stored (append_of group result)
append-of-bare [] result = refl
append-of-bare (p ∷ ps) result = refl

calls-bare : (k : Rules) (s : DeskState) (c : DeskCall) → store_calls k (bare_state s) (bare_call c) ≡ map bare_stored
    (store_calls k s c)
calls-bare k s (submitted p size result) = refl
calls-bare k s (flushed result) = ap (λ (l : List Picture). append_of l result) (group-bare k s) ∙ append-of-bare (group_of k s) result
calls-bare k s (clip_locked span result) = refl
calls-bare k s (clip_unlocked id result) = refl
calls-bare k s (frame_read number result) = refl
calls-bare k s (status_told status) = refl
calls-bare k s (layout_upgraded result) = refl
calls-bare k s (run_told times place run) = refl

flush-bare : (s : DeskState) (group : List Picture) (result : Result Flushed StoreFault) → IsFlush s group result
    → IsFlush (bare_state s) (map bare group) result
flush-bare s group (Ok f) said =
    let count = length-map s.pending bare in
    let size = length-map group bare in
    (said.0, said.1 ∙ (λ i. record { first = s.store.recording.next; stored = sym size i; left = sym count i - sym size i }))
flush-bare s [] (Err fault) said = said
flush-bare s (p ∷ ps) (Err fault) said = tt

call-bare : (k : Rules) (s : DeskState) (c : DeskCall) → IsDeskAnswer k s c → IsDeskAnswer k (bare_state s)
    (bare_call c)
call-bare k s c said = (
  told c said.0,
  subst (λ (l : List Call). AreAnswered (Unit {0}) (ring_of k.geometry) (bare_store s.store) l) (sym (calls-bare k s c))
      ((store-blind k.geometry s.store (store_calls k s c)).answers said.1),
)
  where
    told : (d : DeskCall) → IsDeskTold k s d → IsDeskTold k (bare_state s) (bare_call d)
    told (submitted p size result) is =
        let count = length-map s.pending bare in
        is ∙ (λ i. if s.store.must_reopen then Err StoreFault.MustReopen else if not (size == frame_bytes k.geometry)
        then Err StoreFault.WrongSize else if sym count i == k.limits.pending then Err StoreFault.PendingFull else
        if (s.store.recording.next + sym count i) == last_number
        (ring_of k.geometry) then Err StoreFault.NumbersSpent else Ok (s.store.recording.next + sym count i))
    told (flushed result) is = subst (λ (l : List Picture). IsFlush (bare_state s) l result) (sym (group-bare k s)) (flush-bare s (group_of k s) result is)
    told (clip_locked span result) is = tt
    told (clip_unlocked id result) is = tt
    told (frame_read number result) is = tt
    told (layout_upgraded result) is = tt
    told (run_told times place run) is =
        (is.0, (subst (λ (ns : List ℕ). AreRuns ns is.0) (sym (sought-bare times s.store.recording.frames)) is.1.0, is.1.1))
    told (status_told status) is =
        record {
          next = is.next;
          held = is.held ∙ sym (length-map s.store.recording.frames bare_frame);
          pending =
              is.pending ∙ sym (length-map s.pending bare);
          must_reopen = is.must_reopen;
        }

pending-bare : (waiting : List Picture) (c : DeskCall) → pending_after (map bare waiting) (bare_call c) ≡ map bare
    (pending_after waiting c)
pending-bare waiting (submitted p size (Ok number)) = sym (map-append bare waiting (p ∷ []))
pending-bare waiting (submitted p size (Err fault)) = refl
pending-bare waiting (flushed (Ok f)) = drop-map bare f.stored waiting
pending-bare waiting (flushed (Err fault)) = refl
pending-bare waiting (clip_locked span result) = refl
pending-bare waiting (clip_unlocked id result) = refl
pending-bare waiting (frame_read number result) = refl
pending-bare waiting (status_told status) = refl
pending-bare waiting (layout_upgraded result) = refl
pending-bare waiting (run_told times place run) = refl

after-bare : (k : Rules) (s : DeskState) (c : DeskCall) → desk_after k (bare_state s) (bare_call c) ≡ bare_state
    (desk_after k s c)
after-bare k s c =
    let store = ap (λ (l : List Call). after_calls (ring_of k.geometry) (bare_store s.store) l) (calls-bare k s c)
    ∙ (store-blind k.geometry s.store (store_calls k s c)).state in
    let waiting = pending-bare s.pending c in
    λ i. record { store = store i; pending = waiting i }

pub blind : (k : Rules) (s : DeskState) (calls : List DeskCall) → IsBlind k s calls
blind k s [] = record { answers = λ said. tt; state = refl }
blind k s (c ∷ calls) =
    let rest = blind k (desk_after k s c) calls in
    let one = after-bare k s c in
    record {
      answers = λ said. (call-bare k s c said.0, subst (λ (x : DeskState). AreDeskAnswers k x (map bare_call calls)) (sym one) (rest.answers said.1));
      state = ap (λ (x : DeskState). desk_after_calls k x (map bare_call calls)) one ∙ rest.state;
    }

-- ---- outlines

numbers-bare : (frames : List (ℕ × Picture)) → map (λ f. f.0) (map bare_frame frames) ≡ map (λ f. f.0) frames
numbers-bare [] = refl
numbers-bare (f ∷ frames) = ap (λ l. f.0 ∷ l) (numbers-bare frames)

pub outline-tells : {D A : Type 0} (medium : D → Medium) (d : SeenDesk D) (outline : Outline A) (s : DeskState)
    → TellsOutline medium d outline → DeskStands medium d s → (medium d.store.disk).honest → IsOutlineOf s outline
outline-tells medium d outline s told stands now =
    let tells = stands.store.recording.told in
    record {
      version = told.version ∙ stands.store.version;
      keep = told.keep ∙ stands.store.keep;
      next = told.next ∙ tells.next_is;
      frames = told.frames s.store.recording stands.store.recording;
      clips = told.clips ∙ ap (clip_list 0) tells.clips_are;
      pending = told.pending ∙ ap (λ l. length l) stands.pending;
    }

pub outline-bare : {A : Type 0} (s : DeskState) (outline : Outline A) → IsOutlineOf s outline
    → IsOutlineOf (bare_state s) outline
outline-bare s outline is = record {
  version = is.version;
  keep = is.keep;
  next = is.next;
  frames = is.frames ∙ sym (numbers-bare s.store.recording.frames);
  clips = is.clips;
  pending = is.pending ∙ sym (length-map s.pending bare);
}
