-- Calls of a store, one after the other.
use Rattle.std.proofs.Common.{◌≡◌, inl, Bool, true, false, ◌&&◌, Option, List, [], ◌∷◌, ◌++◌, map, refl, sym, ap, ◌∙◌, subst, arith}
use Rattle.std.proofs.lemmas.List.{append-nil, map-append}
use Rattle.std.specs.Prelude.{◌||◌}
use Rattle.std.specs.List.{list_all}
use Rattle.loop_disk.specs.declared.fault.DiskFault.{DiskFault}
use Rattle.loop_disk.specs.declared.fault.Failures.{Failures}
use Rattle.loop_disk.specs.Calls.{Called, Stays, with_failed}
use Rattle.loop_disk.specs.Medium.{Medium, IsSound}
use Rattle.loop_record.specs.declared.geometry.Geometry.{Geometry}
use Rattle.loop_record.specs.Recording.{Recording, plain, ring_of}
use Rattle.loop_record.proofs.TestFacts.{both}
use Rattle.loop_record.proofs.TurnRuns.{after-behind, each-behind, told-behind}
use Rattle.loop_ring.proofs.SlotReads.{stays_on}
use Rattle.loop_store.specs.Calls.{AreAnswered, Call, IsAnswered, StoreState, after_store_call, after_calls, begun_by, begun_in, failed_for, is_look, made_by, made_in, was_refused}
use Rattle.loop_store.specs.Faults.{is_early}
use Rattle.loop_store.specs.Goes.{CalledEach, Goes, Stands, TellsState, with_each}
use Rattle.loop_store.specs.Reopen.{TellsOne}
use Rattle.loop_store.specs.Seen.{Seen}
use Rattle.loop_store.specs.Steps.{LeavesSteps}
use Rattle.loop_store.proofs.CheckAnswers.{are-answered-as, must-answer}
use Rattle.loop_store.proofs.Leaves.{leaves-joined, leaves-none, leaves-same}
use Rattle.loop_store.proofs.ModelRuns.{fine-all, idle-all, recording-after}
use Rattle.loop_store.proofs.Names.{has_failed}

-- ---- the disk

pub with_each-behind : (xs ys : List (Option DiskFault)) (before : Failures)
    → with_each (xs ++ ys) before ≡ with_each ys (with_each xs before)
with_each-behind [] ys before = refl
with_each-behind (x ∷ xs) ys before = with_each-behind xs ys (with_failed x before)

called-none : (m : Medium) → CalledEach m m []
called-none m = record { size = refl; honest = (λ h. h, λ h. h); failures = refl }

pub called-one : (old new : Medium) (failed : Option DiskFault) → Called old new failed
    → CalledEach old new (failed ∷ [])
called-one old new failed called = record { size = called.size; honest = called.honest; failures = called.failures }

called-joined : (old mid new : Medium) (xs ys : List (Option DiskFault)) → CalledEach old mid xs
    → CalledEach mid new ys → CalledEach old new (xs ++ ys)
called-joined old mid new xs ys first second = record {
  size = second.size ∙ first.size;
  honest = (λ h. second.honest.0 (first.honest.0 h), λ h. first.honest.1 (second.honest.1 h));
  failures = second.failures ∙ ap (with_each ys) first.failures ∙ sym (with_each-behind xs ys old.failures);
}

-- nothing was called
pub stays-still : (m : Medium) → Stays m m
stays-still m = record {
  bytes = refl;
  images = λ c left. left;
  time =
      record { later = omega arith; nothing_else = λ t c le left. inl left };
  keeps = λ t c le left. left;
}

-- the same for each of two lists
all-both : (p : Call → Bool) (xs ys : List Call) → list_all p (xs ++ ys) ≡ true → (list_all p xs ≡ true)
    × (list_all p ys ≡ true)
all-both p [] ys all = (refl, all)
all-both p (x ∷ xs) ys all =
    let k = both (p x) (list_all p (xs ++ ys)) all in
    let rest = all-both p xs ys k.1 in
    (let first = k.0 in let others = rest.0 in λ i. first i && others i, rest.1)

-- ---- a store that must be reopened

-- each call of it is refused
all-refused : (H : Type 0) (g : Geometry) (s : StoreState) (calls : List Call) → s.must_reopen ≡ true
    → AreAnswered H (ring_of g) s calls → list_all was_refused calls ≡ true
all-refused H g s [] must said = refl
all-refused H g s (c ∷ calls) must said =
    let early = ap is_early (must-answer H g s c must said.0) in
    let rest = all-refused H g (after_store_call (ring_of g) s c) calls (ap (λ (b : Bool). b || has_failed c) must) said.1 in
    λ i. early i && rest i

-- the store stands for a state, and its disk is honest
abbrev Held : {D : Type 0} (medium : D → Medium) (store : Seen D) → StoreState → Type 0
Held medium store s = (medium store.disk).honest × Stands medium store s

-- the state of a store that reports a recording
abbrev pub state-of : {D : Type 0} (store : Seen D) → TellsOne store → StoreState
state-of store one =
    record { recording = one.0; version = store.version; keep = store.keep; must_reopen = store.must_reopen }

pub state-told : {D : Type 0} (store : Seen D) (one : TellsOne store) → TellsState store (state-of store one)
state-told store one = record { recording = one.1; version = refl; keep = refl; must_reopen = refl }

-- a store reports what the state that it stands for says
pub told-of : {D : Type 0} (medium : D → Medium) (store : Seen D) (s : StoreState) → Stands medium store s
    → TellsState store s
told-of medium store s stands = record {
  recording = stands.recording.told;
  version = stands.version;
  keep = stands.keep;
  must_reopen = stands.must_reopen;
}

-- and so nothing changes
pub idle : {D : Type 0} (medium : D → Medium) (old new : Seen D) (calls : List Call) → Goes medium old new calls
    → old.must_reopen ≡ true → new ≡ old
idle medium old new calls goes must =
    let s = state-of old goes.one in
    goes.unmoved (all-refused (Held medium old s) old.geometry s calls must (goes.answers s (state-told old goes.one)))

-- ---- calls

-- no call
pub goes-none : {D : Type 0} (medium : D → Medium) (store : Seen D) → TellsOne store
    → ((medium store.disk).honest → IsSound (medium store.disk)) → Goes medium store store []
goes-none medium store one sound = record {
  one = one;
  answers = λ s told. tt;
  tells = λ s told. told;
  stands = λ s stands. stands;
  leaves = λ s stands now fine.
      let still : store.must_reopen ≡ false = stands.must_reopen ∙ fine in
      leaves-none store.geometry s.recording (medium store.disk) (sound now) (stands.recording.settled still now) (stands.recording.held still now);
  looks = λ all now. stays-still (medium store.disk);
  unmoved = λ all. refl;
  geometry = refl;
  called = called-none (medium store.disk);
}

-- One call, by what it says of its own steps.
pub record GoesOnce {D : Type 0} (medium : D → Medium) (old new : Seen D) (c : Call) : Type 0 where
  pub one : TellsOne old
  pub answers : (s : StoreState) → TellsState old s → IsAnswered ((medium old.disk).honest × Stands medium old s)
      (ring_of old.geometry) s c
  pub tells : (s : StoreState) → TellsState old s → TellsState new (after_store_call (ring_of old.geometry) s c)
  pub stands : (s : StoreState) → Stands medium old s → Stands medium new (after_store_call (ring_of old.geometry) s c)
  pub leaves : (s : StoreState) → Stands medium old s → (medium old.disk).honest → s.must_reopen ≡ false
      → LeavesSteps old.geometry s.recording (made_by (ring_of old.geometry) s c) (begun_by (ring_of old.geometry) s c) (medium old.disk) (medium new.disk)
  pub looks : is_look c ≡ true → (medium old.disk).honest → Stays (medium old.disk) (medium new.disk)
  pub unmoved : was_refused c ≡ true → new ≡ old
  pub geometry : new.geometry ≡ old.geometry
  pub called : Called (medium old.disk) (medium new.disk) (failed_for c)

pub goes-once : {D : Type 0} (medium : D → Medium) (old new : Seen D) (c : Call) → GoesOnce medium old new c
    → Goes medium old new (c ∷ [])
goes-once medium old new c one = record {
  one = one.one;
  answers = λ s told. (one.answers s told, tt);
  tells = one.tells;
  stands = one.stands;
  leaves = λ s stands now fine.
      let g = old.geometry in
      leaves-same g s.recording (made_by (ring_of g) s c) (made_by (ring_of g) s c ++ []) (begun_by (ring_of g) s c) (begun_by (ring_of g) s c ++ [])
      (medium old.disk) (medium new.disk) (sym (append-nil (made_by (ring_of g) s c))) (sym (append-nil (begun_by (ring_of g) s c)))
      (one.leaves s stands now fine);
  looks = λ all now. one.looks (both (is_look c) true all).0 now;
  unmoved = λ all. one.unmoved (both (was_refused c) true all).0;
  geometry = one.geometry;
  called = called-one (medium old.disk) (medium new.disk) (failed_for c) one.called;
}

-- Calls, and calls after them.
pub goes-joined : {D : Type 0} (medium : D → Medium) (old mid new : Seen D) (xs ys : List Call)
    → Goes medium old mid xs → Goes medium mid new ys → Goes medium old new (xs ++ ys)
goes-joined {D} medium old mid new xs ys first second = record {
  one = first.one;
  answers = λ s told. each-behind (after_store_call (ring_of g)) (IsAnswered (Held medium old s) (ring_of g)) s xs ys (first.answers s told) (later s told);
  tells = λ s told.
      subst (λ (t : StoreState). TellsState new t) (sym (after-behind (after_store_call (ring_of g)) s xs ys))
      (subst (λ (h : Geometry). TellsState new (after_calls (ring_of h) (mid_state s) ys)) first.geometry (second.tells (mid_state s) (first.tells s told)));
  stands = λ s stands.
      subst (λ (t : StoreState). Stands medium new t) (sym (after-behind (after_store_call (ring_of g)) s xs ys))
      (subst (λ (h : Geometry). Stands medium new (after_calls (ring_of h) (mid_state s) ys)) first.geometry
      (second.stands (mid_state s) (first.stands s stands)));
  leaves = λ s stands now fine.
      leaves-same g s.recording (made_in (ring_of g) s xs ++ made_in (ring_of g) (mid_state s) ys) (made_in (ring_of g) s (xs ++ ys))
      (begun_in (ring_of g) s xs ++ begun_in (ring_of g) (mid_state s) ys) (begun_in (ring_of g) s (xs ++ ys)) (medium old.disk) (medium new.disk)
      (sym (told-behind (after_store_call (ring_of g)) (made_by (ring_of g)) s xs ys))
      (sym (told-behind (after_store_call (ring_of g)) (begun_by (ring_of g)) s xs ys))
      (go s stands now fine (mid_state s).must_reopen refl);
  looks = λ all now. let k = all-both is_look xs ys all in stays_on (medium old.disk) (medium mid.disk)
      (medium new.disk) (first.looks k.0 now) (second.looks k.1 (first.called.honest.0 now));
  unmoved = λ all. let k = all-both was_refused xs ys all in second.unmoved k.1 ∙ first.unmoved k.0;
  geometry = second.geometry ∙ first.geometry;
  called =
      subst (λ (l : List (Option DiskFault)). CalledEach (medium old.disk) (medium new.disk) l) (sym (map-append failed_for xs ys))
      (called-joined (medium old.disk) (medium mid.disk) (medium new.disk) (map failed_for xs) (map failed_for ys) first.called second.called);
}
  where
    g : Geometry
    g = old.geometry

    mid_state : StoreState → StoreState
    mid_state s = after_calls (ring_of g) s xs

    later : (s : StoreState) → TellsState old s → AreAnswered (Held medium old s) (ring_of g) (mid_state s) ys
    later s told =
        are-answered-as (Held medium mid (mid_state s)) (Held medium old s) g (mid_state s) ys (λ held. (first.called.honest.0 held.0, first.stands s held.1))
        (subst (λ (h : Geometry). AreAnswered (Held medium mid (mid_state s)) (ring_of h) (mid_state s) ys) first.geometry
        (second.answers (mid_state s) (first.tells s told)))

    go : (s : StoreState) → Stands medium old s → (medium old.disk).honest → s.must_reopen ≡ false → (b : Bool)
        → (mid_state s).must_reopen ≡ b
        → LeavesSteps g s.recording (made_in (ring_of g) s xs ++ made_in (ring_of g) (mid_state s) ys)
        (begun_in (ring_of g) s xs ++ begun_in (ring_of g) (mid_state s) ys) (medium old.disk) (medium new.disk)
    go s stands now fine true must =
        let none = idle-all (Held medium old s) g (mid_state s) ys must (later s (told-of medium old s stands)) in
        let there = first.stands s stands in
        let same : new ≡ mid = idle medium mid new ys second (there.must_reopen ∙ must) in
        subst (λ (t : Seen D). LeavesSteps g s.recording (made_in (ring_of g) s xs ++ made_in (ring_of g) (mid_state s) ys)
        (begun_in (ring_of g) s xs ++ begun_in (ring_of g) (mid_state s) ys) (medium old.disk) (medium t.disk)) (sym same)
        (leaves-same g s.recording (made_in (ring_of g) s xs) (made_in (ring_of g) s xs ++ made_in (ring_of g) (mid_state s) ys) (begun_in (ring_of g) s xs)
        (begun_in (ring_of g) s xs ++ begun_in (ring_of g) (mid_state s) ys) (medium old.disk) (medium mid.disk)
        (sym (ap (λ l. made_in (ring_of g) s xs ++ l) none.made ∙ append-nil (made_in (ring_of g) s xs)))
        (sym (ap (λ l. begun_in (ring_of g) s xs ++ l) none.begun ∙ append-nil (begun_in (ring_of g) s xs)))
        (first.leaves s stands now fine))
    go s stands now fine false still =
        let none = (fine-all g s xs still).none in
        let one : LeavesSteps g s.recording (made_in (ring_of g) s xs) [] (medium old.disk) (medium mid.disk) =
        subst (λ l. LeavesSteps g s.recording (made_in (ring_of g) s xs) l (medium old.disk) (medium mid.disk)) none
        (first.leaves s stands now fine) in
        let two : LeavesSteps g (plain (ring_of g) s.recording (made_in (ring_of g) s xs)) (made_in (ring_of g) (mid_state s) ys)
        (begun_in (ring_of g) (mid_state s) ys) (medium mid.disk) (medium new.disk) =
        subst (λ (r : Recording). LeavesSteps g r (made_in (ring_of g) (mid_state s) ys) (begun_in (ring_of g) (mid_state s) ys)
        (medium mid.disk) (medium new.disk)) (recording-after g s xs)
        (subst (λ (h : Geometry). LeavesSteps h (mid_state s).recording (made_in (ring_of h) (mid_state s) ys)
        (begun_in (ring_of h) (mid_state s) ys) (medium mid.disk) (medium new.disk)) first.geometry
        (second.leaves (mid_state s) (first.stands s stands) (first.called.honest.0 now) still)) in
        leaves-same g s.recording (made_in (ring_of g) s xs ++ made_in (ring_of g) (mid_state s) ys)
        (made_in (ring_of g) s xs ++ made_in (ring_of g) (mid_state s) ys) (begun_in (ring_of g) (mid_state s) ys)
        (begun_in (ring_of g) s xs ++ begun_in (ring_of g) (mid_state s) ys) (medium old.disk) (medium new.disk) refl
        (sym (ap (λ l. l ++ begun_in (ring_of g) (mid_state s) ys) none))
        (leaves-joined g s.recording (made_in (ring_of g) s xs) (made_in (ring_of g) (mid_state s) ys) (begun_in (ring_of g) (mid_state s) ys)
        (medium old.disk) (medium mid.disk) (medium new.disk) one two)
