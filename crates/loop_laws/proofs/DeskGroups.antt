-- What calls of a desk make of the recording for which its store stands: a group that is taken, or nothing.
use Rattle.std.proofs.Common.{◌≡◌, ◌≢◌, ◌⊎◌, inl, inr, ℕ, ◌+◌, ◌-◌, ◌%◌, ◌≤◌, true, Option, Some, None, min, Ok, Err, List, [], ◌∷◌, ◌++◌, drop, length, take, refl, sym, ap, ◌∙◌, subst, arith}
use Rattle.std.proofs.lemmas.List.{length-append, length-take, take-append-drop, take_min}
use Rattle.std.specs.List.{list_all}
use Rattle.loop_disk.specs.Medium.{Medium}
use Rattle.loop_record.specs.Recording.{Picture, Recording, Ring, Step, plain, ring_of, room, steps}
use Rattle.loop_store.specs.Calls.{Call, StoreState, after_calls, after_store_call, appended}
use Rattle.loop_store.specs.Goes.{Goes, Stands}
use Rattle.loop_store.specs.Seen.{StandsFor, ring_in}
use Rattle.loop_store.proofs.AppendAnswers.{answered-some}
use Rattle.loop_store.proofs.Names.{steps_or_none}
use Rattle.loop_store.proofs.NextNumber.{next-one}
use Rattle.loop_desk.specs.declared.limits.Flushed.{Flushed}
use Rattle.loop_desk.specs.Desk.{DeskCall, DeskState, IsFlush, Rules, append_of, clip_locked, clip_unlocked, desk_after, desk_after_calls, flushed, frame_read, group_of, layout_upgraded, run_told, status_told, store_calls_in, submitted}
use Rattle.loop_desk.specs.Seen.{DeskGoes, SeenDesk, TellsDesk, rules_of}
use Rattle.loop_laws.specs.Filmings.{IsDeskOf}
use Rattle.loop_laws.specs.FilmingRuns.{is_quiet}

-- ---- quiet calls

record IsSame (k : Rules) (s : DeskState) (calls : List DeskCall) : Type 0 where
  recording : (after_calls (ring_of k.geometry) s.store (store_calls_in k s calls)).recording ≡ s.store.recording
  pending : (desk_after_calls k s calls).pending ≡ s.pending

quiet-same : (k : Rules) (s : DeskState) (calls : List DeskCall) → list_all is_quiet calls ≡ true → IsSame k s calls
quiet-same k s [] quiet = record { recording = refl; pending = refl }
quiet-same k s (clip_locked span (Err fault) ∷ calls) quiet =
    let rest = quiet-same k (desk_after k s (clip_locked span (Err fault))) calls quiet in
    record { recording = rest.recording; pending = rest.pending }
quiet-same k s (clip_unlocked id (Err fault) ∷ calls) quiet =
    let rest = quiet-same k (desk_after k s (clip_unlocked id (Err fault))) calls quiet in
    record { recording = rest.recording; pending = rest.pending }
quiet-same k s (frame_read number (Ok x) ∷ calls) quiet =
    let rest = quiet-same k (desk_after k s (frame_read number (Ok x))) calls quiet in
    record { recording = rest.recording; pending = rest.pending }
quiet-same k s (frame_read number (Err fault) ∷ calls) quiet =
    let rest = quiet-same k (desk_after k s (frame_read number (Err fault))) calls quiet in
    record { recording = rest.recording; pending = rest.pending }
quiet-same k s (status_told status ∷ calls) quiet =
    let rest = quiet-same k (desk_after k s (status_told status)) calls quiet in
    record { recording = rest.recording; pending = rest.pending }
quiet-same k s (layout_upgraded (Ok made) ∷ calls) quiet =
    let rest = quiet-same k (desk_after k s (layout_upgraded (Ok made))) calls quiet in
    record { recording = rest.recording; pending = rest.pending }
quiet-same k s (layout_upgraded (Err fault) ∷ calls) quiet =
    let rest = quiet-same k (desk_after k s (layout_upgraded (Err fault))) calls quiet in
    record { recording = rest.recording; pending = rest.pending }
quiet-same k s (run_told times place run ∷ calls) quiet =
    let rest = quiet-same k (desk_after k s (run_told times place run)) calls quiet in
    record { recording = rest.recording; pending = rest.pending }
quiet-same k s (submitted p size result ∷ calls) quiet = absurd cc
quiet-same k s (flushed result ∷ calls) quiet = absurd cc
quiet-same k s (clip_locked span (Ok id) ∷ calls) quiet = absurd cc
quiet-same k s (clip_unlocked id (Ok x) ∷ calls) quiet = absurd cc

-- ---- a desk after calls

-- a group of the frames that waited was taken: these still wait, and the store stands for the recording after it
pub record Takes {D : Type 0} (medium : D → Medium) (ring : Ring) (keep : ℕ) (r : Recording) (d e : SeenDesk D)
    : Type 0 where
  pub group : List Picture
  pub whole : group ++ e.pending ≡ d.pending
  pub some : 1 ≤ length group
  pub fits : length group ≤ room ring r
  pub made : List Step
  pub by : steps ring keep r group ≡ Some made
  pub is : IsDeskOf medium ring keep (plain ring r made) e

-- nothing changed
pub record Stays {D : Type 0} (medium : D → Medium) (ring : Ring) (keep : ℕ) (r : Recording) (d e : SeenDesk D)
    : Type 0 where
  pub pending : e.pending ≡ d.pending
  pub is : IsDeskOf medium ring keep r e

-- where the flush ends, and how many wait still
pub record Ends {D : Type 0} (e : SeenDesk D) (f : Flushed) : Type 0 where
  pub next : f.first + f.stored ≡ e.store.next
  pub left : f.left ≡ length e.pending

module _ {D : Type 0} (medium : D → Medium) (d e : SeenDesk D) (calls : List DeskCall)
    (goes : DeskGoes medium d e calls) (r : Recording) (stands : StandsFor medium d.store r) where
  abbrev pub state : DeskState
  state = record {
    store = record {
      recording = r;
      version = d.store.version;
      keep = d.store.keep;
      must_reopen = d.store.must_reopen;
    };
    pending = d.pending;
  }

  pub told : TellsDesk d state
  told = record {
    store = record { recording = stands.told; version = refl; keep = refl; must_reopen = refl };
    pending = refl;
  }

  pub stood : Stands medium d.store state.store
  stood = record { recording = stands; version = refl; keep = refl; must_reopen = refl }

  pub store-goes : Goes medium d.store e.store (store_calls_in (rules_of d) state calls)
  store-goes = goes.store state told

  pub pending-is : e.pending ≡ (desk_after_calls (rules_of d) state calls).pending
  pending-is = (goes.plays state told).1.pending

  pub ring-same : ring_in e.store ≡ ring_in d.store
  ring-same = ap ring_of store-goes.geometry

-- calls keep how many blocks a store keeps
keep-after : (ring : Ring) (s : StoreState) (calls : List Call) → (after_calls ring s calls).keep ≡ s.keep
keep-after ring s [] = refl
keep-after ring s (c ∷ calls) = keep-after ring (after_store_call ring s c) calls

module _ {D : Type 0} (medium : D → Medium) (ring : Ring) (keep : ℕ) (r : Recording) (d e : SeenDesk D)
    (was : IsDeskOf medium ring keep r d) where
  -- it is a desk of what its store stands for after the calls
  desk-then : (calls : List DeskCall) (goes : DeskGoes medium d e calls) (q : Recording) → StandsFor medium e.store q
      → IsDeskOf medium ring keep q e
  desk-then calls goes q stands =
      let s = state medium d e calls goes r was.stands in
      let store = store-goes medium d e calls goes r was.stands in
      let after = store.stands s.store (stood medium d e calls goes r was.stands) in
      record {
        stands = stands;
        same_ring = ring-same medium d e calls goes r was.stands ∙ was.same_ring;
        same_keep = after.keep
            ∙ (keep-after (ring_of d.store.geometry) s.store (store_calls_in (rules_of d) s calls) ∙ was.same_keep);
      }

  pub quiet-stays : (calls : List DeskCall) → DeskGoes medium d e calls → list_all is_quiet calls ≡ true
      → Stays medium ring keep r d e
  quiet-stays calls goes quiet =
      let s = state medium d e calls goes r was.stands in
      let same = quiet-same (rules_of d) s calls quiet in
      let store = store-goes medium d e calls goes r was.stands in
      let after = store.stands s.store (stood medium d e calls goes r was.stands) in
      record {
        pending = pending-is medium d e calls goes r was.stands ∙ same.pending;
        is = desk-then calls goes r (subst (StandsFor medium e.store) same.recording after.recording);
      }

  -- a frame that was accepted waits
  pub submit-waits : (p : Picture) (size number : ℕ) → DeskGoes medium d e (submitted p size (Ok number) ∷ [])
      → (e.pending ≡ d.pending ++ p ∷ []) × IsDeskOf medium ring keep r e
  submit-waits p size number goes =
      let calls = submitted p size (Ok number) ∷ [] in
      let s = state medium d e calls goes r was.stands in
      let store = store-goes medium d e calls goes r was.stands in
      let after = store.stands s.store (stood medium d e calls goes r was.stands) in
      (pending-is medium d e calls goes r was.stands, desk-then calls goes r after.recording)

-- a group and the frames after it
group-and-rest : (most : ℕ) (waiting : List Picture)
    → take most waiting ++ drop (length (take most waiting)) waiting ≡ waiting
group-and-rest most waiting =
    let count = length-take most waiting in
    let front = take_min most waiting in
    (λ i. sym front i ++ drop (count i) waiting) ∙ take-append-drop (min most (length waiting)) waiting

group-short : (group slots : ℕ) (waiting : List Picture) → length (take (min group slots) waiting) ≤ slots
group-short group slots waiting = let count = length-take (min group slots) waiting in omega (arith, count)

some-of : (o : Option (List Step)) → o ≢ None → o ≡ Some (steps_or_none o)
some-of None some = absurd (some refl)
some-of (Some made) some = refl

module _ {D : Type 0} (medium : D → Medium) (r : Recording) (d e : SeenDesk D) (f : Flushed)
    (goes : DeskGoes medium d e (flushed (Ok f) ∷ [])) (stands : StandsFor medium d.store r) where
  abbrev s : DeskState
  s = state medium d e (flushed (Ok f) ∷ []) goes r stands

  abbrev ring-is : Ring
  ring-is = ring_of d.store.geometry

  -- what the flush of a group made of the store
  record Done : Type 0 where
    did : Takes medium ring-is d.store.keep r d e ⊎ Stays medium ring-is d.store.keep r d e
    ends : Ends e f

  was : IsDeskOf medium ring-is d.store.keep r d
  was = record { stands = stands; same_ring = refl; same_keep = refl }

  flush-done : (group : List Picture) → IsFlush s group (Ok f)
      → Goes medium d.store e.store (append_of group (Ok f) ++ [])
      → group ++ drop (length group) d.pending ≡ d.pending → length group ≤ room ring-is r
      → e.pending ≡ drop f.stored d.pending → Done
  flush-done [] said store whole fits waits =
      let is = said.1 in
      let same : e.pending ≡ d.pending = waits ∙ ap (λ (x : Flushed). drop x.stored d.pending) is in
      let after = store.stands s.store (stood medium d e (flushed (Ok f) ∷ []) goes r stands) in
      let there = desk-then medium ring-is d.store.keep r d e was (flushed (Ok f) ∷ []) goes r after.recording in
      let first : f.first ≡ r.next = ap (λ (x : Flushed). x.first) is in
      let count : f.stored ≡ 0 = ap (λ (x : Flushed). x.stored) is in
      let left : f.left ≡ length d.pending - 0 = ap (λ (x : Flushed). x.left) is in
      let next = there.stands.told.next_is in
      let long : length e.pending ≡ length d.pending = ap length same in
      record {
        did = inr (record { pending = same; is = there });
        ends = record { next = omega (arith, first, count, next); left = omega (arith, left, long) };
      }
  flush-done (p ∷ ps) said store whole fits waits =
      let is = said.1 in
      let group : List Picture = p ∷ ps in
      let after = store.stands s.store (stood medium d e (flushed (Ok f) ∷ []) goes r stands) in
      let answered = (store.answers s.store (told medium d e (flushed (Ok f) ∷ []) goes r stands).store).0 in
      let some = answered-some ((medium d.store.disk).honest × Stands medium d.store s.store) d.store.geometry s.store
      group f.first answered in
      let there = desk-then medium ring-is d.store.keep r d e was (flushed (Ok f) ∷ []) goes
      (plain ring-is r (steps_or_none (steps ring-is d.store.keep r group))) after.recording in
      let waits_is : e.pending ≡ drop (length group) d.pending = waits
      ∙ ap (λ (x : Flushed). drop x.stored d.pending) is in
      let all : group ++ e.pending ≡ d.pending = ap (λ (l : List Picture). group ++ l) waits_is ∙ whole in
      let first : f.first ≡ r.next = ap (λ (x : Flushed). x.first) is in
      let count : f.stored ≡ length group = ap (λ (x : Flushed). x.stored) is in
      let left : f.left ≡ length d.pending - length group = ap (λ (x : Flushed). x.left) is in
      let begun = stands.told.next_is in
      let next = next-one d.store e.store (appended group (Ok f.first)) store in
      let long = ap length all in
      let both = length-append group e.pending in
      record {
        did = inl (record {
          group = group;
          whole = all;
          some = omega arith;
          fits = fits;
          made = steps_or_none (steps ring-is d.store.keep r group);
          by = some-of (steps ring-is d.store.keep r group) some;
          is = there;
        });
        ends = record { next = omega (arith, first, count, next, begun); left = omega (arith, left, long, both) };
      }

  flush-goes : Done
  flush-goes =
      let plays = goes.plays s (told medium d e (flushed (Ok f) ∷ []) goes r stands) in
      let slots = d.store.geometry.slots - r.next % d.store.geometry.slots in
      flush-done (group_of (rules_of d) s) plays.0.0
      (store-goes medium d e (flushed (Ok f) ∷ []) goes r stands)
      (group-and-rest (min d.limits.group slots) d.pending) (group-short d.limits.group slots d.pending)
      plays.1.pending

-- A flush takes a group, or changes nothing.
pub record Flushes {D : Type 0} (medium : D → Medium) (ring : Ring) (keep : ℕ) (r : Recording) (d e : SeenDesk D)
    (f : Flushed) : Type 0 where
  pub did : Takes medium ring keep r d e ⊎ Stays medium ring keep r d e
  pub ends : Ends e f

pub flush-does : {D : Type 0} (medium : D → Medium) (ring : Ring) (keep : ℕ) (r : Recording) (d e : SeenDesk D)
    (f : Flushed) → IsDeskOf medium ring keep r d → DeskGoes medium d e (flushed (Ok f) ∷ [])
    → Flushes medium ring keep r d e f
flush-does medium ring keep r d e f was goes =
    let done = flush-goes medium r d e f goes was.stands in
    subst (λ (k : ℕ). Flushes medium ring k r d e f) was.same_keep
    (subst (λ (g : Ring). Flushes medium g d.store.keep r d e f) was.same_ring
    (record { did = done.did; ends = done.ends }))
