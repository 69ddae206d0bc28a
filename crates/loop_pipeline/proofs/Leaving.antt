-- Of the desks that aren't active each keeps no frame, or none came to it.
use Rattle.std.proofs.Common.{◌≡◌, ◌==◌, ◌++◌, ◌<◌, ◌⊎◌, inl, inr, ℕ, Bool, true, false, cond, List, [], ◌∷◌, length, slice_get, slice_set, Some, Ok, Err, refl, sym, ap, ◌∙◌, subst}
use Rattle.std.proofs.Math.Seq.{drop-nil}
use Rattle.std.proofs.lemmas.Bool.{eqb-true, eqb-false}
use Rattle.std.proofs.lemmas.Grind.{flat_map-append}
use Rattle.std.proofs.lemmas.List.{append-nil, length-set}
use Rattle.std.proofs.lemmas.List.Elements.{filter-append}
use Rattle.std.proofs.lemmas.Option.{slice_get_within}
use Rattle.std.specs.List.{filter, flat_map}
use Rattle.rtrb.specs.declared.AnyItems.{AnyItems}
use Rattle.rtrb.specs.declared.consumer.Consumer.{Consumer}
use Rattle.loop_disk.specs.Medium.{Medium}
use Rattle.loop_record.specs.declared.frame.Frame.{Frame}
use Rattle.loop_store.specs.declared.fault.StoreFault.{StoreFault}
use Rattle.loop_desk.specs.Desk.{DeskCall, DeskState, Rules, clip_locked, clip_unlocked, desk_after, desk_after_calls, flushed, frame_read, layout_upgraded, pending_after, run_told, status_told, submitted}
use Rattle.loop_desk.specs.Seen.{DeskGoes, SeenDesk, rules_of}
use Rattle.loop_desk.proofs.CallRuns.{state-of, told-then}
use Rattle.loop_pipeline.specs.Backs.{Part, SeenBack, calls_at, calls_of, is_submit, own, part_for, parts_at, visited}
use Rattle.loop_pipeline.specs.Cameras.{AreLeft, GotNone}
use Rattle.loop_pipeline.specs.DeskEvents.{DeskEvent, DesksNow, Happened, HappensTo, IsDue, desks_now, done, joined_by, part_in, turned_to}
use Rattle.loop_pipeline.specs.KeptBacks.{BackKeeps}
use Rattle.loop_pipeline.proofs.Happening.{both-none}
use Rattle.loop_pipeline.proofs.Places.{get-set-other, get-set-same, some-same, some-there}
use Rattle.loop_pipeline.proofs.Searching.{get-before}

-- ---- calls that submit nothing, where nothing waits

one-call : (call : DeskCall) → is_submit call ≡ false → pending_after [] call ≡ []
one-call (submitted p size result) none = absurd (cc)
one-call (flushed (Ok f)) none = drop-nil f.stored
one-call (flushed (Err fault)) none = refl
one-call (clip_locked span result) none = refl
one-call (clip_unlocked id result) none = refl
one-call (frame_read number result) none = refl
one-call (status_told status) none = refl
one-call (layout_upgraded result) none = refl
one-call (run_told times place run) none = refl

first-quiet : (call : DeskCall) (calls : List DeskCall) → filter is_submit (call ∷ calls) ≡ []
    → (is_submit call ≡ false) × (filter is_submit calls ≡ [])
first-quiet call calls none = go (is_submit call) refl none
  where
    go : (b : Bool) → is_submit call ≡ b → cond b (call ∷ filter is_submit calls) (filter is_submit calls) ≡ []
        → (is_submit call ≡ false) × (filter is_submit calls ≡ [])
    go true is e = absurd (cc)
    go false is e = (is, e)

calls-quiet : (k : Rules) (s : DeskState) (calls : List DeskCall) → s.pending ≡ [] → filter is_submit calls ≡ []
    → (desk_after_calls k s calls).pending ≡ []
calls-quiet k s [] empty none = empty
calls-quiet k s (call ∷ calls) empty none =
    let both = first-quiet call calls none in
    calls-quiet k (desk_after k s call) calls (ap (λ l. pending_after l call) empty ∙ one-call call both.0) both.1

-- a change elsewhere
get-other : {X : Type 0} (xs : List X) (i j : ℕ) (new x : X) → (j ≡ i → ⊥) → slice_get xs j ≡ Some x
    → slice_get (slice_set xs i new) j ≡ Some x
get-other xs i j new x apart is =
    let less : j < length (slice_set xs i new) =
    subst (λ n. j < n) (sym (length-set xs i new)) (slice_get_within xs j x is) in
    let there = some-there (slice_set xs i new) j less in
    there.1 ∙ (sym (get-set-other xs i j new there.0 apart there.1) ∙ is)

module _ {D : Type 0} (medium : D → Medium) where
  desk-quiet : (old new : SeenDesk D) (calls : List DeskCall) → DeskGoes medium old new calls → old.pending ≡ []
      → filter is_submit calls ≡ [] → new.pending ≡ []
  desk-quiet old new calls goes empty none =
      (told-then medium old new calls goes).pending
      ∙ calls-quiet (rules_of old) (state-of old goes.one) calls empty none

  -- ---- what happens to a desk to which no frame comes

  -- none of these brings one to this place
  abbrev IsQuiet : ℕ → List (DeskEvent D) → Type 0
  IsQuiet place events = filter is_submit (calls_at place (flat_map part_in events)) ≡ []

  -- the calls of a place, in the first event and in the others
  calls-first : (place : ℕ) (event : DeskEvent D) (events : List (DeskEvent D))
      → calls_at place (flat_map part_in (event ∷ events))
      ≡ calls_at place (part_in event) ++ calls_at place (flat_map part_in events)
  calls-first place event events =
      ap (flat_map calls_of) (flat_map-append (part_for place) (part_in event) (flat_map part_in events))
      ∙ flat_map-append calls_of (parts_at place (part_in event)) (parts_at place (flat_map part_in events))

  quiet-both : (place : ℕ) (event : DeskEvent D) (events : List (DeskEvent D)) → IsQuiet place (event ∷ events)
      → (filter is_submit (calls_at place (part_in event)) ≡ []) × IsQuiet place events
  quiet-both place event events none =
      let both = both-none (filter is_submit (calls_at place (part_in event)))
      (filter is_submit (calls_at place (flat_map part_in events)))
      (sym (filter-append is_submit (calls_at place (part_in event)) (calls_at place (flat_map part_in events)))
      ∙ (ap (filter is_submit) (sym (calls-first place event events)) ∙ none)) in
      (both.0, both.1)

  quiet-then : (place : ℕ) (event : DeskEvent D) (events : List (DeskEvent D))
      → filter is_submit (calls_at place (part_in event)) ≡ [] → IsQuiet place events → IsQuiet place (event ∷ events)
  quiet-then place event events first more =
      ap (filter is_submit) (calls-first place event events)
      ∙ (filter-append is_submit (calls_at place (part_in event)) (calls_at place (flat_map part_in events))
      ∙ (λ i. first i ++ more i))

  -- a part, at its place and at others
  part-here : (p place : ℕ) (part : Part) → (p == place) ≡ true
      → filter is_submit (calls_at place ((p, part) ∷ [])) ≡ filter is_submit (calls_of part)
  part-here p place part is =
      ap (λ b. filter is_submit (flat_map calls_of (cond b (part ∷ []) [] ++ []))) is
      ∙ ap (filter is_submit) (append-nil (calls_of part))

  part-there : (p place : ℕ) (part : Part) → (p == place) ≡ false
      → filter is_submit (calls_at place ((p, part) ∷ [])) ≡ []
  part-there p place part is = ap (λ b. filter is_submit (flat_map calls_of (cond b (part ∷ []) [] ++ []))) is

  -- where nothing waits, nothing waits after one thing that brings no frame
  quiet-step : (old mid : DesksNow D) (event : DeskEvent D) → HappensTo medium old event mid → (place : ℕ) (d : SeenDesk D)
      → slice_get old.desks place ≡ Some d → d.pending ≡ [] → filter is_submit (calls_at place (part_in event)) ≡ []
      → (m : SeenDesk D) × (slice_get mid.desks place ≡ Some m) × (m.pending ≡ [])
  quiet-step old mid (done p part) step place d first empty none = go (p == place) refl
    where
      go : (b : Bool) → (p == place) ≡ b → (m : SeenDesk D) × (slice_get mid.desks place ≡ Some m) × (m.pending ≡ [])
      go true here =
          let same : p ≡ place = eqb-true p place here in
          let was : step.goes.before ≡ d = some-same step.goes.before d
          (sym step.goes.at ∙ (ap (λ n. slice_get old.desks n) same ∙ first)) in (
            step.goes.after,
            ap (λ l. slice_get l place) step.goes.same
                ∙ (ap (λ n. slice_get (slice_set old.desks p step.goes.after) n) (sym same)
                ∙ get-set-same old.desks p step.goes.before step.goes.after step.goes.at),
            desk-quiet step.goes.before step.goes.after (calls_of part) step.goes.goes
                (ap (λ (x : SeenDesk D). x.pending) was ∙ empty) (sym (part-here p place part here) ∙ none),
          )
      go false apart = (
        d,
        ap (λ l. slice_get l place) step.goes.same
            ∙ get-other old.desks p place step.goes.after d (λ s. eqb-false p place apart (sym s)) first,
        empty,
      )
  quiet-step old mid (turned_to p) step place d first empty none =
      (d, ap (λ (n : DesksNow D). slice_get n.desks place) step.is ∙ first, empty)
  quiet-step old mid (joined_by desk) step place d first empty none =
      (d, ap (λ (n : DesksNow D). slice_get n.desks place) step ∙ get-before old.desks desk d place first, empty)

  -- and after any number
  quiet-keeps : (old new : DesksNow D) (events : List (DeskEvent D)) → Happened medium old events new → (place : ℕ)
      (d e : SeenDesk D) → slice_get old.desks place ≡ Some d → d.pending ≡ [] → IsQuiet place events
      → slice_get new.desks place ≡ Some e → e.pending ≡ []
  quiet-keeps old new [] went place d e first empty none last =
      let same : e ≡ d = some-same e d (sym last ∙ (ap (λ (n : DesksNow D). slice_get n.desks place) went ∙ first)) in
      ap (λ (x : SeenDesk D). x.pending) same ∙ empty
  quiet-keeps old new (event ∷ events) went place d e first empty none last =
      let both = quiet-both place event events none in
      let there = quiet-step old went.0 event went.1 place d first empty both.0 in
      quiet-keeps went.0 new events went.2 place there.0 e there.1 there.2 both.1 last

  -- ---- the desks that aren't active

  -- a part that isn't the active desk's brings no frame
  due-quiet : (now : DesksNow D) (p : ℕ) (part : Part) → IsDue medium now p part → (p ≡ now.active → ⊥)
      → filter is_submit (calls_of part) ≡ []
  due-quiet now p (own call) due apart = go (is_submit call) refl
    where
      go : (b : Bool) → is_submit call ≡ b → cond b (call ∷ []) [] ≡ []
      go true is = absurd (apart (due is).0)
      go false is = refl
  due-quiet now p (visited calls) due apart = due

  left-step : (old mid new : DesksNow D) (event : DeskEvent D) (events : List (DeskEvent D)) → HappensTo medium old event mid
      → Happened medium mid events new → (place : ℕ) (e : SeenDesk D) → slice_get new.desks place ≡ Some e
      → IsQuiet place events → (place ≡ mid.active → ⊥)
      → (e.pending ≡ []) ⊎ (IsQuiet place (event ∷ events) × (place ≡ old.active → ⊥))
  left-step old mid new (done p part) events step went place e last none apart =
      inr (quiet-then place (done p part) events (go (p == place) refl) none, still)
    where
      still : place ≡ old.active → ⊥
      still same = apart (same ∙ sym step.active)

      go : (b : Bool) → (p == place) ≡ b → filter is_submit (calls_at place ((p, part) ∷ [])) ≡ []
      go true here =
          part-here p place part here
          ∙ due-quiet old p part step.due (λ same. still (sym (eqb-true p place here) ∙ same))
      go false there = part-there p place part there
  left-step old mid new (turned_to p) events step went place e last none apart = go (place == old.active) refl
    where
      go : (b : Bool) → (place == old.active) ≡ b
          → (e.pending ≡ []) ⊎ (IsQuiet place (turned_to p ∷ events) × (place ≡ old.active → ⊥))
      go true here =
          let same : place ≡ old.active = eqb-true place old.active here in
          inl (quiet-keeps mid new events went place step.between.0 e
          (ap (λ (n : DesksNow D). slice_get n.desks place) step.is
          ∙ (ap (λ n. slice_get old.desks n) same ∙ step.between.1)) step.between.2.0 none last)
      go false there = inr (quiet-then place (turned_to p) events refl none, eqb-false place old.active there)
  left-step old mid new (joined_by desk) events step went place e last none apart =
      inr (
        quiet-then place (joined_by desk) events refl none,
        λ same. apart (same ∙ ap (λ (n : DesksNow D). n.active) (sym step)),
      )

  left-after : (old new : DesksNow D) (events : List (DeskEvent D)) → Happened medium old events new → (place : ℕ)
      (e : SeenDesk D) → slice_get new.desks place ≡ Some e → (place ≡ new.active → ⊥)
      → (e.pending ≡ []) ⊎ (IsQuiet place events × (place ≡ old.active → ⊥))
  left-after old new [] went place e last apart =
      inr (refl, λ same. apart (same ∙ ap (λ (n : DesksNow D). n.active) (sym went)))
  left-after old new (event ∷ events) went place e last apart = go (left-after went.0 new events went.2 place e last apart)
    where
      go : (e.pending ≡ []) ⊎ (IsQuiet place events × (place ≡ went.0.active → ⊥))
          → (e.pending ≡ []) ⊎ (IsQuiet place (event ∷ events) × (place ≡ old.active → ⊥))
      go (inl empty) = inl empty
      go (inr both) = left-step old went.0 new event events went.1 went.2 place e last both.0 both.1

  -- so a back leaves them
  pub leaves : {A : Type 0} (asks : DeskCall → Type 0) (gives_up : StoreFault → Type 0) (seen : SeenBack D A)
      (from : Consumer (Frame A) A AnyItems) (given_up : ℕ) (refused : Bool)
      → BackKeeps medium asks gives_up seen from given_up refused → AreLeft medium seen.began seen.desks seen.active
  leaves asks gives_up seen from given_up refused keeps place d e first last apart =
      go (left-after (record { desks = keeps.first ∷ []; active = 0; end = seen.start }) (desks_now seen) keeps.events
      keeps.happened place e last apart)
    where
      go : (e.pending ≡ []) ⊎ (IsQuiet place keeps.events × (place ≡ 0 → ⊥)) → (e.pending ≡ []) ⊎ GotNone medium d e
      go (inl empty) = inl empty
      go (inr both) = inr (record {
        parts = parts_at place keeps.parts;
        went = (keeps.served place d e first last).went;
        none = ap (λ l. filter is_submit (calls_at place l)) keeps.are ∙ both.0;
      })
