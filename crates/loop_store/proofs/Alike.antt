-- Recordings with the same numbers: the checks, the places and the steps of calls are the same.
use Rattle.std.proofs.Common.{◌≡◌, inl, inr, ℕ, ◌+◌, ◌-◌, Bool, true, false, not, eqb, ltb, option_map, get_or, map, Option, None, Some, List, [], ◌∷◌, ◌++◌, length, set, sym, ap, ◌∙◌, subst}
use Rattle.std.specs.List.{find, range_with_len}
use Rattle.loop_record.specs.declared.clip.Span.{Span}
use Rattle.loop_record.specs.declared.geometry.Geometry.{Geometry}
use Rattle.loop_record.specs.Layout.{has_tag_place}
use Rattle.loop_record.specs.Recording.{Picture, Recording, Ring, Step, after_step, clip_of, first_free, lock, needs_recycling, plain, recycling_first, ring_of, store, unlock, victim}
use Rattle.loop_record.proofs.Steps.{plain-append}
use Rattle.loop_store.specs.declared.fault.StoreFault.{StoreFault}
use Rattle.loop_store.specs.declared.fault.StoreFault.TheVariants.{ClipEmpty, ClipNotHeld, ClipTableFull, OldLayout}
use Rattle.loop_store.specs.Calls.{due, first_of, missing, span_checks}
use Rattle.loop_store.specs.AppendPlace.{RefusesPlace, steps_before}
use Rattle.loop_store.proofs.Same.{IsSame, clips-same, holds-same, needs-same, recycled-same, stored-same, victim-same}
use Rattle.loop_record.proofs.Names.{free_id}
use Rattle.loop_store.proofs.Names.{steps_or_none}

-- ---- a lock

pub missing-same : (r t : Recording) (span : Span) → IsSame r t → missing r span ≡ missing t span
missing-same r t span same = λ i. find (λ n. not (holds-same r t n same i)) (range_with_len span.from (span.to + 1 - span.from))

pub free-same : (r t : Recording) → IsSame r t → free_id r ≡ free_id t
free-same r t same = ap first_free same.clips

pub span-same : (v : ℕ) (r t : Recording) (span : Span) → IsSame r t
    → first_of (span_checks v r span) ≡ first_of (span_checks v t span)
span-same v r t span same = λ i. first_of (due (ltb span.to span.from) ClipEmpty
    ∷ option_map ClipNotHeld (missing-same r t span same i) ∷ due (eqb (free-same r t same i) 64) ClipTableFull
    ∷ due (not (has_tag_place v span)) OldLayout ∷ [])

pub clip-same : (r t : Recording) (id : ℕ) → IsSame r t → clip_of r id ≡ clip_of t id
clip-same r t id same = ap (λ (cs : List (Option Span)). get_or cs id None) same.clips

pub locked-same : (ring : Ring) (r t : Recording) (span : Span) → IsSame r t → IsSame (after_step ring r (lock span))
    (after_step ring t (lock span))
locked-same ring r t span same = clips-same r t _ _ same (λ i. set (same.clips i) (free-same r t same i) (Some span))

pub unlocked-same : (ring : Ring) (r t : Recording) (id : ℕ) → IsSame r t → IsSame (after_step ring r (unlock id))
    (after_step ring t (unlock id))
unlocked-same ring r t id same = clips-same r t _ _ same (ap (λ (cs : List (Option Span)). set cs id None) same.clips)

-- ---- an append

pub place-same : (g : Geometry) (keep : ℕ) (r t : Recording) → IsSame r t → recycling_first (needs_recycling (ring_of g) r)
    (victim (ring_of g) keep r) ≡ recycling_first (needs_recycling (ring_of g) t) (victim (ring_of g) keep t)
place-same g keep r t same =
    let needs = needs-same (ring_of g) r t same in let goes = victim-same (ring_of g) keep r t same in λ i.
    recycling_first (needs i) (goes i)

pub refuses-same : (g : Geometry) (keep : ℕ) (r t : Recording) (fault : StoreFault) → IsSame r t → RefusesPlace g keep r fault
    → RefusesPlace g keep t fault
refuses-same g keep r t fault same (inl x) = inl (x.0, sym same.next ∙ x.1)
refuses-same g keep r t fault same (inr x) = inr (x.0, (λ spent. x.1.0 (same.next ∙ spent), sym (place-same g keep r t same) ∙ x.1.1))

before-steps : (ring : Ring) (r t : Recording) (recycles : Bool) (v : Option ℕ) → IsSame r t
    → IsSame (plain ring r (steps_or_none (recycling_first recycles v)))
    (plain ring t (steps_or_none (recycling_first recycles v)))
before-steps ring r t false v same = same
before-steps ring r t true None same = same
before-steps ring r t true (Some b) same = recycled-same ring r t b same

before-same : (g : Geometry) (keep : ℕ) (r t : Recording) → IsSame r t → IsSame (plain (ring_of g) r (steps_before g keep r))
    (plain (ring_of g) t (steps_before g keep t))
before-same g keep r t same =
    subst (λ (o : Option (List Step)). IsSame (plain (ring_of g) r (steps_before g keep r))
    (plain (ring_of g) t (steps_or_none o))) (place-same g keep r t same)
    (before-steps (ring_of g) r t (needs_recycling (ring_of g) r) (victim (ring_of g) keep r) same)

pub appended-same : (g : Geometry) (keep : ℕ) (r t : Recording) (ps qs : List Picture) → IsSame r t → length ps ≡ length qs
    → IsSame (plain (ring_of g) r (steps_before g keep r ++ map store ps)) (plain (ring_of g) t (steps_before g keep t ++ map store qs))
appended-same g keep r t ps qs same count =
    let a = plain-append (ring_of g) r (steps_before g keep r) (map store ps) in
    let b = plain-append (ring_of g) t (steps_before g keep t) (map store qs) in
    subst (λ (x : Recording). IsSame x (plain (ring_of g) t (steps_before g keep t ++ map store qs))) (sym a)
    (subst (λ (x : Recording). IsSame (plain (ring_of g) (plain (ring_of g) r (steps_before g keep r)) (map store ps)) x) (sym b)
    (stored-same (ring_of g) (plain (ring_of g) r (steps_before g keep r))
    (plain (ring_of g) t (steps_before g keep t)) ps qs (before-same g keep r t same) count))
