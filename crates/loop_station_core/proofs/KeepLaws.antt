-- What a keep does is right by its line.
use Rattle.std.proofs.Common.{◌≡◌, ◌∙◌, ap, subst, sym, ℕ, ◌≤◌, ◌⊎◌, ◌||◌, ◌&&◌, ◌==◌, Bool, true, false, not, List, [], ◌∷◌, Option, Some, None, arith, refl, inl, inr, is_some, unwrap_or, max, min, nat_le, if◌then◌else◌}
use Rattle.std.proofs.lemmas.Grind.{common_steps}
use Rattle.loop_station_core.specs.Keeps.{AreInOrder, EachTurn, HasTimesOf, IsClear, IsRight, IsTimely, acts, end_seen, is_clear, is_done, looked, needed, part_is_due, part_locked, progress_seen, step_keep, steps_taken}
use Rattle.loop_station_core.specs.declared.keep.Keep.{Keep}
use Rattle.loop_station_core.specs.declared.keep.Look.{Look}
use Rattle.loop_station_core.specs.declared.keep.KeepTurn.{KeepTurn}
use Rattle.loop_station_core.specs.declared.keep.KeepTurn.TheVariants.{Wait, Part, Whole}

-- times of a third keep
times-joined : (a b c : Keep) → HasTimesOf a b → HasTimesOf b c → HasTimesOf a c
times-joined a b c h i = (cc, cc, cc, cc, cc)

-- seeing progress keeps the times
moved-times : (k : Keep) (steps now : ℕ) → HasTimesOf k (progress_seen k steps now)
moved-times k steps now = elim (steps == k.steps) as (λ b. HasTimesOf k (if b then k else record k { steps = steps; moved = now }))
    [ true ↦ (refl, refl, refl, refl, refl) | false ↦ (refl, refl, refl, refl, refl) ]

-- seeing its end keeps the times
ended-times : (k : Keep) (now come : ℕ) → HasTimesOf k (end_seen k now come)
ended-times k now come = elim (nat_le k.until now && not (is_some k.all)) as (λ b. HasTimesOf k (if b then record k { all = Some (max come k.come) } else k))
    [ true ↦ (refl, refl, refl, refl, refl) | false ↦ (refl, refl, refl, refl, refl) ]

looked-times : (k : Keep) (l : Look) → HasTimesOf k (looked k l)
looked-times k l = times-joined k (progress_seen k (steps_taken l.tally) l.time) (looked k l) (moved-times k (steps_taken l.tally) l.time)
    (ended-times (progress_seen k (steps_taken l.tally) l.time) l.time l.come)

-- acting keeps the times, and what is known of its end
acts-times : (k : Keep) (l : Look) → HasTimesOf k (acts k l).0 × ((acts k l).0.all ≡ k.all)
acts-times k l = elim (is_done k l) as (λ b. let r : Keep × KeepTurn = if b then (k, Whole) else (if part_is_due k l then part_locked k l else (k, Wait)) in
    HasTimesOf k r.0 × (r.0.all ≡ k.all)) [
      | true ↦ ((refl, refl, refl, refl, refl), refl)
      | false ↦ elim (part_is_due k l) as (λ b. let r : Keep × KeepTurn = if b then part_locked k l else (k, Wait) in HasTimesOf k r.0 × (r.0.all ≡ k.all)) [
        | true ↦ ((refl, refl, refl, refl, refl), refl)
        | false ↦ ((refl, refl, refl, refl, refl), refl)
      ]
    ]

-- what is known of its end stays right
sound-along : (k k' : Keep) (now : ℕ) → IsTimely now k → HasTimesOf k k' → k'.all ≡ k.all → IsTimely now k'
sound-along k k' now s t e n h =
    let is : k.all ≡ Some n = cc in
    let was = s n is in
    let until : k'.until ≡ k.until = t.2 in
    let come : k'.come ≡ k.come = t.4 in
    (omega arith, omega arith)

sound-later : (k : Keep) (now later : ℕ) → now ≤ later → IsTimely now k → IsTimely later k
sound-later k now later h s n e = let was = s n e in (omega arith, was.1)

moved-all : (k : Keep) (steps now : ℕ) → (progress_seen k steps now).all ≡ k.all
moved-all k steps now = elim (steps == k.steps) as (λ b. (if b then k else record k { steps = steps; moved = now }).all ≡ k.all)
    [ true ↦ refl | false ↦ refl ]

-- how many frames had come by its end is seen once that has passed
ended-sound : (k : Keep) (now come : ℕ) → IsTimely now k → IsTimely now (end_seen k now come)
ended-sound k now come s = at (nat_le k.until now && not (is_some k.all)) refl
  where
    at : (b : Bool) → nat_le k.until now && not (is_some k.all) ≡ b → IsTimely now (if b then record k { all = Some (max come k.come) } else k)
    at true h n e = let is : max come k.come ≡ n = cc in (grind (arith, common_steps), omega arith)
    at false h n e = s n e

looked-sound : (k : Keep) (l : Look) → IsTimely l.time k → IsTimely l.time (looked k l)
looked-sound k l s = ended-sound (progress_seen k (steps_taken l.tally) l.time) l.time l.come
    (sound-along k (progress_seen k (steps_taken l.tally) l.time) l.time s (moved-times k (steps_taken l.tally) l.time) (moved-all k (steps_taken l.tally) l.time))

-- what it means that a keep is free
free-means : (needs : ℕ) (k : Keep) (l : Look) → is_clear needs k l ≡ true → IsClear needs k l
free-means needs k l h = grind (arith, common_steps)

free-of-fewer : (few many : ℕ) (k : Keep) (l : Look) → few ≤ many → IsClear many k l → IsClear few k l
free-of-fewer few many k l h (inl enough) = inl (omega arith)
free-of-fewer few many k l h (inr stuck) = inr stuck

-- what it means that it is done
done-at : (a : Option ℕ) (k : Keep) (l : Look) → k.all ≡ a → IsTimely l.time k
    → (is_some a || l.stopping) && is_clear (unwrap_or a (max l.come k.come)) k l ≡ true
    → ((k.until ≤ l.time) ⊎ (l.stopping ≡ true)) × IsClear k.come k l
done-at (Some n) k l e s h = (inl (s n e).0, free-of-fewer k.come n k l (s n e).1 (free-means n k l h))
done-at None k l e s h =
    let both : (l.stopping ≡ true) × (is_clear (max l.come k.come) k l ≡ true) = grind (arith, common_steps) in
    (inr both.0, free-of-fewer k.come (max l.come k.come) k l (omega arith) (free-means (max l.come k.come) k l both.1))

-- what a keep that has looked does is right
acts-right : (k : Keep) (l : Look) → IsTimely l.time k → IsRight k l (acts k l).0 (acts k l).1
acts-right k l s = done (is_done k l) refl
  where
    due : (b : Bool) → part_is_due k l ≡ b → let r : Keep × KeepTurn = if b then part_locked k l else (k, Wait) in IsRight k l r.0 r.1
    due true h = (refl, free-means k.come k l (grind (arith, common_steps)))
    due false h = tt

    done : (b : Bool) → is_done k l ≡ b
        → let r : Keep × KeepTurn = if b then (k, Whole) else (if part_is_due k l then part_locked k l else (k, Wait)) in IsRight k l r.0 r.1
    done true h = done-at k.all k l refl s h
    done false h = due (part_is_due k l) refl

-- the same of the keep before it looked
right-along : (k k' : Keep) (l : Look) (after : Keep) (t : KeepTurn) → HasTimesOf k k' → IsRight k' l after t → IsRight k l after t
right-along k k' l after Wait h r = tt
right-along k k' l after (Part until) h r =
    let ends : k'.until ≡ k.until = h.2 in let comes : k'.come ≡ k.come = h.4 in
    (cc, free-of-fewer k.come k'.come after l (omega arith) r.1)
right-along k k' l after Whole h r =
    let ends : k'.until ≡ k.until = h.2 in let comes : k'.come ≡ k.come = h.4 in
    (over r.0, free-of-fewer k.come k'.come after l (omega arith) r.1)
  where
    over : ((k'.until ≤ l.time) ⊎ (l.stopping ≡ true)) → ((k.until ≤ l.time) ⊎ (l.stopping ≡ true))
    over (inl passed) = inl (let e : k'.until ≡ k.until = h.2 in omega arith)
    over (inr stops) = inr stops

pub step-times : (k : Keep) (l : Look) → HasTimesOf k (step_keep k l).0
step-times k l = times-joined k (looked k l) (step_keep k l).0 (looked-times k l) (acts-times (looked k l) l).0

-- a part that is locked ends no later than the keep
acts-within : (k : Keep) (l : Look) (until : ℕ) → (acts k l).1 ≡ Part until → until ≤ k.until
acts-within k l until = done (is_done k l)
  where
    due : (b : Bool) → (let r : Keep × KeepTurn = if b then part_locked k l else (k, Wait) in r.1 ≡ Part until)
        → until ≤ k.until
    due true e = let is : min l.time k.until ≡ until = cc in grind (arith, common_steps)
    due false e = absurd (cc)

    done : (b : Bool)
        → (let r : Keep × KeepTurn = if b then (k, Whole) else (if part_is_due k l then part_locked k l else (k, Wait)) in
        r.1 ≡ Part until)
        → until ≤ k.until
    done true e = absurd (cc)
    done false e = due (part_is_due k l) e

pub step-within : (k : Keep) (l : Look) (until : ℕ) → (step_keep k l).1 ≡ Part until → until ≤ k.until
step-within k l until e =
    let ends : (looked k l).until ≡ k.until = (looked-times k l).2 in
    subst (λ n. until ≤ n) ends (acts-within (looked k l) l until e)

step-right : (k : Keep) (l : Look) → IsTimely l.time k → IsRight k l (step_keep k l).0 (step_keep k l).1
step-right k l s = right-along k (looked k l) l (step_keep k l).0 (step_keep k l).1 (looked-times k l) (acts-right (looked k l) l (looked-sound k l s))

step-sound : (k : Keep) (l : Look) → IsTimely l.time k → IsTimely l.time (step_keep k l).0
step-sound k l s = sound-along (looked k l) (step_keep k l).0 l.time (looked-sound k l s) (acts-times (looked k l) l).0 (acts-times (looked k l) l).1

-- the same of each look of a list, by the line of the first keep
all-right : (first k : Keep) (now : ℕ) (looks : List Look) → HasTimesOf first k → IsTimely now k → AreInOrder now looks
    → EachTurn (λ look after turn. IsRight first look after turn × HasTimesOf first after) k looks
all-right first k now [] h s o = tt
all-right first k now (l ∷ ls) h s o =
    let later = sound-later k now l.time o.0 s in (
      (right-along first k l (step_keep k l).0 (step_keep k l).1 h (step-right k l later), times-joined first k (step_keep k l).0 h (step-times k l)),
      all-right first (step_keep k l).0 l.time ls (times-joined first k (step_keep k l).0 h (step-times k l)) (step-sound k l later) o.1,
    )

pub keeps-right : (k : Keep) (now : ℕ) (looks : List Look) → IsTimely now k → AreInOrder now looks
    → EachTurn (λ look after turn. IsRight k look after turn × HasTimesOf k after) k looks
keeps-right k now looks s o = all-right k k now looks (refl, refl, refl, refl, refl) s o

-- how many frames it needs, by what was known before it looked
needed-is : (k : Keep) (l : Look) → needed (looked k l) l ≡ unwrap_or k.all (max l.come k.come)
needed-is k l =
    let m = progress_seen k (steps_taken l.tally) l.time in
    at m k.all (moved-all k (steps_taken l.tally) l.time) (moved-times k (steps_taken l.tally) l.time).4
  where
    none : (b : Bool) → b && false ≡ false
    none true = refl
    none false = refl

    by : (m : Keep) → m.all ≡ None → m.come ≡ k.come → (b : Bool) → nat_le m.until l.time ≡ b
        → needed (end_seen m l.time l.come) l ≡ max l.come k.come
    by m is come true h = subst (λ b. needed (if b then record m { all = Some (max l.come m.come) } else m) l ≡ max l.come k.come)
        (sym (ap (λ o. nat_le m.until l.time && not (is_some o)) is ∙ ap (λ x. x && true) h)) (ap (λ c. max l.come c) come)
    by m is come false h = subst (λ b. needed (if b then record m { all = Some (max l.come m.come) } else m) l ≡ max l.come k.come)
        (sym (ap (λ o. nat_le m.until l.time && not (is_some o)) is ∙ ap (λ x. x && true) h))
        (ap (λ o. unwrap_or o (max l.come m.come)) is ∙ ap (λ c. max l.come c) come)

    at : (m : Keep) (o : Option ℕ) → m.all ≡ o → m.come ≡ k.come
        → needed (end_seen m l.time l.come) l ≡ unwrap_or o (max l.come k.come)
    at m (Some n) is come = subst (λ b. needed (if b then record m { all = Some (max l.come m.come) } else m) l ≡ n)
        (sym (ap (λ o. nat_le m.until l.time && not (is_some o)) is ∙ none (nat_le m.until l.time)))
        (ap (λ o. unwrap_or o (max l.come m.come)) is)
    at m None is come = by m is come (nat_le m.until l.time) refl

-- where it is done, that many are clear
clear-at : (k : Keep) (l : Look) (b c : Bool) → is_done k l ≡ b → part_is_due k l ≡ c
    → (let r : Keep × KeepTurn = if b then (k, Whole) else (if c then part_locked k l else (k, Wait)) in r.1 ≡ Whole
    → IsClear (needed k l) r.0 l)
clear-at k l true c h i e = free-means (needed k l) k l (grind (arith, common_steps))
clear-at k l false true h i e = absurd (cc)
clear-at k l false false h i e = absurd (cc)

pub keeps-have-all : (k : Keep) (l : Look) → (step_keep k l).1 ≡ Whole
    → IsClear (unwrap_or k.all (max l.come k.come)) (step_keep k l).0 l
keeps-have-all k l e =
    subst (λ n. IsClear n (step_keep k l).0 l) (needed-is k l)
    (clear-at (looked k l) l (is_done (looked k l) l) (part_is_due (looked k l) l) refl refl e)
