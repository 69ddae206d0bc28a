-- When a keep is done, and what else is decided for good.
use Rattle.std.proofs.Common.{◌≡◌, ◌≢◌, ℕ, ◌==◌, ◌≤◌, ◌⊎◌, ◌||◌, ◌&&◌, Bool, true, false, not, Option, Some, None, arith, refl, sym, ap, subst, inl, inr, is_some, unwrap_or, max, nat_le, if◌then◌else◌, ◌∙◌, ◌<◌, ◌-◌}
use Rattle.std.proofs.lemmas.Grind.{common_steps}
use Rattle.loop_station_core.specs.Clips.{CoveredPartsAreWithin, leave_for_part}
use Rattle.loop_station_core.specs.Gaps.{HasEach, lies_within}
use Rattle.loop_station_core.specs.Sets.{store_of}
use Rattle.loop_station_core.specs.declared.leave.ShownClip.{ShownClip}
use Rattle.loop_station_core.specs.Keeps.{acts, end_seen, is_clear, is_done, is_over, looked, needed, part_is_due, part_locked, progress_seen, step_keep, steps_taken, KeepsLockEachBlock, has_newest, StuckKeepsEnd, ProgressIsSeen, KeepsLockOnce}
use Rattle.loop_station_core.specs.declared.keep.Keep.{Keep}
use Rattle.loop_station_core.specs.declared.keep.Look.{Look}
use Rattle.loop_station_core.specs.declared.keep.KeepTurn.TheVariants.{Wait, Whole, Part}
use Rattle.std.proofs.lemmas.Bool.{ne_eqb, eq-eqb}

both : (a b : Bool) → a ≡ true → b ≡ true → a && b ≡ true
both true true d e = refl
both true false d e = e
both false b d e = d

le-true : (a b : ℕ) → a ≤ b → nat_le a b ≡ true
le-true a b less = grind (arith, common_steps)

-- how many frames had come by its end, once that has passed
known : (m : Keep) (t c : ℕ) (o : Option ℕ) → m.all ≡ o → m.until ≤ t → (end_seen m t c).all ≡ Some (unwrap_or o (max c m.come))
known m t c (Some n) is over =
    subst (λ b. (if b then record m { all = Some (max c m.come) } else m).all ≡ Some n)
    (sym (ap (λ o. nat_le m.until t && not (is_some o)) is ∙ none (nat_le m.until t))) is
  where
    none : (b : Bool) → b && false ≡ false
    none true = refl
    none false = refl
known m t c None is over =
    subst (λ b. (if b then record m { all = Some (max c m.come) } else m).all ≡ Some (max c m.come))
    (sym (ap (λ o. nat_le m.until t && not (is_some o)) is ∙ both (nat_le m.until t) true (le-true m.until t over) refl)) refl

acts-whole : (k : Keep) (l : Look) → is_done k l ≡ true → (acts k l).1 ≡ Whole
acts-whole k l h = subst (λ b. (if b then (k, Whole) else (if part_is_due k l then part_locked k l else (k, Wait))).1 ≡ Whole) (sym h) refl

or-true : (a b : Bool) → a ≡ true → a || b ≡ true
or-true true b e = refl
or-true false b e = absurd (cc)

done-with : (k : Keep) (l : Look) (n : ℕ) → k.all ≡ Some n → n ≤ l.tally.brought → is_done k l ≡ true
done-with k l n is enough =
    both (is_over k l) (is_clear (needed k l) k l)
    (ap (λ o. is_some o || l.stopping) is)
    (ap (λ o. is_clear (unwrap_or o (max l.come k.come)) k l) is
    ∙ or-true (nat_le n l.tally.brought) _ (le-true n l.tally.brought enough))

moved-same : (k : Keep) (steps now : ℕ) → ((progress_seen k steps now).all ≡ k.all) × ((progress_seen k steps now).until ≡ k.until) × ((progress_seen k steps now).come ≡ k.come)
moved-same k steps now = elim (steps == k.steps) as (λ b. let r : Keep = if b then k else record k { steps = steps; moved = now } in
    (r.all ≡ k.all) × (r.until ≡ k.until) × (r.come ≡ k.come))
    [ true ↦ (refl, refl, refl) | false ↦ (refl, refl, refl) ]

-- what is known of its end when it has looked
looked-all : (k : Keep) (l : Look) → k.until ≤ l.time → (looked k l).all ≡ Some (unwrap_or k.all (max l.come k.come))
looked-all k l over =
    let m = progress_seen k (steps_taken l.tally) l.time in
    let same = moved-same k (steps_taken l.tally) l.time in
    known m l.time l.come k.all same.0 (subst (λ u. u ≤ l.time) (sym same.1) over)
    ∙ ap (λ c. Some (unwrap_or k.all (max l.come c))) same.2

pub keeps-end : (k : Keep) (l : Look) → k.until ≤ l.time → unwrap_or k.all (max l.come k.come) ≤ l.tally.brought
    → (step_keep k l).1 ≡ Whole
keeps-end k l over enough = acts-whole (looked k l) l (done-with (looked k l) l _ (looked-all k l over) enough)

has-each : (part longer : ShownClip) → part.from ≤ part.to → lies_within part longer ≡ true → HasEach part longer
has-each part longer some is =
    let other : part.id ≢ longer.id = λ same. grind (arith, common_steps) in
    let store : store_of part.id ≡ store_of longer.id = grind (arith, common_steps) in
    let from : longer.from ≤ part.from = grind (arith, common_steps) in
    let to : part.to ≤ longer.to = grind (arith, common_steps) in
    (other, store, λ n a b. (omega (arith, from, a), omega (arith, to, b)))

covers-it : (part longer : ShownClip) → part.from ≤ part.to → HasEach part longer → lies_within part longer ≡ true
covers-it part longer some has =
    let first = has.2 part.from (grind (arith, common_steps)) some in
    let last = has.2 part.to some (grind (arith, common_steps)) in
    let other : not (part.id == longer.id) ≡ true = ap not (ne_eqb part.id longer.id has.0) in
    both (not (part.id == longer.id)) _ other
    (both (store_of part.id == store_of longer.id) _ (eq-eqb (store_of part.id) (store_of longer.id) has.1)
    (both (nat_le longer.from part.from) (nat_le part.to longer.to) (le-true longer.from part.from first.0)
    (le-true part.to longer.to last.1)))

pub within : CoveredPartsAreWithin
within true part longer clip some = ((λ e. absurd (cc)), (λ e. absurd (cc)))
within false part longer clip some = at (lies_within part longer) refl
  where
    at : (b : Bool) → lies_within part longer ≡ b
        → (leave_for_part false part longer ≡ Some clip → (clip ≡ part) × (false ≡ false) × HasEach part longer)
        × (false ≡ false → HasEach part longer → leave_for_part false part longer ≡ Some part)
    at true is =
        ((λ e. (grind (arith, common_steps), refl, has-each part longer some is)), (λ e has. grind (arith, common_steps)))
    at false is =
        ((λ e. grind (arith, common_steps)), (λ e has. let so = covers-it part longer some has in absurd (cc)))

-- one that is due locks a part
acts-now : (k : Keep) (l : Look) → part_is_due k l ≡ true → (acts k l).1 ≢ Wait
acts-now k l h e = at (is_done k l) refl
  where
    at : (b : Bool) → is_done k l ≡ b → ⊥
    at true d = grind (arith, common_steps)
    at false d = grind (arith, common_steps)

ended-same : (k : Keep) (t c : ℕ) → ((end_seen k t c).part ≡ k.part) × ((end_seen k t c).block ≡ k.block)
    × ((end_seen k t c).come ≡ k.come)
ended-same k t c = elim (nat_le k.until t && not (is_some k.all)) as (λ b. let r : Keep = if b then record k { all = Some (max c k.come) } else k in
    (r.part ≡ k.part) × (r.block ≡ k.block) × (r.come ≡ k.come))
    [ true ↦ (refl, refl, refl) | false ↦ (refl, refl, refl) ]

moved-part : (k : Keep) (steps now : ℕ) → ((progress_seen k steps now).part ≡ k.part) × ((progress_seen k steps now).block ≡ k.block)
moved-part k steps now = elim (steps == k.steps) as (λ b. let r : Keep = if b then k else record k { steps = steps; moved = now } in
    (r.part ≡ k.part) × (r.block ≡ k.block))
    [ true ↦ (refl, refl) | false ↦ (refl, refl) ]

looked-part : (k : Keep) (l : Look) → ((looked k l).part ≡ k.part) × ((looked k l).block ≡ k.block) × ((looked k l).come ≡ k.come)
looked-part k l =
    let m = progress_seen k (steps_taken l.tally) l.time in
    let a = ended-same m l.time l.come in let b = moved-part k (steps_taken l.tally) l.time in
    let c = moved-same k (steps_taken l.tally) l.time in
    (a.0 ∙ b.0, a.1 ∙ b.1, a.2 ∙ c.2)

is-due : (k : Keep) (l : Look) → k.come ≤ l.tally.brought → (k.part ≡ None) ⊎ (k.block ≢ l.block) → part_is_due k l ≡ true
is-due k l here (inl none) =
    both (is_clear k.come k l) (not (has_newest k l)) (or-true (nat_le k.come l.tally.brought) _ (le-true k.come l.tally.brought here))
    (grind (arith, common_steps))
is-due k l here (inr other) =
    let differs : (k.block == l.block) ≡ false = ne_eqb k.block l.block other in
    both (is_clear k.come k l) (not (has_newest k l)) (or-true (nat_le k.come l.tally.brought) _ (le-true k.come l.tally.brought here))
    (grind (arith, common_steps))

pub keeps-lock : KeepsLockEachBlock
keeps-lock k l here either =
    let same = looked-part k l in
    acts-now (looked k l) l (is-due (looked k l) l (subst (λ n. n ≤ l.tally.brought) (sym same.2) here) (at either))
  where
    at : (k.part ≡ None) ⊎ (k.block ≢ l.block) → ((looked k l).part ≡ None) ⊎ ((looked k l).block ≢ l.block)
    at (inl none) = inl ((looked-part k l).0 ∙ none)
    at (inr other) = inr (λ e. other (sym (looked-part k l).1 ∙ e))

-- its end is seen, or the program ends
over-seen : (k : Keep) (l : Look) → (k.until ≤ l.time) ⊎ (l.stopping ≡ true) → is_over (looked k l) l ≡ true
over-seen k l (inl past) = ap (λ o. is_some o || l.stopping) (looked-all k l past)
over-seen k l (inr stop) = or-second (is_some (looked k l).all) l.stopping stop
  where
    or-second : (a b : Bool) → b ≡ true → a || b ≡ true
    or-second true b e = refl
    or-second false b e = e

clear-if : (k : Keep) (l : Look)
    → (l.locked ≡ true) ⊎ ((60000000 < l.time - k.moved) ⊎ (needed k l ≤ l.tally.brought)) → is_clear (needed k l) k l ≡ true
clear-if k l (inl locked) = grind (arith, common_steps)
clear-if k l (inr (inl stuck)) = grind (arith, common_steps)
clear-if k l (inr (inr enough)) = or-true (nat_le (needed k l) l.tally.brought) _ (le-true (needed k l) l.tally.brought enough)

pub stuck-end : StuckKeepsEnd
stuck-end k l over clear =
    acts-whole (looked k l) l (both (is_over (looked k l) l) (is_clear (needed (looked k l) l) (looked k l) l)
    (over-seen k l over) (clear-if (looked k l) l clear))

ended-moved : (k : Keep) (t c : ℕ) → (end_seen k t c).moved ≡ k.moved
ended-moved k t c = elim (nat_le k.until t && not (is_some k.all)) as (λ b. (if b then record k { all = Some (max c k.come) } else k).moved ≡ k.moved)
    [ true ↦ refl | false ↦ refl ]

pub progress-is-seen : ProgressIsSeen
progress-is-seen k l =
    let m = progress_seen k (steps_taken l.tally) l.time in (
      (λ same. ended-moved m l.time l.come ∙ ap (λ b. (if b then k else record k { steps = steps_taken l.tally; moved = l.time }).moved) (eq-eqb (steps_taken l.tally) k.steps same)),
      (λ other. ended-moved m l.time l.come ∙ ap (λ b. (if b then k else record k { steps = steps_taken l.tally; moved = l.time }).moved) (ne_eqb (steps_taken l.tally) k.steps other)),
    )

-- what locks a part hasn't locked its block
part-new : (k : Keep) (l : Look) (until : ℕ) (b c : Bool) → is_done k l ≡ b → part_is_due k l ≡ c → (acts k l).1 ≡ Part until
    → (has_newest k l ≡ false) × (has_newest (acts k l).0 l ≡ true)
part-new k l until true c d e is = grind (arith, common_steps)
part-new k l until false false d e is = grind (arith, common_steps)
part-new k l until false true d e is =
    let same : (l.block == l.block) ≡ true = grind (arith, common_steps) in
    (grind (arith, common_steps), grind (arith, common_steps))

pub keeps-lock-once : KeepsLockOnce
keeps-lock-once k l until is =
    let new = part-new (looked k l) l until (is_done (looked k l) l) (part_is_due (looked k l) l) refl refl is in
    let same = looked-part k l in (
      subst (λ p. is_some p && (k.block == l.block) ≡ false) same.0
          (subst (λ b. is_some (looked k l).part && (b == l.block) ≡ false) same.1 new.0),
      new.1,
    )
