-- Where every block is locked, the oldest clip goes that may.
use Rattle.std.proofs.Common.{◌≡◌, ◌∙◌, sym, ℕ, ◌≤◌, ◌==◌, ◌&&◌, ◌⊎◌, inl, inr, Bool, true, false, not, List, [], ◌∷◌, Option, Some, None, zero, suc, slice_get, nat_le, nat_lt, ap, arith, refl, subst}
use Rattle.std.proofs.lemmas.Bool.{eqb-true, eq-eqb}
use Rattle.std.proofs.lemmas.Grind.{common_steps}
use Rattle.loop_station_core.specs.Full.{AllowedClipsGo, IsAllowed, OldestClipsGo, full_leave, oldest_so_far, oldest_of, may_go, older_of}
use Rattle.loop_station_core.specs.declared.full.FullRule.{FullRule}
use Rattle.loop_station_core.specs.declared.full.FullRule.TheVariants.{Waits, OldestSaved, Oldest}
use Rattle.loop_station_core.specs.declared.full.LockedClip.{LockedClip}
use Rattle.loop_station_core.specs.declared.leave.ShownClip.{ShownClip}

may : (rule : FullRule) (clip : LockedClip) → IsAllowed rule clip → may_go rule clip ≡ true
may Waits clip h = absurd h
may OldestSaved clip h = let s = h.0 in let r = h.1 in grind (arith, common_steps)
may (Oldest None) clip h = grind (arith, common_steps)
may (Oldest (Some tag)) clip h =
    let t = eq-eqb clip.clip.tag tag h.0 in let r = h.1 in grind (arith, common_steps)

and-both : (a b : Bool) → a && not b ≡ true → (a ≡ true) × (b ≡ false)
and-both true false e = (refl, refl)
and-both true true e = absurd (cc)
and-both false b e = absurd (cc)

not-read : (b : Bool) → not b ≡ true → b ≡ false
not-read false e = refl
not-read true e = absurd (cc)

allowed : (rule : FullRule) (clip : LockedClip) → may_go rule clip ≡ true → IsAllowed rule clip
allowed Waits clip e = absurd (cc)
allowed OldestSaved clip e = and-both clip.saved clip.read e
allowed (Oldest None) clip e = not-read clip.read e
allowed (Oldest (Some tag)) clip e =
    let b = and-both (clip.clip.tag == tag) clip.read e in (eqb-true clip.clip.tag tag b.0, b.1)

-- what is found is no younger than this
abbrev IsBelow : ℕ → Option LockedClip → Type 0
IsBelow most None = ⊥
IsBelow most (Some oldest) = oldest.since ≤ most

below-one : (rule : FullRule) (found : Option LockedClip) (clip : LockedClip) (most : ℕ)
    → IsBelow most found → IsBelow most (oldest_so_far rule found clip)
below-one rule None clip most h = absurd h
below-one rule (Some oldest) clip most h = by (may_go rule clip) (nat_le oldest.since clip.since) refl refl
  where
    by : (b c : Bool) → may_go rule clip ≡ b → nat_le oldest.since clip.since ≡ c
        → IsBelow most (oldest_so_far rule (Some oldest) clip)
    by false c e g = grind (arith, common_steps)
    by true true e g = grind (arith, common_steps)
    by true false e g = grind (arith, common_steps)

below-all : (rule : FullRule) (found : Option LockedClip) (clips : List LockedClip) (most : ℕ)
    → IsBelow most found → IsBelow most (oldest_of rule found clips)
below-all rule found [] most h = h
below-all rule found (clip ∷ clips) most h =
    below-all rule (oldest_so_far rule found clip) clips most (below-one rule found clip most h)

-- a clip that may go leaves none that is younger
here : (rule : FullRule) (found : Option LockedClip) (clip : LockedClip) → may_go rule clip ≡ true
    → IsBelow clip.since (oldest_so_far rule found clip)
here rule None clip e = grind (arith, common_steps)
here rule (Some oldest) clip e = by (nat_le oldest.since clip.since) refl
  where
    by : (c : Bool) → nat_le oldest.since clip.since ≡ c → IsBelow clip.since (oldest_so_far rule (Some oldest) clip)
    by true g = grind (arith, common_steps)
    by false g = grind (arith, common_steps)

below : (rule : FullRule) (found : Option LockedClip) (clips : List LockedClip) (i : ℕ) (clip : LockedClip)
    → slice_get clips i ≡ Some clip → may_go rule clip ≡ true → IsBelow clip.since (oldest_of rule found clips)
below rule found [] i clip g e = absurd (cc)
below rule found (first ∷ clips) zero clip g e =
    let same : first ≡ clip = grind (arith, common_steps) in
    let one : IsBelow clip.since (oldest_so_far rule found first) = rw same (here rule found clip e) in
    below-all rule (oldest_so_far rule found first) clips clip.since one
below rule found (first ∷ clips) (suc i) clip g e = below rule (oldest_so_far rule found first) clips i clip g e

some-below : (most : ℕ) (found : Option LockedClip) → IsBelow most found
    → (oldest : LockedClip) × (found ≡ Some oldest) × (oldest.since ≤ most)
some-below most None h = absurd h
some-below most (Some oldest) h = (oldest, refl, h)

-- what is found may go
abbrev GoesOn : FullRule → Option LockedClip → Type 0
GoesOn rule None = Unit {0}
GoesOn rule (Some oldest) = may_go rule oldest ≡ true

goes-one : (rule : FullRule) (found : Option LockedClip) (clip : LockedClip) → GoesOn rule found
    → GoesOn rule (oldest_so_far rule found clip)
goes-one rule found clip h = by found (may_go rule clip) refl h
  where
    one : (oldest : LockedClip) → may_go rule oldest ≡ true → may_go rule clip ≡ true → (c : Bool)
        → nat_le oldest.since clip.since ≡ c → GoesOn rule (oldest_so_far rule (Some oldest) clip)
    one oldest m e true g = grind (arith, common_steps)
    one oldest m e false g = grind (arith, common_steps)

    by : (found : Option LockedClip) (b : Bool) → may_go rule clip ≡ b → GoesOn rule found
        → GoesOn rule (oldest_so_far rule found clip)
    by None false e h = grind (arith, common_steps)
    by None true e h = grind (arith, common_steps)
    by (Some oldest) false e h = grind (arith, common_steps)
    by (Some oldest) true e h = one oldest h e (nat_le oldest.since clip.since) refl

goes-all : (rule : FullRule) (found : Option LockedClip) (clips : List LockedClip) → GoesOn rule found
    → GoesOn rule (oldest_of rule found clips)
goes-all rule found [] h = h
goes-all rule found (clip ∷ clips) h =
    goes-all rule (oldest_so_far rule found clip) clips (goes-one rule found clip h)

-- leave is given for what is found and may go
leave-of : (rule : FullRule) (found : Option LockedClip) (oldest : LockedClip) → found ≡ Some oldest
    → may_go rule oldest ≡ true → full_leave rule 0 found ≡ Some oldest.clip
leave-of rule None oldest e m = absurd (cc)
leave-of rule (Some clip) oldest e m =
    let same : clip ≡ oldest = grind (arith, common_steps) in
    let may : may_go rule clip ≡ true = rw same m in
    let first : full_leave rule 0 (Some clip) ≡ Some clip.clip = grind (arith, common_steps) in
    first ∙ ap (λ (c : LockedClip). Some c.clip) same

pub oldest-clips-go : OldestClipsGo
oldest-clips-go rule clips i clip g h =
    let found = some-below clip.since (oldest_of rule None clips) (below rule None clips i clip g (may rule clip h)) in
    let goes : GoesOn rule (oldest_of rule None clips) = goes-all rule None clips tt in
    let on : GoesOn rule (Some found.0) = subst (λ o. GoesOn rule o) found.1 goes in
    (found.0, leave-of rule (oldest_of rule None clips) found.0 found.1 on, found.2)

-- what is found may go, and is what was found before, or one of the clips
abbrev IsOf : FullRule → Option LockedClip → List LockedClip → LockedClip → Type 0
IsOf rule found clips oldest =
    ((found ≡ Some oldest) ⊎ ((i : ℕ) × (slice_get clips i ≡ Some oldest) × (may_go rule oldest ≡ true)))

from-one : (rule : FullRule) (found : Option LockedClip) (clip oldest : LockedClip)
    → oldest_so_far rule found clip ≡ Some oldest
    → (found ≡ Some oldest) ⊎ ((clip ≡ oldest) × (may_go rule clip ≡ true))
from-one rule None clip oldest e = by (may_go rule clip) refl
  where
    by : (b : Bool) → may_go rule clip ≡ b → (None ≡ Some oldest) ⊎ ((clip ≡ oldest) × (may_go rule clip ≡ true))
    by false m = let gone : None ≡ Some oldest = grind (arith, common_steps) in inl gone
    by true m = let same : clip ≡ oldest = grind (arith, common_steps) in inr (same, m)
from-one rule (Some before) clip oldest e = by (may_go rule clip) (nat_le before.since clip.since) refl refl
  where
    by : (b c : Bool) → may_go rule clip ≡ b → nat_le before.since clip.since ≡ c
        → (Some before ≡ Some oldest) ⊎ ((clip ≡ oldest) × (may_go rule clip ≡ true))
    by false c m g = let same : Some before ≡ Some oldest = grind (arith, common_steps) in inl same
    by true true m g = let same : Some before ≡ Some oldest = grind (arith, common_steps) in inl same
    by true false m g = let same : clip ≡ oldest = grind (arith, common_steps) in inr (same, m)

from-all : (rule : FullRule) (found : Option LockedClip) (clips : List LockedClip) (oldest : LockedClip)
    → oldest_of rule found clips ≡ Some oldest → IsOf rule found clips oldest
from-all rule found [] oldest e = inl e
from-all rule found (clip ∷ clips) oldest e = by (from-all rule (oldest_so_far rule found clip) clips oldest e)
  where
    now : (found ≡ Some oldest) ⊎ ((clip ≡ oldest) × (may_go rule clip ≡ true)) → IsOf rule found (clip ∷ clips) oldest
    now (inl same) = inl same
    now (inr is) =
        let same = is.0 in let m = is.1 in
        let at : slice_get (clip ∷ clips) 0 ≡ Some oldest = grind (arith, common_steps) in
        let may : may_go rule oldest ≡ true = rw (sym same) m in
        inr (0, at, may)

    by : IsOf rule (oldest_so_far rule found clip) clips oldest → IsOf rule found (clip ∷ clips) oldest
    by (inl one) = now (from-one rule found clip oldest one)
    by (inr there) = inr (suc there.0, there.1, there.2)

allowed-found : (rule : FullRule) (clips : List LockedClip) (oldest : LockedClip)
    → oldest_of rule None clips ≡ Some oldest
    → IsAllowed rule oldest × ((i : ℕ) × (slice_get clips i ≡ Some oldest))
allowed-found rule clips oldest e = by (from-all rule None clips oldest e)
  where
    by : IsOf rule None clips oldest → IsAllowed rule oldest × ((i : ℕ) × (slice_get clips i ≡ Some oldest))
    by (inl none) = absurd (cc)
    by (inr there) = (allowed rule oldest there.2, (there.0, there.1))

-- leave is given where no block is free, for what was found
left-of : (rule : FullRule) (free : ℕ) (found : Option LockedClip) (gone : ShownClip) → full_leave rule free found ≡ Some gone
    → (free ≡ 0) × ((oldest : LockedClip) × (found ≡ Some oldest) × (gone ≡ oldest.clip))
left-of rule free None gone e = absurd (cc)
left-of rule free (Some oldest) gone e = by (nat_lt 0 free) (may_go rule oldest) refl refl
  where
    by : (b c : Bool) → nat_lt 0 free ≡ b → may_go rule oldest ≡ c
        → (free ≡ 0) × ((o : LockedClip) × (Some oldest ≡ Some o) × (gone ≡ o.clip))
    by true c f m = grind (arith, common_steps)
    by false false f m = grind (arith, common_steps)
    by false true f m =
        let none : free ≡ 0 = grind (arith, common_steps) in
        let is : gone ≡ oldest.clip = grind (arith, common_steps) in
        (none, (oldest, refl, is))

pub allowed-clips-go : AllowedClipsGo
allowed-clips-go rule free clips gone e =
    let left = left-of rule free (oldest_of rule None clips) gone e in
    let oldest = left.1.0 in
    let found = allowed-found rule clips oldest left.1.1 in
    (left.0, (oldest, left.1.2, found.0, found.1))

-- what a rule allows isn't read
pub allowed-unread : (rule : FullRule) (clip : LockedClip) → IsAllowed rule clip → clip.read ≡ false
allowed-unread Waits clip h = absurd h
allowed-unread OldestSaved clip h = h.1
allowed-unread (Oldest None) clip h = h
allowed-unread (Oldest (Some tag)) clip h = h.1
