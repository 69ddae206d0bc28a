-- Each clip of what steps leave has all its frames, each the one that was given.
use Rattle.std.proofs.Common.{◌≡◌, ℕ, ◌+◌, ◌<◌, ◌≤◌, Bool, true, false, not, cond, eqb, is_some, Option, Some, None, List, [], ◌∷◌, ◌++◌, refl, sym, ap, ◌∙◌, subst, arith}
use Rattle.std.proofs.lemmas.List.{append-nil, append_assoc}
use Rattle.std.specs.List.{enumerate_from, filter}
use Rattle.loop_record.specs.Recording.{IsWellFormed, Picture, Recording, RiseBetween, Ring, Step, after_step, block, frame_under, lock, plain, recycle, store, unlock}
use Rattle.loop_record.proofs.TestFacts.{clash, differ_test, equal}
use Rattle.loop_record.proofs.WithoutBlock.{under-filter}
use Rattle.loop_desk.specs.Desk.{frames_stored}
use Rattle.loop_desk.specs.Footage.{AreClipsWhole, ever}

-- the first of two that is there
abbrev either_of : Option Picture → Option Picture → Option Picture
either_of None y = y
either_of (Some x) y = Some x

under-both : (n : ℕ) (fs gs : List (ℕ × Picture)) → frame_under (fs ++ gs) n ≡ either_of (frame_under fs n)
    (frame_under gs n)
under-both n [] gs = refl
under-both n (f ∷ fs) gs = go (eqb f.0 n) (under-both n fs gs)
  where
    go : (t : Bool) → frame_under (fs ++ gs) n ≡ either_of (frame_under fs n) (frame_under gs n)
        → cond t (Some f.1) (frame_under (fs ++ gs) n) ≡ either_of (cond t (Some f.1) (frame_under fs n))
        (frame_under gs n)
    go true h = refl
    go false h = h

-- numbers from one on have none below it
under-low : (n k : ℕ) (ps : List Picture) → n < k → frame_under (enumerate_from k ps) n ≡ None
under-low n k [] low = refl
under-low n k (p ∷ ps) low = ap (λ (t : Bool). cond t (Some p) (frame_under (enumerate_from (k + 1) ps) n))
    (differ_test k n (λ e. absurd (omega (arith, e, low)))) ∙ under-low n (k + 1) ps (omega (arith, low))

-- every held number is below the next one
abbrev pub AreBelow : Recording → Type 0
AreBelow r = (n : ℕ) → is_some (frame_under r.frames n) ≡ true → n < r.next

last-rising : (low high : ℕ) (fs : List (ℕ × Picture)) → RiseBetween low high fs → low ≤ high
last-rising low high [] h = h
last-rising low high (f ∷ fs) h = let rest = last-rising (f.0 + 1) high fs h.1 in omega (arith, h.0, rest)

below-rising : (low high n : ℕ) (fs : List (ℕ × Picture)) → RiseBetween low high fs
    → is_some (frame_under fs n) ≡ true → n < high
below-rising low high n [] rises held = absurd (cc)
below-rising low high n (f ∷ fs) rises held = go (eqb f.0 n) refl (below-rising (f.0 + 1) high n fs rises.1) held
  where
    go : (t : Bool) → eqb f.0 n ≡ t → (is_some (frame_under fs n) ≡ true → n < high)
        → is_some (cond t (Some f.1) (frame_under fs n)) ≡ true → n < high
    go true e rest h = let last = last-rising (f.0 + 1) high fs rises.1 in let is = equal f.0 n e in omega (arith, is, last)
    go false e rest h = rest h

pub formed-below : (r : Recording) → IsWellFormed r → AreBelow r
formed-below r formed = λ n held. below-rising 0 r.next n r.frames formed.rising held

-- frames of a block that is removed are gone
under-gone : (ring : Ring) (b n : ℕ) (fs : List (ℕ × Picture)) → eqb (block ring n) b ≡ true
    → frame_under (filter (λ f. not (eqb (block ring f.0) b)) fs) n ≡ None
under-gone ring b n [] same = refl
under-gone ring b n (f ∷ fs) same = go (eqb (block ring f.0) b) refl (under-gone ring b n fs same)
  where
    rest : List (ℕ × Picture)
    rest = filter (λ h. not (eqb (block ring h.0) b)) fs

    go : (q : Bool) → eqb (block ring f.0) b ≡ q → frame_under rest n ≡ None
        → frame_under (cond (not q) (f ∷ rest) rest) n ≡ None
    go true e h = h
    go false e h =
        let other : eqb f.0 n ≡ false = differ_test f.0 n (λ is. clash (eqb (block ring n) b) same (ap (λ (m : ℕ). eqb (block ring m) b) (sym is) ∙ e)) in
        ap (λ (t : Bool). cond t (Some f.1) (frame_under rest n)) other ∙ h

none-held : (o : Option Picture) → o ≡ None → is_some o ≡ true → ⊥
none-held None e h = absurd (cc)
none-held (Some x) e h = absurd (cc)

-- a step leaves them below
below-after : (ring : Ring) (r : Recording) (step : Step) → AreBelow r → AreBelow (after_step ring r step)
below-after ring r (store p) below = λ n held. go n (frame_under r.frames n) refl
    (subst (λ (o : Option Picture). is_some o ≡ true) (under-both n r.frames ((r.next, p) ∷ [])) held)
  where
    new : (n : ℕ) (t : Bool) → eqb r.next n ≡ t → is_some (cond t (Some p) None) ≡ true → n < r.next + 1
    new n true e h = let is = equal r.next n e in omega (arith, is)
    new n false e h = absurd (cc)

    go : (n : ℕ) (o : Option Picture) → frame_under r.frames n ≡ o
        → is_some (either_of o (frame_under ((r.next, p) ∷ []) n)) ≡ true → n < r.next + 1
    go n None e h = new n (eqb r.next n) refl h
    go n (Some x) e h = let low = below n (ap (λ (o : Option Picture). is_some o) e) in omega (arith, low)
below-after ring r (recycle b) below = λ n held. go n (eqb (block ring n) b) refl held
  where
    go : (n : ℕ) (t : Bool) → eqb (block ring n) b ≡ t
        → is_some (frame_under (filter (λ f. not (eqb (block ring f.0) b)) r.frames) n) ≡ true → n < r.next
    go n true e h = absurd (none-held (frame_under (filter (λ f. not (eqb (block ring f.0) b)) r.frames) n) (under-gone ring b n r.frames e) h)
    go n false e h = below n (ap (λ (o : Option Picture). is_some o) (sym (under-filter ring b n r.frames e)) ∙ h)
below-after ring r (lock span) below = below
below-after ring r (unlock id) below = below

-- the removal of a block doesn't change what is found under a number that is still there
ever-recycled : (ring : Ring) (r : Recording) (b n : ℕ) (later : List (ℕ × Picture)) → AreBelow r
    → (n < r.next → frame_under later n ≡ None)
    → is_some (frame_under ((after_step ring r (recycle b)).frames ++ later) n) ≡ true
    → frame_under ((after_step ring r (recycle b)).frames ++ later) n ≡ frame_under (r.frames ++ later) n
ever-recycled ring r b n later below low held = under-both n left later ∙ go (eqb (block ring n) b) refl ∙ sym (under-both n r.frames later)
  where
    left : List (ℕ × Picture)
    left = (after_step ring r (recycle b)).frames

    new : (o : Option Picture) → frame_under r.frames n ≡ o → is_some (frame_under later n) ≡ true
        → frame_under later n ≡ either_of o (frame_under later n)
    new None e h = refl
    new (Some x) e h = absurd (none-held (frame_under later n) (low (below n (ap (λ (o : Option Picture). is_some o) e))) h)

    go : (t : Bool) → eqb (block ring n) b ≡ t → either_of (frame_under left n) (frame_under later n) ≡ either_of
        (frame_under r.frames n) (frame_under later n)
    go true e =
        let gone = under-gone ring b n r.frames e in
        let here : is_some (frame_under later n) ≡ true =
        subst (λ (o : Option Picture). is_some (either_of o (frame_under later n)) ≡ true) gone
        (ap (λ (o : Option Picture). is_some o) (sym (under-both n left later)) ∙ held) in
        ap (λ (o : Option Picture). either_of o (frame_under later n)) gone ∙ new (frame_under r.frames n) refl here
    go false e = ap (λ (o : Option Picture). either_of o (frame_under later n)) (under-filter ring b n r.frames e)

-- what is held after steps is what was given under its number
given-under : (ring : Ring) (r : Recording) (steps : List Step) (n : ℕ) → AreBelow r
    → is_some (frame_under (plain ring r steps).frames n) ≡ true
    → frame_under (plain ring r steps).frames n ≡ frame_under (ever r steps) n
given-under ring r [] n below held = ap (λ (fs : List (ℕ × Picture)). frame_under fs n) (sym (append-nil r.frames))
given-under ring r (store p ∷ steps) n below held =
    given-under ring (after_step ring r (store p)) steps n (below-after ring r (store p) below) held
    ∙ ap (λ (fs : List (ℕ × Picture)). frame_under fs n) (append_assoc r.frames ((r.next, p) ∷ []) (enumerate_from (r.next + 1) (frames_stored steps)))
given-under ring r (recycle b ∷ steps) n below held =
    let next = after_step ring r (recycle b) in
    let rest = given-under ring next steps n (below-after ring r (recycle b) below) held in
    rest ∙ ever-recycled ring r b n (enumerate_from r.next (frames_stored steps)) below
    (under-low n r.next (frames_stored steps)) (ap (λ (o : Option Picture). is_some o) (sym rest) ∙ held)
given-under ring r (lock span ∷ steps) n below held = given-under ring (after_step ring r (lock span)) steps n below held
given-under ring r (unlock id ∷ steps) n below held = given-under ring (after_step ring r (unlock id)) steps n below held

some-there : (o : Option Picture) → is_some o ≡ true → (p : Picture) × (o ≡ Some p)
some-there None h = absurd (cc)
some-there (Some p) h = (p, refl)

pub clips-whole : (ring : Ring) (r : Recording) (steps : List Step) → AreBelow r → IsWellFormed (plain ring r steps)
    → AreClipsWhole ring r steps
clips-whole ring r steps below formed = λ span stands n from to.
    let held = (formed.clips span stands).1 n from to in
    let there = some-there (frame_under (plain ring r steps).frames n) held in
    (there.0, (there.1, sym (given-under ring r steps n below held) ∙ there.1))
