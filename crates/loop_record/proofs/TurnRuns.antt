-- Turns after turns.
use Rattle.std.proofs.Common.{◌≡◌, List, [], ◌∷◌, ◌++◌, refl, sym, ap, ◌∙◌, append_assoc, subst}
use Rattle.loop_record.specs.Turns.{after_all, told_in, EachIn, Machine, Turns, Plays}

pub after-behind : {S X : Type 0} (after : S → X → S) (s : S) (xs ys : List X)
    → after_all after s (xs ++ ys) ≡ after_all after (after_all after s xs) ys
after-behind after s [] ys = refl
after-behind after s (x ∷ xs) ys = after-behind after (after s x) xs ys

pub told-behind : {S X Y : Type 0} (after : S → X → S) (told : S → X → List Y) (s : S) (xs ys : List X)
    → told_in after told s (xs ++ ys) ≡ told_in after told s xs ++ told_in after told (after_all after s xs) ys
told-behind after told s [] ys = refl
told-behind after told s (x ∷ xs) ys = ap (λ l. told s x ++ l) (told-behind after told (after s x) xs ys)
    ∙ sym (append_assoc (told s x) (told_in after told (after s x) xs)
    (told_in after told (after_all after (after s x) xs) ys))

pub each-behind : {S X : Type 0} (after : S → X → S) (P : S → X → Type 0) (s : S) (xs ys : List X)
    → EachIn after P s xs → EachIn after P (after_all after s xs) ys → EachIn after P s (xs ++ ys)
each-behind after P s [] ys first second = second
each-behind after P s (x ∷ xs) ys first second = (first.0, each-behind after P (after s x) xs ys first.1 second)

-- ---- runs of a machine

pub plays-none : {S X : Type 0} (m : Machine S X) (P : S → Type 0) → Plays m P P []
plays-none m P s stands = (tt, stands)

pub plays-once : {S X : Type 0} (m : Machine S X) (P Q : S → Type 0) (x : X) → Turns m P Q x → Plays m P Q (x ∷ [])
plays-once m P Q x turn s stands = let t = turn s stands in ((t.0, tt), t.1)

-- a run, and a run after it
pub plays-joined : {S X : Type 0} (m : Machine S X) (P Q R : S → Type 0) (xs ys : List X) → Plays m P Q xs
    → Plays m Q R ys → Plays m P R (xs ++ ys)
plays-joined m P Q R xs ys first second s stands =
    let a = first s stands in
    let b = second (after_all m.after s xs) a.1 in (
      each-behind m.after m.May s xs ys a.0 b.0,
      subst R (sym (after-behind m.after s xs ys)) b.1,
    )
