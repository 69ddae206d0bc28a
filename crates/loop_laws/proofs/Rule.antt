-- The cases of the rule that names the store for the next block, and what stores tell for it.
use Rattle.std.proofs.Common.{◌≡◌, ◌⊎◌, inl, inr, ℕ, zero, suc, ◌+◌, ◌<◌, ◌≤◌, Bool, true, false, cond, ltb, Option, Some, None, List, [], ◌∷◌, length, get_or, refl, sym, ap, ◌∙◌, subst, arith}
use Rattle.std.proofs.lemmas.Bool.{cases_lt}
use Rattle.std.proofs.lemmas.List.Quantifiers.{position-Some}
use Rattle.std.proofs.lemmas.List.Sums.{fails_before_first}
use Rattle.std.proofs.lemmas.Option.{get_or_from_slice_get, slice_get-get_or, slice_get_within}
use Rattle.std.specs.Prelude.{slice_get}
use Rattle.std.specs.List.{position, position_or_len}
use Rattle.loop_record.specs.Counts.{cyclic_place}
use Rattle.loop_record.specs.Recording.{Recording, Ring}
use Rattle.loop_record.proofs.TestFacts.{not_below}
use Rattle.loop_desk.specs.declared.limits.Space.{Space}
use Rattle.loop_desk.specs.Space.{TellsSpace}
use Rattle.loop_pipeline.specs.Nexts.{IsOldest, IsElsewhere, IsFreeAt, TakesNext, has_free}
use Rattle.loop_laws.specs.Stores.{EachTells}
use Rattle.loop_laws.proofs.Sets.{some-same}

pub get-within : {X : Type 0} (xs : List X) (i : ℕ) → i < length xs → (x : X) × (slice_get xs i ≡ Some x)
get-within [] i l = absurd (omega (arith, l))
get-within (x ∷ xs) zero l = (x, refl)
get-within (x ∷ xs) (suc i) l = get-within xs i (omega (arith, l))

-- ---- the rule's cases

pub none-passes : (p : Space → Bool) (xs : List Space) (i : ℕ) (x : Space) → position p xs ≡ None
    → slice_get xs i ≡ Some x → p x ≡ false
none-passes p xs i x none there = go (ltb first (length xs)) refl
  where
    first : ℕ
    first = position_or_len p xs

    go : (t : Bool) → ltb first (length xs) ≡ t → p x ≡ false
    go true is = absurd (let e : Some first ≡ None = ap (λ t. cond t (Some first) None) (sym is) ∙ none in cc)
    go false is =
        let less : i < length xs = slice_get_within xs i x there in
        let most : length xs ≤ first = not_below first (length xs) is in
        ap p (sym (get_or_from_slice_get xs i x x there)) ∙ fails_before_first p xs i x (omega (arith, less, most))

-- the store at this place has a free segment; or none has, and the block that may go there is the oldest
abbrev pub FreeOrOldest : ℕ → List Space → ℕ → Type 0
FreeOrOldest end spaces place =
    IsFreeAt spaces place
    ⊎ (((i : ℕ) (s : Space) → slice_get spaces i ≡ Some s → s.free ≡ false) × IsOldest end spaces place)

pub free-or-oldest : (end active : ℕ) (spaces : List Space) (place : ℕ) → TakesNext end active spaces (Some place)
    → FreeOrOldest end spaces place
free-or-oldest end active spaces place (inl here) =
    inl (subst (IsFreeAt spaces) (sym (some-same place active here.1)) here.0)
free-or-oldest end active spaces place (inr other) = go (position has_free spaces) refl other.1
  where
    none : Space
    none = record { free = false; oldest = None }

    go : (o : Option ℕ) → position has_free spaces ≡ o → IsElsewhere end spaces o (Some place)
        → FreeOrOldest end spaces place
    go (Some free) found is =
        let f = position-Some has_free spaces free none found in
        inl (subst (IsFreeAt spaces) (sym (some-same place free is))
        (get_or spaces free none, slice_get-get_or spaces free none f.0, f.1))
    go None found oldest = inr ((λ i s there. none-passes has_free spaces i s found there), oldest)

-- ---- the oldest of spaces

abbrev pub NoneMayGo : List Space → Type 0
NoneMayGo spaces = (i : ℕ) (s : Space) → slice_get spaces i ≡ Some s → s.oldest ≡ None

none-cons : (x : Space) (xs : List Space) → x.oldest ≡ None → NoneMayGo xs → NoneMayGo (x ∷ xs)
none-cons x xs here rest zero s e = ap (λ (y : Space). y.oldest) (sym (some-same x s e)) ∙ here
none-cons x xs here rest (suc i) s e = rest i s e

at-most : (a b c : ℕ) → a < b → b ≤ c → a ≤ c
at-most a b c less most = omega (arith, less, most)

itself : (a b : ℕ) → a ≡ b → a ≤ b
itself a b same = omega (arith, same)

between : (a b c : ℕ) → a ≤ b → b ≤ c → a ≤ c
between a b c first second = omega (arith, first, second)

module _ (end : ℕ) where
  -- none of any space is older than a bound
  abbrev NoneBelow : ℕ → List Space → Type 0
  NoneBelow bound spaces =
      (i : ℕ) (s : Space) (t : ℕ) → slice_get spaces i ≡ Some s → s.oldest ≡ Some t
      → cyclic_place end bound ≤ cyclic_place end t

  -- and those of the first ones are newer
  abbrev FirstAbove : ℕ → ℕ → List Space → Type 0
  FirstAbove bound place spaces =
      (i : ℕ) (s : Space) (t : ℕ) → i < place → slice_get spaces i ≡ Some s → s.oldest ≡ Some t
      → cyclic_place end bound < cyclic_place end t

  below-cons : (bound : ℕ) (x : Space) (xs : List Space)
      → ((t : ℕ) → x.oldest ≡ Some t → cyclic_place end bound ≤ cyclic_place end t) → NoneBelow bound xs
      → NoneBelow bound (x ∷ xs)
  below-cons bound x xs here rest zero s t e is = here t (ap (λ (y : Space). y.oldest) (some-same x s e) ∙ is)
  below-cons bound x xs here rest (suc i) s t e is = rest i s t e is

  first-cons : (bound place : ℕ) (x : Space) (xs : List Space)
      → ((t : ℕ) → x.oldest ≡ Some t → cyclic_place end bound < cyclic_place end t) → FirstAbove bound place xs
      → FirstAbove bound (place + 1) (x ∷ xs)
  first-cons bound place x xs here rest zero s t l e is = here t (ap (λ (y : Space). y.oldest) (some-same x s e) ∙ is)
  first-cons bound place x xs here rest (suc i) s t l e is = rest i s t (omega (arith, l)) e is

  none-first : (bound : ℕ) (spaces : List Space) → FirstAbove bound 0 spaces
  none-first bound spaces i s t l e is = absurd (omega (arith, l))

  pub oldest-of : (spaces : List Space) → NoneMayGo spaces ⊎ ((place : ℕ) × IsOldest end spaces place)
  oldest-of [] = inl (λ i s e. absurd cc)
  oldest-of (x ∷ xs) = go x.oldest refl (oldest-of xs)
    where
      later : (e : (place : ℕ) × IsOldest end xs place)
          → ((t : ℕ) → x.oldest ≡ Some t → cyclic_place end e.1.sequence < cyclic_place end t)
          → IsOldest end (x ∷ xs) (suc e.0)
      later e above = record {
        space = e.1.space;
        at = e.1.at;
        sequence = e.1.sequence;
        is = e.1.is;
        least = below-cons e.1.sequence x xs
            (λ t is. at-most (cyclic_place end e.1.sequence) (cyclic_place end t) (cyclic_place end t) (above t is)
            (itself (cyclic_place end t) (cyclic_place end t) refl)) e.1.least;
        first = λ i s t l. first-cons e.1.sequence e.0 x xs above e.1.first i s t (omega (arith, l));
      }

      here : (sequence : ℕ) → x.oldest ≡ Some sequence → NoneBelow sequence xs → IsOldest end (x ∷ xs) 0
      here sequence is least = record {
        space = x;
        at = refl;
        sequence = sequence;
        is = is;
        least = below-cons sequence x xs
            (λ t e. itself (cyclic_place end sequence) (cyclic_place end t)
            (ap (cyclic_place end) (some-same sequence t (sym is ∙ e)))) least;
        first = none-first sequence (x ∷ xs);
      }

      go : (o : Option ℕ) → x.oldest ≡ o → NoneMayGo xs ⊎ ((place : ℕ) × IsOldest end xs place)
          → NoneMayGo (x ∷ xs) ⊎ ((place : ℕ) × IsOldest end (x ∷ xs) place)
      go None is (inl none) = inl (none-cons x xs is none)
      go None is (inr e) = inr (suc e.0, later e (λ t some. absurd (never t some)))
        where
          never : (t : ℕ) → x.oldest ≡ Some t → ⊥
          never t some = let no : None ≡ Some t = sym is ∙ some in absurd cc
      go (Some sequence) is (inl none) = inr (0, here sequence is (λ i s t e some. absurd (never i s t e some)))
        where
          never : (i : ℕ) (s : Space) (t : ℕ) → slice_get xs i ≡ Some s → s.oldest ≡ Some t → ⊥
          never i s t e some = let no : None ≡ Some t = sym (none i s e) ∙ some in absurd cc
      go (Some sequence) is (inr e) =
          pick (cases_lt (cyclic_place end e.1.sequence) (cyclic_place end sequence))
        where
          pick : (cyclic_place end e.1.sequence < cyclic_place end sequence)
              ⊎ (cyclic_place end sequence ≤ cyclic_place end e.1.sequence)
              → NoneMayGo (x ∷ xs) ⊎ ((place : ℕ) × IsOldest end (x ∷ xs) place)
          pick (inl less) =
              inr (
                suc e.0,
                later e (λ t some. subst (λ n. cyclic_place end e.1.sequence < cyclic_place end n)
                    (some-same sequence t (sym is ∙ some)) less),
              )
          pick (inr most) =
              inr (
                0,
                here sequence is (λ i s t at some.
                    between (cyclic_place end sequence) (cyclic_place end e.1.sequence) (cyclic_place end t) most
                    (e.1.least i s t at some)),
              )

-- ---- the room that there is to tell

tells-cons : (ring : Ring) (keep : ℕ) (r : Recording) (rs : List Recording) (space : Space) (spaces : List Space)
    → TellsSpace ring keep r space → EachTells ring keep rs spaces → EachTells ring keep (r ∷ rs) (space ∷ spaces)
tells-cons ring keep r rs space spaces here rest = record { all = ap suc rest.all; tells = each }
  where
    each : (place : ℕ) (x : Recording) (s : Space) → slice_get (r ∷ rs) place ≡ Some x
        → slice_get (space ∷ spaces) place ≡ Some s → TellsSpace ring keep x s
    each zero x s e f =
        subst (λ (y : Recording). TellsSpace ring keep y s) (some-same r x e)
        (subst (TellsSpace ring keep r) (some-same space s f) here)
    each (suc place) x s e f = rest.tells place x s e f

pub spaces-there : (ring : Ring) (keep : ℕ) (rs : List Recording)
    → ((place : ℕ) (r : Recording) → slice_get rs place ≡ Some r → (space : Space) × TellsSpace ring keep r space)
    → (spaces : List Space) × EachTells ring keep rs spaces
spaces-there ring keep [] h = ([], record { all = refl; tells = λ place r s e. absurd cc })
spaces-there ring keep (r ∷ rs) h =
    let here = h 0 r refl in
    let rest = spaces-there ring keep rs (λ place x e. h (suc place) x e) in
    (here.0 ∷ rest.0, tells-cons ring keep r rs here.0 rest.0 here.1 rest.1)
