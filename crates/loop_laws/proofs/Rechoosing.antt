-- A choice that is made again where stores joined meanwhile.
use Rattle.std.proofs.Common.{◌≡◌, inl, inr, ℕ, zero, suc, ◌+◌, ◌<◌, ◌≤◌, Bool, true, false, cond, ltb, not, Option, Some, None, List, [], ◌∷◌, ◌++◌, length, slice_get, slice_set, refl, sym, ap, ◌∙◌, subst, arith}
use Rattle.std.proofs.lemmas.Bool.{lt-ltb, ltb-true}
use Rattle.std.proofs.lemmas.List.{length-append}
use Rattle.std.proofs.lemmas.Option.{slice_get_within}
use Rattle.std.specs.List.{position, position_or_len}
use Rattle.loop_record.specs.Recording.{Recording, Ring}
use Rattle.loop_desk.specs.declared.limits.Space.{Space}
use Rattle.loop_pipeline.specs.Nexts.{IsElsewhere, IsFreeAt, TakesNext, has_free}
use Rattle.loop_laws.specs.Stores.{EachTells, LongRing, TakesBlock}
use Rattle.loop_laws.proofs.Rule.{FreeOrOldest, free-or-oldest, get-within, none-passes}
use Rattle.loop_laws.proofs.Sets.{some-same}

-- ---- lists with others after them

pub get-front : {X : Type 0} (xs ys : List X) (i : ℕ) (x : X) → slice_get xs i ≡ Some x
    → slice_get (xs ++ ys) i ≡ Some x
get-front [] ys i x e = absurd cc
get-front (y ∷ xs) ys zero x e = e
get-front (y ∷ xs) ys (suc i) x e = get-front xs ys i x e

pub get-last : {X : Type 0} (xs : List X) (x : X) → slice_get (xs ++ x ∷ []) (length xs) ≡ Some x
get-last [] x = refl
get-last (y ∷ xs) x = get-last xs x

pub set-front : {X : Type 0} (xs ys : List X) (i : ℕ) (x : X) → i < length xs
    → slice_set (xs ++ ys) i x ≡ slice_set xs i x ++ ys
set-front [] ys i x l = absurd (omega (arith, l))
set-front (y ∷ xs) ys zero x l = refl
set-front (y ∷ xs) ys (suc i) x l = ap (λ zs. y ∷ zs) (set-front xs ys i x (omega (arith, l)))

-- ---- the first free one

same-bool : (a b : Bool) → (a ≡ true → b ≡ true) → (b ≡ true → a ≡ true) → a ≡ b
same-bool true b f g = sym (f refl)
same-bool false true f g = g refl
same-bool false false f g = refl

-- in longer spaces that agree on the first ones, the first free one stays
agree-first : (xs ys : List Space) → length xs ≤ length ys
    → ((i : ℕ) (s t : Space) → slice_get xs i ≡ Some s → slice_get ys i ≡ Some t → s.free ≡ t.free)
    → position_or_len has_free xs < length xs → position_or_len has_free ys ≡ position_or_len has_free xs
agree-first [] ys longer agree less = absurd (omega (arith, less))
agree-first (x ∷ xs) [] longer agree less = absurd (omega (arith, longer))
agree-first (x ∷ xs) (y ∷ ys) longer agree less =
    go x.free refl (sym (agree 0 x y refl refl))
    (λ l. agree-first xs ys (omega (arith, longer)) (λ i s t e f. agree (suc i) s t e f) l)
  where
    p : ℕ
    p = position_or_len has_free xs

    q : ℕ
    q = position_or_len has_free ys

    go : (b : Bool) → x.free ≡ b → y.free ≡ x.free
        → (position_or_len has_free xs < length xs → position_or_len has_free ys ≡ position_or_len has_free xs)
        → position_or_len has_free (y ∷ ys) ≡ position_or_len has_free (x ∷ xs)
    go true is same more =
        let there : y.free ≡ true = same ∙ is in
        (λ i. cond (not (there i)) (1 + q) 0) ∙ sym (λ i. cond (not (is i)) (1 + p) 0)
    go false is same more =
        let there : y.free ≡ false = same ∙ is in
        let here : position_or_len has_free (x ∷ xs) ≡ 1 + p = λ i. cond (not (is i)) (1 + p) 0 in
        let rest : q ≡ p = more (omega (arith, less, here)) in
        (λ i. cond (not (there i)) (1 + q) 0) ∙ (ap (λ n. 1 + n) rest ∙ sym here)

-- the place that takes the next block is one of the places
pub takes-within : (end active : ℕ) (spaces : List Space) (place : ℕ) → TakesNext end active spaces (Some place)
    → place < length spaces
takes-within end active spaces place takes = go (free-or-oldest end active spaces place takes)
  where
    go : FreeOrOldest end spaces place → place < length spaces
    go (inl free) = slice_get_within spaces place free.0 free.1
    go (inr both) = slice_get_within spaces place both.1.space both.1.at

-- ---- the choice

module _ (ring : Ring) (keep : ℕ) (stores : LongRing) (rest : List Recording) (last : Recording)
    (there : slice_get stores.recordings stores.active ≡ Some last) (a : ℕ) (was : TakesBlock ring keep stores a)
    (spaces : List Space) (tell : EachTells ring keep (stores.recordings ++ rest) spaces) where
  shorter : length was.spaces ≤ length spaces
  shorter =
      let x = was.tell.all in
      let y = tell.all in
      let z = length-append stores.recordings rest in
      omega (arith, x, y, z)

  agree : (i : ℕ) (s t : Space) → slice_get was.spaces i ≡ Some s → slice_get spaces i ≡ Some t → s.free ≡ t.free
  agree i s t old new =
      let x = was.tell.all in
      let l = slice_get_within was.spaces i s old in
      let r = get-within stores.recordings i (omega (arith, l, x)) in
      let one = was.tell.tells i r.0 s r.1 old in
      let two = tell.tells i r.0 t (get-front stores.recordings rest i r.0 r.1) new in
      same-bool s.free t.free (λ e. two.free.1 (one.free.0 e)) (λ e. one.free.1 (two.free.0 e))

  -- what is free now was free
  free-before : (i : ℕ) → i < length stores.recordings → IsFreeAt spaces i → IsFreeAt was.spaces i
  free-before i less free =
      let x = was.tell.all in
      let s = get-within was.spaces i (omega (arith, less, x)) in
      (s.0, s.1, agree i s.0 free.0 s.1 free.1 ∙ free.2)

  not-free : (IsFreeAt was.spaces stores.active → ⊥) → IsFreeAt spaces stores.active → ⊥
  not-free none free =
      none (free-before stores.active (slice_get_within stores.recordings stores.active last there) free)

  position-later : (place : ℕ) → position has_free was.spaces ≡ Some place → position has_free spaces ≡ Some place
  position-later place found = go (ltb first (length was.spaces)) refl
    where
      first : ℕ
      first = position_or_len has_free was.spaces

      go : (t : Bool) → ltb first (length was.spaces) ≡ t → position has_free spaces ≡ Some place
      go false none = absurd (let e : None ≡ Some place = ap (λ t. cond t (Some first) None) (sym none) ∙ found in cc)
      go true some =
          let less : first < length was.spaces = ltb-true first (length was.spaces) some in
          let same : position_or_len has_free spaces ≡ first =
          agree-first was.spaces spaces shorter agree less in
          let short = shorter in
          let later : ltb (position_or_len has_free spaces) (length spaces) ≡ true =
          lt-ltb (position_or_len has_free spaces) (length spaces) (omega (arith, less, same, short)) in
          let is : Some first ≡ Some place = ap (λ t. cond t (Some first) None) (sym some) ∙ found in
          (λ i. cond (later i) (Some (same i)) None) ∙ is

  -- The store that was chosen is the active one now, and chooses this place: so the one before it would have done.
  pub rechoose : (end place : ℕ) → TakesNext end a spaces (Some place)
      → TakesNext end stores.active spaces (Some place)
  rechoose end place next = go was.is next
    where
      pick : IsFreeAt spaces a → place ≡ a → (o : Option ℕ) → position has_free was.spaces ≡ o
          → IsElsewhere stores.end was.spaces o (Some a)
          → IsElsewhere end spaces (position has_free spaces) (Some place)
      pick free same (Some q) found is =
          subst (λ o. IsElsewhere end spaces o (Some place)) (sym (position-later q found))
          (ap (λ (n : ℕ). Some n) same ∙ is)
      pick free same None found oldest =
          let none = none-passes has_free was.spaces a oldest.space found oldest.at in
          let some = agree a oldest.space free.0 oldest.at free.1 ∙ free.2 in
          absurd (let e : true ≡ false = sym some ∙ none in cc)

      go : TakesNext stores.end stores.active was.spaces (Some a) → TakesNext end a spaces (Some place)
          → TakesNext end stores.active spaces (Some place)
      go (inl here) now =
          subst (λ n. TakesNext end n spaces (Some place)) (some-same a stores.active here.1) now
      go (inr other) (inr now) = inr (not-free other.0, now.1)
      go (inr other) (inl now) =
          inr (
            not-free other.0,
            pick now.0 (some-same place a now.1) (position has_free was.spaces) refl other.1,
          )
