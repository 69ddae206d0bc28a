-- The oldest of the first places.
use Rattle.std.proofs.Common.{◌≡◌, ◌≢◌, ◌==◌, true, false, ◌<◌, ◌≤◌, ◌+◌, ◌⊎◌, ◌↔◌, inl, inr, ℕ, Bool, Option, Some, None, List, All, length, slice_get, slice_index_or, refl, sym, ap, ◌∙◌, subst, arith}
use Rattle.std.proofs.lemmas.Bool.Decides.{eqb_tells}
use Rattle.std.proofs.lemmas.Option.{slice_get_within, slice_get-get_or}
use Rattle.loop_record.specs.Counts.{cyclic_place}
use Rattle.loop_desk.specs.declared.limits.Space.{Space}
use Rattle.loop_pipeline.specs.Nexts.{HasNone, IsBest, IsOldest}
use Rattle.loop_pipeline.proofs.Places.{some-same}

weaker : (a b : ℕ) → a < b → a ≤ b
weaker a b less = omega (arith, less)

before-all : (a b c : ℕ) → a < b → b ≤ c → a < c
before-all a b c less most = omega (arith, less, most)

itself : (a : ℕ) → a ≤ a
itself a = omega arith

module _ (end : ℕ) (spaces : List Space) (n : ℕ) (space : Space) (at : slice_get spaces n ≡ Some space) where
  here : (i : ℕ) (s : Space) → i ≡ n → slice_get spaces i ≡ Some s → s ≡ space
  here i s same is = some-same s space (sym is ∙ (ap (λ k. slice_get spaces k) same ∙ at))

  split : (i : ℕ) → i < n + 1 → (i < n) ⊎ (i ≡ n)
  split i less = go (eqb_tells i n)
    where
      go : (((i == n) ≡ true) × (i ≡ n)) ⊎ (((i == n) ≡ false) × (i ≢ n)) → (i < n) ⊎ (i ≡ n)
      go (inl same) = inr same.1
      go (inr apart) = inl (omega (arith, less, apart.1))

  -- a place without a block that may go
  pub none-more : (best : Option (ℕ × ℕ)) → IsBest end spaces n best → space.oldest ≡ None → IsBest end spaces (n + 1) best
  none-more None all none = λ i s less is. go i s is (split i less)
    where
      go : (i : ℕ) (s : Space) → slice_get spaces i ≡ Some s → ((i < n) ⊎ (i ≡ n)) → s.oldest ≡ None
      go i s is (inl before) = all i s before is
      go i s is (inr same) = ap (λ x. x.oldest) (here i s same is) ∙ none
  none-more (Some best) b none = record {
    within = omega (arith, b.within);
    space = b.space;
    at = b.at;
    is = b.is;
    least = λ i s t less is time. go i s t is time (split i less);
    first = b.first;
  }
    where
      go : (i : ℕ) (s : Space) (t : ℕ) → slice_get spaces i ≡ Some s → s.oldest ≡ Some t → ((i < n) ⊎ (i ≡ n))
          → cyclic_place end best.1 ≤ cyclic_place end t
      go i s t is time (inl before) = b.least i s t before is time
      go i s t is time (inr same) = absurd (let e : None ≡ Some t = sym none ∙ (ap (λ x. x.oldest) (sym (here i s same is)) ∙ time) in cc)

  -- one that is no older
  pub later-more : (best : ℕ × ℕ) (time : ℕ) → IsBest end spaces n (Some best) → space.oldest ≡ Some time
      → cyclic_place end best.1 ≤ cyclic_place end time
      → IsBest end spaces (n + 1) (Some best)
  later-more best time b oldest late = record {
    within = omega (arith, b.within);
    space = b.space;
    at = b.at;
    is = b.is;
    least = λ i s t less is e. go i s t is e (split i less);
    first = b.first;
  }
    where
      go : (i : ℕ) (s : Space) (t : ℕ) → slice_get spaces i ≡ Some s → s.oldest ≡ Some t → ((i < n) ⊎ (i ≡ n))
          → cyclic_place end best.1 ≤ cyclic_place end t
      go i s t is e (inl before) = b.least i s t before is e
      go i s t is e (inr same) =
          subst (λ k. cyclic_place end best.1 ≤ cyclic_place end k) (some-same time t (sym oldest ∙ (ap (λ x. x.oldest) (sym (here i s same is)) ∙ e))) late

  -- the first that has one, or an older one
  pub taken-more : (best : Option (ℕ × ℕ)) (time : ℕ) → IsBest end spaces n best → space.oldest ≡ Some time
      → ((b : ℕ × ℕ) → best ≡ Some b → cyclic_place end time < cyclic_place end b.1) → IsBest end spaces (n + 1) (Some (n, time))
  taken-more best time b oldest early = record {
    within = omega arith;
    space = space;
    at = at;
    is = oldest;
    least = λ i s t less is e. go i s t is e (split i less);
    first = λ i s t less is e. before best b early i s t less is e;
  }
    where
      before : (best : Option (ℕ × ℕ)) → IsBest end spaces n best
          → ((b : ℕ × ℕ) → best ≡ Some b → cyclic_place end time < cyclic_place end b.1)
          → (i : ℕ) (s : Space) (t : ℕ) → i < n → slice_get spaces i ≡ Some s → s.oldest ≡ Some t
          → cyclic_place end time < cyclic_place end t
      before None all early i s t less is e = absurd (let none : None ≡ Some t = sym (all i s less is) ∙ e in cc)
      before (Some x) b early i s t less is e =
          before-all (cyclic_place end time) (cyclic_place end x.1) (cyclic_place end t) (early x refl)
          (b.least i s t less is e)

      go : (i : ℕ) (s : Space) (t : ℕ) → slice_get spaces i ≡ Some s → s.oldest ≡ Some t → ((i < n) ⊎ (i ≡ n))
          → cyclic_place end time ≤ cyclic_place end t
      go i s t is e (inl less) =
          weaker (cyclic_place end time) (cyclic_place end t) (before best b early i s t less is e)
      go i s t is e (inr same) =
          subst (λ k. cyclic_place end time ≤ cyclic_place end k)
          (some-same time t (sym oldest ∙ (ap (λ x. x.oldest) (sym (here i s same is)) ∙ e)))
          (itself (cyclic_place end time))

-- ---- what a comparison says

pub no-older : (less : Bool) (a b : ℕ) → ((less ≡ true) ↔ (a < b)) → less ≡ false → b ≤ a
no-older less a b says e = omega (arith, never)
  where
    never : a < b → ⊥
    never l = let no : true ≡ false = sym (says.1 l) ∙ e in absurd (cc)

-- of all places
pub best-of-all : (end : ℕ) (spaces : List Space) (n : ℕ) (best : Option (ℕ × ℕ)) (b : ℕ × ℕ) → n ≡ length spaces
    → best ≡ Some b → IsBest end spaces n best → IsOldest end spaces b.0
best-of-all end spaces n best b long is said =
    let k : IsBest end spaces (length spaces) (Some b) =
    subst (λ m. IsBest end spaces m (Some b)) long (subst (IsBest end spaces n) is said) in
    record {
      space = k.space;
      at = k.at;
      sequence = b.1;
      is = k.is;
      least = λ i s t there e. k.least i s t (slice_get_within spaces i s there) there e;
      first = k.first;
    }

pub none-of-all : (end : ℕ) (spaces : List Space) (n : ℕ) (best : Option (ℕ × ℕ)) → n ≡ length spaces → best ≡ None
    → IsBest end spaces n best → All HasNone spaces
none-of-all end spaces n best long is said = λ k d less.
    let all : IsBest end spaces n None = subst (IsBest end spaces n) is said in
    all k (slice_index_or spaces k d) (omega (arith, long, less)) (slice_get-get_or spaces k d less)
