-- One page more that a claim has tried.
use Rattle.std.proofs.Common.{◌≡◌, ℕ, zero, suc, ◌+◌, ◌-◌, ◌<◌, inl, inr, List, [], ◌∷◌, ◌++◌, length, get_or, sym, ap, ◌∙◌, subst, arith, slice_index, length-append, add-one}
use Rattle.std.proofs.Math.Seq.{get_or-append_seam}
use Rattle.std.specs.List.{Contains, range_with_len}
use Rattle.std.proofs.lemmas.List.Elements.{All-push, Contains-append_left, Contains-push}
use Rattle.std.proofs.lemmas.List.Quantifiers.{all_pairs_push}
use Rattle.std.proofs.lemmas.List.{append_assoc, map-id}
use Rattle.std.proofs.lemmas.List.FromFn.{map-range_with_len_more}
use mathlib.Core.Logic.{dite}
use native.Mathlib.Decide.{ℕ_discrete}
use Rattle.loop_pages.specs.Claims.{IsRising, IsTried, IsGot, IsShort}
use Rattle.loop_pages.specs.Words.{missed_before}

-- past page 0 the list of a claim is not begun anew
missed_on : (page : ℕ) (missed : List ℕ) → missed_before (page + 1) missed ≡ missed
missed_on page missed = ap (λ (n : ℕ). missed_before n missed) (add-one page)

rising_wider : (limit : ℕ) (pages : List ℕ) → IsRising limit pages → IsRising (limit + 1) pages
rising_wider limit pages r = record { below = λ k d h. (let b = r.below k d h in omega arith); rise = r.rise }

rising_push : (limit : ℕ) (pages : List ℕ) → IsRising limit pages → IsRising (limit + 1) (pages ++ limit ∷ [])
rising_push limit pages r = record {
  below = All-push (λ page. page < limit + 1) pages limit (rising_wider limit pages r).below (omega arith);
  rise = all_pairs_push (λ page later. page < later) pages limit r.rise (λ k d h. r.below k d h);
}

-- one number more
range_more : (n : ℕ) → range_with_len 0 (n + 1) ≡ range_with_len 0 n ++ n ∷ []
range_more n =
    sym (map-id (range_with_len 0 (n + 1))) ∙ map-range_with_len_more (λ (i : ℕ). i) 0 n n (omega arith)
    ∙ ap (λ (l : List ℕ). l ++ n ∷ []) (map-id (range_with_len 0 n))

-- one page more was tried
order_more : (page : ℕ) (before tried : List ℕ) → tried ≡ before ++ range_with_len 0 page → tried ++ page
    ∷ [] ≡ before ++ range_with_len 0 (page + 1)
order_more page before tried is =
    ap (λ (l : List ℕ). l ++ page ∷ []) is ∙ append_assoc before (range_with_len 0 page) (page ∷ []) ∙ ap (λ (l : List ℕ). before ++ l) (sym (range_more page))

-- the next page was got
pub got_one : (page : ℕ) (got missed before tried : List ℕ) → IsTried page got missed before tried
    → IsTried (page + 1) (got ++ page ∷ []) missed before (tried ++ page ∷ [])
got_one page got missed before tried t = record {
  order = order_more page before tried t.order;
  got_rise = rising_push page got t.got_rise;
  missed_rise = rising_wider page missed t.missed_rise;
  each = λ other h. dite (ℕ_discrete other page)
      (λ same. inl (subst (λ n. Contains (got ++ page ∷ []) n) (sym same) (Contains-push got page)))
      (λ not. elim (t.each other (omega arith)) [ inl c ↦ inl (Contains-append_left got (page ∷ []) other c) | inr c ↦ inr c ]);
  once = let sum = t.once in omega (arith, length-append got (page ∷ []));
}

-- the next page was missed
pub missed_one : (page : ℕ) (got missed before tried : List ℕ) → IsTried page got missed before tried
    → IsTried (page + 1) got (missed ++ page ∷ []) before (tried ++ page ∷ [])
missed_one page got missed before tried t = record {
  order = order_more page before tried t.order;
  got_rise = rising_wider page got t.got_rise;
  missed_rise = rising_push page missed t.missed_rise;
  each = λ other h. dite (ℕ_discrete other page)
      (λ same. inr (subst (λ n. Contains (missed ++ page ∷ []) n) (sym same) (Contains-push missed page)))
      (λ not. elim (t.each other (omega arith)) [ inl c ↦ inl c | inr c ↦ inr (Contains-append_left missed (page ∷ []) other c) ]);
  once = let sum = t.once in omega (arith, length-append missed (page ∷ []));
}

-- the next page was got, and is the last that the claim asked for
pub got_all : (most count page : ℕ) (got missed before tried : List ℕ) → page < most
    → length (got ++ page ∷ []) ≡ count → IsTried page got missed before tried
    → IsGot most count (got ++ page ∷ []) missed before (tried ++ page ∷ [])
got_all most count page got missed before tried within all t =
    let last : count - 1 ≡ length got = omega (arith, length-append got (page ∷ [])) in
    let at : slice_index (got ++ page ∷ []) (count - 1) ≡ page = ap (λ (k : ℕ). get_or (got ++ page ∷ []) k 0) last
    ∙ get_or-append_seam got page [] 0 in record {
      all = all;
      tries = subst (λ (n : ℕ). IsTried (n + 1) (got ++ page ∷ []) missed before (tried ++ page ∷ [])) (sym at) (got_one page got missed before tried t);
      within = omega arith;
    }

-- the same where a claim's list of missed pages is begun at page 0
pub got_next : (page : ℕ) (got now old new before tried after : List ℕ) → now ≡ got ++ page ∷ []
    → new ≡ missed_before page old → after ≡ tried ++ page ∷ []
    → IsTried page got (missed_before page old) before tried → IsTried (page + 1) now (missed_before (page + 1) new) before after
got_next page got now old new before tried after is same more t =
    subst (λ (l : List ℕ). IsTried (page + 1) l (missed_before (page + 1) new) before after) (sym is)
    (subst (λ (l : List ℕ). IsTried (page + 1) (got ++ page ∷ []) l before after) (sym (missed_on page new ∙ same))
    (subst (λ (l : List ℕ). IsTried (page + 1) (got ++ page ∷ []) (missed_before page old) before l) (sym more)
    (got_one page got (missed_before page old) before tried t)))

pub missed_next : (page : ℕ) (got now old new before tried after : List ℕ) → now ≡ got → new ≡ missed_before page old
    ++ page ∷ [] → after ≡ tried ++ page ∷ []
    → IsTried page got (missed_before page old) before tried → IsTried (page + 1) now (missed_before (page + 1) new) before after
missed_next page got now old new before tried after is same more t =
    subst (λ (l : List ℕ). IsTried (page + 1) l (missed_before (page + 1) new) before after) (sym is)
    (subst (λ (l : List ℕ). IsTried (page + 1) got l before after) (sym (missed_on page new ∙ same))
    (subst (λ (l : List ℕ). IsTried (page + 1) got (missed_before page old ++ page ∷ []) before l) (sym more)
    (missed_one page got (missed_before page old) before tried t)))

pub got_last : (most count page : ℕ) (got now old new before tried after : List ℕ) → now ≡ got ++ page ∷ []
    → new ≡ missed_before page old → after ≡ tried ++ page ∷ []
    → page < most → length now ≡ count → IsTried page got (missed_before page old) before tried → IsGot most count now new before after
got_last most count page got now old new before tried after is same more within all t =
    let all' : length (got ++ page ∷ []) ≡ count = ap length (sym is) ∙ all in
    subst (λ (l : List ℕ). IsGot most count l new before after) (sym is)
    (subst (λ (l : List ℕ). IsGot most count (got ++ page ∷ []) l before after) (sym same)
    (subst (λ (l : List ℕ). IsGot most count (got ++ page ∷ []) (missed_before page old) before l) (sym more)
    (got_all most count page got (missed_before page old) before tried within all' t)))

-- a claim that tried every page of a ledger that has some
tried_all : (most count : ℕ) (got missed before tried : List ℕ) → 0 < most → length got < count
    → IsTried most got (missed_before most missed) before tried → IsShort most count got missed before tried
tried_all zero count got missed before tried some few t = absurd (omega arith)
tried_all (suc most) count got missed before tried some few t = record { few = few; tries = t }

pub short_of : (most count page : ℕ) (got missed before tried : List ℕ) → page ≡ most → 0 < most → length got < count
    → IsTried page got (missed_before page missed) before tried
    → IsShort most count got missed before tried
short_of most count page got missed before tried end some few t =
    subst (λ (n : ℕ). IsShort n count got missed before tried) end (let some' : 0 < page = omega arith in
    tried_all page count got missed before tried some' few t)
