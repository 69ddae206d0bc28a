-- Legal steps keep a recording well formed.
use Rattle.std.proofs.Common.{◌≡◌, ◌⊎◌, inl, inr, ℕ, zero, suc, ◌+◌, ◌-◌, ◌≤◌, Bool, true, false, not, ◌&&◌, cond, eqb, ltb, leb, is_some, IsTrue, Option, Some, None, List, [], ◌∷◌, set, map, refl, ap, ◌∙◌, subst, arith}
use Rattle.std.proofs.lemmas.List.{length-set}
use Rattle.std.specs.Prelude.{Contains}
use Rattle.loop_record.specs.declared.clip.Span.{Span}
use Rattle.loop_record.specs.Recording.{Picture, Recording, Ring, Step, store, recycle, lock, unlock, after_step, is_legal, holds, holds_all, victim, is_that, is_locked, older_blocks, meets, block, steps, empty, recycling_first, needs_recycling, last_number, IsWellFormed}
use Rattle.loop_record.specs.Laws.{AreLegal}
use Rattle.loop_record.proofs.TestFacts.{clash, both, not_true, at_most, equal, equal_test}
use Rattle.loop_record.proofs.Growth.{under-append}
use Rattle.loop_record.proofs.WithoutBlock.{under-filter, outside_clip, found}
use Rattle.loop_record.proofs.NumberOrder.{RiseBetween-append, RiseBetween-filter, all_range-each, none-each}
use Rattle.loop_record.proofs.Names.{free_id, stores_after, IsWhole}

-- a clip that is there after another was put in its place is that one, or was there before
set-contains : (cs : List (Option Span)) (id : ℕ) (c : Option Span) (s : Span) → Contains (set cs id c) (Some s)
    → (c ≡ Some s) ⊎ Contains cs (Some s)
set-contains [] id c s h = inr h
set-contains (d ∷ cs) zero c s (zero, l, is) = inl is
set-contains (d ∷ cs) zero c s (suc i, l, is) = inr (suc i, l, is)
set-contains (d ∷ cs) (suc id) c s (zero, l, is) = inr (zero, omega arith, is)
set-contains (d ∷ cs) (suc id) c s (suc i, l, is) = go (set-contains cs id c s (i, omega (arith, l), is))
  where
    go : (c ≡ Some s) ⊎ Contains cs (Some s) → (c ≡ Some s) ⊎ Contains (d ∷ cs) (Some s)
    go (inl e) = inl e
    go (inr (k, m, e)) = inr (suc k, omega (arith, m), e)

-- what the test of a lock says
pub whole_of : (r : Recording) (s : Span) → leb s.from s.to ≡ true → holds_all r s ≡ true → IsWhole r s
whole_of r s order all =
    let le = at_most s.from s.to order in
    (le, λ n low high. all_range-each (holds r) s.from (s.to + 1 - s.from) n all low (omega (arith, le, high)))

-- a step that may be made leaves a well-formed recording
pub after-well_formed : (ring : Ring) (keep : ℕ) (r : Recording) (step : Step) → 1 ≤ ring.slots → IsWellFormed r
    → IsTrue (is_legal ring keep r step) → IsWellFormed (after_step ring r step)
after-well_formed ring keep r (store p) some w legal = record {
  rising = RiseBetween-append 0 r.next (r.next + 1) r.frames ((r.next, p) ∷ []) w.rising (omega arith, omega arith);
  clips = λ s c. ((w.clips s c).0, λ n low high. under-append r.frames ((r.next, p) ∷ []) n ((w.clips s c).1 n low high));
  ids = w.ids;
}
after-well_formed ring keep r (recycle b) some w legal =
    let chosen : victim ring keep r ≡ Some b = that (victim ring keep r) legal in
    let one = found (λ c. not (is_locked ring r c)) b (older_blocks ring keep r) chosen in
    let free = not_true (is_locked ring r b) one.1 in
    record {
      rising = RiseBetween-filter (λ f. not (eqb (block ring f.0) b)) 0 r.next r.frames w.rising;
      clips = λ s c. (
        (w.clips s c).0,
        λ n low high. ap is_some
            (under-filter ring b n r.frames
            (outside_clip ring b n s some (none-each (meets ring b) r.clips (Some s) free c) low high))
            ∙ (w.clips s c).1 n low high,
      );
      ids = w.ids;
    }
  where
    that : (o : Option ℕ) → is_that o b ≡ true → o ≡ Some b
    that None e = absurd cc
    that (Some m) e = ap (λ (k : ℕ). Some k) (equal m b e)
after-well_formed ring keep r (lock s) some w legal =
    let k = both (leb s.from s.to && holds_all r s) (ltb (free_id r) 64) legal in
    let m = both (leb s.from s.to) (holds_all r s) k.0 in
    let new = whole_of r s m.0 m.1 in
    record {
      rising = w.rising;
      clips = λ t c. go t new (set-contains r.clips (free_id r) (Some s) t c);
      ids = length-set r.clips (free_id r) (Some s) ∙ w.ids;
    }
  where
    same_span : (a b : Span) → (let o : Option Span = Some a in o) ≡ Some b → a ≡ b
    same_span a b e = cc

    go : (t : Span) → IsWhole r s → ((let o : Option Span = Some s in o) ≡ Some t) ⊎ Contains r.clips (Some t) → IsWhole (after_step ring r (lock s)) t
    go t new (inl is) =
        let e = same_span s t is in (
          omega (arith, new.0, ap (λ (x : Span). x.from) e, ap (λ (x : Span). x.to) e),
          λ n low high. new.1 n (omega (arith, low, ap (λ (x : Span). x.from) e))
              (omega (arith, high, ap (λ (x : Span). x.to) e)),
        )
    go t new (inr c) = ((w.clips t c).0, (w.clips t c).1)
after-well_formed ring keep r (unlock id) some w legal = record {
  rising = w.rising;
  clips = λ t c. go t (set-contains r.clips id None t c);
  ids = length-set r.clips id None ∙ w.ids;
}
  where
    none : Option Span
    none = None

    go : (t : Span) → (none ≡ Some t) ⊎ Contains r.clips (Some t) → IsWhole (after_step ring r (unlock id)) t
    go t (inl is) = absurd cc
    go t (inr c) = ((w.clips t c).0, (w.clips t c).1)

stores-legal : (ring : Ring) (keep : ℕ) (r : Recording) (ps : List Picture) → AreLegal ring keep r (map store ps)
stores-legal ring keep r [] = tt
stores-legal ring keep r (p ∷ ps) = (refl, stores-legal ring keep (after_step ring r (store p)) ps)

-- the steps of an append may be made, one after the other
pub steps-legal : (ring : Ring) (keep : ℕ) (r : Recording) (group : List Picture) (list : List Step)
    → steps ring keep r group ≡ Some list → AreLegal ring keep r list
steps-legal ring keep r group list e = spent (eqb r.next (last_number ring)) e
  where
    these : List Step → Option (List Step)
    these x = Some x

    same_list : (a b : List Step) → these a ≡ these b → a ≡ b
    same_list a b e = cc

    that : (b : ℕ) → is_that (Some b) b ≡ true
    that b = equal_test b b refl

    first : (t : Bool) (v : Option ℕ) → victim ring keep r ≡ v → stores_after (recycling_first t v) group ≡ Some list
        → AreLegal ring keep r list
    first false v is e = subst (AreLegal ring keep r) (same_list (map store group) list e) (stores-legal ring keep r group)
    first true None is e = absurd cc
    first true (Some b) is e =
        let legal : IsTrue (is_legal ring keep r (recycle b)) = ap (λ (o : Option ℕ). is_that o b) is ∙ that b in
        subst (AreLegal ring keep r) (same_list (recycle b ∷ map store group) list e) (legal, stores-legal ring keep (after_step ring r (recycle b)) group)

    spent : (t : Bool) → cond t None (stores_after (recycling_first (needs_recycling ring r) (victim ring keep r)) group) ≡
        Some list → AreLegal ring keep r list
    spent true e = absurd cc
    spent false e = first (needs_recycling ring r) (victim ring keep r) refl e

-- the empty recording is well formed
pub empty-well_formed : IsWellFormed empty
empty-well_formed = record { rising = omega arith; clips = λ s c. absurd (never s c); ids = refl }
  where
    never : (s : Span) → Contains empty.clips (Some s) → ⊥
    never s c = clash true refl (none-each (λ (o : Option Span). is_some o) empty.clips (Some s) refl c)
