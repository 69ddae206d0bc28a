-- A ring without clips holds the newest frames: a recycling takes the oldest block, and only when every segment has one.
use Rattle.std.proofs.Common.{◌≡◌, ◌⊎◌, inl, inr, ℕ, zero, suc, ◌+◌, ◌-◌, ◌*◌, ◌/◌, ◌%◌, ◌<◌, ◌≤◌, Bool, true, false, not, cond, eqb, max, is_some, Option, Some, None, List, [], ◌∷◌, ◌++◌, length, take, map, replicate, refl, sym, ap, ◌∙◌, subst, arith}
use Rattle.std.proofs.Math.Nat.{add-mul, div-lt_iff_lt-mul, mul-le-mul_right}
use Rattle.std.proofs.lemmas.Bool.{cases_lt}
use Rattle.std.proofs.lemmas.Nat.{div-add-mod'}
use Rattle.std.specs.List.{find, list_any}
use Rattle.std.specs.Prelude.{option_and_then}
use Rattle.loop_record.specs.Recording.{Picture, Recording, Ring, Step, store, recycle, after_step, block, empty, frame_under, held_blocks, is_locked, last_number, meets, needs_recycling, plain, recycling_first, steps, victim, RiseBetween, RiseFrom}
use Rattle.loop_record.proofs.Blocks.{blocks-made}
use Rattle.loop_record.proofs.Growth.{under-append}
use Rattle.loop_record.proofs.Names.{blocks_of, stores_after, with_block}
use Rattle.loop_record.proofs.NumberOrder.{RiseBetween-append, RiseBetween-filter, RiseBetween-le}
use Rattle.loop_record.proofs.Steps.{plain-stores}
use Rattle.loop_record.proofs.TestFacts.{both, differ_test, equal, equal_test}
use Rattle.loop_record.proofs.Victim.{blocks-rise}
use Rattle.loop_record.proofs.WithoutBlock.{under-filter}
use Rattle.loop_station_words.specs.Rings.{IsRing, held}
use Rattle.loop_station_words.specs.declared.ring.RingSize.{RingSize}
use Rattle.loop_lane.specs.RingHolds.{HaveFrames, HoldsAfter, HoldsNewest, RingsHold, recorded, ring_with, total}

-- ---- how many blocks there are

-- each is below q
abbrev AllUnder : ℕ → List ℕ → Type 0
AllUnder q [] = Unit {0}
AllUnder q (b ∷ bs) = (b < q) × AllUnder q bs

under-with : (q b : ℕ) (bs : List ℕ) → b < q → AllUnder q bs → AllUnder q (with_block b bs)
under-with q b [] l h = (l, tt)
under-with q b (c ∷ cs) l h = go (eqb b c)
  where
    go : (t : Bool) → AllUnder q (cond t (c ∷ cs) (b ∷ c ∷ cs))
    go true = h
    go false = (l, h)

blocks-under : (ring : Ring) (low q : ℕ) (fs : List (ℕ × Picture)) → 1 ≤ ring.slots
    → RiseBetween low (q * ring.slots) fs → AllUnder q (blocks_of ring fs)
blocks-under ring low q [] some h = tt
blocks-under ring low q (f ∷ fs) some h =
    let end = RiseBetween-le (f.0 + 1) (q * ring.slots) fs h.1 in
    under-with q (block ring f.0) (blocks_of ring fs) ((div-lt_iff_lt-mul some).1 (omega (arith, end)))
    (blocks-under ring (f.0 + 1) q fs some h.1)

rising-few : (low q : ℕ) (bs : List ℕ) → low ≤ q → RiseFrom low bs → AllUnder q bs → low + length bs ≤ q
rising-few low q [] l h u = omega (arith, l)
rising-few low q (b ∷ bs) l h u =
    let rest = rising-few (b + 1) q bs (omega (arith, u.0)) h.1 u.1 in
    omega (arith, h.0, rest)

-- the first of them has as many numbers up to q
first-far : (low q b : ℕ) (bs cs : List ℕ) → bs ≡ b ∷ cs → RiseFrom low bs → AllUnder q bs → b + length bs ≤ q
first-far low q b bs cs is h u =
    let rises = subst (RiseFrom low) is h in
    let under = subst (AllUnder q) is u in
    let few = rising-few b q (b ∷ cs) (omega (arith, under.0)) (omega arith, rises.1) under in
    omega (arith, few, ap length is)

-- ---- the victim is the first

find-head : (p : ℕ → Bool) (b m : ℕ) (bs : List ℕ) → ((c : ℕ) → p c ≡ true) → find p (take m bs) ≡ Some b
    → (cs : List ℕ) × (bs ≡ b ∷ cs)
find-head p b zero bs all e = absurd cc
find-head p b (suc m) [] all e = absurd cc
find-head p b (suc m) (c ∷ cs) all e =
    (cs, ap (λ (x : ℕ). x ∷ cs) (go (p c) (all c) e))
  where
    go : (t : Bool) → t ≡ true → cond t (Some c) (find p (take m cs)) ≡ Some b → c ≡ b
    go true is k = cc
    go false is k = absurd cc

find-first : (p : ℕ → Bool) (m : ℕ) (bs : List ℕ) → ((c : ℕ) → p c ≡ true) → 1 ≤ m → 1 ≤ length bs
    → (b : ℕ) × (find p (take m bs) ≡ Some b)
find-first p zero bs all l k = absurd (omega (arith, l))
find-first p (suc m) [] all l k = absurd (omega (arith, k))
find-first p (suc m) (c ∷ cs) all l k = (c, ap (λ (t : Bool). cond t (Some c) (find p (take m cs))) (all c))

-- without clips no block is locked
unlocked : (ring : Ring) (r : Recording) → r.clips ≡ replicate 64 None → (b : ℕ) → not (is_locked ring r b) ≡ true
unlocked ring r is b = ap (λ cs. not (list_any (meets ring b) cs)) is

-- ---- what is kept

record Kept (count : ℕ) (r : Recording) : Type 0 where
  rising : RiseBetween 0 r.next r.frames
  clips : r.clips ≡ replicate 64 None
  newest : HoldsNewest count r

fewer : (count less : ℕ) (r : Recording) → less ≤ count → Kept count r → Kept less r
fewer count less r l h = record {
  rising = h.rising;
  clips = h.clips;
  newest = λ k low high. h.newest k low (omega (arith, high, l));
}

-- a number that is stored
stored : (fs : List (ℕ × Picture)) (n k : ℕ) (p : Picture) → n ≡ k → is_some (frame_under (fs ++ (n, p) ∷ []) k) ≡ true
stored [] n k p is = ap (λ (t : Bool). is_some (cond t (Some p) None)) (equal_test n k is)
stored (f ∷ fs) n k p is = go (eqb f.0 k) (stored fs n k p is)
  where
    go : (t : Bool) → is_some (frame_under (fs ++ (n, p) ∷ []) k) ≡ true
        → is_some (cond t (Some f.1) (frame_under (fs ++ (n, p) ∷ []) k)) ≡ true
    go true rest = refl
    go false rest = rest

after-store : (ring : Ring) (count : ℕ) (r : Recording) (p : Picture) → Kept count r
    → Kept (count + 1) (after_step ring r (store p))
after-store ring count r p h = record {
  rising = RiseBetween-append 0 r.next (r.next + 1) r.frames ((r.next, p) ∷ []) h.rising (omega arith, omega arith);
  clips = h.clips;
  newest = λ k low high. go k low high (cases_lt k r.next);
}
  where
    go : (k : ℕ) → k < r.next + 1 → r.next + 1 ≤ k + (count + 1) → (k < r.next) ⊎ (r.next ≤ k)
        → is_some (frame_under (r.frames ++ (r.next, p) ∷ []) k) ≡ true
    go k low high (inl old) = under-append r.frames ((r.next, p) ∷ []) k (h.newest k old (omega (arith, high)))
    go k low high (inr new) = stored r.frames r.next k p (omega (arith, low, new))

after-stores : (ring : Ring) (count : ℕ) (r : Recording) (ps : List Picture) → Kept count r
    → Kept (count + length ps) (plain ring r (map store ps))
after-stores ring count r [] h = fewer count (count + 0) r (omega arith) h
after-stores ring count r (p ∷ ps) h =
    let next = after_step ring r (store p) in
    fewer (count + 1 + length ps) (count + suc (length ps)) (plain ring next (map store ps)) (omega arith)
    (after-stores ring (count + 1) next ps (after-store ring count r p h))

within-stores : (ring : Ring) (count : ℕ) (r : Recording) (n : ℕ) (ps : List Picture) → Kept count r
    → Kept count (plain ring r (take n (map store ps)))
within-stores ring count r zero ps h = h
within-stores ring count r (suc n) [] h = h
within-stores ring count r (suc n) (p ∷ ps) h =
    let next = after_step ring r (store p) in
    within-stores ring count next n ps
    (fewer (count + 1) count next (omega arith) (after-store ring count r p h))

-- ---- a recycling

-- a number that is at most as many segments below the next one as stay isn't of the block that goes
far-off : (slots q b s k next : ℕ) → 1 ≤ slots → b + (s + 1) ≤ q → q * slots ≡ next → next ≤ k + s * slots
    → k / slots ≡ b → ⊥
far-off slots q b s k next some far is near same =
    let here : k < (b + 1) * slots = (div-lt_iff_lt-mul some).0 (omega (arith, same)) in
    let most : (b + 1 + s) * slots ≤ q * slots = mul-le-mul_right slots (omega (arith, far)) in
    absurd (omega (arith, here, most, add-mul (b + 1) s slots, is, near))

-- at a block's beginning, its number is the next number's
begins : (slots next : ℕ) → next % slots ≡ 0 → next / slots * slots ≡ next
begins slots next e = omega (arith, div-add-mod' next slots, e)

after-recycle : (ring : Ring) (keep s : ℕ) (r : Recording) (b : ℕ) → 1 ≤ ring.slots → ring.segments ≡ s + 1
    → Kept (s * ring.slots + 1) r → needs_recycling ring r ≡ true → victim ring keep r ≡ Some b
    → Kept (s * ring.slots) (after_step ring r (recycle b))
after-recycle ring keep s r b some size h needed chosen =
    let k = both (eqb (r.next % ring.slots) 0) (eqb (length (held_blocks ring r)) ring.segments) needed in
    let q = r.next / ring.slots in
    let whole : q * ring.slots ≡ r.next = begins ring.slots r.next (equal (r.next % ring.slots) 0 k.0) in
    let all : length (held_blocks ring r) ≡ ring.segments = equal (length (held_blocks ring r)) ring.segments k.1 in
    let rises : RiseBetween 0 (q * ring.slots) r.frames = subst (λ (n : ℕ). RiseBetween 0 n r.frames) (sym whole) h.rising in
    let head = find-head (λ c. not (is_locked ring r c)) b (length (held_blocks ring r) - max 1 keep) (held_blocks ring r)
    (unlocked ring r h.clips) chosen in
    let far : b + length (blocks_of ring r.frames) ≤ q = first-far (block ring 0) q b (blocks_of ring r.frames) head.0
    (sym (blocks-made ring r.frames) ∙ head.1) (blocks-rise ring 0 (q * ring.slots) r.frames some rises)
    (blocks-under ring 0 q r.frames some rises) in
    let gap : b + (s + 1) ≤ q = omega (arith, far, all, size, ap length (blocks-made ring r.frames)) in
    record {
      rising = RiseBetween-filter (λ f. not (eqb (block ring f.0) b)) 0 r.next r.frames h.rising;
      clips = h.clips;
      newest = λ n low high.
          ap is_some (under-filter ring b n r.frames
          (differ_test (block ring n) b (far-off ring.slots q b s n r.next some gap whole high)))
          ∙ h.newest n low (omega (arith, high));
    }

-- ---- an append

record Appended (ring : Ring) (count : ℕ) (r : Recording) (group : List Picture) (list : List Step) : Type 0 where
  next : (plain ring r list).next ≡ r.next + length group
  after : 1 ≤ length group → Kept (count + 1) (plain ring r list)
  within : (n : ℕ) → Kept count (plain ring r (take n list))

next-stores : (ring : Ring) (r : Recording) (ps : List Picture) → (plain ring r (map store ps)).next ≡ r.next + length ps
next-stores ring r ps = ap (λ (x : Recording). x.next) (plain-stores ring r ps)

only-stores : (ring : Ring) (count : ℕ) (r : Recording) (group : List Picture) → Kept (count + 1) r
    → Appended ring count r group (map store group)
only-stores ring count r group h = record {
  next = next-stores ring r group;
  after = λ some. fewer (count + 1 + length group) (count + 1) (plain ring r (map store group)) (omega arith)
      (after-stores ring (count + 1) r group h);
  within = λ n. fewer (count + 1) count (plain ring r (take n (map store group))) (omega arith)
      (within-stores ring (count + 1) r n group h);
}

recycled : (ring : Ring) (count : ℕ) (r : Recording) (b : ℕ) (group : List Picture) → Kept (count + 1) r
    → Kept count (after_step ring r (recycle b)) → Appended ring count r group (recycle b ∷ map store group)
recycled ring count r b group h less = record {
  next = next-stores ring (after_step ring r (recycle b)) group;
  after = λ some. fewer (count + length group) (count + 1)
      (plain ring (after_step ring r (recycle b)) (map store group)) (omega (arith, some))
      (after-stores ring count (after_step ring r (recycle b)) group less);
  within = λ n. go n;
}
  where
    go : (n : ℕ) → Kept count (plain ring r (take n (recycle b ∷ map store group)))
    go zero = fewer (count + 1) count r (omega arith) h
    go (suc n) = within-stores ring count (after_step ring r (recycle b)) n group less

abbrev these : List Step → Option (List Step)
these x = Some x

an-append : (ring : Ring) (keep s : ℕ) (r : Recording) (group : List Picture) (list : List Step) → 1 ≤ ring.slots
    → ring.segments ≡ s + 1 → Kept (s * ring.slots + 1) r → steps ring keep r group ≡ Some list
    → Appended ring (s * ring.slots) r group list
an-append ring keep s r group list some size h e = spent (eqb r.next (last_number ring)) e
  where
    same_list : (a b : List Step) → these a ≡ these b → a ≡ b
    same_list a b e = cc

    first : (t : Bool) (v : Option ℕ) → needs_recycling ring r ≡ t → victim ring keep r ≡ v
        → stores_after (recycling_first t v) group ≡ Some list → Appended ring (s * ring.slots) r group list
    first false v needed is e =
        subst (Appended ring (s * ring.slots) r group) (same_list (map store group) list e)
        (only-stores ring (s * ring.slots) r group h)
    first true None needed is e = absurd cc
    first true (Some b) needed is e =
        subst (Appended ring (s * ring.slots) r group) (same_list (recycle b ∷ map store group) list e)
        (recycled ring (s * ring.slots) r b group h (after-recycle ring keep s r b some size h needed is))

    spent : (t : Bool)
        → cond t None (stores_after (recycling_first (needs_recycling ring r) (victim ring keep r)) group) ≡ Some list
        → Appended ring (s * ring.slots) r group list
    spent true e = absurd cc
    spent false e = first (needs_recycling ring r) (victim ring keep r) refl refl e

-- ---- each append is answered

victim-some : (ring : Ring) (keep s : ℕ) (r : Recording) → ring.segments ≡ s + 1 → 1 ≤ s → keep < ring.segments
    → r.clips ≡ replicate 64 None → needs_recycling ring r ≡ true → (b : ℕ) × (victim ring keep r ≡ Some b)
victim-some ring keep s r size two few free needed =
    let k = both (eqb (r.next % ring.slots) 0) (eqb (length (held_blocks ring r)) ring.segments) needed in
    let all : length (held_blocks ring r) ≡ ring.segments = equal (length (held_blocks ring r)) ring.segments k.1 in
    find-first (λ c. not (is_locked ring r c)) (length (held_blocks ring r) - max 1 keep) (held_blocks ring r)
    (unlocked ring r free) (some (length (held_blocks ring r)) all) (omega (arith, all, size, two))
  where
    some : (n : ℕ) → n ≡ ring.segments → 1 ≤ n - max 1 keep
    some n is = omega (arith, is, size, two, few)

has-steps : (ring : Ring) (keep s : ℕ) (r : Recording) (group : List Picture) → ring.segments ≡ s + 1 → 1 ≤ s
    → keep < ring.segments → r.clips ≡ replicate 64 None → r.next < last_number ring
    → (list : List Step) × (steps ring keep r group ≡ Some list)
has-steps ring keep s r group size two few free low = spent (eqb r.next (last_number ring)) (unlike r.next (last_number ring) low)
  where
    unlike : (m n : ℕ) → m < n → eqb m n ≡ false
    unlike m n l = differ_test m n (λ e. absurd (omega (arith, l, e)))

    first : (t : Bool) → needs_recycling ring r ≡ t
        → (list : List Step) × (stores_after (recycling_first t (victim ring keep r)) group ≡ Some list)
    first false is = (map store group, refl)
    first true is =
        let v = victim-some ring keep s r size two few free is in
        (recycle v.0 ∷ map store group, ap (λ (o : Option ℕ). stores_after (recycling_first true o) group) v.1)

    spent : (t : Bool) → t ≡ false → (list : List Step)
        × (cond t None (stores_after (recycling_first (needs_recycling ring r) (victim ring keep r)) group) ≡ Some list)
    spent true e = absurd cc
    spent false e = first (needs_recycling ring r) refl

-- ---- appends, one after the other

record Recorded (ring : Ring) (keep count : ℕ) (r : Recording) (groups : List (List Picture)) : Type 0 where
  after : Recording
  answered : recorded ring keep r groups ≡ Some after
  next : after.next ≡ r.next + total groups
  kept : Kept count after

appends : (ring : Ring) (keep s : ℕ) (r : Recording) (groups : List (List Picture)) → 1 ≤ ring.slots
    → ring.segments ≡ s + 1 → 1 ≤ s → keep < ring.segments → Kept (s * ring.slots + 1) r → HaveFrames groups
    → r.next + total groups ≤ last_number ring → Recorded ring keep (s * ring.slots + 1) r groups
appends ring keep s r [] some size two few h frames l =
    record { after = r; answered = refl; next = omega arith; kept = h }
appends ring keep s r (group ∷ groups) some size two few h frames l =
    let x = has-steps ring keep s r group size two few h.clips (room r.next (length group) (total groups) (last_number ring) frames.0 l) in
    let a = an-append ring keep s r group x.0 some size h x.1 in
    let rest = appends ring keep s (plain ring r x.0) groups some size two few (a.after frames.0) frames.1
    (still r.next (length group) (total groups) (last_number ring) (plain ring r x.0).next a.next l) in
    record {
      after = rest.after;
      answered = ap (option_and_then (λ list. recorded ring keep (plain ring r list) groups)) x.1 ∙ rest.answered;
      next = omega (arith, rest.next, a.next);
      kept = rest.kept;
    }
  where
    room : (m n k end : ℕ) → 1 ≤ n → m + (n + k) ≤ end → m < end
    room m n k end one fits = omega (arith, one, fits)

    still : (m n k end now : ℕ) → now ≡ m + n → m + (n + k) ≤ end → now + k ≤ end
    still m n k end now is fits = omega (arith, is, fits)

nothing-kept : (count : ℕ) → Kept count empty
nothing-kept count = record { rising = omega arith; clips = refl; newest = λ k low high. absurd (omega (arith, low)) }

-- what is held after them, of no more than the ring holds
holds-after : (ring : Ring) (keep s count : ℕ) (groups : List (List Picture)) → 1 ≤ ring.slots
    → ring.segments ≡ s + 1 → 1 ≤ s → keep < ring.segments → count ≤ s * ring.slots + 1 → HaveFrames groups
    → total groups ≤ last_number ring → HoldsAfter ring keep count groups
holds-after ring keep s count groups some size two few most frames l =
    let all = appends ring keep s empty groups some size two few (nothing-kept (s * ring.slots + 1)) frames
    (from-none (total groups) (last_number ring) l) in
    record {
      after = all.after;
      answered = all.answered;
      next = omega (arith, all.next);
      newest = (fewer (s * ring.slots + 1) count all.after most all.kept).newest;
      within = λ group list n is.
          (fewer (s * ring.slots) (count - 1) (plain ring all.after (take n list)) (omega (arith, most))
          ((an-append ring keep s all.after group list some size all.kept is).within n)).newest;
    }
  where
    from-none : (n end : ℕ) → n ≤ end → 0 + n ≤ end
    from-none n end fits = omega (arith, fits)

ring-holds : (size : RingSize) (keep count : ℕ) (groups : List (List Picture)) → IsRing size → keep < size.segments
    → count ≤ held size → HaveFrames groups → total groups ≤ last_number (ring_with size)
    → HoldsAfter (ring_with size) keep count groups
ring-holds size keep count groups is few most frames l =
    let two = is.two in
    holds-after (ring_with size) keep (size.segments - 1) count groups is.one (omega (arith, two)) (omega (arith, two)) few most frames l

pub rings-hold : RingsHold
rings-hold = record {
  each = λ size keep groups is few frames l. ring-holds size keep (held size) groups is few (omega arith) frames l;
  chosen = λ usual frames size keep groups is few some l. ring-holds size keep frames groups is.preferred.allowed few is.enough some l;
}
