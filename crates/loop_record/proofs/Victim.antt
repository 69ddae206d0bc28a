-- The victim in words.
use Rattle.std.proofs.Common.{◌≡◌, ◌⊎◌, inl, inr, ℕ, zero, suc, ◌+◌, ◌-◌, ◌*◌, ◌/◌, ◌<◌, ◌≤◌, Bool, true, false, not, ◌&&◌, cond, eqb, leb, max, Option, Some, None, List, [], ◌∷◌, length, take, refl, sym, ap, ◌∙◌, subst, arith}
use Rattle.std.proofs.Math.Nat.{div-mul-le_self, le-div_iff_mul-le, div-lt_iff_lt-mul, mul-div_cancel}
use Rattle.std.proofs.lemmas.Bool.{cases_lt}
use Rattle.std.proofs.lemmas.Bool.Decides.{nat_tests}
use Rattle.std.proofs.lemmas.List.{length-take}
use Rattle.std.proofs.lemmas.List.Sums.{count_by-le-length, sum_by-cons, sum_by-le-sum_by}
use Rattle.std.specs.Prelude.{Contains, ◌↔◌}
use Rattle.std.specs.List.{count_by, find}
use Rattle.loop_record.specs.declared.clip.Span.{Span}
use Rattle.loop_record.specs.Recording.{Picture, Recording, Ring, block, meets, held_blocks, older_blocks, is_locked, victim, RiseBetween, RiseFrom, IsHeldBlock, IsWellFormed, MayGo, IsVictim}
use Rattle.loop_record.proofs.Blocks.{blocks-made}
use Rattle.loop_record.proofs.TestFacts.{clash, both, not_true, untrue, equal, differ, at_most, at_most_test}
use Rattle.loop_record.proofs.WithoutBlock.{outside_clip}
use Rattle.loop_record.proofs.NumberOrder.{Among, numbers_of, held-among, among-held, none-each, each-none}
use Rattle.loop_record.proofs.Names.{with_block, blocks_of}

-- ---- blocks that rise

RiseFrom-lower : (low low' : ℕ) (bs : List ℕ) → low' ≤ low → RiseFrom low bs → RiseFrom low' bs
RiseFrom-lower low low' [] l h = tt
RiseFrom-lower low low' (b ∷ bs) l h = (omega (arith, l, h.0), h.1)

RiseFrom-among : (low b : ℕ) (bs : List ℕ) → RiseFrom low bs → Among b bs → low ≤ b
RiseFrom-among low b [] h e = elim e [ ]
RiseFrom-among low b (c ∷ bs) h (inl is) = omega (arith, h.0, is)
RiseFrom-among low b (c ∷ bs) h (inr rest) = omega (arith, h.0, RiseFrom-among (c + 1) b bs h.1 rest)

RiseFrom-with : (c : ℕ) (bs : List ℕ) → RiseFrom c bs → RiseFrom c (with_block c bs)
RiseFrom-with c [] h = (omega arith, tt)
RiseFrom-with c (b ∷ bs) h = go (eqb c b) refl
  where
    go : (t : Bool) → eqb c b ≡ t → RiseFrom c (cond t (b ∷ bs) (c ∷ b ∷ bs))
    go true is = h
    go false is = (omega arith, (above is, h.1))
      where
        above : eqb c b ≡ false → c + 1 ≤ b
        above e = grind (arith, nat_tests, e, h.0)

block-le : (ring : Ring) (m n : ℕ) → 1 ≤ ring.slots → m ≤ n → block ring m ≤ block ring n
block-le ring m n some l = (le-div_iff_mul-le some).1 (omega (arith, l, div-mul-le_self m ring.slots))

-- the blocks of frames whose numbers rise, rise
pub blocks-rise : (ring : Ring) (low high : ℕ) (fs : List (ℕ × Picture)) → 1 ≤ ring.slots → RiseBetween low high fs
    → RiseFrom (block ring low) (blocks_of ring fs)
blocks-rise ring low high [] some h = tt
blocks-rise ring low high (f ∷ fs) some h =
    let rest = blocks-rise ring (f.0 + 1) high fs some h.1 in
    let here = RiseFrom-lower (block ring (f.0 + 1)) (block ring f.0) (blocks_of ring fs) (block-le ring f.0 (f.0 + 1) some (omega arith)) rest in
    RiseFrom-lower (block ring f.0) (block ring low) (with_block (block ring f.0) (blocks_of ring fs))
    (block-le ring low f.0 some h.0) (RiseFrom-with (block ring f.0) (blocks_of ring fs) here)

-- ---- the blocks of numbers

with-among : (b c : ℕ) (bs : List ℕ) → Among b (with_block c bs) → (c ≡ b) ⊎ Among b bs
with-among b c [] h = h
with-among b c (d ∷ bs) h = go (eqb c d) h
  where
    go : (t : Bool) → Among b (cond t (d ∷ bs) (c ∷ d ∷ bs)) → (c ≡ b) ⊎ Among b (d ∷ bs)
    go true k = inr k
    go false k = k

among-with : (b c : ℕ) (bs : List ℕ) → (c ≡ b) ⊎ Among b bs → Among b (with_block c bs)
among-with b c [] h = h
among-with b c (d ∷ bs) h = go (eqb c d) refl h
  where
    go : (t : Bool) → eqb c d ≡ t → (c ≡ b) ⊎ Among b (d ∷ bs) → Among b (cond t (d ∷ bs) (c ∷ d ∷ bs))
    go true is (inl e) = inl (sym (equal c d is) ∙ e)
    go true is (inr k) = k
    go false is k = k

-- a block of frames is that of some number of them
block-number : (ring : Ring) (b : ℕ) (fs : List (ℕ × Picture)) → Among b (blocks_of ring fs) → (n : ℕ)
    × (Among n (numbers_of fs) × (block ring n ≡ b))
block-number ring b [] h = elim h [ ]
block-number ring b (f ∷ fs) h = go (λ k. block-number ring b fs k) (with-among b (block ring f.0) (blocks_of ring fs) h)
  where
    go : (Among b (blocks_of ring fs) → (n : ℕ) × (Among n (numbers_of fs) × (block ring n ≡ b)))
        → (block ring f.0 ≡ b) ⊎ Among b (blocks_of ring fs) → (n : ℕ)
        × (Among n (numbers_of (f ∷ fs)) × (block ring n ≡ b))
    go rest (inl is) = (f.0, (inl refl, is))
    go rest (inr k) = let x = rest k in (x.0, (inr x.1.0, x.1.1))

number-block : (ring : Ring) (n : ℕ) (fs : List (ℕ × Picture)) → Among n (numbers_of fs)
    → Among (block ring n) (blocks_of ring fs)
number-block ring n [] h = elim h [ ]
number-block ring n (f ∷ fs) (inl is) = among-with (block ring n) (block ring f.0) (blocks_of ring fs) (inl (ap (block ring) is))
number-block ring n (f ∷ fs) (inr rest) = among-with (block ring n) (block ring f.0) (blocks_of ring fs) (inr (number-block ring n fs rest))

-- ---- all but the greatest

-- all but the last k
abbrev pub front : ℕ → List ℕ → List ℕ
front k bs = take (length bs - k) bs

front-more : (k b : ℕ) (bs : List ℕ) → k ≤ length bs → front k (b ∷ bs) ≡ b ∷ front k bs
front-more k b bs l =
    let e : suc (length bs) - k ≡ suc (length bs - k) = omega (arith, l) in
    ap (λ (n : ℕ). take n (b ∷ bs)) e

front-none : (k : ℕ) (bs : List ℕ) → length bs ≤ k → front k bs ≡ []
front-none k bs l = let e : length bs - k ≡ 0 = omega (arith, l) in ap (λ (n : ℕ). take n bs) e

RiseFrom-take : (n low : ℕ) (bs : List ℕ) → RiseFrom low bs → RiseFrom low (take n bs)
RiseFrom-take zero low bs h = tt
RiseFrom-take (suc n) low [] h = tt
RiseFrom-take (suc n) low (b ∷ bs) h = (h.0, RiseFrom-take n (b + 1) bs h.1)

pub RiseFrom-front : (k low : ℕ) (bs : List ℕ) → RiseFrom low bs → RiseFrom low (front k bs)
RiseFrom-front k low bs h = RiseFrom-take (length bs - k) low bs h

-- how many are b or above it
abbrev pub from_on : ℕ → List ℕ → ℕ
from_on b bs = count_by (leb b) bs

abbrev mark : Bool → ℕ
mark t = cond t 1 0

from_on-yes : (b x : ℕ) (xs : List ℕ) → b ≤ x → from_on b (x ∷ xs) ≡ suc (from_on b xs)
from_on-yes b x xs l =
    let one : mark (leb b x) ≡ 1 = ap mark (at_most_test b x l) in
    omega (arith, one, sum_by-cons (λ c. mark (leb b c)) x xs)

from_on-no : (b x : ℕ) (xs : List ℕ) → x < b → from_on b (x ∷ xs) ≡ from_on b xs
from_on-no b x xs l =
    let none : mark (leb b x) ≡ 0 = ap mark (untrue (leb b x) (λ e. past (at_most b x e))) in
    omega (arith, none, sum_by-cons (λ c. mark (leb b c)) x xs)
  where
    past : b ≤ x → ⊥
    past m = absurd (omega (arith, l, m))

from_on-more : (b x : ℕ) (xs : List ℕ) → from_on b xs ≤ from_on b (x ∷ xs)
from_on-more b x xs = omega (arith, sum_by-cons (λ c. mark (leb b c)) x xs)

-- all of them, where they rise from there
from_on-all : (b low : ℕ) (bs : List ℕ) → b ≤ low → RiseFrom low bs → from_on b bs ≡ length bs
from_on-all b low [] l h = refl
from_on-all b low (x ∷ xs) l h =
    from_on-yes b x xs (omega (arith, l, h.0)) ∙ ap suc (from_on-all b (x + 1) xs (omega (arith, l, h.0)) h.1)

-- of two of them the lesser has more from itself on
pub from_on-less : (low b c : ℕ) (bs : List ℕ) → RiseFrom low bs → Among b bs → b < c → from_on c bs < from_on b bs
from_on-less low b c [] h e l = elim e [ ]
from_on-less low b c (x ∷ xs) h (inl is) l =
    omega (arith, from_on-yes b x xs (omega (arith, is)), from_on-no c x xs (omega (arith, is, l)), fewer)
  where
    fewer : from_on c xs ≤ from_on b xs
    fewer = sum_by-le-sum_by (λ n. mark (leb c n)) (λ n. mark (leb b n)) xs (λ n. less n (leb c n) refl)
      where
        less : (n : ℕ) (t : Bool) → leb c n ≡ t → mark t ≤ mark (leb b n)
        less n true e =
            let one : mark (leb b n) ≡ 1 = ap mark (at_most_test b n (omega (arith, l, at_most c n e))) in
            omega (arith, one)
        less n false e = omega arith
from_on-less low b c (x ∷ xs) h (inr rest) l =
    let above = RiseFrom-among (x + 1) b xs h.1 rest in
    let later = from_on-less (x + 1) b c xs h.1 rest l in
    omega (arith, later, from_on-no b x xs (omega (arith, above)), from_on-no c x xs (omega (arith, above, l)))

-- one of them is counted itself
pub from_on-some : (low b : ℕ) (bs : List ℕ) → RiseFrom low bs → Among b bs → 1 ≤ from_on b bs
from_on-some low b bs h e = let more = from_on-less low b (b + 1) bs h e (omega arith) in omega (arith, more)

-- one of them comes before the last k exactly where more than k are it or above it
pub front-counted : (k low b : ℕ) (bs : List ℕ) → RiseFrom low bs → Among b (front k bs)
    → Among b bs × (k < from_on b bs)
front-counted k low b [] h e = elim (subst (Among b) (front-none k [] (omega arith)) e) [ ]
front-counted k low b (x ∷ xs) h e = go (λ at. front-counted k (x + 1) b xs h.1 at) (cases_lt (length xs) k)
  where
    pick : (Among b (front k xs) → Among b xs × (k < from_on b xs)) → k ≤ length xs
        → (x ≡ b) ⊎ Among b (front k xs) → Among b (x ∷ xs) × (k < from_on b (x ∷ xs))
    pick later more (inl is) =
        let all = from_on-all b x (x ∷ xs) (omega (arith, is)) (omega arith, h.1) in
        (inl is, omega (arith, more, all))
    pick later more (inr rest) =
        let found = later rest in
        let counted = found.1 in
        (inr found.0, omega (arith, counted, from_on-more b x xs))

    go : (Among b (front k xs) → Among b xs × (k < from_on b xs)) → (length xs < k) ⊎ (k ≤ length xs)
        → Among b (x ∷ xs) × (k < from_on b (x ∷ xs))
    go later (inl past) = elim (subst (Among b) (front-none k (x ∷ xs) (omega (arith, past))) e) [ ]
    go later (inr more) = pick later more (subst (Among b) (front-more k x xs more) e)

pub counted-front : (k low b : ℕ) (bs : List ℕ) → RiseFrom low bs → Among b bs → k < from_on b bs → Among b (front k bs)
counted-front k low b [] h e l = elim e [ ]
counted-front k low b (x ∷ xs) h (inl is) l =
    let most = count_by-le-length (leb b) (x ∷ xs) in
    subst (Among b) (sym (front-more k x xs (omega (arith, l, most)))) (inl is)
counted-front k low b (x ∷ xs) h (inr rest) l =
    let above = RiseFrom-among (x + 1) b xs h.1 rest in
    let counted : k < from_on b xs = omega (arith, l, from_on-no b x xs (omega (arith, above))) in
    let most = count_by-le-length (leb b) xs in
    subst (Among b) (sym (front-more k x xs (omega (arith, counted, most))))
    (inr (counted-front k (x + 1) b xs h.1 rest counted))

-- with one less counted, the next one above
pub next-above : (k low b : ℕ) (bs : List ℕ) → RiseFrom low bs → Among b bs → k < from_on b bs → 1 ≤ k → (c : ℕ)
    × (Among c bs × ((b < c) × (k ≤ from_on c bs)))
next-above k low b [] h e l some = elim e [ ]
next-above k low b (x ∷ []) h (inl is) l some =
    absurd (omega (arith, l, some, count_by-le-length (leb b) (x ∷ [])))
next-above k low b (x ∷ []) h (inr e) l some = elim e [ ]
next-above k low b (x ∷ y ∷ xs) h (inl is) l some =
    let most = count_by-le-length (leb b) (x ∷ y ∷ xs) in
    let all = from_on-all y y (y ∷ xs) (omega arith) (omega arith, h.1.1) in
    let rises = h.1.0 in
    (y, (inr (inl refl), (omega (arith, is, rises), omega (arith, l, most, all, from_on-more y x (y ∷ xs)))))
next-above k low b (x ∷ y ∷ xs) h (inr rest) l some =
    let above = RiseFrom-among (x + 1) b (y ∷ xs) h.1 rest in
    let fewer : k < from_on b (y ∷ xs) = omega (arith, l, from_on-no b x (y ∷ xs) (omega (arith, above))) in
    let c = next-above k (x + 1) b (y ∷ xs) h.1 rest fewer some in
    let counted = c.1.1.1 in
    (c.0, (inr c.1.0, (c.1.1.0, omega (arith, counted, from_on-more c.0 x (y ∷ xs)))))

-- those of other ones that rise from there on are no more than are counted
rising-counted : (low least : ℕ) (cs bs : List ℕ) → RiseFrom low cs → RiseFrom least bs
    → ((c : ℕ) → Among c cs → Among c bs) → length cs ≤ from_on low bs
rising-counted low least [] bs h k all = omega arith
rising-counted low least (c ∷ cs) [] h k all = elim (all c (inl refl)) [ ]
rising-counted low least (c ∷ cs) (x ∷ xs) h k all =
    go (λ rest. rising-counted low (x + 1) cs xs (RiseFrom-lower (c + 1) low cs (omega (arith, h.0)) h.1) k.1 rest)
    (λ rest. rising-counted low (x + 1) (c ∷ cs) xs h k.1 rest) (all c (inl refl))
  where
    -- those above c are after it
    behind : x ≤ c → (d : ℕ) → Among d cs → Among d xs
    behind first d at = pick (all d (inr at))
      where
        pick : (x ≡ d) ⊎ Among d xs → Among d xs
        pick (inl is) = absurd (omega (arith, first, is, RiseFrom-among (c + 1) d cs h.1 at))
        pick (inr rest) = rest

    go : (((d : ℕ) → Among d cs → Among d xs) → length cs ≤ from_on low xs)
        → (((d : ℕ) → Among d (c ∷ cs) → Among d xs) → suc (length cs) ≤ from_on low xs)
        → (x ≡ c) ⊎ Among c xs → suc (length cs) ≤ from_on low (x ∷ xs)
    go fewer same (inl is) =
        let rest = fewer (behind (omega (arith, is))) in
        let low_enough = h.0 in
        omega (arith, rest, from_on-yes low x xs (omega (arith, is, low_enough)))
    go fewer same (inr later) = let rest = same (λ d at. each d at) in omega (arith, rest, from_on-more low x xs)
      where
        each : (d : ℕ) → (c ≡ d) ⊎ Among d cs → Among d xs
        each d (inl is) = subst (λ (n : ℕ). Among n xs) is later
        each d (inr at) = behind (omega (arith, RiseFrom-among (x + 1) c xs k.1 later)) d at

-- where more than k are b or above it, k others are above it
record Above (k b : ℕ) (bs : List ℕ) : Type 0 where
  blocks : List ℕ
  count : length blocks ≡ k
  rise : RiseFrom (b + 1) blocks
  among : (c : ℕ) → Among c blocks → Among c bs

counted-above : (k low b : ℕ) (bs : List ℕ) → RiseFrom low bs → Among b bs → k < from_on b bs → Above k b bs
counted-above k low b [] h e l = elim e [ ]
counted-above k low b (x ∷ xs) h (inl is) l =
    let most = count_by-le-length (leb b) (x ∷ xs) in
    record {
      blocks = take k xs;
      count = omega (arith, l, most, length-take k xs);
      rise = subst (λ (n : ℕ). RiseFrom (n + 1) (take k xs)) is (RiseFrom-take k (x + 1) xs h.1);
      among = λ c at. inr (taken k c xs at);
    }
  where
    taken : (n c : ℕ) (bs : List ℕ) → Among c (take n bs) → Among c bs
    taken zero c bs e = elim e [ ]
    taken (suc n) c [] e = elim e [ ]
    taken (suc n) c (b ∷ bs) (inl is) = inl is
    taken (suc n) c (b ∷ bs) (inr rest) = inr (taken n c bs rest)
counted-above k low b (x ∷ xs) h (inr rest) l =
    let above = RiseFrom-among (x + 1) b xs h.1 rest in
    let later = counted-above k (x + 1) b xs h.1 rest (omega (arith, l, from_on-no b x xs (omega (arith, above)))) in
    record {
      blocks = later.blocks;
      count = later.count;
      rise = later.rise;
      among = λ c at. inr (later.among c at);
    }

-- ---- the first that passes

pub record FirstOf (p : ℕ → Bool) (bs : List ℕ) (b : ℕ) : Type 0 where
  pub there : Among b bs
  pub passes : p b ≡ true
  pub least : (c : ℕ) → Among c bs → p c ≡ true → b ≤ c

pub find-first : (p : ℕ → Bool) (low b : ℕ) (bs : List ℕ) → RiseFrom low bs → find p bs ≡ Some b → FirstOf p bs b
find-first p low b [] h e = absurd cc
find-first p low b (c ∷ bs) h e = go (p c) refl (λ k. find-first p (c + 1) b bs h.1 k) e
  where
    go : (t : Bool) → p c ≡ t → (find p bs ≡ Some b → FirstOf p bs b) → cond t (Some c) (find p bs) ≡ Some b
        → FirstOf p (c ∷ bs) b
    go true is rest k =
        let same : c ≡ b = cc in
        record { there = inl same; passes = sym (ap p same) ∙ is; least = λ d at pd. from same d at }
      where
        from : c ≡ b → (d : ℕ) → (c ≡ d) ⊎ Among d bs → b ≤ d
        from same d (inl e) = omega (arith, same, e)
        from same d (inr e) = omega (arith, same, RiseFrom-among (c + 1) d bs h.1 e)
    go false is rest k =
        let x = rest k in
        record { there = inr x.there; passes = x.passes; least = λ d at pd. from x d at pd }
      where
        from : FirstOf p bs b → (d : ℕ) → (c ≡ d) ⊎ Among d bs → p d ≡ true → b ≤ d
        from x d (inl e) pd = absurd (clash (p d) pd (sym (ap p e) ∙ is))
        from x d (inr e) pd = x.least d e pd

pub find-none : (p : ℕ → Bool) (b : ℕ) (bs : List ℕ) → find p bs ≡ None → Among b bs → p b ≡ true → ⊥
find-none p b [] e at pb = elim at [ ]
find-none p b (c ∷ bs) e at pb = go (p c) refl (λ k m. find-none p b bs k m pb) e at
  where
    go : (t : Bool) → p c ≡ t → (find p bs ≡ None → Among b bs → ⊥) → cond t (Some c) (find p bs) ≡ None → (c ≡ b)
        ⊎ Among b bs → ⊥
    go true is rest k at = absurd cc
    go false is rest k (inl e) = clash (p b) pb (sym (ap p e) ∙ is)
    go false is rest k (inr m) = rest k m

-- ---- clips

-- a clip that has no number of a block doesn't meet it
unmet : (ring : Ring) (b : ℕ) (s : Span) → 1 ≤ ring.slots → ((n : ℕ) → s.from ≤ n → n ≤ s.to → block ring n ≡ b → ⊥)
    → meets ring b (Some s) ≡ false
unmet ring b s some none = untrue (meets ring b (Some s)) (λ e. apart e)
  where
    apart : (leb s.from s.to && leb (s.from / ring.slots) b && leb b (s.to / ring.slots)) ≡ true → ⊥
    apart e =
        let k = both (leb s.from s.to && leb (s.from / ring.slots) b) (leb b (s.to / ring.slots)) e in
        let m = both (leb s.from s.to) (leb (s.from / ring.slots) b) k.0 in
        pick (at_most s.from s.to m.0) (at_most (s.from / ring.slots) b m.1) (at_most b (s.to / ring.slots) k.1) (cases_lt (s.from / ring.slots) b)
      where
        pick : s.from ≤ s.to → s.from / ring.slots ≤ b → b ≤ s.to / ring.slots → (s.from / ring.slots < b)
            ⊎ (b ≤ s.from / ring.slots) → ⊥
        pick order low high (inr same) = none s.from (omega arith) order (omega (arith, low, same))
        pick order low high (inl below) =
            let first : s.from < b * ring.slots = (div-lt_iff_lt-mul some).0 below in
            let last : b * ring.slots ≤ s.to = (le-div_iff_mul-le some).0 high in
            none (b * ring.slots) (omega (arith, first)) last (mul-div_cancel b some)

-- no clip meets a block where no number of a clip has it
free-test : (ring : Ring) (r : Recording) (b : ℕ) → 1 ≤ ring.slots
    → ((s : Span) → Contains r.clips (Some s) → (n : ℕ) → s.from ≤ n → n ≤ s.to → block ring n ≡ b → ⊥)
    → is_locked ring r b ≡ false
free-test ring r b some free = each-none (meets ring b) r.clips (λ c at. go c at)
  where
    go : (c : Option Span) → Contains r.clips c → meets ring b c ≡ false
    go None at = refl
    go (Some s) at = unmet ring b s some (λ n low high is. free s at n low high is)

-- ---- the two together

-- the block of a held frame is one of the blocks, and the other way round
held-block : (ring : Ring) (r : Recording) (b : ℕ) → IsHeldBlock ring r b → Among b (held_blocks ring r)
held-block ring r b (n, (held, is)) =
    subst (Among b) (sym (blocks-made ring r.frames))
    (subst (λ (c : ℕ). Among c (blocks_of ring r.frames)) is (number-block ring n r.frames (held-among n r.frames held)))

block-held : (ring : Ring) (r : Recording) (b : ℕ) → Among b (held_blocks ring r) → IsHeldBlock ring r b
block-held ring r b at =
    let n = block-number ring b r.frames (subst (Among b) (blocks-made ring r.frames) at) in
    (n.0, (among-held n.0 r.frames n.1.0, n.1.1))

-- the blocks of a recording rise
held-rise : (ring : Ring) (r : Recording) → 1 ≤ ring.slots → IsWellFormed r → RiseFrom (block ring 0) (held_blocks ring r)
held-rise ring r some w =
    subst (RiseFrom (block ring 0)) (sym (blocks-made ring r.frames)) (blocks-rise ring 0 r.next r.frames some w.rising)

-- a list's elements, by place and one by one
among-contains : (c : ℕ) (bs : List ℕ) → Among c bs → Contains bs c
among-contains c [] e = elim e [ ]
among-contains c (b ∷ bs) (inl is) = (zero, omega arith, is)
among-contains c (b ∷ bs) (inr rest) = later (among-contains c bs rest)
  where
    later : Contains bs c → Contains (b ∷ bs) c
    later (k, l, e) = (suc k, omega (arith, l), e)

contains-among : (c : ℕ) (bs : List ℕ) → Contains bs c → Among c bs
contains-among c [] (k, l, e) = absurd (omega (arith, l))
contains-among c (b ∷ bs) (zero, l, e) = inl e
contains-among c (b ∷ bs) (suc k, l, e) = inr (contains-among c bs (k, omega (arith, l), e))

-- a block that may go is an older one that no clip meets
may_go-older : (ring : Ring) (keep : ℕ) (r : Recording) (b : ℕ) → 1 ≤ ring.slots → IsWellFormed r
    → MayGo ring keep r b → Among b (older_blocks ring keep r) × (is_locked ring r b ≡ false)
may_go-older ring keep r b some w m =
    let bs = held_blocks ring r in
    let rises = held-rise ring r some w in
    let here = held-block ring r b m.held in
    let above = rising-counted (b + 1) (block ring 0) m.older.blocks bs m.older.rise rises
    (λ c at. held-block ring r c (m.older.held c (among-contains c m.older.blocks at))) in
    let counted : max 1 keep < from_on b bs = omega (arith, above, m.older.count_is, from_on-less (block ring 0) b (b + 1) bs rises here (omega arith)) in
    (counted-front (max 1 keep) (block ring 0) b bs rises here counted, free-test ring r b some m.unlocked)

older-may_go : (ring : Ring) (keep : ℕ) (r : Recording) (b : ℕ) → 1 ≤ ring.slots → IsWellFormed r
    → Among b (older_blocks ring keep r) → is_locked ring r b ≡ false → MayGo ring keep r b
older-may_go ring keep r b some w at free =
    let bs = held_blocks ring r in
    let rises = held-rise ring r some w in
    let x = front-counted (max 1 keep) (block ring 0) b bs rises at in
    let above = counted-above (max 1 keep) (block ring 0) b bs rises x.0 x.1 in
    record {
      held = block-held ring r b x.0;
      older = record {
        blocks = above.blocks;
        count_is = above.count;
        rise = above.rise;
        held = λ c there. block-held ring r c (above.among c (contains-among c above.blocks there));
      };
      unlocked = λ s stands k low high is. differ (block ring k) b
          (outside_clip ring b k s some (none-each (meets ring b) r.clips (Some s) free stands) low high) is;
    }

-- the victim is the least block that may go
pub victim-is : (ring : Ring) (keep : ℕ) (r : Recording) (b : ℕ) → 1 ≤ ring.slots → IsWellFormed r
    → victim ring keep r ≡ Some b ↔ IsVictim ring keep r b
victim-is ring keep r b some w = (to, from)
  where
    rises : RiseFrom (block ring 0) (older_blocks ring keep r)
    rises = RiseFrom-front (max 1 keep) (block ring 0) (held_blocks ring r) (held-rise ring r some w)

    to : victim ring keep r ≡ Some b → IsVictim ring keep r b
    to e =
        let x = find-first (λ c. not (is_locked ring r c)) (block ring 0) b (older_blocks ring keep r) rises e in
        record {
          goes = older-may_go ring keep r b some w x.there (not_true (is_locked ring r b) x.passes);
          least = λ c m. let k = may_go-older ring keep r c some w m in x.least c k.0 (ap not k.1);
        }

    from : IsVictim ring keep r b → victim ring keep r ≡ Some b
    from v = pick (victim ring keep r) refl
      where
        k : Among b (older_blocks ring keep r) × (is_locked ring r b ≡ false)
        k = may_go-older ring keep r b some w v.goes

        pick : (o : Option ℕ) → victim ring keep r ≡ o → o ≡ Some b
        pick None e = absurd (find-none (λ c. not (is_locked ring r c)) b (older_blocks ring keep r) e k.0 (ap not k.1))
        pick (Some c) e =
            let x = find-first (λ d. not (is_locked ring r d)) (block ring 0) c (older_blocks ring keep r) rises e in
            let low = x.least b k.0 (ap not k.1) in
            let high = v.least c (older-may_go ring keep r c some w x.there (not_true (is_locked ring r c) x.passes)) in
            ap (λ (m : ℕ). Some m) (omega (arith, low, high))

-- and where there is none, no block may go
pub victim-none : (ring : Ring) (keep : ℕ) (r : Recording) → 1 ≤ ring.slots → IsWellFormed r → victim ring keep r ≡ None → (b : ℕ)
    → MayGo ring keep r b → ⊥
victim-none ring keep r some w e b m =
    let k = may_go-older ring keep r b some w m in
    find-none (λ c. not (is_locked ring r c)) b (older_blocks ring keep r) e k.0 (ap not k.1)
