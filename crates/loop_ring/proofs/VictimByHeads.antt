-- The block that goes, found by the headers of a store's segments.
use Rattle.std.proofs.Common.{◌≡◌, ◌⊎◌, inl, inr, ℕ, suc, ◌<◌, ◌≤◌, Bool, true, false, not, ◌&&◌, cond, eqb, leb, ltb, min, max, Option, Some, None, List, [], ◌∷◌, get_or, refl, sym, ap, ◌∙◌, subst, arith}
use Rattle.std.proofs.lemmas.Bool.{cases_lt}
use Rattle.std.proofs.lemmas.List.Folds.{list_any_at}
use Rattle.std.proofs.lemmas.List.Quantifiers.{position-Some}
use Rattle.std.specs.Prelude.{◌||◌, if◌then◌else◌, nat_lt}
use Rattle.std.specs.List.{count_by, list_any, filter, filter_map, fold, cons_option, position, reduce}
use Rattle.loop_record.specs.declared.clip.Span.{Span}
use Rattle.loop_record.specs.declared.geometry.Geometry.{Geometry}
use Rattle.loop_record.specs.declared.segment.SegmentHead.{SegmentHead}
use Rattle.loop_record.specs.Reading.{Holds}
use Rattle.loop_record.specs.Recording.{Recording, RiseFrom, Ring, ring_of, block, held_blocks, meets, older_blocks, is_locked, victim}
use Rattle.loop_record.proofs.Blocks.{blocks-made}
use Rattle.loop_record.proofs.TestFacts.{at_most, at_most_test, clash, both, not_true, equal, equal_test}
use Rattle.loop_record.proofs.Form.{reading-well_formed}
use Rattle.loop_record.proofs.NumberOrder.{Among}
use Rattle.loop_record.proofs.Victim.{FirstOf, RiseFrom-front, blocks-rise, counted-front, find-first, find-none, from_on, from_on-less, from_on-some, front-counted, next-above}
use Rattle.loop_ring.specs.Heads.{IsPlaceOf, floor_block, held_block, heads_of, is_of}
use Rattle.loop_ring.proofs.Heads.{any-index, position-none}
use Rattle.loop_ring.proofs.HeldBlocks.{or_true, sorted, is_held, from-counted, held-any, any-held_block}

-- the block may go, where this is the floor: it is below, and no clip meets it
abbrev pub is_going : Ring → List (Option Span) → ℕ → ℕ → Bool
is_going ring clips floor block = nat_lt block floor && not (list_any (meets ring block) clips)

-- the block of a segment that is open and has a whole frame, if that block may go
abbrev pub going_block : Ring → List (Option Span) → ℕ → Option SegmentHead → Option ℕ
going_block ring clips floor None = None
going_block ring clips floor (Some head) =
    if nat_lt 0 head.frames && is_going ring clips floor head.block then Some head.block else None

-- the least block that may go, where this is the floor, if there is one
abbrev pub least_going : Ring → List (Option Span) → List (Option SegmentHead) → Option ℕ → Option ℕ
least_going ring clips heads None = None
least_going ring clips heads (Some floor) = reduce min (filter_map (going_block ring clips floor) heads)

-- ---- the blocks of the headers

among-headers : (b : ℕ) (hs : List (Option SegmentHead)) → Among b (filter_map held_block hs)
    → list_any (is_held b) hs ≡ true
among-headers b [] e = elim e [ ]
among-headers b (None ∷ hs) e = among-headers b hs e
among-headers b (Some h ∷ hs) e = go (ltb 0 h.frames) refl (λ k. among-headers b hs k) e
  where
    go : (t : Bool) → ltb 0 h.frames ≡ t → (Among b (filter_map held_block hs) → list_any (is_held b) hs ≡ true)
        → Among b (cons_option (cond t (Some h.block) None) (filter_map held_block hs))
        → ((eqb h.block b && ltb 0 h.frames) || list_any (is_held b) hs) ≡ true
    go true is rest (inl same) = let block = equal_test h.block b same in λ i. (block i && is i) || list_any (is_held b) hs
    go true is rest (inr k) = or_true (eqb h.block b && ltb 0 h.frames) _ (rest k)
    go false is rest k = or_true (eqb h.block b && ltb 0 h.frames) _ (rest k)

headers-among : (b : ℕ) (hs : List (Option SegmentHead)) → list_any (is_held b) hs ≡ true
    → Among b (filter_map held_block hs)
headers-among b [] e = absurd cc
headers-among b (None ∷ hs) e = headers-among b hs e
headers-among b (Some h ∷ hs) e = go (ltb 0 h.frames) (eqb h.block b) refl (λ k. headers-among b hs k) e
  where
    go : (t c : Bool) → eqb h.block b ≡ c → (list_any (is_held b) hs ≡ true → Among b (filter_map held_block hs))
        → ((c && t) || list_any (is_held b) hs) ≡ true
        → Among b (cons_option (cond t (Some h.block) None) (filter_map held_block hs))
    go true true is rest k = inl (equal h.block b is)
    go true false is rest k = inr (rest k)
    go false true is rest k = rest k
    go false false is rest k = rest k

-- ---- the greatest and the least

pub record Greatest (xs : List ℕ) (m : ℕ) : Type 0 where
  pub among : Among m xs
  pub most : (c : ℕ) → Among c xs → c ≤ m

pub record Least (xs : List ℕ) (m : ℕ) : Type 0 where
  pub among : Among m xs
  pub least : (c : ℕ) → Among c xs → m ≤ c

-- one of two is the greater, and one the lesser
max-either : (a b : ℕ) → (a ≡ max a b) ⊎ (b ≡ max a b)
max-either a b = go (cases_lt a b)
  where
    go : (a < b) ⊎ (b ≤ a) → (a ≡ max a b) ⊎ (b ≡ max a b)
    go (inl l) = inr (omega (arith, l))
    go (inr l) = inl (omega (arith, l))

min-either : (a b : ℕ) → (a ≡ min a b) ⊎ (b ≡ min a b)
min-either a b = go (cases_lt a b)
  where
    go : (a < b) ⊎ (b ≤ a) → (a ≡ min a b) ⊎ (b ≡ min a b)
    go (inl l) = inl (omega (arith, l))
    go (inr l) = inr (omega (arith, l))

fold-max : (a : ℕ) (xs : List ℕ) → Greatest (a ∷ xs) (fold max a xs)
fold-max a [] = record { among = inl refl; most = λ c at. last c at }
  where
    last : (c : ℕ) → (a ≡ c) ⊎ ⊥ → c ≤ a
    last c (inl is) = omega (arith, is)
    last c (inr never) = elim never [ ]
fold-max a (x ∷ xs) = go (fold-max (max a x) xs)
  where
    go : Greatest (max a x ∷ xs) (fold max (max a x) xs) → Greatest (a ∷ x ∷ xs) (fold max (max a x) xs)
    go k = record { among = from k.among; most = λ c at. below c at }
      where
        m : ℕ
        m = fold max (max a x) xs

        from : (max a x ≡ m) ⊎ Among m xs → (a ≡ m) ⊎ ((x ≡ m) ⊎ Among m xs)
        from (inl is) = pick (max-either a x)
          where
            pick : (a ≡ max a x) ⊎ (x ≡ max a x) → (a ≡ m) ⊎ ((x ≡ m) ⊎ Among m xs)
            pick (inl e) = inl (e ∙ is)
            pick (inr e) = inr (inl (e ∙ is))
        from (inr rest) = inr (inr rest)

        below : (c : ℕ) → (a ≡ c) ⊎ ((x ≡ c) ⊎ Among c xs) → c ≤ m
        below c (inl is) = omega (arith, is, k.most (max a x) (inl refl))
        below c (inr (inl is)) = omega (arith, is, k.most (max a x) (inl refl))
        below c (inr (inr rest)) = k.most c (inr rest)

fold-min : (a : ℕ) (xs : List ℕ) → Least (a ∷ xs) (fold min a xs)
fold-min a [] = record { among = inl refl; least = λ c at. last c at }
  where
    last : (c : ℕ) → (a ≡ c) ⊎ ⊥ → a ≤ c
    last c (inl is) = omega (arith, is)
    last c (inr never) = elim never [ ]
fold-min a (x ∷ xs) = go (fold-min (min a x) xs)
  where
    go : Least (min a x ∷ xs) (fold min (min a x) xs) → Least (a ∷ x ∷ xs) (fold min (min a x) xs)
    go k = record { among = from k.among; least = λ c at. above c at }
      where
        m : ℕ
        m = fold min (min a x) xs

        from : (min a x ≡ m) ⊎ Among m xs → (a ≡ m) ⊎ ((x ≡ m) ⊎ Among m xs)
        from (inl is) = pick (min-either a x)
          where
            pick : (a ≡ min a x) ⊎ (x ≡ min a x) → (a ≡ m) ⊎ ((x ≡ m) ⊎ Among m xs)
            pick (inl e) = inl (e ∙ is)
            pick (inr e) = inr (inl (e ∙ is))
        from (inr rest) = inr (inr rest)

        above : (c : ℕ) → (a ≡ c) ⊎ ((x ≡ c) ⊎ Among c xs) → m ≤ c
        above c (inl is) = omega (arith, is, k.least (min a x) (inl refl))
        above c (inr (inl is)) = omega (arith, is, k.least (min a x) (inl refl))
        above c (inr (inr rest)) = k.least c (inr rest)

these : (x y : ℕ) → Some x ≡ Some y → x ≡ y
these x y e = cc

pub greatest : (xs : List ℕ) (m : ℕ) → reduce max xs ≡ Some m → Greatest xs m
greatest [] m e = absurd cc
greatest (x ∷ xs) m e = subst (Greatest (x ∷ xs)) (these (fold max x xs) m e) (fold-max x xs)

pub least : (xs : List ℕ) (m : ℕ) → reduce min xs ≡ Some m → Least xs m
least [] m e = absurd cc
least (x ∷ xs) m e = subst (Least (x ∷ xs)) (these (fold min x xs) m e) (fold-min x xs)

-- where there is none, there is nothing to choose from
pub none-greatest : (xs : List ℕ) (b : ℕ) → reduce max xs ≡ None → Among b xs → ⊥
none-greatest [] b e at = elim at [ ]
none-greatest (x ∷ xs) b e at = absurd cc

pub none-least : (xs : List ℕ) (b : ℕ) → reduce min xs ≡ None → Among b xs → ⊥
none-least [] b e at = elim at [ ]
none-least (x ∷ xs) b e at = absurd cc

pub among-filter : (p : ℕ → Bool) (b : ℕ) (xs : List ℕ) → Among b (filter p xs) → Among b xs × (p b ≡ true)
among-filter p b [] e = elim e [ ]
among-filter p b (x ∷ xs) e = go (p x) refl (λ k. among-filter p b xs k) e
  where
    go : (t : Bool) → p x ≡ t → (Among b (filter p xs) → Among b xs × (p b ≡ true))
        → Among b (cond t (x ∷ filter p xs) (filter p xs)) → Among b (x ∷ xs) × (p b ≡ true)
    go true is rest (inl same) = (inl same, sym (ap p same) ∙ is)
    go true is rest (inr k) = let y = rest k in (inr y.0, y.1)
    go false is rest k = let y = rest k in (inr y.0, y.1)

pub filter-among : (p : ℕ → Bool) (b : ℕ) (xs : List ℕ) → Among b xs → p b ≡ true → Among b (filter p xs)
filter-among p b [] e passes = elim e [ ]
filter-among p b (x ∷ xs) e passes = go (p x) refl (λ k. filter-among p b xs k passes) e
  where
    go : (t : Bool) → p x ≡ t → (Among b xs → Among b (filter p xs)) → (x ≡ b) ⊎ Among b xs
        → Among b (cond t (x ∷ filter p xs) (filter p xs))
    go true is rest (inl same) = inl same
    go true is rest (inr k) = inr (rest k)
    go false is rest (inl same) = absurd (clash (p b) passes (sym (ap p same) ∙ is))
    go false is rest (inr k) = rest k

-- ---- the victim

-- the blocks that may go are those of all held ones that pass
going-are : (ring : Ring) (clips : List (Option Span)) (floor : ℕ) (hs : List (Option SegmentHead))
    → filter_map (going_block ring clips floor) hs ≡ filter (is_going ring clips floor) (filter_map held_block hs)
going-are ring clips floor [] = refl
going-are ring clips floor (None ∷ hs) = going-are ring clips floor hs
going-are ring clips floor (Some h ∷ hs) = go (ltb 0 h.frames) (is_going ring clips floor h.block) refl (going-are ring clips floor hs)
  where
    go : (t u : Bool) → is_going ring clips floor h.block ≡ u
        → filter_map (going_block ring clips floor) hs ≡ filter (is_going ring clips floor) (filter_map held_block hs)
        → cons_option (cond (t && u) (Some h.block) None) (filter_map (going_block ring clips floor) hs) ≡ filter
        (is_going ring clips floor) (cons_option (cond t (Some h.block) None) (filter_map held_block hs))
    go true true is ih = ap (λ (bs : List ℕ). h.block ∷ bs) ih
        ∙ sym (ap (λ (t : Bool). cond t (h.block ∷ filter (is_going ring clips floor) (filter_map held_block hs))
        (filter (is_going ring clips floor) (filter_map held_block hs))) is)
    go true false is ih = ih ∙ sym
        (ap (λ (t : Bool). cond t (h.block ∷ filter (is_going ring clips floor) (filter_map held_block hs))
        (filter (is_going ring clips floor) (filter_map held_block hs))) is)
    go false u is ih = ih

-- what is known of the blocks of an image's headers
record Blocks (g : Geometry) (r : Recording) (image : List ℕ) : Type 0 where
  low : ℕ
  rises : RiseFrom low (held_blocks (ring_of g) r)
  to : (b : ℕ) → Among b (filter_map held_block (heads_of g image)) → Among b (held_blocks (ring_of g) r)
  from : (b : ℕ) → Among b (held_blocks (ring_of g) r) → Among b (filter_map held_block (heads_of g image))
  counts : (b : ℕ) → count_by (leb b) (filter_map held_block (heads_of g image)) ≡ from_on b (held_blocks (ring_of g) r)

blocks : (g : Geometry) (r : Recording) (image : List ℕ) → Holds g r image → Blocks g r image
blocks g r image e = record {
  low = block (ring_of g) 0;
  rises = subst (RiseFrom (block (ring_of g) 0)) (sym (blocks-made (ring_of g) r.frames))
      (blocks-rise (ring_of g) 0 r.next r.frames (sorted g r image e).some (reading-well_formed g r image e).rising);
  to = λ b at. any-held_block g r image b e (among-headers b (heads_of g image) at);
  from = λ b at. headers-among b (heads_of g image) (held-any g r image b e at);
  counts = λ b. from-counted g r image b e;
}

older-held : (g : Geometry) (keep : ℕ) (r : Recording) (image : List ℕ) (b : ℕ) → Blocks g r image
    → Among b (older_blocks (ring_of g) keep r) → Among b (held_blocks (ring_of g) r)
older-held g keep r image b k at = (front-counted (max 1 keep) k.low b (held_blocks (ring_of g) r) k.rises at).0

-- the victim is the first older block that no clip meets
first-older : (g : Geometry) (keep : ℕ) (r : Recording) (image : List ℕ) (c : ℕ) → Blocks g r image
    → victim (ring_of g) keep r ≡ Some c
    → FirstOf (λ b. not (is_locked (ring_of g) r b)) (older_blocks (ring_of g) keep r) c
first-older g keep r image c k e =
    find-first (λ b. not (is_locked (ring_of g) r b)) k.low c (older_blocks (ring_of g) keep r)
    (RiseFrom-front (max 1 keep) k.low (held_blocks (ring_of g) r) k.rises) e

-- the older blocks are the held ones below the floor
record IsFloor (ring : Ring) (keep : ℕ) (r : Recording) (floor : ℕ) : Type 0 where
  below : (b : ℕ) → Among b (older_blocks ring keep r) → b < floor
  older : (b : ℕ) → Among b (held_blocks ring r) → b < floor → Among b (older_blocks ring keep r)

-- an older block has one above it from which on that many are held
above-older : (g : Geometry) (keep : ℕ) (r : Recording) (image : List ℕ) (b : ℕ) → Blocks g r image
    → Among b (older_blocks (ring_of g) keep r) → (c : ℕ)
    × ((b < c) × Among c (filter (λ n. leb keep (count_by (leb n) (filter_map held_block (heads_of g image))))
    (filter_map held_block (heads_of g image))))
above-older g keep r image b k at =
    let bs = held_blocks (ring_of g) r in
    let hs = filter_map held_block (heads_of g image) in
    let x = front-counted (max 1 keep) k.low b bs k.rises at in
    let c = next-above (max 1 keep) k.low b bs k.rises x.0 x.1 (omega arith) in
    let most = c.1.1.1 in (
      c.0,
      (
        c.1.1.0,
        filter-among (λ n. leb keep (count_by (leb n) hs)) c.0 hs (k.from c.0 c.1.0)
            (at_most_test keep (count_by (leb c.0) hs) (omega (arith, most, k.counts c.0))),
      ),
    )

floor-is : (g : Geometry) (keep : ℕ) (r : Recording) (image : List ℕ) (floor : ℕ) → Blocks g r image
    → floor_block keep (heads_of g image) ≡ Some floor → IsFloor (ring_of g) keep r floor
floor-is g keep r image floor k e =
    let bs = held_blocks (ring_of g) r in
    let hs = filter_map held_block (heads_of g image) in
    let top = greatest (filter (λ n. leb keep (count_by (leb n) hs)) hs) floor e in
    let x = among-filter (λ n. leb keep (count_by (leb n) hs)) floor hs top.among in
    let most = at_most keep (count_by (leb floor) hs) x.1 in
    let here = k.to floor x.0 in record {
      below = λ b at.
          let c = above-older g keep r image b k at in
          let high = top.most c.0 c.1.1 in
          let less = c.1.0 in
          omega (arith, high, less);
      older = λ b at below.
          let some = from_on-some k.low floor bs k.rises here in
          let fewer = from_on-less k.low b floor bs k.rises at below in
          counted-front (max 1 keep) k.low b bs k.rises at (omega (arith, most, some, fewer, k.counts floor));
    }

-- without a floor there is no older block
floor-none : (g : Geometry) (keep : ℕ) (r : Recording) (image : List ℕ) (b : ℕ) → Blocks g r image
    → floor_block keep (heads_of g image) ≡ None → Among b (older_blocks (ring_of g) keep r) → ⊥
floor-none g keep r image b k e at =
    let c = above-older g keep r image b k at in
    none-greatest (filter (λ n. leb keep (count_by (leb n) (filter_map held_block (heads_of g image))))
    (filter_map held_block (heads_of g image))) c.0 e c.1.1

-- an older block that no clip meets is one that may go
going-older : (g : Geometry) (keep : ℕ) (r : Recording) (image : List ℕ) (floor b : ℕ) → Blocks g r image
    → IsFloor (ring_of g) keep r floor → Among b (older_blocks (ring_of g) keep r) → is_locked (ring_of g) r b ≡ false
    → Among b (filter (is_going (ring_of g) r.clips floor) (filter_map held_block (heads_of g image)))
going-older g keep r image floor b k f at free =
    let low : ltb b floor ≡ true = at_most_test (suc b) floor (f.below b at) in
    let passes : is_going (ring_of g) r.clips floor b ≡ true = λ i. low i && not (free i) in
    filter-among (is_going (ring_of g) r.clips floor) b (filter_map held_block (heads_of g image))
    (k.from b (older-held g keep r image b k at)) passes

older-going : (g : Geometry) (keep : ℕ) (r : Recording) (image : List ℕ) (floor b : ℕ) → Blocks g r image
    → IsFloor (ring_of g) keep r floor
    → Among b (filter (is_going (ring_of g) r.clips floor) (filter_map held_block (heads_of g image)))
    → Among b (older_blocks (ring_of g) keep r) × (is_locked (ring_of g) r b ≡ false)
older-going g keep r image floor b k f at =
    let x = among-filter (is_going (ring_of g) r.clips floor) b (filter_map held_block (heads_of g image)) at in
    let y = both (ltb b floor) (not (is_locked (ring_of g) r b)) x.1 in
    (f.older b (k.to b x.0) (at_most (suc b) floor y.0), not_true (is_locked (ring_of g) r b) y.1)

oldest-is : (g : Geometry) (keep : ℕ) (r : Recording) (image : List ℕ) (floor : ℕ) → Blocks g r image
    → IsFloor (ring_of g) keep r floor
    → reduce min (filter (is_going (ring_of g) r.clips floor) (filter_map held_block (heads_of g image))) ≡ victim (ring_of g) keep r
oldest-is g keep r image floor k f = go (reduce min ys) refl (victim (ring_of g) keep r) refl
  where
    ys : List ℕ
    ys = filter (is_going (ring_of g) r.clips floor) (filter_map held_block (heads_of g image))

    go : (o : Option ℕ) → reduce min ys ≡ o → (v : Option ℕ) → victim (ring_of g) keep r ≡ v → o ≡ v
    go None e None is = refl
    go None e (Some c) is =
        let x = first-older g keep r image c k is in
        absurd (none-least ys c e (going-older g keep r image floor c k f x.there (not_true (is_locked (ring_of g) r c) x.passes)))
    go (Some b) e None is =
        let y = older-going g keep r image floor b k f (least ys b e).among in
        absurd (find-none (λ c. not (is_locked (ring_of g) r c)) b (older_blocks (ring_of g) keep r) is y.0 (ap not y.1))
    go (Some b) e (Some c) is =
        let l = least ys b e in
        let y = older-going g keep r image floor b k f l.among in
        let x = first-older g keep r image c k is in
        let low = x.least b y.0 (ap not y.1) in
        let high = l.least c (going-older g keep r image floor c k f x.there (not_true (is_locked (ring_of g) r c) x.passes)) in
        ap (λ (n : ℕ). Some n) (omega (arith, low, high))

-- the block that goes when room is needed, by the headers and the clips alone
abbrev pub going_first : Ring → ℕ → List (Option Span) → List (Option SegmentHead) → Option ℕ
going_first ring keep clips heads = least_going ring clips heads (floor_block keep heads)

-- what the headers and the clips say of the block that goes is the victim
pub victim-first : (g : Geometry) (keep : ℕ) (r : Recording) (image : List ℕ) (heads : List (Option SegmentHead)) → Holds g r image
    → heads ≡ heads_of g image → going_first (ring_of g) keep r.clips heads ≡ victim (ring_of g) keep r
victim-first g keep r image heads e is =
    ap (going_first (ring_of g) keep r.clips) is ∙ go (floor_block keep (heads_of g image)) refl (victim (ring_of g) keep r) refl
  where
    k : Blocks g r image
    k = blocks g r image e

    go : (floor : Option ℕ) → floor_block keep (heads_of g image) ≡ floor → (v : Option ℕ) → victim (ring_of g) keep r ≡ v
        → least_going (ring_of g) r.clips (heads_of g image) floor ≡ v
    go None none None f = refl
    go None none (Some c) f = absurd (floor-none g keep r image c k none (first-older g keep r image c k f).there)
    go (Some floor) top v f = ap (reduce min) (going-are (ring_of g) r.clips floor (heads_of g image))
        ∙ oldest-is g keep r image floor k (floor-is g keep r image floor k top) ∙ f

-- ---- its segment

-- the block of a header is found at a place that holds it
place-found : (heads : List (Option SegmentHead)) (b : ℕ) (found : Option ℕ) → list_any (is_held b) heads ≡ true
    → found ≡ position (is_of b) heads → IsPlaceOf heads (Some b) found
place-found heads b found held is = subst (IsPlaceOf heads (Some b)) (sym is) (go (position (is_of b) heads) refl)
  where
    of-held : (o : Option SegmentHead) → is_held b o ≡ true → is_of b o ≡ true
    of-held None e = absurd cc
    of-held (Some h) e = (both (eqb h.block b) (ltb 0 h.frames) e).0

    some : list_any (is_of b) heads ≡ true
    some =
        let k = any-index (is_held b) heads held in
        list_any_at (is_of b) heads k.0 None k.1.0 (of-held (get_or heads k.0 None) k.1.1)

    place : (j : ℕ) (o : Option SegmentHead) → get_or heads j None ≡ o → is_of b o ≡ true → (h : SegmentHead)
        × ((get_or heads j None ≡ Some h) × (Some b ≡ Some h.block))
    place j None at e = absurd cc
    place j (Some h) at e = (h, (at, ap (λ (n : ℕ). Some n) (sym (equal h.block b e))))

    go : (o : Option ℕ) → position (is_of b) heads ≡ o → IsPlaceOf heads (Some b) o
    go None e = absurd (clash (list_any (is_of b) heads) some (position-none (is_of b) heads e))
    go (Some j) e = let k = place j (get_or heads j None) refl (position-Some (is_of b) heads j None e).1 in (k.0, k.1.0, k.1.1)

-- the victim is the block of some header
victim-held : (g : Geometry) (keep : ℕ) (r : Recording) (image : List ℕ) (heads : List (Option SegmentHead)) (b : ℕ)
    → Holds g r image → heads ≡ heads_of g image → victim (ring_of g) keep r ≡ Some b → list_any (is_held b) heads ≡ true
victim-held g keep r image heads b e is chosen =
    let k = blocks g r image e in
    ap (list_any (is_held b)) is
    ∙ held-any g r image b e (older-held g keep r image b k (first-older g keep r image b k chosen).there)

-- the victim's segment
pub victim-placed : (g : Geometry) (keep : ℕ) (r : Recording) (image : List ℕ) (heads : List (Option SegmentHead)) (b : ℕ)
    (found : Option ℕ) → Holds g r image → heads ≡ heads_of g image → Some b ≡ victim (ring_of g) keep r
    → found ≡ position (is_of b) heads → IsPlaceOf heads (victim (ring_of g) keep r) found
victim-placed g keep r image heads b found e is chosen place =
    subst (λ (v : Option ℕ). IsPlaceOf heads v found) chosen (place-found heads b found (victim-held g keep r image heads b e is (sym chosen)) place)
