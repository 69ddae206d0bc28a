-- The times and sequences of what is recorded: made up, and after an append.
use Rattle.std.proofs.Common.{◌≡◌, ◌⊎◌, inl, inr, ℕ, suc, ◌+◌, ◌*◌, ◌/◌, ◌%◌, ◌<◌, ◌≤◌, Bool, true, false, not, cond, eqb, is_some, Option, Some, None, List, [], ◌∷◌, ◌++◌, get_or, length, map, set, refl, sym, ap, ◌∙◌, subst, arith}
use Rattle.std.proofs.Math.Nat.{add-mul, div-add-mod', mod-lt, mul-le-mul_right}
use Rattle.std.proofs.lemmas.Bool.{cases_eq, cases_lt}
use Rattle.std.proofs.lemmas.List.{get_or-set_same, get_or-set_other}
use Rattle.std.proofs.lemmas.Nat.{div-mul-add, mod-mul-add}
use Rattle.std.specs.List.{enumerate_from, filter, position}
use Rattle.loop_record.specs.declared.geometry.Geometry.{Geometry}
use Rattle.loop_record.specs.declared.segment.SegmentHead.{SegmentHead}
use Rattle.loop_record.specs.Reading.{Holds}
use Rattle.loop_record.specs.Recording.{IsWellFormed, Picture, Recording, Ring, block, frame_under, needs_recycling, plain, recycling_first, ring_of, store, victim}
use Rattle.loop_record.proofs.TestFacts.{equal}
use Rattle.loop_record.proofs.NumberOrder.{held-among, numbers_of}
use Rattle.loop_record.proofs.NumberOrder.{among-range as rising-range}
use Rattle.loop_record.proofs.Steps.{plain-append, plain-stores}
use Rattle.loop_ring.specs.declared.group.SlotStamp.{SlotStamp}
use Rattle.loop_ring.specs.Groups.{slot_stamp}
use Rattle.loop_ring.specs.Heads.{heads_of, is_of}
use Rattle.loop_ring.proofs.Heads.{heads-length, one-entry}
use Rattle.loop_store.specs.Index.{head_after}
use Rattle.loop_store.specs.AppendPlace.{steps_before}
use Rattle.loop_store.specs.Times.{AreStamps, HasStamps, no_stamp, stamp_at, stamp_under}
use Rattle.loop_store.proofs.Room.{before-next}
use Rattle.loop_store.proofs.Same.{IsSame, holds-same}
use Rattle.loop_store.proofs.TimeReads.{HeldAt, held-at}
use Rattle.loop_store.proofs.Names.{steps_or_none}

some-picture : (p q : Picture) → let x : Option Picture = Some p in let y : Option Picture = Some q in x ≡ y → p ≡ q
some-picture p q e = cc

none-some : (p : Picture) → let x : Option Picture = None in x ≡ Some p → ⊥
none-some p e = cc

-- ---- frames with other stamps

with_stamp : (ℕ → SlotStamp) → ℕ × Picture → ℕ × Picture
with_stamp stamps f = (f.0, record f.1 { timestamp = (stamps f.0).time; sequence = (stamps f.0).sequence })

-- the recording whose frames have these stamps
pub restamped : (ℕ → SlotStamp) → Recording → Recording
unfolding with_stamp
restamped stamps r = record r { frames = map (with_stamp stamps) r.frames }

restamped-numbers : (stamps : ℕ → SlotStamp) (fs : List (ℕ × Picture)) → numbers_of fs ≡ numbers_of (map (with_stamp stamps) fs)
unfolding with_stamp
restamped-numbers stamps [] = refl
restamped-numbers stamps (f ∷ fs) = ap (λ (ns : List ℕ). f.0 ∷ ns) (restamped-numbers stamps fs)

pub restamped-same : (stamps : ℕ → SlotStamp) (r : Recording) → IsSame r (restamped stamps r)
unfolding restamped
restamped-same stamps r = record { numbers = restamped-numbers stamps r.frames; next = refl; clips = refl }

restamped-under : (stamps : ℕ → SlotStamp) (fs : List (ℕ × Picture)) (n : ℕ) (p : Picture)
    → frame_under (map (with_stamp stamps) fs) n ≡ Some p → stamps n ≡ slot_stamp p
unfolding with_stamp
restamped-under stamps [] n p e = absurd (none-some p e)
restamped-under stamps (f ∷ fs) n p e = go (eqb f.0 n) refl (λ r. restamped-under stamps fs n p r) e
  where
    go : (b : Bool) → eqb f.0 n ≡ b → (frame_under (map (with_stamp stamps) fs) n ≡ Some p → stamps n ≡ slot_stamp p)
        → cond b (Some (record f.1 { timestamp = (stamps f.0).time; sequence = (stamps f.0).sequence })) (frame_under (map (with_stamp stamps) fs) n) ≡ Some p
        → stamps n ≡ slot_stamp p
    go true is ih e = sym (ap stamps (equal f.0 n is)) ∙ ap slot_stamp (some-picture _ p e)
    go false is ih e = ih e

pub restamped-known : (stamps : ℕ → SlotStamp) (r : Recording) → AreStamps stamps (restamped stamps r)
unfolding restamped
restamped-known stamps r = λ n p e. restamped-under stamps r.frames n p e

-- ---- frames under numbers

under-append : (fs gs : List (ℕ × Picture)) (n : ℕ) (p : Picture) → frame_under (fs ++ gs) n ≡ Some p
    → (frame_under fs n ≡ Some p) ⊎ (frame_under gs n ≡ Some p)
under-append [] gs n p e = inr e
under-append (f ∷ fs) gs n p e = go (eqb f.0 n) (λ r. under-append fs gs n p r) e
  where
    go : (b : Bool) → (frame_under (fs ++ gs) n ≡ Some p → (frame_under fs n ≡ Some p) ⊎ (frame_under gs n ≡ Some p))
        → cond b (Some f.1) (frame_under (fs ++ gs) n) ≡ Some p
        → (cond b (Some f.1) (frame_under fs n) ≡ Some p) ⊎ (frame_under gs n ≡ Some p)
    go true ih e = inl e
    go false ih e = ih e

passes : (q : ℕ → Bool) (fs : List (ℕ × Picture)) (n : ℕ) (p : Picture)
    → frame_under (filter (λ f. q f.0) fs) n ≡ Some p → q n ≡ true
passes q [] n p e = absurd (none-some p e)
passes q (f ∷ fs) n p e = go (q f.0) refl (λ r. passes q fs n p r) e
  where
    by : (b : Bool) → eqb f.0 n ≡ b → q f.0 ≡ true → (frame_under (filter (λ g. q g.0) fs) n ≡ Some p → q n ≡ true)
        → cond b (Some f.1) (frame_under (filter (λ g. q g.0) fs) n) ≡ Some p → q n ≡ true
    by true same is ih e = sym (ap q (equal f.0 n same)) ∙ is
    by false same is ih e = ih e

    go : (b : Bool) → q f.0 ≡ b → (frame_under (filter (λ g. q g.0) fs) n ≡ Some p → q n ≡ true)
        → frame_under (cond b (f ∷ filter (λ g. q g.0) fs) (filter (λ g. q g.0) fs)) n ≡ Some p → q n ≡ true
    go true is ih e = by (eqb f.0 n) refl is ih e
    go false is ih e = ih e

under-filter : (q : ℕ → Bool) (fs : List (ℕ × Picture)) (n : ℕ) (p : Picture)
    → frame_under (filter (λ f. q f.0) fs) n ≡ Some p → frame_under fs n ≡ Some p
under-filter q [] n p e = e
under-filter q (f ∷ fs) n p e = go (q f.0) refl (λ r. under-filter q fs n p r) e
  where
    stays : (b : Bool) → (frame_under (filter (λ g. q g.0) fs) n ≡ Some p → frame_under fs n ≡ Some p)
        → cond b (Some f.1) (frame_under (filter (λ g. q g.0) fs) n) ≡ Some p
        → cond b (Some f.1) (frame_under fs n) ≡ Some p
    stays true ih e = e
    stays false ih e = ih e

    gone : (b : Bool) → eqb f.0 n ≡ b → q f.0 ≡ false
        → (frame_under (filter (λ g. q g.0) fs) n ≡ Some p → frame_under fs n ≡ Some p)
        → frame_under (filter (λ g. q g.0) fs) n ≡ Some p
        → cond b (Some f.1) (frame_under fs n) ≡ Some p
    gone true same is ih e = absurd (apart (sym (passes q fs n p e) ∙ sym (ap q (equal f.0 n same)) ∙ is))
      where
        apart : true ≡ false → ⊥
        apart x = cc
    gone false same is ih e = ih e

    go : (b : Bool) → q f.0 ≡ b → (frame_under (filter (λ g. q g.0) fs) n ≡ Some p → frame_under fs n ≡ Some p)
        → frame_under (cond b (f ∷ filter (λ g. q g.0) fs) (filter (λ g. q g.0) fs)) n ≡ Some p
        → frame_under (f ∷ fs) n ≡ Some p
    go true is ih e = stays (eqb f.0 n) ih e
    go false is ih e = gone (eqb f.0 n) refl is ih e

-- a frame that was stored from this number on
record StoredAt (first : ℕ) (ps : List Picture) (n : ℕ) (p : Picture) : Type 0 where
  place : ℕ
  number : n ≡ first + place
  low : place < length ps
  is : (d : Picture) → get_or ps place d ≡ p

under-enumerate : (first : ℕ) (ps : List Picture) (n : ℕ) (p : Picture)
    → frame_under (enumerate_from first ps) n ≡ Some p → StoredAt first ps n p
under-enumerate first [] n p e = absurd (none-some p e)
under-enumerate first (q ∷ ps) n p e = go (eqb first n) refl (λ r. under-enumerate (first + 1) ps n p r) e
  where
    go : (b : Bool) → eqb first n ≡ b
        → (frame_under (enumerate_from (first + 1) ps) n ≡ Some p → StoredAt (first + 1) ps n p) → cond b (Some q)
        (frame_under (enumerate_from (first + 1) ps) n) ≡ Some p
        → StoredAt first (q ∷ ps) n p
    go true same ih e = record {
      place = 0;
      number = omega (arith, equal first n same);
      low = omega arith;
      is = λ d. some-picture q p e;
    }
    go false same ih e =
        let rest = ih e in record {
          place = suc rest.place;
          number = omega (arith, rest.number);
          low = omega (arith, rest.low);
          is = rest.is;
        }

before-under : (ring : Ring) (r : Recording) (recycles : Bool) (v : Option ℕ) (n : ℕ) (p : Picture)
    → frame_under (plain ring r (steps_or_none (recycling_first recycles v))).frames n ≡ Some p
    → frame_under r.frames n ≡ Some p
before-under ring r false v n p e = e
before-under ring r true None n p e = e
before-under ring r true (Some b) n p e = under-filter (λ m. not (eqb (block ring m) b)) r.frames n p e

-- a frame after an append was held, or is of the group
grown-frame : (g : Geometry) (keep : ℕ) (r : Recording) (ps : List Picture) (n : ℕ) (p : Picture)
    → frame_under (plain (ring_of g) r (steps_before g keep r ++ map store ps)).frames n ≡ Some p
    → (frame_under r.frames n ≡ Some p) ⊎ StoredAt r.next ps n p
grown-frame g keep r ps n p e = go (under-append mid.frames (enumerate_from mid.next ps) n p (sym (ap (λ (fs : List (ℕ × Picture)). frame_under fs n) are) ∙ e))
  where
    mid : Recording
    mid = plain (ring_of g) r (steps_before g keep r)

    are : (plain (ring_of g) r (steps_before g keep r ++ map store ps)).frames ≡ mid.frames ++ enumerate_from mid.next ps
    are = ap (λ (q : Recording). q.frames) (plain-append (ring_of g) r (steps_before g keep r) (map store ps) ∙ plain-stores (ring_of g) mid ps)

    go : (frame_under mid.frames n ≡ Some p) ⊎ (frame_under (enumerate_from mid.next ps) n ≡ Some p)
        → (frame_under r.frames n ≡ Some p) ⊎ StoredAt r.next ps n p
    go (inl old) = inl (before-under (ring_of g) r (needs_recycling (ring_of g) r) (victim (ring_of g) keep r) n p old)
    go (inr new) = inr (subst (λ (k : ℕ). StoredAt k ps n p) (before-next g keep r) (under-enumerate mid.next ps n p new))

-- ---- an append

-- what is known of an index and its recordings before and after an append
pub record Restamps (g : Geometry) (keep : ℕ) (heads heads' : List (Option SegmentHead)) (stamps stamps' : List SlotStamp) (j : ℕ)
    (r0 r1 r : Recording) (image image' : List ℕ) (ps : List Picture) : Type 0 where
  pub some : 1 ≤ g.slots
  pub low : j < g.segments
  pub room : r.next % g.slots + length ps ≤ g.slots
  pub formed : IsWellFormed r
  pub held : Holds g r0 image
  pub heads_are : heads ≡ heads_of g image
  pub held' : Holds g r1 image'
  pub heads_are' : heads' ≡ heads_of g image'
  pub noted : heads' ≡ set heads j (Some (head_after g r.next (length ps)))
  pub same : IsSame r0 r
  pub same' : IsSame r1 (plain (ring_of g) r (steps_before g keep r ++ map store ps))
  pub put : HasStamps stamps stamps' (j * g.slots + r.next % g.slots) ps
  pub known : AreStamps (stamp_under g.slots heads stamps) r

some-head : (h k : SegmentHead) → let x : Option SegmentHead = Some h in let y : Option SegmentHead = Some k in x ≡ y → h ≡ k
some-head h k e = cc

pub grown-stamps : (g : Geometry) (keep : ℕ) (heads heads' : List (Option SegmentHead)) (stamps stamps' : List SlotStamp) (j : ℕ)
    (r0 r1 r : Recording) (image image' : List ℕ) (ps : List Picture)
    → Restamps g keep heads heads' stamps stamps' j r0 r1 r image image' ps
    → AreStamps (stamp_under g.slots heads' stamps') (plain (ring_of g) r (steps_before g keep r ++ map store ps))
grown-stamps g keep heads heads' stamps stamps' j r0 r1 r image image' ps k = λ n p there.
    is n p (held-at g r1 image' n k.held'
    (holds-same r1 (plain (ring_of g) r (steps_before g keep r ++ map store ps)) n k.same' ∙ ap (λ (o : Option Picture). is_some o) there))
    (grown-frame g keep r ps n p there)
  where
    after : SegmentHead
    after = head_after g r.next (length ps)

    at : ℕ
    at = j * g.slots + r.next % g.slots

    long : length heads ≡ g.segments
    long = ap (λ (hs : List (Option SegmentHead)). length hs) k.heads_are ∙ heads-length g image

    here : get_or (heads_of g image') j None ≡ Some after
    here = ap (λ (hs : List (Option SegmentHead)). get_or hs j None) (sym k.heads_are' ∙ k.noted)
        ∙ get_or-set_same heads j (Some after) None (omega (arith, k.low, long))

    -- another segment's header is the old one
    other : (i : ℕ) → (i ≡ j → ⊥) → get_or (heads_of g image') i None ≡ get_or (heads_of g image) i None
    other i apart = ap (λ (hs : List (Option SegmentHead)). get_or hs i None) (sym k.heads_are' ∙ k.noted)
        ∙ get_or-set_other heads j i (Some after) None apart ∙ ap (λ (hs : List (Option SegmentHead)). get_or hs i None) k.heads_are

    -- the stamp of a number, where its segment is known
    read : (n i : ℕ) → position (is_of (n / g.slots)) (heads_of g image') ≡ Some i
        → stamp_under g.slots heads' stamps' n ≡ get_or stamps' (i * g.slots + n % g.slots) no_stamp
    read n i found = ap (stamp_at g.slots stamps' n) (ap (position (is_of (n / g.slots))) k.heads_are' ∙ found)

    read-old : (n i : ℕ) → position (is_of (n / g.slots)) (heads_of g image) ≡ Some i
        → stamp_under g.slots heads stamps n ≡ get_or stamps (i * g.slots + n % g.slots) no_stamp
    read-old n i found = ap (stamp_at g.slots stamps n) (ap (position (is_of (n / g.slots))) k.heads_are ∙ found)

    -- a frame of the group
    new : (n : ℕ) (p : Picture) → HeldAt g image' n → StoredAt r.next ps n p → stamp_under g.slots heads' stamps' n ≡ slot_stamp p
    new n p now stored =
        let slot = r.next % g.slots + stored.place in
        let less : slot < g.slots = omega (arith, k.room, stored.low) in
        let split : n ≡ r.next / g.slots * g.slots + slot = omega (arith, stored.number, div-add-mod' r.next g.slots) in
        let block : n / g.slots ≡ r.next / g.slots = ap (λ (x : ℕ). x / g.slots) split ∙ div-mul-add (r.next / g.slots) g.slots slot less in
        let rest : n % g.slots ≡ slot = ap (λ (x : ℕ). x % g.slots) split ∙ mod-mul-add (r.next / g.slots) g.slots slot less in
        let same : now.segment ≡ j = one-entry g r1 image' now.segment j now.header after k.held' now.head here (now.block ∙ block) in
        let place : now.segment * g.slots + n % g.slots ≡ at + stored.place =
        ap (λ (x : ℕ). x * g.slots + n % g.slots) same ∙ omega (arith, rest) in
        read n now.segment now.found ∙ ap (λ (x : ℕ). get_or stamps' x no_stamp) place ∙ k.put.there stored.place p stored.low
        ∙ ap slot_stamp (stored.is p)

    -- one that was held
    old : (n : ℕ) (p : Picture) → HeldAt g image' n → HeldAt g image n → frame_under r.frames n ≡ Some p
        → stamp_under g.slots heads' stamps' n ≡ slot_stamp p
    old n p now was there =
        read n now.segment now.found ∙ ap (λ (x : ℕ). get_or stamps' (x * g.slots + n % g.slots) no_stamp) where_is
        ∙ k.put.others (was.segment * g.slots + n % g.slots) untouched ∙ sym (read-old n was.segment was.found)
        ∙ k.known n p there
      where
        below : n < r.next
        below = (rising-range 0 r.next n r.frames k.formed.rising (held-among n r.frames (ap (λ (o : Option Picture). is_some o) there))).1

        less : n % g.slots < g.slots
        less = mod-lt n (omega (arith, k.some))

        -- in the segment that was noted
        stays : was.segment ≡ j → now.segment ≡ j
        stays mine = go (cases_eq now.segment j)
          where
            go : (now.segment ≡ j) ⊎ (now.segment ≡ j → ⊥) → now.segment ≡ j
            go (inl same) = same
            go (inr apart) = one-entry g r0 image now.segment was.segment now.header was.header k.held
                (sym (other now.segment apart) ∙ now.head) was.head (now.block ∙ sym was.block) ∙ mine

        where_is : now.segment ≡ was.segment
        where_is = go (cases_eq was.segment j)
          where
            go : (was.segment ≡ j) ⊎ (was.segment ≡ j → ⊥) → now.segment ≡ was.segment
            go (inl mine) = stays mine ∙ sym mine
            go (inr apart) = one-entry g r1 image' now.segment was.segment now.header was.header k.held' now.head
                (other was.segment apart ∙ was.head) (now.block ∙ sym was.block)

        untouched : (was.segment * g.slots + n % g.slots < at) ⊎ (at + length ps ≤ was.segment * g.slots + n % g.slots)
        untouched = go (cases_eq was.segment j)
          where
            sides : (was.segment ≡ j → ⊥) → (was.segment < j) ⊎ (j ≤ was.segment)
                → (was.segment * g.slots + n % g.slots < at) ⊎ (at + length ps ≤ was.segment * g.slots + n % g.slots)
            sides apart (inl l) =
                let next : (was.segment + 1) * g.slots ≤ j * g.slots = mul-le-mul_right g.slots (omega (arith, l)) in
                inl (omega (arith, next, add-mul was.segment 1 g.slots, less))
            sides apart (inr l) =
                let next : (j + 1) * g.slots ≤ was.segment * g.slots = mul-le-mul_right g.slots (omega (arith, l, apart)) in
                inr (omega (arith, next, add-mul j 1 g.slots, k.room))

            go : (was.segment ≡ j) ⊎ (was.segment ≡ j → ⊥)
                → (was.segment * g.slots + n % g.slots < at) ⊎ (at + length ps ≤ was.segment * g.slots + n % g.slots)
            go (inl mine) =
                let header : now.header ≡ after = some-head now.header after
                (sym now.head ∙ ap (λ (i : ℕ). get_or (heads_of g image') i None) (stays mine) ∙ here) in
                let block : r.next / g.slots ≡ n / g.slots = sym (ap (λ (h : SegmentHead). h.block) header) ∙ now.block in
                let product : r.next / g.slots * g.slots ≡ n / g.slots * g.slots = ap (λ (b : ℕ). b * g.slots) block in
                let place : was.segment * g.slots ≡ j * g.slots = ap (λ (b : ℕ). b * g.slots) mine in
                inl (omega (arith, below, product, place, div-add-mod' n g.slots, div-add-mod' r.next g.slots))
            go (inr apart) = sides apart (cases_lt was.segment j)

    is : (n : ℕ) (p : Picture) → HeldAt g image' n → (frame_under r.frames n ≡ Some p) ⊎ StoredAt r.next ps n p
        → stamp_under g.slots heads' stamps' n ≡ slot_stamp p
    is n p now (inl there) = old n p now (held-at g r0 image n k.held (holds-same r0 r n k.same ∙ ap (λ (o : Option Picture). is_some o) there)) there
    is n p now (inr stored) = new n p now stored
