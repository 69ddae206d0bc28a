-- The least and the greatest of the blocks of some open segments, by the order of the entries.
use Rattle.std.proofs.Common.{◌≡◌, ◌⊎◌, inl, inr, ℕ, zero, suc, ◌+◌, ◌-◌, ◌<◌, ◌≤◌, Bool, true, false, ◌&&◌, cond, leb, ltb, min, max, Option, Some, None, List, [], ◌∷◌, ◌++◌, drop, length, get_or, refl, take, subst, sym, ap, ◌∙◌, arith}
use Rattle.std.proofs.lemmas.Bool.{cases_lt}
use Rattle.std.proofs.Math.Seq.{get_or-append_seam}
use Rattle.std.proofs.lemmas.List.{drop_all, get_or_append_left, get_or_default, length-append}
use Rattle.std.proofs.lemmas.List.Sums.{sum_by-cons, sum_by-drop_more, sum_by-le-sum_by, sum_by-take-drop, sum_by_more}
use Rattle.std.proofs.lemmas.Slice.Zip.{get_or-zip, length-zip}
use Rattle.std.specs.Prelude.{Contains}
use Rattle.std.specs.List.{cons_option, count_by, filter, filter_map, reduce, sum_by, zip}
use Rattle.loop_record.specs.declared.segment.SegmentHead.{SegmentHead}
use Rattle.loop_record.proofs.TestFacts.{at_most, at_most_test, clash, untrue}
use Rattle.loop_record.proofs.NumberOrder.{Among}
use Rattle.loop_record.specs.declared.image.Found.{Found}
use Rattle.loop_record.specs.Reading.{put_before}
use Rattle.loop_ring.specs.Entries.{IsIndexed}
use Rattle.loop_ring.specs.Heads.{found_at, in_order, floor_block, free_block, has_frame, held_block, is_free}
use Rattle.loop_ring.proofs.VictimByHeads.{among-filter, filter-among, greatest, least, none-greatest, none-least}
use Rattle.loop_ring.proofs.IndexOrder.{IsOpen, blocks-rise, entry-there, there-entry}
use Rattle.loop_ring.proofs.SegmentOrder.{count-put}

-- ---- what a filter keeps

kept-among : {X : Type 0} (f : X → Option ℕ) (xs : List X) (j b : ℕ) (d : X) → j < length xs
    → f (get_or xs j d) ≡ Some b → Among b (filter_map f xs)
kept-among f [] j b d l is = absurd (omega (arith, l))
kept-among f (x ∷ xs) zero b d l is = go (f x) is
  where
    go : (o : Option ℕ) → o ≡ Some b → Among b (cons_option o (filter_map f xs))
    go None is = absurd cc
    go (Some c) is = inl cc
kept-among f (x ∷ xs) (suc j) b d l is = go (f x) (kept-among f xs j b d (omega (arith, l)) is)
  where
    go : (o : Option ℕ) → Among b (filter_map f xs) → Among b (cons_option o (filter_map f xs))
    go None at = at
    go (Some c) at = inr at

-- the number is what one of the items gives
record Kept {X : Type 0} (f : X → Option ℕ) (xs : List X) (b : ℕ) : Type 0 where
  place : ℕ
  within : place < length xs
  gives : (d : X) → f (get_or xs place d) ≡ Some b

kept-later : {X : Type 0} (f : X → Option ℕ) (x : X) (xs : List X) (b : ℕ) → Kept f xs b → Kept f (x ∷ xs) b
kept-later f x xs b k = record { place = suc k.place; within = omega (arith, k.within); gives = k.gives }

among-kept : {X : Type 0} (f : X → Option ℕ) (xs : List X) (b : ℕ) → Among b (filter_map f xs) → Kept f xs b
among-kept f [] b at = elim at [ ]
among-kept f (x ∷ xs) b at = go (f x) refl (λ k. among-kept f xs b k) at
  where
    go : (o : Option ℕ) → f x ≡ o → (Among b (filter_map f xs) → Kept f xs b)
        → Among b (cons_option o (filter_map f xs)) → Kept f (x ∷ xs) b
    go None is rest k = kept-later f x xs b (rest k)
    go (Some c) is rest (inl same) = record { place = 0; within = omega arith; gives = λ d. is ∙ ap (λ (n : ℕ). Some n) same }
    go (Some c) is rest (inr k) = kept-later f x xs b (rest k)

-- ---- the blocks of the open segments that pass a test

-- an open segment passes, and holds this block
pub record Picked (heads : List (Option SegmentHead)) (p : ℕ → Bool) (b : ℕ) : Type 0 where
  pub place : ℕ
  pub within : place < length heads
  pub head : SegmentHead
  pub there : get_or heads place None ≡ Some head
  pub block : head.block ≡ b
  pub passes : p place ≡ true

-- these are the blocks of the open segments that pass
pub record ArePicked (heads : List (Option SegmentHead)) (p : ℕ → Bool) (blocks : List ℕ) : Type 0 where
  pub from : (s : ℕ) (h : SegmentHead) → s < length heads → get_or heads s None ≡ Some h → p s ≡ true
      → Among h.block blocks
  pub to : (b : ℕ) → Among b blocks → Picked heads p b

same-block : (m b : ℕ) → Some m ≡ Some b → m ≡ b
same-block m b e = cc

-- those with a frame
abbrev pub is_held_at : List (Option SegmentHead) → ℕ → Bool
is_held_at heads s = has_frame (get_or heads s None)

pub held-picked : (heads : List (Option SegmentHead)) → ArePicked heads (is_held_at heads) (filter_map held_block heads)
held-picked heads = record {
  from = λ s h l at passes. kept-among held_block heads s h.block None l
      (ap held_block at ∙ ap (λ (t : Bool). cond t (Some h.block) None) (ap has_frame (sym at) ∙ passes));
  to =
      λ b at. of b (among-kept held_block heads b at);
}
  where
    of : (b : ℕ) → Kept held_block heads b → Picked heads (is_held_at heads) b
    of b k = at-head (get_or heads k.place None) refl (k.gives None)
      where
        there : (h : SegmentHead) → get_or heads k.place None ≡ Some h → (t : Bool) → ltb 0 h.frames ≡ t
            → cond t (Some h.block) None ≡ Some b → Picked heads (is_held_at heads) b
        there h is false lit gives = absurd cc
        there h is true lit gives = record {
          place = k.place;
          within = k.within;
          head = h;
          there = is;
          block =
              same-block h.block b gives;
          passes = ap has_frame is ∙ lit;
        }

        at-head : (o : Option SegmentHead) → get_or heads k.place None ≡ o → held_block o ≡ Some b
            → Picked heads (is_held_at heads) b
        at-head None is gives = absurd cc
        at-head (Some h) is gives = there h is (ltb 0 h.frames) refl gives

-- those that may go, where this is the floor
abbrev pub is_free_at : ℕ → List (Option SegmentHead) → List ℕ → ℕ → Bool
is_free_at floor heads clips s = is_free floor (get_or heads s None) (get_or clips s 0)

abbrev free_of : ℕ → Option SegmentHead × ℕ → Option ℕ
free_of floor x = free_block floor x.0 x.1

pub free-picked : (floor : ℕ) (heads : List (Option SegmentHead)) (clips : List ℕ) → length clips ≡ length heads
    → ArePicked heads (is_free_at floor heads clips) (filter_map (λ x. free_block floor x.0 x.1) (zip heads clips))
free-picked floor heads clips same = record {
  from = λ s h l at passes. kept-among (free_of floor) (zip heads clips) s h.block (None, 0) (long s l)
      (ap (free_of floor) (get_or-zip heads clips s (None, 0) l (omega (arith, l, same)))
      ∙ ap (λ (o : Option SegmentHead). free_block floor o (get_or clips s 0)) at
      ∙ ap (λ (t : Bool). cond t (Some h.block) None)
      (ap (λ (o : Option SegmentHead). is_free floor o (get_or clips s 0)) (sym at) ∙ passes));
  to = λ b at. of b (among-kept (free_of floor) (zip heads clips) b at);
}
  where
    long : (s : ℕ) → s < length heads → s < length (zip heads clips)
    long s l = omega (arith, l, same, length-zip heads clips)

    of : (b : ℕ) → Kept (free_of floor) (zip heads clips) b → Picked heads (is_free_at floor heads clips) b
    of b k = at-head (get_or heads k.place None) refl
        (sym (ap (free_of floor) (get_or-zip heads clips k.place (None, 0) inside (omega (arith, inside, same))))
        ∙ k.gives (None, 0))
      where
        inside : k.place < length heads
        inside = omega (arith, k.within, same, length-zip heads clips)

        there : (h : SegmentHead) → get_or heads k.place None ≡ Some h → (t : Bool)
            → is_free floor (Some h) (get_or clips k.place 0) ≡ t → cond t (Some h.block) None ≡ Some b
            → Picked heads (is_free_at floor heads clips) b
        there h is false free gives = absurd cc
        there h is true free gives = record {
          place = k.place;
          within = inside;
          head = h;
          there = is;
          block =
              same-block h.block b gives;
          passes =
              ap (λ (o : Option SegmentHead). is_free floor o (get_or clips k.place 0)) is ∙ free;
        }

        at-head : (o : Option SegmentHead) → get_or heads k.place None ≡ o
            → free_block floor o (get_or clips k.place 0) ≡ Some b → Picked heads (is_free_at floor heads clips) b
        at-head None is gives = absurd cc
        at-head (Some h) is gives = there h is (is_free floor (Some h) (get_or clips k.place 0)) refl gives

-- ---- their entries

abbrev nothing : Found
nothing = record { segment = 0; block = 0; frames = 0 }

-- each of these blocks has an entry
record Entered (entries : List Found) (p : ℕ → Bool) (b : ℕ) : Type 0 where
  place : ℕ
  within : place < length entries
  block : (d : Found) → (get_or entries place d).block ≡ b
  passes : (d : Found) → p (get_or entries place d).segment ≡ true

entered : (heads : List (Option SegmentHead)) (p : ℕ → Bool) (entries : List Found) (capacity b : ℕ)
    → IsIndexed heads entries capacity → Picked heads p b → Entered entries p b
entered heads p entries capacity b x k =
    of (entry-there heads entries capacity k.place k.head x k.there)
  where
    of : Contains entries (found_at k.place k.head) → Entered entries p b
    of (m, inside, its) =
        let every : (d : Found) → get_or entries m d ≡ found_at k.place k.head =
        λ d. get_or_default entries m d (found_at k.place k.head) inside ∙ its in
        record {
          place = m;
          within = inside;
          block = λ d. ap (λ (y : Found). y.block) (every d) ∙ k.block;
          passes =
              λ d. ap (λ (y : Found). p y.segment) (every d) ∙ k.passes;
        }

-- the entry that passes has one of the blocks
entry-among : (heads : List (Option SegmentHead)) (p : ℕ → Bool) (blocks : List ℕ) (entries : List Found)
    (capacity i : ℕ) (e : Found) → IsIndexed heads entries capacity → ArePicked heads p blocks → i < length entries
    → ((d : Found) → get_or entries i d ≡ e) → p e.segment ≡ true
    → Among e.block blocks
entry-among heads p blocks entries capacity i e x picked inside at passes =
    let o : IsOpen heads e = subst (IsOpen heads) (at e) (there-entry heads entries capacity i e x inside) in
    subst (λ (b : ℕ). Among b blocks) o.block (picked.from e.segment o.head o.within o.there passes)

-- where no entry passes, there is no such block
none-entered : (heads : List (Option SegmentHead)) (p : ℕ → Bool) (blocks : List ℕ) (entries : List Found)
    (capacity b : ℕ) → IsIndexed heads entries capacity → ArePicked heads p blocks
    → ((k : ℕ) (d : Found) → k < length entries → p (get_or entries k d).segment ≡ false) → Among b blocks → ⊥
none-entered heads p blocks entries capacity b x picked none at =
    let k = entered heads p entries capacity b x (picked.to b at) in
    clash (p (get_or entries k.place nothing).segment) (k.passes nothing) (none k.place nothing k.within)

pub least-none : (heads : List (Option SegmentHead)) (p : ℕ → Bool) (blocks : List ℕ) (entries : List Found)
    (capacity : ℕ) → IsIndexed heads entries capacity → ArePicked heads p blocks
    → ((k : ℕ) (d : Found) → k < length entries → p (get_or entries k d).segment ≡ false) → None ≡ reduce min blocks
least-none heads p blocks entries capacity x picked none = go (reduce min blocks) refl
  where
    go : (o : Option ℕ) → reduce min blocks ≡ o → None ≡ o
    go None e = refl
    go (Some m) e = absurd (none-entered heads p blocks entries capacity m x picked none (least blocks m e).among)

-- the first entry that passes is of the least block
pub least-first : (heads : List (Option SegmentHead)) (p : ℕ → Bool) (blocks : List ℕ) (entries : List Found)
    (capacity i : ℕ) (e : Found) → IsIndexed heads entries capacity → ArePicked heads p blocks → i < length entries
    → ((d : Found) → get_or entries i d ≡ e)
    → p e.segment ≡ true → ((k : ℕ) (d : Found) → k < i → p (get_or entries k d).segment ≡ false) → Some e.block ≡ reduce min blocks
least-first heads p blocks entries capacity i e x picked inside at passes before = go (reduce min blocks) refl
  where
    among : Among e.block blocks
    among = entry-among heads p blocks entries capacity i e x picked inside at passes

    order : (m : ℕ) → Entered entries p m → e.block ≤ m
    order m k = pick (cases_lt k.place i)
      where
        pick : (k.place < i) ⊎ (i ≤ k.place) → e.block ≤ m
        pick (inl less) = absurd (clash (p (get_or entries k.place e).segment) (k.passes e) (before k.place e less))
        pick (inr more) =
            let rises = blocks-rise heads entries capacity x i k.place e more k.within in
            let here : (get_or entries i e).block ≡ e.block = ap (λ (y : Found). y.block) (at e) in
            let there = k.block e in
            omega (arith, rises, here, there)

    go : (o : Option ℕ) → reduce min blocks ≡ o → Some e.block ≡ o
    go None none = absurd (none-least blocks e.block none among)
    go (Some m) is =
        let l = least blocks m is in
        let low = l.least e.block among in
        let high = order m (entered heads p entries capacity m x (picked.to m l.among)) in
        ap (λ (n : ℕ). Some n) (omega (arith, low, high))

-- one entry more that doesn't pass
pub none-more : (p : ℕ → Bool) (entries : List Found) (i : ℕ) (e : Found)
    → ((k : ℕ) (d : Found) → k < i → p (get_or entries k d).segment ≡ false) → ((d : Found) → get_or entries i d ≡ e)
    → p e.segment ≡ false → (k : ℕ) (d : Found) → k < i + 1 → p (get_or entries k d).segment ≡ false
none-more p entries i e before at fails k d l = go (cases_lt k i)
  where
    go : (k < i) ⊎ (i ≤ k) → p (get_or entries k d).segment ≡ false
    go (inl less) = before k d less
    go (inr more) = let same : k ≡ i = omega (arith, l, more) in ap (λ (n : ℕ). p (get_or entries n d).segment) same
        ∙ ap (λ (y : Found). p y.segment) (at d) ∙ fails

-- ---- the floor

abbrev mark : Bool → ℕ
mark t = cond t 1 0

-- the entry's segment has a frame; and its block is b or above it too
abbrev pub is_held_entry : List (Option SegmentHead) → Found → Bool
is_held_entry heads e = is_held_at heads e.segment

abbrev is_from : List (Option SegmentHead) → ℕ → Found → Bool
is_from heads b e = is_held_entry heads e && leb b e.block

-- the held blocks from b on, counted by the entries
from-entries : (heads hs : List (Option SegmentHead)) (j b : ℕ)
    → ((k : ℕ) → get_or heads (j + k) None ≡ get_or hs k None)
    → count_by (is_from heads b) (in_order j hs) ≡ count_by (leb b) (filter_map held_block hs)
from-entries heads [] j b same = refl
from-entries heads (None ∷ hs) j b same = from-entries heads hs (j + 1) b
    (λ k. let next : j + 1 + k ≡ j + suc k = omega arith in ap (λ (n : ℕ). get_or heads n None) next ∙ same (suc k))
from-entries heads (Some h ∷ hs) j b same = go (ltb 0 h.frames) refl (leb b h.block) refl
    (from-entries heads hs (j + 1) b
    (λ k. let next : j + 1 + k ≡ j + suc k = omega arith in ap (λ (n : ℕ). get_or heads n None) next ∙ same (suc k)))
  where
    rest : List Found
    rest = in_order (j + 1) hs

    blocks : List ℕ
    blocks = filter_map held_block hs

    here : get_or heads j None ≡ Some h
    here = let first : j ≡ j + 0 = omega arith in ap (λ (n : ℕ). get_or heads n None) first ∙ same 0

    front : (t u : Bool) → ltb 0 h.frames ≡ t → leb b h.block ≡ u
        → count_by (is_from heads b) (put_before (λ (t : Found). leb h.block t.block) (found_at j h) rest) ≡ mark (t && u) + count_by (is_from heads b) rest
    front t u has is = count-put (is_from heads b) _ (found_at j h) rest
        ∙ ap (λ (o : Option SegmentHead). mark (has_frame o && leb b h.block) + count_by (is_from heads b) rest) here
        ∙ (λ i. mark (has i && is i) + count_by (is_from heads b) rest)

    go : (t : Bool) → ltb 0 h.frames ≡ t → (u : Bool) → leb b h.block ≡ u
        → count_by (is_from heads b) rest ≡ count_by (leb b) blocks
        → count_by (is_from heads b) (put_before (λ (t : Found). leb h.block t.block) (found_at j h) rest) ≡ count_by (leb b)
        (cons_option (cond t (Some h.block) None) blocks)
    go false has u is ih = omega (arith, front false u has is, ih)
    go true has true is ih =
        let one : mark (leb b h.block) ≡ 1 = ap mark is in
        omega (arith, front true true has is, ih, one, sum_by-cons (λ c. mark (leb b c)) h.block blocks)
    go true has false is ih =
        let none : mark (leb b h.block) ≡ 0 = ap mark is in
        omega (arith, front true false has is, ih, none, sum_by-cons (λ c. mark (leb b c)) h.block blocks)

from-index : (heads : List (Option SegmentHead)) (entries : List Found) (capacity b : ℕ)
    → IsIndexed heads entries capacity
    → count_by (leb b) (filter_map held_block heads) ≡ count_by (is_from heads b) entries
from-index heads entries capacity b x =
    sym (from-entries heads heads 0 b (λ k. let e : 0 + k ≡ k = omega arith in ap (λ (n : ℕ). get_or heads n None) e))
    ∙ sym (ap (count_by (is_from heads b)) x.are)

-- counts over the entries from a place on that agree there, and up to a place that nothing counts
from-same : (f g : Found → ℕ) (xs : List Found) (i n : ℕ) → i + n ≡ length xs
    → ((k : ℕ) (d : Found) → i ≤ k → k < length xs → f (get_or xs k d) ≡ g (get_or xs k d))
    → sum_by f (drop i xs) ≡ sum_by g (drop i xs)
from-same f g xs i zero is same = none f ∙ sym (none g)
  where
    none : (h : Found → ℕ) → sum_by h (drop i xs) ≡ 0
    none h = ap (sum_by h) (drop_all i xs (omega (arith, is)))
from-same f g xs i (suc n) is same =
    let inside : i < length xs = omega (arith, is) in
    let rest = from-same f g xs (i + 1) n (omega (arith, is)) (λ k d low l. same k d (omega (arith, low)) l) in
    let here = same i nothing (omega arith) inside in
    omega (arith, rest, here, sum_by-drop_more f xs i nothing inside, sum_by-drop_more g xs i nothing inside)

until-none : (f : Found → ℕ) (xs : List Found) (i : ℕ) → i ≤ length xs
    → ((k : ℕ) (d : Found) → k < i → f (get_or xs k d) ≡ 0) → sum_by f (take i xs) ≡ 0
until-none f xs zero le none = refl
until-none f xs (suc i) le none =
    let next : suc i ≡ i + 1 = omega arith in
    let rest = until-none f xs i (omega (arith, le)) (λ k d l. none k d (omega (arith, l))) in
    let here = none i nothing (omega arith) in
    let more : sum_by f (take (suc i) xs) ≡ sum_by f (take i xs) + f (get_or xs i nothing) =
    ap (λ (n : ℕ). sum_by f (take n xs)) next ∙ sum_by_more f xs i nothing (omega (arith, le)) in
    omega (arith, more, rest, here)

-- a held block is counted itself
held-some : (heads : List (Option SegmentHead)) (m : ℕ) → Among m (filter_map held_block heads) → 1 ≤ count_by (leb m) (filter_map held_block heads)
held-some heads m there = counted (filter_map held_block heads) there
  where
    counted : (bs : List ℕ) → Among m bs → 1 ≤ count_by (leb m) bs
    counted [] at = elim at [ ]
    counted (b ∷ bs) (inl is) =
        let one : mark (leb m b) ≡ 1 = ap mark (at_most_test m b (omega (arith, is))) in
        omega (arith, one, sum_by-cons (λ c. mark (leb m c)) b bs)
    counted (b ∷ bs) (inr rest) = let later = counted bs rest in omega (arith, later, sum_by-cons (λ c. mark (leb m c)) b bs)

-- this many entries from a place on have a frame
abbrev held_from : List (Option SegmentHead) → List Found → ℕ → ℕ
held_from heads entries i = count_by (is_held_entry heads) (drop i entries)

-- as many as that are held from the block of an entry on, and no more from a greater one
from-least : (heads : List (Option SegmentHead)) (entries : List Found) (capacity i : ℕ) (e : Found)
    → IsIndexed heads entries capacity → i < length entries → ((d : Found) → get_or entries i d ≡ e)
    → held_from heads entries i ≤ count_by (leb e.block) (filter_map held_block heads)
from-least heads entries capacity i e x inside at =
    omega (arith, from-index heads entries capacity e.block x, same, sum_by-take-drop (λ y. mark (is_from heads e.block y)) entries i)
  where
    same : held_from heads entries i ≡ count_by (is_from heads e.block) (drop i entries)
    same = from-same (λ y. mark (is_held_entry heads y)) (λ y. mark (is_from heads e.block y)) entries i
        (length entries - i) (omega (arith, inside)) (λ k d low l. agree k d (is_held_entry heads (get_or entries k d)) low l)
      where
        agree : (k : ℕ) (d : Found) (t : Bool) → i ≤ k → k < length entries → mark t ≡ mark
            (t && leb e.block (get_or entries k d).block)
        agree k d false low l = refl
        agree k d true low l =
            let rises = blocks-rise heads entries capacity x i k d low l in
            let here : (get_or entries i d).block ≡ e.block = ap (λ (y : Found). y.block) (at d) in
            ap mark (sym (at_most_test e.block (get_or entries k d).block (omega (arith, rises, here))))

from-greater : (heads : List (Option SegmentHead)) (entries : List Found) (capacity i m : ℕ)
    → IsIndexed heads entries capacity → i ≤ length entries
    → ((k : ℕ) (d : Found) → k < i → (get_or entries k d).block < m)
    → count_by (leb m) (filter_map held_block heads) ≤ held_from heads entries i
from-greater heads entries capacity i m x inside below =
    omega (
      arith,
      from-index heads entries capacity m x,
      sum_by-take-drop (λ y. mark (is_from heads m y)) entries i,
      until-none (λ y. mark (is_from heads m y)) entries i inside (λ k d l. none (get_or entries k d) (below k d l)),
      sum_by-le-sum_by (λ y. mark (is_from heads m y)) (λ y. mark (is_held_entry heads y)) (drop i entries)
          (λ y. fewer (is_held_entry heads y) (leb m y.block)),
    )
  where
    fewer : (t u : Bool) → mark (t && u) ≤ mark t
    fewer true true = omega arith
    fewer true false = omega arith
    fewer false u = omega arith

    past : (n : ℕ) → n < m → m ≤ n → ⊥
    past n l k = absurd (omega (arith, l, k))

    none : (y : Found) → y.block < m → mark (is_from heads m y) ≡ 0
    none y l = go (is_held_entry heads y) (untrue (leb m y.block) (λ e. past y.block l (at_most m y.block e)))
      where
        go : (t : Bool) → leb m y.block ≡ false → mark (t && leb m y.block) ≡ 0
        go true e = ap mark e
        go false e = refl

-- where this many entries after one that has a frame have one too, its block is the floor
pub floor-found : (heads : List (Option SegmentHead)) (entries : List Found) (capacity i keep : ℕ) (e : Found)
    → IsIndexed heads entries capacity → i < length entries → ((d : Found) → get_or entries i d ≡ e)
    → is_held_entry heads e ≡ true → held_from heads entries (i + 1) + 1 ≡ max 1 keep
    → Some e.block ≡ floor_block keep heads
floor-found heads entries capacity i keep e x inside at held counted = go (floor_block keep heads) refl
  where
    blocks : List ℕ
    blocks = filter_map held_block heads

    passes : ℕ → Bool
    passes b = leb keep (count_by (leb b) blocks)

    here : mark (is_held_entry heads (get_or entries i e)) ≡ 1
    here = ap (λ (y : Found). mark (is_held_entry heads y)) (at e) ∙ ap mark held

    enough : max 1 keep ≤ count_by (leb e.block) blocks
    enough = omega (
      arith,
      counted,
      here,
      sum_by-drop_more (λ y. mark (is_held_entry heads y)) entries i e inside,
      from-least heads entries capacity i e x inside at,
    )

    among : Among e.block (filter passes blocks)
    among = filter-among passes e.block blocks
        (entry-among heads (is_held_at heads) blocks entries capacity i e x (held-picked heads) inside at held)
        (at_most_test keep (count_by (leb e.block) blocks) (omega (arith, enough)))

    highest : (m : ℕ) → Among m blocks → max 1 keep ≤ count_by (leb m) blocks → m ≤ e.block
    highest m there most = pick (cases_lt e.block m)
      where
        pick : (e.block < m) ⊎ (m ≤ e.block) → m ≤ e.block
        pick (inr le) = le
        pick (inl more) = absurd (omega (
          arith,
          most,
          counted,
          from-greater heads entries capacity (i + 1) m x (omega (arith, inside)) (λ k d l. below k d l),
        ))
          where
            below : (k : ℕ) (d : Found) → k < i + 1 → (get_or entries k d).block < m
            below k d l =
                let rises = blocks-rise heads entries capacity x k i d (omega (arith, l)) inside in
                let same : (get_or entries i d).block ≡ e.block = ap (λ (y : Found). y.block) (at d) in
                omega (arith, rises, same, more)

    go : (o : Option ℕ) → floor_block keep heads ≡ o → Some e.block ≡ o
    go None none = absurd (none-greatest (filter passes blocks) e.block none among)
    go (Some m) is =
        let l = greatest (filter passes blocks) m is in
        let y = among-filter passes m blocks l.among in
        let some = held-some heads m y.0 in
        let most = at_most keep (count_by (leb m) blocks) y.1 in
        let high = l.most e.block among in
        let low = highest m y.0 (omega (arith, some, most)) in
        ap (λ (n : ℕ). Some n) (omega (arith, low, high))

-- and where fewer entries have a frame, there is no floor
pub floor-missing : (heads : List (Option SegmentHead)) (entries : List Found) (capacity keep : ℕ)
    → IsIndexed heads entries capacity → held_from heads entries 0 < max 1 keep → None ≡ floor_block keep heads
floor-missing heads entries capacity keep x few = go (floor_block keep heads) refl
  where
    blocks : List ℕ
    blocks = filter_map held_block heads

    passes : ℕ → Bool
    passes b = leb keep (count_by (leb b) blocks)

    go : (o : Option ℕ) → floor_block keep heads ≡ o → None ≡ o
    go None e = refl
    go (Some m) is =
        let y = among-filter passes m blocks (greatest (filter passes blocks) m is).among in
        let some = held-some heads m y.0 in
        let most = at_most keep (count_by (leb m) blocks) y.1 in
        let all = from-greater heads entries capacity 0 m x (omega arith) (λ k d l. absurd (omega (arith, l))) in
        absurd (omega (arith, some, most, all, few))

-- ---- the entries from the end

-- the rest is the start of the entries, and this many after it have a frame
pub record IsLeft (heads : List (Option SegmentHead)) (entries rest : List Found) (passed : ℕ) : Type 0 where
  pub few : length rest ≤ length entries
  pub same : (k : ℕ) (d : Found) → k < length rest → get_or rest k d ≡ get_or entries k d
  pub counted : held_from heads entries (length rest) ≡ passed

-- its last entry
pub record IsLast (heads : List (Option SegmentHead)) (entries rest : List Found) (e : Found) (passed : ℕ) : Type 0 where
  pub inside : length rest < length entries
  pub at : (d : Found) → get_or entries (length rest) d ≡ e
  pub front : (k : ℕ) (d : Found) → k < length rest → get_or rest k d ≡ get_or entries k d
  pub counted : held_from heads entries (length rest + 1) ≡ passed

pub left-last : (heads : List (Option SegmentHead)) (entries whole rest : List Found) (e : Found) (passed : ℕ)
    → IsLeft heads entries whole passed → whole ≡ rest ++ e ∷ [] → IsLast heads entries rest e passed
left-last heads entries whole rest e passed left is = record {
  inside = omega (arith, left.few, long);
  at = λ d. sym (left.same (length rest) d (omega (arith, long)))
      ∙ ap (λ (l : List Found). get_or l (length rest) d) is ∙ get_or-append_seam rest e [] d;
  front = λ k d l. sym (ap (λ (xs : List Found). get_or xs k d) is ∙ get_or_append_left rest (e ∷ []) d k l)
      ∙ left.same k d (omega (arith, l, long));
  counted = ap (held_from heads entries) (sym long) ∙ left.counted;
}
  where
    long : length whole ≡ length rest + 1
    long = ap (λ (l : List Found). length l) is ∙ length-append rest (e ∷ [])

-- one more entry is passed, without a frame or with one
pub left-less : (heads : List (Option SegmentHead)) (entries rest : List Found) (e : Found) (passed now : ℕ)
    (held : Bool) → IsLast heads entries rest e passed → is_held_entry heads e ≡ held → now ≡ mark held + passed
    → IsLeft heads entries rest now
left-less heads entries rest e passed now held last is more = record {
  few = omega (arith, last.inside);
  same = last.front;
  counted = omega (
    arith,
    here,
    more,
    last.counted,
    sum_by-drop_more (λ y. mark (is_held_entry heads y)) entries (length rest) e last.inside,
  );
}
  where
    here : mark (is_held_entry heads (get_or entries (length rest) e)) ≡ mark held
    here = ap (λ (y : Found). mark (is_held_entry heads y)) (last.at e) ∙ ap mark is

-- ---- how many are left to pass

pub above-one : (left : ℕ) → 1 ≤ left → (left ≡ 1 → ⊥) → 2 ≤ left
above-one left some other = go (cases_lt 1 left)
  where
    go : (1 < left) ⊎ (left ≤ 1) → 2 ≤ left
    go (inl more) = more
    go (inr le) = absurd (other (omega (arith, some, le)))

pub one-less : (keep left : ℕ) → 2 ≤ left → left ≤ max 1 keep → max 1 keep - (left - 1) ≡ 1 + (max 1 keep - left)
one-less keep left more most = omega (arith, more, most)

-- nothing is left of the entries, and fewer were passed
pub fewer : (heads : List (Option SegmentHead)) (entries rest : List Found) (keep left : ℕ)
    → IsLeft heads entries rest (max 1 keep - left) → length rest ≡ 0 → 1 ≤ left → left ≤ max 1 keep
    → held_from heads entries 0 < max 1 keep
fewer heads entries rest keep left all none some most =
    let begun : held_from heads entries (length rest) ≡ held_from heads entries 0 = ap (held_from heads entries) none in
    omega (arith, begun, all.counted, some, most)
