-- How many clips meet the block of each segment, and the block that goes by these counts.
use Rattle.std.proofs.Common.{◌≡◌, ◌⊎◌, inl, inr, ℕ, zero, suc, ◌+◌, ◌-◌, ◌<◌, ◌≤◌, Bool, true, false, ◌&&◌, not, cond, eqb, ltb, min, All, Option, Some, None, List, [], ◌∷◌, length, map, replicate, set, get_or, refl, sym, ap, ◌∙◌, arith}
use Rattle.std.proofs.lemmas.Bool.{cases_lt}
use Rattle.std.proofs.lemmas.List.{ext_get_or, get_or-map, get_or-set_other, get_or-set_same, length-map, length-set}
use Rattle.std.proofs.lemmas.List.Sums.{count_by-le-length, sum_by-cons, sum_by-set}
use Rattle.std.proofs.lemmas.Slice.Zip.{get_or-zip, length-zip}
use Rattle.std.specs.List.{cons_option, count_by, filter_map, list_any, reduce, zip}
use Rattle.std.specs.Prelude.{◌||◌, is_some}
use Rattle.loop_record.specs.declared.clip.Span.{Span}
use Rattle.loop_record.specs.declared.segment.SegmentHead.{SegmentHead}
use Rattle.loop_record.specs.declared.geometry.Geometry.{Geometry}
use Rattle.loop_record.specs.Reading.{Holds}
use Rattle.loop_record.specs.Recording.{Recording, Ring, meets, ring_of, victim}
use Rattle.loop_record.proofs.TestFacts.{at_most_test, differ_test}
use Rattle.loop_ring.proofs.VictimByHeads.{going_block, going_first, least_going, victim-first}
use Rattle.loop_ring.specs.Heads.{Segments, clip_counts, clips_on, floor_block, floor_of, free_block, going_free, grown, has_frame, held_block, heads_of, least_free, meets_head, without_one, with_one}

abbrev mark : Bool → ℕ
mark t = cond t 1 0

-- ---- the counts, one segment at a time

-- the first i counts are these of the headers and the old counts, and the others are the old ones
pub record IsMapped (f : Option SegmentHead → ℕ → ℕ) (heads : List (Option SegmentHead)) (old new : List ℕ) (i : ℕ) : Type 0 where
  pub done : (k : ℕ) → k < i → get_or new k 0 ≡ f (get_or heads k None) (get_or old k 0)
  pub left : (k : ℕ) → i ≤ k → get_or new k 0 ≡ get_or old k 0

pub mapped-none : (f : Option SegmentHead → ℕ → ℕ) (heads : List (Option SegmentHead)) (old : List ℕ)
    → IsMapped f heads old old 0
mapped-none f heads old = record { done = λ k l. absurd (omega (arith, l)); left = λ k l. refl }

-- one more, which is changed
pub mapped-set : (f : Option SegmentHead → ℕ → ℕ) (heads : List (Option SegmentHead)) (old mid : List ℕ) (i y : ℕ)
    → i < length mid → IsMapped f heads old mid i → y ≡ f (get_or heads i None) (get_or mid i 0)
    → IsMapped f heads old (set mid i y) (i + 1)
mapped-set f heads old mid i y inside m is =
    record {
      done = done;
      left = λ k l. get_or-set_other mid i k y 0 (λ e. omega (arith, l, e))
          ∙ m.left k (omega (arith, l));
    }
  where
    done : (k : ℕ) → k < i + 1 → get_or (set mid i y) k 0 ≡ f (get_or heads k None) (get_or old k 0)
    done k l = go (cases_lt k i)
      where
        go : (k < i) ⊎ (i ≤ k) → get_or (set mid i y) k 0 ≡ f (get_or heads k None) (get_or old k 0)
        go (inl less) = get_or-set_other mid i k y 0 (λ e. omega (arith, less, e)) ∙ m.done k less
        go (inr more) =
            let same : k ≡ i = omega (arith, l, more) in
            ap (λ (n : ℕ). get_or (set mid i y) n 0) same ∙ get_or-set_same mid i y 0 inside ∙ is
            ∙ ap (f (get_or heads i None)) (m.left i (omega arith))
            ∙ ap (λ (n : ℕ). f (get_or heads n None) (get_or old n 0)) (sym same)

-- one more, which stays
pub mapped-same : (f : Option SegmentHead → ℕ → ℕ) (heads : List (Option SegmentHead)) (old mid : List ℕ) (i : ℕ)
    → IsMapped f heads old mid i → get_or mid i 0 ≡ f (get_or heads i None) (get_or mid i 0)
    → IsMapped f heads old mid (i + 1)
mapped-same f heads old mid i m is = record { done = done; left = λ k l. m.left k (omega (arith, l)) }
  where
    done : (k : ℕ) → k < i + 1 → get_or mid k 0 ≡ f (get_or heads k None) (get_or old k 0)
    done k l = go (cases_lt k i)
      where
        go : (k < i) ⊎ (i ≤ k) → get_or mid k 0 ≡ f (get_or heads k None) (get_or old k 0)
        go (inl less) = m.done k less
        go (inr more) =
            let same : k ≡ i = omega (arith, l, more) in
            ap (λ (n : ℕ). get_or mid n 0) same ∙ is ∙ ap (f (get_or heads i None)) (m.left i (omega arith))
            ∙ ap (λ (n : ℕ). f (get_or heads n None) (get_or old n 0)) (sym same)

-- all of them
pub mapped-all : (f : Option SegmentHead → ℕ → ℕ) (heads : List (Option SegmentHead)) (old new : List ℕ) (i : ℕ)
    → IsMapped f heads old new i → length heads ≤ i → length old ≡ length heads → length new ≡ length old
    → new ≡ map (λ x. f x.0 x.1) (zip heads old)
mapped-all f heads old new i m all counted same = ext_get_or 0 new (map (λ x. f x.0 x.1) (zip heads old))
    (omega (arith, counted, same, length-map (zip heads old) (λ (x : Option SegmentHead × ℕ). f x.0 x.1), long)) at
  where
    long : length (zip heads old) ≡ length heads
    long = omega (arith, counted, length-zip heads old)

    at : (k : ℕ) → k < length new → get_or new k 0 ≡ get_or (map (λ x. f x.0 x.1) (zip heads old)) k 0
    at k l =
        let inside : k < length heads = omega (arith, l, counted, same) in
        m.done k (omega (arith, inside, all))
        ∙ sym (ap (λ (x : Option SegmentHead × ℕ). f x.0 x.1)
        (get_or-zip heads old k (None, 0) inside (omega (arith, inside, counted))))
        ∙ sym (get_or-map (λ (x : Option SegmentHead × ℕ). f x.0 x.1) (zip heads old) k (None, 0) 0
        (omega (arith, inside, long)))

-- what depends on the headers alone
pub mapped-heads : (f : Option SegmentHead → ℕ) (heads : List (Option SegmentHead)) (old : List ℕ)
    → length old ≡ length heads → map (λ x. f x.0) (zip heads old) ≡ map f heads
mapped-heads f [] old same = refl
mapped-heads f (h ∷ heads) [] same = absurd (omega (arith, same))
mapped-heads f (h ∷ heads) (n ∷ old) same = ap (λ (ns : List ℕ). f h ∷ ns) (mapped-heads f heads old (omega (arith, same)))

-- a segment that the clip doesn't meet keeps its count
pub more-same : (ring : Ring) (span : Span) (h : Option SegmentHead) (n : ℕ) (t : Bool)
    → t ≡ meets_head ring (Some span) h → t ≡ false → n ≡ with_one ring span h n
more-same ring span h n t is not-so = ap (λ (b : Bool). cond b (n + 1) n) (sym not-so ∙ is)

pub more-met : (ring : Ring) (span : Span) (h : Option SegmentHead) (n : ℕ) (t : Bool)
    → t ≡ meets_head ring (Some span) h → t ≡ true → n + 1 ≡ with_one ring span h n
more-met ring span h n t is so = ap (λ (b : Bool). cond b (n + 1) n) (sym so ∙ is)

pub less-same : (ring : Ring) (span : Span) (h : Option SegmentHead) (n : ℕ) (t : Bool)
    → t ≡ meets_head ring (Some span) h → t ≡ false → n ≡ without_one ring span h n
less-same ring span h n t is not-so = ap (λ (b : Bool). cond b (n - 1) n) (sym not-so ∙ is)

pub less-met : (ring : Ring) (span : Span) (h : Option SegmentHead) (n : ℕ) (t : Bool)
    → t ≡ meets_head ring (Some span) h → t ≡ true → n - 1 ≡ without_one ring span h n
less-met ring span h n t is so = ap (λ (b : Bool). cond b (n - 1) n) (sym so ∙ is)

-- where there is no clip, none meets a segment
pub counts-empty : (ring : Ring) (clips : List (Option Span)) (h : Option SegmentHead)
    → list_any is_some clips ≡ false → 0 ≡ clips_on ring clips h
counts-empty ring clips None none = refl
counts-empty ring clips (Some h) none = go clips none
  where
    go : (cs : List (Option Span)) → list_any is_some cs ≡ false → 0 ≡ count_by (meets ring h.block) cs
    go [] e = refl
    go (None ∷ cs) e = let rest = go cs e in omega (arith, rest, sum_by-cons (λ c. mark (meets ring h.block c)) None cs)
    go (Some s ∷ cs) e = absurd cc

-- ---- one clip more, and one clip less

pub counts-length : (ring : Ring) (clips : List (Option Span)) (heads : List (Option SegmentHead))
    → length (clip_counts ring clips heads) ≡ length heads
counts-length ring clips heads = length-map heads (clips_on ring clips)

-- what a map over the headers and what is made of them is
map-zip : (f : Option SegmentHead → ℕ) (g : Option SegmentHead → ℕ → ℕ) (h : Option SegmentHead → ℕ)
    (heads : List (Option SegmentHead)) → ((o : Option SegmentHead) → g o (f o) ≡ h o)
    → map (λ x. g x.0 x.1) (zip heads (map f heads)) ≡ map h heads
map-zip f g h [] same = refl
map-zip f g h (o ∷ heads) same = λ i. same o i ∷ map-zip f g h heads same i

count-set : (p : Option Span → Bool) (clips : List (Option Span)) (id : ℕ) (c : Option Span) → id < length clips
    → count_by p (set clips id c) + mark (p (get_or clips id None)) ≡ count_by p clips + mark (p c)
count-set p clips id c l = sum_by-set (λ x. mark (p x)) clips id c None l

-- a clip under an id that was free
pub counts-locked : (ring : Ring) (clips : List (Option Span)) (heads : List (Option SegmentHead)) (id : ℕ)
    (span : Span) → id < length clips → get_or clips id None ≡ None
    → map (λ x. with_one ring span x.0 x.1) (zip heads (clip_counts ring clips heads)) ≡ clip_counts ring (set clips id (Some span)) heads
counts-locked ring clips heads id span l free = map-zip (clips_on ring clips) (with_one ring span) (clips_on ring (set clips id (Some span))) heads one
  where
    one : (o : Option SegmentHead) → with_one ring span o (clips_on ring clips o) ≡ clips_on ring
        (set clips id (Some span)) o
    one None = refl
    one (Some h) = go (meets ring h.block (Some span)) refl
      where
        none : mark (meets ring h.block (get_or clips id None)) ≡ 0
        none = ap (λ (c : Option Span). mark (meets ring h.block c)) free

        go : (t : Bool) → meets ring h.block (Some span) ≡ t → cond t (count_by (meets ring h.block) clips + 1)
            (count_by (meets ring h.block) clips) ≡ count_by (meets ring h.block) (set clips id (Some span))
        go true is = let mine : mark (meets ring h.block (Some span)) ≡ 1 = ap mark is in
            omega (arith, mine, none, count-set (meets ring h.block) clips id (Some span) l)
        go false is = let mine : mark (meets ring h.block (Some span)) ≡ 0 = ap mark is in
            omega (arith, mine, none, count-set (meets ring h.block) clips id (Some span) l)

-- an id whose clip goes
pub counts-unlocked : (ring : Ring) (clips : List (Option Span)) (heads : List (Option SegmentHead)) (id : ℕ)
    (span : Span) → id < length clips → get_or clips id None ≡ Some span
    → map (λ x. without_one ring span x.0 x.1) (zip heads (clip_counts ring clips heads)) ≡ clip_counts ring (set clips id None) heads
counts-unlocked ring clips heads id span l taken = map-zip (clips_on ring clips) (without_one ring span) (clips_on ring (set clips id None)) heads one
  where
    one : (o : Option SegmentHead) → without_one ring span o (clips_on ring clips o) ≡ clips_on ring
        (set clips id None) o
    one None = refl
    one (Some h) = go (meets ring h.block (Some span)) refl
      where
        same : mark (meets ring h.block (get_or clips id None)) ≡ mark (meets ring h.block (Some span))
        same = ap (λ (c : Option Span). mark (meets ring h.block c)) taken

        go : (t : Bool) → meets ring h.block (Some span) ≡ t → cond t (count_by (meets ring h.block) clips - 1)
            (count_by (meets ring h.block) clips) ≡ count_by (meets ring h.block) (set clips id None)
        go true is = let mine : mark (meets ring h.block (Some span)) ≡ 1 = ap mark is in
            omega (arith, mine, same, count-set (meets ring h.block) clips id None l)
        go false is = let mine : mark (meets ring h.block (Some span)) ≡ 0 = ap mark is in
            omega (arith, mine, same, count-set (meets ring h.block) clips id None l)

-- where an id is free, fewer clips than there are ids meet any segment
pub counts-few : (ring : Ring) (clips : List (Option Span)) (heads : List (Option SegmentHead)) (id : ℕ)
    → id < length clips → get_or clips id None ≡ None → All (λ n. n < length clips) (clip_counts ring clips heads)
counts-few ring clips heads id l free = λ k d inside. few (get_or heads k None)
    (get_or (clip_counts ring clips heads) k d)
    (get_or-map (clips_on ring clips) heads k None d (omega (arith, inside, counts-length ring clips heads)))
  where
    lower : (p : Option Span → Bool) → p None ≡ false → count_by p clips < length clips
    lower p never = below p clips id l (ap p free ∙ never)
      where
        below : (p : Option Span → Bool) (xs : List (Option Span)) (k : ℕ) → k < length xs
            → p (get_or xs k None) ≡ false → count_by p xs < length xs
        below p [] k l never = absurd (omega (arith, l))
        below p (x ∷ xs) zero l never =
            let none : mark (p x) ≡ 0 = ap mark never in
            omega (arith, none, sum_by-cons (λ c. mark (p c)) x xs, count_by-le-length p xs)
        below p (x ∷ xs) (suc k) l never =
            let rest = below p xs k (omega (arith, l)) never in
            omega (arith, rest, sum_by-cons (λ c. mark (p c)) x xs, most (p x))
          where
            most : (b : Bool) → mark b ≤ 1
            most true = omega arith
            most false = omega arith

    few : (o : Option SegmentHead) (n : ℕ) → n ≡ clips_on ring clips o → n < length clips
    few None n is = omega (arith, is, l)
    few (Some h) n is = omega (arith, is, lower (meets ring h.block) refl)

-- closed segments are met by none
pub counts-closed : (ring : Ring) (clips : List (Option Span)) (n : ℕ) → replicate n 0 ≡ clip_counts ring clips
    (replicate n None)
counts-closed ring clips zero = refl
counts-closed ring clips (suc n) = ap (λ (l : List ℕ). 0 ∷ l) (counts-closed ring clips n)

-- the counts once a segment's header is another one
pub counts-set : (ring : Ring) (clips : List (Option Span)) (heads : List (Option SegmentHead)) (j : ℕ)
    (h : Option SegmentHead) → set (clip_counts ring clips heads) j (clips_on ring clips h) ≡ clip_counts ring clips
    (set heads j h)
counts-set ring clips [] j h = refl
counts-set ring clips (o ∷ heads) zero h = refl
counts-set ring clips (o ∷ heads) (suc j) h = ap (λ (l : List ℕ). clips_on ring clips o ∷ l) (counts-set ring clips heads j h)

-- and where it holds the same block
pub counts-grown : (ring : Ring) (clips : List (Option Span)) (heads : List (Option SegmentHead)) (j frames : ℕ)
    → clip_counts ring clips heads ≡ clip_counts ring clips (set heads j (grown frames (get_or heads j None)))
counts-grown ring clips [] j frames = refl
counts-grown ring clips (None ∷ heads) zero frames = refl
counts-grown ring clips (Some h ∷ heads) zero frames = refl
counts-grown ring clips (o ∷ heads) (suc j) frames = ap (λ (l : List ℕ). clips_on ring clips o ∷ l) (counts-grown ring clips heads j frames)

-- ---- the block that goes

-- no clip meets a block exactly where the count is 0
none-any : (p : Option Span → Bool) (clips : List (Option Span)) → eqb (count_by p clips) 0 ≡ not (list_any p clips)
none-any p [] = refl
none-any p (c ∷ clips) = go (p c) refl (none-any p clips)
  where
    some : (n m : ℕ) → n ≡ 1 + m → eqb n 0 ≡ false
    some n m is = differ_test n 0 (λ e. omega (arith, e, is))

    none : (n m : ℕ) → n ≡ m → eqb n 0 ≡ eqb m 0
    none n m is = ap (λ (k : ℕ). eqb k 0) is

    go : (t : Bool) → p c ≡ t → eqb (count_by p clips) 0 ≡ not (list_any p clips)
        → eqb (count_by p (c ∷ clips)) 0 ≡ not (p c || list_any p clips)
    go true is rest = some (count_by p (c ∷ clips)) (count_by p clips) (sum_by-cons (λ x. mark (p x)) c clips
        ∙ ap (λ (b : Bool). mark b + count_by p clips) is) ∙ sym (ap (λ (b : Bool). not (b || list_any p clips)) is)
    go false is rest = let nothing : mark (p c) ≡ 0 = ap mark is in none (count_by p (c ∷ clips)) (count_by p clips)
        (omega (arith, nothing, sum_by-cons (λ x. mark (p x)) c clips)) ∙ rest
        ∙ sym (ap (λ (b : Bool). not (b || list_any p clips)) is)

-- the counts of some clips choose the same block as the clips
pub free-first : (ring : Ring) (clips : List (Option Span)) (s : Segments) → s.clips ≡ clip_counts ring clips s.heads
    → going_free s ≡ going_first ring s.keep clips s.heads
free-first ring clips s counted = go (floor_block s.keep s.heads)
  where
    one : (floor : ℕ) (o : Option SegmentHead) → free_block floor o (clips_on ring clips o) ≡ going_block ring clips
        floor o
    one floor None = refl
    one floor (Some h) =
        let each : (a b n m : Bool) → n ≡ m → cond ((a && b) && n) (Some h.block) None ≡ cond (a && (b && m))
        (Some h.block) None = λ a b n m is. pick a b n m is in
        each (ltb 0 h.frames) (ltb h.block floor) (eqb (count_by (meets ring h.block) clips) 0)
        (not (list_any (meets ring h.block) clips)) (none-any (meets ring h.block) clips)
      where
        pick : (a b n m : Bool) → n ≡ m → cond ((a && b) && n) (Some h.block) None ≡ cond (a && (b && m))
            (Some h.block) None
        pick true true n m is = ap (λ (t : Bool). cond t (Some h.block) None) is
        pick true false n m is = refl
        pick false b n m is = refl

    blocks : (floor : ℕ) (heads : List (Option SegmentHead)) → filter_map (λ x. free_block floor x.0 x.1)
        (zip heads (clip_counts ring clips heads)) ≡ filter_map (going_block ring clips floor) heads
    blocks floor [] = refl
    blocks floor (o ∷ heads) = λ i. cons_option (one floor o i) (blocks floor heads i)

    go : (o : Option ℕ) → least_free s o ≡ least_going ring clips s.heads o
    go None = refl
    go (Some floor) = ap (λ (cs : List ℕ). reduce min (filter_map (λ x. free_block floor x.0 x.1) (zip s.heads cs)))
        counted ∙ ap (reduce min) (blocks floor s.heads)

-- and where these are the headers and the clips of a recording, that block is the victim
pub free-victim : (g : Geometry) (r : Recording) (image : List ℕ) (s : Segments) → Holds g r image
    → s.heads ≡ heads_of g image → s.clips ≡ clip_counts (ring_of g) r.clips s.heads
    → going_free s ≡ victim (ring_of g) s.keep r
free-victim g r image s held is counted = free-first (ring_of g) r.clips s counted ∙ victim-first g s.keep r image s.heads held is

-- ---- a block that grows

-- the segment has a frame, and has another count of them now
record IsGrown (old new : Option SegmentHead) : Type 0 where
  held : held_block new ≡ held_block old
  free : (floor count : ℕ) → free_block floor new count ≡ free_block floor old count
  has : has_frame new ≡ has_frame old

grown-is : (o : Option SegmentHead) (frames : ℕ) → has_frame o ≡ true → 0 < frames → IsGrown o (grown frames o)
grown-is None frames some more = record { held = refl; free = λ floor count. refl; has = refl }
grown-is (Some h) frames some more =
    let lit : ltb 0 frames ≡ ltb 0 h.frames = at_most_test 1 frames (omega (arith, more)) ∙ sym some in record {
      held = ap (λ (t : Bool). cond t (Some h.block) None) lit;
      free = λ floor count. ap (λ (t : Bool). cond ((t && ltb h.block floor) && eqb count 0) (Some h.block) None) lit;
      has = lit;
    }

held-set : (heads : List (Option SegmentHead)) (j : ℕ) (h : Option SegmentHead)
    → held_block h ≡ held_block (get_or heads j None) → filter_map held_block (set heads j h) ≡ filter_map held_block
    heads
held-set [] j h e = refl
held-set (o ∷ heads) zero h e = ap (λ b. cons_option b (filter_map held_block heads)) e
held-set (o ∷ heads) (suc j) h e = ap (cons_option (held_block o)) (held-set heads j h e)

free-set : (floor : ℕ) (heads : List (Option SegmentHead)) (clips : List ℕ) (j : ℕ) (h : Option SegmentHead)
    → ((count : ℕ) → free_block floor h count ≡ free_block floor (get_or heads j None) count)
    → filter_map (λ x. free_block floor x.0 x.1) (zip (set heads j h) clips) ≡ filter_map (λ x. free_block floor x.0 x.1) (zip heads clips)
free-set floor [] clips j h e = refl
free-set floor (o ∷ heads) [] zero h e = refl
free-set floor (o ∷ heads) [] (suc j) h e = refl
free-set floor (o ∷ heads) (c ∷ clips) zero h e = ap (λ b. cons_option b (filter_map (λ x. free_block floor x.0 x.1) (zip heads clips))) (e c)
free-set floor (o ∷ heads) (c ∷ clips) (suc j) h e = ap (cons_option (free_block floor o c)) (free-set floor heads clips j h e)

-- the same block goes
pub grown-goes : (s : Segments) (j frames : ℕ) → has_frame (get_or s.heads j None) ≡ true → 0 < frames
    → going_free (record s { heads = set s.heads j (grown frames (get_or s.heads j None)) }) ≡ going_free s
grown-goes s j frames some more =
    let k = grown-is (get_or s.heads j None) frames some more in
    ap (λ (bs : List ℕ). least_free (record s { heads = set s.heads j (grown frames (get_or s.heads j None)) })
    (floor_of s.keep bs)) (held-set s.heads j (grown frames (get_or s.heads j None)) k.held)
    ∙ go k (floor_block s.keep s.heads)
  where
    go : IsGrown (get_or s.heads j None) (grown frames (get_or s.heads j None)) → (o : Option ℕ)
        → least_free (record s { heads = set s.heads j (grown frames (get_or s.heads j None)) }) o ≡ least_free s o
    go k None = refl
    go k (Some floor) = ap (reduce min) (free-set floor s.heads s.clips j (grown frames (get_or s.heads j None)) (k.free floor))

-- and as many have a frame
pub grown-held : (heads : List (Option SegmentHead)) (j frames : ℕ) → has_frame (get_or heads j None) ≡ true
    → 0 < frames → count_by has_frame heads ≡ count_by has_frame (set heads j (grown frames (get_or heads j None)))
grown-held heads j frames some more = go (cases_lt j (length heads))
  where
    go : (j < length heads) ⊎ (length heads ≤ j) → count_by has_frame heads ≡ count_by has_frame
        (set heads j (grown frames (get_or heads j None)))
    go (inl l) =
        let same : mark (has_frame (grown frames (get_or heads j None))) ≡ mark (has_frame (get_or heads j None)) =
        ap mark (grown-is (get_or heads j None) frames some more).has in
        let sums = sum_by-set (λ (o : Option SegmentHead). mark (has_frame o)) heads j (grown frames (get_or heads j None)) None l in
        omega (arith, same, sums)
    go (inr past) = ap (count_by has_frame) (sym (past-set heads j (grown frames (get_or heads j None)) past))
      where
        past-set : (hs : List (Option SegmentHead)) (j : ℕ) (h : Option SegmentHead) → length hs ≤ j → set hs j h ≡ hs
        past-set [] j h l = refl
        past-set (o ∷ hs) zero h l = absurd (omega (arith, l))
        past-set (o ∷ hs) (suc j) h l = ap (λ xs. o ∷ xs) (past-set hs j h (omega (arith, l)))

-- ---- how many segments have a frame

-- once one segment is another one
pub held-changed : (heads : List (Option SegmentHead)) (j held : ℕ) (new : Option SegmentHead) → j < length heads
    → held ≡ count_by has_frame heads → held + count_by has_frame (new ∷ []) ≡ count_by has_frame
    (set heads j new) + count_by has_frame (get_or heads j None ∷ [])
held-changed heads j held new l is =
    let sums = sum_by-set (λ (o : Option SegmentHead). mark (has_frame o)) heads j new None l in
    omega (
      arith,
      is,
      sums,
      sum_by-cons (λ (o : Option SegmentHead). mark (has_frame o)) new [],
      sum_by-cons (λ (o : Option SegmentHead). mark (has_frame o)) (get_or heads j None) [],
    )

pub held-few : (heads : List (Option SegmentHead)) (j held limit : ℕ) (new : Option SegmentHead) → j < length heads
    → length heads < limit → held ≡ count_by has_frame heads
    → held + count_by has_frame (new ∷ []) < limit + count_by has_frame (get_or heads j None ∷ [])
held-few heads j held limit new l few is =
    omega (
      arith,
      few,
      held-changed heads j held new l is,
      count_by-le-length has_frame (set heads j new),
      length-set heads j new,
    )

-- a segment with a frame is one of them
pub held-inside : (heads : List (Option SegmentHead)) (j : ℕ) → has_frame (get_or heads j None) ≡ true
    → j < length heads
held-inside [] j some = absurd cc
held-inside (o ∷ heads) zero some = omega arith
held-inside (o ∷ heads) (suc j) some = let rest = held-inside heads j some in omega (arith, rest)
