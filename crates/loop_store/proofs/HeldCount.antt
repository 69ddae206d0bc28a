-- How many frames are held, counted by the headers.
use Rattle.std.proofs.Common.{◌≡◌, ◌+◌, ℕ, ◌*◌, ◌<◌, ◌≤◌, Bool, true, false, cond, leb, Option, None, Some, List, [], ◌∷◌, ◌++◌, get_or, length, map, take, refl, sym, ap, ◌∙◌, arith}
use Rattle.std.proofs.lemmas.List.{length-append, length-map, take_more}
use Rattle.std.proofs.lemmas.List.FromFn.{length-enumerate_from}
use Rattle.std.specs.List.{range_with_len}
use Rattle.loop_record.specs.declared.geometry.Geometry.{Geometry}
use Rattle.loop_record.specs.declared.segment.SegmentHead.{SegmentHead}
use Rattle.loop_record.specs.Layout.{Segment}
use Rattle.loop_record.specs.Reading.{Holds, by_block, frames_of, in_place, open_segments}
use Rattle.loop_record.specs.Parts.{parts_of}
use Rattle.loop_record.specs.Recording.{Picture, Recording}
use Rattle.loop_record.proofs.Readings.{length-range}
use Rattle.loop_ring.specs.Heads.{heads_of}
use Rattle.loop_ring.proofs.Heads.{head_of, heads-are}
use Rattle.loop_ring.proofs.HeldBlocks.{sorted}
use Rattle.loop_store.specs.Numbers.{numbers_under}
use Rattle.loop_record.proofs.Names.{all_frames}

-- the frames of segments, counted
abbrev total : List Segment → ℕ
total [] = 0
total (s ∷ ss) = length s.slots + total ss

heads-total : (slots : ℕ) (ps : List (Option Segment)) → length (numbers_under slots (map head_of ps)) ≡ total
    (open_segments ps)
heads-total slots [] = refl
heads-total slots (None ∷ ps) = heads-total slots ps
heads-total slots (Some s ∷ ps) =
    let first = range_with_len (s.block * slots) (length s.slots) in
    let rest = numbers_under slots (map head_of ps) in
    length-append first rest ∙ (λ i. length-range (s.block * slots) (length s.slots) i + heads-total slots ps i)

frames-total : (g : Geometry) (ss : List Segment) → length (all_frames g ss) ≡ total ss
frames-total g [] = refl
frames-total g (s ∷ ss) =
    let count : length (frames_of g s) ≡ length s.slots = length-enumerate_from (s.block * g.slots)
    (map (λ t. t.picture) s.slots) ∙ length-map s.slots (λ t. t.picture) in
    length-append (frames_of g s) (all_frames g ss) ∙ (λ i. count i + frames-total g ss i)

swapped : (a b c d : ℕ) → d ≡ a + c → b + d ≡ a + (b + c)
swapped a b c d e = omega arith

total-in_place : (s : Segment) (ss : List Segment) → total (in_place s ss) ≡ length s.slots + total ss
total-in_place s [] = refl
total-in_place s (t ∷ ts) = go (leb s.block t.block) (total-in_place s ts)
  where
    go : (c : Bool) → total (in_place s ts) ≡ length s.slots + total ts
        → total (cond c (s ∷ t ∷ ts) (t ∷ in_place s ts)) ≡ length s.slots + (length t.slots + total ts)
    go true h = refl
    go false h = swapped (length s.slots) (length t.slots) (total ts) (total (in_place s ts)) h

total-by_block : (ss : List Segment) → total (by_block ss) ≡ total ss
total-by_block [] = refl
total-by_block (s ∷ ss) = total-in_place s (by_block ss) ∙ ap (λ n. length s.slots + n) (total-by_block ss)

-- the headers name as many numbers as the recording has frames
pub count-held : (g : Geometry) (r : Recording) (image : List ℕ) → Holds g r image
    → length (numbers_under g.slots (heads_of g image)) ≡ length r.frames
count-held g r image e =
    let ps = (parts_of g image).segments in
    let s = sorted g r image e in
    ap (λ (hs : List (Option SegmentHead)). length (numbers_under g.slots hs)) (heads-are g image)
    ∙ heads-total g.slots ps ∙ sym (total-by_block (open_segments ps)) ∙ sym (frames-total g (by_block (open_segments ps)))
    ∙ ap (λ (fs : List (ℕ × Picture)). length fs) s.frames

-- ---- one header after another

under-append : (slots : ℕ) (a b : List (Option SegmentHead)) → length (numbers_under slots (a ++ b)) ≡ length
    (numbers_under slots a) + length (numbers_under slots b)
under-append slots [] b = nothing (length (numbers_under slots b))
  where
    nothing : (n : ℕ) → n ≡ 0 + n
    nothing n = omega arith
under-append slots (None ∷ a) b = under-append slots a b
under-append slots (Some head ∷ a) b =
    let first = range_with_len (head.block * slots) head.frames in
    length-append first (numbers_under slots (a ++ b))
    ∙ shared (length first) (length (numbers_under slots (a ++ b))) (length (numbers_under slots a)) (length (numbers_under slots b)) (under-append slots a b)
    ∙ ap (λ n. n + length (numbers_under slots b)) (sym (length-append first (numbers_under slots a)))
  where
    shared : (x n m k : ℕ) → n ≡ m + k → x + n ≡ (x + m) + k
    shared x n m k e = omega arith

-- as many as the header says
pub one-header : (slots : ℕ) (head : SegmentHead) → head.frames ≡ length (numbers_under slots (Some head ∷ []))
one-header slots head =
    let first = range_with_len (head.block * slots) head.frames in
    sym (length-append first [] ∙ (λ i. length-range (head.block * slots) head.frames i + 0) ∙ nothing head.frames)
  where
    nothing : (n : ℕ) → n + 0 ≡ n
    nothing n = omega arith

pub count-more : (slots i count more : ℕ) (heads : List (Option SegmentHead)) → i < length heads
    → count ≡ length (numbers_under slots (take i heads))
    → more ≡ length (numbers_under slots (get_or heads i None ∷ []))
    → count + more ≡ length (numbers_under slots (take (i + 1) heads))
count-more slots i count more heads inside was one =
    (λ k. was k + one k) ∙ sym (under-append slots (take i heads) (get_or heads i None ∷ []))
    ∙ ap (λ (l : List (Option SegmentHead)). length (numbers_under slots l)) (sym (take_more heads i None inside))

pub fits-more : (i size count more : ℕ) → i < size → size ≤ 64 → count ≤ i * 4294967296 → more < 4294967296
    → count + more < 18446744073709551616
fits-more i size count more inside few was one = omega arith

pub few-more : (i count more : ℕ) → count ≤ i * 4294967296 → more < 4294967296 → count + more ≤ (i + 1) * 4294967296
few-more i count more was one = omega arith
