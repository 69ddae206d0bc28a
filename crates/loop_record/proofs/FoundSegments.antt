-- Open segments as their headers were found.
use Rattle.std.proofs.Common.{◌≡◌, ℕ, zero, suc, ◌+◌, ◌-◌, ◌*◌, ◌^◌, ◌<◌, ◌≤◌, Bool, true, false, not, ◌&&◌, cond, eqb, Option, Some, None, Result, Ok, Err, List, [], ◌∷◌, ◌++◌, length, take, get_or, set, replicate, map, refl, sym, ap, ◌∙◌, subst, arith}
use Rattle.std.proofs.lemmas.List.{length-map, take_all, map-append}
use Rattle.std.proofs.Math.Seq.{take-suc-set}
use Rattle.std.proofs.lemmas.List.Folds.{list_any-append}
use Rattle.std.specs.Prelude.{◌||◌, slice_range}
use Rattle.std.specs.List.{list_any, range_with_len}
use Rattle.loop_record.specs.declared.clip.Span.{Span}
use Rattle.loop_record.specs.declared.damage.Damage.{Damage}
use Rattle.loop_record.specs.declared.damage.Damage.TheVariants.{DiskSize, BlockTooHigh, RepeatedBlock, ClosedGate, SlotHead, ClipRange}
use Rattle.loop_record.specs.declared.damage.LayoutFault.{LayoutFault}
use Rattle.loop_record.specs.declared.damage.LayoutFault.TheVariants.{Damaged}
use Rattle.loop_record.specs.declared.frame.FrameHead.{FrameHead}
use Rattle.loop_record.specs.declared.geometry.Geometry.{Geometry}
use Rattle.loop_record.specs.declared.image.Found.{Found}
use Rattle.loop_record.specs.declared.segment.SegmentHead.{SegmentHead}
use Rattle.loop_record.specs.Geometry.{frame_bytes, segment_at, segment_size, slot_at, disk_size}
use Rattle.loop_record.specs.Layout.{Slot, Segment, slot_head, is_open, is_slot_of, is_too_high, slot_in, segment_in, whole_frames, entry_at, clip_in, geometry_in, header_at, checked_header}
use Rattle.loop_record.specs.Reading.{reading, Contents, Holds, contents, with_geometry, recording_or_damage, recording_of, is_bad_clip, open_segments, by_block, repeats, lacks_frame, is_bad_slot, next_after}
use Rattle.loop_record.specs.Parts.{shown_by, parts_of, is_high}
use Rattle.loop_record.specs.Plain.{IsTagFit, segment_of, segments_of, held_clip, lacks_number, table_clips, IsIn, AreIn, IsSomeHigh}
use Rattle.loop_record.proofs.Fresh.{entry_at-slice}
use Rattle.std.proofs.Math.Nat.{mul-le-mul_right, add-mul}
use Rattle.loop_record.proofs.OwnBytes.{slot_within}
use Rattle.loop_record.proofs.Gates.{range_append}
use Rattle.loop_record.proofs.Segments.{any-by_block}
use Rattle.loop_record.proofs.TestFacts.{equal, equal_test, differ_test, not_below}
use Rattle.std.proofs.lemmas.Bool.Decides.{nat_tests}
use Rattle.byteorder.specs.Endian.{little_from}
use Rattle.loop_record.proofs.Growth.{hold_from-append}
use Rattle.loop_record.specs.Recording.{Picture, head, empty}
use Rattle.loop_record.proofs.Readings.{length-range}
use Rattle.loop_record.proofs.Names.{has_bad_clip, hold_from, all_frames}

any-map : (p : ℕ → Bool) (g : Geometry) (image : List ℕ) (xs : List Found) → list_any (λ (s : Segment). p s.block)
    (segments_of g image xs) ≡ list_any (λ (f : Found). p f.block) xs
any-map p g image [] = refl
any-map p g image (x ∷ xs) = ap (λ (t : Bool). p x.block || t) (any-map p g image xs)

pub repeats-first : (g : Geometry) (image : List ℕ) (x : Found) (xs : List Found)
    → repeats (segments_of g image (x ∷ xs)) ≡ (list_any (λ (f : Found). eqb f.block x.block) xs || repeats
    (segments_of g image xs))
repeats-first g image x xs = ap (λ (t : Bool). t || repeats (segments_of g image xs)) (any-map (λ b. eqb b x.block) g image xs)

-- a segment has as many slots as its header says
pub length-slots : (g : Geometry) (image : List ℕ) (f : Found) → length (segment_of g image f).slots ≡ f.frames
length-slots g image f = length-map (range_with_len 0 f.frames) (λ i. slot_in (frame_bytes g) image (slot_at g f.segment i)) ∙ length-range 0 f.frames

pub lacks_frame-front : (g : Geometry) (image : List ℕ) (xs : List Found) (last : Found)
    → lacks_frame g (segments_of g image (xs ++ last ∷ [])) ≡ list_any (λ (f : Found). not (eqb f.frames g.slots)) xs
lacks_frame-front g image [] last = refl
lacks_frame-front g image (x ∷ []) last = ap (λ (n : ℕ). not (eqb n g.slots) || false) (length-slots g image x)
lacks_frame-front g image (x ∷ y ∷ xs) last =
    let rest = lacks_frame-front g image (y ∷ xs) last in
    let here = length-slots g image x in
    λ i. not (eqb (here i) g.slots) || rest i

pub repeats-then : (g : Geometry) (image : List ℕ) (all xs : List Found) (x : Found) (r : Bool) → all ≡ x ∷ xs
    → r ≡ list_any (λ (f : Found). eqb f.block x.block) xs → r ≡ true → r ≡ repeats (segments_of g image all)
repeats-then g image all xs x r is found e =
    e ∙ ap (λ (t : Bool). t || repeats (segments_of g image xs)) (sym (sym found ∙ e))
    ∙ sym (ap (λ (ys : List Found). repeats (segments_of g image ys)) is ∙ repeats-first g image x xs)

pub repeats-else : (g : Geometry) (image : List ℕ) (all xs : List Found) (x : Found) (r s : Bool) → all ≡ x ∷ xs
    → r ≡ list_any (λ (f : Found). eqb f.block x.block) xs → r ≡ false → s ≡ repeats (segments_of g image xs)
    → s ≡ repeats (segments_of g image all)
repeats-else g image all xs x r s is found e rest =
    rest ∙ ap (λ (t : Bool). t || repeats (segments_of g image xs)) (sym (sym found ∙ e))
    ∙ sym (ap (λ (ys : List Found). repeats (segments_of g image ys)) is ∙ repeats-first g image x xs)

-- the first slots of a segment
abbrev pub read_slots : Geometry → List ℕ → ℕ → ℕ → List Slot
read_slots g image j n = map (λ i. slot_in (frame_bytes g) image (slot_at g j i)) (range_with_len 0 n)

pub read_slots-split : (g : Geometry) (image : List ℕ) (j i m : ℕ)
    → read_slots g image j (i + m) ≡ read_slots g image j i
    ++ map (λ k. slot_in (frame_bytes g) image (slot_at g j k)) (range_with_len i m)
read_slots-split g image j i m =
    let slot = λ (k : ℕ). slot_in (frame_bytes g) image (slot_at g j k) in
    let at : 0 + i ≡ i = omega arith in
    ap (map slot) (range_append 0 i m) ∙ map-append slot (range_with_len 0 i) (range_with_len (0 + i) m)
    ∙ ap (λ (k : ℕ). read_slots g image j i ++ map slot (range_with_len k m)) at

pub length-read_slots : (g : Geometry) (image : List ℕ) (j n : ℕ) → length (read_slots g image j n) ≡ n
length-read_slots g image j n = length-map (range_with_len 0 n) (λ i. slot_in (frame_bytes g) image (slot_at g j i)) ∙ length-range 0 n

-- the slots so far hold their frames, and one more does
pub slots-hold : (g : Geometry) (image : List ℕ) (j i first : ℕ) → hold_from (frame_bytes g) first
    (read_slots g image j i) ≡ true → is_slot_of (frame_bytes g) (first + i)
    (slot_in (frame_bytes g) image (slot_at g j i)) ≡ true
    → hold_from (frame_bytes g) first (read_slots g image j (i + 1)) ≡ true
slots-hold g image j i first held one =
    let s = slot_in (frame_bytes g) image (slot_at g j i) in
    let end : first + length (read_slots g image j i) ≡ first + i = ap (λ (k : ℕ). first + k) (length-read_slots g image j i) in
    ap (hold_from (frame_bytes g) first) (read_slots-split g image j i 1) ∙ hold_from-append (frame_bytes g) first
    (read_slots g image j i) (s ∷ []) (first + i) end ∙ (λ k. held k && (one k && true))

-- a slot that holds another frame makes its segment a bad one
pub slots-bad : (g : Geometry) (image : List ℕ) (f : Found) (i : ℕ) → i < f.frames
    → is_slot_of (frame_bytes g) (f.block * g.slots + i) (slot_in (frame_bytes g) image (slot_at g f.segment i)) ≡
    false → is_bad_slot g (segment_of g image f) ≡ true
slots-bad g image f i l fails =
    ap not (ap (hold_from (frame_bytes g) first) split ∙ hold_from-append (frame_bytes g) first
    (read_slots g image f.segment i) (slot i ∷ rest) (first + i) end
    ∙ (λ k. hold_from (frame_bytes g) first (read_slots g image f.segment i) &&
    (fails k && hold_from (frame_bytes g) (first + i + 1) rest))
    ∙ and_false (hold_from (frame_bytes g) first (read_slots g image f.segment i)))
  where
    first : ℕ
    first = f.block * g.slots

    slot : ℕ → Slot
    slot k = slot_in (frame_bytes g) image (slot_at g f.segment k)

    rest : List Slot
    rest = map slot (range_with_len (i + 1) (f.frames - i - 1))

    and_false : (t : Bool) → (t && false) ≡ false
    and_false true = refl
    and_false false = refl

    end : first + length (read_slots g image f.segment i) ≡ first + i
    end = ap (λ (k : ℕ). first + k) (length-read_slots g image f.segment i)

    split : read_slots g image f.segment f.frames ≡ read_slots g image f.segment i ++ slot i ∷ rest
    split =
        let count : f.frames ≡ i + suc (f.frames - i - 1) = omega (arith, l) in
        ap (read_slots g image f.segment) count ∙ read_slots-split g image f.segment i (suc (f.frames - i - 1))

-- ---- what was found

-- what is wrong with a header is that its block is too high
pub found-high : (g : Geometry) (image : List ℕ) (j : ℕ) (d : Damage)
    → (let r : Result (Option SegmentHead) Damage = Err d in r) ≡ checked_header g (header_at g image (segment_at g j))
    → (d ≡ BlockTooHigh) × IsSomeHigh g (segment_in g image j)
found-high g image j d e = gate (is_open image (segment_at g j)) refl e
  where
    said : SegmentHead
    said = record { block = little_from (segment_at g j + 8) 8 image; frames = whole_frames g image j }

    err : Damage → Result (Option SegmentHead) Damage
    err x = Err x

    same : err d ≡ err BlockTooHigh → d ≡ BlockTooHigh
    same e = cc

    there : is_open image (segment_at g j) ≡ true
        → segment_in g image j ≡ Some (record {
          block = said.block;
          slots =
              read_slots g image j (whole_frames g image j);
        })
    there is = λ i. cond (is i) (Some (record { block = said.block; slots = read_slots g image j (whole_frames g image j) })) None

    high : (t : Bool) → is_too_high g said.block ≡ t → is_open image (segment_at g j) ≡ true
        → err d ≡ cond t (Err BlockTooHigh) (Ok (Some said)) → (d ≡ BlockTooHigh)
        × IsSomeHigh g (segment_in g image j)
    high true up is e = (same e, subst (IsSomeHigh g) (sym (there is)) up)
    high false up is e = absurd cc

    gate : (t : Bool) → is_open image (segment_at g j) ≡ t
        → err d ≡ checked_header g (cond t (Some said) None) → (d ≡ BlockTooHigh)
        × IsSomeHigh g (segment_in g image j)
    gate true is e = high (is_too_high g said.block) refl is e
    gate false is e = absurd cc

pub some-high : (g : Geometry) (image : List ℕ) (j : ℕ) → j < g.segments → IsSomeHigh g (segment_in g image j)
    → list_any (is_high g) (by_block (open_segments (parts_of g image).segments)) ≡ true
some-high g image j l high = any-by_block (is_high g) (open_segments (parts_of g image).segments) ∙ among 0 g.segments (omega arith) (omega (arith, l))
  where
    first : (o : Option Segment) (xs : List (Option Segment)) → IsSomeHigh g o
        → list_any (is_high g) (open_segments (o ∷ xs)) ≡ true
    first None xs h = elim h [ ]
    first (Some s) xs h = λ i. h i || list_any (is_high g) (open_segments xs)

    behind : (o : Option Segment) (xs : List (Option Segment)) → list_any (is_high g) (open_segments xs) ≡ true
        → list_any (is_high g) (open_segments (o ∷ xs)) ≡ true
    behind None xs e = e
    behind (Some s) xs e = or_true (is_high g s) (list_any (is_high g) (open_segments xs)) e
      where
        or_true : (a c : Bool) → c ≡ true → (a || c) ≡ true
        or_true true c e = refl
        or_true false c e = e

    among : (lo n : ℕ) → lo ≤ j → j < lo + n
        → list_any (is_high g) (open_segments (map (segment_in g image) (range_with_len lo n))) ≡ true
    among lo zero low up = absurd (omega (arith, low, up))
    among lo (suc n) low up = pick (eqb lo j) refl (λ l. among (lo + 1) n l (omega (arith, up)))
      where
        pick : (t : Bool) → eqb lo j ≡ t
            → (lo + 1 ≤ j → list_any (is_high g)
            (open_segments (map (segment_in g image) (range_with_len (lo + 1) n))) ≡ true)
            → list_any (is_high g) (open_segments (map (segment_in g image) (range_with_len lo (suc n)))) ≡ true
        pick true is rest = first (segment_in g image lo) (map (segment_in g image) (range_with_len (lo + 1) n))
            (subst (λ (k : ℕ). IsSomeHigh g (segment_in g image k)) (sym (equal lo j is)) high)
        pick false is rest = behind (segment_in g image lo) (map (segment_in g image) (range_with_len (lo + 1) n)) (rest (beyond is))
          where
            beyond : eqb lo j ≡ false → lo + 1 ≤ j
            beyond e = grind (arith, nat_tests, e, low)

-- ---- answers that mean a fault

pub slot-wrong : (n number : ℕ) (s : Slot) (d : Damage) → (let r : Result FrameHead Damage = Err d in r) ≡ slot_head n
    number s → (Damaged d ≡ Damaged SlotHead) × (is_slot_of n number s ≡ false)
slot-wrong n number s d e = go (is_slot_of n number s) refl e
  where
    err : Damage → Result FrameHead Damage
    err x = Err x

    same : err d ≡ err SlotHead → Damaged d ≡ Damaged SlotHead
    same e = cc

    go : (t : Bool) → is_slot_of n number s ≡ t → err d ≡ cond t (Ok (head number s.picture)) (Err SlotHead)
        → (Damaged d ≡ Damaged SlotHead) × (is_slot_of n number s ≡ false)
    go true is e = absurd cc
    go false is e = (same e, is)

-- a slot lies on the disk
pub slot-room : (g : Geometry) (image : List ℕ) (j i : ℕ) → j < g.segments → i < g.slots → length image ≡ disk_size g
    → slot_at g j i + 32 + frame_bytes g ≤ length image
slot-room g image j i l k size =
    let within = slot_within g j i k in
    let le : (j + 1) * segment_size g ≤ g.segments * segment_size g = mul-le-mul_right (segment_size g) (omega (arith, l)) in
    let split : (j + 1) * segment_size g ≡ j * segment_size g + segment_size g = omega (arith, add-mul j 1 (segment_size g)) in
    omega (arith, within, le, split, size)

pub AreIn-last : (g : Geometry) (xs : List Found) (x : Found) → AreIn g (xs ++ x ∷ []) → IsIn g x
AreIn-last g [] x h = h.0
AreIn-last g (y ∷ ys) x h = AreIn-last g ys x h.1

pub next_after-last : (g : Geometry) (image : List ℕ) (xs : List Found) (x : Found)
    → next_after g (segments_of g image (xs ++ x ∷ [])) ≡ x.block * g.slots + x.frames
next_after-last g image [] x = ap (λ (n : ℕ). x.block * g.slots + n) (length-slots g image x)
next_after-last g image (y ∷ []) x = ap (λ (n : ℕ). x.block * g.slots + n) (length-slots g image x)
next_after-last g image (y ∷ z ∷ ys) x = next_after-last g image (z ∷ ys) x

-- the numbers of a block that isn't too high
pub block-fits : (g : Geometry) (b : ℕ) → is_too_high g b ≡ false → b * g.slots + g.slots ≤ 2 ^ 62
block-fits g b low =
    let split : (b + 1) * g.slots ≡ b * g.slots + g.slots = omega (arith, add-mul b 1 g.slots) in
    omega (arith, split, not_below (2 ^ 62) ((b + 1) * g.slots) low)

-- ---- clips

-- whether some clip is bad, beside these frames
abbrev pub some_bad : List (ℕ × Picture) → List (Option Span) → Bool
some_bad frames clips = list_any (is_bad_clip (record empty { frames = frames })) clips

entry-cut : (version : ℕ) (table cut : List ℕ) (id : ℕ) → cut ≡ slice_range table (id * 32) (id * 32 + 32)
    → entry_at version cut 0 ≡ entry_at version table (id * 32)
entry-cut version table cut id is = ap (λ (c : List ℕ). entry_at version c 0) is ∙ entry_at-slice version table (id * 32)

any-range : (p : Option Span → Bool) (f : ℕ → Option Span) (lo n j : ℕ) → lo ≤ j → j < lo + n → p (f j) ≡ true
    → list_any p (map f (range_with_len lo n)) ≡ true
any-range p f lo zero j low up e = absurd (omega (arith, low, up))
any-range p f lo (suc n) j low up e = pick (eqb lo j) refl (λ l. any-range p f (lo + 1) n j l (omega (arith, up)) e)
  where
    or_true : (a c : Bool) → c ≡ true → (a || c) ≡ true
    or_true true c e = refl
    or_true false c e = e

    pick : (t : Bool) → eqb lo j ≡ t → (lo + 1 ≤ j → list_any p (map f (range_with_len (lo + 1) n)) ≡ true)
        → (p (f lo) || list_any p (map f (range_with_len (lo + 1) n))) ≡ true
    pick true is rest = ap (λ (k : ℕ). p (f k) || list_any p (map f (range_with_len (lo + 1) n))) (equal lo j is)
        ∙ ap (λ (t : Bool). t || list_any p (map f (range_with_len (lo + 1) n))) e
    pick false is rest = or_true (p (f lo)) (list_any p (map f (range_with_len (lo + 1) n))) (rest (beyond is))
      where
        beyond : eqb lo j ≡ false → lo + 1 ≤ j
        beyond e = grind (arith, nat_tests, e, low)

-- the entries of a clip table
abbrev pub entries : ℕ → List ℕ → ℕ → Option Span
entries version table id = entry_at version table (id * 32)

pub clip-wrong : (g : Geometry) (version : ℕ) (fs : List Found) (table cut : List ℕ) (id : ℕ) (d : Damage) → id < 64
    → cut ≡ slice_range table (id * 32) (id * 32 + 32)
    → (let r : Result (Option Span) Damage = Err d in r) ≡ held_clip g fs (entry_at version cut 0)
    → (d ≡ ClipRange) × (list_any (lacks_number g fs) (table_clips version table) ≡ true)
clip-wrong g version fs table cut id d l is e = go (lacks_number g fs (entries version table id)) refl
    (e ∙ ap (held_clip g fs) (entry-cut version table cut id is))
  where
    err : Damage → Result (Option Span) Damage
    err x = Err x

    same : err d ≡ err ClipRange → d ≡ ClipRange
    same e = cc

    go : (t : Bool) → lacks_number g fs (entries version table id) ≡ t → err d ≡ cond t (Err ClipRange)
        (Ok (entries version table id)) → (d ≡ ClipRange)
        × (list_any (lacks_number g fs) (table_clips version table) ≡ true)
    go true bad e = (same e, any-range (lacks_number g fs) (entries version table) 0 64 id (omega arith) (omega (arith, l)) bad)
    go false bad e = absurd cc

pub clips-more : (g : Geometry) (version : ℕ) (fs : List Found) (table cut : List ℕ) (clips : List (Option Span))
    (id : ℕ) (c : Option Span) → id < length clips → cut ≡ slice_range table (id * 32) (id * 32 + 32)
    → (let r : Result (Option Span) Damage = Ok c in r) ≡ held_clip g fs (entry_at version cut 0)
    → take id clips ≡ map (entries version table) (range_with_len 0 id) → list_any (lacks_number g fs)
    (map (entries version table) (range_with_len 0 id)) ≡ false
    → (take (id + 1) (set clips id c) ≡ map (entries version table) (range_with_len 0 (id + 1)))
    × (list_any (lacks_number g fs) (map (entries version table) (range_with_len 0 (id + 1))) ≡ false)
clips-more g version fs table cut clips id c l is e so_far good =
    go (lacks_number g fs (entries version table id)) refl (e ∙ ap (held_clip g fs) (entry-cut version table cut id is))
  where
    ok : Option Span → Result (Option Span) Damage
    ok x = Ok x

    same : ok c ≡ ok (entries version table id) → c ≡ entries version table id
    same e = cc

    split : map (entries version table) (range_with_len 0 (id + 1)) ≡ map (entries version table)
        (range_with_len 0 id) ++ entries version table id ∷ []
    split =
        let at : 0 + id ≡ id = omega arith in
        ap (map (entries version table)) (range_append 0 id 1) ∙ map-append (entries version table)
        (range_with_len 0 id) (range_with_len (0 + id) 1)
        ∙ ap (λ (k : ℕ). map (entries version table) (range_with_len 0 id) ++ entries version table k ∷ []) at

    go : (t : Bool) → lacks_number g fs (entries version table id) ≡ t → ok c ≡ cond t (Err ClipRange)
        (Ok (entries version table id))
        → (take (id + 1) (set clips id c) ≡ map (entries version table) (range_with_len 0 (id + 1)))
        × (list_any (lacks_number g fs) (map (entries version table) (range_with_len 0 (id + 1))) ≡ false)
    go true bad e = absurd cc
    go false bad e =
        let n : id + 1 ≡ suc id = omega arith in (
          ap (λ (k : ℕ). take k (set clips id c)) n ∙ take-suc-set clips id c l ∙ (λ i. so_far i ++ same e i ∷ []) ∙ sym split,
          ap (list_any (lacks_number g fs)) split ∙ list_any-append (lacks_number g fs)
              (map (entries version table) (range_with_len 0 id)) (entries version table id ∷ [])
              ∙ (λ i. good i || (bad i || false)),
        )

-- without a clip there is no tag
pub tags-none : (count i : ℕ) → IsTagFit (get_or (replicate count None) i None)
tags-none zero i = tt
tags-none (suc count) zero = tt
tags-none (suc count) (suc i) = tags-none count i

-- each clip has a tag of 64 bits, and one more does
pub tags-set : (clips : List (Option Span)) (id : ℕ) (c : Option Span) → ((i : ℕ) → IsTagFit (get_or clips i None))
    → IsTagFit c → (i : ℕ) → IsTagFit (get_or (set clips id c) i None)
tags-set [] id c all one i = all i
tags-set (d ∷ clips) zero c all one zero = one
tags-set (d ∷ clips) zero c all one (suc i) = all (suc i)
tags-set (d ∷ clips) (suc id) c all one zero = all zero
tags-set (d ∷ clips) (suc id) c all one (suc i) = tags-set clips id c (λ k. all (suc k)) one i

pub clips-all : (g : Geometry) (version : ℕ) (fs : List Found) (table : List ℕ) (clips : List (Option Span)) (id : ℕ)
    → id ≡ 64 → length clips ≡ 64 → take id clips ≡ map (entries version table) (range_with_len 0 id)
    → list_any (lacks_number g fs) (map (entries version table) (range_with_len 0 id)) ≡ false
    → (clips ≡ table_clips version table) × (list_any (lacks_number g fs) (table_clips version table) ≡ false)
clips-all g version fs table clips id last size are good = (
  sym (take_all id clips (omega (arith, last, size))) ∙ are
      ∙ ap (λ (n : ℕ). map (entries version table) (range_with_len 0 n)) last,
  ap (λ (n : ℕ). list_any (lacks_number g fs) (map (entries version table) (range_with_len 0 n))) (sym last)
      ∙ good,
)

-- ---- the whole

pub reading-no_geometry : (image : List ℕ) (f : LayoutFault) → (let r : Result Geometry LayoutFault = Err f in r) ≡ geometry_in image → reading image ≡ Err f
reading-no_geometry image f e = ap (contents image) (sym e)

pub reading-other_size : (g : Geometry) (image : List ℕ)
    → (let r : Result Geometry LayoutFault = Ok g in r) ≡ geometry_in image → (length image ≡ disk_size g → ⊥)
    → reading image ≡ Err (Damaged DiskSize)
reading-other_size g image e other =
    let sized : eqb (length image) (disk_size g) ≡ false = differ_test (length image) (disk_size g) other in
    ap (contents image) (sym e) ∙ (λ i. cond (sized i) (with_geometry g (shown_by g (parts_of g image))) (Err (Damaged DiskSize)))

-- found segments aren't too high
pub AreIn-low : (g : Geometry) (image : List ℕ) (fs : List Found) → AreIn g fs
    → list_any (is_high g) (segments_of g image fs) ≡ false
AreIn-low g image [] h = refl
AreIn-low g image (f ∷ fs) h =
    let rest = AreIn-low g image fs h.1 in
    λ i. h.0.low i || rest i

picked : {X : Type 0} (t : Bool) (x y : X) → t ≡ true → cond t x y ≡ x
picked t x y e = ap (λ (s : Bool). cond s x y) e

passed : {X : Type 0} (t : Bool) (x y : X) → t ≡ false → cond t x y ≡ y
passed t x y e = ap (λ (s : Bool). cond s x y) e

-- the image has this geometry and its size, and these are its open segments
pub record IsRead (g : Geometry) (image : List ℕ) (ss : List Segment) : Type 0 where
  pub geometry : geometry_in image ≡ Ok g
  pub size : length image ≡ disk_size g
  pub are : ss ≡ by_block (open_segments (parts_of g image).segments)

abbrev pub clips_in : List ℕ → List (Option Span)
clips_in image = map (clip_in image) (range_with_len 0 64)

reading-is : (g : Geometry) (image : List ℕ) (ss : List Segment) → IsRead g image ss → reading image ≡ with_geometry g
    (recording_or_damage g ss (clips_in image))
reading-is g image ss r =
    let sized : eqb (length image) (disk_size g) ≡ true = equal_test (length image) (disk_size g) r.size in
    ap (contents image) r.geometry
    ∙ (λ i. cond (sized i) (with_geometry g (shown_by g (parts_of g image))) (Err (Damaged DiskSize)))
    ∙ ap (λ (xs : List Segment). with_geometry g (recording_or_damage g xs (clips_in image))) (sym r.are)

pub reading-high : (g : Geometry) (image : List ℕ) → geometry_in image ≡ Ok g → length image ≡ disk_size g
    → list_any (is_high g) (by_block (open_segments (parts_of g image).segments)) ≡ true
    → reading image ≡ Err (Damaged BlockTooHigh)
reading-high g image e size high = reading-is g image (by_block (open_segments (parts_of g image).segments))
    (record { geometry = e; size = size; are = refl })
    ∙ ap (with_geometry g) (picked (list_any (is_high g) (by_block (open_segments (parts_of g image).segments))) _ _
    high)

pub reading-repeats : (g : Geometry) (image : List ℕ) (ss : List Segment) → IsRead g image ss
    → list_any (is_high g) ss ≡ false → repeats ss ≡ true → reading image ≡ Err (Damaged RepeatedBlock)
reading-repeats g image ss r low twice = reading-is g image ss r
    ∙ ap (with_geometry g) (passed (list_any (is_high g) ss) _ _ low ∙ picked (repeats ss) _ _ twice)

pub reading-lacks : (g : Geometry) (image : List ℕ) (ss : List Segment) → IsRead g image ss
    → list_any (is_high g) ss ≡ false → repeats ss ≡ false → lacks_frame g ss ≡ true
    → reading image ≡ Err (Damaged ClosedGate)
reading-lacks g image ss r low single lacks = reading-is g image ss r
    ∙ ap (with_geometry g) (passed (list_any (is_high g) ss) _ _ low ∙ passed (repeats ss) _ _ single
    ∙ picked (lacks_frame g ss) _ _ lacks)

pub reading-bad_slot : (g : Geometry) (image : List ℕ) (ss : List Segment) → IsRead g image ss
    → list_any (is_high g) ss ≡ false → repeats ss ≡ false → lacks_frame g ss ≡ false
    → list_any (is_bad_slot g) ss ≡ true → reading image ≡ Err (Damaged SlotHead)
reading-bad_slot g image ss r low single full bad =
    reading-is g image ss r ∙ ap (with_geometry g) (passed (list_any (is_high g) ss) _ _ low
    ∙ passed (repeats ss) _ _ single ∙ passed (lacks_frame g ss) _ _ full
    ∙ picked (list_any (is_bad_slot g) ss) _ _ bad)

-- nothing is wrong with the segments
pub record IsSoundSo (g : Geometry) (image : List ℕ) (ss : List Segment) : Type 0 where
  pub read : IsRead g image ss
  pub low : list_any (is_high g) ss ≡ false
  pub single : repeats ss ≡ false
  pub full : lacks_frame g ss ≡ false
  pub right : list_any (is_bad_slot g) ss ≡ false

segments-sound : (g : Geometry) (image : List ℕ) (ss : List Segment) → IsSoundSo g image ss
    → reading image ≡ with_geometry g (cond (has_bad_clip (recording_of g ss (clips_in image))) (Err ClipRange)
    (Ok (recording_of g ss (clips_in image))))
segments-sound g image ss s =
    reading-is g image ss s.read ∙ ap (with_geometry g) (passed (list_any (is_high g) ss) _ _ s.low
    ∙ passed (repeats ss) _ _ s.single ∙ passed (lacks_frame g ss) _ _ s.full
    ∙ passed (list_any (is_bad_slot g) ss) _ _ s.right)

pub reading-bad_clip : (g : Geometry) (image : List ℕ) (ss : List Segment) → IsSoundSo g image ss
    → some_bad (all_frames g ss) (clips_in image) ≡ true → reading image ≡ Err (Damaged ClipRange)
reading-bad_clip g image ss s bad = segments-sound g image ss s ∙ ap (with_geometry g) (picked (has_bad_clip (recording_of g ss (clips_in image))) _ _ bad)

pub reading-all : (g : Geometry) (image : List ℕ) (ss : List Segment) → IsSoundSo g image ss
    → some_bad (all_frames g ss) (clips_in image) ≡ false
    → reading image ≡ Ok (record { geometry = g; recording = recording_of g ss (clips_in image) })
reading-all g image ss s good = segments-sound g image ss s ∙ ap (with_geometry g) (passed (has_bad_clip (recording_of g ss (clips_in image))) _ _ good)

-- what was read of an image of this geometry
pub record IsFoundIn (g : Geometry) (image : List ℕ) (fs : List Found) : Type 0 where
  pub geometry : geometry_in image ≡ Ok g
  pub size : length image ≡ disk_size g
  pub are : segments_of g image fs ≡ by_block (open_segments (parts_of g image).segments)
  pub within : AreIn g fs

pub found-read : (g : Geometry) (image : List ℕ) (fs : List Found) → IsFoundIn g image fs
    → IsRead g image (segments_of g image fs)
found-read g image fs f = record { geometry = f.geometry; size = f.size; are = f.are }

pub found-low : (g : Geometry) (image : List ℕ) (fs : List Found) → IsFoundIn g image fs
    → list_any (is_high g) (segments_of g image fs) ≡ false
found-low g image fs f = AreIn-low g image fs f.within

pub read-repeats : (g : Geometry) (image : List ℕ) (fs : List Found) (r : Bool) → IsFoundIn g image fs
    → r ≡ repeats (segments_of g image fs) → r ≡ true → reading image ≡ Err (Damaged RepeatedBlock)
read-repeats g image fs r f is e = reading-repeats g image (segments_of g image fs) (found-read g image fs f) (found-low g image fs f) (sym is ∙ e)

pub read-lacks : (g : Geometry) (image : List ℕ) (fs : List Found) (r s : Bool) → IsFoundIn g image fs
    → r ≡ repeats (segments_of g image fs) → r ≡ false → s ≡ lacks_frame g (segments_of g image fs) → s ≡ true
    → reading image ≡ Err (Damaged ClosedGate)
read-lacks g image fs r s f is e lacks e' = reading-lacks g image (segments_of g image fs)
    (found-read g image fs f) (found-low g image fs f) (sym is ∙ e) (sym lacks ∙ e')

-- the segments of the image have no repeated block and lack no frame
pub record AreFull (g : Geometry) (image : List ℕ) (fs : List Found) : Type 0 where
  pub found : IsFoundIn g image fs
  pub single : repeats (segments_of g image fs) ≡ false
  pub full : lacks_frame g (segments_of g image fs) ≡ false

abbrev pub fault_is : LayoutFault → Result Contents LayoutFault
fault_is f = Err f

whole-so : (g : Geometry) (image : List ℕ) (fs : List Found) → AreFull g image fs
    → list_any (is_bad_slot g) (segments_of g image fs) ≡ false → IsSoundSo g image (segments_of g image fs)
whole-so g image fs a right =
    record {
      read = found-read g image fs a.found;
      low = found-low g image fs a.found;
      single = a.single;
      full =
          a.full;
      right = right;
    }

pub read-bad_clip : (g : Geometry) (image : List ℕ) (fs : List Found) (frames : List (ℕ × Picture)) (d : Damage)
    → AreFull g image fs → list_any (is_bad_slot g) (segments_of g image fs) ≡ false
    → frames ≡ all_frames g (segments_of g image fs)
    → d ≡ ClipRange → some_bad frames (clips_in image) ≡ true → reading image ≡ Err (Damaged d)
read-bad_clip g image fs frames d a right are is bad =
    reading-bad_clip g image (segments_of g image fs) (whole-so g image fs a right)
    (sym (ap (λ (q : List (ℕ × Picture)). some_bad q (clips_in image)) are) ∙ bad)
    ∙ ap (λ (x : Damage). fault_of x) (sym is)
  where
    fault_of : Damage → Result Contents LayoutFault
    fault_of x = Err (Damaged x)

pub read-all : (g : Geometry) (image : List ℕ) (fs : List Found) (next : ℕ) (frames : List (ℕ × Picture))
    (clips : List (Option Span)) → AreFull g image fs → list_any (is_bad_slot g) (segments_of g image fs) ≡ false
    → frames ≡ all_frames g (segments_of g image fs)
    → next ≡ next_after g (segments_of g image fs) → clips ≡ clips_in image → some_bad frames (clips_in image) ≡ false
    → Holds g (record { next = next; frames = frames; clips = clips }) image
read-all g image fs next frames clips a right are after clips_are good =
    reading-all g image (segments_of g image fs) (whole-so g image fs a right)
    (sym (ap (λ (q : List (ℕ × Picture)). some_bad q (clips_in image)) are) ∙ good)
    ∙ (λ i. Ok (record { geometry = g; recording = record { next = sym after i; frames = sym are i; clips = sym clips_are i } }))

pub fault-of : {f h : LayoutFault} → f ≡ h → fault_is f ≡ fault_is h
fault-of e = ap fault_is e
