-- Which numbers the open segments hold, by their headers alone.
use Rattle.std.proofs.Common.{◌≡◌, ℕ, suc, ◌+◌, ◌-◌, ◌*◌, ◌/◌, ◌%◌, ◌<◌, ◌≤◌, Bool, true, false, not, ◌&&◌, cond, eqb, leb, ltb, is_some, Option, Some, None, Result, Ok, Err, List, [], ◌∷◌, ◌++◌, length, map, get_or, refl, sym, ap, ◌∙◌, arith}
use Rattle.std.proofs.Math.Nat.{mul-le-mul_right, add-mul, mod-lt}
use Rattle.std.proofs.lemmas.Nat.{div-add-mod'}
use Rattle.std.proofs.lemmas.List.{length-map}
use Rattle.std.proofs.lemmas.Bool.Decides.{nat_tests}
use Rattle.std.specs.Prelude.{◌||◌, slice_range}
use Rattle.std.specs.List.{list_any, list_all, range_with_len, enumerate_from}
use Rattle.loop_record.specs.declared.geometry.Geometry.{Geometry}
use Rattle.loop_record.specs.declared.image.Found.{Found}
use Rattle.loop_record.specs.Recording.{Picture, empty, frame_under}
use Rattle.loop_record.specs.Reading.{frames_of, is_bad_clip}
use Rattle.loop_record.specs.Plain.{segment_of, segments_of, found_number, lacks_number, held_clip, table_clips, AreIn}
use Rattle.loop_record.specs.Geometry.{clip_at}
use Rattle.loop_record.specs.Layout.{entry_at, clip_in, version_in, checked_clip}
use Rattle.loop_record.specs.declared.clip.Span.{Span}
use Rattle.loop_record.specs.declared.damage.Damage.{Damage}
use Rattle.loop_record.specs.declared.damage.Damage.TheVariants.{ClipRange}
use Rattle.loop_record.proofs.OwnBytes.{map_range, moved_entry}
use Rattle.loop_record.proofs.Fresh.{byte-slice}
use Rattle.loop_record.proofs.TestFacts.{equal, not_below, not_below_test}
use Rattle.loop_record.proofs.FoundSegments.{length-slots}
use Rattle.loop_record.proofs.Names.{all_frames}

under-both : (fs gs : List (ℕ × Picture)) (n : ℕ) → is_some (frame_under (fs ++ gs) n) ≡
    (is_some (frame_under fs n) || is_some (frame_under gs n))
under-both [] gs n = refl
under-both (f ∷ fs) gs n = go (eqb f.0 n) (under-both fs gs n)
  where
    go : (t : Bool) → is_some (frame_under (fs ++ gs) n) ≡ (is_some (frame_under fs n) || is_some (frame_under gs n))
        → is_some (cond t (Some f.1) (frame_under (fs ++ gs) n)) ≡ (is_some (cond t (Some f.1) (frame_under fs n)) || is_some (frame_under gs n))
    go true ih = refl
    go false ih = ih

-- numbers that follow one another are those of a range
under-enumerate : (n b : ℕ) (ps : List Picture) → is_some (frame_under (enumerate_from b ps) n) ≡
    (leb b n && ltb n (b + length ps))
under-enumerate n b [] = grind (arith, nat_tests)
under-enumerate n b (p ∷ ps) = go (eqb b n) refl (under-enumerate n (b + 1) ps)
  where
    go : (t : Bool) → eqb b n ≡ t → is_some (frame_under (enumerate_from (b + 1) ps) n) ≡
        (leb (b + 1) n && ltb n (b + 1 + length ps))
        → is_some (cond t (Some p) (frame_under (enumerate_from (b + 1) ps) n)) ≡ (leb b n && ltb n (b + suc (length ps)))
    go true e ih = grind (arith, nat_tests, e)
    go false e ih = ih ∙ grind (arith, nat_tests, e)

-- a block's numbers, by place and by division
by-division : (slots b n k : ℕ) → 1 ≤ slots → k ≤ slots → (leb (b * slots) n && ltb n (b * slots + k)) ≡
    (eqb b (n / slots) && ltb (n % slots) k)
by-division slots b n k some few = go (eqb b q) (ltb b q) refl refl
  where
    q : ℕ
    q = n / slots

    m : ℕ
    m = n % slots

    is : q * slots + m ≡ n
    is = div-add-mod' n slots

    rest : m < slots
    rest = mod-lt n (omega (arith, some))

    and_false : (s t : Bool) → t ≡ false → (s && t) ≡ false
    and_false true t e = e
    and_false false t e = refl

    go : (s t : Bool) → eqb b q ≡ s → ltb b q ≡ t → (leb (b * slots) n && ltb n (b * slots + k)) ≡ (eqb b q && ltb m k)
    go true t e f =
        let same : b * slots ≡ q * slots = ap (λ (x : ℕ). x * slots) (equal b q e) in
        grind (arith, nat_tests, e, same, is)
    go false true e f =
        let below : (b + 1) * slots ≤ q * slots = mul-le-mul_right slots (grind (arith, nat_tests, f)) in
        let split : (b + 1) * slots ≡ b * slots + slots = omega (arith, add-mul b 1 slots) in
        let high : b * slots + k ≤ n = omega (arith, below, split, few, is) in
        let fails : ltb n (b * slots + k) ≡ false = not_below_test n (b * slots + k) high in
        and_false (leb (b * slots) n) (ltb n (b * slots + k)) fails ∙ sym (λ i. e i && ltb m k)
    go false false e f =
        let above : q + 1 ≤ b = grind (arith, nat_tests, e, f) in
        let below : (q + 1) * slots ≤ b * slots = mul-le-mul_right slots above in
        let split : (q + 1) * slots ≡ q * slots + slots = omega (arith, add-mul q 1 slots) in
        let low : n < b * slots = omega (arith, below, split, rest, is) in
        let fails : leb (b * slots) n ≡ false = grind (arith, nat_tests, low) in
        (λ i. fails i && ltb n (b * slots + k)) ∙ sym (λ i. e i && ltb m k)

-- the frames of the segments have just the numbers that the headers say
pub held-number : (g : Geometry) (image : List ℕ) (fs : List Found) (n : ℕ) → 1 ≤ g.slots → AreIn g fs
    → is_some (frame_under (all_frames g (segments_of g image fs)) n) ≡ list_any (found_number g n) fs
held-number g image [] n some h = refl
held-number g image (f ∷ fs) n some h =
    let pictures = map (λ t. t.picture) (segment_of g image f).slots in
    let size : length pictures ≡ f.frames = length-map (segment_of g image f).slots (λ t. t.picture) ∙ length-slots g image f in
    let here : is_some (frame_under (frames_of g (segment_of g image f)) n) ≡ found_number g n f =
    under-enumerate n (f.block * g.slots) pictures
    ∙ ap (λ (k : ℕ). leb (f.block * g.slots) n && ltb n (f.block * g.slots + k)) size
    ∙ by-division g.slots f.block n f.frames some h.0.few in
    let rest = held-number g image fs n some h.1 in
    under-both (frames_of g (segment_of g image f)) (all_frames g (segments_of g image fs)) n ∙ (λ i. here i || rest i)

-- the same for each number of a range
pub held-all : (g : Geometry) (image : List ℕ) (fs : List Found) (from count : ℕ) → 1 ≤ g.slots → AreIn g fs
    → list_all (λ n. is_some (frame_under (all_frames g (segments_of g image fs)) n))
    (range_with_len from count) ≡ list_all (λ n. list_any (found_number g n) fs) (range_with_len from count)
held-all g image fs from count some h = λ i. list_all (λ n. held-number g image fs n some h i) (range_with_len from count)

-- the entry of an id, in the clip table of an image
entry-within : (version : ℕ) (image : List ℕ) (id : ℕ) → id < 64 → entry_at version (slice_range image 512 2560)
    (id * 32) ≡ entry_at version image (clip_at id)
entry-within version image id l = moved_entry version (id * 32) (clip_at id) (slice_range image 512 2560) image (λ k u.
    let place : 512 + (id * 32 + k) ≡ clip_at id + k = omega arith in
    sym (byte-slice 512 2048 (id * 32 + k) image (omega (arith, l, u))) ∙ ap (λ (x : ℕ). get_or image x 0) place)

-- the same for each number of a clip
pub lacks-bad : (g : Geometry) (image : List ℕ) (fs : List Found) (c : Option Span) → 1 ≤ g.slots → AreIn g fs
    → is_bad_clip (record empty { frames = all_frames g (segments_of g image fs) }) c ≡ lacks_number g fs c
lacks-bad g image fs None some h = refl
lacks-bad g image fs (Some s) some h =
    let all = held-all g image fs s.from (s.to + 1 - s.from) some h in
    λ i. ltb s.to s.from || not (all i)

-- the clips of an image are those of its clip table, and some is bad where the table has one that lacks a number
pub clips-table : (image : List ℕ) → table_clips (version_in image) (slice_range image 512 2560) ≡ map (clip_in image)
    (range_with_len 0 64)
clips-table image = map_range (λ id. entry_at (version_in image) (slice_range image 512 2560) (id * 32))
    (clip_in image) 0 64 (λ id low high. entry-within (version_in image) image id (omega (arith, high)))

pub bad-lacks : (g : Geometry) (image : List ℕ) (fs : List Found) (t : Bool) → 1 ≤ g.slots → AreIn g fs
    → list_any (lacks_number g fs) (table_clips (version_in image) (slice_range image 512 2560)) ≡ t
    → list_any (is_bad_clip (record empty { frames = all_frames g (segments_of g image fs) })) (map (clip_in image) (range_with_len 0 64)) ≡ t
bad-lacks g image fs t some h e =
    (λ i. list_any (λ c. lacks-bad g image fs c some h i) (map (clip_in image) (range_with_len 0 64)))
    ∙ sym (ap (list_any (lacks_number g fs)) (clips-table image)) ∙ e

-- a clip that was decoded has a number
pub clip-order : (e : Option Span) (s : Span) → (let r : Result (Option Span) Damage = Ok (Some s) in r) ≡ checked_clip e → s.from ≤ s.to
clip-order None s is = absurd cc
clip-order (Some x) s is = go (ltb x.to x.from) refl is
  where
    ok : Span → Result (Option Span) Damage
    ok y = Ok (Some y)

    same : ok s ≡ ok x → s ≡ x
    same e = cc

    go : (t : Bool) → ltb x.to x.from ≡ t → ok s ≡ cond t (Err ClipRange) (ok x) → s.from ≤ s.to
    go true low is = absurd cc
    go false low is = omega (arith, ap (λ (y : Span). y.from) (same is), ap (λ (y : Span). y.to) (same is), not_below x.to x.from low)

-- an empty clip lacks a number
pub clip-empty : (g : Geometry) (fs : List Found) (e : Option Span) (d : Damage)
    → (let r : Result (Option Span) Damage = Err d in r) ≡ checked_clip e
    → (let r : Result (Option Span) Damage = Err d in r) ≡ held_clip g fs e
clip-empty g fs None d is = absurd cc
clip-empty g fs (Some x) d is = go (ltb x.to x.from) _ is
  where
    err : Damage → Result (Option Span) Damage
    err y = Err y

    go : (t u : Bool) → err d ≡ cond t (Err ClipRange) (Ok (Some x)) → err d ≡ cond (t || u) (Err ClipRange)
        (Ok (Some x))
    go true u is = is
    go false u is = absurd cc
