-- What the open segments show after one of them has changed.
use Rattle.std.proofs.Common.{◌≡◌, ℕ, ◌+◌, ◌*◌, ◌<◌, ◌≤◌, Bool, true, false, not, cond, eqb, ltb, Option, Result, Ok, Err, List, [], ◌∷◌, ◌++◌, length, map, refl, sym, ap, ◌∙◌, arith, append_assoc}
use Rattle.std.proofs.Math.Nat.{mul-le-mul_right, add-mul}
use Rattle.std.proofs.lemmas.Bool.Decides.{nat_tests}
use Rattle.std.proofs.lemmas.List.{append-nil}
use Rattle.std.specs.Prelude.{◌||◌}
use Rattle.std.specs.List.{list_any}
use Rattle.loop_record.specs.declared.damage.Damage.{Damage}
use Rattle.loop_record.specs.declared.damage.Damage.TheVariants.{RepeatedBlock, ClosedGate, SlotHead, BlockTooHigh, ClipRange}
use Rattle.loop_record.specs.declared.clip.Span.{Span}
use Rattle.loop_record.specs.declared.geometry.Geometry.{Geometry}
use Rattle.loop_record.specs.Geometry.{frame_bytes}
use Rattle.loop_record.specs.Recording.{Recording, Ring, store, plain}
use Rattle.loop_record.specs.Layout.{Slot, Segment}
use Rattle.loop_record.specs.Reading.{frames_of, next_after, lacks_frame, repeats, is_bad_slot, recording_of, recording_or_damage, empty_segment}
use Rattle.loop_record.specs.Parts.{is_high}
use Rattle.loop_record.proofs.Growth.{AllBelow, grown, checked-grown}
use Rattle.loop_record.proofs.Segments.{AllAbove, has_block, any_move, repeats_move}
use Rattle.loop_record.proofs.TestFacts.{neither}
use Rattle.loop_record.proofs.Names.{all_frames, hold_from, has_bad_clip}

-- ---- no damage

-- there is no damage, and the recording is this one
pub record Shown (g : Geometry) (ss : List Segment) (clips : List (Option Span)) (r : Recording) : Type 0 where
  pub low_enough : list_any (is_high g) ss ≡ false
  pub single : repeats ss ≡ false
  pub full : lacks_frame g ss ≡ false
  pub right : list_any (is_bad_slot g) ss ≡ false
  pub held : has_bad_clip (recording_of g ss clips) ≡ false
  pub is : recording_of g ss clips ≡ r

passed : {X : Type 0} (b : Bool) (d : Damage) (x : Result X Damage) (y : X) → cond b (Err d) x ≡ Ok y → (b ≡ false)
    × (x ≡ Ok y)
passed true d x y e = absurd cc
passed false d x y e = (refl, e)

abbrev ok : {X : Type 0} → X → Result X Damage
ok x = Ok x

done : {X : Type 0} (x y : X) → ok x ≡ ok y → x ≡ y
done x y e = cc

pub shown_of : (g : Geometry) (ss : List Segment) (clips : List (Option Span)) (r : Recording)
    → recording_or_damage g ss clips ≡ Ok r → Shown g ss clips r
shown_of g ss clips r e =
    let p1 = passed (list_any (is_high g) ss) BlockTooHigh _ r e in
    let p2 = passed (repeats ss) RepeatedBlock _ r p1.1 in
    let p3 = passed (lacks_frame g ss) ClosedGate _ r p2.1 in
    let p4 = passed (list_any (is_bad_slot g) ss) SlotHead _ r p3.1 in
    let p5 = passed (has_bad_clip (recording_of g ss clips)) ClipRange _ r p4.1 in
    record { low_enough = p1.0; single = p2.0; full = p3.0; right = p4.0; held = p5.0; is = done (recording_of g ss clips) r p5.1 }

pub of_shown : (g : Geometry) (ss : List Segment) (clips : List (Option Span)) (r : Recording) → Shown g ss clips r
    → recording_or_damage g ss clips ≡ Ok r
of_shown g ss clips r s =
    (λ i. cond (s.low_enough i) (Err BlockTooHigh)
    (cond (s.single i) (Err RepeatedBlock)
    (cond (s.full i) (Err ClosedGate)
    (cond (s.right i) (Err SlotHead) (cond (s.held i) (Err ClipRange) (ok (s.is i)))))))

-- ---- the next number

pub next_after-behind : (g : Geometry) (xs : List Segment) (s : Segment) (ss : List Segment)
    → next_after g (xs ++ s ∷ ss) ≡ next_after g (s ∷ ss)
next_after-behind g [] s ss = refl
next_after-behind g (x ∷ []) s ss = refl
next_after-behind g (x ∷ y ∷ xs) s ss = next_after-behind g (y ∷ xs) s ss

next_after-above : (g : Geometry) (b : ℕ) (s : Segment) (ss : List Segment) → AllAbove b (s ∷ ss)
    → (b + 1) * g.slots ≤ next_after g (s ∷ ss)
next_after-above g b s [] h =
    let le : (b + 1) * g.slots ≤ s.block * g.slots = mul-le-mul_right g.slots (omega (arith, h.0)) in
    omega (arith, le)
next_after-above g b s (t ∷ ss) h = next_after-above g b t ss h.1

-- ---- commit: the segment of the next number gains slots

grown-last : (ts : List Slot) (ss : List Segment) (u : Segment) → grown ts (ss ++ u ∷ []) ≡ ss ++ record u { slots = u.slots ++ ts } ∷ []
grown-last ts [] u = refl
grown-last ts (s ∷ []) u = refl
grown-last ts (s ∷ t ∷ ss) u = ap (λ vs. s ∷ vs) (grown-last ts (t ∷ ss) u)

pub checked-commit : (ring : Ring) (g : Geometry) (ts : List Slot) (u : Segment) (lower higher : List Segment)
    (clips : List (Option Span)) (r : Recording)
    → AllAbove u.block higher → r.next < (u.block + 1) * g.slots → hold_from (frame_bytes g) r.next ts ≡ true
    → recording_or_damage g (lower ++ u ∷ higher) clips ≡ Ok r
    → recording_or_damage g (lower ++ record u { slots = u.slots ++ ts } ∷ higher) clips ≡ Ok (plain ring r (map store (map (λ t. t.picture) ts)))
checked-commit ring g ts u [] [] clips r above within hold e = checked-grown ring g ts u [] clips r e hold
checked-commit ring g ts u (s ∷ lower) [] clips r above within hold e =
    sym (ap (λ vs. recording_or_damage g vs clips) (grown-last ts (s ∷ lower) u)) ∙ checked-grown ring g ts s (lower ++ u ∷ []) clips r e hold
checked-commit ring g ts u lower (h ∷ hs) clips r above within hold e =
    let is = (shown_of g (lower ++ u ∷ h ∷ hs) clips r e).is in
    let next : r.next ≡ next_after g (h ∷ hs) = sym (ap (λ (q : Recording). q.next) is) ∙ next_after-behind g lower u (h ∷ hs) in
    absurd (omega (arith, next, within, next_after-above g u.block h hs above))

-- where the next number comes in it
pub newest-next : (g : Geometry) (u : Segment) (lower higher : List Segment) (clips : List (Option Span))
    (r : Recording)
    → AllAbove u.block higher → r.next < (u.block + 1) * g.slots
    → recording_or_damage g (lower ++ u ∷ higher) clips ≡ Ok r → r.next ≡ u.block * g.slots + length u.slots
newest-next g u lower [] clips r above within e =
    sym (ap (λ (q : Recording). q.next) (shown_of g (lower ++ u ∷ []) clips r e).is) ∙ next_after-behind g lower u []
newest-next g u lower (h ∷ hs) clips r above within e =
    let is = (shown_of g (lower ++ u ∷ h ∷ hs) clips r e).is in
    let next : r.next ≡ next_after g (h ∷ hs) = sym (ap (λ (q : Recording). q.next) is) ∙ next_after-behind g lower u (h ∷ hs) in
    absurd (omega (arith, next, within, next_after-above g u.block h hs above))

-- ---- begin: an empty segment of the next number's block

abbrev pub is_overfull : Geometry → Segment → Bool
is_overfull g s = ltb g.slots (length s.slots)

has_block-below : (b : ℕ) (ss : List Segment) → AllBelow b ss → has_block b ss ≡ false
has_block-below b [] h = refl
has_block-below b (s ∷ ss) h =
    let first : eqb s.block b ≡ false = grind (arith, nat_tests, h.0) in
    let rest = has_block-below b ss h.1 in
    λ i. first i || rest i

pub all_frames-append : (g : Geometry) (xs ys : List Segment) → all_frames g (xs ++ ys) ≡ all_frames g xs
    ++ all_frames g ys
all_frames-append g [] ys = refl
all_frames-append g (x ∷ xs) ys = ap (λ fs. frames_of g x ++ fs) (all_frames-append g xs ys)
    ∙ sym (append_assoc (frames_of g x) (all_frames g xs) (all_frames g ys))

full_last : (g : Geometry) (b : ℕ) (s : Segment) → s.block < b → ltb g.slots (length s.slots) ≡ false
    → s.block * g.slots + length s.slots ≡ b * g.slots → eqb (length s.slots) g.slots ≡ true
full_last g b s below fits next =
    let le : (s.block + 1) * g.slots ≤ b * g.slots = mul-le-mul_right g.slots (omega (arith, below)) in
    let split : (s.block + 1) * g.slots ≡ s.block * g.slots + g.slots = omega (arith, add-mul s.block 1 g.slots) in
    let most : length s.slots ≤ g.slots = grind (arith, nat_tests, fits) in
    let is : length s.slots ≡ g.slots = omega (arith, le, split, most, next) in
    grind (arith, nat_tests, is)

lacks_frame-begun : (g : Geometry) (b : ℕ) (ss : List Segment) → AllBelow b ss → list_any (is_overfull g) ss ≡ false
    → next_after g ss ≡ b * g.slots → lacks_frame g ss ≡ false → lacks_frame g (ss ++ empty_segment b ∷ []) ≡ false
lacks_frame-begun g b [] below fits next full = refl
lacks_frame-begun g b (s ∷ []) below fits next full =
    let k = neither (is_overfull g s) false fits in
    let last = full_last g b s below.0 k.0 next in
    λ i. not (last i) || false
lacks_frame-begun g b (s ∷ t ∷ ss) below fits next full =
    let k = neither (is_overfull g s) (list_any (is_overfull g) (t ∷ ss)) fits in
    let f = neither (not (eqb (length s.slots) g.slots)) (lacks_frame g (t ∷ ss)) full in
    let rest = lacks_frame-begun g b (t ∷ ss) below.1 k.1 next f.1 in
    λ i. f.0 i || rest i

pub checked-begin : (g : Geometry) (b : ℕ) (lower higher : List Segment) (clips : List (Option Span)) (r : Recording)
    → 1 ≤ g.slots → AllBelow b lower → AllAbove b higher → list_any (is_overfull g) (lower ++ higher) ≡ false
    → r.next ≡ b * g.slots → is_high g (empty_segment b) ≡ false
    → recording_or_damage g (lower ++ higher) clips ≡ Ok r
    → recording_or_damage g (lower ++ empty_segment b ∷ higher) clips ≡ Ok r
checked-begin g b lower (h ∷ hs) clips r some below above fits next low e =
    let is = (shown_of g (lower ++ h ∷ hs) clips r e).is in
    let last : r.next ≡ next_after g (h ∷ hs) = sym (ap (λ (q : Recording). q.next) is) ∙ next_after-behind g lower h hs in
    let split : (b + 1) * g.slots ≡ b * g.slots + g.slots = omega (arith, add-mul b 1 g.slots) in
    absurd (omega (arith, some, next, last, split, next_after-above g b h hs above))
checked-begin g b lower [] clips r some below above fits next low e =
    let whole = append-nil lower in
    let old = shown_of g lower clips r (ap (λ vs. recording_or_damage g vs clips) (sym whole) ∙ e) in
    let fits' : list_any (is_overfull g) lower ≡ false = ap (list_any (is_overfull g)) (sym whole) ∙ fits in
    let next' : next_after g lower ≡ b * g.slots = ap (λ (q : Recording). q.next) old.is ∙ next in
    let apart = has_block-below b lower below in
    let same_next : next_after g (lower ++ empty_segment b ∷ []) ≡ next_after g lower = next_after-behind g lower (empty_segment b) [] ∙ omega (arith, next') in
    let same_frames : all_frames g (lower ++ empty_segment b ∷ []) ≡ all_frames g lower =
    all_frames-append g lower (empty_segment b ∷ []) ∙ append-nil (all_frames g lower) in
    let same : recording_of g (lower ++ empty_segment b ∷ []) clips ≡ recording_of g lower clips =
    λ i. record { next = same_next i; frames = same_frames i; clips = clips } in
    let high : list_any (is_high g) (lower ++ []) ≡ false = ap (list_any (is_high g)) whole ∙ old.low_enough in
    let bad : list_any (is_bad_slot g) (lower ++ []) ≡ false = ap (list_any (is_bad_slot g)) whole ∙ old.right in
    let apart' : has_block b (lower ++ []) ≡ false = ap (has_block b) whole ∙ apart in
    let single' : repeats (lower ++ []) ≡ false = ap repeats whole ∙ old.single in
    of_shown g (lower ++ empty_segment b ∷ []) clips r (record {
      low_enough = any_move (is_high g) (empty_segment b) lower [] ∙ (λ i. low i || high i);
      single = repeats_move (empty_segment b) lower [] ∙ (λ i. apart' i || single' i);
      full = lacks_frame-begun g b lower below fits' next' old.full;
      right = any_move (is_bad_slot g) (empty_segment b) lower [] ∙ bad;
      held = ap has_bad_clip same ∙ old.held;
      is = same ∙ old.is;
    })
