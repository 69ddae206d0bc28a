-- What the open segments show without one whose block no clip meets.
use Rattle.std.proofs.Common.{◌≡◌, ◌⊎◌, inl, inr, ℕ, zero, suc, ◌+◌, ◌-◌, ◌*◌, ◌/◌, ◌<◌, ◌≤◌, Bool, true, false, not, cond, ◌&&◌, eqb, ltb, leb, max, is_some, Option, Some, None, Ok, List, [], ◌∷◌, ◌++◌, length, take, map, refl, sym, ap, ◌∙◌, subst, arith}
use Rattle.std.proofs.Math.Nat.{add-mul, div-eq_of_lt-le, div-mul-le_self, le-div_iff_mul-le}
use Rattle.std.proofs.lemmas.Bool.{cases_lt}
use Rattle.std.proofs.lemmas.Bool.Decides.{nat_tests}
use Rattle.std.proofs.lemmas.List.{append-nil, length-map}
use Rattle.std.proofs.lemmas.List.Elements.{filter-append}
use Rattle.std.proofs.lemmas.List.Folds.{list_any-append}
use Rattle.std.specs.Prelude.{◌||◌}
use Rattle.std.specs.List.{list_any, list_all, filter, find, enumerate_from, range_with_len}
use Rattle.loop_record.specs.declared.clip.Span.{Span}
use Rattle.loop_record.specs.declared.geometry.Geometry.{Geometry}
use Rattle.loop_record.specs.Recording.{Picture, Recording, Ring, recycle, after_step, holds, holds_all, frame_under, block, meets, held_blocks, older_blocks, is_locked, victim}
use Rattle.loop_record.specs.Layout.{Segment}
use Rattle.loop_record.specs.Reading.{frames_of, next_after, lacks_frame, repeats, is_bad_slot, is_bad_clip, recording_of, recording_or_damage}
use Rattle.loop_record.specs.Parts.{is_high}
use Rattle.loop_record.proofs.Blocks.{blocks-made}
use Rattle.loop_record.proofs.Growth.{AllBelow}
use Rattle.loop_record.proofs.Segments.{AllAbove, has_block, any_move, repeats_move}
use Rattle.loop_record.proofs.Changes.{shown_of, of_shown, next_after-behind, all_frames-append, is_overfull}
use Rattle.loop_record.proofs.TestFacts.{neither, both, clash, differ, differ_test, not_false, or_false}
use Rattle.loop_record.proofs.Names.{all_frames, has_bad_clip, with_block, blocks_of}

-- ---- frames of one block

-- the frame has a number of block b
abbrev pub is_in : Ring → ℕ → ℕ × Picture → Bool
is_in ring b f = eqb (block ring f.0) b

enumerate_in : (ring : Ring) (b n : ℕ) (ps : List Picture) → b * ring.slots ≤ n → n + length ps ≤ (b + 1) * ring.slots
    → list_all (is_in ring b) (enumerate_from n ps) ≡ true
enumerate_in ring b n [] low high = refl
enumerate_in ring b n (p ∷ ps) low high =
    let is : n / ring.slots ≡ b = div-eq_of_lt-le ring.slots low (omega (arith, high)) in
    let first : eqb (n / ring.slots) b ≡ true = grind (arith, nat_tests, is) in
    let rest = enumerate_in ring b (n + 1) ps (omega (arith, low)) (omega (arith, high)) in
    λ i. first i && rest i

pub frames_in : (ring : Ring) (g : Geometry) (s : Segment) → ring.slots ≡ g.slots → is_overfull g s ≡ false
    → list_all (is_in ring s.block) (frames_of g s) ≡ true
frames_in ring g s same fits =
    let most : length s.slots ≤ g.slots = grind (arith, nat_tests, fits) in
    let split : (s.block + 1) * ring.slots ≡ s.block * ring.slots + ring.slots = omega (arith, add-mul s.block 1 ring.slots) in
    let at : s.block * ring.slots ≡ s.block * g.slots = ap (λ (k : ℕ). s.block * k) same in
    enumerate_in ring s.block (s.block * g.slots) (map (λ t. t.picture) s.slots) (omega (arith, at))
    (omega (arith, at, split, same, most, length-map s.slots (λ t. t.picture)))

others_out : (ring : Ring) (b c : ℕ) (fs : List (ℕ × Picture)) → (b ≡ c → ⊥) → list_all (is_in ring b) fs ≡ true
    → list_any (is_in ring c) fs ≡ false
others_out ring b c [] apart all = refl
others_out ring b c (f ∷ fs) apart all =
    let k = both (is_in ring b f) (list_all (is_in ring b) fs) all in
    let is : block ring f.0 ≡ b = equal (block ring f.0) b k.0 in
    let first : is_in ring c f ≡ false = differ_test (block ring f.0) c (λ e. apart (sym is ∙ e)) in
    let rest = others_out ring b c fs apart k.1 in
    λ i. first i || rest i
  where
    equal : (m n : ℕ) → eqb m n ≡ true → m ≡ n
    equal m n e = grind (arith, nat_tests, e)

    differ_test : (m n : ℕ) → (m ≡ n → ⊥) → eqb m n ≡ false
    differ_test m n ne = pick (eqb m n) refl
      where
        pick : (t : Bool) → eqb m n ≡ t → eqb m n ≡ false
        pick true e = absurd (ne (grind (arith, nat_tests, e)))
        pick false e = e

any_append : {X : Type 0} (p : X → Bool) (xs ys : List X) → list_any p xs ≡ false → list_any p ys ≡ false
    → list_any p (xs ++ ys) ≡ false
any_append p [] ys e f = f
any_append p (x ∷ xs) ys e f =
    let k = neither (p x) (list_any p xs) e in
    or_false (p x) (list_any p (xs ++ ys)) k.0 (any_append p xs ys k.1 f)

below_out : (ring : Ring) (g : Geometry) (b : ℕ) (ss : List Segment) → ring.slots ≡ g.slots → AllBelow b ss
    → list_any (is_overfull g) ss ≡ false → list_any (is_in ring b) (all_frames g ss) ≡ false
below_out ring g b [] same below fits = refl
below_out ring g b (s ∷ ss) same below fits =
    let k = neither (is_overfull g s) (list_any (is_overfull g) ss) fits in
    any_append (is_in ring b) (frames_of g s) (all_frames g ss)
    (others_out ring s.block b (frames_of g s) (λ e. absurd (omega (arith, e, below.0)))
    (frames_in ring g s same k.0)) (below_out ring g b ss same below.1 k.1)

above_out : (ring : Ring) (g : Geometry) (b : ℕ) (ss : List Segment) → ring.slots ≡ g.slots → AllAbove b ss
    → list_any (is_overfull g) ss ≡ false → list_any (is_in ring b) (all_frames g ss) ≡ false
above_out ring g b [] same above fits = refl
above_out ring g b (s ∷ ss) same above fits =
    let k = neither (is_overfull g s) (list_any (is_overfull g) ss) fits in
    any_append (is_in ring b) (frames_of g s) (all_frames g ss)
    (others_out ring s.block b (frames_of g s) (λ e. absurd (omega (arith, e, above.0)))
    (frames_in ring g s same k.0)) (above_out ring g b ss same above.1 k.1)

keeps_all : {X : Type 0} (p : X → Bool) (xs : List X) → list_any p xs ≡ false → filter (λ x. not (p x)) xs ≡ xs
keeps_all p [] e = refl
keeps_all p (x ∷ xs) e =
    let k = neither (p x) (list_any p xs) e in
    let rest = keeps_all p xs k.1 in
    λ i. cond (not (k.0 i)) (x ∷ rest i) (rest i)

keeps_none : {X : Type 0} (p : X → Bool) (xs : List X) → list_all p xs ≡ true → filter (λ x. not (p x)) xs ≡ []
keeps_none p [] e = refl
keeps_none p (x ∷ xs) e =
    let k = both (p x) (list_all p xs) e in
    let rest = keeps_none p xs k.1 in
    λ i. cond (not (k.0 i)) (x ∷ rest i) (rest i)

-- ---- the victim isn't the newest

-- b isn't in the list, except as the last
abbrev LastOnly : ℕ → List ℕ → Type 0
LastOnly b [] = Unit {0}
LastOnly b (x ∷ []) = Unit {0}
LastOnly b (x ∷ y ∷ xs) = (x ≡ b → ⊥) × LastOnly b (y ∷ xs)

one_block : (ring : Ring) (b : ℕ) (fs : List (ℕ × Picture)) → list_all (is_in ring b) fs ≡ true
    → (blocks_of ring fs ≡ []) ⊎ (blocks_of ring fs ≡ b ∷ [])
one_block ring b [] all = inl refl
one_block ring b (f ∷ fs) all =
    let k = both (is_in ring b f) (list_all (is_in ring b) fs) all in
    inr (go (block ring f.0) (equal (block ring f.0) b k.0) (blocks_of ring fs) (one_block ring b fs k.1))
  where
    equal : (m n : ℕ) → eqb m n ≡ true → m ≡ n
    equal m n e = grind (arith, nat_tests, e)

    go : (c : ℕ) → c ≡ b → (bs : List ℕ) → (bs ≡ []) ⊎ (bs ≡ b ∷ []) → with_block c bs ≡ b ∷ []
    go c is bs (inl e) = ap (with_block c) e ∙ ap (λ (k : ℕ). k ∷ []) is
    go c is bs (inr e) =
        let same : eqb c b ≡ true = grind (arith, nat_tests, is) in
        ap (with_block c) e ∙ rw same refl

last_only_one : (b : ℕ) (bs : List ℕ) → (bs ≡ []) ⊎ (bs ≡ b ∷ []) → LastOnly b bs
last_only_one b bs (inl e) = subst (LastOnly b) (sym e) tt
last_only_one b bs (inr e) = subst (LastOnly b) (sym e) tt

last_only-with : (b c : ℕ) (bs : List ℕ) → (c ≡ b → ⊥) → LastOnly b bs → LastOnly b (with_block c bs)
last_only-with b c [] apart l = tt
last_only-with b c (x ∷ bs) apart l = go (eqb c x)
  where
    go : (t : Bool) → LastOnly b (cond t (x ∷ bs) (c ∷ x ∷ bs))
    go true = l
    go false = (apart, l)

last_only-frames : (ring : Ring) (b : ℕ) (fs us : List (ℕ × Picture)) → list_any (is_in ring b) fs ≡ false
    → list_all (is_in ring b) us ≡ true → LastOnly b (blocks_of ring (fs ++ us))
last_only-frames ring b [] us none all = last_only_one b (blocks_of ring us) (one_block ring b us all)
last_only-frames ring b (f ∷ fs) us none all =
    let k = neither (is_in ring b f) (list_any (is_in ring b) fs) none in
    last_only-with b (block ring f.0) (blocks_of ring (fs ++ us)) (differ (block ring f.0) b k.0) (last_only-frames ring b fs us k.1 all)

last_only-front : (k b : ℕ) (bs : List ℕ) → 1 ≤ k → LastOnly b bs
    → list_any (λ c. eqb c b) (take (length bs - k) bs) ≡ false
last_only-front k b [] some l =
    let none : 0 - k ≡ 0 = omega arith in ap (λ (n : ℕ). list_any (λ c. eqb c b) (take n [])) none
last_only-front k b (x ∷ []) some l =
    let none : suc 0 - k ≡ 0 = omega (arith, some) in ap (λ (n : ℕ). list_any (λ c. eqb c b) (take n (x ∷ []))) none
last_only-front k b (x ∷ y ∷ bs) some l = go (cases_lt (length (y ∷ bs)) k) (last_only-front k b (y ∷ bs) some l.1)
  where
    go : (length (y ∷ bs) < k) ⊎ (k ≤ length (y ∷ bs))
        → list_any (λ c. eqb c b) (take (length (y ∷ bs) - k) (y ∷ bs)) ≡ false
        → list_any (λ c. eqb c b) (take (length (x ∷ y ∷ bs) - k) (x ∷ y ∷ bs)) ≡ false
    go (inl past) rest =
        let none : suc (suc (length bs)) - k ≡ 0 = omega (arith, past) in
        ap (λ (n : ℕ). list_any (λ c. eqb c b) (take n (x ∷ y ∷ bs))) none
    go (inr more) rest =
        let some : suc (suc (length bs)) - k ≡ suc (suc (length bs) - k) = omega (arith, more) in
        ap (λ (n : ℕ). list_any (λ c. eqb c b) (take n (x ∷ y ∷ bs))) some
        ∙ or_false (eqb x b) (list_any (λ c. eqb c b) (take (suc (length bs) - k) (y ∷ bs)))
        (differ_test x b l.0) rest

pub found : (p : ℕ → Bool) (b : ℕ) (xs : List ℕ) → find p xs ≡ Some b → (list_any (λ c. eqb c b) xs ≡ true)
    × (p b ≡ true)
found p b [] e = absurd cc
found p b (x ∷ xs) e = go (p x) refl (found p b xs) e
  where
    go : (t : Bool) → p x ≡ t → (find p xs ≡ Some b → (list_any (λ c. eqb c b) xs ≡ true) × (p b ≡ true))
        → cond t (Some x) (find p xs) ≡ Some b → ((eqb x b || list_any (λ c. eqb c b) xs) ≡ true) × (p b ≡ true)
    go true passes rest h =
        let is : x ≡ b = cc in
        let same : eqb x b ≡ true = grind (arith, nat_tests, is) in
        (ap (λ t. t || list_any (λ c. eqb c b) xs) same, sym (ap p is) ∙ passes)
    go false passes rest h = let k = rest h in (or_true (eqb x b) (list_any (λ c. eqb c b) xs) k.0, k.1)
      where
        or_true : (a c : Bool) → c ≡ true → (a || c) ≡ true
        or_true true c e = refl
        or_true false c e = e

-- ---- clips

pub under-filter : (ring : Ring) (b n : ℕ) (fs : List (ℕ × Picture)) → eqb (block ring n) b ≡ false
    → frame_under (filter (λ f. not (eqb (block ring f.0) b)) fs) n ≡ frame_under fs n
under-filter ring b n [] out = refl
under-filter ring b n (f ∷ fs) out = go (eqb (block ring f.0) b) refl (under-filter ring b n fs out)
  where
    go : (t : Bool) → eqb (block ring f.0) b ≡ t → frame_under (filter (λ x. not (eqb (block ring x.0) b)) fs) n ≡
        frame_under fs n
        → frame_under (cond (not t) (f ∷ filter (λ x. not (eqb (block ring x.0) b)) fs)
        (filter (λ x. not (eqb (block ring x.0) b)) fs)) n ≡ cond (eqb f.0 n) (Some f.1) (frame_under fs n)
    go false is ih = ap (λ o. cond (eqb f.0 n) (Some f.1) o) ih
    go true is ih =
        let other : eqb f.0 n ≡ false = differ_test f.0 n (λ e. differ (block ring n) b out (sym (ap (block ring) e) ∙ equal (block ring f.0) b is)) in
        ih ∙ ap (λ t. cond t (Some f.1) (frame_under fs n)) (sym other)
      where
        equal : (m k : ℕ) → eqb m k ≡ true → m ≡ k
        equal m k e = grind (arith, nat_tests, e)

still_all : (p q : ℕ → Bool) (lo len : ℕ) → ((n : ℕ) → lo ≤ n → n < lo + len → p n ≡ true → q n ≡ true)
    → list_all p (range_with_len lo len) ≡ true → list_all q (range_with_len lo len) ≡ true
still_all p q lo zero h e = refl
still_all p q lo (suc len) h e =
    let k = both (p lo) (list_all p (range_with_len (lo + 1) len)) e in
    let first = h lo (omega arith) (omega arith) k.0 in
    let rest = still_all p q (lo + 1) len (λ n l u. h n (omega (arith, l)) (omega (arith, u))) k.1 in
    λ i. first i && rest i

pub outside_clip : (ring : Ring) (b n : ℕ) (s : Span) → 1 ≤ ring.slots → meets ring b (Some s) ≡ false → s.from ≤ n
    → n ≤ s.to → eqb (block ring n) b ≡ false
outside_clip ring b n s some free low high = differ_test (block ring n) b (λ is. clash (meets ring b (Some s)) (is_met is) free)
  where
    clash : (t : Bool) → t ≡ true → t ≡ false → ⊥
    clash true e f = absurd cc
    clash false e f = absurd cc

    is_met : n / ring.slots ≡ b → meets ring b (Some s) ≡ true
    is_met is =
        let here = div-mul-le_self n ring.slots in
        let first = div-mul-le_self s.from ring.slots in
        let a : leb s.from s.to ≡ true = grind (arith, nat_tests, low, high) in
        let from_le : s.from / ring.slots ≤ n / ring.slots = (le-div_iff_mul-le some).1 (omega (arith, first, low)) in
        let to_le : n / ring.slots ≤ s.to / ring.slots = (le-div_iff_mul-le some).1 (omega (arith, here, high)) in
        let c : leb (s.from / ring.slots) b ≡ true = grind (arith, nat_tests, from_le, is) in
        let d : leb b (s.to / ring.slots) ≡ true = grind (arith, nat_tests, to_le, is) in
        λ i. a i && c i && d i

clip_kept : (ring : Ring) (r : Recording) (b : ℕ) (c : Option Span) → 1 ≤ ring.slots → meets ring b c ≡ false
    → is_bad_clip r c ≡ false → is_bad_clip (after_step ring r (recycle b)) c ≡ false
clip_kept ring r b None some free e = refl
clip_kept ring r b (Some s) some free e =
    let k = neither (ltb s.to s.from) (not (holds_all r s)) e in
    let held : holds_all r s ≡ true = not_false (holds_all r s) k.1 in
    let order : s.from ≤ s.to = grind (arith, nat_tests, k.0) in
    let still = still_all (holds r) (holds (after_step ring r (recycle b))) s.from (s.to + 1 - s.from) (λ n low high h.
    ap is_some (under-filter ring b n r.frames (outside_clip ring b n s some free low (omega (arith, order, high)))) ∙ h) held in
    λ i. k.0 i || not (still i)

clips_kept : (ring : Ring) (r : Recording) (b : ℕ) (cs : List (Option Span)) → 1 ≤ ring.slots
    → list_any (meets ring b) cs ≡ false → list_any (is_bad_clip r) cs ≡ false
    → list_any (is_bad_clip (after_step ring r (recycle b))) cs ≡ false
clips_kept ring r b [] some free e = refl
clips_kept ring r b (c ∷ cs) some free e =
    let f = neither (meets ring b c) (list_any (meets ring b) cs) free in
    let k = neither (is_bad_clip r c) (list_any (is_bad_clip r) cs) e in
    or_false (is_bad_clip (after_step ring r (recycle b)) c)
    (list_any (is_bad_clip (after_step ring r (recycle b))) cs) (clip_kept ring r b c some f.0 k.0)
    (clips_kept ring r b cs some f.1 k.1)

-- ---- the whole

lacks_frame-without : (g : Geometry) (xs : List Segment) (u y : Segment) (ys : List Segment)
    → lacks_frame g (xs ++ u ∷ y ∷ ys) ≡ false → lacks_frame g (xs ++ y ∷ ys) ≡ false
lacks_frame-without g [] u y ys e = (neither (not (eqb (length u.slots) g.slots)) (lacks_frame g (y ∷ ys)) e).1
lacks_frame-without g (x ∷ []) u y ys e =
    let k = neither (not (eqb (length x.slots) g.slots)) (lacks_frame g (u ∷ y ∷ ys)) e in
    or_false (not (eqb (length x.slots) g.slots)) (lacks_frame g (y ∷ ys)) k.0 (lacks_frame-without g [] u y ys k.1)
lacks_frame-without g (x ∷ z ∷ xs) u y ys e =
    let k = neither (not (eqb (length x.slots) g.slots)) (lacks_frame g (z ∷ xs ++ u ∷ y ∷ ys)) e in
    or_false (not (eqb (length x.slots) g.slots)) (lacks_frame g (z ∷ xs ++ y ∷ ys)) k.0 (lacks_frame-without g (z ∷ xs) u y ys k.1)

-- the open segments without the victim
pub checked-retire : (ring : Ring) (g : Geometry) (kept : ℕ) (u : Segment) (lower higher : List Segment)
    (clips : List (Option Span)) (r : Recording)
    → ring.slots ≡ g.slots → 1 ≤ g.slots → AllBelow u.block lower → AllAbove u.block higher → list_any (is_overfull g) (lower ++ u ∷ higher) ≡ false
    → victim ring kept r ≡ Some u.block
    → recording_or_damage g (lower ++ u ∷ higher) clips ≡ Ok r
    → recording_or_damage g (lower ++ higher) clips ≡ Ok (after_step ring r (recycle u.block))
checked-retire ring g kept u lower [] clips r same some below above fits chosen e =
    let b = u.block in
    let old = shown_of g (lower ++ u ∷ []) clips r e in
    let moved : list_any (is_overfull g) (lower ++ u ∷ []) ≡
    (is_overfull g u || list_any (is_overfull g) (lower ++ [])) = any_move (is_overfull g) u lower [] in
    let k = neither (is_overfull g u) (list_any (is_overfull g) (lower ++ [])) (sym moved ∙ fits) in
    let fits' : list_any (is_overfull g) lower ≡ false = sym (ap (list_any (is_overfull g)) (append-nil lower)) ∙ k.1 in
    let frames : r.frames ≡ all_frames g lower ++ frames_of g u =
    sym (ap (λ (q : Recording). q.frames) old.is) ∙ all_frames-append g lower (u ∷ []) ∙ ap (λ fs. all_frames g lower ++ fs) (append-nil (frames_of g u)) in
    let last = last_only-frames ring b (all_frames g lower) (frames_of g u) (below_out ring g b lower same below fits') (frames_in ring g u same k.0) in
    let held : LastOnly b (held_blocks ring r) =
    subst (LastOnly b) (sym (blocks-made ring r.frames)) (subst (λ fs. LastOnly b (blocks_of ring fs)) (sym frames) last) in
    let one = found (λ c. not (is_locked ring r c)) b (older_blocks ring kept r) chosen in
    absurd (clash (list_any (λ c. eqb c b) (older_blocks ring kept r)) one.0 (last_only-front (max 1 kept) b (held_blocks ring r) (omega arith) held))
checked-retire ring g kept u lower (h ∷ hs) clips r same some below above fits chosen e =
    let b = u.block in
    let higher = h ∷ hs in
    let old = shown_of g (lower ++ u ∷ higher) clips r e in
    let one = found (λ c. not (is_locked ring r c)) b (older_blocks ring kept r) chosen in
    let free : is_locked ring r b ≡ false = unnot_true (is_locked ring r b) one.1 in
    let clips_are : r.clips ≡ clips = sym (ap (λ (q : Recording). q.clips) old.is) in
    let unmet : list_any (meets ring b) clips ≡ false = sym (ap (list_any (meets ring b)) clips_are) ∙ free in
    let over = neither (is_overfull g u) (list_any (is_overfull g) (lower ++ higher)) (sym (any_move (is_overfull g) u lower higher) ∙ fits) in
    let sides = any_split (is_overfull g) lower higher over.1 in
    let low = neither (is_high g u) (list_any (is_high g) (lower ++ higher)) (sym (any_move (is_high g) u lower higher) ∙ old.low_enough) in
    let single = neither (has_block b (lower ++ higher)) (repeats (lower ++ higher)) (sym (repeats_move u lower higher) ∙ old.single) in
    let right = neither (is_bad_slot g u) (list_any (is_bad_slot g) (lower ++ higher)) (sym (any_move (is_bad_slot g) u lower higher) ∙ old.right) in
    let next : next_after g (lower ++ higher) ≡ next_after g (lower ++ u ∷ higher) = next_after-behind g lower h hs
    ∙ sym (next_after-behind g lower u higher) in
    let keep = λ (f : ℕ × Picture). not (eqb (block ring f.0) b) in
    let front = keeps_all (is_in ring b) (all_frames g lower) (below_out ring g b lower same below sides.0) in
    let mid = keeps_none (is_in ring b) (frames_of g u) (frames_in ring g u same over.0) in
    let back = keeps_all (is_in ring b) (all_frames g higher) (above_out ring g b higher same above sides.1) in
    let kept : filter keep (all_frames g (lower ++ u ∷ higher)) ≡ all_frames g lower ++ all_frames g higher =
    ap (filter keep) (all_frames-append g lower (u ∷ higher)) ∙ filter-append keep (all_frames g lower) (frames_of g u ++ all_frames g higher)
    ∙ (λ i. front i ++ filter-append keep (frames_of g u) (all_frames g higher) i) ∙ (λ i. all_frames g lower ++ (mid i ++ back i)) in
    let frames : all_frames g (lower ++ higher) ≡ filter keep (all_frames g (lower ++ u ∷ higher)) = all_frames-append g lower higher ∙ sym kept in
    let is : recording_of g (lower ++ higher) clips ≡ after_step ring (recording_of g (lower ++ u ∷ higher) clips)
    (recycle b) = λ i. record { next = next i; frames = frames i; clips = clips } in
    of_shown g (lower ++ higher) clips (after_step ring r (recycle b)) (record {
      low_enough = low.1;
      single = single.1;
      full = lacks_frame-without g lower u h hs old.full;
      right = right.1;
      held = ap has_bad_clip is ∙ clips_kept ring (recording_of g (lower ++ u ∷ higher) clips) b clips
          (subst (λ (k : ℕ). 1 ≤ k) (sym same) some) unmet old.held;
      is = is ∙ ap (λ (q : Recording). after_step ring q (recycle b)) old.is;
    })
  where
    unnot_true : (t : Bool) → not t ≡ true → t ≡ false
    unnot_true true e = absurd cc
    unnot_true false e = refl

    any_split : (p : Segment → Bool) (xs ys : List Segment) → list_any p (xs ++ ys) ≡ false → (list_any p xs ≡ false)
        × (list_any p ys ≡ false)
    any_split p xs ys e = neither (list_any p xs) (list_any p ys) (sym (list_any-append p xs ys) ∙ e)
