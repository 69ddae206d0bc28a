-- Recordings with the same numbers: what depends on no picture is the same.
use Rattle.std.proofs.Common.{◌≡◌, ◌⊎◌, inl, inr, ℕ, ◌+◌, ◌-◌, ◌%◌, ◌≤◌, Bool, true, false, not, ◌&&◌, cond, eqb, is_some, Option, Some, List, [], ◌∷◌, ◌++◌, length, take, map, refl, sym, ap, ◌∙◌, subst, arith, max}
use Rattle.std.proofs.lemmas.List.{map-append, length-map}
use Rattle.std.specs.Prelude.{Contains}
use Rattle.std.specs.List.{enumerate_from, filter, find, range_with_len}
use Rattle.loop_record.specs.declared.clip.Span.{Span}
use Rattle.loop_record.specs.Recording.{IsWellFormed, Picture, Recording, RiseBetween, Ring, after_step, block, frame_under, held_blocks, holds, is_locked, needs_recycling, plain, recycle, store, victim}
use Rattle.loop_record.proofs.Blocks.{blocks-made}
use Rattle.loop_record.proofs.NumberOrder.{Among, among-held, among-range, held-among, numbers_of}
use Rattle.loop_record.proofs.Steps.{plain-stores}
use Rattle.loop_record.proofs.Names.{blocks_of, with_block}

-- the numbers of two recordings, their next numbers and their clips are the same
pub record IsSame (r t : Recording) : Type 0 where
  pub numbers : numbers_of r.frames ≡ numbers_of t.frames
  pub next : r.next ≡ t.next
  pub clips : r.clips ≡ t.clips

pub then : (r s t : Recording) → IsSame r s → IsSame s t → IsSame r t
then r s t a b = record { numbers = a.numbers ∙ b.numbers; next = a.next ∙ b.next; clips = a.clips ∙ b.clips }

pub itself : (r : Recording) → IsSame r r
itself r = record { numbers = refl; next = refl; clips = refl }

-- ---- what the numbers decide

-- whether one is held
is_there : ℕ → List ℕ → Bool
is_there n [] = false
is_there n (m ∷ ms) = cond (eqb m n) true (is_there n ms)

under-numbers : (n : ℕ) (fs : List (ℕ × Picture)) → is_some (frame_under fs n) ≡ is_there n (numbers_of fs)
unfolding is_there
under-numbers n [] = refl
under-numbers n (f ∷ fs) = go (eqb f.0 n) (under-numbers n fs)
  where
    go : (t : Bool) → is_some (frame_under fs n) ≡ is_there n (numbers_of fs)
        → is_some (cond t (Some f.1) (frame_under fs n)) ≡ cond t true (is_there n (numbers_of fs))
    go true h = refl
    go false h = h

pub holds-same : (r t : Recording) (n : ℕ) → IsSame r t → holds r n ≡ holds t n
holds-same r t n same = under-numbers n r.frames ∙ ap (is_there n) same.numbers ∙ sym (under-numbers n t.frames)

-- the blocks
blocks_in : Ring → List ℕ → List ℕ
blocks_in ring [] = []
blocks_in ring (n ∷ ns) = with_block (block ring n) (blocks_in ring ns)

blocks-numbers : (ring : Ring) (fs : List (ℕ × Picture)) → blocks_of ring fs ≡ blocks_in ring (numbers_of fs)
unfolding blocks_in
blocks-numbers ring [] = refl
blocks-numbers ring (f ∷ fs) = ap (with_block (block ring f.0)) (blocks-numbers ring fs)

pub blocks-same : (ring : Ring) (r t : Recording) → IsSame r t → held_blocks ring r ≡ held_blocks ring t
blocks-same ring r t same =
    blocks-made ring r.frames ∙ blocks-numbers ring r.frames ∙ ap (blocks_in ring) same.numbers
    ∙ sym (blocks-numbers ring t.frames) ∙ sym (blocks-made ring t.frames)

pub victim-same : (ring : Ring) (keep : ℕ) (r t : Recording) → IsSame r t → victim ring keep r ≡ victim ring keep t
victim-same ring keep r t same =
    let blocks = blocks-same ring r t same in
    λ i. find (λ b. not (is_locked ring (record r { clips = same.clips i }) b)) (take (length (blocks i) - max 1 keep) (blocks i))

pub needs-same : (ring : Ring) (r t : Recording) → IsSame r t → needs_recycling ring r ≡ needs_recycling ring t
needs-same ring r t same =
    let blocks = blocks-same ring r t same in
    λ i. eqb (same.next i % ring.slots) 0 && eqb (length (blocks i)) ring.segments

-- how many frames there are
pub count-same : (r t : Recording) → IsSame r t → length r.frames ≡ length t.frames
count-same r t same = sym (length-map r.frames (λ f. f.0)) ∙ ap (λ (ns : List ℕ). length ns) same.numbers ∙ length-map t.frames (λ f. f.0)

-- ---- that they are well formed

heads_same : (m n : ℕ) (ms ns : List ℕ) → (let x : List ℕ = m ∷ ms in x) ≡ n ∷ ns → m ≡ n
heads_same m n ms ns e = cc

rests_same : (m n : ℕ) (ms ns : List ℕ) → (let x : List ℕ = m ∷ ms in x) ≡ n ∷ ns → ms ≡ ns
rests_same m n ms ns e = cc

rise-same : (low high : ℕ) (fs gs : List (ℕ × Picture)) → numbers_of fs ≡ numbers_of gs → RiseBetween low high fs
    → RiseBetween low high gs
rise-same low high [] [] e h = h
rise-same low high [] (g ∷ gs) e h = absurd cc
rise-same low high (f ∷ fs) [] e h = absurd cc
rise-same low high (f ∷ fs) (g ∷ gs) e h =
    let first = heads_same f.0 g.0 (numbers_of fs) (numbers_of gs) e in (
      omega (arith, first, h.0),
      subst (λ (n : ℕ). RiseBetween (n + 1) high gs) first
          (rise-same (f.0 + 1) high fs gs (rests_same f.0 g.0 (numbers_of fs) (numbers_of gs) e) h.1),
    )

pub formed-same : (r t : Recording) → IsSame r t → IsWellFormed r → IsWellFormed t
formed-same r t same w = record {
  rising = subst (λ (n : ℕ). RiseBetween 0 n t.frames) same.next (rise-same 0 r.next r.frames t.frames same.numbers w.rising);
  clips = λ s stands.
      let was = w.clips s (subst (λ (cs : List (Option Span)). Contains cs (Some s)) (sym same.clips) stands) in
      (was.0, λ n low high. sym (holds-same r t n same) ∙ was.1 n low high);
  ids = ap length (sym same.clips) ∙ w.ids;
}

-- ---- numbers that are held alike are the same

rising-same : (low high high' : ℕ) (fs gs : List (ℕ × Picture)) → RiseBetween low high fs → RiseBetween low high' gs
    → ((n : ℕ) → Among n (numbers_of fs) → Among n (numbers_of gs))
    → ((n : ℕ) → Among n (numbers_of gs) → Among n (numbers_of fs))
    → numbers_of fs ≡ numbers_of gs
rising-same low high high' [] [] h k to from = refl
rising-same low high high' [] (g ∷ gs) h k to from = elim (from g.0 (inl refl)) [ ]
rising-same low high high' (f ∷ fs) [] h k to from = elim (to f.0 (inl refl)) [ ]
rising-same low high high' (f ∷ fs) (g ∷ gs) h k to from =
    let rest = rising-same (f.0 + 1) high high' fs gs h.1 (subst (λ (n : ℕ). RiseBetween (n + 1) high' gs) (sym first) k.1) there back in
    λ i. first i ∷ rest i
  where
    above : g.0 ≤ f.0
    above = go (to f.0 (inl refl))
      where
        go : (g.0 ≡ f.0) ⊎ Among f.0 (numbers_of gs) → g.0 ≤ f.0
        go (inl is) = omega (arith, is)
        go (inr behind) = omega (arith, (among-range (g.0 + 1) high' f.0 gs k.1 behind).0)

    below : f.0 ≤ g.0
    below = go (from g.0 (inl refl))
      where
        go : (f.0 ≡ g.0) ⊎ Among g.0 (numbers_of fs) → f.0 ≤ g.0
        go (inl is) = omega (arith, is)
        go (inr behind) = omega (arith, (among-range (f.0 + 1) high g.0 fs h.1 behind).0)

    first : f.0 ≡ g.0
    first = omega (arith, above, below)

    there : (n : ℕ) → Among n (numbers_of fs) → Among n (numbers_of gs)
    there n at = go (to n (inr at))
      where
        go : (g.0 ≡ n) ⊎ Among n (numbers_of gs) → Among n (numbers_of gs)
        go (inl is) = absurd (omega (arith, is, first, (among-range (f.0 + 1) high n fs h.1 at).0))
        go (inr behind) = behind

    back : (n : ℕ) → Among n (numbers_of gs) → Among n (numbers_of fs)
    back n at = go (from n (inr at))
      where
        go : (f.0 ≡ n) ⊎ Among n (numbers_of fs) → Among n (numbers_of fs)
        go (inl is) = absurd (omega (arith, is, first, (among-range (g.0 + 1) high' n gs k.1 at).0))
        go (inr behind) = behind

pub held-same : (r t : Recording) → IsWellFormed r → IsWellFormed t → ((n : ℕ) → holds r n ≡ holds t n)
    → r.next ≡ t.next → r.clips ≡ t.clips → IsSame r t
held-same r t w v same next clips = record {
  numbers = rising-same 0 r.next t.next r.frames t.frames w.rising v.rising
      (λ n at. held-among n t.frames (sym (same n) ∙ among-held n r.frames at))
      (λ n at. held-among n r.frames (same n ∙ among-held n t.frames at));
  next = next;
  clips = clips;
}

-- ---- after the same steps

numbers-kept : (p : ℕ → Bool) (fs : List (ℕ × Picture)) → numbers_of (filter (λ f. p f.0) fs) ≡ filter p (numbers_of fs)
numbers-kept p [] = refl
numbers-kept p (f ∷ fs) = go (p f.0) (numbers-kept p fs)
  where
    go : (t : Bool) → numbers_of (filter (λ f. p f.0) fs) ≡ filter p (numbers_of fs)
        → numbers_of (cond t (f ∷ filter (λ f. p f.0) fs) (filter (λ f. p f.0) fs)) ≡ cond t
        (f.0 ∷ filter p (numbers_of fs)) (filter p (numbers_of fs))
    go true h = ap (λ (ns : List ℕ). f.0 ∷ ns) h
    go false h = h

pub recycled-same : (ring : Ring) (r t : Recording) (b : ℕ) → IsSame r t → IsSame (after_step ring r (recycle b))
    (after_step ring t (recycle b))
recycled-same ring r t b same =
    let p = λ (n : ℕ). not (eqb (block ring n) b) in record {
      numbers = numbers-kept p r.frames ∙ ap (filter p) same.numbers ∙ sym (numbers-kept p t.frames);
      next = same.next;
      clips = same.clips;
    }

pub clips-same : (r t : Recording) (cs ds : List (Option Span)) → IsSame r t → cs ≡ ds → IsSame (record r { clips = cs }) (record t { clips = ds })
clips-same r t cs ds same e = record { numbers = same.numbers; next = same.next; clips = e }

enumerated : (n : ℕ) (ps : List Picture) → numbers_of (enumerate_from n ps) ≡ range_with_len n (length ps)
enumerated n [] = refl
enumerated n (p ∷ ps) = ap (λ (ns : List ℕ). n ∷ ns) (enumerated (n + 1) ps)

stored-numbers : (ring : Ring) (r : Recording) (ps : List Picture)
    → numbers_of (plain ring r (map store ps)).frames ≡ numbers_of r.frames ++ range_with_len r.next (length ps)
stored-numbers ring r ps =
    ap (λ (q : Recording). numbers_of q.frames) (plain-stores ring r ps) ∙ map-append (λ f. f.0) r.frames
    (enumerate_from r.next ps) ∙ ap (λ (ns : List ℕ). numbers_of r.frames ++ ns) (enumerated r.next ps)

pub stored-same : (ring : Ring) (r t : Recording) (ps qs : List Picture) → IsSame r t → length ps ≡ length qs
    → IsSame (plain ring r (map store ps)) (plain ring t (map store qs))
stored-same ring r t ps qs same count = record {
  numbers = stored-numbers ring r ps ∙ (λ i. same.numbers i ++ range_with_len (same.next i) (count i)) ∙ sym (stored-numbers ring t qs);
  next = ap (λ (q : Recording). q.next) (plain-stores ring r ps) ∙ (λ i. same.next i + count i) ∙ sym (ap (λ (q : Recording). q.next) (plain-stores ring t qs));
  clips = ap (λ (q : Recording). q.clips) (plain-stores ring r ps) ∙ same.clips ∙ sym (ap (λ (q : Recording). q.clips) (plain-stores ring t qs));
}
