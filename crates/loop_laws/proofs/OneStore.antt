-- What one store without clips holds, what it tells, and what a frame changes.
use Rattle.std.proofs.Common.{◌≡◌, ◌≢◌, ◌⊎◌, ◌↔◌, inl, inr, ℕ, suc, ◌+◌, ◌-◌, ◌*◌, ◌%◌, ◌<◌, ◌≤◌, Bool, true, false, not, ◌&&◌, cond, eqb, ltb, max, is_some, Option, Some, None, List, [], ◌∷◌, ◌++◌, length, take, map, refl, sym, ap, ◌∙◌, subst, arith, append_assoc}
use Rattle.std.proofs.Math.Nat.{div-mul-le_self, mul-div_cancel}
use Rattle.std.proofs.lemmas.Bool.{cases_lt, lt-ltb, ltb-true}
use Rattle.std.proofs.lemmas.List.{length-map}
use Rattle.std.specs.Prelude.{replicate}
use Rattle.std.specs.List.{enumerate_from, filter, find, list_any}
use Rattle.loop_record.specs.Recording.{Picture, Recording, Ring, Step, after_step, block, frame_under, held_blocks, is_locked, last_number, meets, needs_recycling, plain, recycle, recycling_first, steps, store, victim}
use Rattle.loop_record.proofs.Blocks.{blocks-made}
use Rattle.loop_record.proofs.Names.{blocks_of, stores_after}
use Rattle.loop_record.proofs.Steps.{plain-stores}
use Rattle.loop_record.proofs.TestFacts.{differ_test, equal_test}
use Rattle.loop_desk.specs.declared.limits.Space.{Space}
use Rattle.loop_desk.specs.Space.{BeginsBlock, TellsOldest, TellsSpace}
use Rattle.loop_laws.proofs.Chunks.{Between, Chunk, Fit, all_numbered, chunks-blocks, first-goes, grown, is_out, numbered, numbered-grown, numbered-push, numbers}

-- the store holds the frames of these blocks, and nothing is locked
pub record Has (ring : Ring) (r : Recording) (cs : List Chunk) : Type 0 where
  pub frames : r.frames ≡ all_numbered ring.slots cs
  pub clips : r.clips ≡ replicate 64 None

some-same : {X : Type 0} (x y : X) → (let o : Option X = Some x in o) ≡ Some y → x ≡ y
some-same x y e = cc

-- ---- the blocks and the victim

pub blocks-held : (ring : Ring) (r : Recording) (low high : ℕ) (cs : List Chunk) → Has ring r cs → Fit ring.slots cs
    → Between low high cs → held_blocks ring r ≡ numbers cs
blocks-held ring r low high cs has f h =
    blocks-made ring r.frames ∙ ap (blocks_of ring) has.frames ∙ chunks-blocks ring low high cs f h

pub count-held : (ring : Ring) (r : Recording) (low high : ℕ) (cs : List Chunk) → Has ring r cs → Fit ring.slots cs
    → Between low high cs → length (held_blocks ring r) ≡ length cs
count-held ring r low high cs has f h =
    ap (λ (bs : List ℕ). length bs) (blocks-held ring r low high cs has f h) ∙ length-map cs (λ c. c.number)

unlocked : (ring : Ring) (r : Recording) (cs : List Chunk) (b : ℕ) → Has ring r cs → not (is_locked ring r b) ≡ true
unlocked ring r cs b has = ap (λ ks. not (list_any (meets ring b) ks)) has.clips

-- the first of a list without its last k
first-found : (p : ℕ → Bool) (k b : ℕ) (bs : List ℕ) → p b ≡ true → k ≤ length bs
    → find p (take (length (b ∷ bs) - k) (b ∷ bs)) ≡ Some b
first-found p k b bs passes more =
    let e : suc (length bs) - k ≡ suc (length bs - k) = omega (arith, more) in
    ap (λ (n : ℕ). find p (take n (b ∷ bs))) e
    ∙ ap (λ (t : Bool). cond t (Some b) (find p (take (length bs - k) bs))) passes

none-found : (p : ℕ → Bool) (k : ℕ) (bs : List ℕ) → length bs ≤ k → find p (take (length bs - k) bs) ≡ None
none-found p k bs few =
    let e : length bs - k ≡ 0 = omega (arith, few) in ap (λ (n : ℕ). find p (take n bs)) e

pub victim-first : (ring : Ring) (keep : ℕ) (r : Recording) (low high : ℕ) (c : Chunk) (cs : List Chunk)
    → Has ring r (c ∷ cs) → Fit ring.slots (c ∷ cs) → Between low high (c ∷ cs) → max 1 keep ≤ length cs
    → victim ring keep r ≡ Some c.number
victim-first ring keep r low high c cs has f h more =
    let passes = unlocked ring r (c ∷ cs) c.number has in
    let many : max 1 keep ≤ length (numbers cs) =
    subst (λ (n : ℕ). max 1 keep ≤ n) (sym (length-map cs (λ c. c.number))) more in
    ap (λ (bs : List ℕ). find (λ b. not (is_locked ring r b)) (take (length bs - max 1 keep) bs))
    (blocks-held ring r low high (c ∷ cs) has f h)
    ∙ first-found (λ b. not (is_locked ring r b)) (max 1 keep) c.number (numbers cs) passes many

pub victim-none_few : (ring : Ring) (keep : ℕ) (r : Recording) (low high : ℕ) (cs : List Chunk) → Has ring r cs
    → Fit ring.slots cs → Between low high cs → length cs ≤ max 1 keep → victim ring keep r ≡ None
victim-none_few ring keep r low high cs has f h few =
    let less : length (numbers cs) ≤ max 1 keep =
    subst (λ (n : ℕ). n ≤ max 1 keep) (sym (length-map cs (λ c. c.number))) few in
    ap (λ (bs : List ℕ). find (λ b. not (is_locked ring r b)) (take (length bs - max 1 keep) bs))
    (blocks-held ring r low high cs has f h)
    ∙ none-found (λ b. not (is_locked ring r b)) (max 1 keep) (numbers cs) less

-- ---- the sequence that is told

under-first : (ring : Ring) (r : Recording) (c : Chunk) (cs : List Chunk) → Has ring r (c ∷ cs)
    → frame_under r.frames (c.number * ring.slots) ≡ Some c.first
under-first ring r c cs has =
    let n = c.number * ring.slots in
    let more = enumerate_from (n + 1) c.rest ++ all_numbered ring.slots cs in
    ap (λ fs. frame_under fs n) has.frames
    ∙ ap (λ (t : Bool). cond t (Some c.first) (frame_under more n)) (equal_test n n refl)

first-picture : (ring : Ring) (r : Recording) (c : Chunk) (cs : List Chunk) (number : ℕ) (p : Picture) → 1 ≤ ring.slots
    → Has ring r (c ∷ cs) → BeginsBlock ring r c.number number p → p ≡ c.first
first-picture ring r c cs number p some has first =
    let n = c.number * ring.slots in
    let there : frame_under r.frames n ≡ Some c.first = under-first ring r c cs has in
    let low : number ≤ n =
    first.first n (ap (λ (o : Option Picture). is_some o) there) (mul-div_cancel c.number some) in
    let back : block ring number * ring.slots ≡ n = ap (λ (b : ℕ). b * ring.slots) first.of in
    let high : n ≤ number = omega (arith, back, div-mul-le_self number ring.slots) in
    let same : number ≡ n = omega (arith, low, high) in
    some-same p c.first (sym first.held ∙ ap (frame_under r.frames) same ∙ there)

-- a store of which a block may go tells the sequence of its first frame
pub tells-first : (ring : Ring) (keep : ℕ) (r : Recording) (low high : ℕ) (c : Chunk) (cs : List Chunk)
    (oldest : Option ℕ) → 1 ≤ ring.slots → Has ring r (c ∷ cs) → Fit ring.slots (c ∷ cs) → Between low high (c ∷ cs)
    → max 1 keep ≤ length cs → TellsOldest ring keep r oldest → oldest ≡ Some c.first.sequence
tells-first ring keep r low high c cs oldest some has f h more tells =
    let told = tells.some c.number (victim-first ring keep r low high c cs has f h more) in
    told.3 ∙ ap (λ (p : Picture). Some p.sequence) (first-picture ring r c cs told.0 told.1 some has told.2)

pub tells-none : (ring : Ring) (keep : ℕ) (r : Recording) (low high : ℕ) (cs : List Chunk) (oldest : Option ℕ)
    → Has ring r cs → Fit ring.slots cs → Between low high cs → length cs ≤ max 1 keep → TellsOldest ring keep r oldest
    → oldest ≡ None
tells-none ring keep r low high cs oldest has f h few tells =
    tells.none (victim-none_few ring keep r low high cs has f h few)

-- each store has a room to tell
pub space-there : (ring : Ring) (keep : ℕ) (r : Recording) (low high : ℕ) (cs : List Chunk) → 1 ≤ ring.slots
    → Has ring r cs → Fit ring.slots cs → Between low high cs → (space : Space) × TellsSpace ring keep r space
space-there ring keep r low high cs some has f h = go cs has f h (cases_lt (max 1 keep) (length cs))
  where
    free : Bool
    free = ltb (length (held_blocks ring r)) ring.segments

    has_free : (free ≡ true) ↔ (length (held_blocks ring r) < ring.segments)
    has_free = (ltb-true (length (held_blocks ring r)) ring.segments, lt-ltb (length (held_blocks ring r)) ring.segments)

    go : (cs : List Chunk) → Has ring r cs → Fit ring.slots cs → Between low high cs → (max 1 keep < length cs)
        ⊎ (length cs ≤ max 1 keep) → (space : Space) × TellsSpace ring keep r space
    go cs has f h (inr few) = (
      record { free = free; oldest = None },
      record {
        free = has_free;
        oldest = record { some = λ v chosen. absurd (never v chosen); none = λ e. refl };
      },
    )
      where
        never : (v : ℕ) → victim ring keep r ≡ Some v → ⊥
        never v chosen =
            let no : None ≡ Some v = sym (victim-none_few ring keep r low high cs has f h few) ∙ chosen in
            absurd cc
    go [] has f h (inl more) = absurd (omega (arith, more))
    go (c ∷ cs) has f h (inl more) = (
      record { free = free; oldest = Some c.first.sequence },
      record {
        free = has_free;
        oldest = record {
          some = λ v e. (c.number * ring.slots, c.first, first v (some-same c.number v (sym chosen ∙ e)), refl);
          none = λ e. absurd (never e);
        };
      },
    )
      where
        chosen : victim ring keep r ≡ Some c.number
        chosen = victim-first ring keep r low high c cs has f h (omega (arith, more))

        never : victim ring keep r ≡ None → ⊥
        never e = let no : None ≡ Some c.number = sym e ∙ chosen in absurd cc

        first : (v : ℕ) → c.number ≡ v → BeginsBlock ring r v (c.number * ring.slots) c.first
        first v same = record {
          held = under-first ring r c cs has;
          of = mul-div_cancel c.number some ∙ same;
          first = λ n held of.
              let back : block ring n * ring.slots ≡ c.number * ring.slots =
              ap (λ (b : ℕ). b * ring.slots) (of ∙ sym same) in
              omega (arith, back, div-mul-le_self n ring.slots);
        }

-- ---- the steps of an append

pub within-steps : (ring : Ring) (r : Recording) → r.next % ring.slots ≢ 0 → needs_recycling ring r ≡ false
within-steps ring r apart =
    ap (λ (t : Bool). t && eqb (length (held_blocks ring r)) ring.segments) (differ_test (r.next % ring.slots) 0 apart)

pub free-steps : (ring : Ring) (r : Recording) → length (held_blocks ring r) < ring.segments
    → needs_recycling ring r ≡ false
free-steps ring r less =
    and-false (eqb (r.next % ring.slots) 0)
    (differ_test (length (held_blocks ring r)) ring.segments (λ e. absurd (omega (arith, less, e))))
  where
    and-false : (s : Bool) {t : Bool} → t ≡ false → (s && t) ≡ false
    and-false true e = e
    and-false false e = refl

pub full-steps : (ring : Ring) (r : Recording) → r.next % ring.slots ≡ 0
    → length (held_blocks ring r) ≡ ring.segments → needs_recycling ring r ≡ true
full-steps ring r begins full =
    let first = equal_test (r.next % ring.slots) 0 begins in
    let second = equal_test (length (held_blocks ring r)) ring.segments full in
    λ i. first i && second i

these-same : (a b : List Step) → (let o : Option (List Step) = Some a in o) ≡ Some b → a ≡ b
these-same a b e = cc

pub plain-append : (ring : Ring) (keep : ℕ) (r : Recording) (ps : List Picture) (made : List Step)
    → steps ring keep r ps ≡ Some made → needs_recycling ring r ≡ false → made ≡ map store ps
plain-append ring keep r ps made is none = spent (eqb r.next (last_number ring)) is
  where
    go : (u : Bool) → u ≡ false → stores_after (recycling_first u (victim ring keep r)) ps ≡ Some made
        → made ≡ map store ps
    go true e is = absurd cc
    go false e is = sym (these-same (map store ps) made is)

    spent : (t : Bool) → cond t None (stores_after
        (recycling_first (needs_recycling ring r) (victim ring keep r)) ps) ≡ Some made → made ≡ map store ps
    spent true e = absurd cc
    spent false e = go (needs_recycling ring r) none e

pub recycling-append : (ring : Ring) (keep : ℕ) (r : Recording) (ps : List Picture) (made : List Step) (b : ℕ)
    → steps ring keep r ps ≡ Some made → needs_recycling ring r ≡ true → victim ring keep r ≡ Some b
    → made ≡ recycle b ∷ map store ps
recycling-append ring keep r ps made b is need chosen = spent (eqb r.next (last_number ring)) is
  where
    again : recycling_first (needs_recycling ring r) (victim ring keep r) ≡ Some (recycle b ∷ [])
    again = λ i. recycling_first (need i) (chosen i)

    spent : (t : Bool) → cond t None (stores_after
        (recycling_first (needs_recycling ring r) (victim ring keep r)) ps) ≡ Some made
        → made ≡ recycle b ∷ map store ps
    spent true e = absurd cc
    spent false e =
        sym (these-same (recycle b ∷ map store ps) made (sym (ap (λ o. stores_after o ps) again) ∙ e))

-- and there are such steps, unless the numbers are spent
pub stores-made : (ring : Ring) (keep : ℕ) (r : Recording) (ps : List Picture) → r.next ≢ last_number ring
    → needs_recycling ring r ≡ false → steps ring keep r ps ≡ Some (map store ps)
stores-made ring keep r ps left none =
    let more : eqb r.next (last_number ring) ≡ false = differ_test r.next (last_number ring) left in
    λ i. cond (more i) None (stores_after (recycling_first (none i) (victim ring keep r)) ps)

pub recycles-made : (ring : Ring) (keep : ℕ) (r : Recording) (ps : List Picture) (b : ℕ) → r.next ≢ last_number ring
    → needs_recycling ring r ≡ true → victim ring keep r ≡ Some b
    → steps ring keep r ps ≡ Some (recycle b ∷ map store ps)
recycles-made ring keep r ps b left need chosen =
    let more : eqb r.next (last_number ring) ≡ false = differ_test r.next (last_number ring) left in
    λ i. cond (more i) None (stores_after (recycling_first (need i) (chosen i)) ps)

-- ---- what the steps leave

-- more frames of a block
pub has-grown : (ring : Ring) (r : Recording) (cs : List Chunk) (c : Chunk) (ps : List Picture)
    → Has ring r (cs ++ c ∷ []) → r.next ≡ c.number * ring.slots + (length c.rest + 1)
    → Has ring (plain ring r (map store ps)) (cs ++ grown c ps ∷ [])
has-grown ring r cs c ps has next =
    subst (λ (x : Recording). Has ring x (cs ++ grown c ps ∷ [])) (sym (plain-stores ring r ps)) (record {
      frames = ap (λ fs. fs ++ enumerate_from r.next ps) (has.frames ∙ numbered-push ring.slots cs c)
          ∙ append_assoc (all_numbered ring.slots cs) (numbered ring.slots c) (enumerate_from r.next ps)
          ∙ ap (λ fs. all_numbered ring.slots cs ++ fs) (sym (numbered-grown ring.slots r.next c ps next))
          ∙ sym (numbered-push ring.slots cs (grown c ps));
      clips = has.clips;
    })

-- the first frames of a block
pub has-begun : (ring : Ring) (r : Recording) (cs : List Chunk) (place b : ℕ) (p : Picture) (ps : List Picture)
    → Has ring r cs → r.next ≡ b * ring.slots
    → Has ring (plain ring r (map store (p ∷ ps)))
    (cs ++ record { place = place; number = b; first = p; rest = ps } ∷ [])
has-begun ring r cs place b p ps has next =
    subst (λ (x : Recording). Has ring x (cs ++ record { place = place; number = b; first = p; rest = ps } ∷ []))
    (sym (plain-stores ring r (p ∷ ps))) (record {
      frames = (λ i. has.frames i ++ enumerate_from (next i) (p ∷ ps))
          ∙ sym (numbered-push ring.slots cs (record { place = place; number = b; first = p; rest = ps }));
      clips = has.clips;
    })

-- the next number after more frames
pub next-after : (ring : Ring) (r : Recording) (ps : List Picture)
    → (plain ring r (map store ps)).next ≡ r.next + length ps
next-after ring r ps = ap (λ (x : Recording). x.next) (plain-stores ring r ps)

-- the first block goes
pub has-recycled : (ring : Ring) (r : Recording) (low high : ℕ) (c : Chunk) (cs : List Chunk) → Has ring r (c ∷ cs)
    → Fit ring.slots (c ∷ cs) → Between low high (c ∷ cs) → Has ring (after_step ring r (recycle c.number)) cs
has-recycled ring r low high c cs has f h = record {
  frames = ap (filter (is_out ring c.number)) has.frames ∙ first-goes ring low high c cs f h;
  clips = has.clips;
}
