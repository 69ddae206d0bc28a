-- The stores of a set between two blocks and within one, and what a frame changes.
use Rattle.std.proofs.Common.{◌≡◌, ◌⊎◌, inl, inr, ℕ, zero, suc, ◌+◌, ◌*◌, ◌%◌, ◌^◌, ◌<◌, ◌≤◌, Option, Some, List, [], ◌∷◌, ◌++◌, length, map, set, refl, sym, ap, ◌∙◌, subst, arith, append_assoc}
use Rattle.std.proofs.lemmas.Bool.{cases_eq}
use Rattle.std.proofs.lemmas.List.{length-append, length-set}
use Rattle.std.proofs.lemmas.List.Elements.{All-append, All-map}
use Rattle.std.specs.Prelude.{All, slice_get, slice_set}
use Rattle.loop_record.specs.Recording.{Picture, Recording, Ring, after_step, plain, recycle, store}
use Rattle.loop_laws.specs.Stores.{Counted, LongRing, end_after}
use Rattle.loop_laws.proofs.Chunks.{Between, Chunk, Fit, Full, between-lower, between-push, end-of, full-push, grown}
use Rattle.loop_laws.proofs.OneStore.{Has, has-begun, has-grown, has-recycled, next-after}
use Rattle.loop_laws.proofs.Queues.{Placed, Rises, at, count-push, group_at, placed-front, placed-push, push-apart, push-here, rises-high, rises-last, rises-push, spread, spread-grown, spread-push}
use Rattle.loop_laws.proofs.Counting.{counted-up, end-of_group}

-- ---- one store

-- between two blocks: what the store holds, and that its next number begins a block
pub record Rests (ring : Ring) (r : Recording) (cs : List Chunk) : Type 0 where
  pub has : Has ring r cs
  pub begun : ℕ
  pub next : r.next ≡ begun * ring.slots
  pub between : Between 0 begun cs

-- within its last block
pub record Fills (ring : Ring) (r : Recording) (cs : List Chunk) (last : Chunk) : Type 0 where
  pub has : Has ring r (cs ++ last ∷ [])
  pub next : r.next ≡ last.number * ring.slots + (length last.rest + 1)
  pub between : Between 0 last.number cs

rests-full : (ring : Ring) (r : Recording) (cs : List Chunk) (last : Chunk) → Fills ring r cs last
    → length last.rest + 1 ≡ ring.slots → Rests ring r (cs ++ last ∷ [])
rests-full ring r cs last f full = record {
  has = f.has;
  begun = last.number + 1;
  next = let e = f.next in omega (arith, e, full, end-of last.number ring.slots);
  between = between-push 0 last.number cs last f.between refl;
}

pub rests-recycled : (ring : Ring) (r : Recording) (c : Chunk) (cs : List Chunk) → Fit ring.slots (c ∷ cs)
    → Rests ring r (c ∷ cs) → Rests ring (after_step ring r (recycle c.number)) cs
rests-recycled ring r c cs fit s = record {
  has = has-recycled ring r 0 s.begun c cs s.has fit s.between;
  begun = s.begun;
  next = s.next;
  between = between-lower (c.number + 1) 0 s.begun cs (omega arith) s.between.1;
}

-- ---- all stores

-- A moment from which on it is counted: how many stores there were, and the frames that were lost before; and the count
-- of the first frame of all.
pub record Since : Type 0 where
  pub count : ℕ
  pub lost : List (ℕ × Picture)
  pub low : ℕ

-- nothing was lost since then, or each place that there was has as many blocks as there are segments
abbrev pub Whole : Ring → Since → List (ℕ × Picture) → List Chunk → Type 0
Whole ring since lost queue =
    (lost ≡ since.lost) ⊎ ((place : ℕ) → place < since.count → length (at place queue) ≡ ring.segments)

abbrev pub ArePlaced : ℕ → List (ℕ × Picture) → Type 0
ArePlaced count came = All (λ (t : ℕ × Picture). t.0 < count) came

-- each store is between two blocks, and the stores hold these blocks, in the order in which they came
pub record Settled (ring : Ring) (since : Since) (count high : ℕ) (rs : List Recording)
    (came lost : List (ℕ × Picture)) (queue : List Chunk) : Type 0 where
  pub many : length rs ≡ count
  pub grew : since.count ≤ count
  pub all : ArePlaced count came
  pub came_is : came ≡ lost ++ spread queue
  pub placed : Placed count queue
  pub full : Full ring.slots queue
  pub rising : Rises since.low high queue
  pub rest : (place : ℕ) (r : Recording) → slice_get rs place ≡ Some r → Rests ring r (at place queue)
  pub few : (place : ℕ) → place < count → length (at place queue) ≤ ring.segments
  pub whole : Whole ring since lost queue

-- the active store is within the last block, all others are between two
pub record Filling (ring : Ring) (since : Since) (count high : ℕ) (stores : LongRing) (came : List (ℕ × Picture))
    : Type 0 where
  pub many : length stores.recordings ≡ count
  pub grew : since.count ≤ count
  pub all : ArePlaced count came
  pub lost : List (ℕ × Picture)
  pub front : List Chunk
  pub last : Chunk
  pub came_is : came ≡ lost ++ spread (front ++ last ∷ [])
  pub active : stores.active ≡ last.place
  pub ends : stores.end ≡ high % 2 ^ 32
  pub placed : Placed count (front ++ last ∷ [])
  pub full : Full ring.slots front
  pub fits : length last.rest + 1 ≤ ring.slots
  pub rising : Rises since.low high (front ++ last ∷ [])
  pub rest : (place : ℕ) (r : Recording) → (last.place ≡ place → ⊥) → slice_get stores.recordings place ≡ Some r
      → Rests ring r (at place front)
  pub fills : (r : Recording) → slice_get stores.recordings last.place ≡ Some r
      → Fills ring r (at last.place front) last
  pub few : (place : ℕ) → place < count → length (at place (front ++ last ∷ [])) ≤ ring.segments
  pub whole : Whole ring since lost (front ++ last ∷ [])

-- the store at a place is changed, and is the active one
abbrev pub stores_with : List Recording → ℕ → Recording → ℕ → LongRing
stores_with rs place r end = record { recordings = slice_set rs place r; active = place; end = end }

-- where the last block is full, all stores are between two
pub settle : (ring : Ring) (since : Since) (count high : ℕ) (stores : LongRing) (came : List (ℕ × Picture))
    (s : Filling ring since count high stores came) → length s.last.rest + 1 ≡ ring.slots
    → Settled ring since count high stores.recordings came s.lost (s.front ++ s.last ∷ [])
settle ring since count high stores came s full = record {
  many = s.many;
  grew = s.grew;
  all = s.all;
  came_is = s.came_is;
  placed = s.placed;
  full = full-push ring.slots s.front s.last s.full full;
  rising = s.rising;
  rest = λ place r there. settled place r there (cases_eq s.last.place place);
  few = s.few;
  whole = s.whole;
}
  where
    settled : (place : ℕ) (r : Recording) → slice_get stores.recordings place ≡ Some r → (s.last.place ≡ place)
        ⊎ (s.last.place ≡ place → ⊥) → Rests ring r (at place (s.front ++ s.last ∷ []))
    settled place r there (inl is) =
        let mine = s.fills r (ap (slice_get stores.recordings) is ∙ there) in
        let here : at s.last.place s.front ++ s.last ∷ [] ≡ at place (s.front ++ s.last ∷ []) =
        ap (λ (k : ℕ). at k s.front ++ s.last ∷ []) is ∙ sym (push-here place s.front s.last is) in
        subst (Rests ring r) here (rests-full ring r (at s.last.place s.front) s.last mine full)
    settled place r there (inr apart) =
        subst (Rests ring r) (sym (push-apart place s.front s.last apart)) (s.rest place r apart there)

-- ---- an element is set

pub get-set : {X : Type 0} (xs : List X) (i : ℕ) (x : X) → i < length xs → slice_get (set xs i x) i ≡ Some x
get-set [] i x l = absurd (omega (arith, l))
get-set (y ∷ xs) zero x l = refl
get-set (y ∷ xs) (suc i) x l = get-set xs i x (omega (arith, l))

pub get-other : {X : Type 0} (xs : List X) (i j : ℕ) (x : X) → (i ≡ j → ⊥) → slice_get (set xs i x) j ≡ slice_get xs j
get-other [] i j x apart = refl
get-other (y ∷ xs) zero zero x apart = absurd (apart refl)
get-other (y ∷ xs) zero (suc j) x apart = refl
get-other (y ∷ xs) (suc i) zero x apart = refl
get-other (y ∷ xs) (suc i) (suc j) x apart = get-other xs i j x (λ e. apart (ap suc e))

pub some-same : {X : Type 0} (x y : X) → (let o : Option X = Some x in o) ≡ Some y → x ≡ y
some-same x y e = cc

-- each frame of a group has the place of the store
group-placed : (count place : ℕ) (came : List (ℕ × Picture)) (ps : List Picture) → ArePlaced count came → place < count
    → ArePlaced count (came ++ group_at place ps)
group-placed count place came ps all within =
    All-append (λ (t : ℕ × Picture). t.0 < count) came (group_at place ps) all
    (All-map (λ (t : ℕ × Picture). t.0 < count) (λ (p : Picture). (place, p)) ps (λ k d l. within))

-- ---- frames within a block

pub grow : (ring : Ring) (since : Since) (count high higher : ℕ) (stores : LongRing) (came : List (ℕ × Picture))
    (ps : List Picture) (taker : Recording) (s : Filling ring since count high stores came)
    → slice_get stores.recordings s.last.place ≡ Some taker → length s.last.rest + 1 + length ps ≤ ring.slots
    → Counted high ps higher
    → Filling ring since count higher
    (stores_with stores.recordings s.last.place (plain ring taker (map store ps)) (end_after stores.end ps))
    (came ++ group_at s.last.place ps)
grow ring since count high higher stores came ps taker s there less counted = record {
  many = length-set stores.recordings s.last.place new ∙ s.many;
  grew = s.grew;
  all = group-placed count s.last.place came ps s.all within;
  lost = s.lost;
  front = s.front;
  last = grown s.last ps;
  came_is = ap (λ (x : List (ℕ × Picture)). x ++ group_at s.last.place ps) s.came_is
      ∙ append_assoc s.lost (spread (s.front ++ s.last ∷ [])) (group_at s.last.place ps)
      ∙ ap (λ (x : List (ℕ × Picture)). s.lost ++ x) (sym (spread-grown s.front s.last ps));
  active = refl;
  ends = ap (λ n. end_after n ps) s.ends ∙ end-of_group high higher ps counted;
  placed = placed-push count s.front (grown s.last ps) (placed-front count s.front s.last s.placed).0 within;
  full = s.full;
  fits = omega (arith, less, longer);
  rising = rises-high since.low high higher (s.front ++ grown s.last ps ∷ [])
      (rises-last since.low high s.front s.last ps s.rising) (counted-up high higher ps counted);
  rest = λ place r apart is. s.rest place r apart (sym (get-other stores.recordings s.last.place place new apart) ∙ is);
  fills = λ r is. subst (λ (x : Recording). Fills ring x (at s.last.place s.front) (grown s.last ps)) (same r is) mine;
  few = λ place l. let few = s.few place l in
      omega (arith, few, count-push place s.front s.last (grown s.last ps) refl);
  whole = whole s.whole;
}
  where
    new : Recording
    new = plain ring taker (map store ps)

    within : s.last.place < count
    within = (placed-front count s.front s.last s.placed).1

    longer : length (s.last.rest ++ ps) ≡ length s.last.rest + length ps
    longer = length-append s.last.rest ps

    before : Fills ring taker (at s.last.place s.front) s.last
    before = s.fills taker there

    mine : Fills ring new (at s.last.place s.front) (grown s.last ps)
    mine = record {
      has = has-grown ring taker (at s.last.place s.front) s.last ps before.has before.next;
      next = let e = before.next in omega (arith, e, longer, next-after ring taker ps);
      between = before.between;
    }

    same : (r : Recording) → slice_get (slice_set stores.recordings s.last.place new) s.last.place ≡ Some r → new ≡ r
    same r at =
        let many = s.many in
        some-same new r (sym (get-set stores.recordings s.last.place new (omega (arith, within, many))) ∙ at)

    whole : Whole ring since s.lost (s.front ++ s.last ∷ []) → Whole ring since s.lost (s.front ++ grown s.last ps ∷ [])
    whole (inl none) = inl none
    whole (inr each) = inr (λ place l. sym (count-push place s.front s.last (grown s.last ps) refl) ∙ each place l)

-- ---- the first frames of a block

-- The store at this place has room for a block, and all stores are between two.
pub record Ready (ring : Ring) (since : Since) (count high : ℕ) (rs : List Recording) (place : ℕ)
    (taker : Recording) (came : List (ℕ × Picture)) : Type 0 where
  pub many : length rs ≡ count
  pub grew : since.count ≤ count
  pub all : ArePlaced count came
  pub within : place < count
  pub lost : List (ℕ × Picture)
  pub queue : List Chunk
  pub came_is : came ≡ lost ++ spread queue
  pub placed : Placed count queue
  pub full : Full ring.slots queue
  pub rising : Rises since.low high queue
  pub others : (i : ℕ) (r : Recording) → (place ≡ i → ⊥) → slice_get rs i ≡ Some r → Rests ring r (at i queue)
  pub mine : Rests ring taker (at place queue)
  pub few : (i : ℕ) → i < count → (place ≡ i → ⊥) → length (at i queue) ≤ ring.segments
  pub room : length (at place queue) + 1 ≤ ring.segments
  pub whole : (lost ≡ since.lost)
      ⊎ (((i : ℕ) → i < since.count → (place ≡ i → ⊥) → length (at i queue) ≡ ring.segments)
      × (place < since.count → length (at place queue) + 1 ≡ ring.segments))

pub start : (ring : Ring) (since : Since) (count high higher : ℕ) (rs : List Recording) (place : ℕ)
    (taker : Recording) (came : List (ℕ × Picture)) (p : Picture) (ps : List Picture) (end : ℕ)
    → length ps + 1 ≤ ring.slots → Ready ring since count high rs place taker came → end ≡ high % 2 ^ 32
    → Counted high (p ∷ ps) higher
    → Filling ring since count higher
    (stores_with rs place (plain ring taker (map store (p ∷ ps))) (end_after end (p ∷ ps)))
    (came ++ group_at place (p ∷ ps))
start ring since count high higher rs place taker came p ps end fits s ends counted = record {
  many = length-set rs place new ∙ s.many;
  grew = s.grew;
  all = group-placed count place came (p ∷ ps) s.all s.within;
  lost = s.lost;
  front = s.queue;
  last = first;
  came_is = ap (λ (x : List (ℕ × Picture)). x ++ group_at place (p ∷ ps)) s.came_is
      ∙ append_assoc s.lost (spread s.queue) (group_at place (p ∷ ps))
      ∙ ap (λ (x : List (ℕ × Picture)). s.lost ++ x) (sym (spread-push s.queue first));
  active = refl;
  ends = ap (λ n. end_after n (p ∷ ps)) ends ∙ end-of_group high higher (p ∷ ps) counted;
  placed = placed-push count s.queue first s.placed s.within;
  full = s.full;
  fits = fits;
  rising = rises-high since.low (counted.0 + 1) higher (s.queue ++ first ∷ [])
      (rises-push since.low high counted.0 s.queue first s.rising counted.1 counted.2)
      (counted-up (counted.0 + 1) higher ps counted.3);
  rest = λ i r apart is. s.others i r apart (sym (get-other rs place i new apart) ∙ is);
  fills = λ r is. subst (λ (x : Recording). Fills ring x (at place s.queue) first) (same r is) mine;
  few = λ i l. few i l (cases_eq place i);
  whole = whole s.whole;
}
  where
    new : Recording
    new = plain ring taker (map store (p ∷ ps))

    first : Chunk
    first = record { place = place; number = s.mine.begun; first = p; rest = ps }

    mine : Fills ring new (at place s.queue) first
    mine = record {
      has = has-begun ring taker (at place s.queue) place s.mine.begun p ps s.mine.has s.mine.next;
      next = let e = s.mine.next in omega (arith, e, next-after ring taker (p ∷ ps));
      between = s.mine.between;
    }

    same : (r : Recording) → slice_get (slice_set rs place new) place ≡ Some r → new ≡ r
    same r at =
        let many = s.many in
        let within = s.within in
        some-same new r (sym (get-set rs place new (omega (arith, within, many))) ∙ at)

    -- with the new block
    more : (i : ℕ) → place ≡ i → length (at i (s.queue ++ first ∷ [])) ≡ length (at place s.queue) + 1
    more i is =
        ap (λ (x : List Chunk). length x) (push-here i s.queue first is) ∙ length-append (at i s.queue) (first ∷ [])
        ∙ ap (λ (k : ℕ). length (at k s.queue) + 1) (sym is)

    as_many : (i : ℕ) → (place ≡ i → ⊥) → length (at i (s.queue ++ first ∷ [])) ≡ length (at i s.queue)
    as_many i apart = ap (λ (x : List Chunk). length x) (push-apart i s.queue first apart)

    few : (i : ℕ) → i < count → (place ≡ i) ⊎ (place ≡ i → ⊥) → length (at i (s.queue ++ first ∷ [])) ≤ ring.segments
    few i l (inl is) = let room = s.room in omega (arith, room, more i is)
    few i l (inr apart) = let few = s.few i l apart in omega (arith, few, as_many i apart)

    each : ((i : ℕ) → i < since.count → (place ≡ i → ⊥) → length (at i s.queue) ≡ ring.segments)
        → (place < since.count → length (at place s.queue) + 1 ≡ ring.segments) → (i : ℕ) → i < since.count
        → (place ≡ i) ⊎ (place ≡ i → ⊥) → length (at i (s.queue ++ first ∷ [])) ≡ ring.segments
    each others here i l (inl is) = more i is ∙ here (omega (arith, l, is))
    each others here i l (inr apart) = as_many i apart ∙ others i l apart

    whole : (s.lost ≡ since.lost)
        ⊎ (((i : ℕ) → i < since.count → (place ≡ i → ⊥) → length (at i s.queue) ≡ ring.segments)
        × (place < since.count → length (at place s.queue) + 1 ≡ ring.segments))
        → Whole ring since s.lost (s.queue ++ first ∷ [])
    whole (inl none) = inl none
    whole (inr h) = inr (λ i l. each h.0 h.1 i l (cases_eq place i))
