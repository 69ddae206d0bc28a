-- Over every run of a set, the stores hold the newest frames.
use Rattle.std.proofs.Common.{◌≡◌, ◌≢◌, ◌⊎◌, inl, inr, ℕ, zero, suc, ◌+◌, ◌-◌, ◌*◌, ◌%◌, ◌^◌, ◌<◌, ◌≤◌, Some, List, [], ◌∷◌, ◌++◌, drop, length, map, refl, sym, ap, ◌∙◌, subst, arith, append_assoc}
use Rattle.std.proofs.Math.Nat.{mul-le-mul_right, mul-mod_left}
use Rattle.std.proofs.Math.Seq.{drop-append_seam}
use Rattle.std.proofs.lemmas.Bool.{cases_eq}
use Rattle.std.proofs.lemmas.Nat.{mod-mul-add}
use Rattle.std.proofs.lemmas.List.{append-nil, length-append, length-map, length-replicate}
use Rattle.std.proofs.lemmas.List.Elements.{All-nil}
use Rattle.std.proofs.lemmas.Grind.{flat_map-append}
use Rattle.std.specs.Prelude.{All, max, min, replicate, slice_get}
use Rattle.loop_record.specs.Recording.{Picture, Recording, Ring, Step, empty, plain, room, steps, store}
use Rattle.loop_desk.specs.declared.limits.Space.{Space}
use Rattle.loop_pipeline.specs.Nexts.{TakesNext}
use Rattle.loop_laws.specs.Stores.{AreCounted, Counted, EachTells, RingEvent, Run, LongRing, TakesGroup, empty_stores, end_after, frames_placed, joined, placed_by, started, taken}
use Rattle.loop_laws.specs.Laws.{GoOn, HoldNewest, NumbersLast, StoresGoOn, StoresHoldNewest, least_held, taken_at}
use Rattle.loop_laws.proofs.Chunks.{Chunk, end-of, pictures, pictures-numbered}
use Rattle.loop_laws.proofs.OneStore.{Has, plain-append, stores-made, within-steps}
use Rattle.loop_laws.proofs.Queues.{Placed, at, at-past, came_of, count-some, group_at, placed-front, placed-more, rises-high, push-apart, push-here, spread, spread-count, spread-push, taken-spread}
use Rattle.loop_laws.proofs.Sets.{Fills, Filling, Rests, Settled, Since, grow, settle, some-same, start, stores_with}
use Rattle.loop_laws.proofs.Counting.{all-up, counted-up, round-again}
use Rattle.loop_laws.proofs.Rule.{get-within}
use Rattle.loop_laws.proofs.Turns.{begins, choose, some-takes, steps-there, tell-there}

-- ---- one group

-- frames that begin a block
takes-first : (ring : Ring) (since : Since) (keep count high higher : ℕ) (old new : LongRing)
    (came lost : List (ℕ × Picture)) (queue : List Chunk) (place : ℕ) (p : Picture) (ps : List Picture)
    → 1 ≤ ring.slots → high ≤ since.low + 2 ^ 32 → Settled ring since count high old.recordings came lost queue
    → old.end ≡ high % 2 ^ 32 → Counted high (p ∷ ps) higher
    → (g : TakesGroup ring keep old new place (p ∷ ps)) → g.active.next % ring.slots ≡ 0
    → Filling ring since count higher new (came ++ group_at place (p ∷ ps))
takes-first ring since keep count high higher old new came lost queue place p ps some near s ends counted g edge =
    let takes = g.begins edge in
    let mine = s.rest place g.taker g.is_taker in
    let begun : g.taker.next % ring.slots ≡ 0 =
    ap (λ (n : ℕ). n % ring.slots) mine.next ∙ mul-mod_left mine.begun ring.slots in
    let next : TakesNext (high % 2 ^ 32) old.active takes.spaces (Some place) =
    subst (λ (n : ℕ). TakesNext n old.active takes.spaces (Some place)) ends takes.is in
    let b = begins ring since keep count high old.recordings came lost some near queue s old.active place takes.spaces
    takes.tell next g.taker p ps g.made g.is_taker g.by begun in
    let same : stores_with old.recordings place (plain ring b.left (map store (p ∷ ps))) (end_after old.end (p ∷ ps))
    ≡ new =
    ap (λ (r : Recording). stores_with old.recordings place r (end_after old.end (p ∷ ps))) (sym b.is)
    ∙ sym g.leaves in
    let fits = g.fits in
    subst (λ (st : LongRing). Filling ring since count higher st (came ++ group_at place (p ∷ ps))) same
    (start ring since count high higher old.recordings place b.left came p ps old.end (omega (arith, fits, begun))
    b.ready ends counted)

-- frames within a block
takes-more : (ring : Ring) (since : Since) (keep count high higher : ℕ) (old new : LongRing)
    (came : List (ℕ × Picture)) (place : ℕ) (ps : List Picture) → (s : Filling ring since count high old came)
    → Counted high ps higher → (g : TakesGroup ring keep old new place ps) → g.active.next % ring.slots ≢ 0
    → Filling ring since count higher new (came ++ group_at place ps)
takes-more ring since keep count high higher old new came place ps s counted g apart =
    subst (λ (k : ℕ). Filling ring since count higher new (came ++ group_at k ps)) (sym is)
    (subst (λ (st : LongRing). Filling ring since count higher st (came ++ group_at s.last.place ps)) same
    (grow ring since count high higher old came ps g.taker s there room_left counted))
  where
    is : place ≡ s.last.place
    is = g.within apart ∙ s.active

    there : slice_get old.recordings s.last.place ≡ Some g.taker
    there = ap (slice_get old.recordings) (sym is) ∙ g.is_taker

    active : g.active ≡ g.taker
    active = some-same g.active g.taker (sym g.is_active ∙ ap (slice_get old.recordings) s.active ∙ there)

    still : g.taker.next % ring.slots ≢ 0
    still e = apart (ap (λ (r : Recording). r.next % ring.slots) active ∙ e)

    mine : Fills ring g.taker (at s.last.place s.front) s.last
    mine = s.fills g.taker there

    never : length s.last.rest + 1 ≡ ring.slots → ⊥
    never full =
        let next = mine.next in
        let e : g.taker.next ≡ (s.last.number + 1) * ring.slots =
        omega (arith, next, full, end-of s.last.number ring.slots) in
        still (ap (λ (n : ℕ). n % ring.slots) e ∙ mul-mod_left (s.last.number + 1) ring.slots)

    less : length s.last.rest + 1 < ring.slots
    less = let fits = s.fits in omega (arith, fits, never)

    -- what the block still takes
    room_left : length s.last.rest + 1 + length ps ≤ ring.slots
    room_left =
        let fits = g.fits in
        let next = mine.next in
        let e : g.taker.next % ring.slots ≡ length s.last.rest + 1 = ap (λ (n : ℕ). n % ring.slots) next
        ∙ mod-mul-add s.last.number ring.slots (length s.last.rest + 1) less in
        omega (arith, fits, e, less)

    made : g.made ≡ map store ps
    made = plain-append ring keep g.taker ps g.made g.by (within-steps ring g.taker still)

    same : stores_with old.recordings s.last.place (plain ring g.taker (map store ps)) (end_after old.end ps) ≡ new
    same =
        ap (λ (ss : List Step). stores_with old.recordings s.last.place (plain ring g.taker ss) (end_after old.end ps))
        (sym made)
        ∙ ap (λ (k : ℕ). stores_with old.recordings k (plain ring g.taker g.made) (end_after old.end ps)) (sym is)
        ∙ sym g.leaves

-- where the next number begins a block, the last block is full
ends : (ring : Ring) (since : Since) (count high : ℕ) (stores : LongRing) (came : List (ℕ × Picture))
    (active : Recording) (s : Filling ring since count high stores came)
    → slice_get stores.recordings s.last.place ≡ Some active
    → active.next % ring.slots ≡ 0 → length s.last.rest + 1 ≡ ring.slots
ends ring since count high stores came active s there edge = let fits = s.fits in omega (arith, fits, never)
  where
    never : length s.last.rest + 1 < ring.slots → ⊥
    never less =
        let next = (s.fills active there).next in
        let e = ap (λ (n : ℕ). n % ring.slots) next
        ∙ mod-mul-add s.last.number ring.slots (length s.last.rest + 1) less in
        absurd (omega (arith, edge, e))

takes : (ring : Ring) (since : Since) (keep count high higher : ℕ) (old new : LongRing)
    (came : List (ℕ × Picture)) (place : ℕ) (p : Picture) (ps : List Picture) → 1 ≤ ring.slots
    → high ≤ since.low + 2 ^ 32 → Filling ring since count high old came → Counted high (p ∷ ps) higher
    → TakesGroup ring keep old new place (p ∷ ps)
    → Filling ring since count higher new (came ++ group_at place (p ∷ ps))
takes ring since keep count high higher old new came place p ps some near s counted g =
    go (cases_eq (g.active.next % ring.slots) 0)
  where
    go : (g.active.next % ring.slots ≡ 0) ⊎ (g.active.next % ring.slots ≡ 0 → ⊥)
        → Filling ring since count higher new (came ++ group_at place (p ∷ ps))
    go (inl edge) =
        let all = settle ring since count high old came s
        (ends ring since count high old came g.active s (ap (slice_get old.recordings) (sym s.active) ∙ g.is_active)
        edge) in
        takes-first ring since keep count high higher old new came s.lost (s.front ++ s.last ∷ []) place p ps some near
        all s.ends counted g edge
    go (inr apart) = takes-more ring since keep count high higher old new came place (p ∷ ps) s counted g apart

-- ---- the start

get-replicate : {X : Type 0} (n i : ℕ) (x y : X) → slice_get (replicate n x) i ≡ Some y → x ≡ y
get-replicate zero i x y e = absurd cc
get-replicate (suc n) zero x y e = some-same x y e
get-replicate (suc n) (suc i) x y e = get-replicate n i x y e

nothing : (ring : Ring) → Rests ring empty []
nothing ring = record {
  has = record { frames = refl; clips = refl };
  begun = 0;
  next = omega arith;
  between = omega arith;
}

-- ---- nothing came yet

-- nothing is recorded in any store
record Bare (count high : ℕ) (stores : LongRing) : Type 0 where
  pub many : length stores.recordings ≡ count
  pub each : (place : ℕ) (r : Recording) → slice_get stores.recordings place ≡ Some r → empty ≡ r
  pub ends : stores.end ≡ high % 2 ^ 32

settled-bare : (ring : Ring) (since : Since) (count high : ℕ) (stores : LongRing) → Bare count high stores
    → since.lost ≡ [] → since.count ≤ count → since.low ≤ high
    → Settled ring since count high stores.recordings [] [] []
settled-bare ring since count high stores b none grew low = record {
  many = b.many;
  grew = grew;
  all = All-nil (λ (t : ℕ × Picture). t.0 < count);
  came_is = refl;
  placed = tt;
  full = tt;
  rising = low;
  rest = λ place r there. subst (λ (x : Recording). Rests ring x []) (b.each place r there) (nothing ring);
  few = λ place l. omega arith;
  whole = inl (sym none);
}

-- the stores hold what came, or nothing came yet
abbrev Holding : Ring → Since → ℕ → ℕ → LongRing → List (ℕ × Picture) → Type 0
Holding ring since count high stores came =
    ((came ≡ []) × (since.lost ≡ []) × (since.count ≤ count) × (since.low ≤ high) × Bare count high stores)
    ⊎ Filling ring since count high stores came

-- ---- a start, and a store that joins

end-started : (stores : LongRing) (high lost : ℕ) → stores.end ≡ high % 2 ^ 32
    → (stores.end + lost) % 2 ^ 32 ≡ (high + lost) % 2 ^ 32
end-started stores high lost ends = ap (λ n. (n + lost) % 2 ^ 32) ends ∙ round-again high lost

starts : (ring : Ring) (since : Since) (count high lost : ℕ) (stores : LongRing) (came : List (ℕ × Picture))
    → Holding ring since count high stores came
    → Holding ring since count (high + lost) (record stores { end = (stores.end + lost) % 2 ^ 32 }) came
starts ring since count high lost stores came (inl b) = inl (
  b.0,
  b.1,
  b.2,
  let low = b.3 in omega (arith, low),
  record { many = b.4.many; each = b.4.each; ends = end-started stores high lost b.4.ends },
)
starts ring since count high lost stores came (inr s) = inr (record {
  many = s.many;
  grew = s.grew;
  all = s.all;
  lost = s.lost;
  front = s.front;
  last = s.last;
  came_is = s.came_is;
  active = s.active;
  ends = end-started stores high lost s.ends;
  placed = s.placed;
  full = s.full;
  fits = s.fits;
  rising = rises-high since.low high (high + lost) (s.front ++ s.last ∷ []) s.rising (omega arith);
  rest = s.rest;
  fills = s.fills;
  few = s.few;
  whole = s.whole;
})

-- what a list has at a place, with one more at its end
get-more : {X : Type 0} (xs : List X) (x y : X) (i : ℕ) → slice_get (xs ++ x ∷ []) i ≡ Some y
    → (slice_get xs i ≡ Some y) ⊎ ((i ≡ length xs) × (x ≡ y))
get-more [] x y zero e = inr (refl, some-same x y e)
get-more [] x y (suc i) e = absurd cc
get-more (z ∷ xs) x y zero e = inl e
get-more (z ∷ xs) x y (suc i) e = go (get-more xs x y i e)
  where
    go : (slice_get xs i ≡ Some y) ⊎ ((i ≡ length xs) × (x ≡ y))
        → (slice_get xs i ≡ Some y) ⊎ ((suc i ≡ suc (length xs)) × (x ≡ y))
    go (inl there) = inl there
    go (inr last) = inr (ap suc last.0, last.1)

joins : (ring : Ring) (since : Since) (count high : ℕ) (stores : LongRing) (came : List (ℕ × Picture))
    → Holding ring since count high stores came
    → Holding ring since (count + 1) high (record stores { recordings = stores.recordings ++ empty ∷ [] }) came
joins ring since count high stores came (inl b) = inl (
  b.0,
  b.1,
  let grew = b.2 in omega (arith, grew),
  b.3,
  record {
    many = length-append stores.recordings (empty ∷ []) ∙ ap (λ n. n + 1) b.4.many;
    each = λ place r there. go place r (get-more stores.recordings empty r place there);
    ends = b.4.ends;
  },
)
  where
    go : (place : ℕ) (r : Recording)
        → (slice_get stores.recordings place ≡ Some r) ⊎ ((place ≡ length stores.recordings) × (empty ≡ r)) → empty ≡ r
    go place r (inl there) = b.4.each place r there
    go place r (inr last) = last.1
joins ring since count high stores came (inr s) = inr (record {
  many = length-append stores.recordings (empty ∷ []) ∙ ap (λ n. n + 1) s.many;
  grew = let grew = s.grew in omega (arith, grew);
  all = λ k d l. let less = s.all k d l in omega (arith, less);
  lost = s.lost;
  front = s.front;
  last = s.last;
  came_is = s.came_is;
  active = s.active;
  ends = s.ends;
  placed = placed-more count (s.front ++ s.last ∷ []) s.placed;
  full = s.full;
  fits = s.fits;
  rising = s.rising;
  rest = λ place r apart there. rest place r apart (get-more stores.recordings empty r place there);
  fills = λ r there. fills r (get-more stores.recordings empty r s.last.place there);
  few = λ place l. few place (cases_eq place count) l;
  whole = s.whole;
})
  where
    front : Placed count s.front × (s.last.place < count)
    front = placed-front count s.front s.last s.placed

    rest : (place : ℕ) (r : Recording) → (s.last.place ≡ place → ⊥)
        → (slice_get stores.recordings place ≡ Some r) ⊎ ((place ≡ length stores.recordings) × (empty ≡ r))
        → Rests ring r (at place s.front)
    rest place r apart (inl there) = s.rest place r apart there
    rest place r apart (inr last) =
        let many = s.many in
        let past = last.0 in
        subst (Rests ring r) (sym (at-past count place s.front front.0 (omega (arith, many, past))))
        (subst (λ (x : Recording). Rests ring x []) last.1 (nothing ring))

    fills : (r : Recording)
        → (slice_get stores.recordings s.last.place ≡ Some r)
        ⊎ ((s.last.place ≡ length stores.recordings) × (empty ≡ r))
        → Fills ring r (at s.last.place s.front) s.last
    fills r (inl there) = s.fills r there
    fills r (inr last) =
        let many = s.many in
        let past = last.0 in
        let within = front.1 in
        absurd (omega (arith, many, past, within))

    few : (place : ℕ) → (place ≡ count) ⊎ (place ≡ count → ⊥) → place < count + 1
        → length (at place (s.front ++ s.last ∷ [])) ≤ ring.segments
    few place (inl is) l =
        let none = ap (λ (x : List Chunk). length x)
        (at-past count place (s.front ++ s.last ∷ []) s.placed (omega (arith, is))) in
        omega (arith, none)
    few place (inr apart) l = s.few place (omega (arith, l, apart))

-- ---- a run

-- a group
takes-group : (ring : Ring) (since : Since) (keep count high higher : ℕ) (old new : LongRing)
    (came : List (ℕ × Picture)) (place : ℕ) (group : List Picture) → 1 ≤ ring.slots → high ≤ since.low + 2 ^ 32
    → Holding ring since count high old came → Counted high group higher → TakesGroup ring keep old new place group
    → Holding ring since count higher new (came ++ group_at place group)
takes-group ring since keep count high higher old new came place [] some near s counted g =
    let any = g.some in absurd (omega (arith, any))
takes-group ring since keep count high higher old new came place (p ∷ ps) some near (inr s) counted g =
    inr (takes ring since keep count high higher old new came place p ps some near s counted g)
takes-group ring since keep count high higher old new came place (p ∷ ps) some near (inl b) counted g =
    let is = b.4.each old.active g.active g.is_active in
    let next : g.active.next ≡ 0 = ap (λ (r : Recording). r.next) (sym is) in
    let edge : g.active.next % ring.slots ≡ 0 = omega (arith, next, some) in
    inr (subst (λ (x : List (ℕ × Picture)). Filling ring since count higher new (x ++ group_at place (p ∷ ps)))
    (sym b.0) (takes-first ring since keep count high higher old new [] [] [] place p ps some near
    (settled-bare ring since count high old b.4 b.1 b.2 b.3) b.4.ends counted g edge))

-- how many stores there are then
abbrev stores-then : ℕ → List RingEvent → ℕ
stores-then count [] = count
stores-then count (joined ∷ hs) = stores-then (count + 1) hs
stores-then count (taken place group ∷ hs) = stores-then count hs
stores-then count (started lost ∷ hs) = stores-then count hs

runs : (ring : Ring) (since : Since) (keep count low high : ℕ) (hs : List RingEvent) (old new : LongRing)
    (came : List (ℕ × Picture)) → 1 ≤ ring.slots → high ≤ since.low + 2 ^ 32
    → Holding ring since count low old came → Run ring keep old hs new → AreCounted low hs high
    → Holding ring since (stores-then count hs) high new (came ++ frames_placed hs)
runs ring since keep count low high [] old new came some near s run counted =
    subst (λ (x : List (ℕ × Picture)). Holding ring since count high new x) (sym (append-nil came))
    (subst (λ (st : LongRing). Holding ring since count high st came) (sym run)
    (subst (λ (n : ℕ). Holding ring since count n old came) (sym counted) s))
runs ring since keep count low high (joined ∷ hs) old new came some near s run counted =
    runs ring since keep (count + 1) low high hs run.0 new came some near
    (subst (λ (st : LongRing). Holding ring since (count + 1) low st came) (sym run.1)
    (joins ring since count low old came s)) run.2 counted
runs ring since keep count low high (started lost ∷ hs) old new came some near s run counted =
    runs ring since keep count (low + lost) high hs run.0 new came some near
    (subst (λ (st : LongRing). Holding ring since count (low + lost) st came) (sym run.1)
    (starts ring since count low lost old came s)) run.2 counted
runs ring since keep count low high (taken place group ∷ hs) old new came some near s run counted =
    let rest = all-up counted.0 high hs counted.2 in
    let here = counted-up low counted.0 group counted.1 in
    subst (λ (x : List (ℕ × Picture)). Holding ring since (stores-then count hs) high new x)
    (append_assoc came (group_at place group) (frames_placed hs))
    (runs ring since keep count counted.0 high hs run.0 new (came ++ group_at place group) some near
    (takes-group ring since keep count low counted.0 old run.0 came place group some (omega (arith, near, rest, here)) s
    counted.1 run.1) run.2 counted.2)

-- ---- what is held

newest : (ring : Ring) (since : Since) (count high more : ℕ) (stores : LongRing) (came : List (ℕ × Picture))
    → Filling ring since count high stores came → length since.lost + more ≤ length came
    → HoldNewest ring stores came since.count more
newest ring since count high more stores came s fewer = record {
  placed = subst (λ (n : ℕ). All (λ (t : ℕ × Picture). t.0 < n) came) (sym s.many) s.all;
  gone = length s.lost;
  hold = λ place r there. hold place r (has place r there (cases_eq s.last.place place));
  enough = enough s.whole;
}
  where
    left : drop (length s.lost) came ≡ spread (s.front ++ s.last ∷ [])
    left = ap (drop (length s.lost)) s.came_is ∙ drop-append_seam s.lost (spread (s.front ++ s.last ∷ []))

    has : (place : ℕ) (r : Recording) → slice_get stores.recordings place ≡ Some r → (s.last.place ≡ place)
        ⊎ (s.last.place ≡ place → ⊥) → Has ring r (at place (s.front ++ s.last ∷ []))
    has place r there (inl is) =
        let here : at s.last.place s.front ++ s.last ∷ [] ≡ at place (s.front ++ s.last ∷ []) =
        ap (λ (k : ℕ). at k s.front ++ s.last ∷ []) is ∙ sym (push-here place s.front s.last is) in
        subst (Has ring r) here (s.fills r (ap (slice_get stores.recordings) is ∙ there)).has
    has place r there (inr apart) =
        subst (Has ring r) (sym (push-apart place s.front s.last apart)) (s.rest place r apart there).has

    hold : (place : ℕ) (r : Recording) → Has ring r (at place (s.front ++ s.last ∷ []))
        → map (λ (f : ℕ × Picture). f.1) r.frames ≡ taken_at place (drop (length s.lost) came)
    hold place r h =
        ap (map (λ (f : ℕ × Picture). f.1)) h.frames
        ∙ pictures-numbered ring.slots (at place (s.front ++ s.last ∷ []))
        ∙ sym (taken-spread place (s.front ++ s.last ∷ [])) ∙ ap (taken_at place) (sym left)

    -- all that came: what was lost, the full blocks and the last one
    all : length came ≡ length s.lost + (length s.front * ring.slots + (length s.last.rest + 1))
    all =
        let here = length-map {B = ℕ × Picture} (pictures s.last) (λ (p : Picture). (s.last.place, p)) in
        let both = ap (λ (x : List (ℕ × Picture)). length x) (spread-push s.front s.last) in
        let sum = ap (λ (x : List (ℕ × Picture)). length x) s.came_is in
        let front = spread-count ring.slots s.front s.full in
        let parts = length-append s.lost (spread (s.front ++ s.last ∷ [])) in
        omega (arith, here, both, sum, front, parts, length-append (spread s.front) (came_of s.last))

    enough : (s.lost ≡ since.lost)
        ⊎ ((place : ℕ) → place < since.count → length (at place (s.front ++ s.last ∷ [])) ≡ ring.segments)
        → least_held ring since.count more ≤ length came - length s.lost
    enough (inl none) =
        let e = ap (λ (x : List (ℕ × Picture)). length x) none in
        smaller (length came) more ((since.count * ring.segments - 1) * ring.slots + 1) (length s.lost)
        (length since.lost) e fewer
      where
        smaller : (a m b c d : ℕ) → c ≡ d → d + m ≤ a → min m b ≤ a - c
        smaller a m b c d e few = omega (arith, e, few)
    enough (inr each) =
        let blocks = count-some since.count count ring.segments (s.front ++ s.last ∷ []) s.placed s.grew each in
        let some = length-append s.front (s.last ∷ []) in
        let full : since.count * ring.segments - 1 ≤ length s.front = omega (arith, blocks, some) in
        let held : (since.count * ring.segments - 1) * ring.slots ≤ length s.front * ring.slots =
        mul-le-mul_right ring.slots full in
        smaller (length came) more ((since.count * ring.segments - 1) * ring.slots) (length s.lost)
        (length s.front * ring.slots) (length s.last.rest) held all
      where
        smaller : (a m b c d e : ℕ) → b ≤ d → a ≡ c + (d + (e + 1)) → min m (b + 1) ≤ a - c
        smaller a m b c d e same sum = omega (arith, same, sum)

nothing-came : (ring : Ring) (count full high : ℕ) (stores : LongRing) → Bare count high stores
    → HoldNewest ring stores [] full 0
nothing-came ring count full high stores b = record {
  placed = All-nil (λ (t : ℕ × Picture). t.0 < length stores.recordings);
  gone = 0;
  hold = λ place r there. ap (λ (x : Recording). map (λ (f : ℕ × Picture). f.1) x.frames) (sym (b.each place r there));
  enough = small ((full * ring.segments - 1) * ring.slots + 1);
}
  where
    small : (b : ℕ) → min 0 b ≤ 0 - 0
    small b = omega arith

-- from a moment on
since-then : (ring : Ring) (since : Since) (count high : ℕ) (stores : LongRing) (came : List (ℕ × Picture))
    → Holding ring since count high stores came
    → (lost : List (ℕ × Picture)) × (length lost ≤ length came)
    × Holding ring (record { count = count; lost = lost; low = since.low }) count high stores came
since-then ring since count high stores came (inl b) =
    ([], omega arith, inl (b.0, refl, omega arith, b.3, b.4))
since-then ring since count high stores came (inr s) = (
  s.lost,
  few,
  inr (record {
    many = s.many;
    grew = omega arith;
    all = s.all;
    lost = s.lost;
    front = s.front;
    last = s.last;
    came_is = s.came_is;
    active = s.active;
    ends = s.ends;
    placed = s.placed;
    full = s.full;
    fits = s.fits;
    rising = s.rising;
    rest = s.rest;
    fills = s.fills;
    few = s.few;
    whole = inl refl;
  }),
)
  where
    few : length s.lost ≤ length came
    few =
        let sum = ap (λ (x : List (ℕ × Picture)). length x) s.came_is in
        omega (arith, sum, length-append s.lost (spread (s.front ++ s.last ∷ [])))

bare-empty : (count first low : ℕ) → Bare count low (empty_stores count first (low % 2 ^ 32))
bare-empty count first low = record {
  many = length-replicate count empty;
  each = λ place r there. get-replicate count place empty r there;
  ends = refl;
}

begin : (ring : Ring) (count first low : ℕ)
    → Holding ring (record { count = count; lost = []; low = low }) count low
    (empty_stores count first (low % 2 ^ 32)) []
begin ring count first low = inl (refl, refl, omega arith, omega arith, bare-empty count first low)

-- the counts of what happens one after the other
counted-apart : (low high : ℕ) (before after : List RingEvent) → AreCounted low (before ++ after) high
    → (mid : ℕ) × AreCounted low before mid × AreCounted mid after high
counted-apart low high [] after h = (low, refl, h)
counted-apart low high (joined ∷ hs) after h = counted-apart low high hs after h
counted-apart low high (started lost ∷ hs) after h = counted-apart (low + lost) high hs after h
counted-apart low high (taken place group ∷ hs) after h =
    let rest = counted-apart h.0 high hs after h.2 in (rest.0, (h.0, h.1, rest.1), rest.2)

placed-apart : (before after : List RingEvent)
    → frames_placed (before ++ after) ≡ frames_placed before ++ frames_placed after
placed-apart before after = flat_map-append placed_by before after

-- the stores are as many as were counted
holding-many : (ring : Ring) (since : Since) (count high : ℕ) (stores : LongRing) (came : List (ℕ × Picture))
    → Holding ring since count high stores came → length stores.recordings ≡ count
holding-many ring since count high stores came (inl b) = b.4.many
holding-many ring since count high stores came (inr s) = s.many

hold-newest : (ring : Ring) (since : Since) (count high : ℕ) (stores : LongRing) (mid more : List (ℕ × Picture))
    → length since.lost ≤ length mid → Holding ring since count high stores (mid ++ more)
    → HoldNewest ring stores (mid ++ more) since.count (length more)
hold-newest ring since count high stores mid more fewer (inr s) =
    let sum = length-append mid more in
    newest ring since count high (length more) stores (mid ++ more) s (omega (arith, fewer, sum))
hold-newest ring since count high stores mid more fewer (inl b) =
    let sum = ap (λ (x : List (ℕ × Picture)). length x) b.0 in
    let both = length-append mid more in
    let none : length more ≡ 0 = omega (arith, sum, both) in
    subst (λ (n : ℕ). HoldNewest ring stores (mid ++ more) since.count n) (sym none)
    (subst (λ (x : List (ℕ × Picture)). HoldNewest ring stores x since.count 0) (sym b.0)
    (nothing-came ring count since.count high stores b.4))

pub stores-hold_newest : StoresHoldNewest
stores-hold_newest ring keep count first low high before after mid stores some early late counted near =
    let parts = counted-apart low high before after counted in
    let rest = all-up parts.0 high after parts.2 in
    let since : Since = record { count = count; lost = []; low = low } in
    let there = runs ring since keep count low parts.0 before (empty_stores count first (low % 2 ^ 32)) mid [] some
    (omega (arith, near, rest)) (begin ring count first low) early parts.1 in
    let many = holding-many ring since (stores-then count before) parts.0 mid (frames_placed before) there in
    let then = since-then ring since (stores-then count before) parts.0 mid (frames_placed before) there in
    let last = runs ring (record { count = stores-then count before; lost = then.0; low = low }) keep
    (stores-then count before) parts.0 high after mid stores (frames_placed before) some near then.2 late parts.2 in
    subst (λ (x : List (ℕ × Picture)). HoldNewest ring stores x (length mid.recordings) (length (frames_placed after)))
    (sym (placed-apart before after))
    (subst (λ (n : ℕ). HoldNewest ring stores (frames_placed before ++ frames_placed after) n
    (length (frames_placed after))) (sym many)
    (hold-newest ring (record { count = stores-then count before; lost = then.0; low = low })
    (stores-then (stores-then count before) after) high stores (frames_placed before) (frames_placed after) then.1
    last))

-- ---- the stores go on

go-on-settled : (ring : Ring) (since : Since) (keep count high : ℕ) (stores : LongRing)
    (came lost : List (ℕ × Picture)) (queue : List Chunk) (active : Recording) → 1 ≤ ring.slots
    → high ≤ since.low + 2 ^ 32 → Settled ring since count high stores.recordings came lost queue
    → slice_get stores.recordings stores.active ≡ Some active → max 1 keep < ring.segments
    → active.next % ring.slots ≡ 0 → GoOn ring keep stores active
go-on-settled ring since keep count high stores came lost queue active some near s there more edge = record {
  turns = λ e spaces tell next. some-takes ring since keep count high stores.recordings came lost some near queue s
      stores.end stores.active active spaces there tell more next;
  takes = taken;
}
  where
    taken : NumbersLast ring stores.recordings → (group : List Picture) → 1 ≤ length group
        → length group ≤ room ring active
        → (place : ℕ) × ((new : LongRing) × TakesGroup ring keep stores new place group)
    taken left group any fits =
        let rs = stores.recordings in
        let tell = tell-there ring since keep count high rs came lost some near queue s in
        let all = tell.1.all in
        let next = choose ring since keep count high rs came lost some near queue s stores.end stores.active active
        tell.0 there tell.1 more in
        let within = next.1 in
        let taker = get-within rs next.0 (omega (arith, within, all)) in
        let made = steps-there ring since keep count high rs came lost some near queue s stores.end stores.active next.0
        tell.0 tell.1 next.2 taker.0 group taker.1 (left next.0 taker.0 taker.1) more in
        (next.0, so next.0 tell.0 tell.1 next.2 taker.0 taker.1 made.0 made.1)
      where
        -- the taker takes the group by these steps
        so : (place : ℕ) (spaces : List Space) → EachTells ring keep stores.recordings spaces
            → TakesNext stores.end stores.active spaces (Some place) → (taker : Recording)
            → slice_get stores.recordings place ≡ Some taker → (made : List Step)
            → steps ring keep taker group ≡ Some made
            → (new : LongRing) × TakesGroup ring keep stores new place group
        so place spaces tell next taker is_taker made by =
            let mine = s.rest place taker is_taker in
            let same : taker.next % ring.slots ≡ 0 =
            ap (λ (n : ℕ). n % ring.slots) mine.next ∙ mul-mod_left mine.begun ring.slots in (
              stores_with stores.recordings place (plain ring taker made) (end_after stores.end group),
              record {
                active = active;
                is_active = there;
                within = λ apart. absurd (apart edge);
                begins = λ e. record { spaces = spaces; tell = tell; is = next };
                taker = taker;
                is_taker = is_taker;
                some = any;
                fits = omega (arith, fits, edge, same);
                made = made;
                by = by;
                leaves = refl;
              },
            )

go-on-filling : (ring : Ring) (since : Since) (keep count high : ℕ) (stores : LongRing) (came : List (ℕ × Picture))
    (active : Recording) → 1 ≤ ring.slots → high ≤ since.low + 2 ^ 32 → Filling ring since count high stores came
    → slice_get stores.recordings stores.active ≡ Some active → max 1 keep < ring.segments
    → GoOn ring keep stores active
go-on-filling ring since keep count high stores came active some near s there more =
    go (cases_eq (active.next % ring.slots) 0)
  where
    go : (active.next % ring.slots ≡ 0) ⊎ (active.next % ring.slots ≡ 0 → ⊥) → GoOn ring keep stores active
    go (inl edge) =
        let at = ap (slice_get stores.recordings) (sym s.active) ∙ there in
        let full = ends ring since count high stores came active s at edge in
        go-on-settled ring since keep count high stores came s.lost (s.front ++ s.last ∷ []) active some near
        (settle ring since count high stores came s full) there more edge
    go (inr apart) = record {
      turns = λ edge spaces tell next. apart edge;
      takes = λ left group any fits. (
        stores.active,
        (
          stores_with stores.recordings stores.active (plain ring active (map store group))
              (end_after stores.end group),
          record {
            active = active;
            is_active = there;
            within = λ e. refl;
            begins = λ edge. absurd (apart edge);
            taker = active;
            is_taker = there;
            some = any;
            fits = fits;
            made = map store group;
            by = stores-made ring keep active group (left stores.active active there) (within-steps ring active apart);
            leaves = refl;
          },
        ),
      );
    }

go-on : (ring : Ring) (since : Since) (keep count high : ℕ) (stores : LongRing) (came : List (ℕ × Picture))
    (active : Recording) → 1 ≤ ring.slots → high ≤ since.low + 2 ^ 32 → Holding ring since count high stores came
    → slice_get stores.recordings stores.active ≡ Some active → max 1 keep < ring.segments
    → GoOn ring keep stores active
go-on ring since keep count high stores came active some near (inr s) there more =
    go-on-filling ring since keep count high stores came active some near s there more
go-on ring since keep count high stores came active some near (inl b) there more =
    let next : active.next ≡ 0 = ap (λ (r : Recording). r.next) (sym (b.4.each stores.active active there)) in
    go-on-settled ring since keep count high stores [] [] [] active some near
    (settled-bare ring since count high stores b.4 b.1 b.2 b.3) there more (omega (arith, next, some))

pub stores-go_on : StoresGoOn
stores-go_on ring keep count first low high happened stores active some more run counted near there =
    let since : Since = record { count = count; lost = []; low = low } in
    go-on ring since keep (stores-then count happened) high stores (frames_placed happened) active some near
    (runs ring since keep count low high happened (empty_stores count first (low % 2 ^ 32)) stores [] some near
    (begin ring count first low) run counted) there more
