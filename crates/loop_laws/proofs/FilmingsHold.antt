-- After a stretch of a filming the stores hold the newest frames.
use Rattle.std.proofs.Common.{◌≡◌, ◌⊎◌, inl, inr, ℕ, ◌+◌, ◌-◌, ◌<◌, ◌≤◌, Bool, true, false, cond, not, max, Option, Some, None, is_some, List, [], ◌∷◌, ◌++◌, length, map, refl, sym, ap, ◌∙◌, subst, arith}
use Rattle.std.proofs.lemmas.Bool.{cases_lt}
use Rattle.std.proofs.lemmas.List.{length-take}
use Rattle.std.specs.List.{filter, find, list_all, list_any}
use Rattle.loop_disk.specs.Medium.{Medium}
use Rattle.loop_record.specs.declared.clip.Span.{Span}
use Rattle.loop_record.specs.Recording.{Picture, Recording, Ring, Step, after_step, held_blocks, is_locked, lock, meets, older_blocks, plain, recycle, store, unlock}
use Rattle.loop_pipeline.specs.Turns.{RoomForBlock}
use Rattle.loop_laws.specs.FilmingRuns.{FilmingHoldsNewest, UnlockedNeverFull, is_append, is_start, placed_at}
use Rattle.loop_laws.specs.Filmings.{ring_now}
use Rattle.loop_laws.specs.Stores.{AreCounted, Counted, RingEvent, frames_placed, joined, started, taken}
use Rattle.loop_laws.proofs.Counting.{counted-up}
use Rattle.loop_laws.proofs.FilmingRuns.{filming-is-run}
use Rattle.loop_laws.proofs.Runs.{stores-hold_newest}

-- ---- nothing is locked

none-locked : (ring : Ring) (b : ℕ) (clips : List (Option Span)) → list_any is_some clips ≡ false
    → list_any (meets ring b) clips ≡ false
none-locked ring b [] none = refl
none-locked ring b (None ∷ clips) none = none-locked ring b clips none
none-locked ring b (Some s ∷ clips) none = absurd cc

clips-stay : (ring : Ring) (r : Recording) (made : List Step) → list_all is_append made ≡ true
    → (plain ring r made).clips ≡ r.clips
clips-stay ring r [] all = refl
clips-stay ring r (store p ∷ made) all = clips-stay ring (after_step ring r (store p)) made all
clips-stay ring r (recycle b ∷ made) all = clips-stay ring (after_step ring r (recycle b)) made all
clips-stay ring r (lock s ∷ made) all = absurd cc
clips-stay ring r (unlock id ∷ made) all = absurd cc

find-all : (p : ℕ → Bool) (xs : List ℕ) → 1 ≤ length xs → ((x : ℕ) → p x ≡ true) → (v : ℕ) × (find p xs ≡ Some v)
find-all p [] some all = absurd (omega (arith, some))
find-all p (x ∷ xs) some all = (x, ap (λ t. cond t (Some x) (find p xs)) (all x))

pub unlocked-never-full : UnlockedNeverFull
unlocked-never-full ring keep r less none made all = go (cases_lt (length (held_blocks ring q)) ring.segments)
  where
    q : Recording
    q = plain ring r made

    open_clips : list_any is_some q.clips ≡ false
    open_clips = ap (list_any is_some) (clips-stay ring r made all) ∙ none

    go : (length (held_blocks ring q) < ring.segments) ⊎ (ring.segments ≤ length (held_blocks ring q))
        → RoomForBlock ring keep q
    go (inl few) = inl few
    go (inr most) =
        let count = length-take (length (held_blocks ring q) - max 1 keep) (held_blocks ring q) in
        inr (find-all (λ b. not (is_locked ring q b)) (older_blocks ring keep q) (omega (arith, count, most, less))
        (λ b. ap not (none-locked ring b q.clips open_clips)))

-- ---- frames are counted on

counted-front : (low high : ℕ) (ps qs : List Picture) → Counted low (ps ++ qs) high
    → (mid : ℕ) × Counted low ps mid × Counted mid qs high
counted-front low high [] qs h = (low, refl, h)
counted-front low high (p ∷ ps) qs h =
    let rest = counted-front (h.0 + 1) high ps qs h.3 in
    (rest.0, (h.0, h.1, h.2, rest.1), rest.2)

frames-of : (place : ℕ) (ps : List Picture) → map (λ (t : ℕ × Picture). t.1) (placed_at place ps) ≡ ps
frames-of place [] = refl
frames-of place (p ∷ ps) = ap (λ l. p ∷ l) (frames-of place ps)

map-both : (xs ys : List (ℕ × Picture)) → map (λ t. t.1) (xs ++ ys) ≡ map (λ t. t.1) xs ++ map (λ t. t.1) ys
map-both [] ys = refl
map-both (x ∷ xs) ys = ap (λ l. x.1 ∷ l) (map-both xs ys)

events-counted : (low high : ℕ) (happened : List RingEvent) → filter is_start happened ≡ []
    → Counted low (map (λ t. t.1) (frames_placed happened)) high → AreCounted low happened high
events-counted low high [] none h = h
events-counted low high (joined ∷ more) none h = events-counted low high more none h
events-counted low high (started lost ∷ more) none h = absurd cc
events-counted low high (taken place group ∷ more) none h =
    let same = map-both (placed_at place group) (frames_placed more)
    ∙ ap (λ l. l ++ map (λ (t : ℕ × Picture). t.1) (frames_placed more)) (frames-of place group) in
    let parts = counted-front low high group (map (λ t. t.1) (frames_placed more))
    (subst (λ (l : List Picture). Counted low l high) same h) in
    (parts.0, parts.1, events-counted parts.0 high more none parts.2)

both-counted : (low mid high : ℕ) (xs ys : List RingEvent) → AreCounted low xs mid → AreCounted mid ys high
    → AreCounted low (xs ++ ys) high
both-counted low mid high [] ys first second = subst (λ n. AreCounted n ys high) first second
both-counted low mid high (taken place group ∷ xs) ys first second =
    (first.0, first.1, both-counted first.0 mid high xs ys first.2 second)
both-counted low mid high (started lost ∷ xs) ys first second = both-counted (low + lost) mid high xs ys first second
both-counted low mid high (joined ∷ xs) ys first second = both-counted low mid high xs ys first second

pub filming-holds-newest : {D : Type 0} (medium : D → Medium) → FilmingHoldsNewest medium
filming-holds-newest medium ring keep recordings old new events count first low mid high before some begins happened
    well earlier counted more near =
    let run = filming-is-run medium ring keep recordings old new events some begins happened well in
    let split = ap (map (λ (t : ℕ × Picture). t.1)) (sym run.frames)
    ∙ map-both (frames_placed run.happened) (placed_at new.active run.desk.pending) in
    let parts = counted-front mid high (map (λ t. t.1) (frames_placed run.happened))
    (map (λ t. t.1) (placed_at new.active run.desk.pending))
    (subst (λ (l : List Picture). Counted mid l high) split more) in
    let rest = counted-up parts.0 high (map (λ t. t.1) (placed_at new.active run.desk.pending)) parts.2 in
    let later = events-counted mid parts.0 run.happened run.no_start parts.1 in
    record {
      run = run;
      holds = stores-hold_newest ring keep count first low parts.0 before run.happened (ring_now old recordings)
          run.stores some earlier run.run (both-counted low mid parts.0 before run.happened counted later)
          (omega (arith, rest, near));
    }
