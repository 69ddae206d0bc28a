-- That the store which takes the next block has room then, and that there is one.
use Rattle.std.proofs.Common.{◌≡◌, ◌≢◌, ◌⊎◌, inl, inr, ℕ, ◌+◌, ◌%◌, ◌^◌, ◌<◌, ◌≤◌, Bool, true, false, max, Option, Some, None, List, [], ◌∷◌, ◌++◌, length, map, refl, sym, ap, ◌∙◌, subst, arith, append_assoc}
use Rattle.std.proofs.Math.Nat.{mul-mod_left}
use Rattle.std.proofs.lemmas.Bool.{cases_eq, cases_lt}
use Rattle.std.proofs.lemmas.List.Quantifiers.{position-Some}
use Rattle.std.proofs.lemmas.Option.{get_or_from_slice_get, slice_get_within}
use Rattle.std.specs.Prelude.{slice_get}
use Rattle.std.specs.List.{position}
use Rattle.loop_record.specs.Counts.{cyclic_place}
use Rattle.loop_record.specs.Recording.{Picture, Recording, Ring, Step, after_step, held_blocks, last_number, needs_recycling, plain, recycle, steps, store, victim}
use Rattle.loop_record.proofs.TestFacts.{clash}
use Rattle.loop_desk.specs.declared.limits.Space.{Space}
use Rattle.loop_desk.specs.Space.{TellsSpace}
use Rattle.loop_pipeline.specs.Nexts.{IsElsewhere, IsFreeAt, IsOldest, TakesNext, has_free}
use Rattle.loop_laws.specs.Stores.{EachTells}
use Rattle.loop_laws.proofs.Chunks.{Chunk, Fit, full-fit}
use Rattle.loop_laws.proofs.OneStore.{count-held, free-steps, full-steps, plain-append, recycles-made, recycling-append, space-there, stores-made, tells-first, tells-none, victim-first}
use Rattle.loop_laws.proofs.Queues.{at, at-apart, at-here, came_of, count-of, full-at, rises-low, spread}
use Rattle.loop_laws.proofs.Counting.{older}
use Rattle.loop_laws.proofs.Sets.{Ready, Rests, Settled, Since, rests-recycled, some-same}
use Rattle.loop_laws.proofs.Rule.{FreeOrOldest, NoneMayGo, free-or-oldest, get-within, none-passes, oldest-of, spaces-there}

-- the taker, once its first block has gone if it had to, and the room for the frame
pub record Begins (ring : Ring) (since : Since) (count high : ℕ) (rs : List Recording) (came : List (ℕ × Picture))
    (place : ℕ) (taker : Recording) (p : Picture) (ps : List Picture) (made : List Step) : Type 0 where
  pub left : Recording
  pub ready : Ready ring since count high rs place left came
  pub is : plain ring taker made ≡ plain ring left (map store (p ∷ ps))

never-both : (a b c : ℕ) → a ≤ b → a ≡ c → b < c → ⊥
never-both a b c most same less = absurd (omega (arith, most, same, less))

-- ---- what the stores tell

module _ (ring : Ring) (since : Since) (keep count high : ℕ) (rs : List Recording) (came lost : List (ℕ × Picture))
    (some : 1 ≤ ring.slots) (near : high ≤ since.low + 2 ^ 32) where
  fit-at : (queue : List Chunk) → Settled ring since count high rs came lost queue → (i : ℕ)
      → Fit ring.slots (at i queue)
  fit-at queue s i = full-fit ring.slots (at i queue) (full-at ring.slots i queue s.full)

  count-at : (queue : List Chunk) → Settled ring since count high rs came lost queue → (i : ℕ) (r : Recording)
      → slice_get rs i ≡ Some r → length (held_blocks ring r) ≡ length (at i queue)
  count-at queue s i r there =
      let mine = s.rest i r there in
      count-held ring r 0 mine.begun (at i queue) mine.has (fit-at queue s i) mine.between

  -- the sequence of the first frame of a store, where a block may go
  told-first : (queue : List Chunk) → Settled ring since count high rs came lost queue
      → (i : ℕ) (r : Recording) (space : Space)
      → slice_get rs i ≡ Some r → TellsSpace ring keep r space → (d : Chunk) (ds : List Chunk) → at i queue ≡ d ∷ ds
      → max 1 keep ≤ length ds → space.oldest ≡ Some d.first.sequence
  told-first queue s i r space there tells d ds is more =
      let mine : Rests ring r (d ∷ ds) = subst (Rests ring r) is (s.rest i r there) in
      let fit : Fit ring.slots (d ∷ ds) = subst (Fit ring.slots) is (fit-at queue s i) in
      tells-first ring keep r 0 mine.begun d ds space.oldest some mine.has fit mine.between more tells.oldest

  told-none : (queue : List Chunk) → Settled ring since count high rs came lost queue
      → (i : ℕ) (r : Recording) (space : Space)
      → slice_get rs i ≡ Some r → TellsSpace ring keep r space → length (at i queue) ≤ max 1 keep
      → space.oldest ≡ None
  told-none queue s i r space there tells few =
      let mine = s.rest i r there in
      tells-none ring keep r 0 mine.begun (at i queue) space.oldest mine.has (fit-at queue s i) mine.between few
      tells.oldest

  -- where no segment is free, each store has as many blocks as there are segments
  pub each-full : (queue : List Chunk) → Settled ring since count high rs came lost queue → (spaces : List Space)
      → EachTells ring keep rs spaces
      → ((i : ℕ) (s : Space) → slice_get spaces i ≡ Some s → s.free ≡ false) → (i : ℕ) → i < count
      → length (at i queue) ≡ ring.segments
  each-full queue s spaces tell none i l =
      let many = s.many in
      let all = tell.all in
      let r = get-within rs i (omega (arith, l, many)) in
      let space = get-within spaces i (omega (arith, l, many, all)) in
      let held = count-at queue s i r.0 r.1 in
      let told = tell.tells i r.0 space.0 r.1 space.1 in
      let never : length (at i queue) < ring.segments → ⊥ =
      λ less. clash space.0.free (told.free.1 (omega (arith, held, less))) (none i space.0 space.1) in
      let few = s.few i l in
      omega (arith, few, never)

  -- so a block may go
  floor-below : (queue : List Chunk) → Settled ring since count high rs came lost queue → (spaces : List Space)
      → EachTells ring keep rs spaces → (end place : ℕ) → place < count → IsOldest end spaces place
      → length (at place queue) ≡ ring.segments → max 1 keep < ring.segments
  floor-below queue s spaces tell end place l oldest each = go (cases_lt (max 1 keep) ring.segments)
    where
      go : (max 1 keep < ring.segments) ⊎ (ring.segments ≤ max 1 keep) → max 1 keep < ring.segments
      go (inl less) = less
      go (inr most) =
          let many = s.many in
          let r = get-within rs place (omega (arith, l, many)) in
          let told = tell.tells place r.0 oldest.space r.1 oldest.at in
          let none = told-none queue s place r.0 oldest.space r.1 told (omega (arith, each, most)) in
          let is = oldest.is in
          let no : None ≡ Some oldest.sequence = sym none ∙ is in
          absurd cc

  -- and the oldest block that may go is the one that came first
  first-goes : (c : Chunk) (queue : List Chunk) → Settled ring since count high rs came lost (c ∷ queue)
      → (spaces : List Space)
      → EachTells ring keep rs spaces → (place : ℕ) → place < count → IsOldest (high % 2 ^ 32) spaces place
      → ((i : ℕ) → i < count → length (at i (c ∷ queue)) ≡ ring.segments) → max 1 keep < ring.segments
      → c.place ≡ place
  first-goes c queue s spaces tell place l oldest each more = go (cases_eq c.place place)
    where
      go : (c.place ≡ place) ⊎ (c.place ≡ place → ⊥) → c.place ≡ place
      go (inl is) = is
      go (inr apart) = absurd (pick (at place queue) refl)
        where
          many : length rs ≡ count
          many = s.many

          all : length spaces ≡ length rs
          all = tell.all

          within : c.place < count
          within = s.placed.0

          low : cyclic_place (high % 2 ^ 32) oldest.sequence ≤ cyclic_place (high % 2 ^ 32) c.first.sequence
          low =
              let r = get-within rs c.place (omega (arith, within, many)) in
              let space = get-within spaces c.place (omega (arith, within, many, all)) in
              let told = tell.tells c.place r.0 space.0 r.1 space.1 in
              let here = at-here c.place c queue refl in
              let size : length (at c.place (c ∷ queue)) ≡ length (at c.place queue) + 1 =
              ap (λ (x : List Chunk). length x) here ∙ omega arith in
              let full = each c.place within in
              oldest.least c.place space.0 c.first.sequence space.1
              (told-first (c ∷ queue) s c.place r.0 space.0 r.1 told c (at c.place queue) here
              (omega (arith, more, size, full)))

          pick : (ds : List Chunk) → at place queue ≡ ds → ⊥
          pick [] is =
              let size : length (at place (c ∷ queue)) ≡ 0 =
              ap (λ (x : List Chunk). length x) (at-apart place c queue apart ∙ is) in
              let full = each place l in
              absurd (omega (arith, size, full, more))
          pick (d ∷ ds) is =
              let r = get-within rs place (omega (arith, l, many)) in
              let told = tell.tells place r.0 oldest.space r.1 oldest.at in
              let here = at-apart place c queue apart ∙ is in
              let size : length (at place (c ∷ queue)) ≡ length ds + 1 =
              ap (λ (x : List Chunk). length x) here ∙ omega arith in
              let full = each place l in
              let says = told-first (c ∷ queue) s place r.0 oldest.space r.1 told d ds here
              (omega (arith, more, size, full)) in
              let same : oldest.sequence ≡ d.first.sequence =
              some-same oldest.sequence d.first.sequence (sym oldest.is ∙ says) in
              let rises = s.rising in
              let found = count-of (rises.0 + 1) high place queue d ds rises.3 is in
              let above = found.1 in
              let late = older since.low high rises.0 found.0 c.first.sequence d.first.sequence near rises.1
              (omega (arith, above)) found.2 rises.2 found.3 in
              never-both (cyclic_place (high % 2 ^ 32) oldest.sequence) (cyclic_place (high % 2 ^ 32) c.first.sequence)
              (cyclic_place (high % 2 ^ 32) d.first.sequence) low (ap (cyclic_place (high % 2 ^ 32)) same) late

  -- ---- the room that there is then

  free-begins : (queue : List Chunk) → Settled ring since count high rs came lost queue
      → (place : ℕ) (taker : Recording)
      (p : Picture) (ps : List Picture) (made : List Step) → slice_get rs place ≡ Some taker
      → steps ring keep taker (p ∷ ps) ≡ Some made
      → length (at place queue) < ring.segments → Begins ring since count high rs came place taker p ps made
  free-begins queue s place taker p ps made there by less =
      let held = count-at queue s place taker there in
      let within = slice_get_within rs place taker there in
      let many = s.many in
      record {
        left = taker;
        ready = record {
          many = s.many;
          grew = s.grew;
          all = s.all;
          within = omega (arith, within, many);
          lost = lost;
          queue = queue;
          came_is = s.came_is;
          placed = s.placed;
          full = s.full;
          rising = s.rising;
          others = λ i r apart at. s.rest i r at;
          mine = s.rest place taker there;
          few = λ i l apart. s.few i l;
          room = omega (arith, less);
          whole = go s.whole;
        };
        is = ap (plain ring taker)
            (plain-append ring keep taker (p ∷ ps) made by (free-steps ring taker (omega (arith, held, less))));
      }
    where
      go : (lost ≡ since.lost) ⊎ ((i : ℕ) → i < since.count → length (at i queue) ≡ ring.segments)
          → (lost ≡ since.lost)
          ⊎ (((i : ℕ) → i < since.count → (place ≡ i → ⊥) → length (at i queue) ≡ ring.segments)
          × (place < since.count → length (at place queue) + 1 ≡ ring.segments))
      go (inl none) = inl none
      go (inr each) =
          inr (λ i l apart. each i l, λ l. let full = each place l in absurd (omega (arith, full, less)))

  full-begins : (c : Chunk) (queue : List Chunk) → Settled ring since count high rs came lost (c ∷ queue) → (place : ℕ)
      (taker : Recording) (p : Picture) (ps : List Picture) (made : List Step) → slice_get rs place ≡ Some taker
      → steps ring keep taker (p ∷ ps) ≡ Some made → taker.next % ring.slots ≡ 0
      → c.place ≡ place → ((i : ℕ) → i < count → length (at i (c ∷ queue)) ≡ ring.segments)
      → max 1 keep < ring.segments → Begins ring since count high rs came place taker p ps made
  full-begins c queue s place taker p ps made there by begins is each more = record {
    left = after_step ring taker (recycle c.number);
    ready = record {
      many = s.many;
      grew = s.grew;
      all = s.all;
      within = within;
      lost = lost ++ came_of c;
      queue = queue;
      came_is = s.came_is ∙ sym (append_assoc lost (came_of c) (spread queue));
      placed = s.placed.1;
      full = s.full.1;
      rising = let rises = s.rising in let from = rises.1 in
          rises-low (rises.0 + 1) since.low high queue rises.3 (omega (arith, from));
      others = λ i r apart at. subst (Rests ring r) (other i apart) (s.rest i r at);
      mine = rests-recycled ring taker c (at place queue) fit mine;
      few = λ i l apart. let few = s.few i l in omega (arith, few, ap (λ (x : List Chunk). length x) (other i apart));
      room = omega (arith, size);
      whole = inr (
        (λ i l apart. let grew = s.grew in
            sym (ap (λ (x : List Chunk). length x) (other i apart)) ∙ each i (omega (arith, l, grew))),
        (λ l. size),
      );
    };
    is = ap (plain ring taker) (recycling-append ring keep taker (p ∷ ps) made c.number by need chosen);
  }
    where
      here : at place (c ∷ queue) ≡ c ∷ at place queue
      here = at-here place c queue is

      other : (i : ℕ) → (place ≡ i → ⊥) → at i (c ∷ queue) ≡ at i queue
      other i apart = at-apart i c queue (λ e. apart (sym is ∙ e))

      within : place < count
      within = let within = slice_get_within rs place taker there in let many = s.many in omega (arith, within, many)

      size : length (at place queue) + 1 ≡ ring.segments
      size = omega (arith, ap (λ (x : List Chunk). length x) here, each place within)

      mine : Rests ring taker (c ∷ at place queue)
      mine = subst (Rests ring taker) here (s.rest place taker there)

      fit : Fit ring.slots (c ∷ at place queue)
      fit = subst (Fit ring.slots) here (fit-at (c ∷ queue) s place)

      need : needs_recycling ring taker ≡ true
      need = full-steps ring taker begins (count-at (c ∷ queue) s place taker there ∙ each place within)

      chosen : victim ring keep taker ≡ Some c.number
      chosen =
          victim-first ring keep taker 0 mine.begun c (at place queue) mine.has fit mine.between
          (omega (arith, more, size))

  -- by the rule, the taker has room for a block once its first block has gone if it had to
  pub begins : (queue : List Chunk) → Settled ring since count high rs came lost queue → (active place : ℕ)
      (spaces : List Space) → EachTells ring keep rs spaces → TakesNext (high % 2 ^ 32) active spaces (Some place)
      → (taker : Recording) (p : Picture) (ps : List Picture) (made : List Step) → slice_get rs place ≡ Some taker
      → steps ring keep taker (p ∷ ps) ≡ Some made → taker.next % ring.slots ≡ 0
      → Begins ring since count high rs came place taker p ps made
  begins queue s active place spaces tell next taker p ps made there by edge =
      go queue s (free-or-oldest (high % 2 ^ 32) active spaces place next)
    where
      within : place < length rs
      within = slice_get_within rs place taker there

      go : (queue : List Chunk) → Settled ring since count high rs came lost queue
          → FreeOrOldest (high % 2 ^ 32) spaces place → Begins ring since count high rs came place taker p ps made
      go queue s (inl free) =
          let held = count-at queue s place taker there in
          let less = (tell.tells place taker free.0 there free.1).free.0 free.2 in
          free-begins queue s place taker p ps made there by (omega (arith, held, less))
      go [] s (inr h) =
          let many = s.many in
          let each = each-full [] s spaces tell h.0 in
          let l : place < count = omega (arith, within, many) in
          let none = each place l in
          let more = floor-below [] s spaces tell (high % 2 ^ 32) place l h.1 none in
          absurd (omega (arith, none, more))
      go (c ∷ queue) s (inr h) =
          let many = s.many in
          let each = each-full (c ∷ queue) s spaces tell h.0 in
          let l : place < count = omega (arith, within, many) in
          let more = floor-below (c ∷ queue) s spaces tell (high % 2 ^ 32) place l h.1 (each place l) in
          full-begins c queue s place taker p ps made there by edge
          (first-goes c queue s spaces tell place l h.1 each more) each more

  -- ---- where nothing is locked, a store takes the next block

  -- a full store tells a sequence
  oldest-there : (queue : List Chunk) → Settled ring since count high rs came lost queue → (i : ℕ) (r : Recording)
      (space : Space) → slice_get rs i ≡ Some r → TellsSpace ring keep r space → max 1 keep < ring.segments
      → length (at i queue) ≡ ring.segments → (sequence : ℕ) × (space.oldest ≡ Some sequence)
  oldest-there queue s i r space there tells more full = pick (at i queue) refl
    where
      pick : (ds : List Chunk) → at i queue ≡ ds → (sequence : ℕ) × (space.oldest ≡ Some sequence)
      pick [] is =
          let size : length (at i queue) ≡ 0 = ap (λ (x : List Chunk). length x) is in
          absurd (omega (arith, size, full, more))
      pick (d ∷ ds) is =
          let size : length (at i queue) ≡ length ds + 1 =
          ap (λ (x : List Chunk). length x) is ∙ omega arith in
          (d.first.sequence, told-first queue s i r space there tells d ds is (omega (arith, more, size, full)))

  pub some-takes : (queue : List Chunk) → Settled ring since count high rs came lost queue → (end active : ℕ)
      (r : Recording) (spaces : List Space) → slice_get rs active ≡ Some r → EachTells ring keep rs spaces
      → max 1 keep < ring.segments
      → TakesNext end active spaces None → ⊥
  some-takes queue s end active r spaces there tell more (inl here) = let e = here.1 in absurd cc
  some-takes queue s end active r spaces there tell more (inr other) = go (position has_free spaces) refl other.1
    where
      go : (o : Option ℕ) → position has_free spaces ≡ o → IsElsewhere end spaces o None → ⊥
      go (Some free) found is = absurd cc
      go None found none =
          let many = s.many in
          let all = tell.all in
          let l = slice_get_within rs active r there in
          let full = each-full queue s spaces tell (λ i x at. none-passes has_free spaces i x found at) active
          (omega (arith, l, many)) in
          let space = get-within spaces active (omega (arith, l, all)) in
          let tells = tell.tells active r space.0 there space.1 in
          let says = oldest-there queue s active r space.0 there tells more full in
          let told = none active space.0 (omega (arith, l, all)) in
          let same = get_or_from_slice_get spaces active space.0 space.0 space.1 in
          let no : None ≡ Some says.0 = sym (ap (λ (x : Space). x.oldest) (sym same) ∙ told) ∙ says.1 in
          absurd cc

  -- and by what the stores tell, the rule names one
  pub choose : (queue : List Chunk) → Settled ring since count high rs came lost queue → (end active : ℕ)
      (r : Recording) (spaces : List Space) → slice_get rs active ≡ Some r → EachTells ring keep rs spaces
      → max 1 keep < ring.segments
      → (place : ℕ) × (place < length spaces) × TakesNext end active spaces (Some place)
  choose queue s end active r spaces there tell more = here space.0.free refl
    where
      l : active < length rs
      l = slice_get_within rs active r there

      within : active < length spaces
      within = let all = tell.all in omega (arith, l, all)

      space : (x : Space) × (slice_get spaces active ≡ Some x)
      space = get-within spaces active within

      go : (IsFreeAt spaces active → ⊥) → (o : Option ℕ) → position has_free spaces ≡ o
          → (place : ℕ) × (place < length spaces) × TakesNext end active spaces (Some place)
      go apart (Some free) found =
          let is : IsElsewhere end spaces (position has_free spaces) (Some free) =
          subst (λ (o : Option ℕ). IsElsewhere end spaces o (Some free)) (sym found) refl in
          (free, (position-Some has_free spaces free space.0 found).0, inr (apart, is))
      go apart None found = pick (oldest-of end spaces)
        where
          pick : NoneMayGo spaces ⊎ ((place : ℕ) × IsOldest end spaces place)
              → (place : ℕ) × (place < length spaces) × TakesNext end active spaces (Some place)
          pick (inl none) =
              let many = s.many in
              let full = each-full queue s spaces tell (λ i x at. none-passes has_free spaces i x found at) active
              (omega (arith, l, many)) in
              let says = oldest-there queue s active r space.0 there (tell.tells active r space.0 there space.1) more
              full in
              let no : None ≡ Some says.0 = sym (none active space.0 space.1) ∙ says.1 in
              absurd cc
          pick (inr first) =
              let is : IsElsewhere end spaces (position has_free spaces) (Some first.0) =
              subst (λ (o : Option ℕ). IsElsewhere end spaces o (Some first.0)) (sym found) first.1 in
              (first.0, slice_get_within spaces first.0 first.1.space first.1.at, inr (apart, is))

      here : (t : Bool) → space.0.free ≡ t
          → (place : ℕ) × (place < length spaces) × TakesNext end active spaces (Some place)
      here true is = (active, within, inl ((space.0, space.1, is), refl))
      here false is = go apart (position has_free spaces) refl
        where
          apart : IsFreeAt spaces active → ⊥
          apart h =
              let same = some-same h.0 space.0 (sym h.1 ∙ space.1) in
              clash h.0.free h.2 (ap (λ (x : Space). x.free) same ∙ is)

  -- the taker has the steps for a group, unless its numbers are spent
  pub steps-there : (queue : List Chunk) → Settled ring since count high rs came lost queue → (end active place : ℕ)
      (spaces : List Space) → EachTells ring keep rs spaces → TakesNext end active spaces (Some place)
      → (taker : Recording)
      (ps : List Picture) → slice_get rs place ≡ Some taker → taker.next ≢ last_number ring
      → max 1 keep < ring.segments → (made : List Step) × (steps ring keep taker ps ≡ Some made)
  steps-there queue s end active place spaces tell next taker ps there left more =
      go (free-or-oldest end active spaces place next)
    where
      mine : Rests ring taker (at place queue)
      mine = s.rest place taker there

      begins-block : taker.next % ring.slots ≡ 0
      begins-block = ap (λ (n : ℕ). n % ring.slots) mine.next ∙ mul-mod_left mine.begun ring.slots

      go : FreeOrOldest end spaces place → (made : List Step) × (steps ring keep taker ps ≡ Some made)
      go (inl free) =
          let held = count-at queue s place taker there in
          let less = (tell.tells place taker free.0 there free.1).free.0 free.2 in
          (map store ps, stores-made ring keep taker ps left (free-steps ring taker (omega (arith, held, less))))
      go (inr h) = pick (at place queue) refl
        where
          full : length (at place queue) ≡ ring.segments
          full =
              let l = slice_get_within rs place taker there in
              let many = s.many in
              each-full queue s spaces tell h.0 place (omega (arith, l, many))

          need : needs_recycling ring taker ≡ true
          need = full-steps ring taker begins-block (count-at queue s place taker there ∙ full)

          pick : (ds : List Chunk) → at place queue ≡ ds → (made : List Step) × (steps ring keep taker ps ≡ Some made)
          pick [] is =
              let size : length (at place queue) ≡ 0 = ap (λ (x : List Chunk). length x) is in
              absurd (omega (arith, size, full, more))
          pick (d ∷ ds) is =
              let size : length (at place queue) ≡ length ds + 1 =
              ap (λ (x : List Chunk). length x) is ∙ omega arith in
              let has : Rests ring taker (d ∷ ds) = subst (Rests ring taker) is mine in
              let fit : Fit ring.slots (d ∷ ds) = subst (Fit ring.slots) is (fit-at queue s place) in
              let chosen = victim-first ring keep taker 0 has.begun d ds has.has fit has.between
              (omega (arith, more, size, full)) in
              (recycle d.number ∷ map store ps, recycles-made ring keep taker ps d.number left need chosen)

  -- and each store has a room to tell
  pub tell-there : (queue : List Chunk) → Settled ring since count high rs came lost queue
      → (spaces : List Space) × EachTells ring keep rs spaces
  tell-there queue s = spaces-there ring keep rs (λ place r there.
      let mine = s.rest place r there in
      space-there ring keep r 0 mine.begun (at place queue) some mine.has (fit-at queue s place) mine.between)
