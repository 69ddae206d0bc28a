-- A stretch of a filming in which all goes well is a run.
use Rattle.std.proofs.Common.{◌≡◌, ◌≢◌, ◌⊎◌, inl, inr, ℕ, zero, suc, ◌+◌, ◌-◌, ◌%◌, ◌&&◌, ◌<◌, ◌≤◌, All, Bool, true, false, cond, Option, Some, None, Ok, Err, List, [], ◌∷◌, ◌++◌, eqb, length, map, replicate, slice_get, slice_set, refl, sym, ap, ◌∙◌, subst, arith, append_assoc}
use Rattle.std.proofs.lemmas.Bool.{cases_eq}
use Rattle.std.proofs.lemmas.Grind.{flat_map-append}
use Rattle.std.proofs.lemmas.List.{append-nil, length-append, length-set}
use Rattle.std.proofs.lemmas.List.Elements.{filter-append}
use Rattle.std.proofs.lemmas.Option.{get_or_from_slice_get, slice_get_within}
use Rattle.std.specs.List.{filter, flat_map, list_all, position}
use Rattle.loop_disk.specs.Medium.{Medium}
use Rattle.loop_record.specs.Recording.{Picture, Recording, Ring, Step, empty, last_number, needs_recycling, plain, recycle, recycling_first, steps, store, victim}
use Rattle.loop_record.proofs.Names.{stores_after}
use Rattle.loop_record.proofs.Steps.{plain-append}
use Rattle.loop_desk.specs.declared.limits.Flushed.{Flushed}
use Rattle.loop_desk.specs.declared.limits.Space.{Space}
use Rattle.loop_desk.specs.Desk.{DeskCall, accepted_in, clip_locked, clip_unlocked, flushed, frame_read, layout_upgraded, run_told, status_told, submitted}
use Rattle.loop_desk.specs.Seen.{DeskGoes, SeenDesk}
use Rattle.loop_desk.specs.Space.{TellsSpace}
use Rattle.loop_pipeline.specs.Backs.{own, visited}
use Rattle.loop_pipeline.specs.DeskEvents.{DeskEvent, DesksNow, GoesOnBy, Happened, HappensTo, TakesFrame, TurnsOver, done, joined_by, turned_to}
use Rattle.loop_pipeline.specs.Nexts.{HasNone, IsElsewhere, TakesNext, end_past, has_free}
use Rattle.loop_pipeline.specs.Turns.{RoomForBlock}
use Rattle.loop_pipeline.proofs.Places.{get-joined, get-set-other, get-set-same}
use Rattle.loop_laws.specs.Filmings.{IsDeskOf, StandEach, ring_now}
use Rattle.loop_laws.specs.FilmingRuns.{Begins, FilmingIsRun, HappensWell, IsRun, NeverFull, is_append, is_quiet, is_start, placed_accepted, placed_at}
use Rattle.loop_laws.specs.Stores.{EachTells, LongRing, RingEvent, Run, TakesBlock, TakesGroup, end_after, frames_placed, joined, placed_by, taken}
use Rattle.loop_laws.proofs.DeskGroups.{Ends, Flushes, Stays, Takes, flush-does, quiet-stays, submit-waits}
use Rattle.loop_laws.proofs.Filmings.{is-choice, stays-by-choice}
use Rattle.loop_laws.proofs.Rechoosing.{get-front, get-last, rechoose, set-front, takes-within}
use Rattle.loop_laws.proofs.Rule.{get-within, none-passes}
use Rattle.loop_laws.proofs.Sets.{get-other, some-same}

-- ---- runs

module _ (ring : Ring) (keep : ℕ) where
  run-both : (start mid new : LongRing) (xs ys : List RingEvent) → Run ring keep start xs mid → Run ring keep mid ys new
      → Run ring keep start (xs ++ ys) new
  run-both start mid new [] ys first second = subst (λ (st : LongRing). Run ring keep st ys new) first second
  run-both start mid new (x ∷ xs) ys first second =
      (first.0, first.1, run-both first.0 mid new xs ys first.2 second)

  -- this many stores joined late
  abbrev with_late : ℕ → LongRing → LongRing
  with_late n stores = record stores { recordings = stores.recordings ++ replicate n empty }

  run-late : (n : ℕ) (stores : LongRing) → Run ring keep stores (replicate n joined) (with_late n stores)
  run-late zero stores = ap (λ (rs : List Recording). record stores { recordings = rs }) (append-nil stores.recordings)
  run-late (suc n) stores =
      let one : LongRing = record stores { recordings = stores.recordings ++ empty ∷ [] } in (
        one,
        refl,
        subst (λ (rs : List Recording). Run ring keep one (replicate n joined) (record stores { recordings = rs }))
            (append_assoc stores.recordings (empty ∷ []) (replicate n empty)) (run-late n one),
      )

replicate-more : {X : Type 0} (n : ℕ) (x : X) → replicate n x ++ x ∷ [] ≡ x ∷ replicate n x
replicate-more zero x = refl
replicate-more (suc n) x = ap (λ l. x ∷ l) (replicate-more n x)

none-placed : (n : ℕ) → frames_placed (replicate n joined) ≡ []
none-placed zero = refl
none-placed (suc n) = none-placed n

placed-late : (n : ℕ) (happened : List RingEvent)
    → frames_placed (happened ++ replicate n joined) ≡ frames_placed happened
placed-late n happened =
    flat_map-append placed_by happened (replicate n joined)
    ∙ (ap (λ l. frames_placed happened ++ l) (none-placed n) ∙ append-nil (frames_placed happened))

none-starts : (n : ℕ) → filter is_start (replicate n joined) ≡ []
none-starts zero = refl
none-starts (suc n) = none-starts n

starts-both : (xs ys : List RingEvent) → filter is_start xs ≡ [] → filter is_start ys ≡ []
    → filter is_start (xs ++ ys) ≡ []
starts-both xs ys first second = filter-append is_start xs ys ∙ (λ i. first i ++ second i)

placed-both : (place : ℕ) (ps qs : List Picture) → placed_at place (ps ++ qs) ≡ placed_at place ps ++ placed_at place qs
placed-both place [] qs = refl
placed-both place (p ∷ ps) qs = ap (λ l. (place, p) ∷ l) (placed-both place ps qs)

end-both : (end : ℕ) (ps qs : List Picture) → end_after end (ps ++ qs) ≡ end_after (end_after end ps) qs
end-both end [] qs = refl
end-both end (p ∷ ps) qs = end-both (end_past p.sequence) ps qs

-- ---- steps

and-first : (a b : Bool) → (a && b) ≡ true → a ≡ true
and-first true b e = refl
and-first false b e = e

and-second : (a b : Bool) → (a && b) ≡ true → b ≡ true
and-second true b e = e
and-second false b e = absurd cc

appends-both : (xs ys : List Step) → list_all is_append xs ≡ true → list_all is_append ys ≡ true
    → list_all is_append (xs ++ ys) ≡ true
appends-both [] ys first second = second
appends-both (x ∷ xs) ys first second =
    let here = and-first (is_append x) (list_all is_append xs) first in
    let rest = appends-both xs ys (and-second (is_append x) (list_all is_append xs) first) second in
    λ i. here i && rest i

all-stores : (group : List Picture) → list_all is_append (map store group) ≡ true
all-stores [] = refl
all-stores (p ∷ group) = all-stores group

steps-append : (ring : Ring) (keep : ℕ) (r : Recording) (group : List Picture) (made : List Step)
    → steps ring keep r group ≡ Some made → list_all is_append made ≡ true
steps-append ring keep r group made is = spent (eqb r.next (last_number ring)) is
  where
    these : (a : List Step) → (let o : Option (List Step) = Some a in o) ≡ Some made → list_all is_append a ≡ true
        → list_all is_append made ≡ true
    these a e all = let same : a ≡ made = cc in ap (list_all is_append) (sym same) ∙ all

    go : (u : Bool) (v : Option ℕ) → stores_after (recycling_first u v) group ≡ Some made
        → list_all is_append made ≡ true
    go true None e = absurd cc
    go true (Some b) e = these (recycle b ∷ map store group) e (all-stores group)
    go false v e = these (map store group) e (all-stores group)

    spent : (t : Bool) → cond t None (stores_after
        (recycling_first (needs_recycling ring r) (victim ring keep r)) group) ≡ Some made
        → list_all is_append made ≡ true
    spent true e = absurd cc
    spent false e = go (needs_recycling ring r) (victim ring keep r) e

-- a store that always has room has it after an append
never-full : (ring : Ring) (keep : ℕ) (r : Recording) (made : List Step) → list_all is_append made ≡ true
    → NeverFull ring keep r → NeverFull ring keep (plain ring r made)
never-full ring keep r made all never more rest =
    subst (RoomForBlock ring keep) (plain-append ring r made more)
    (never (made ++ more) (appends-both made more all rest))

-- ---- a store that has room is chosen, if no other is

module _ (ring : Ring) (keep : ℕ) (recordings : List Recording) (place : ℕ) (r : Recording)
    (there : slice_get recordings place ≡ Some r) (never : NeverFull ring keep r) where
  some-chosen : (end active : ℕ) (spaces : List Space) → EachTells ring keep recordings spaces
      → TakesNext end active spaces None → ⊥
  some-chosen end active spaces tell (inl here) = let e = here.1 in absurd cc
  some-chosen end active spaces tell (inr other) = go (position has_free spaces) refl other.1
    where
      less : place < length spaces
      less =
          let l = slice_get_within recordings place r there in
          let x = tell.all in
          omega (arith, l, x)

      at : (s : Space) × (slice_get spaces place ≡ Some s)
      at = get-within spaces place less

      go : (o : Option ℕ) → position has_free spaces ≡ o → IsElsewhere end spaces o None → ⊥
      go (Some free) found e = absurd cc
      go None found none = room (never [] refl)
        where
          s : Space
          s = at.0

          told : TellsSpace ring keep r s
          told = tell.tells place r s there at.1

          locked : HasNone s
          locked = subst HasNone (get_or_from_slice_get spaces place s s at.1) (none place s less)

          room : RoomForBlock ring keep r → ⊥
          room (inl few) =
              absurd (let e : true ≡ false = sym (told.free.1 few)
              ∙ none-passes has_free spaces place s found at.1 in cc)
          room (inr goes) =
              let first = told.oldest.some goes.0 goes.1 in
              absurd (let e : None ≡ Some first.1.sequence = sym locked ∙ first.3 in cc)

-- ---- the desks stand for the recordings

module _ {D : Type 0} (medium : D → Medium) (ring : Ring) (keep : ℕ) where
  stand-set : (desks : List (SeenDesk D)) (rs : List Recording) → StandEach medium ring keep desks rs → (place : ℕ)
      → (d e : SeenDesk D) (was r : Recording) → slice_get desks place ≡ Some d → slice_get rs place ≡ Some was
      → IsDeskOf medium ring keep r e → StandEach medium ring keep (slice_set desks place e) (slice_set rs place r)
  stand-set desks rs each place d e was r at there is = record {
    all = length-set rs place r ∙ (each.all ∙ sym (length-set desks place e));
    stand = λ i q here. go i q here (cases_eq i place);
  }
    where
      go : (i : ℕ) (q : Recording) → slice_get (slice_set rs place r) i ≡ Some q → (i ≡ place) ⊎ (i ≡ place → ⊥)
          → (x : SeenDesk D) × (slice_get (slice_set desks place e) i ≡ Some x) × IsDeskOf medium ring keep q x
      go i q here (inl same) =
          let now : slice_get (slice_set rs place r) place ≡ Some q =
          ap (slice_get (slice_set rs place r)) (sym same) ∙ here in
          let equal : r ≡ q = some-same r q (sym (get-set-same rs place was r there) ∙ now) in (
            e,
            ap (slice_get (slice_set desks place e)) same ∙ get-set-same desks place d e at,
            subst (λ (x : Recording). IsDeskOf medium ring keep x e) equal is,
          )
      go i q here (inr apart) =
          let found = each.stand i q (get-set-other rs place i r q apart here) in
          (found.0, get-other desks place i e (λ s. apart (sym s)) ∙ found.1, found.2)

  stand-still : (desks : List (SeenDesk D)) (rs : List Recording) → StandEach medium ring keep desks rs → (place : ℕ)
      → (d e : SeenDesk D) → slice_get desks place ≡ Some d
      → ((r : Recording) → IsDeskOf medium ring keep r d → IsDeskOf medium ring keep r e)
      → StandEach medium ring keep (slice_set desks place e) rs
  stand-still desks rs each place d e at keeps = record {
    all = each.all ∙ sym (length-set desks place e);
    stand = λ i q here. go i q here (cases_eq i place);
  }
    where
      go : (i : ℕ) (q : Recording) → slice_get rs i ≡ Some q → (i ≡ place) ⊎ (i ≡ place → ⊥)
          → (x : SeenDesk D) × (slice_get (slice_set desks place e) i ≡ Some x) × IsDeskOf medium ring keep q x
      go i q here (inl same) =
          let found = each.stand i q here in
          let equal : found.0 ≡ d = some-same found.0 d (sym found.1 ∙ (ap (slice_get desks) same ∙ at)) in (
            e,
            ap (slice_get (slice_set desks place e)) same ∙ get-set-same desks place d e at,
            keeps q (subst (IsDeskOf medium ring keep q) equal found.2),
          )
      go i q here (inr apart) =
          let found = each.stand i q here in
          (found.0, get-other desks place i e (λ s. apart (sym s)) ∙ found.1, found.2)

  stand-joined : (desks : List (SeenDesk D)) (rs : List Recording) → StandEach medium ring keep desks rs
      → (e : SeenDesk D) → IsDeskOf medium ring keep empty e
      → StandEach medium ring keep (desks ++ e ∷ []) (rs ++ empty ∷ [])
  stand-joined desks rs each e is = record { all = long; stand = λ i q here. go i q (get-joined rs empty q i here) }
    where
      long : length (rs ++ empty ∷ []) ≡ length (desks ++ e ∷ [])
      long =
          let x = length-append rs (empty ∷ []) in
          let y = length-append desks (e ∷ []) in
          let z = each.all in
          omega (arith, x, y, z)

      go : (i : ℕ) (q : Recording) → ((i < length rs) × (slice_get rs i ≡ Some q)) ⊎ ((i ≡ length rs) × (q ≡ empty))
          → (x : SeenDesk D) × (slice_get (desks ++ e ∷ []) i ≡ Some x) × IsDeskOf medium ring keep q x
      go i q (inl old) =
          let found = each.stand i q old.1 in
          (found.0, get-front desks (e ∷ []) i found.0 found.1, found.2)
      go i q (inr new) = (
        e,
        ap (slice_get (desks ++ e ∷ [])) (new.0 ∙ each.all) ∙ get-last desks e,
        subst (λ (x : Recording). IsDeskOf medium ring keep x e) (sym new.1) is,
      )

-- ---- a moment of the filming

from-room : (slots rest : ℕ) → 1 ≤ slots → slots - rest ≡ slots → rest ≡ 0
from-room slots rest some e = omega (arith, some, e)

to-room : (slots rest : ℕ) → rest ≡ 0 → slots - rest ≡ slots
to-room slots rest e = omega (arith, e)

module _ {D : Type 0} (medium : D → Medium) (ring : Ring) (keep : ℕ) (some : 1 ≤ ring.slots) (start : LongRing) where
  -- What has happened led to these stores, after which so many joined. The frames that wait were given to the active
  -- desk after them.
  record Base (now : DesksNow D) (came : List (ℕ × Picture)) : Type 0 where
    happened : List RingEvent
    stores : LongRing
    late : ℕ
    recordings : List Recording
    are : recordings ≡ stores.recordings ++ replicate late empty
    run : Run ring keep start happened stores
    no_start : filter is_start happened ≡ []
    each : StandEach medium ring keep now.desks recordings
    several : 2 ≤ length now.desks
    desk : SeenDesk D
    here : slice_get now.desks now.active ≡ Some desk
    mine : Recording
    at : slice_get stores.recordings now.active ≡ Some mine
    last : Recording
    last_at : slice_get stores.recordings stores.active ≡ Some last
    others : (place : ℕ) (d : SeenDesk D) → slice_get now.desks place ≡ Some d → (now.active ≡ place → ⊥)
        → d.pending ≡ []
    end : end_after stores.end desk.pending ≡ now.end
    frames : frames_placed happened ++ placed_at now.active desk.pending ≡ came
    roomy : ℕ
    recording : Recording
    is_roomy : slice_get stores.recordings roomy ≡ Some recording
    never : NeverFull ring keep recording

  -- the active desk was chosen for the next block
  abbrev IsChosen : {now : DesksNow D} {came : List (ℕ × Picture)} → Base now came → Type 0
  IsChosen {now} b = (b.last.next % ring.slots ≡ 0) × TakesBlock ring keep b.stores now.active

  -- or it took the last group, and where that ended its block nothing waits
  abbrev Mode : {now : DesksNow D} {came : List (ℕ × Picture)} → Base now came → Type 0
  Mode {now} b =
      ((now.active ≡ b.stores.active) × (b.desk.store.next % ring.slots ≡ 0 → b.desk.pending ≡ [])) ⊎ IsChosen b

  abbrev Now : DesksNow D → List (ℕ × Picture) → Type 0
  Now now came = (b : Base now came) × Mode b

  module _ {now : DesksNow D} {came : List (ℕ × Picture)} (b : Base now came) where
    abbrev full : LongRing
    full = with_late ring keep b.late b.stores

    front : (i : ℕ) (r : Recording) → slice_get b.stores.recordings i ≡ Some r → slice_get b.recordings i ≡ Some r
    front i r there =
        ap (λ (l : List Recording). slice_get l i) b.are
        ∙ get-front b.stores.recordings (replicate b.late empty) i r there

    mine-is : IsDeskOf medium ring keep b.mine b.desk
    mine-is =
        let found = b.each.stand now.active b.mine (front now.active b.mine b.at) in
        let same : found.0 ≡ b.desk = some-same found.0 b.desk (sym found.1 ∙ b.here) in
        subst (IsDeskOf medium ring keep b.mine) same found.2

    next-is : b.desk.store.next ≡ b.mine.next
    next-is = mine-is.stands.told.next_is

    full-run : Run ring keep start (b.happened ++ replicate b.late joined) full
    full-run = run-both ring keep start b.stores full b.happened (replicate b.late joined) b.run
        (run-late ring keep b.late b.stores)

    -- the stores that joined late are there now
    abbrev caught-up : Base now came
    caught-up = record {
      happened = b.happened ++ replicate b.late joined;
      stores = full;
      late = 0;
      recordings = b.recordings;
      are = b.are ∙ sym (append-nil (b.stores.recordings ++ replicate b.late empty));
      run = full-run;
      no_start = starts-both b.happened (replicate b.late joined) b.no_start (none-starts b.late);
      each = b.each;
      several = b.several;
      desk = b.desk;
      here = b.here;
      mine = b.mine;
      at = get-front b.stores.recordings (replicate b.late empty) now.active b.mine b.at;
      last = b.last;
      last_at = get-front b.stores.recordings (replicate b.late empty) b.stores.active b.last b.last_at;
      others = b.others;
      end = b.end;
      frames = ap (λ l. l ++ placed_at now.active b.desk.pending) (placed-late b.late b.happened) ∙ b.frames;
      roomy = b.roomy;
      recording = b.recording;
      is_roomy = get-front b.stores.recordings (replicate b.late empty) b.roomy b.recording b.is_roomy;
      never = b.never;
    }

    -- the last block is full where the active desk is between two
    edge-last : Mode b → b.desk.store.next % ring.slots ≡ 0 → b.last.next % ring.slots ≡ 0
    edge-last (inl stays) edge =
        let same : b.last ≡ b.mine = some-same b.last b.mine
        (sym b.last_at ∙ (ap (slice_get b.stores.recordings) (sym stays.0) ∙ b.at)) in
        ap (λ (r : Recording). r.next % ring.slots) same ∙ (ap (λ n. n % ring.slots) (sym next-is) ∙ edge)
    edge-last (inr chosen) edge = chosen.0

    -- what is chosen now takes the next block of the stores with those that joined late
    chosen-full : Mode b → b.desk.pending ≡ [] → (place : ℕ)
        → TakesBlock ring keep (record { recordings = b.recordings; active = now.active; end = now.end }) place
        → TakesBlock ring keep full place
    chosen-full mode none place t = record {
      spaces = t.spaces;
      tell = tell;
      is = subst (λ n. TakesNext n b.stores.active t.spaces (Some place)) ends (go mode);
    }
      where
        tell : EachTells ring keep (b.stores.recordings ++ replicate b.late empty) t.spaces
        tell = subst (λ (rs : List Recording). EachTells ring keep rs t.spaces) b.are t.tell

        ends : now.end ≡ b.stores.end
        ends = sym b.end ∙ ap (end_after b.stores.end) none

        go : Mode b → TakesNext now.end b.stores.active t.spaces (Some place)
        go (inl stays) = subst (λ a. TakesNext now.end a t.spaces (Some place)) stays.0 t.is
        go (inr chosen) =
            rechoose ring keep b.stores (replicate b.late empty) b.last b.last_at now.active chosen.1 t.spaces tell
            now.end place t.is

  -- ---- a desk joins

  step-join : (now : DesksNow D) (came : List (ℕ × Picture)) → Now now came → (e : SeenDesk D)
      → IsDeskOf medium ring keep empty e → e.pending ≡ [] → Now (record now { desks = now.desks ++ e ∷ [] }) came
  step-join now came n e is none = (together, mode n.1)
    where
      b : Base now came
      b = n.0

      go : (place : ℕ) (d : SeenDesk D) → (now.active ≡ place → ⊥)
          → ((place < length now.desks) × (slice_get now.desks place ≡ Some d))
          ⊎ ((place ≡ length now.desks) × (d ≡ e)) → d.pending ≡ []
      go place d apart (inl old) = b.others place d old.1 apart
      go place d apart (inr new) = ap (λ (x : SeenDesk D). x.pending) new.1 ∙ none

      together : Base (record now { desks = now.desks ++ e ∷ [] }) came
      together = record {
        happened = b.happened;
        stores = b.stores;
        late = suc b.late;
        recordings = b.recordings ++ empty ∷ [];
        are = ap (λ (l : List Recording). l ++ empty ∷ []) b.are
            ∙ (append_assoc b.stores.recordings (replicate b.late empty) (empty ∷ [])
            ∙ ap (λ (l : List Recording). b.stores.recordings ++ l) (replicate-more b.late empty));
        run = b.run;
        no_start = b.no_start;
        each = stand-joined medium ring keep now.desks b.recordings b.each e is;
        several = let x = b.several in let y = length-append now.desks (e ∷ []) in omega (arith, x, y);
        desk = b.desk;
        here = get-front now.desks (e ∷ []) now.active b.desk b.here;
        mine = b.mine;
        at = b.at;
        last = b.last;
        last_at = b.last_at;
        others = λ place d there apart. go place d apart (get-joined now.desks e d place there);
        end = b.end;
        frames = b.frames;
        roomy = b.roomy;
        recording = b.recording;
        is_roomy = b.is_roomy;
        never = b.never;
      }

      mode : Mode b → Mode together
      mode (inl stays) = inl stays
      mode (inr chosen) = inr chosen

  -- ---- a turn

  step-turn : (now new : DesksNow D) (came : List (ℕ × Picture)) (place : ℕ) → Now now came
      → TurnsOver medium now new place → Now new came
  step-turn now new came place n turns =
      subst (λ (x : DesksNow D). Now x came) (sym turns.is) (turned, inr (edge-last b n.1 edge, block))
    where
      b : Base now came
      b = n.0

      same : turns.between.0 ≡ b.desk
      same = some-same turns.between.0 b.desk (sym turns.between.1 ∙ b.here)

      none : b.desk.pending ≡ []
      none = ap (λ (x : SeenDesk D). x.pending) (sym same) ∙ turns.between.2.0

      edge : b.desk.store.next % ring.slots ≡ 0
      edge =
          let slots : b.desk.store.geometry.slots ≡ ring.slots =
          ap (λ (g : Ring). g.slots) (mine-is b).same_ring in
          let own = subst (λ (x : SeenDesk D).
          x.store.geometry.slots - x.store.next % x.store.geometry.slots ≡ x.store.geometry.slots) same
          turns.between.2.1 in
          from-room ring.slots (b.desk.store.next % ring.slots) some
          (subst (λ (m : ℕ). m - b.desk.store.next % m ≡ m) slots own)

      all-none : (i : ℕ) (d : SeenDesk D) → slice_get now.desks i ≡ Some d → d.pending ≡ []
      all-none i d there = go (cases_eq now.active i)
        where
          go : (now.active ≡ i) ⊎ (now.active ≡ i → ⊥) → d.pending ≡ []
          go (inl active) =
              let equal : d ≡ b.desk = some-same d b.desk
              (sym there ∙ (ap (slice_get now.desks) (sym active) ∙ b.here)) in
              ap (λ (x : SeenDesk D). x.pending) equal ∙ none
          go (inr apart) = b.others i d there apart

      choice : TakesBlock ring keep (record { recordings = b.recordings; active = now.active; end = now.end }) place
      choice = is-choice medium ring keep now.desks b.recordings b.each now.end now.active place turns.chosen

      block : TakesBlock ring keep (full b) place
      block = chosen-full b n.1 none place choice

      within : place < length b.recordings
      within =
          let l = takes-within now.end now.active choice.spaces place choice.is in
          let x = choice.tell.all in
          omega (arith, l, x)

      desk : (d : SeenDesk D) × (slice_get now.desks place ≡ Some d)
      desk = let x = b.each.all in get-within now.desks place (omega (arith, within, x))

      waits : desk.0.pending ≡ []
      waits = all-none place desk.0 desk.1

      taker : (r : Recording) × (slice_get b.recordings place ≡ Some r)
      taker = get-within b.recordings place within

      up : Base now came
      up = caught-up b

      turned : Base (record now { active = place }) came
      turned = record {
        happened = up.happened;
        stores = up.stores;
        late = up.late;
        recordings = up.recordings;
        are = up.are;
        run = up.run;
        no_start = up.no_start;
        each = up.each;
        several = up.several;
        desk = desk.0;
        here = desk.1;
        mine = taker.0;
        at = ap (λ (l : List Recording). slice_get l place) (sym b.are) ∙ taker.1;
        last = up.last;
        last_at = up.last_at;
        others = λ i d there apart. all-none i d there;
        end = ap (end_after b.stores.end) (waits ∙ sym none) ∙ b.end;
        frames = ap (λ l. frames_placed up.happened ++ placed_at place l) waits
            ∙ (ap (λ l. frames_placed up.happened ++ placed_at now.active l) (sym none) ∙ up.frames);
        roomy = up.roomy;
        recording = up.recording;
        is_roomy = up.is_roomy;
        never = up.never;
      }

  -- ---- nothing changes at a desk

  module _ (now : DesksNow D) (came : List (ℕ × Picture)) (n : Now now came) (place : ℕ) (d e : SeenDesk D)
      (there : slice_get now.desks place ≡ Some d) where
    abbrev b : Base now came
    b = n.0

    abbrev desks : List (SeenDesk D)
    desks = slice_set now.desks place e

    abbrev with-desks : DesksNow D
    with-desks = record { desks = desks; active = now.active; end = now.end }

    others-then : (d.pending ≡ [] → e.pending ≡ []) → (i : ℕ) (x : SeenDesk D) → slice_get desks i ≡ Some x
        → (now.active ≡ i → ⊥) → x.pending ≡ []
    others-then keeps i x is apart = go (cases_eq i place)
      where
        go : (i ≡ place) ⊎ (i ≡ place → ⊥) → x.pending ≡ []
        go (inl same) =
            let equal : x ≡ e = some-same x e
            (sym is ∙ (ap (slice_get desks) same ∙ get-set-same now.desks place d e there)) in
            ap (λ (y : SeenDesk D). y.pending) equal
            ∙ keeps (b.others place d there (λ s. apart (s ∙ sym same)))
        go (inr other) = b.others i x (get-set-other now.desks place i e x other is) apart

    still-with : (desk : SeenDesk D) → slice_get desks now.active ≡ Some desk → desk.pending ≡ b.desk.pending
        → desk.store.next ≡ b.desk.store.next → e.pending ≡ d.pending
        → ((r : Recording) → IsDeskOf medium ring keep r d → IsDeskOf medium ring keep r e) → Now with-desks came
    still-with desk here waits next same keeps = (still, mode n.1)
      where
        still : Base with-desks came
        still = record {
          happened = b.happened;
          stores = b.stores;
          late = b.late;
          recordings = b.recordings;
          are = b.are;
          run = b.run;
          no_start = b.no_start;
          each = stand-still medium ring keep now.desks b.recordings b.each place d e there keeps;
          several = let x = b.several in let y = length-set now.desks place e in omega (arith, x, y);
          desk = desk;
          here = here;
          mine = b.mine;
          at = b.at;
          last = b.last;
          last_at = b.last_at;
          others = others-then (λ none. same ∙ none);
          end = ap (end_after b.stores.end) waits ∙ b.end;
          frames = ap (λ l. frames_placed b.happened ++ placed_at now.active l) waits ∙ b.frames;
          roomy = b.roomy;
          recording = b.recording;
          is_roomy = b.is_roomy;
          never = b.never;
        }

        mode : Mode b → Mode still
        mode (inl stays) = inl (stays.0, λ edge. waits ∙ stays.1 (ap (λ m. m % ring.slots) (sym next) ∙ edge))
        mode (inr chosen) = inr chosen

    step-still : e.pending ≡ d.pending → e.store.next ≡ d.store.next
        → ((r : Recording) → IsDeskOf medium ring keep r d → IsDeskOf medium ring keep r e) → Now with-desks came
    step-still same next keeps = go (cases_eq now.active place)
      where
        go : (now.active ≡ place) ⊎ (now.active ≡ place → ⊥) → Now with-desks came
        go (inl active) =
            let equal : d ≡ b.desk = some-same d b.desk
            (sym there ∙ (ap (slice_get now.desks) (sym active) ∙ b.here)) in
            still-with e (ap (slice_get desks) active ∙ get-set-same now.desks place d e there)
            (same ∙ ap (λ (x : SeenDesk D). x.pending) equal) (next ∙ ap (λ (x : SeenDesk D). x.store.next) equal) same
            keeps
        go (inr apart) =
            still-with b.desk
            (get-other now.desks place now.active e (λ s. apart (sym s)) ∙ b.here)
            refl refl same keeps

    -- ---- a frame waits

    step-submit : place ≡ now.active → (p : Picture) → e.pending ≡ d.pending ++ p ∷ []
        → ((r : Recording) → IsDeskOf medium ring keep r d → IsDeskOf medium ring keep r e)
        → e.store.next ≡ d.store.next → (2 ≤ length now.desks → TakesFrame medium now)
        → Now (record { desks = desks; active = now.active; end = end_past p.sequence })
        (came ++ (now.active, p) ∷ [])
    step-submit active p waits keeps next due = go n.1
      where
        equal : d ≡ b.desk
        equal = some-same d b.desk (sym there ∙ (ap (slice_get now.desks) active ∙ b.here))

        longer : e.pending ≡ b.desk.pending ++ p ∷ []
        longer = waits ∙ ap (λ (x : SeenDesk D). x.pending ++ p ∷ []) equal

        submitted_to : Base now came → Base (record { desks = desks; active = now.active; end = end_past p.sequence })
            (came ++ (now.active, p) ∷ [])
        submitted_to c =
            let own : c.desk ≡ b.desk = some-same c.desk b.desk (sym c.here ∙ b.here) in
            let more : e.pending ≡ c.desk.pending ++ p ∷ [] =
            longer ∙ ap (λ (x : SeenDesk D). x.pending ++ p ∷ []) (sym own) in
            record {
              happened = c.happened;
              stores = c.stores;
              late = c.late;
              recordings = c.recordings;
              are = c.are;
              run = c.run;
              no_start = c.no_start;
              each = stand-still medium ring keep now.desks c.recordings c.each place d e there keeps;
              several = let x = c.several in let y = length-set now.desks place e in omega (arith, x, y);
              desk = e;
              here = ap (slice_get desks) (sym active) ∙ get-set-same now.desks place d e there;
              mine = c.mine;
              at = c.at;
              last = c.last;
              last_at = c.last_at;
              others = λ i x is apart. b.others i x
                  (get-set-other now.desks place i e x (λ s. apart (sym active ∙ sym s)) is) apart;
              end = ap (end_after c.stores.end) more ∙ end-both c.stores.end c.desk.pending (p ∷ []);
              frames = ap (λ l. frames_placed c.happened ++ placed_at now.active l) more
                  ∙ (ap (λ l. frames_placed c.happened ++ l) (placed-both now.active c.desk.pending (p ∷ []))
                  ∙ (sym (append_assoc (frames_placed c.happened) (placed_at now.active c.desk.pending)
                  ((now.active, p) ∷ []))
                  ∙ ap (λ l. l ++ (now.active, p) ∷ []) c.frames));
              roomy = c.roomy;
              recording = c.recording;
              is_roomy = c.is_roomy;
              never = c.never;
            }

        then-next : e.store.next ≡ b.desk.store.next
        then-next = next ∙ ap (λ (x : SeenDesk D). x.store.next) equal

        -- between two blocks the active desk is chosen once more
        between : b.desk.pending ≡ [] → b.desk.store.next % ring.slots ≡ 0 → TakesBlock ring keep (full b) now.active
        between none edge =
            let slots : b.desk.store.geometry.slots ≡ ring.slots =
            ap (λ (g : Ring). g.slots) (mine-is b).same_ring in
            let whole : ring.slots - b.desk.store.next % ring.slots ≡ ring.slots =
            to-room ring.slots (b.desk.store.next % ring.slots) edge in
            let own = subst (λ (m : ℕ). m - b.desk.store.next % m ≡ m) (sym slots) whole in
            let turns = due b.several (b.desk, b.here, (none, own)) in
            chosen-full b n.1 none now.active
            (stays-by-choice medium ring keep now.desks b.recordings b.each now.end now.active turns.1.next
            turns.1.chosen turns.1.turns
            (some-chosen ring keep b.recordings b.roomy b.recording (front b b.roomy b.recording b.is_roomy) b.never
            now.end now.active))

        go : Mode b → Now (record { desks = desks; active = now.active; end = end_past p.sequence })
            (came ++ (now.active, p) ∷ [])
        go (inr chosen) = (submitted_to b, inr chosen)
        go (inl stays) = pick (cases_eq (b.desk.store.next % ring.slots) 0)
          where
            pick : (b.desk.store.next % ring.slots ≡ 0) ⊎ (b.desk.store.next % ring.slots ≡ 0 → ⊥)
                → Now (record { desks = desks; active = now.active; end = end_past p.sequence })
                (came ++ (now.active, p) ∷ [])
            pick (inr apart) = (
              submitted_to b,
              inl (stays.0, λ edge. absurd (apart (ap (λ m. m % ring.slots) (sym then-next) ∙ edge))),
            )
            pick (inl edge) = (
              submitted_to (caught-up b),
              inr (edge-last b (inl stays) edge, between (stays.1 edge) edge),
            )

    -- ---- a group is taken

    step-take : place ≡ now.active → (f : Flushed) → Takes medium ring keep b.mine b.desk e → Ends e f
        → ((f.first + f.stored) % ring.slots ≡ 0 → f.left ≡ 0) → Now with-desks came
    step-take active f t ends well = (taken_by, inl (refl, settled))
      where
        new : LongRing
        new = record {
          recordings = slice_set b.stores.recordings now.active (plain ring b.mine t.made);
          active = now.active;
          end = end_after b.stores.end t.group;
        }

        nothing : (l : List Picture) → length l ≡ 0 → l ≡ []
        nothing [] none = refl
        nothing (x ∷ l) none = absurd (omega (arith, none))

        settled : e.store.next % ring.slots ≡ 0 → e.pending ≡ []
        settled edge =
            let left = well (ap (λ m. m % ring.slots) ends.next ∙ edge) in
            nothing e.pending (sym ends.left ∙ left)

        some-waits : b.desk.pending ≡ [] → ⊥
        some-waits none =
            let all = ap length (t.whole ∙ none) in
            let both = length-append t.group e.pending in
            let one = t.some in
            absurd (omega (arith, all, both, one))

        within : Mode b → b.last.next % ring.slots ≢ 0 → now.active ≡ b.stores.active
        within (inl stays) apart = stays.0
        within (inr chosen) apart = absurd (apart chosen.0)

        begins : Mode b → b.last.next % ring.slots ≡ 0 → TakesBlock ring keep b.stores now.active
        begins (inr chosen) edge = chosen.1
        begins (inl stays) edge =
            let same : b.last ≡ b.mine = some-same b.last b.mine
            (sym b.last_at ∙ (ap (slice_get b.stores.recordings) (sym stays.0) ∙ b.at)) in
            absurd (some-waits (stays.1 (ap (λ m. m % ring.slots) (next-is b)
            ∙ (ap (λ (r : Recording). r.next % ring.slots) (sym same) ∙ edge))))

        group : TakesGroup ring keep b.stores new now.active t.group
        group = record {
          active = b.last;
          is_active = b.last_at;
          within = within n.1;
          begins = begins n.1;
          taker = b.mine;
          is_taker = b.at;
          some = t.some;
          fits = t.fits;
          made = t.made;
          by = t.by;
          leaves = refl;
        }

        there-active : slice_get now.desks now.active ≡ Some b.desk
        there-active = b.here

        set-active : desks ≡ slice_set now.desks now.active e
        set-active = ap (λ i. slice_set now.desks i e) active

        at-new : slice_get new.recordings now.active ≡ Some (plain ring b.mine t.made)
        at-new = get-set-same b.stores.recordings now.active b.mine (plain ring b.mine t.made) b.at

        room : (cases : (b.roomy ≡ now.active) ⊎ (b.roomy ≡ now.active → ⊥))
            → (r : Recording) × (slice_get new.recordings b.roomy ≡ Some r) × NeverFull ring keep r
        room (inl same) =
            let equal : b.recording ≡ b.mine = some-same b.recording b.mine
            (sym b.is_roomy ∙ (ap (slice_get b.stores.recordings) same ∙ b.at)) in (
              plain ring b.mine t.made,
              ap (slice_get new.recordings) same ∙ at-new,
              never-full ring keep b.mine t.made (steps-append ring keep b.mine t.group t.made t.by)
                  (subst (NeverFull ring keep) equal b.never),
            )
        room (inr apart) = (
          b.recording,
          get-other b.stores.recordings now.active b.roomy (plain ring b.mine t.made) (λ s. apart (sym s)) ∙ b.is_roomy,
          b.never,
        )

        roomy : (r : Recording) × (slice_get new.recordings b.roomy ≡ Some r) × NeverFull ring keep r
        roomy = room (cases_eq b.roomy now.active)

        one : Run ring keep b.stores (taken now.active t.group ∷ []) new
        one = (new, group, refl)

        taken_by : Base with-desks came
        taken_by = record {
          happened = b.happened ++ taken now.active t.group ∷ [];
          stores = new;
          late = b.late;
          recordings = slice_set b.recordings now.active (plain ring b.mine t.made);
          are = ap (λ (l : List Recording). slice_set l now.active (plain ring b.mine t.made)) b.are
              ∙ set-front b.stores.recordings (replicate b.late empty) now.active (plain ring b.mine t.made)
              (slice_get_within b.stores.recordings now.active b.mine b.at);
          run = run-both ring keep start b.stores new b.happened (taken now.active t.group ∷ []) b.run one;
          no_start = starts-both b.happened (taken now.active t.group ∷ []) b.no_start refl;
          each = subst (λ (l : List (SeenDesk D)). StandEach medium ring keep l
              (slice_set b.recordings now.active (plain ring b.mine t.made))) (sym set-active)
              (stand-set medium ring keep now.desks b.recordings b.each now.active b.desk e b.mine
              (plain ring b.mine t.made) b.here (front b now.active b.mine b.at) t.is);
          several = let x = b.several in let y = length-set now.desks place e in omega (arith, x, y);
          desk = e;
          here = ap (slice_get desks) (sym active) ∙ get-set-same now.desks place d e there;
          mine = plain ring b.mine t.made;
          at = at-new;
          last = plain ring b.mine t.made;
          last_at = at-new;
          others = λ i x is apart. b.others i x
              (get-set-other now.desks place i e x (λ s. apart (sym active ∙ sym s)) is) apart;
          end = sym (end-both b.stores.end t.group e.pending) ∙ (ap (end_after b.stores.end) t.whole ∙ b.end);
          frames = ap (λ l. l ++ placed_at now.active e.pending)
              (flat_map-append placed_by b.happened (taken now.active t.group ∷ [])
              ∙ ap (λ l. frames_placed b.happened ++ l) (append-nil (placed_at now.active t.group)))
              ∙ (append_assoc (frames_placed b.happened) (placed_at now.active t.group)
              (placed_at now.active e.pending)
              ∙ (ap (λ l. frames_placed b.happened ++ l) (sym (placed-both now.active t.group e.pending)
              ∙ ap (placed_at now.active) t.whole)
              ∙ b.frames));
          roomy = b.roomy;
          recording = roomy.0;
          is_roomy = roomy.1;
          never = roomy.2;
        }

  -- ---- one thing happens

  quiet-none : (calls : List DeskCall) → list_all is_quiet calls ≡ true → accepted_in calls ≡ []
  quiet-none [] quiet = refl
  quiet-none (clip_locked span (Err fault) ∷ calls) quiet = quiet-none calls quiet
  quiet-none (clip_unlocked id (Err fault) ∷ calls) quiet = quiet-none calls quiet
  quiet-none (frame_read number result ∷ calls) quiet = quiet-none calls quiet
  quiet-none (status_told status ∷ calls) quiet = quiet-none calls quiet
  quiet-none (layout_upgraded result ∷ calls) quiet = quiet-none calls quiet
  quiet-none (run_told times place run ∷ calls) quiet = quiet-none calls quiet
  quiet-none (submitted p size result ∷ calls) quiet = absurd cc
  quiet-none (flushed result ∷ calls) quiet = absurd cc
  quiet-none (clip_locked span (Ok id) ∷ calls) quiet = absurd cc
  quiet-none (clip_unlocked id (Ok x) ∷ calls) quiet = absurd cc

  came-none : (now : DesksNow D) (came none : List (ℕ × Picture)) → none ≡ [] → Now now came → Now now (came ++ none)
  came-none now came none is n =
      subst (Now now) (sym (ap (λ l. came ++ l) is ∙ append-nil came)) n

  moved : (now mid : DesksNow D) (came : List (ℕ × Picture)) (ds : List (SeenDesk D)) (end : ℕ) → mid.desks ≡ ds
      → mid.active ≡ now.active → mid.end ≡ end → Now (record { desks = ds; active = now.active; end = end }) came
      → Now mid came
  moved now mid came ds end same active ends n =
      subst (λ (x : DesksNow D). Now x came)
      (sym (λ i. record { desks = same i; active = active i; end = ends i })) n

  -- the recording for which a desk stands
  stands-for : (now : DesksNow D) (came : List (ℕ × Picture)) → Base now came → (place : ℕ) (d : SeenDesk D)
      → slice_get now.desks place ≡ Some d → (r : Recording) × IsDeskOf medium ring keep r d
  stands-for now came b place d at =
      let l = slice_get_within now.desks place d at in
      let x = b.each.all in
      let r = get-within b.recordings place (omega (arith, l, x)) in
      let found = b.each.stand place r.0 r.1 in
      (r.0, subst (IsDeskOf medium ring keep r.0) (some-same found.0 d (sym found.1 ∙ at)) found.2)

  next-same : (r : Recording) (d e : SeenDesk D) → IsDeskOf medium ring keep r d → IsDeskOf medium ring keep r e
      → e.store.next ≡ d.store.next
  next-same r d e was is = is.stands.told.next_is ∙ sym was.stands.told.next_is

  -- a visit
  goes-visited : (now mid : DesksNow D) (came : List (ℕ × Picture)) (place : ℕ) (calls : List DeskCall) → Now now came
      → GoesOnBy medium now mid place (visited calls) → list_all is_quiet calls ≡ true
      → Now mid (came ++ placed_at place (accepted_in calls))
  goes-visited now mid came place calls n g quiet =
      let d = g.goes.before in
      let e = g.goes.after in
      let r = stands-for now came n.0 place d g.goes.at in
      let stays = quiet-stays medium ring keep r.0 d e r.1 calls g.goes.goes quiet in
      came-none mid came (placed_at place (accepted_in calls)) (ap (placed_at place) (quiet-none calls quiet))
      (moved now mid came (slice_set now.desks place e) now.end g.goes.same g.active g.end
      (step-still now came n place d e g.goes.at stays.pending (next-same r.0 d e r.1 stays.is)
      (λ q is. (quiet-stays medium ring keep q d e is calls g.goes.goes quiet).is)))

  -- a frame that is accepted
  goes-submitted : (now mid : DesksNow D) (came : List (ℕ × Picture)) (place : ℕ) (p : Picture) (size number : ℕ)
      → Now now came → GoesOnBy medium now mid place (own (submitted p size (Ok number)))
      → Now mid (came ++ (place, p) ∷ [])
  goes-submitted now mid came place p size number n g =
      let d = g.goes.before in
      let e = g.goes.after in
      let r = stands-for now came n.0 place d g.goes.at in
      let due = g.due refl in
      let waits = submit-waits medium ring keep r.0 d e r.1 p size number g.goes.goes in
      subst (λ (i : ℕ). Now mid (came ++ (i, p) ∷ [])) (sym due.0)
      (moved now mid (came ++ (now.active, p) ∷ []) (slice_set now.desks place e) (end_past p.sequence) g.goes.same
      g.active g.end
      (step-submit now came n place d e g.goes.at due.0 p waits.0
      (λ q is. (submit-waits medium ring keep q d e is p size number g.goes.goes).1)
      (next-same r.0 d e r.1 waits.1) due.1))

  -- a flush
  goes-flushed : (now mid : DesksNow D) (came : List (ℕ × Picture)) (place : ℕ) (f : Flushed) → Now now came
      → GoesOnBy medium now mid place (own (flushed (Ok f))) → ((f.first + f.stored) % ring.slots ≡ 0 → f.left ≡ 0)
      → Now mid came
  goes-flushed now mid came place f n g well =
      moved now mid came (slice_set now.desks place e) now.end g.goes.same g.active g.end (go done.did)
    where
      d : SeenDesk D
      d = g.goes.before

      e : SeenDesk D
      e = g.goes.after

      b : Base now came
      b = n.0

      there : slice_get now.desks place ≡ Some d
      there = g.goes.at

      r : (q : Recording) × IsDeskOf medium ring keep q d
      r = stands-for now came b place d there

      done : Flushes medium ring keep r.0 d e f
      done = flush-does medium ring keep r.0 d e f r.1 g.goes.goes

      nothing-taken : d.pending ≡ [] → (q : Recording) → Takes medium ring keep q d e → ⊥
      nothing-taken none q t =
          let all = ap length (t.whole ∙ none) in
          let both = length-append t.group e.pending in
          let one = t.some in
          absurd (omega (arith, all, both, one))

      go : Takes medium ring keep r.0 d e ⊎ Stays medium ring keep r.0 d e
          → Now (record { desks = slice_set now.desks place e; active = now.active; end = now.end }) came
      go (inr stays) =
          step-still now came n place d e there stays.pending (next-same r.0 d e r.1 stays.is)
          (λ q is. again q is (flush-does medium ring keep q d e f is g.goes.goes).did)
        where
          again : (q : Recording) → IsDeskOf medium ring keep q d
              → Takes medium ring keep q d e ⊎ Stays medium ring keep q d e → IsDeskOf medium ring keep q e
          again q is (inr same) = same.is
          again q is (inl t) =
              let all = ap length (t.whole ∙ sym stays.pending) in
              let both = length-append t.group e.pending in
              let one = t.some in
              absurd (omega (arith, all, both, one))
      go (inl t) = pick (cases_eq now.active place)
        where
          pick : (now.active ≡ place) ⊎ (now.active ≡ place → ⊥)
              → Now (record { desks = slice_set now.desks place e; active = now.active; end = now.end }) came
          pick (inr apart) = absurd (nothing-taken (b.others place d there apart) r.0 t)
          pick (inl active) =
              let equal : d ≡ b.desk = some-same d b.desk
              (sym there ∙ (ap (slice_get now.desks) (sym active) ∙ b.here)) in
              let goes = subst (λ (x : SeenDesk D). DeskGoes medium x e (flushed (Ok f) ∷ [])) equal g.goes.goes in
              let taken_now = flush-does medium ring keep b.mine b.desk e f (mine-is b) goes in
              taken_at taken_now.did taken_now.ends
            where
              same : d ≡ b.desk
              same = some-same d b.desk (sym there ∙ (ap (slice_get now.desks) (sym active) ∙ b.here))

              taken_at : Takes medium ring keep b.mine b.desk e ⊎ Stays medium ring keep b.mine b.desk e → Ends e f
                  → Now (record { desks = slice_set now.desks place e; active = now.active; end = now.end }) came
              taken_at (inl now_taken) ends =
                  step-take now came n place d e there (sym active) f now_taken ends well
              taken_at (inr stays) ends =
                  let all = ap length (t.whole ∙ (ap (λ (x : SeenDesk D). x.pending) same ∙ sym stays.pending)) in
                  let both = length-append t.group e.pending in
                  let one = t.some in
                  absurd (omega (arith, all, both, one))

  step : (now mid : DesksNow D) (came : List (ℕ × Picture)) (event : DeskEvent D) → Now now came
      → HappensTo medium now event mid → HappensWell medium ring keep event → Now mid (came ++ placed_accepted event)
  step now mid came (turned_to place) n happens well =
      came-none mid came [] refl (step-turn now mid came place n happens)
  step now mid came (joined_by desk) n happens well =
      came-none mid came [] refl
      (subst (λ (x : DesksNow D). Now x came) (sym happens) (step-join now came n desk well.0 well.1))
  step now mid came (done place (visited calls)) n happens well = goes-visited now mid came place calls n happens well
  step now mid came (done place (own (submitted p size (Ok number)))) n happens well =
      goes-submitted now mid came place p size number n happens
  step now mid came (done place (own (flushed (Ok f)))) n happens well =
      came-none mid came [] refl (goes-flushed now mid came place f n happens well)
  step now mid came (done place (own (submitted p size (Err fault)))) n happens well = absurd well
  step now mid came (done place (own (flushed (Err fault)))) n happens well = absurd well
  step now mid came (done place (own (clip_locked span result))) n happens well = absurd well
  step now mid came (done place (own (clip_unlocked id result))) n happens well = absurd well
  step now mid came (done place (own (frame_read number result))) n happens well = absurd well
  step now mid came (done place (own (status_told status))) n happens well = absurd well
  step now mid came (done place (own (layout_upgraded result))) n happens well = absurd well
  step now mid came (done place (own (run_told times at run))) n happens well = absurd well

  all-steps : (now new : DesksNow D) (came : List (ℕ × Picture)) (events : List (DeskEvent D)) → Now now came
      → Happened medium now events new → All (HappensWell medium ring keep) events
      → Now new (came ++ flat_map placed_accepted events)
  all-steps now new came [] n happened well =
      subst (λ (x : DesksNow D). Now x (came ++ [])) (sym happened) (came-none now came [] refl n)
  all-steps now new came (event ∷ events) n happened well =
      let mid = happened.0 in
      let next = step now mid came event n happened.1 (well zero event (omega arith)) in
      subst (Now new) (append_assoc came (placed_accepted event) (flat_map placed_accepted events))
      (all-steps mid new (came ++ placed_accepted event) events next happened.2
      (λ k d l. well (suc k) d (omega (arith, l))))

  -- at the end the stores that joined late are there
  is-run : (new : DesksNow D) (came : List (ℕ × Picture)) → Base new came → IsRun medium ring keep start came new
  is-run new came b = record {
    happened = b.happened ++ replicate b.late joined;
    stores = full b;
    run = full-run b;
    no_start = starts-both b.happened (replicate b.late joined) b.no_start (none-starts b.late);
    stand = subst (λ (rs : List Recording). StandEach medium ring keep new.desks rs) b.are b.each;
    desk = b.desk;
    is_active = b.here;
    others = b.others;
    frames = ap (λ l. l ++ placed_at new.active b.desk.pending) (placed-late b.late b.happened) ∙ b.frames;
    end = b.end;
  }

-- ---- the whole stretch

module _ {D : Type 0} (medium : D → Medium) (ring : Ring) (keep : ℕ) (recordings : List Recording) (old : DesksNow D)
    (some : 1 ≤ ring.slots) (begins : Begins medium ring keep old recordings) where
  first : Now medium ring keep some (ring_now old recordings) old []
  first =
      let desk = get-within old.desks old.active begins.active in
      let long = begins.each.all in
      let active = begins.active in
      let mine = get-within recordings old.active (omega (arith, long, active)) in
      let none = begins.none_waits old.active desk.0 desk.1 in (
        record {
          happened = [];
          stores = ring_now old recordings;
          late = 0;
          recordings = recordings;
          are = sym (append-nil recordings);
          run = refl;
          no_start = refl;
          each = begins.each;
          several = begins.several;
          desk = desk.0;
          here = desk.1;
          mine = mine.0;
          at = mine.1;
          last = mine.0;
          last_at = mine.1;
          others = λ place d there apart. begins.none_waits place d there;
          end = ap (end_after old.end) none;
          frames = ap (placed_at old.active) none;
          roomy = begins.roomy;
          recording = begins.recording;
          is_roomy = begins.is_roomy;
          never = begins.never_full;
        },
        inl (refl, λ edge. none),
      )

pub filming-is-run : {D : Type 0} (medium : D → Medium) → FilmingIsRun medium
filming-is-run medium ring keep recordings old new events some begins happened well =
    let n = all-steps medium ring keep some (ring_now old recordings) old new [] events
    (first medium ring keep recordings old some begins) happened well in
    is-run medium ring keep some (ring_now old recordings) new (flat_map placed_accepted events) n.0
