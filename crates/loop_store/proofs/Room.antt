-- What making room leaves: a block recycled, a block begun, or nothing done.
use Rattle.std.proofs.Common.{◌≡◌, ◌≢◌, ◌⊎◌, inl, inr, ℕ, zero, suc, ◌+◌, ◌/◌, ◌%◌, ◌<◌, ◌≤◌, Bool, true, false, eqb, Option, Some, None, Ok, Result, List, [], ◌∷◌, length, set, get_or, refl, sym, ap, ◌∙◌, subst, arith}
use Rattle.std.proofs.lemmas.Bool.{cases_lt}
use Rattle.std.proofs.lemmas.List.{set-get_or, get_or-set_same}
use Rattle.std.specs.Prelude.{◌||◌}
use Rattle.std.specs.List.{list_any}
use Rattle.loop_record.specs.declared.damage.LayoutFault.{LayoutFault}
use Rattle.loop_record.specs.declared.geometry.Geometry.{Geometry}
use Rattle.loop_record.specs.declared.segment.SegmentHead.{SegmentHead}
use Rattle.loop_record.specs.Change.{ShowsSegment}
use Rattle.loop_record.specs.Geometry.{gate_at, segment_at, segment_size}
use Rattle.loop_record.specs.Layout.{Segment, segment_in, version_in}
use Rattle.loop_record.specs.Reading.{Contents, Holds, empty_segment, open_segments}
use Rattle.loop_record.specs.Parts.{parts_of}
use Rattle.loop_record.specs.Recording.{Picture, Recording, after_step, needs_recycling, plain, recycle, recycling_first, ring_of, victim}
use Rattle.loop_record.proofs.TestFacts.{neither}
use Rattle.loop_record.proofs.OwnBytes.{SameWithin, same_open, same_segment, same_whole_frames}
use Rattle.loop_record.proofs.Parts.{apart, parts-shows, these, version-outside, within_before, within_behind}
use Rattle.loop_record.proofs.Readings.{reading-retire, reading-same}
use Rattle.loop_ring.specs.Heads.{heads_of}
use Rattle.loop_ring.specs.Writes.{HasNoStray, ShowsFrames, ShowsOrNot}
use Rattle.loop_ring.proofs.Heads.{heads-committed, heads-length, heads-shown}
use Rattle.loop_store.specs.declared.place.AppendPlace.{AppendPlace}
use Rattle.loop_store.specs.declared.place.AppendPlace.TheVariants.{Newest, Closed, Victim}
use Rattle.loop_store.specs.Grow.{HasNoneStray, IsFreeFor, IsNewestSegment}
use Rattle.loop_store.specs.AppendPlace.{IsBegunAt, IsGrownAt, IsKnown, IsOldFor, IsPlaceAt, head_at, place_segment, steps_before}
use Rattle.loop_store.proofs.Names.{HoldsSome, steps_or_none}

-- ---- one image holds one recording

abbrev ok : Contents → Result Contents LayoutFault
ok c = Ok c

same_contents : (c d : Contents) → ok c ≡ ok d → c ≡ d
same_contents c d e = cc

pub one-recording : (g : Geometry) (r s : Recording) (image : List ℕ) → Holds g r image → Holds g s image → r ≡ s
one-recording g r s image e f = ap (λ (c : Contents). c.recording) (same_contents (these g r) (these g s) (sym e ∙ f))

-- ---- the steps before the stores

pub before-none : (g : Geometry) (keep : ℕ) (r : Recording) → needs_recycling (ring_of g) r ≡ false → steps_before g keep r ≡ []
before-none g keep r e = ap (λ (b : Bool). steps_or_none (recycling_first b (victim (ring_of g) keep r))) e

pub before-one : (g : Geometry) (keep : ℕ) (r : Recording) (b : ℕ) → needs_recycling (ring_of g) r ≡ true
    → victim (ring_of g) keep r ≡ Some b → steps_before g keep r ≡ recycle b ∷ []
before-one g keep r b e v = λ i. steps_or_none (recycling_first (e i) (v i))

-- ---- the other segments

-- a change of one segment leaves the others as they were
others : (g : Geometry) (i j : ℕ) (part : Option Segment) (old new : List ℕ) → (i ≡ j → ⊥)
    → ShowsSegment g j part old new → SameWithin (segment_at g i) (segment_at g i + segment_size g) new old
others g i j part old new differ shows = go (cases_lt i j)
  where
    go : (i < j) ⊎ (j ≤ i) → SameWithin (segment_at g i) (segment_at g i + segment_size g) new old
    go (inl l) = within_before (segment_at g j) (segment_size g) (segment_at g i) (segment_at g i + segment_size g) old new shows.outside (apart g i j l)
    go (inr l) = within_behind (segment_at g j) (segment_size g) (segment_at g i) (segment_at g i + segment_size g)
        old new shows.outside (apart g j i (strictly (λ (e : i ≡ j). differ e) l))
      where
        strictly : (i ≡ j → ⊥) → j ≤ i → j < i
        strictly d l = between (cases_lt j i)
          where
            between : (j < i) ⊎ (i ≤ j) → j < i
            between (inl a) = a
            between (inr a) = absurd (d (omega (arith, a, l)))

stray-others : (g : Geometry) (i : ℕ) (old new : List ℕ) → g.slots ≤ 256
    → SameWithin (segment_at g i) (segment_at g i + segment_size g) new old → HasNoStray g i old → HasNoStray g i new
stray-others g i old new few same none = λ k low below.
    let header : SameWithin (segment_at g i) (segment_at g i + 512) new old = record { size = same.size; bytes = λ x l u. same.bytes x l (omega (arith, u)) } in
    let whole = same_whole_frames g new old i few header in
    same_open new old (gate_at g i k)
    (record { size = same.size; bytes = λ x l u. same.bytes x (omega (arith, l)) (omega (arith, u, below, few)) })
    ∙ none k (omega (arith, low, whole)) below

-- so where the changed one has no stray gate, no segment has one
pub unstray-shown : (g : Geometry) (j : ℕ) (part : Option Segment) (old new : List ℕ) → g.slots ≤ 256
    → ShowsSegment g j part old new → HasNoneStray g old → (part ≢ None → HasNoStray g j new) → HasNoneStray g new
unstray-shown g j part old new few shows none here i within open_segments = go (cases_lt i j)
  where
    other : (i ≡ j → ⊥) → HasNoStray g i new
    other differ =
        let same = others g i j part old new differ shows in
        stray-others g i old new few same (none i within (λ e. open_segments (same_segment g new old i few same ∙ e)))

    go : (i < j) ⊎ (j ≤ i) → HasNoStray g i new
    go (inl l) = other (λ e. absurd (omega (arith, l, e)))
    go (inr l) = rest (cases_lt j i)
      where
        rest : (j < i) ⊎ (i ≤ j) → HasNoStray g i new
        rest (inl m) = other (λ e. absurd (omega (arith, m, e)))
        rest (inr m) =
            let same : i ≡ j = omega (arith, l, m) in
            subst (λ (k : ℕ). HasNoStray g k new) (sym same) (here (λ (e : part ≡ None). open_segments (ap (segment_in g new) same ∙ shows.holds ∙ e)))

-- and the layout keeps its version
shown-version : (g : Geometry) (j : ℕ) (part : Option Segment) (old new : List ℕ) → ShowsSegment g j part old new
    → version_in new ≡ version_in old
shown-version g j part old new shows = version-outside (segment_at g j) (segment_size g) old new (omega arith) shows.outside

-- ---- a block that begins

pub begun-heads : (g : Geometry) (next j : ℕ) (old new : List ℕ) → g.slots ≤ 256 → j < g.segments → next % g.slots ≡ 0
    → ShowsSegment g j (Some (empty_segment (next / g.slots))) old new → heads_of g new ≡ set (heads_of g old) j
    (Some (head_at g next))
begun-heads g next j old new few l first shows = heads-shown g j (Some (empty_segment (next / g.slots))) old new few l
    shows ∙ (λ i. set (heads_of g old) j (Some (record { block = next / g.slots; frames = sym first i })))

pub closed-begun : (g : Geometry) (next j : ℕ) (old new : List ℕ) → g.slots ≤ 256 → j < g.segments
    → next % g.slots ≡ 0 → HasNoneStray g old → ShowsSegment g j (Some (empty_segment (next / g.slots))) old new
    → HasNoStray g j new → IsBegunAt g next j old new
closed-begun g next j old new few l first unstray shows stray = record {
  heads = begun-heads g next j old new few l first shows;
  unstray = unstray-shown g j (Some (empty_segment (next / g.slots))) old new few shows unstray (λ some. stray);
  version = shown-version g j _ old new shows;
}

-- ---- a block that is recycled

any_without : (p : Segment → Bool) (ps : List (Option Segment)) (j : ℕ) → list_any p (open_segments ps) ≡ false
    → list_any p (open_segments (set ps j None)) ≡ false
any_without p [] j e = e
any_without p (None ∷ ps) zero e = e
any_without p (Some s ∷ ps) zero e = (neither (p s) (list_any p (open_segments ps)) e).1
any_without p (None ∷ ps) (suc j) e = any_without p ps j e
any_without p (Some s ∷ ps) (suc j) e =
    let k = neither (p s) (list_any p (open_segments ps)) e in
    let rest = any_without p ps j k.1 in
    λ i. k.0 i || rest i

pub retired-free : (g : Geometry) (next b j : ℕ) (old c : List ℕ) → g.slots ≤ 256 → j < g.segments
    → IsOldFor g next b j old → ShowsSegment g j None old c → IsFreeFor g next j c
retired-free g next b j old c few l is shows =
    let parts = parts-shows g j None old c few l shows in
    let test = λ (s : Segment). eqb s.block (next / g.slots) in
    record {
      closed = shows.holds;
      apart = ap (λ ps. list_any test (open_segments ps.segments)) parts ∙ any_without test (parts_of g old).segments j is.apart;
      low_enough = is.low_enough;
    }

pub retired-held : (g : Geometry) (keep : ℕ) (r : Recording) (b j : ℕ) (old c : List ℕ) → Holds g r old → j < g.segments
    → victim (ring_of g) keep r ≡ Some b → IsOldFor g r.next b j old → ShowsSegment g j None old c
    → Holds g (after_step (ring_of g) r (recycle b)) c
retired-held g keep r b j old c held l chosen is shows =
    let e = sym is.block_is in
    subst (λ (n : ℕ). Holds g (after_step (ring_of g) r (recycle n)) c) is.block_is
    (reading-retire g keep r old c j is.segment held l is.there (chosen ∙ (λ i. Some (e i))) shows)

pub retired-held_or : (g : Geometry) (keep : ℕ) (r : Recording) (b j : ℕ) (old c : List ℕ) → Holds g r old → j < g.segments
    → victim (ring_of g) keep r ≡ Some b → IsOldFor g r.next b j old → ShowsOrNot g j None old c
    → HoldsSome g r (recycle b ∷ []) c
retired-held_or g keep r b j old c held l chosen is (inl same) =
    record { count = 0; enough = omega arith; few = omega arith; held = reading-same g r old c j held l same }
retired-held_or g keep r b j old c held l chosen is (inr shows) =
    record {
      count = 1;
      enough = omega arith;
      few = omega arith;
      held =
          retired-held g keep r b j old c held l chosen is shows;
    }

set_again : {X : Type 0} (xs : List X) (j : ℕ) (x y : X) → set (set xs j x) j y ≡ set xs j y
set_again [] j x y = refl
set_again (z ∷ xs) zero x y = refl
set_again (z ∷ xs) (suc j) x y = ap (λ ys. z ∷ ys) (set_again xs j x y)

pub replaced-begun : (g : Geometry) (next j : ℕ) (old mid new : List ℕ) → g.slots ≤ 256 → j < g.segments
    → next % g.slots ≡ 0 → HasNoneStray g old → ShowsSegment g j None old mid
    → ShowsSegment g j (Some (empty_segment (next / g.slots))) mid new → HasNoStray g j new → IsBegunAt g next j old new
replaced-begun g next j old mid new few l first unstray gone shows stray = record {
  heads =
      begun-heads g next j mid new few l first shows ∙ ap (λ hs. set hs j (Some (head_at g next))) (heads-shown g j None old mid few l gone)
      ∙ set_again (heads_of g old) j None (Some (head_at g next));
  unstray = unstray-shown g j (Some (empty_segment (next / g.slots))) mid new few shows
      (unstray-shown g j None old mid few gone unstray (λ some. absurd (some refl))) (λ some. stray);
  version = shown-version g j _ mid new shows ∙ shown-version g j _ old mid gone;
}

-- ---- what is known of a place

-- what is known of the block that goes, for each recording that the image holds
pub record Goes (g : Geometry) (keep : ℕ) (r : Recording) (next j : ℕ) (image : List ℕ) : Type 0 where
  pub block : ℕ
  pub chosen : victim (ring_of g) keep r ≡ Some block
  pub is : IsOldFor g r.next block j image
  pub steps : steps_before g keep r ≡ recycle block ∷ []

pub goes : (g : Geometry) (keep : ℕ) (r : Recording) (next j : ℕ) (image : List ℕ) → IsKnown g keep next (Victim j) image
    → Holds g r image → Goes g keep r next j image
goes g keep r next j image known held =
    let place = subst (λ (q : Recording). IsPlaceAt g keep q image (Victim j)) (one-recording g known.recording r image known.held held) known.is_place in
    record { block = place.0; chosen = place.1.0; is = place.1.1.0; steps = before-one g keep r place.0 place.1.1.1.1 place.1.0 }

pub first-of : (g : Geometry) (keep next j : ℕ) (image : List ℕ) → IsKnown g keep next (Victim j) image → next % g.slots ≡ 0
first-of g keep next j image known = ap (λ (n : ℕ). n % g.slots) (sym known.next_is) ∙ known.is_place.1.1.1.0

-- and of a closed segment
pub record IsClosedFor (g : Geometry) (keep : ℕ) (r : Recording) (next j : ℕ) (image : List ℕ) : Type 0 where
  pub free : IsFreeFor g next j image
  pub first : next % g.slots ≡ 0
  pub steps : steps_before g keep r ≡ []

pub closed-for : (g : Geometry) (keep : ℕ) (r : Recording) (next j : ℕ) (image : List ℕ) → IsKnown g keep next (Closed j) image
    → Holds g r image → r.next ≡ next → IsClosedFor g keep r next j image
closed-for g keep r next j image known held is =
    let place = subst (λ (q : Recording). IsPlaceAt g keep q image (Closed j)) (one-recording g known.recording r image known.held held) known.is_place in
    record {
      free = subst (λ (n : ℕ). IsFreeFor g n j image) is place.0;
      first = ap (λ (n : ℕ). n % g.slots) (sym is) ∙ place.1.0;
      steps = before-none g keep r place.1.1;
    }

-- and of the newest one
pub record IsNewestFor (g : Geometry) (keep : ℕ) (r : Recording) (next j : ℕ) (image : List ℕ) : Type 0 where
  pub newest : IsNewestSegment g next j image
  pub begun : IsBegunAt g next j image image
  pub steps : steps_before g keep r ≡ []

pub newest-for : (g : Geometry) (keep : ℕ) (r : Recording) (next j : ℕ) (image : List ℕ) → j < g.segments
    → IsKnown g keep next (Newest j) image → Holds g r image → r.next ≡ next → IsNewestFor g keep r next j image
newest-for g keep r next j image l known held is =
    let place = subst (λ (q : Recording). IsPlaceAt g keep q image (Newest j)) (one-recording g known.recording r image known.held held) known.is_place in
    let at = place.0 in
    let stray = known.unstray j l (λ none. no_segment at.segment (sym at.there ∙ none)) in
    record {
      newest = subst (λ (n : ℕ). IsNewestSegment g n j image) is
          (record { segment = at.segment; there = at.there; of_next = at.of_next; whole = at.whole; stray = stray });
      begun = record {
        heads = sym (subst
            (λ (n : ℕ). set (heads_of g image) j (Some (head_at g n)) ≡ heads_of g image) is
            (ap (λ (o : Option SegmentHead). set (heads_of g image) j o) (sym at.head)
            ∙ set-get_or (heads_of g image) j None));
        unstray = known.unstray;
        version = refl;
      };
      steps = before-none g keep r place.1;
    }
  where
    no_segment : (s : Segment) → Some s ≡ None → ⊥
    no_segment s e = absurd cc

-- ---- a place of one of these kinds

pub known-newest : (g : Geometry) (keep : ℕ) (r : Recording) (next j : ℕ) (p : AppendPlace) (image : List ℕ) → p ≡ Newest j
    → place_segment p < g.segments → IsKnown g keep next p image → Holds g r image → r.next ≡ next
    → IsNewestFor g keep r next (place_segment p) image
known-newest g keep r next j p image is l known held same =
    let e : place_segment p ≡ j = ap place_segment is in
    subst (λ (k : ℕ). IsNewestFor g keep r next k image) (sym e)
    (newest-for g keep r next j image (subst (λ (k : ℕ). k < g.segments) e l)
    (subst (λ (q : AppendPlace). IsKnown g keep next q image) is known) held same)

pub known-closed : (g : Geometry) (keep : ℕ) (r : Recording) (next j : ℕ) (p : AppendPlace) (image : List ℕ) → p ≡ Closed j
    → IsKnown g keep next p image → Holds g r image → r.next ≡ next → IsClosedFor g keep r next j image
known-closed g keep r next j p image is known held same =
    closed-for g keep r next j image (subst (λ (q : AppendPlace). IsKnown g keep next q image) is known) held same

pub closed-at : (g : Geometry) (keep next j : ℕ) (p : AppendPlace) (old new : List ℕ) → g.slots ≤ 256 → p ≡ Closed j
    → place_segment p < g.segments → IsKnown g keep next p old
    → ShowsSegment g j (Some (empty_segment (next / g.slots))) old new → HasNoStray g j new
    → IsBegunAt g next (place_segment p) old new
closed-at g keep next j p old new few is l known shows stray =
    let e : place_segment p ≡ j = ap place_segment is in
    let c = known-closed g keep known.recording next j p old is known known.held known.next_is in
    subst (λ (k : ℕ). IsBegunAt g next k old new) (sym e)
    (closed-begun g next j old new few (subst (λ (k : ℕ). k < g.segments) e l) c.first known.unstray shows stray)

-- ---- frames that are stored there

pub grown-at : (g : Geometry) (next j : ℕ) (ps : List Picture) (old mid new : List ℕ) → g.slots ≤ 256 → j < g.segments
    → IsBegunAt g next j old mid → ShowsFrames g j next ps mid new → HasNoStray g j new
    → IsGrownAt g next (length ps) j old new
grown-at g next j ps old mid new few l empty_segment shows stray = record {
  heads =
      heads-committed g j next (head_at g next) ps mid new few l head shows
      ∙ ap (λ hs. set hs j (Some (record { block = next / g.slots; frames = next % g.slots + length ps }))) empty_segment.heads
      ∙ set_again (heads_of g old) j (Some (head_at g next)) (Some (record { block = next / g.slots; frames = next % g.slots + length ps }));
  unstray = unstray-shown g j _ mid new few shows empty_segment.unstray (λ some. stray);
  version = shown-version g j _ mid new shows ∙ empty_segment.version;
}
  where
    head : get_or (heads_of g mid) j None ≡ Some (head_at g next)
    head = ap (λ hs. get_or hs j None) empty_segment.heads ∙ get_or-set_same (heads_of g old) j
        (Some (head_at g next)) None (omega (arith, l, heads-length g old))

-- a recycling leaves the next number
pub before-next : (g : Geometry) (keep : ℕ) (r : Recording) → (plain (ring_of g) r (steps_before g keep r)).next ≡ r.next
before-next g keep r = go (needs_recycling (ring_of g) r) (victim (ring_of g) keep r)
  where
    go : (b : Bool) (v : Option ℕ) → (plain (ring_of g) r (steps_or_none (recycling_first b v))).next ≡ r.next
    go false v = refl
    go true None = refl
    go true (Some b) = refl

pub grown-place : (g : Geometry) (next count k : ℕ) (p : AppendPlace) (ps : List Picture) (old mid new : List ℕ)
    → g.slots ≤ 256 → k ≡ place_segment p → place_segment p < g.segments → length ps ≡ count
    → IsBegunAt g next (place_segment p) old mid → ShowsFrames g k next ps mid new → HasNoStray g k new
    → IsGrownAt g next count (place_segment p) old new
grown-place g next count k p ps old mid new few at l many empty_segment shows stray =
    subst (λ (n : ℕ). IsGrownAt g next n (place_segment p) old new) many
    (grown-at g next (place_segment p) ps old mid new few l empty_segment
    (subst (λ (j : ℕ). ShowsFrames g j next ps mid new) at shows) (subst (λ (j : ℕ). HasNoStray g j new) at stray))
