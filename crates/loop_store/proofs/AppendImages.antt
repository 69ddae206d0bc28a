-- An append noted in an index: the image that it draws then.
use Rattle.std.proofs.Common.{◌≡◌, ℕ, ◌+◌, ◌*◌, ◌/◌, ◌%◌, ◌^◌, ◌<◌, true, All, IsTrue, Option, Some, None, List, [], ◌∷◌, ◌++◌, length, set, map, refl, sym, ap, ◌∙◌, subst, arith}
use Rattle.std.proofs.Math.Nat.{div-add-mod'}
use Rattle.std.proofs.lemmas.List.{get_or-set_same, length-map, length-set, set-set}
use Rattle.std.specs.List.{range_with_len}
use Rattle.loop_record.specs.declared.geometry.Geometry.{Geometry}
use Rattle.loop_record.specs.declared.segment.SegmentHead.{SegmentHead}
use Rattle.loop_record.specs.Geometry.{frame_bytes, is_good, slot_at}
use Rattle.loop_record.specs.Layout.{Segment, Slot, slot_in}
use Rattle.loop_record.specs.Reading.{Holds}
use Rattle.loop_record.specs.Recording.{Picture, Recording, Step, after_step, plain, recycle, ring_of, store}
use Rattle.loop_record.proofs.Bounds.{limits}
use Rattle.loop_record.proofs.TestFacts.{not_below}
use Rattle.loop_record.proofs.Gates.{slots_from}
use Rattle.loop_record.proofs.Readings.{length-range, reading-commit}
use Rattle.loop_ring.specs.Heads.{heads_of}
use Rattle.loop_ring.proofs.Heads.{there}
use Rattle.loop_store.specs.declared.index.Index.{Index}
use Rattle.loop_store.specs.declared.place.AppendPlace.{AppendPlace}
use Rattle.loop_store.specs.declared.place.AppendPlace.TheVariants.{Newest, Closed, Victim}
use Rattle.loop_store.specs.Drawn.{drawn_image}
use Rattle.loop_store.specs.Grow.{IsFreeFor}
use Rattle.loop_store.specs.AppendPlace.{IsPlaceAt, head_at, place_segment, steps_before}
use Rattle.loop_store.specs.Found.{IsHeadIn}
use Rattle.loop_store.specs.Index.{IsIndexOf, head_after}
use Rattle.loop_store.proofs.IndexImages.{AllStand, Clips, Heads, MayStand, head_in, heads-drawn, slots-drawn}
use Rattle.loop_store.proofs.BlockImages.{begun-held}
use Rattle.loop_store.proofs.ImageChanges.{drawn-begun, drawn-closed, drawn-grown, segment-of}
use Rattle.loop_store.proofs.Room.{before-none, before-one, retired-free, retired-held}
use Rattle.loop_record.proofs.Names.{hold_from}

-- ---- headers that are possible

pub stand-of : (g : Geometry) (o : Option SegmentHead) → IsHeadIn g o → MayStand g o
stand-of g None may = tt
stand-of g (Some h) may = (may.0, not_below (2 ^ 62) ((h.block + 1) * g.slots) may.1)

pub all-stand : (g : Geometry) (heads : Heads) → length heads ≡ g.segments → All (IsHeadIn g) heads → AllStand g heads
all-stand g heads count within j l = stand-of g (head_in heads j) (within j None (omega (arith, count, l)))

-- ---- an index of what is drawn

pub known-drawn : {A : Type 0} (now : Index A) (g : Geometry) (heads : Heads) (clips : Clips) (r : Recording)
    → IsTrue (is_good g) → length heads ≡ g.segments → All (IsHeadIn g) heads → Holds g r (drawn_image g heads clips)
    → now.ring.geometry ≡ g → now.table.heads ≡ heads → now.clips ≡ clips → now.next ≡ r.next → clips ≡ r.clips
    → IsIndexOf now r (drawn_image now.ring.geometry now.table.heads now.clips)
known-drawn now g heads clips r good count within held geometry heads_are clips_are next same = record {
  held = subst (λ (h : Geometry). Holds h r (drawn_image h now.table.heads now.clips)) (sym geometry)
      (subst (λ (hs : Heads). Holds g r (drawn_image g hs now.clips)) (sym heads_are)
      (subst (λ (cs : Clips). Holds g r (drawn_image g heads cs)) (sym clips_are) held));
  next_is = next;
  heads_are = heads_are ∙ sym (heads-drawn g heads clips good count (all-stand g heads count within))
      ∙ (λ i. heads_of (sym geometry i) (drawn_image (sym geometry i) (sym heads_are i) (sym clips_are i)));
  clips_are = clips_are ∙ same;
}

-- ---- made-up frames

-- what is drawn after an append of this many frames
pub record Regrown (g : Geometry) (heads : Heads) (clips : Clips) (r : Recording) (before : List Step) (count : ℕ) : Type 0 where
  pub pictures : List Picture
  pub size : length pictures ≡ count
  pub held : Holds g (plain (ring_of g) r (before ++ map store pictures)) (drawn_image g heads clips)

-- in the segment of the next number, with the frames before it
commit-drawn : (g : Geometry) (heads : Heads) (clips : Clips) (r : Recording) (j n : ℕ) → IsTrue (is_good g)
    → j < g.segments → Holds g r (drawn_image g heads clips) → head_in heads j ≡ Some (head_at g r.next)
    → MayStand g (Some (head_after g r.next n))
    → Regrown g (set heads j (Some (head_after g r.next n))) clips r [] n
commit-drawn g heads clips r j n good l held is may = record {
  pictures = map (λ t. t.picture) ts;
  size = length-map ts (λ t. t.picture) ∙ length-map (range_with_len first n) (λ i. slot_in (frame_bytes g) new (slot_at g j i)) ∙ length-range first n;
  held = reading-commit g r old new j u ts held l
      (segment-of g heads clips j (head_at g r.next) good l is (omega (arith, may.0), may.1)) refl hold
      (drawn-grown g heads clips j n (head_at g r.next) good l is may);
}
  where
    first : ℕ
    first = r.next % g.slots

    old : List ℕ
    old = drawn_image g heads clips

    new : List ℕ
    new = drawn_image g (set heads j (Some (head_after g r.next n))) clips

    ts : List Slot
    ts = slots_from g new j first n

    u : Segment
    u = record { block = r.next / g.slots; slots = slots_from g old j 0 first }

    hold : hold_from (frame_bytes g) r.next ts ≡ true
    hold =
        let at : r.next ≡ r.next / g.slots * g.slots + first = omega (arith, div-add-mod' r.next g.slots) in
        ap (λ (k : ℕ). hold_from (frame_bytes g) k ts) at
        ∙ slots-drawn g (set heads j (Some (head_after g r.next n))) clips j first n (head_after g r.next n) good l
        (get_or-set_same heads j (Some (head_after g r.next n)) None (there heads j (head_at g r.next) is)) may
        may.0

-- in a closed segment
begin-drawn : (g : Geometry) (heads : Heads) (clips : Clips) (r : Recording) (j n : ℕ) → IsTrue (is_good g)
    → j < g.segments → j < length heads → Holds g r (drawn_image g heads clips) → r.next % g.slots ≡ 0
    → IsFreeFor g r.next j (drawn_image g heads clips) → MayStand g (Some (head_after g r.next n))
    → Regrown g (set heads j (Some (head_after g r.next n))) clips r [] n
begin-drawn g heads clips r j n good l u held first free may =
    let h : SegmentHead = record { block = r.next / g.slots; frames = 0 } in
    let begun = set heads j (Some h) in
    let mid = begun-held g r r.next j (drawn_image g heads clips) (drawn_image g begun clips) held refl l first free
    (drawn-begun g heads clips j (r.next / g.slots) good l u (omega arith, may.1)) in
    let is : head_in begun j ≡ Some (head_at g r.next) = get_or-set_same heads j (Some h) None u
    ∙ (λ i. Some (record { block = r.next / g.slots; frames = sym first i })) in
    subst (λ (hs : Heads). Regrown g hs clips r [] n) (set-set heads j (Some h) (Some (head_after g r.next n)))
    (commit-drawn g begun clips r j n good l mid is may)

-- at a place
pub regrown : (g : Geometry) (keep : ℕ) (heads : Heads) (clips : Clips) (r : Recording) (place : AppendPlace) (n : ℕ)
    → IsTrue (is_good g) → length heads ≡ g.segments → All (IsHeadIn g) heads → place_segment place < g.segments
    → Holds g r (drawn_image g heads clips) → IsPlaceAt g keep r (drawn_image g heads clips) place
    → IsHeadIn g (Some (head_after g r.next n)) → Regrown g (set heads (place_segment place) (Some (head_after g r.next n))) clips r (steps_before g keep r) n
regrown g keep heads clips r (Newest j) n good count within l held at may =
    let is : head_in heads j ≡ Some (head_at g r.next) = ap (λ (hs : Heads). head_in hs j)
    (sym (heads-drawn g heads clips good count (all-stand g heads count within))) ∙ at.0.head in
    subst (λ (steps : List Step). Regrown g (set heads j (Some (head_after g r.next n))) clips r steps n) (sym (before-none g keep r at.1))
    (commit-drawn g heads clips r j n good l held is (stand-of g (Some (head_after g r.next n)) may))
regrown g keep heads clips r (Closed j) n good count within l held at may =
    subst (λ (steps : List Step). Regrown g (set heads j (Some (head_after g r.next n))) clips r steps n) (sym (before-none g keep r at.1.1))
    (begin-drawn g heads clips r j n good l (omega (arith, l, count)) held at.1.0 at.0 (stand-of g (Some (head_after g r.next n)) may))
regrown g keep heads clips r (Victim j) n good count within l held at may =
    let few = (limits g good).slots.1 in
    let old = drawn_image g heads clips in
    let closed = set heads j None in
    let b = at.0 in
    let shows = drawn-closed g heads clips j l (omega (arith, l, count)) in
    let mid = retired-held g keep r b j old (drawn_image g closed clips) held l at.1.0 at.1.1.0 shows in
    let free = retired-free g r.next b j old (drawn_image g closed clips) few l at.1.1.0 shows in
    let last = begin-drawn g closed clips (after_step (ring_of g) r (recycle b)) j n good l
    (omega (arith, l, count, length-set heads j None)) mid at.1.1.1.0 free
    (stand-of g (Some (head_after g r.next n)) may) in
    subst (λ (steps : List Step). Regrown g (set heads j (Some (head_after g r.next n))) clips r steps n) (sym (before-one g keep r b at.1.1.1.1 at.1.0))
    (record {
      pictures = last.pictures;
      size = last.size;
      held = subst (λ (hs : Heads). Holds g (plain (ring_of g) r (recycle b ∷ map store last.pictures))
          (drawn_image g hs clips)) (set-set heads j None (Some (head_after g r.next n))) last.held;
    })
