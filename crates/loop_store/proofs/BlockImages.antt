-- What a begun block and stored frames make of an image.
use Rattle.std.proofs.Common.{◌≡◌, inl, inr, ℕ, zero, suc, ◌+◌, ◌*◌, ◌/◌, ◌%◌, ◌<◌, ◌≤◌, true, ◌&&◌, eqb, Option, Some, List, [], ◌∷◌, ◌++◌, length, take, map, refl, sym, ap, ◌∙◌, subst, arith}
use Rattle.std.proofs.lemmas.List.{length-map, length-append}
use Rattle.std.proofs.lemmas.Bool.Decides.{nat_tests}
use Rattle.std.proofs.Math.Nat.{div-add-mod'}
use Rattle.loop_disk.specs.Medium.{Medium, LeavesOnly}
use Rattle.loop_disk.proofs.Moments.{joined, weaker}
use Rattle.loop_record.specs.declared.geometry.Geometry.{Geometry}
use Rattle.loop_record.specs.Change.{ShowsSegment}
use Rattle.loop_record.specs.Geometry.{frame_bytes}
use Rattle.loop_record.specs.Recording.{Picture, Recording, Step, store, plain, ring_of}
use Rattle.loop_record.specs.Layout.{Segment, segment_in}
use Rattle.loop_record.specs.Reading.{Holds, empty_segment}
use Rattle.loop_record.proofs.Steps.{plain-append}
use Rattle.loop_record.proofs.Readings.{reading-commit, reading-begin, reading-same, whole-length}
use Rattle.loop_ring.specs.Writes.{HasNoStray, ShowsOrNot, ShowsFrames, ShowsBeginning, slots_of, with_more}
use Rattle.loop_store.specs.Steps.{HoldsFrom}
use Rattle.loop_store.specs.Grow.{IsNewestSegment, IsFreeFor}
use Rattle.loop_record.proofs.Names.{hold_from}
use Rattle.loop_store.proofs.Names.{HoldsSome}

-- ---- the slots of frames

pub slots_of-hold : (n number : ℕ) (ps : List Picture) → hold_from n number (slots_of n number ps) ≡ true
slots_of-hold n number [] = refl
slots_of-hold n number (p ∷ ps) =
    let rest = slots_of-hold n (number + 1) ps in
    let a : eqb number number ≡ true = grind (arith, nat_tests) in
    let b : eqb n n ≡ true = grind (arith, nat_tests) in
    λ i. (a i && b i) && rest i

pub slots_of-pictures : (n number : ℕ) (ps : List Picture) → map (λ t. t.picture) (slots_of n number ps) ≡ ps
slots_of-pictures n number [] = refl
slots_of-pictures n number (p ∷ ps) = ap (λ qs. p ∷ qs) (slots_of-pictures n (number + 1) ps)

take-stores : (k : ℕ) (ps : List Picture) → take k (map store ps) ≡ map store (take k ps)
take-stores zero ps = refl
take-stores (suc k) [] = refl
take-stores (suc k) (p ∷ ps) = ap (λ steps. store p ∷ steps) (take-stores k ps)

-- ---- frames that were stored

pub frames-held : (g : Geometry) (r : Recording) (j next : ℕ) (ps : List Picture) (old c : List ℕ) → Holds g r old
    → r.next ≡ next → j < g.segments → IsNewestSegment g next j old → ShowsFrames g j next ps old c
    → Holds g (plain (ring_of g) r (map store ps)) c
frames-held g r j next ps old c held is l newest shows =
    let u = newest.segment in
    let ts = slots_of (frame_bytes g) next ps in
    let part : with_more ts (segment_in g old j) ≡ Some (record u { slots = u.slots ++ ts }) = ap (with_more ts) newest.there in
    let hold : hold_from (frame_bytes g) r.next ts ≡ true = ap (λ (n : ℕ). hold_from (frame_bytes g) n ts) is ∙ slots_of-hold (frame_bytes g) next ps in
    subst (λ (qs : List Picture). Holds g (plain (ring_of g) r (map store qs)) c) (slots_of-pictures (frame_bytes g) next ps)
    (reading-commit g r old c j u ts held l newest.there (newest.of_next ∙ ap (λ (n : ℕ). n / g.slots) (sym is)) hold
    (subst (λ (q : Option Segment). ShowsSegment g j q old c) part shows))

pub beginning-held : (g : Geometry) (r : Recording) (j next : ℕ) (ps : List Picture) (old c : List ℕ) → Holds g r old
    → r.next ≡ next → j < g.segments → IsNewestSegment g next j old → ShowsBeginning g j next ps old c
    → HoldsSome g r (map store ps) c
beginning-held g r j next ps old c held is l newest some = record {
  count = some.0;
  enough = omega arith;
  few = omega (arith, some.1.0, length-map ps store);
  held = subst (λ (steps : List Step). Holds g (plain (ring_of g) r steps) c) (sym (take-stores some.0 ps))
      (frames-held g r j next (take some.0 ps) old c held is l newest some.1.1);
}

-- ---- a block that was begun

pub begun-newest : (g : Geometry) (next j : ℕ) (c : List ℕ) → next % g.slots ≡ 0
    → segment_in g c j ≡ Some (empty_segment (next / g.slots)) → HasNoStray g j c → IsNewestSegment g next j c
begun-newest g next j c first there stray = record {
  segment = empty_segment (next / g.slots);
  there = there;
  of_next = refl;
  whole = whole-length g c j (empty_segment (next / g.slots)) there ∙ sym first;
  stray = stray;
}

pub begun-held : (g : Geometry) (r : Recording) (next j : ℕ) (old c : List ℕ) → Holds g r old → r.next ≡ next
    → j < g.segments → next % g.slots ≡ 0 → IsFreeFor g next j old
    → ShowsSegment g j (Some (empty_segment (next / g.slots))) old c → Holds g r c
begun-held g r next j old c held is l first free shows =
    let at : r.next ≡ next / g.slots * g.slots = omega (arith, is, first, div-add-mod' next g.slots) in
    reading-begin g r old c j (next / g.slots) held l free.closed free.apart at free.low_enough shows

pub begun-held_or : (g : Geometry) (r : Recording) (next j : ℕ) (old c : List ℕ) → Holds g r old → r.next ≡ next
    → j < g.segments → next % g.slots ≡ 0 → IsFreeFor g next j old
    → ShowsOrNot g j (Some (empty_segment (next / g.slots))) old c → Holds g r c
begun-held_or g r next j old c held is l first free (inl same) = reading-same g r old c j held l same
begun-held_or g r next j old c held is l first free (inr shows) = begun-held g r next j old c held is l first free shows

-- after none of the steps
pub held-some : (g : Geometry) (r : Recording) (steps : List Step) (c : List ℕ) → Holds g r c → HoldsSome g r steps c
held-some g r steps c held = record { count = 0; enough = omega arith; few = omega arith; held = held }

-- ---- steps after steps

take_behind : (a b : List Step) (k : ℕ) → take (length a + k) (a ++ b) ≡ a ++ take k b
take_behind [] b k = let e : 0 + k ≡ k = omega arith in ap (λ (n : ℕ). take n b) e
take_behind (s ∷ a) b k =
    let e : length (s ∷ a) + k ≡ suc (length a + k) = omega arith in
    ap (λ (n : ℕ). take n (s ∷ (a ++ b))) e ∙ ap (λ (l : List Step). s ∷ l) (take_behind a b k)

take_front : (a b : List Step) (k : ℕ) → k ≤ length a → take k (a ++ b) ≡ take k a
take_front a b zero le = refl
take_front [] b (suc k) le = absurd (omega (arith, le))
take_front (s ∷ a) b (suc k) le = ap (λ (l : List Step). s ∷ l) (take_front a b k (omega (arith, le)))

pub later-steps : (g : Geometry) (r : Recording) (a b : List Step) (least : ℕ) (c : List ℕ)
    → HoldsFrom g (plain (ring_of g) r a) least b c → HoldsFrom g r (length a + least) (a ++ b) c
later-steps g r a b least c some = record {
  count = length a + some.count;
  enough = omega (arith, some.enough);
  few = omega (arith, some.few, length-append a b);
  held = subst (λ (q : Recording). Holds g q c)
      (sym (ap (plain (ring_of g) r) (take_behind a b some.count) ∙ plain-append (ring_of g) r a (take some.count b)))
      some.held;
}

pub earlier-steps : (g : Geometry) (r : Recording) (a b : List Step) (c : List ℕ) → HoldsSome g r a c
    → HoldsSome g r (a ++ b) c
earlier-steps g r a b c some = record {
  count = some.count;
  enough = omega arith;
  few = omega (arith, some.few, length-append a b);
  held = subst (λ (steps : List Step). Holds g (plain (ring_of g) r steps) c) (sym (take_front a b some.count some.few)) some.held;
}

pub from-none : (g : Geometry) (r : Recording) (least : ℕ) (steps : List Step) (c : List ℕ)
    → HoldsFrom g r least steps c → HoldsSome g r steps c
from-none g r least steps c some = record { count = some.count; enough = omega arith; few = some.few; held = some.held }

-- Two calls, one after the other: what the first leaves is a prefix of its steps, what the second leaves a prefix of
-- its own after these. So both leave a prefix of all of them.
pub steps-joined : (g : Geometry) (r : Recording) (a b : List Step) (old mid new : Medium)
    → LeavesOnly old mid (HoldsSome g r a) → LeavesOnly mid new (HoldsSome g (plain (ring_of g) r a) b)
    → LeavesOnly old new (HoldsSome g r (a ++ b))
steps-joined g r a b old mid new first second =
    joined old mid new (HoldsSome g r (a ++ b)) (weaker old mid (HoldsSome g r a) (HoldsSome g r (a ++ b)) first
    (λ image some. earlier-steps g r a b image some))
    (weaker mid new (HoldsSome g (plain (ring_of g) r a) b) (HoldsSome g r (a ++ b)) second
    (λ image some. from-none g r (length a + 0) (a ++ b) image (later-steps g r a b 0 image some)))
