-- A back turns to a desk whose store has room for a block, where any has.
use Rattle.std.proofs.Common.{◌≡◌, ◌<◌, ◌⊎◌, inl, inr, ℕ, Bool, true, false, cond, Option, Some, None, is_none, is_some, List, length, slice_get, slice_index_or, refl, sym, ap, ◌∙◌, subst}
use Rattle.std.specs.List.{position, position_or_len}
use Rattle.std.proofs.Math.Dec.{ltb}
use Rattle.std.proofs.lemmas.Bool.{ltb-true}
use Rattle.std.proofs.lemmas.List.Sums.{passes_at_first}
use Rattle.std.proofs.lemmas.Option.{slice_get_within, get_or_from_slice_get}
use Rattle.loop_disk.specs.Medium.{Medium}
use Rattle.loop_record.specs.Recording.{Recording, Ring, victim}
use Rattle.loop_store.specs.Seen.{StandsFor, ring_in}
use Rattle.loop_desk.specs.declared.limits.Space.{Space}
use Rattle.loop_desk.specs.Seen.{SeenDesk}
use Rattle.loop_desk.specs.Space.{TellsSpace}
use Rattle.loop_pipeline.specs.Backs.{IsSoAt}
use Rattle.loop_pipeline.specs.Nexts.{IsElsewhere, IsFull, TakesNext, has_free}
use Rattle.loop_pipeline.specs.Turns.{RoomForBlock, TurnsTo, turned_by}
use Rattle.loop_pipeline.proofs.Places.{some-same, some-there}
use Rattle.loop_pipeline.proofs.Searching.{all-full}

-- by what a store tells
module _ (ring : Ring) (keep : ℕ) (r : Recording) (s : Space) (tells : TellsSpace ring keep r s) where
  full-not : RoomForBlock ring keep r → IsFull s → ⊥
  full-not (inl less) full = absurd (let e : true ≡ false = sym (tells.free.1 less) ∙ full.0 in cc)
  full-not (inr some) full =
      let told = tells.oldest.some some.0 some.1 in
      absurd (let e : true ≡ false = ap (λ o. is_some o) (sym told.3 ∙ full.1) in cc)

  has-room : (IsFull s → ⊥) → RoomForBlock ring keep r
  has-room never = go s.free refl (victim ring keep r) refl
    where
      go : (b : Bool) → s.free ≡ b → (o : Option ℕ) → victim ring keep r ≡ o → RoomForBlock ring keep r
      go true is o chosen = inl (tells.free.0 is)
      go false is (Some v) chosen = inr (v, chosen)
      go false is None chosen = absurd (never (is, tells.oldest.none chosen))

-- the first that passes
pub first-passes : {X : Type 0} (p : X → Bool) (xs : List X) (place : ℕ) → position p xs ≡ Some place
    → (x : X) × (slice_get xs place ≡ Some x) × (p x ≡ true)
first-passes {X} p xs place is = go (ltb first (length xs)) refl
  where
    first : ℕ
    first = position_or_len p xs

    go : (t : Bool) → ltb first (length xs) ≡ t → (x : X) × (slice_get xs place ≡ Some x) × (p x ≡ true)
    go false none = absurd (let e : None ≡ Some place = ap (λ t. cond t (Some first) None) (sym none) ∙ is in cc)
    go true some =
        let less : first < length xs = ltb-true first (length xs) some in
        let here : first ≡ place = some-same first place (ap (λ t. cond t (Some first) None) (sym some) ∙ is) in
        let there = some-there xs place (subst (λ n. n < length xs) here less) in (
          there.0,
          there.1,
          ap p (sym (get_or_from_slice_get xs place there.0 there.0 there.1))
              ∙ (ap (λ n. p (slice_index_or xs n there.0)) (sym here) ∙ passes_at_first p xs there.0 less),
        )

-- what takes the next block isn't full
chosen-takes : (end active : ℕ) (spaces : List Space) (n : ℕ) → TakesNext end active spaces (Some n)
    → (s : Space) × (slice_get spaces n ≡ Some s) × (IsFull s → ⊥)
chosen-takes end active spaces n (inl here) = (
  here.0.0,
  ap (λ i. slice_get spaces i) (some-same n active here.1) ∙ here.0.1,
  λ full. absurd (let e : true ≡ false = sym here.0.2 ∙ full.0 in cc),
)
chosen-takes end active spaces n (inr rest) = go (position has_free spaces) refl rest.1
  where
    go : (o : Option ℕ) → position has_free spaces ≡ o → IsElsewhere end spaces o (Some n)
        → (s : Space) × (slice_get spaces n ≡ Some s) × (IsFull s → ⊥)
    go (Some free) is same =
        let there = first-passes has_free spaces free is in (
          there.0,
          ap (λ i. slice_get spaces i) (some-same n free same) ∙ there.1,
          λ full. absurd (let e : true ≡ false = sym there.2 ∙ full.0 in cc),
        )
    go None is best = (
      best.space,
      best.at,
      λ full. absurd (let e : true ≡ false = ap (λ o. is_some o) (sym best.is ∙ full.1) in cc),
    )

pub room-is-taken : {D : Type 0} (medium : D → Medium) (desks : List (SeenDesk D)) (end old new : ℕ)
    (locked : Bool) → TurnsTo medium desks end old new locked → (place : ℕ) (d : SeenDesk D) (r : Recording)
    → slice_get desks place ≡ Some d
    → StandsFor medium d.store r → RoomForBlock (ring_in d.store) d.store.keep r
    → (locked ≡ false) × IsSoAt new desks (λ e. (q : Recording) → StandsFor medium e.store q
    → RoomForBlock (ring_in e.store) e.store.keep q)
room-is-taken {D} medium desks end old new locked turns place d r at stands takes = go turns.next refl
  where
    spaces : List Space
    spaces = turns.chosen.spaces

    go : (o : Option ℕ) → turns.next ≡ o
        → (locked ≡ false) × IsSoAt new desks (λ e. (q : Recording) → StandsFor medium e.store q
        → RoomForBlock (ring_in e.store) e.store.keep q)
    go None is =
        let none : TakesNext end old spaces None = subst (λ o. TakesNext end old spaces o) is turns.chosen.is in
        let inside : place < length spaces =
        subst (λ n. place < n) (sym turns.chosen.tell.all) (slice_get_within desks place d at) in
        let there = some-there spaces place inside in
        let full : IsFull there.0 = subst IsFull (get_or_from_slice_get spaces place there.0 there.0 there.1)
        (all-full end old spaces none place there.0 inside) in
        absurd (full-not (ring_in d.store) d.store.keep r there.0
        (turns.chosen.tell.tells place d there.0 at there.1 r stands) takes full)
    go (Some n) is =
        let s = chosen-takes end old spaces n (subst (λ o. TakesNext end old spaces o) is turns.chosen.is) in
        let there = some-there desks n
        (subst (λ k. n < k) turns.chosen.tell.all (slice_get_within spaces n s.0 s.1)) in
        let here : new ≡ n = turns.turns ∙ ap (λ o. turned_by o old) is in (
          turns.told ∙ ap (λ o. is_none o) is,
          (
            there.0,
            ap (λ i. slice_get desks i) here ∙ there.1,
            λ q so. has-room (ring_in there.0.store) there.0.store.keep q s.0
                (turns.chosen.tell.tells n there.0 s.0 there.1 s.1 q so) s.2,
          ),
        )
