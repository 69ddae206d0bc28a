-- The ends of clips that are found, one clip after the other, and store by store.
use Rattle.std.proofs.Common.{◌≡◌, ◌≢◌, ◌<◌, ◌≤◌, ◌⊎◌, inl, inr, ℕ, ◌+◌, max, List, [], ◌∷◌, ◌++◌, All, Contains, length, slice_get, slice_index_or, take, Some, refl, sym, ap, ◌∙◌, subst, arith}
use Rattle.std.specs.List.{flat_map}
use Rattle.std.specs.List.Sorted.{IsNonDecreasingBy, IsPermutation}
use Rattle.std.proofs.lemmas.Bool.{cases_lt}
use Rattle.std.proofs.lemmas.Grind.{flat_map-append}
use Rattle.std.proofs.lemmas.List.{append-nil, length-append, take_all}
use Rattle.std.proofs.lemmas.List.Elements.{All-append, All-cons, All-nil, Contains-append_left, Contains-push}
use Rattle.std.proofs.lemmas.List.Sorted.{Contains-permutation, IsPermutation-sym}
use Rattle.loop_clips.specs.declared.clip.Clip.{Clip}
use Rattle.loop_clips.specs.Table.{clip_list}
use Rattle.loop_disk.specs.Medium.{Medium}
use Rattle.loop_desk.specs.declared.limits.Outline.{Outline}
use Rattle.loop_desk.specs.Seen.{SeenDesk, TellsOutline}
use Rattle.loop_pipeline.specs.Backs.{GoesAt, IsSoAt}
use Rattle.loop_pipeline.proofs.DeskPlaces.{as-many}
use Rattle.loop_pipeline.proofs.Places.{get-joined, get-set-other, some-same}
use Rattle.loop_station_shared.specs.declared.found.FoundClip.{FoundClip}
use Rattle.loop_station_camera.specs.Keeping.{known}
use Rattle.loop_station_camera.specs.Events.{AreEnds, FindsTag, HasNumber, HaveOnce, IsRestOf, IsInFound, StoreFound, found_there, having_tag}

-- ---- the clips of one store

-- The first of some clips, so many, are done: what they have up to the next number was found, from where the last of
-- them begins.
pub record EndsFirst (number : ℕ) (clips : List Clip) (count next : ℕ) (found : List FoundClip) : Type 0 where
  pub own : All (λ f. (c : Clip) × Contains clips c × IsRestOf number c f.clip) found
  pub all : (j n : ℕ) (d : Clip) → j < count → j < length clips → HasNumber (slice_index_or clips j d) n
      → IsInFound found n
  pub upto : (n : ℕ) → n < next
      → ((j : ℕ) (d : Clip) → j < count → j < length clips → (slice_index_or clips j d).from ≤ n) → IsInFound found n
  pub once : HaveOnce found
  pub below : (i : ℕ) (f : FoundClip) → slice_get found i ≡ Some f → f.clip.to < next

nothing-there : {X : Type 0} (i : ℕ) (x : X) → slice_get [] i ≡ Some x → ⊥
nothing-there i x e = cc

pub none-found : (number : ℕ) (clips : List Clip) → EndsFirst number clips 0 0 []
none-found number clips = record {
  own = All-nil (λ f. (c : Clip) × Contains clips c × IsRestOf number c f.clip);
  all = λ j n d before within has. absurd (omega (arith, before));
  upto = λ n under each. absurd (omega (arith, under));
  once = λ i j n f g is. absurd (nothing-there i f is);
  below = λ i f is. absurd (nothing-there i f is);
}

-- one is where it was before, or is the last
abbrev pub StandsAt : List FoundClip → FoundClip → ℕ → FoundClip → Type 0
StandsAt found f i g = ((i < length found) × (slice_get found i ≡ Some g)) ⊎ ((i ≡ length found) × (g ≡ f))

in-more : (found : List FoundClip) (f : FoundClip) (n : ℕ) → IsInFound found n → IsInFound (found ++ f ∷ []) n
in-more found f n is = (is.0, Contains-append_left found (f ∷ []) is.0 is.1, is.2)

module _ (number : ℕ) (clips : List Clip) (i next : ℕ) (found : List FoundClip)
    (rises : IsNonDecreasingBy (λ c. c.from) clips) (less : i < length clips) (x : Clip)
    (at : (d : Clip) → slice_index_or clips i d ≡ x) (so : EndsFirst number clips i next found) where
  -- those before begin no later
  earlier : (j n : ℕ) (d : Clip) → j < i → x.from ≤ n → (slice_index_or clips j d).from ≤ n
  earlier j n d before from =
      let later : (slice_index_or clips j d).from ≤ (slice_index_or clips i d).from =
      rises j i d (omega (arith, before)) less in
      let is : (slice_index_or clips i d).from ≡ x.from = ap (λ (c : Clip). c.from) (at d) in
      omega (arith, later, is, from)

  reached : (n : ℕ) → n < next → x.from ≤ n → IsInFound found n
  reached n under from = so.upto n under (λ j d before within. earlier j n d before from)

  -- one that lies within those before
  pub skipped : x.to < next → EndsFirst number clips (i + 1) next found
  skipped over = record {
    own = so.own;
    all = λ j n d before within has. go j n d within has (cases_lt j i) before;
    upto = λ n under each. so.upto n under (λ j d before within. each j d (omega (arith, before)) within);
    once = so.once;
    below = so.below;
  }
    where
      go : (j n : ℕ) (d : Clip) → j < length clips → HasNumber (slice_index_or clips j d) n → (j < i) ⊎ (i ≤ j)
          → j < i + 1 → IsInFound found n
      go j n d within has (inl before) under = so.all j n d before within has
      go j n d within has (inr after) under =
          let here : j ≡ i = omega (arith, after, under) in
          let is : slice_index_or clips j d ≡ x = ap (λ k. slice_index_or clips k d) here ∙ at d in
          let has-it : HasNumber x n = subst (λ c. HasNumber c n) is has in
          reached n (omega (arith, has-it.1, over)) has-it.0

  -- one that has more
  module _ (f : FoundClip) (then : ℕ) (is : f.clip ≡ record (known number x) { from = max x.from next })
      (least : next ≤ x.to) (past : then ≡ x.to + 1) where
    begins : f.clip.from ≡ max x.from next
    begins = ap (λ (c : Clip). c.from) is

    ends : f.clip.to ≡ x.to
    ends = ap (λ (c : Clip). c.to) is

    new-has : (n : ℕ) → x.from ≤ n → next ≤ n → n ≤ x.to → IsInFound (found ++ f ∷ []) n
    new-has n from after to =
        let both : max x.from next ≤ n = grind (arith, from, after) in
        (f, Contains-push found f, (omega (arith, begins, both), omega (arith, ends, to)))

    is-end : IsRestOf number x f.clip
    is-end = (
      is ∙ ap (λ n. record (known number x) { from = n }) (sym begins),
      let low : x.from ≤ max x.from next = grind arith in omega (arith, begins, low),
      λ some. (let high : max x.from next ≤ x.to = grind (arith, some, least) in omega (arith, begins, high)),
    )

    starts : next ≤ f.clip.from
    starts = let high : next ≤ max x.from next = grind arith in omega (arith, begins, high)

    under-next : (i : ℕ) (g : FoundClip) → StandsAt found f i g → g.clip.to < then
    under-next i g (inl before) =
        let low : g.clip.to < next = so.below i g before.1 in omega (arith, low, least, past)
    under-next i g (inr last) =
        let is : g.clip.to ≡ x.to = ap (λ (h : FoundClip). h.clip.to) last.1 ∙ ends in omega (arith, is, past)

    from-next : (g : FoundClip) (n : ℕ) → g ≡ f → g.clip.from ≤ n → next ≤ n
    from-next g n is from =
        let at : g.clip.from ≡ f.clip.from = ap (λ (h : FoundClip). h.clip.from) is in omega (arith, at, from, starts)

    apart : (i j n : ℕ) (g h : FoundClip) → StandsAt found f i g → StandsAt found f j h → HasNumber g.clip n
        → HasNumber h.clip n → i ≡ j
    apart i j n g h (inl one) (inl other) has too = so.once i j n g h one.1 other.1 has too
    apart i j n g h (inl one) (inr last) has too =
        let low : g.clip.to < next = so.below i g one.1 in
        let high : next ≤ n = from-next h n last.1 too.0 in absurd (omega (arith, low, high, has.1))
    apart i j n g h (inr last) (inl other) has too =
        let low : h.clip.to < next = so.below j h other.1 in
        let high : next ≤ n = from-next g n last.1 has.0 in absurd (omega (arith, low, high, too.1))
    apart i j n g h (inr one) (inr other) has too = one.0 ∙ sym other.0

    pub added : EndsFirst number clips (i + 1) then (found ++ f ∷ [])
    added = record {
      own = All-append (λ f. (c : Clip) × Contains clips c × IsRestOf number c f.clip) found (f ∷ []) so.own
          (All-cons (λ f. (c : Clip) × Contains clips c × IsRestOf number c f.clip) f [] (x, (i, less, at x), is-end)
          (All-nil (λ f. (c : Clip) × Contains clips c × IsRestOf number c f.clip)));
      all = λ j n d before within has. go j n d within has (cases_lt j i) before;
      upto = λ n under each. up n each (cases_lt n next) under;
      once = λ i j n g h is too.
          apart i j n g h (get-joined found f g i is) (get-joined found f h j too);
      below = λ i g is. under-next i g (get-joined found f g i is);
    }
      where
        here : (n : ℕ) → HasNumber x n → (n < next) ⊎ (next ≤ n) → IsInFound (found ++ f ∷ []) n
        here n has (inl under) = in-more found f n (reached n under has.0)
        here n has (inr after) = new-has n has.0 after has.1

        go : (j n : ℕ) (d : Clip) → j < length clips → HasNumber (slice_index_or clips j d) n → (j < i) ⊎ (i ≤ j)
            → j < i + 1 → IsInFound (found ++ f ∷ []) n
        go j n d within has (inl before) under = in-more found f n (so.all j n d before within has)
        go j n d within has (inr after) under =
            let same : j ≡ i = omega (arith, after, under) in
            let is : slice_index_or clips j d ≡ x = ap (λ k. slice_index_or clips k d) same ∙ at d in
            here n (subst (λ c. HasNumber c n) is has) (cases_lt n next)

        up : (n : ℕ) → ((j : ℕ) (d : Clip) → j < i + 1 → j < length clips → (slice_index_or clips j d).from ≤ n)
            → (n < next) ⊎ (next ≤ n) → n < then → IsInFound (found ++ f ∷ []) n
        up n each (inl before) under =
            in-more found f n (so.upto n before (λ j d below within. each j d (omega (arith, below)) within))
        up n each (inr after) under =
            let begun : (slice_index_or clips i x).from ≤ n = each i x (omega arith) less in
            let from : x.from ≤ n = subst (λ (c : Clip). c.from ≤ n) (at x) begun in
            new-has n from after (omega (arith, under, past))

-- all are done
pub all-ends : (number : ℕ) (clips : List Clip) (count next : ℕ) (found : List FoundClip) → length clips ≤ count
    → EndsFirst number clips count next found → AreEnds number clips found
all-ends number clips count next found all so = record {
  own = so.own;
  all = λ c n there has.
      so.all there.0 n c (omega (arith, all, there.1)) there.1 (subst (λ x. HasNumber x n) (sym there.2) has);
  once = so.once;
}

-- in whichever order the clips stand
pub ends-of : (number : ℕ) (clips sorted : List Clip) (found : List FoundClip) → IsPermutation clips sorted
    → AreEnds number sorted found → AreEnds number clips found
ends-of number clips sorted found same so = record {
  own = λ k d less. let is = so.own k d less in
      (is.0, Contains-permutation sorted clips is.0 (IsPermutation-sym clips sorted same) is.1, is.2);
  all = λ c n there has. so.all c n (Contains-permutation clips sorted c same there) has;
  once = so.once;
}

-- those with a tag that an outline lists, in another order
pub tagged-there : {D A : Type 0} (medium : D → Medium) (tag place count : ℕ) (desks : List (SeenDesk D))
    (outline : Outline A) (clips sorted : List Clip) → IsSoAt place desks (λ d. TellsOutline medium d outline)
    → length outline.clips.items ≤ count → clips ≡ having_tag tag (take count outline.clips.items)
    → IsPermutation clips sorted
    → IsSoAt place desks (λ d. IsPermutation (having_tag tag (clip_list 0 d.store.clips)) sorted)
tagged-there medium tag place count desks outline clips sorted tells all are same = (
  tells.0,
  tells.1,
  subst (λ l. IsPermutation l sorted)
      (are ∙ ap (having_tag tag) (take_all count outline.clips.items all ∙ tells.2.clips)) same,
)

-- ---- store by store

-- the first desks, so many, are done
pub record FindsFirst {D : Type 0} (tag count : ℕ) (desks now : List (SeenDesk D)) (found : List FoundClip)
    : Type 0 where
  pub stores : List StoreFound
  pub all : length stores ≡ count
  pub numbers : All (λ s. s.number < 256) stores
  pub are : (place : ℕ) (d : SeenDesk D) (s : StoreFound) → slice_get desks place ≡ Some d
      → slice_get stores place ≡ Some s → AreEnds s.number (having_tag tag (clip_list 0 d.store.clips)) s.found
  pub has : found ≡ flat_map found_there stores
  pub rest : (place : ℕ) (d : SeenDesk D) → count ≤ place → slice_get now place ≡ Some d
      → slice_get desks place ≡ Some d
  pub still : length now ≡ length desks

module _ {D : Type 0} (tag : ℕ) where
  pub none-done : (desks : List (SeenDesk D)) (found : List FoundClip) → found ≡ [] → FindsFirst tag 0 desks desks found
  none-done desks found empty = record {
    stores = [];
    all = refl;
    numbers = All-nil (λ s. s.number < 256);
    are = λ place d s was there. absurd (nothing-there place s there);
    has = empty;
    rest = λ place d later is. is;
    still = refl;
  }

  pub one-done : (count : ℕ) (desks now new : List (SeenDesk D)) (found then part : List FoundClip) (number : ℕ)
      (clips : List Clip) (P : SeenDesk D → SeenDesk D → Type 0) → number < 256
      → FindsFirst tag count desks now found
      → IsSoAt count now (λ d. IsPermutation (having_tag tag (clip_list 0 d.store.clips)) clips)
      → AreEnds number clips part → then ≡ found ++ part → GoesAt count now new P
      → FindsFirst tag (count + 1) desks new then
  one-done count desks now new found then part number clips P low so there ends is goes = record {
    stores = so.stores ++ here ∷ [];
    all = omega (arith, length-append so.stores (here ∷ []), so.all);
    numbers = All-append (λ s. s.number < 256) so.stores (here ∷ []) so.numbers
        (All-cons (λ s. s.number < 256) here [] low (All-nil (λ s. s.number < 256)));
    are = λ place d s was stands. go place d s was (get-joined so.stores here s place stands);
    has = is ∙ (ap (λ l. l ++ part) so.has ∙ (ap (λ l. flat_map found_there so.stores ++ l) (sym (append-nil part))
        ∙ sym (flat_map-append found_there so.stores (here ∷ []))));
    rest = λ place d later e.
        so.rest place d (omega (arith, later)) (let apart : place ≢ count = omega (arith, later) in
        get-set-other now count place goes.after d apart (subst (λ l. slice_get l place ≡ Some d) goes.same e));
    still = as-many now new count P goes ∙ so.still;
  }
    where
      here : StoreFound
      here = record { number = number; found = part }

      go : (place : ℕ) (d : SeenDesk D) (s : StoreFound) → slice_get desks place ≡ Some d
          → ((place < length so.stores) × (slice_get so.stores place ≡ Some s))
          ⊎ ((place ≡ length so.stores) × (s ≡ here))
          → AreEnds s.number (having_tag tag (clip_list 0 d.store.clips)) s.found
      go place d s was (inl before) = so.are place d s was before.1
      go place d s was (inr last) =
          let at : place ≡ count = last.0 ∙ so.all in
          let same : there.0 ≡ d =
          some-same there.0 d (sym (so.rest count there.0 (omega arith) there.1)
          ∙ subst (λ n. slice_get desks n ≡ Some d) at was) in
          subst (λ (t : StoreFound). AreEnds t.number (having_tag tag (clip_list 0 d.store.clips)) t.found) (sym last.1)
          (subst (λ (e : SeenDesk D). AreEnds number (having_tag tag (clip_list 0 e.store.clips)) part) same
          (ends-of number (having_tag tag (clip_list 0 there.0.store.clips)) clips part there.2 ends))

  -- all are
  pub all-done : (count : ℕ) (desks now : List (SeenDesk D)) (found sorted : List FoundClip)
      → FindsFirst tag count desks now found → count ≡ length desks → IsPermutation found sorted
      → IsNonDecreasingBy (λ f. f.first) sorted → FindsTag tag desks sorted
  all-done count desks now found sorted so all same rises = record {
    stores = so.stores;
    all = so.all ∙ all;
    numbers = so.numbers;
    are = so.are;
    same = subst (λ l. IsPermutation l sorted) so.has same;
    rises = rises;
  }
