-- Several desks whose frames of a time are locked, and one more.
use Rattle.std.proofs.Common.{◌≡◌, ◌≢◌, ◌<◌, ◌≤◌, ◌⊎◌, inl, inr, ℕ, ◌+◌, Bool, true, false, if◌then◌else◌, List, [], ◌∷◌, ◌++◌, All, length, map, slice_get, Option, None, Some, IfSome, refl, sym, ap, ◌∙◌, subst, arith}
use Rattle.std.specs.List.{flat_map}
use Rattle.std.proofs.lemmas.Grind.{flat_map-append}
use Rattle.std.proofs.lemmas.List.{append-nil, length-append, length-set}
use Rattle.std.proofs.lemmas.List.Elements.{All-append, All-cons, All-nil}
use Rattle.loop_clips.specs.declared.clip.Clip.{Clip}
use Rattle.loop_disk.specs.Medium.{Medium}
use Rattle.loop_record.specs.declared.times.Times.{Times}
use Rattle.loop_store.specs.declared.fault.StoreFault.{StoreFault}
use Rattle.loop_store.specs.declared.fault.StoreFault.TheVariants.{NoMemory}
use Rattle.loop_desk.specs.declared.keep.Kept.{Kept}
use Rattle.loop_desk.specs.Keeps.{HaveTime, KeepsTime}
use Rattle.loop_desk.specs.Seen.{SeenDesk}
use Rattle.loop_pipeline.specs.Backs.{GoesAt, IsSoAt}
use Rattle.loop_pipeline.proofs.DeskPlaces.{goes-then, same-desk, there-now}
use Rattle.loop_pipeline.proofs.Places.{get-joined, get-set-other, some-same}
use Rattle.loop_station_camera.specs.Keeping.{IsOnlyRead, KeepsHere, KeepsMoreHere, LocksTime, PlaceKept, StoresAll, StoresAndKeeps, TakesKept, clips_at, fault_at, first_fault, known, or_fault}

-- the first desks, so many, are done
pub record KeepsFirst {D A : Type 0} (P : SeenDesk D → SeenDesk D → Option (PlaceKept A) → Type 0) (count : ℕ)
    (between new : List (SeenDesk D)) (kept : Kept A) : Type 0 where
  pub parts : List (Option (PlaceKept A))
  pub all : length parts ≡ count
  pub keeps : (place : ℕ) (d e : SeenDesk D) (part : Option (PlaceKept A)) → slice_get between place ≡ Some d
      → slice_get new place ≡ Some e → slice_get parts place ≡ Some part → P d e part
  pub rest : (place : ℕ) (d : SeenDesk D) → count ≤ place → slice_get new place ≡ Some d
      → slice_get between place ≡ Some d
  pub numbers : All (λ part. IfSome part (λ p. p.number < 256)) parts
  pub clips : kept.clips.items ≡ flat_map clips_at parts
  pub fault : kept.fault ≡ first_fault (map fault_at parts)
  pub none : kept.clips.items ≡ [] → All (λ part. IfSome part (λ p. p.named ≡ true)) parts
  pub still : length new ≡ length between

-- ---- lists

all-more : {X : Type 0} (P : X → Type 0) (xs : List X) (x : X) → All P xs → P x → All P (xs ++ x ∷ [])
all-more P xs x all is = All-append P xs (x ∷ []) all (All-cons P x [] is (All-nil P))

flat-more : {X Y : Type 0} (f : X → List Y) (xs : List X) (x : X) → flat_map f (xs ++ x ∷ []) ≡ flat_map f xs ++ f x
flat-more f xs x = flat_map-append f xs (x ∷ []) ∙ ap (λ l. flat_map f xs ++ l) (append-nil (f x))

nothing-there : {X : Type 0} (i : ℕ) (x : X) → slice_get [] i ≡ Some x → ⊥
nothing-there i x e = cc

or-none : (fault : Option StoreFault) → or_fault fault None ≡ fault
or-none None = refl
or-none (Some fault) = refl

or-or : (a b c : Option StoreFault) → or_fault (or_fault a b) c ≡ or_fault a (or_fault b c)
or-or None b c = refl
or-or (Some a) b c = refl

first-more : {X : Type 0} (f : X → Option StoreFault) (xs : List X) (x : X)
    → first_fault (map f (xs ++ x ∷ [])) ≡ or_fault (first_fault (map f xs)) (f x)
first-more f [] x = or-none (f x)
first-more f (y ∷ ys) x =
    ap (λ r. or_fault (f y) r) (first-more f ys x) ∙ sym (or-or (f y) (first_fault (map f ys)) (f x))

nil-first : {X : Type 0} (xs ys : List X) → xs ++ ys ≡ [] → xs ≡ []
nil-first [] ys e = refl
nil-first (x ∷ xs) ys e = absurd (cc)

-- ---- one desk's clips, after those of others

pub takes : {A : Type 0} (kept old new : Kept A) (number : ℕ) (named : Bool) (told : List Clip) → number < 256
    → told ≡ map (known number) kept.clips.items → (named ≡ true → new.clips.items ≡ old.clips.items ++ told)
    → (named ≡ false → (new.clips.items ≡ old.clips.items) × (old.clips.items ≢ []))
    → new.fault ≡ or_fault old.fault (if named then kept.fault else Some NoMemory) → TakesKept kept old new
takes kept old new number true told inside is done refused why = record {
  part = record { kept = kept; number = number; named = true };
  of = refl;
  number = inside;
  clips = done refl ∙ ap (λ l. old.clips.items ++ l) is;
  fault = why;
  first = λ empty. refl;
}
takes kept old new number false told inside is done refused why = record {
  part = record { kept = kept; number = number; named = false };
  of = refl;
  number = inside;
  clips = (refused refl).0 ∙ sym (append-nil old.clips.items);
  fault = why;
  first = λ empty. absurd ((refused refl).1 empty);
}

-- ---- desks

module _ {D A : Type 0} (P : SeenDesk D → SeenDesk D → Option (PlaceKept A) → Type 0) where
  -- none is done yet
  pub none-kept : (desks : List (SeenDesk D)) (kept : Kept A) → kept.clips.items ≡ [] → kept.fault ≡ None
      → KeepsFirst P 0 desks desks kept
  none-kept desks kept empty faultless = record {
    parts = [];
    all = refl;
    keeps = λ place d e part was is there. absurd (nothing-there place part there);
    rest = λ place d later is. is;
    numbers = All-nil (λ part. IfSome part (λ p. p.number < 256));
    clips = empty;
    fault = faultless;
    none = λ e. All-nil (λ part. IfSome part (λ p. p.named ≡ true));
    still = refl;
  }

  module _ (count : ℕ) (between mid new : List (SeenDesk D)) (kept next : Kept A) (here : Option (PlaceKept A))
      (so : KeepsFirst P count between mid kept) (goes : GoesAt count mid new (λ d e. P d e here))
      (number : IfSome here (λ p. p.number < 256)) (clips : next.clips.items ≡ kept.clips.items ++ clips_at here)
      (fault : next.fault ≡ or_fault kept.fault (fault_at here))
      (first : kept.clips.items ≡ [] → IfSome here (λ p. p.named ≡ true)) where
    -- at another place nothing changed
    other : (place : ℕ) (e : SeenDesk D) → place ≢ count → slice_get new place ≡ Some e → slice_get mid place ≡ Some e
    other place e apart is =
        get-set-other mid count place goes.after e apart (subst (λ l. slice_get l place ≡ Some e) goes.same is)

    keeps-more : (place : ℕ) (d e : SeenDesk D) (part : Option (PlaceKept A)) → slice_get between place ≡ Some d
        → slice_get new place ≡ Some e
        → ((place < length so.parts) × (slice_get so.parts place ≡ Some part)) ⊎ ((place ≡ length so.parts) × (part ≡ here))
        → P d e part
    keeps-more place d e part was is (inl before) =
        let apart : place ≢ count = omega (arith, before.0, so.all) in
        so.keeps place d e part was (other place e apart is) before.1
    keeps-more place d e part was is (inr last) =
        let at : place ≡ count = last.0 ∙ so.all in
        let before : goes.before ≡ d =
        some-same goes.before d
        (sym (so.rest count goes.before (omega arith) goes.at) ∙ subst (λ n. slice_get between n ≡ Some d) at was) in
        let after : goes.after ≡ e =
        some-same goes.after e (sym (there-now mid new count _ goes) ∙ subst (λ n. slice_get new n ≡ Some e) at is) in
        subst (λ k. P d e k) (sym last.1)
        (subst (λ f. P d f here) after (subst (λ f. P f goes.after here) before goes.goes))

    -- and one desk more
    pub one-more : KeepsFirst P (count + 1) between new next
    one-more = record {
      parts = so.parts ++ here ∷ [];
      all = omega (arith, length-append so.parts (here ∷ []), so.all);
      keeps = λ place d e part was is there.
          keeps-more place d e part was is (get-joined so.parts here part place there);
      rest = λ place d later is.
          so.rest place d (omega (arith, later)) (let apart : place ≢ count = omega (arith, later) in other place d apart is);
      numbers = all-more (λ part. IfSome part (λ p. p.number < 256)) so.parts here so.numbers number;
      clips = clips ∙ (ap (λ l. l ++ clips_at here) so.clips ∙ sym (flat-more clips_at so.parts here));
      fault = fault ∙ (ap (λ f. or_fault f (fault_at here)) so.fault ∙ sym (first-more fault_at so.parts here));
      none = λ empty.
          let nothing : kept.clips.items ≡ [] = nil-first kept.clips.items (clips_at here) (sym clips ∙ empty) in
          all-more (λ part. IfSome part (λ p. p.named ≡ true)) so.parts here (so.none nothing) (first nothing);
      still = ap length goes.same ∙ (length-set mid count goes.after ∙ so.still);
    }

  module _ (count : ℕ) (between mid new : List (SeenDesk D)) (kept : Kept A) (so : KeepsFirst P count between mid kept)
    where
      -- it was asked
      pub one-kept : (next here : Kept A) (takes : TakesKept here kept next)
          → GoesAt count mid new (λ d e. P d e (Some takes.part)) → KeepsFirst P (count + 1) between new next
      one-kept next here takes goes =
          one-more count between mid new kept next (Some takes.part) so goes takes.number takes.clips takes.fault takes.first

      -- it wasn't
      pub one-skipped : GoesAt count mid new (λ d e. P d e None) → KeepsFirst P (count + 1) between new kept
      one-skipped goes =
          one-more count between mid new kept kept None so goes tt (sym (append-nil kept.clips.items))
          (sym (or-none kept.fault)) (λ empty. tt)

  -- all are done, after the active desk stored what waited
  pub each-kept : (medium : D → Medium) (active : ℕ) (old between new : List (SeenDesk D)) (kept : Kept A)
      (refused : Option StoreFault) (count : ℕ) → GoesAt active old between (λ d e. StoresAll medium d e refused)
      → count ≡ length between → KeepsFirst P count between new kept
      → StoresAndKeeps medium P active old new kept refused
  each-kept medium active old between new kept refused count stores all so = record {
    between = between;
    stores = stores;
    keeps = record {
      parts = so.parts;
      all = so.all ∙ all;
      keeps = so.keeps;
      numbers = so.numbers;
      clips = so.clips;
      fault = so.fault;
      none = so.none;
      still = so.still;
    };
  }

-- a desk's own keep is the part that is taken of it
pub kept-here : {D A : Type 0} (medium : D → Medium) (times : Times) (tag count : ℕ) (mid new : List (SeenDesk D))
    (old next here : Kept A) (takes : TakesKept here old next)
    → GoesAt count mid new (λ d e. LocksTime medium times tag d e here)
    → GoesAt count mid new (λ d e. KeepsHere medium times tag d e (Some takes.part))
kept-here medium times tag count mid new old next here takes goes =
    subst (λ k. GoesAt count mid new (λ d e. LocksTime medium times tag d e k)) (sym takes.of) goes

-- what a desk locked, and that this is all unless a fault is returned
pub locks-whole : {D A : Type 0} (medium : D → Medium) (times : Times) (tag place : ℕ) (old new : List (SeenDesk D))
    (kept : Kept A) → GoesAt place old new (λ d e. KeepsTime medium times tag d e kept)
    → (kept.fault ≡ None → IsSoAt place old (λ desk. HaveTime times desk kept.clips.items))
    → GoesAt place old new (λ d e. LocksTime medium times tag d e kept)
locks-whole medium times tag place old new kept goes whole = record {
  before = goes.before;
  after = goes.after;
  at = goes.at;
  goes = (
    goes.goes,
    λ none. same-desk (λ desk. HaveTime times desk kept.clips.items) old place goes.before goes.at (whole none),
  );
  same = goes.same;
}

-- a desk locks a part of a time, and is read then
pub more-here : {D A : Type 0} (medium : D → Medium) (times : Times) (since tag count : ℕ)
    (start mid new : List (SeenDesk D)) (old next here : Kept A) (takes : TakesKept here old next)
    → times.since ≤ since
    → GoesAt count start mid (λ d e. LocksTime medium (record times { since = since }) tag d e here)
    → GoesAt count mid new (IsOnlyRead medium)
    → GoesAt count start new (λ d e. KeepsMoreHere medium times tag d e (Some takes.part))
more-here medium times since tag count start mid new old next here takes later locks reads =
    goes-then start mid new count (λ d e. LocksTime medium (record times { since = since }) tag d e here)
    (IsOnlyRead medium) (λ d e. KeepsMoreHere medium times tag d e (Some takes.part)) locks reads
    (λ d e f locked read. (
      since,
      later,
      (e, subst (λ k. LocksTime medium (record times { since = since }) tag d e k) (sym takes.of) locked, read),
    ))
