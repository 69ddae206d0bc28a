-- Where a camera has one desk, all calls are its own.
use Rattle.std.proofs.Common.{◌≡◌, ◌⊎◌, inl, inr, ◌++◌, ◌<◌, ◌==◌, ℕ, Bool, true, false, cond, zero, suc, List, [], ◌∷◌, length, map, All, refl, sym, ap, ◌∙◌, subst, arith}
use Rattle.std.proofs.lemmas.Bool.{eq-eqb}
use Rattle.std.proofs.lemmas.List.{map-append, nil_from_length}
use Rattle.std.proofs.lemmas.List.Elements.{All-cons, All-nil}
use Rattle.std.specs.List.{filter, flat_map}
use Rattle.loop_disk.specs.Medium.{Medium}
use Rattle.loop_plane.specs.Plane.{Plane}
use Rattle.loop_capture.specs.declared.source.Next.{Next}
use Rattle.loop_store.specs.declared.fault.StoreFault.{StoreFault}
use Rattle.loop_desk.specs.Desk.{DeskCall}
use Rattle.loop_pipeline.specs.Backs.{Came, IsRightful, MayGiveUp, MayGiveUpAt, Part, asked, calls_at, calls_by, calls_of, is_placed_submit, is_submit, parts_at, placed_calls, unasked, unasked_by}
use Rattle.loop_pipeline.specs.Cameras.{CameraKeeps, OneDeskKeeps, SeenCamera, desk_calls_by}

-- the parts without their places
abbrev bare : List (ℕ × Part) → List Part
bare parts = map (λ part. part.1) parts

-- those of the first place are all
all-here : (parts : List (ℕ × Part)) → All (λ part. part.0 < 1) parts → parts_at 0 parts ≡ bare parts
all-here [] all = refl
all-here (part ∷ parts) all =
    let here : (part.0 == 0) ≡ true = eq-eqb part.0 0 (let less : part.0 < 1 = all zero part (omega arith) in omega (arith, less)) in
    ap (λ b. cond b (part.1 ∷ []) [] ++ parts_at 0 parts) here
    ∙ ap (λ l. part.1 ∷ l) (all-here parts (λ k d l. all (suc k) d (omega (arith, l))))

-- a call without its place
abbrev unplaced : ℕ × DeskCall → DeskCall
unplaced call = call.1

unplaced-came : (came : List Came) → map unplaced (flat_map calls_by came) ≡ flat_map desk_calls_by came
unplaced-came [] = refl
unplaced-came (asked place p result ∷ came) = ap (λ l. desk_calls_by (asked place p result) ++ l) (unplaced-came came)
unplaced-came (unasked p ∷ came) = unplaced-came came

unplaced-submits : (calls : List (ℕ × DeskCall))
    → map unplaced (filter is_placed_submit calls) ≡ filter is_submit (map unplaced calls)
unplaced-submits [] = refl
unplaced-submits (call ∷ calls) = go (is_submit call.1) (unplaced-submits calls)
  where
    go : (b : Bool) → map unplaced (filter is_placed_submit calls) ≡ filter is_submit (map unplaced calls)
        → map unplaced (cond b (call ∷ filter is_placed_submit calls) (filter is_placed_submit calls))
        ≡ cond b (call.1 ∷ filter is_submit (map unplaced calls)) (filter is_submit (map unplaced calls))
    go true more = ap (λ l. call.1 ∷ l) more
    go false more = more

unplaced-part : (place : ℕ) (calls : List DeskCall) → map unplaced (map (λ call. (place, call)) calls) ≡ calls
unplaced-part place [] = refl
unplaced-part place (call ∷ calls) = ap (λ l. call ∷ l) (unplaced-part place calls)

unplaced-all : (parts : List (ℕ × Part)) → map unplaced (flat_map placed_calls parts) ≡ flat_map calls_of (bare parts)
unplaced-all [] = refl
unplaced-all (part ∷ parts) =
    map-append unplaced (placed_calls part) (flat_map placed_calls parts)
    ∙ (λ i. unplaced-part part.0 (calls_of part.1) i ++ unplaced-all parts i)

all-bare : (asks : DeskCall → Type 0) (parts : List (ℕ × Part)) → All (λ part. IsRightful asks part.1) parts
    → All (IsRightful asks) (bare parts)
all-bare asks [] all = All-nil (IsRightful asks)
all-bare asks (part ∷ parts) all =
    All-cons (IsRightful asks) part.1 (bare parts) (all zero part (omega arith))
    (all-bare asks parts (λ k d l. all (suc k) d (omega (arith, l))))

-- a refused flush is one of these calls
excuse : (gives_up : StoreFault → Type 0) (dropped left count : ℕ) (parts : List (ℕ × Part)) → count ≡ 1
    → ((dropped ≡ left) ⊎ MayGiveUpAt gives_up count parts) → (dropped ≡ left) ⊎ MayGiveUp gives_up (calls_at 0 parts)
excuse gives_up dropped left count parts one (inl same) = inl same
excuse gives_up dropped left count parts one (inr why) =
    let here : why.place ≡ 0 = omega (arith, one, why.among) in
    inr (subst (λ n. MayGiveUp gives_up (calls_at n parts)) here why.refused)

module _ {S D P : Type 0} (medium : D → Medium) (gives : S → Next → List ℕ → S → Type 0) (meaning : P → Plane)
    (asks : DeskCall → Type 0) (gives_up : StoreFault → Type 0) (due : ℕ → ℕ → Type 0) (ends : ℕ → Type 0)
    (old new : SeenCamera S D P) (given_up left missed failed : ℕ) (over : Bool) where
  pub one-desk : (kept : CameraKeeps medium gives meaning asks gives_up due ends old new given_up left missed failed over)
      → old.joined ≡ [] → OneDeskKeeps medium asks gives_up old.desk new kept.came left
  one-desk kept none =
      let count : length (old.desk ∷ old.joined) ≡ 1 = ap (λ l. length (old.desk ∷ l)) none in
      let served = kept.served 0 old.desk new.desk refl refl in
      let here : parts_at 0 kept.parts ≡ bare kept.parts =
      all-here kept.parts (subst (λ n. All (λ part. part.0 < n) kept.parts) count kept.among) in
      record {
        alone = nil_from_length new.joined (kept.all ∙ ap length none);
        calls = calls_at 0 kept.parts;
        submits = sym (unplaced-came kept.came) ∙ (ap (map unplaced) kept.submits
            ∙ (unplaced-submits (flat_map placed_calls kept.parts)
            ∙ (ap (filter is_submit) (unplaced-all kept.parts) ∙ ap (λ l. filter is_submit (flat_map calls_of l)) (sym here))));
        goes = served.goes;
        parts = parts_at 0 kept.parts;
        are = refl;
        went = served.went;
        rightful = subst (All (IsRightful asks)) (sym here) (all-bare asks kept.parts kept.rightful);
        excused = excuse gives_up (length (flat_map unasked_by kept.came)) left (length (old.desk ∷ old.joined)) kept.parts count
            kept.excused;
        footage = kept.footage 0 old.desk new.desk refl refl;
      }
