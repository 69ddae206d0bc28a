-- Receipts that are at their places, one more at a time.
use Rattle.std.proofs.Common.{◌≡◌, ◌≢◌, ◌<◌, ◌≤◌, ◌+◌, ℕ, zero, suc, Option, None, IfSome, List, [], ◌∷◌, length, take, sym, ap, ◌∙◌, subst, arith}
use Rattle.std.specs.Prelude.{Some, if◌then◌else◌, get_or, slice_get}
use Rattle.std.proofs.lemmas.Bool.{eq-eqb, ne_eqb}
use Rattle.std.proofs.lemmas.List.{take_more}
use Rattle.std.proofs.lemmas.Option.{slice_get_within}
use Rattle.loop_record.specs.Turns.{after_all, EachIn}
use Rattle.loop_record.proofs.TurnRuns.{after-behind, each-behind}
use Rattle.loop_pipeline.specs.declared.entry.Entry.{Entry}
use Rattle.loop_pipeline.specs.declared.entry.Receipt.{Receipt}
use Rattle.loop_desk.specs.declared.limits.Outline.{Outline}
use Rattle.loop_recorder.specs.declared.ended.EndedCamera.{EndedCamera}
use Rattle.loop_pipeline.specs.declared.entry.Pass.{Pass}
use Rattle.loop_pipeline.specs.Notes.{entry}
use Rattle.loop_recorder.specs.Endings.{EndsTied, IsPlaced, IsTiedCamera, IsUntied, floor_after}

-- the next receipt is placed too
pub placed-more : (camera : ℕ) (history : List Entry) (number : ℕ) (rs : List Receipt) (i floor : ℕ) (d : Receipt)
    → i < length rs
    → floor ≡ after_all (floor_after camera) 0 (take i rs)
    → EachIn (floor_after camera) (IsPlaced camera history number) 0 (take i rs)
    → IsPlaced camera history number floor (get_or rs i d)
    → EachIn (floor_after camera) (IsPlaced camera history number) 0 (take (i + 1) rs)
placed-more camera history number rs i floor d below is far here =
    let P : ℕ → Receipt → Type 0 = IsPlaced camera history number in
    subst (λ (l : List Receipt). EachIn (floor_after camera) P 0 l) (sym (take_more rs i d below))
    (each-behind (floor_after camera) P 0 (take i rs) (get_or rs i d ∷ []) far (subst (λ (n : ℕ). P n (get_or rs i d)) is here, tt))

-- the floor after one receipt more
floor-more : (camera : ℕ) (rs : List Receipt) (i floor : ℕ) (d : Receipt) → i < length rs
    → floor ≡ after_all (floor_after camera) 0 (take i rs)
    → floor_after camera floor (get_or rs i d) ≡ after_all (floor_after camera) 0 (take (i + 1) rs)
floor-more camera rs i floor d below is =
    ap (λ n. floor_after camera n (get_or rs i d)) is
    ∙ sym (after-behind (floor_after camera) 0 (take i rs) (get_or rs i d ∷ []))
    ∙ ap (after_all (floor_after camera) 0) (sym (take_more rs i d below))

pub floor-yes : (camera : ℕ) (rs : List Receipt) (i floor : ℕ) (d : Receipt) → i < length rs
    → floor ≡ after_all (floor_after camera) 0 (take i rs)
    → (get_or rs i d).camera ≡ camera
    → (get_or rs i d).place + 1 ≡ after_all (floor_after camera) 0 (take (i + 1) rs)
floor-yes camera rs i floor d below is same =
    ap (λ b. if b then (get_or rs i d).place + 1 else floor) (sym (eq-eqb _ _ same)) ∙ floor-more camera rs i floor d below is

pub floor-no : (camera : ℕ) (rs : List Receipt) (i floor : ℕ) (d : Receipt) → i < length rs
    → floor ≡ after_all (floor_after camera) 0 (take i rs)
    → (get_or rs i d).camera ≢ camera
    → floor ≡ after_all (floor_after camera) 0 (take (i + 1) rs)
floor-no camera rs i floor d below is other =
    ap (λ b. if b then (get_or rs i d).place + 1 else floor) (sym (ne_eqb _ _ other)) ∙ floor-more camera rs i floor d below is

-- ---- one camera, by its number

-- the camera of that number, with the outline of that number
pub ends-here : {D A : Type 0} (outlines : List (Outline A)) (cameras : List (EndedCamera D A))
    (passes : List (Pass A)) (n : ℕ) (e : EndedCamera D A) (o : Outline A) → slice_get cameras n ≡ Some e
    → slice_get outlines n ≡ Some o
    → IsTiedCamera n e o passes → EndsTied outlines cameras passes n
ends-here {D} {A} outlines cameras passes n e o at_e at_o told = λ x y at_x at_y.
    let camera : e ≡ x = cc in
    let outline : o ≡ y = cc in
    subst (λ (z : EndedCamera D A × Outline A). IsTiedCamera n z.0 z.1 passes) (λ i. (camera i, outline i)) told

-- a camera of that number that isn't tied, after those that are
pub untied-here : {D A : Type 0} (outlines : List (Outline A)) (cameras : List (EndedCamera D A))
    (passes : List (Pass A)) (n : ℕ) (e : EndedCamera D A) (o : Outline A) → slice_get cameras n ≡ Some e
    → slice_get outlines n ≡ Some o
    → (IsTiedCamera n e o passes → ⊥) → ((j : ℕ) → j < n → EndsTied outlines cameras passes j) → IsUntied outlines cameras passes n
untied-here outlines cameras passes n e o at_e at_o differs before = record {
  there = slice_get_within cameras n e at_e;
  differs = λ tied. differs (tied e o at_e at_o);
  before = before;
}

-- ---- a receipt that isn't placed

-- what is said of each at its point is said of the one at a place
each-at : {S X : Type 0} (after : S → X → S) (P : S → X → Type 0) (s : S) (xs : List X) (i : ℕ) (d : X)
    → i < length xs → EachIn after P s xs → P (after_all after s (take i xs)) (get_or xs i d)
each-at after P s [] i d below all = let no : ⊥ = omega (arith, below) in absurd no
each-at after P s (x ∷ xs) zero d below all = all.0
each-at after P s (x ∷ xs) (suc i) d below all = each-at after P (after s x) xs i d (omega (arith, below)) all.1

-- each receipt of those that are placed is
pub placed-at : (camera : ℕ) (history : List Entry) (number : ℕ) (rs : List Receipt) (i floor : ℕ) (d : Receipt)
    → i < length rs
    → floor ≡ after_all (floor_after camera) 0 (take i rs)
    → EachIn (floor_after camera) (IsPlaced camera history number) 0 rs
    → IsPlaced camera history number floor (get_or rs i d)
placed-at camera history number rs i floor d below is all =
    subst (λ n. IsPlaced camera history number n (get_or rs i d)) (sym is) (each-at (floor_after camera) (IsPlaced camera history number) 0 rs i d below all)

-- so none that comes before its floor, or whose call isn't at its place, is among them
pub too-early : (camera : ℕ) (history : List Entry) (number : ℕ) (rs : List Receipt) (i floor : ℕ) (d : Receipt)
    → i < length rs
    → floor ≡ after_all (floor_after camera) 0 (take i rs) → (get_or rs i d).camera ≡ camera → (get_or rs i d).place < floor
    → EachIn (floor_after camera) (IsPlaced camera history number) 0 rs → ⊥
too-early camera history number rs i floor d below is same low all =
    let floors : floor ≤ (get_or rs i d).place = (placed-at camera history number rs i floor d below is all same).0 in
    omega (arith, floors, low)

pub elsewhere : (camera : ℕ) (history : List Entry) (number : ℕ) (rs : List Receipt) (i floor : ℕ) (d : Receipt)
    → i < length rs
    → floor ≡ after_all (floor_after camera) 0 (take i rs) → (get_or rs i d).camera ≡ camera
    → (slice_get history (get_or rs i d).place ≡ Some (entry number (get_or rs i d).call) → ⊥)
    → EachIn (floor_after camera) (IsPlaced camera history number) 0 rs → ⊥
elsewhere camera history number rs i floor d below is same apart all = apart (placed-at camera history number rs i floor d below is all same).1

-- what follows of two of any follows of two of the one that may be there
pub some-both : {T : Type 0} {P Q R : T → Type 0} (o : Option T) → ((x : T) → P x → Q x → R x) → IfSome o P
    → IfSome o Q → IfSome o R
some-both None f p q = tt
some-both (Some x) f p q = f x p q
