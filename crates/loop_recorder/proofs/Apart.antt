-- No two receipts of a camera share a place.
use Rattle.std.proofs.Common.{◌≡◌, ◌<◌, ◌≤◌, ◌+◌, ℕ, zero, suc, Bool, true, false, All, List, [], ◌∷◌, refl, sym, ap, ◌∙◌, subst, arith}
use Rattle.std.specs.Prelude.{Some, if◌then◌else◌, ◌==◌, slice_get}
use Rattle.std.proofs.lemmas.Bool.{eq-eqb, eqb-true}
use Rattle.std.proofs.lemmas.List.Elements.{All-get_or}
use Rattle.std.proofs.lemmas.Option.{get_or_from_slice_get, none-some, same_Some, slice_get_within}
use Rattle.loop_record.specs.Turns.{EachIn}
use Rattle.loop_pipeline.specs.declared.entry.Entry.{Entry}
use Rattle.loop_pipeline.specs.declared.entry.Pass.{Pass}
use Rattle.loop_pipeline.specs.declared.entry.Receipt.{Receipt}
use Rattle.loop_recorder.specs.Ends.{DifferInNumber, NoTwoShare}
use Rattle.loop_recorder.specs.Endings.{ArePlaced, IsPlaced, IsTied, floor_after}
use Rattle.loop_pipeline.specs.Notes.{entry, pass_number, receipts_of}

-- what is so of all is so of the one at a place
pub all-read : {X : Type 0} (P : X → Type 0) (xs : List X) (i : ℕ) (x : X) → All P xs → slice_get xs i ≡ Some x → P x
all-read {X} P xs i x all there = subst P (get_or_from_slice_get xs i x x there) (All-get_or P xs i x (slice_get_within xs i x there) all)

module _ (camera : ℕ) (history : List Entry) (number : ℕ) where
  -- after a receipt the floor is no lower, and after one of the camera's own it is right after its place
  floor-rises : (floor : ℕ) (r : Receipt) → IsPlaced camera history number floor r → floor ≤ floor_after camera floor r
  floor-rises floor r placed = go (r.camera == camera) refl
    where
      go : (b : Bool) → (r.camera == camera) ≡ b → floor ≤ (if b then r.place + 1 else floor)
      go true is = omega (arith, (placed (eqb-true r.camera camera is)).0)
      go false is = omega arith

  floor-behind : (floor : ℕ) (r : Receipt) → r.camera ≡ camera → floor_after camera floor r ≡ r.place + 1
  floor-behind floor r same = ap (λ b. if b then r.place + 1 else floor) (eq-eqb r.camera camera same)

  -- each receipt of the camera has its place at the floor or after it
  over-floor : (floor : ℕ) (rs : List Receipt) (b : ℕ) (s : Receipt)
      → EachIn (floor_after camera) (IsPlaced camera history number) floor rs → slice_get rs b ≡ Some s
      → s.camera ≡ camera → floor ≤ s.place
  over-floor floor [] b s placed there same = absurd (none-some s there)
  over-floor floor (x ∷ xs) zero s placed there same = let is : x ≡ s = same_Some x s there in
      (subst (λ (y : Receipt). IsPlaced camera history number floor y) is placed.0 same).0
  over-floor floor (x ∷ xs) (suc b) s placed there same =
      let up = floor-rises floor x placed.0 in
      let over = over-floor (floor_after camera floor x) xs b s placed.1 there same in
      omega (arith, up, over)

  -- the place of a later one is after it
  later-behind : (floor : ℕ) (rs : List Receipt) (a b : ℕ) (r s : Receipt)
      → EachIn (floor_after camera) (IsPlaced camera history number) floor rs → slice_get rs a ≡ Some r
      → slice_get rs b ≡ Some s → r.camera ≡ camera → s.camera ≡ camera → a < b → r.place < s.place
  later-behind floor [] a b r s placed at_r at_s of_r of_s less = absurd (none-some r at_r)
  later-behind floor (x ∷ xs) a zero r s placed at_r at_s of_r of_s less = absurd (omega (arith, less))
  later-behind floor (x ∷ xs) zero (suc b) r s placed at_r at_s of_r of_s less =
      let is : x ≡ r = same_Some x r at_r in
      let over = over-floor (floor_after camera floor x) xs b s placed.1 at_s of_s in
      let behind = floor-behind floor x (ap (λ (y : Receipt). y.camera) is ∙ of_r) in
      let place = ap (λ (y : Receipt). y.place) is in
      omega (arith, over, behind, place)
  later-behind floor (x ∷ xs) (suc a) (suc b) r s placed at_r at_s of_r of_s less =
      later-behind (floor_after camera floor x) xs a b r s placed.1 at_r at_s of_r of_s (omega (arith, less))

  -- a receipt of the camera is in the history
  stands-in : (floor : ℕ) (rs : List Receipt) (a : ℕ) (r : Receipt)
      → EachIn (floor_after camera) (IsPlaced camera history number) floor rs → slice_get rs a ≡ Some r
      → r.camera ≡ camera → slice_get history r.place ≡ Some (entry number r.call)
  stands-in floor [] a r placed there same = absurd (none-some r there)
  stands-in floor (x ∷ xs) zero r placed there same =
      (subst (λ (y : Receipt). IsPlaced camera history number floor y) (same_Some x r there) placed.0 same).1
  stands-in floor (x ∷ xs) (suc a) r placed there same = stands-in (floor_after camera floor x) xs a r placed.1 there same

  -- so one place in a pass is one receipt
  same-place : (rs : List Receipt) (a b : ℕ) (r s : Receipt)
      → EachIn (floor_after camera) (IsPlaced camera history number) 0 rs → slice_get rs a ≡ Some r
      → slice_get rs b ≡ Some s → r.camera ≡ camera → s.camera ≡ camera → r.place ≡ s.place → a ≡ b
  same-place rs a b r s placed at_r at_s of_r of_s same =
      let before : a < b → r.place < s.place = later-behind 0 rs a b r s placed at_r at_s of_r of_s in
      let behind : b < a → s.place < r.place = later-behind 0 rs b a s r placed at_s at_r of_s of_r in
      grind (arith, before, behind, same)

-- receipts of one place name one entry, and with it one pass
pub tied-apart : {A : Type 0} (camera : ℕ) (history : List Entry) (passes : List (Pass A))
    → IsTied camera history passes → DifferInNumber passes → NoTwoShare camera passes
tied-apart {A} camera history passes tied differ = λ i j a b r s one other of_r of_s same.
    let placed_r : ArePlaced camera history one.pass = all-read (ArePlaced camera history) passes i one.pass tied.places one.there in
    let placed_s : ArePlaced camera history other.pass = all-read (ArePlaced camera history) passes j other.pass tied.places other.there in
    let at_r = stands-in camera history (pass_number one.pass) 0 (receipts_of one.pass) a r placed_r one.stands of_r in
    let at_s = stands-in camera history (pass_number other.pass) 0 (receipts_of other.pass) b s placed_s other.stands of_s in
    let entries : entry (pass_number one.pass) r.call ≡ entry (pass_number other.pass) s.call = same_Some _ _ (sym at_r ∙ ap (slice_get history) same ∙ at_s) in
    let passes_same : i ≡ j = differ i j one.pass other.pass one.there other.there (ap (λ (e : Entry). e.pass) entries) in
    let pass_is : one.pass ≡ other.pass = same_Some one.pass other.pass (sym one.there ∙ ap (slice_get passes) passes_same ∙ other.there) in
    let stands_s : slice_get (receipts_of one.pass) b ≡ Some s = ap (λ (p : Pass A). slice_get (receipts_of p) b) pass_is ∙ other.stands in
    (passes_same, same-place camera history (pass_number one.pass) (receipts_of one.pass) a b r s placed_r one.stands stands_s of_r of_s same)
