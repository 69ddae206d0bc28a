-- Clips of which there is a save aren't released by the end of another one, and a save that is withdrawn leaves nothing.
use Rattle.std.proofs.Common.{◌≡◌, ◌++◌, ◌-◌, ℕ, Bool, true, false, not, List, [], ◌∷◌, Option, Some, None, is_some, length, take, refl, ap, length-append, arith, ◌≢◌, slice_get, ◌⊎◌, inl, inr, ◌==◌, option_map, ◌+◌}
use Rattle.std.specs.List.{position}
use Rattle.std.proofs.lemmas.Grind.{common_steps}
use Rattle.loop_station_core.specs.Saving.{Places, asked, is_saving, left_to_others, new_save, wanted, withdrawn, PlacesTellAll, cancelled, cancelled_at, has_such, picks, place_of, reads, turn_of_clip, CancelledSavesAreTheirs, ReadersAreSo, SavesEarnTheirClip, StopsEndSaves, covers, held_at, stopped, with_cancel, BegunSavesAreTold, begun}
use Rattle.loop_station_core.specs.declared.saves.Asked.TheVariants.{Waits}
use Rattle.loop_station_core.specs.declared.saves.Save.{Save}
use Rattle.loop_station_core.specs.declared.saves.SaveKey.{SaveKey}
use Rattle.loop_station_core.specs.Releases.{CancelsFindTheirSave, SavesAreTakenIn, is_taken}
use Rattle.loop_station_core.specs.declared.saves.Cancelled.TheVariants.{No, Running}
use Rattle.loop_station_core.proofs.ItselfLaws.{found}
use Rattle.loop_station_core.proofs.ReaderLaws.{found-there, set-there}
use Rattle.loop_station_core.proofs.ReleaseLaws.{first-at}

saving-waits : (p : Places) (key : SaveKey) → (wanted p key).1 ≡ is_saving p key
saving-waits p key = grind (arith, common_steps)

pub releases-free : (p : Places) (s : Save) → (left_to_others p s).1 ≡ true → is_saving p s.key ≡ false
releases-free p s h =
    let waits = saving-waits p s.key in
    grind (arith, common_steps)

front : (xs ys : List Save) → take (length xs) (xs ++ ys) ≡ xs
front [] ys = refl
front (x ∷ xs) ys = ap (λ (zs : List Save). x ∷ zs) (front xs ys)

without-last : (xs : List Save) (x : Save) → take (length (xs ++ x ∷ []) - 1) (xs ++ x ∷ []) ≡ xs
without-last xs x =
    let long : length (xs ++ x ∷ []) - 1 ≡ length xs = omega (arith, length-append xs (x ∷ [])) in
    rw long (front xs (x ∷ []))

pub withdrawn_nothing : (p : Places) (key : SaveKey) (automatic : Bool)
    → (asked p key automatic).1 ≡ Waits → withdrawn (asked p key automatic).0 ≡ p
withdrawn_nothing p key automatic h =
    at p.stopped (position (λ o. not (is_some o)) p.running) automatic refl refl refl where
      at : (stopped : Bool) (free : Option ℕ) (own : Bool) → p.stopped ≡ stopped
          → position (λ o. not (is_some o)) p.running ≡ free → automatic ≡ own
          → withdrawn (asked p key automatic).0 ≡ p
      at true free own s f a = grind (arith, common_steps)
      at false (Some place) own s f a = grind (arith, common_steps)
      at false None false s f a = grind (arith, common_steps)
      at false None true s f a =
          let last = without-last p.waiting (new_save key automatic) in
          grind (arith, common_steps)

pub places-tell-all : PlacesTellAll
places-tell-all s t e = (ap (λ p. p.running) e, ap (λ p. p.waiting) e, ap (λ p. p.stopped) e)

pub saves-taken : SavesAreTakenIn
saves-taken p key automatic place =
    ((λ s. grind (arith, common_steps)), (λ s. always (position (λ o. not (is_some o)) p.running) s refl), free)
  where
    always : (o : Option ℕ) → p.stopped ≡ false → position (λ o. not (is_some o)) p.running ≡ o
        → is_taken (asked p key true).1 ≡ true
    always None s e = grind (arith, common_steps)
    always (Some at) s e = grind (arith, common_steps)

    free : p.stopped ≡ false → slice_get p.running place ≡ Some None → is_taken (asked p key automatic).1 ≡ true
    free s g =
        let there = found (λ o. not (is_some o)) p.running place None g refl in
        grind (arith, common_steps)

pub cancels-find : CancelsFindTheirSave
cancels-find p camera id place s = (runs, waits)
  where
    runs : slice_get p.running place ≡ Some (Some s) → picks camera id s ≡ true → (cancelled p camera id).1 ≢ No
    runs g is e =
        let there = found (has_such (picks camera id)) p.running place (Some s) g is in grind (arith, common_steps)

    turned : (t : ℕ) (o : Option Save) → slice_get p.waiting t ≡ o → is_some o ≡ true → (cancelled_at p t).1 ≢ No
    turned t None g h e = grind (arith, common_steps)
    turned t (Some s) g h e = grind (arith, common_steps)

    waits : slice_get p.waiting place ≡ Some s → reads camera id s ≡ true → (cancelled p camera id).1 ≢ No
    waits g is e = at (place_of p camera id) (turn_of_clip p camera id) refl refl
      where
        at : (a b : Option ℕ) → place_of p camera id ≡ a → turn_of_clip p camera id ≡ b → ⊥
        at (Some j) b m n = grind (arith, common_steps)
        at None None m n =
            let there = found (reads camera id) p.waiting place s g is in grind (arith, common_steps)
        at None (Some t) m n =
            let there = found-there (reads camera id) p.waiting t n in
            turned t (slice_get p.waiting t) refl there (grind (arith, common_steps))

pub readers-so : ReadersAreSo
readers-so camera id tag key = (reads-it tag, (λ c i. grind (arith, common_steps)), whole tag)
  where
    reads-it : (tag : Option ℕ) → covers camera id tag key ≡ true
        → (key.camera ≡ camera) × ((key.id ≡ id) ⊎ ((key.whole ≡ true) × (tag ≡ Some key.tag)))
    reads-it tag e = (grind (arith, common_steps), at (key.id == id) tag refl e)
      where
        at : (b : Bool) (tag : Option ℕ) → (key.id == id) ≡ b → covers camera id tag key ≡ true
            → (key.id ≡ id) ⊎ ((key.whole ≡ true) × (tag ≡ Some key.tag))
        at true tag is e = inl (grind (arith, common_steps))
        at false None is e = absurd (grind (arith, common_steps))
        at false (Some t) is e =
            let same : t ≡ key.tag = grind (arith, common_steps) in
            inr (grind (arith, common_steps), ap (λ n. Some n) same)

    whole : (tag : Option ℕ) → key.camera ≡ camera → key.whole ≡ true → tag ≡ Some key.tag → covers camera id tag key ≡ true
    whole None c w e = absurd (cc)
    whole (Some t) c w e = let same : t ≡ key.tag = grind (arith, common_steps) in grind (arith, common_steps)

pub saves-earn : SavesEarnTheirClip
saves-earn s end releases = ((λ e. (grind (arith, common_steps), grind (arith, common_steps), grind (arith, common_steps))), (λ a b c. grind (arith, common_steps)))

pub cancelled-theirs : CancelledSavesAreTheirs
cancelled-theirs p camera id place s is there = at (place_of p camera id) refl is
  where
    turned : (t : ℕ) (o : Option Save) → slice_get p.waiting t ≡ o → (cancelled_at p t).1 ≡ Running place → ⊥
    turned t None g e = grind (arith, common_steps)
    turned t (Some w) g e = grind (arith, common_steps)

    waits : (b : Option ℕ) → place_of p camera id ≡ None → turn_of_clip p camera id ≡ b
        → (cancelled p camera id).1 ≡ Running place → ⊥
    waits None m n e = grind (arith, common_steps)
    waits (Some t) m n e = turned t (slice_get p.waiting t) refl (grind (arith, common_steps))

    at : (a : Option ℕ) → place_of p camera id ≡ a → (cancelled p camera id).1 ≡ Running place
        → (s.key.camera ≡ camera) × (s.key.id ≡ id)
        × (has_such (picks camera id) (held_at (cancelled p camera id).0 place) ≡ false)
    at None m e = absurd (waits (turn_of_clip p camera id) m refl e)
    at (Some j) m e =
        let same : j ≡ place = grind (arith, common_steps) in
        let here : place_of p camera id ≡ Some place = grind (arith, common_steps) in
        let of : picks camera id s ≡ true = first-at (has_such (picks camera id)) p.running place (Some s) here there in
        let put = set-there p.running place (Some s) (Some (with_cancel s)) there in
        (grind (arith, common_steps), grind (arith, common_steps), grind (arith, common_steps))

pub stops-end : StopsEndSaves
stops-end p = (stops-now (position is_some p.running) p.waiting refl refl, ended (position is_some p.running) p.waiting refl refl)
  where
    held : (place : ℕ) (o : Option (Option Save)) → position is_some p.running ≡ Some place → slice_get p.running place ≡ o
        → is_some (held_at p place) ≡ true
    held place None e g = let there = found-there is_some p.running place e in grind (arith, common_steps)
    held place (Some None) e g = let of = first-at is_some p.running place None e g in absurd (cc)
    held place (Some (Some s)) e g = grind (arith, common_steps)

    stops-now : (a : Option ℕ) (ws : List Save) → position is_some p.running ≡ a → p.waiting ≡ ws → (stopped p).0.stopped ≡ true
    stops-now None [] e n = grind (arith, common_steps)
    stops-now None (s ∷ ss) e n = grind (arith, common_steps)
    stops-now (Some place) ws e n = let h = held place (slice_get p.running place) e refl in grind (arith, common_steps)

    ended : (a : Option ℕ) (ws : List Save) → position is_some p.running ≡ a → p.waiting ≡ ws → (stopped p).1 ≡ None
        → (position is_some p.running ≡ None) × (p.waiting ≡ [])
    ended None [] e n h = (e, n)
    ended None (s ∷ ss) e n h = absurd (grind (arith, common_steps))
    ended (Some place) ws e n h =
        let some = held place (slice_get p.running place) e refl in absurd (grind (arith, common_steps))

pub begun-told : BegunSavesAreTold
begun-told p place key free = at p.stopped p.waiting refl refl
  where
    at : (b : Bool) (ws : List Save) → p.stopped ≡ b → p.waiting ≡ ws → let after = begun p place in
        (after.1 ≡ None → after.0 ≡ p)
        × (after.1 ≡ Some key → (option_map (λ s. s.key) (held_at after.0 place) ≡ Some key)
        × (length after.0.waiting + 1 ≡ length p.waiting))
    at true ws e n = ((λ h. grind (arith, common_steps)), (λ h. absurd (grind (arith, common_steps))))
    at false [] e n = ((λ h. grind (arith, common_steps)), (λ h. absurd (grind (arith, common_steps))))
    at false (s ∷ ss) e n =
        let put = set-there p.running place None (Some s) free in
        ((λ h. absurd (grind (arith, common_steps))), (λ h. (grind (arith, common_steps), grind (arith, common_steps))))
