-- Desks that are only read.
use Rattle.std.proofs.Common.{◌≡◌, ◌==◌, ◌<◌, ℕ, Bool, true, false, List, [], ◌∷◌, ◌++◌, length, slice_get, Some, Result, refl, sym, ap, ◌∙◌, subst}
use Rattle.std.proofs.lemmas.Bool.{eqb-true, eqb-false}
use Rattle.std.proofs.lemmas.Option.{slice_get_within}
use Rattle.loop_disk.specs.Medium.{Medium}
use Rattle.loop_record.specs.declared.frame.FrameHead.{FrameHead}
use Rattle.loop_store.specs.declared.fault.StoreFault.{StoreFault}
use Rattle.loop_desk.specs.Desk.{DeskCall, frame_read}
use Rattle.loop_desk.specs.Seen.{DeskGoes, SeenDesk}
use Rattle.loop_pipeline.specs.Backs.{GoesAt}
use Rattle.loop_pipeline.proofs.DeskPlaces.{as-many, goes-then, there-now}
use Rattle.loop_pipeline.proofs.Places.{get-set-other, some-same, some-there}
use Rattle.loop_station_camera.specs.Keeping.{AreOnlyRead, IsOnlyRead, ReadsInTurn}

module _ {D : Type 0} (medium : D → Medium) where
  -- ---- one desk

  pub not-read : (d : SeenDesk D) → IsOnlyRead medium d d
  not-read d = ([], refl)

  pub read-once : (d e : SeenDesk D) (number : ℕ) (answer : Result (FrameHead × List ℕ) StoreFault)
      → DeskGoes medium d e (frame_read number answer ∷ []) → IsOnlyRead medium d e
  read-once d e number answer goes = (frame_read number answer ∷ [], (e, (goes, tt), refl))

  joined : (d e f : SeenDesk D) (xs ys : List DeskCall) → ReadsInTurn medium d xs e → ReadsInTurn medium e ys f
      → ReadsInTurn medium d (xs ++ ys) f
  joined d e f [] ys first then = subst (λ x. ReadsInTurn medium x ys f) first then
  joined d e f (x ∷ xs) ys first then = (first.0, first.1, joined first.0 e f xs ys first.2 then)

  pub read-then : (d e f : SeenDesk D) → IsOnlyRead medium d e → IsOnlyRead medium e f → IsOnlyRead medium d f
  read-then d e f first then = (first.0 ++ then.0, joined d e f first.0 then.0 first.1 then.1)

  -- ---- the one at a place

  pub read-here : (old new : List (SeenDesk D)) (place number : ℕ) (answer : Result (FrameHead × List ℕ) StoreFault)
      → GoesAt place old new (λ d e. DeskGoes medium d e (frame_read number answer ∷ []))
      → GoesAt place old new (IsOnlyRead medium)
  read-here old new place number answer goes = record {
    before = goes.before;
    after = goes.after;
    at = goes.at;
    goes = read-once goes.before goes.after number answer goes.goes;
    same = goes.same;
  }

  pub here-then : (old mid new : List (SeenDesk D)) (place : ℕ) → GoesAt place old mid (IsOnlyRead medium)
      → GoesAt place mid new (IsOnlyRead medium) → GoesAt place old new (IsOnlyRead medium)
  here-then old mid new place first then =
      goes-then old mid new place (IsOnlyRead medium) (IsOnlyRead medium) (IsOnlyRead medium) first then read-then

  -- ---- several

  pub none-read : (desks : List (SeenDesk D)) → AreOnlyRead medium desks desks
  none-read desks = record {
    still = refl;
    reads = λ place d e was is. ([], some-same e d (sym is ∙ was));
  }

  pub each-then : (old mid new : List (SeenDesk D)) → AreOnlyRead medium old mid → AreOnlyRead medium mid new
      → AreOnlyRead medium old new
  each-then old mid new first then = record {
    still = then.still ∙ first.still;
    reads = λ place d f was is.
        let there = some-there mid place (subst (λ n. place < n) (sym first.still) (slice_get_within old place d was)) in
        read-then d there.0 f (first.reads place d there.0 was there.1) (then.reads place there.0 f there.1 is);
  }

  pub one-read : (old new : List (SeenDesk D)) (at : ℕ) → GoesAt at old new (IsOnlyRead medium)
      → AreOnlyRead medium old new
  one-read old new at goes = record {
    still = as-many old new at _ goes;
    reads = λ place d e was is. go place d e was is (place == at) refl;
  }
    where
      go : (place : ℕ) (d e : SeenDesk D) → slice_get old place ≡ Some d → slice_get new place ≡ Some e → (b : Bool)
          → (place == at) ≡ b → IsOnlyRead medium d e
      go place d e was is true same =
          let here : place ≡ at = eqb-true place at same in
          let before : goes.before ≡ d =
          some-same goes.before d (sym goes.at ∙ subst (λ n. slice_get old n ≡ Some d) here was) in
          let after : goes.after ≡ e =
          some-same goes.after e (sym (there-now old new at _ goes) ∙ subst (λ n. slice_get new n ≡ Some e) here is) in
          subst (λ f. IsOnlyRead medium d f) after (subst (λ f. IsOnlyRead medium f goes.after) before goes.goes)
      go place d e was is false apart = (
        [],
        some-same e d (sym (get-set-other old at place goes.after e (eqb-false place at apart)
            (subst (λ l. slice_get l place ≡ Some e) goes.same is)) ∙ was),
      )

  pub each-one : (old mid new : List (SeenDesk D)) (at : ℕ) → AreOnlyRead medium old mid
      → GoesAt at mid new (IsOnlyRead medium) → AreOnlyRead medium old new
  each-one old mid new at first goes = each-then old mid new first (one-read mid new at goes)
