-- The outlines of desks, and the numbers of passes, one more or one fewer at a time.
use Rattle.std.proofs.Common.{◌≡◌, ◌<◌, ◌+◌, ℕ, List, [], ◌∷◌, ◌++◌, length, map, take, arith, refl, sym, ap, ◌∙◌, subst}
use Rattle.std.specs.Prelude.{get_or}
use Rattle.std.proofs.lemmas.List.{length-map, map-append, map-id, take_more}
use Rattle.std.proofs.lemmas.List.FromFn.{map-range_with_len_more}
use Rattle.std.specs.List.{range_with_len}
use Rattle.loop_disk.specs.Medium.{Medium}
use Rattle.loop_desk.specs.declared.limits.Outline.{Outline}
use Rattle.loop_desk.specs.Seen.{SeenDesk, TellsOutline}
use Rattle.loop_recorder.specs.declared.port.QueueLock.{QueueLock}
use Rattle.loop_recorder.specs.Opened.{AreNumbered, CameraOf, TellOutlines, desks_in}

module _ {D A : Type 0} (medium : D → Medium) where
  tell-more : (ds : List (SeenDesk D)) (os : List (Outline A)) (d : SeenDesk D) (o : Outline A)
      → TellOutlines medium ds os → TellsOutline medium d o → TellOutlines medium (ds ++ d ∷ []) (os ++ o ∷ [])
  tell-more [] [] d o each here = (here, tt)
  tell-more [] (p ∷ os) d o each here = absurd each
  tell-more (c ∷ ds) [] d o each here = absurd each
  tell-more (c ∷ ds) (p ∷ os) d o each here = (each.0, tell-more ds os d o each.1 here)

  tell-length : (ds : List (SeenDesk D)) (os : List (Outline A)) → TellOutlines medium ds os → length ds ≡ length os
  tell-length [] [] each = refl
  tell-length [] (o ∷ os) each = absurd each
  tell-length (d ∷ ds) [] each = absurd each
  tell-length (d ∷ ds) (o ∷ os) each = omega (arith, tell-length ds os each.1)

module _ {D P A : Type 0} (medium : D → Medium) where
  -- as many outlines as cameras
  pub tell-count : (cs : List (CameraOf D P)) (os : List (Outline A)) → TellOutlines medium (desks_in cs) os
      → length cs ≡ length os
  tell-count cs os each = sym (length-map cs (λ (x : CameraOf D P). x.0)) ∙ tell-length medium (desks_in cs) os each

  -- the next camera of a list
  pub tell-next : (cs : List (CameraOf D P)) (i : ℕ) (c : CameraOf D P) (os : List (Outline A)) (o : Outline A)
      → i < length cs → TellOutlines medium (desks_in (take i cs)) os → TellsOutline medium (get_or cs i c).0 o
      → TellOutlines medium (desks_in (take (i + 1) cs)) (os ++ o ∷ [])
  tell-next cs i c os o below each here =
      let more : desks_in (take (i + 1) cs) ≡ desks_in (take i cs) ++ (get_or cs i c).0 ∷ [] =
      ap (λ (l : List (CameraOf D P)). desks_in l) (take_more cs i c below)
      ∙ map-append (λ (x : CameraOf D P). x.0) (take i cs) (get_or cs i c ∷ []) in
      subst (λ (l : List (SeenDesk D)). TellOutlines medium l (os ++ o ∷ [])) (sym more) (tell-more medium (desks_in (take i cs)) os (get_or cs i c).0 o each here)

  -- the first camera and the first outline
  pub tell-first : (cs rest : List (CameraOf D P)) (os left : List (Outline A)) (c : CameraOf D P) (o : Outline A)
      → cs ≡ c ∷ rest → os ≡ o ∷ left → TellOutlines medium (desks_in cs) os → TellsOutline medium c.0 o
      × TellOutlines medium (desks_in rest) left
  tell-first cs rest os left c o is are each =
      subst (λ (x : List (CameraOf D P) × List (Outline A)). TellOutlines medium (desks_in x.0) x.1)
      (λ i. (is i, are i)) each

-- numbers from 0, and the next
pub numbers-more : (n : ℕ) → range_with_len 0 (n + 1) ≡ range_with_len 0 n ++ n ∷ []
numbers-more n = sym (map-id (range_with_len 0 (n + 1))) ∙ map-range_with_len_more (λ (x : ℕ). x) 0 n n (omega arith)
    ∙ ap (λ l. l ++ n ∷ []) (map-id (range_with_len 0 n))

-- one lock more
pub numbered-more : {P A : Type 0} (count : ℕ) (old new : List (QueueLock P A)) (l : QueueLock P A) → AreNumbered count old
    → new ≡ old ++ l ∷ [] → l.camera ≡ count → AreNumbered (count + 1) new
numbered-more {P} {A} count old new l so is at =
    let number : QueueLock P A → ℕ = λ l. l.camera in
    ap (map number) is ∙ map-append number old (l ∷ []) ∙ (λ i. so i ++ at i ∷ []) ∙ sym (numbers-more count)
