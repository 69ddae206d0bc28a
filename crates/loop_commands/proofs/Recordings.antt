-- What film_all says of cameras, told of the sources and stores from which they were made.
use Rattle.std.proofs.Common.{◌≡◌, ◌⊎◌, ◌∙◌, inl, inr, ℕ, List, [], ◌∷◌, ◌++◌, Result, Ok, Err, None, Some, All, ap, arith, false, length, map, refl, slice_get, subst, suc, sym, zero}
use Rattle.std.specs.List.{zip}
use Rattle.std.specs.Global.{Global}
use Rattle.std.specs.Option.{option_map, unwrap_or}
use Rattle.std.specs.Prelude.{⊤, IfOk}
use Rattle.std.proofs.lemmas.List.{append-nil, append_assoc, length-map, nil_from_length}
use Rattle.std.proofs.lemmas.Option.{get_or_from_slice_get, slice_get-map, slice_get_within}
use Rattle.std.proofs.lemmas.Slice.Zip.{length-zip}
use Rattle.loop_disk.specs.Medium.{Medium}
use Rattle.loop_plane.specs.Plane.{Plane}
use Rattle.loop_store.specs.Reopen.{OpensKeeping}
use Rattle.loop_store.specs.Seen.{Seen}
use Rattle.loop_pipeline.specs.declared.ending.CameraEnd.{CameraEnd}
use Rattle.loop_pipeline.specs.declared.film.Unfilmed.{Unfilmed}
use Rattle.loop_pipeline.specs.declared.several.Outcome.{Outcome}
use Rattle.loop_pipeline.specs.declared.several.Shot.{Shot}
use Rattle.loop_pipeline.specs.Cameras.{CameraKeeps, SeenCamera}
use Rattle.loop_pipeline.specs.Several.{IsFilmed, IsOutcome, shot_of}
use Rattle.loop_commands.specs.declared.cameras.Post.{Post}
use Rattle.loop_commands.specs.declared.cameras.Take.{Take}
use Rattle.loop_commands.specs.declared.source.RecordSource.{RecordSource}
use Rattle.loop_commands.specs.Recorded.{AreOpened, AreRecorded, AsksNothing, GivesRecorded, HasRecorded, IsCameraOf, IsPeriod, IsRecordingShot, MayEnd, source_and_store, take_of, taken_of, told_of}

-- ---- places

-- two elements are the same where the same is there
same-some : {X : Type 0} (x y : X) → Some x ≡ Some y → x ≡ y
same-some x y is = ap (λ o. unwrap_or o x) is

-- what each element of a list is, the one at a place is
all-at : {X : Type 0} (P : X → Type 0) (xs : List X) (k : ℕ) (x : X) → All P xs → slice_get xs k ≡ Some x → P x
all-at P xs k x all is = subst P (get_or_from_slice_get xs k x x is) (all k x (slice_get_within xs k x is))

-- the element from which the one of a made list was made
made-from : {X Z : Type 0} (f : X → Z) (xs : List X) (k : ℕ) (z : Z) → slice_get (map f xs) k ≡ Some z
    → (x : X) × (slice_get xs k ≡ Some x) × (f x ≡ z)
made-from f [] k z is = absurd (omega (arith, slice_get_within [] k z is))
made-from f (x ∷ xs) zero z is = (x, (λ i. Some x), same-some (f x) z is)
made-from f (x ∷ xs) (suc k) z is = made-from f xs k z is

-- and the one that was made of an element
makes : {X Z : Type 0} (f : X → Z) (xs : List X) (k : ℕ) (x : X) → slice_get xs k ≡ Some x
    → slice_get (map f xs) k ≡ Some (f x)
makes f xs k x is = slice_get-map f xs k ∙ ap (option_map f) is

-- the pair at a place of two lists
pair-at : {X Y : Type 0} (xs : List X) (ys : List Y) (k : ℕ) (x : X) (y : Y) → slice_get xs k ≡ Some x
    → slice_get ys k ≡ Some y → slice_get (zip xs ys) k ≡ Some (x, y)
pair-at [] ys k x y is-x is-y = absurd (omega (arith, slice_get_within [] k x is-x))
pair-at (z ∷ xs) [] k x y is-x is-y = absurd (omega (arith, slice_get_within [] k y is-y))
pair-at (z ∷ xs) (w ∷ ys) zero x y is-x is-y = λ i. Some (same-some z x is-x i, same-some w y is-y i)
pair-at (z ∷ xs) (w ∷ ys) (suc k) x y is-x is-y = pair-at xs ys k x y is-x is-y

-- one more is added, and one fewer is left
pub one-more : {Y Z : Type 0} (h : Y → Z) (old new : List Z) (y : Y) (before after : List Y) (all : List Z)
    → new ≡ old ++ h y ∷ [] → before ≡ y ∷ after → old ++ map h before ≡ all → new ++ map h after ≡ all
one-more h old new y before after all is was so =
    ap (λ l. l ++ map h after) is ∙ append_assoc old (h y ∷ []) (map h after) ∙ ap (λ l. old ++ map h l) (sym was) ∙ so

-- what is left is nothing once its length is 0
pub none-left : {Y Z : Type 0} (h : Y → Z) (l : List Z) (after : List Y) (all : List Z) (n : ℕ) → n ≡ length after
    → n ≡ 0 → l ++ map h after ≡ all → l ≡ all
none-left h l after all n counted none so =
    sym (append-nil l) ∙ ap (λ k. l ++ map h k) (sym (nil_from_length after (sym counted ∙ none))) ∙ so

-- one more pair is taken of two lists
pub pair-more : {X Y : Type 0} (old new : List (X × Y)) (x : X) (y : Y) (xs xs' : List X) (ys ys' : List Y)
    (all : List (X × Y)) → new ≡ old ++ (x, y) ∷ [] → xs ≡ x ∷ xs' → ys ≡ y ∷ ys' → old ++ zip xs ys ≡ all
    → new ++ zip xs' ys' ≡ all
pair-more old new x y xs xs' ys ys' all is was-x was-y so =
    ap (λ l. l ++ zip xs' ys') is ∙ append_assoc old ((x, y) ∷ []) (zip xs' ys')
    ∙ (λ i. old ++ zip (sym was-x i) (sym was-y i)) ∙ so

zip-none : {X Y : Type 0} (xs : List X) (ys : List Y) → length ys ≡ 0 → zip xs ys ≡ []
zip-none [] ys none = refl
zip-none (x ∷ xs) [] none = refl
zip-none (x ∷ xs) (y ∷ ys) none = absurd (omega (arith, none))

-- no pair is left where one of the lists is empty
no-first : {X Y : Type 0} (old : List (X × Y)) (xs : List X) (ys : List Y) (all : List (X × Y)) → length xs ≡ 0
    → old ++ zip xs ys ≡ all → old ≡ all
no-first old xs ys all none so =
    sym (append-nil old) ∙ (λ i. old ++ zip (sym (nil_from_length xs none) i) ys) ∙ so

no-second : {X Y : Type 0} (old : List (X × Y)) (xs : List X) (ys : List Y) (all : List (X × Y)) → length ys ≡ 0
    → old ++ zip xs ys ≡ all → old ≡ all
no-second old xs ys all none so =
    sym (append-nil old) ∙ ap (λ l. old ++ l) (sym (zip-none xs ys none)) ∙ so

-- no pair is left where one of two iterators has ended
pub none-paired : {X Y U V : Type 0} (old all : List (X × Y)) (xs : List X) (ys : List Y) (m n : ℕ) → m ≡ length xs
    → n ≡ length ys → U ⊎ V → (U → m ≡ 0) → (V → n ≡ 0) → old ++ zip xs ys ≡ all → old ≡ all
none-paired old all xs ys m n first second (inl u) none other so = no-first old xs ys all (sym first ∙ none u) so
none-paired old all xs ys m n first second (inr v) other none so = no-second old xs ys all (sym second ∙ none v) so

-- ---- stores that were opened

module _ {D : Type 0} (medium : D → Medium) (keep : ℕ) where
  opened-more : (disks : List D) (stores : List (Seen D)) (disk : D) (store : Seen D)
      → OpensKeeping medium keep disk (Ok store) → AreOpened medium keep disks stores
      → AreOpened medium keep (disks ++ disk ∷ []) (stores ++ store ∷ [])
  opened-more [] [] disk store is so = (is, tt)
  opened-more [] (s ∷ stores) disk store is so = absurd so
  opened-more (d ∷ disks) [] disk store is so = absurd so
  opened-more (d ∷ disks) (s ∷ stores) disk store is so = (so.0, opened-more disks stores disk store is so.1)

  -- the first of those that are left is opened
  pub one-opened : (all before after : List D) (disk : D) (stores new : List (Seen D)) (store : Seen D)
      → before ≡ disk ∷ after → new ≡ stores ++ store ∷ [] → OpensKeeping medium keep disk (Ok store)
      → (done : List D) × (done ++ before ≡ all) × AreOpened medium keep done stores
      → (done : List D) × (done ++ after ≡ all) × AreOpened medium keep done new
  one-opened all before after disk stores new store was more is (done, same, so) = (
    done ++ disk ∷ [],
    append_assoc done (disk ∷ []) after ∙ ap (λ l. done ++ l) (sym was) ∙ same,
    subst (λ l. AreOpened medium keep (done ++ disk ∷ []) l) (sym more) (opened-more done stores disk store is so),
  )

  -- none is left
  pub all-opened : (all after : List D) (stores : List (Seen D)) (n : ℕ) → n ≡ length after → n ≡ 0
      → (done : List D) × (done ++ after ≡ all) × AreOpened medium keep done stores → AreOpened medium keep all stores
  all-opened all after stores n counted none (done, same, so) =
      subst (λ l. AreOpened medium keep l stores)
      (sym (append-nil done) ∙ ap (λ l. done ++ l) (sym (nil_from_length after (sym counted ∙ none))) ∙ same) so

-- ---- cameras

pub if-ok : {X E : Type 0} (P Q : X → Type 0) (r : Result X E) → ((x : X) → P x → Q x) → IfOk r P → IfOk r Q
if-ok P Q (Ok x) more is = more x is
if-ok P Q (Err e) more is = tt

module _ {D P : Type 0} (medium : D → Medium) (meaning : P → Plane) (frames : ℕ) where
  -- what filming a camera answers, by the guide of a recording
  abbrev IsShotFilmed : Shot RecordSource D P Post → Result (CameraEnd RecordSource D P Post Global)
      (Unfilmed RecordSource D P Post) → Type 0
  IsShotFilmed shot filmed =
      IsFilmed medium GivesRecorded meaning AsksNothing (λ fault. ⊤) (false ≡ false) (λ n now. IsPeriod shot.guide.geometry n now)
      (λ n. MayEnd shot.guide.frames n) shot.camera filmed

  recorded-by : (source : RecordSource) (store : Seen D) (take : Take) (shot : Shot RecordSource D P Post)
      (filmed : Result (CameraEnd RecordSource D P Post Global) (Unfilmed RecordSource D P Post))
      → IsShotFilmed shot filmed → told_of filmed ≡ Some take → IsRecordingShot meaning frames shot
      → source_and_store shot ≡ (source, store) → HasRecorded {P = P} medium meaning frames source store take
  recorded-by source store take shot (Err unfilmed) is told ready held = absurd (let e : None ≡ Some take = told in cc)
  recorded-by source store take shot (Ok e) is told ready held =
      let same : take_of e ≡ take = same-some (take_of e) take told in
      let was : IsCameraOf meaning source store shot.camera =
      subst (λ (h : RecordSource × Seen D). IsCameraOf meaning h.0 h.1 shot.camera) held ready.camera in
      let geometry = ready.geometry ∙ ap (λ (h : RecordSource × Seen D). h.1.geometry) held in
      let ended : SeenCamera RecordSource D P =
      record { device = e.device; queue = e.queue; desk = e.desk; joined = e.joined.items } in
      let kept : CameraKeeps medium GivesRecorded meaning AsksNothing (λ fault. ⊤)
      (λ n now. IsPeriod shot.guide.geometry n now) (λ n. MayEnd shot.guide.frames n) shot.camera ended
      e.given_up e.left e.missed e.failed e.over = is.keeps was.regular in
      subst (λ t. HasRecorded {P = P} medium meaning frames source store t) same
      (record {
        camera = shot.camera;
        is = was;
        ended = ended;
        keeps =
            subst (λ over. CameraKeeps medium GivesRecorded meaning AsksNothing (λ fault. ⊤) (IsPeriod store.geometry)
            (MayEnd frames) shot.camera ended e.given_up e.left e.missed e.failed over) is.ended
            (subst (λ g. CameraKeeps medium GivesRecorded meaning AsksNothing (λ fault. ⊤) (IsPeriod g)
            (MayEnd frames) shot.camera ended e.given_up e.left e.missed e.failed e.over) geometry
            (subst (λ n. CameraKeeps medium GivesRecorded meaning AsksNothing (λ fault. ⊤)
            (IsPeriod shot.guide.geometry) (MayEnd n) shot.camera ended e.given_up e.left e.missed e.failed e.over)
            ready.ticks kept));
        settled = is.settled refl;
        next = refl;
        waiting = refl;
      })

  pub are-recorded : (sources : List RecordSource) (stores : List (Seen D)) (shots : List (Shot RecordSource D P Post))
      (outcomes : List (Outcome RecordSource D P Post)) (takes : List Take) → map source_and_store shots ≡ zip sources stores
      → All (IsRecordingShot meaning frames) shots → map shot_of outcomes ≡ shots
      → All (IsOutcome medium GivesRecorded meaning AsksNothing (λ fault. ⊤) (false ≡ false)
      (λ (post : Post) n now. IsPeriod post.geometry n now) (λ post n. MayEnd post.frames n)) outcomes
      → map (λ take. Some take) takes ≡ map taken_of outcomes
      → AreRecorded {P = P} medium meaning frames sources stores takes
  are-recorded sources stores shots outcomes takes held ready same each told = record {
    count = omega (
      arith,
      length-map takes (λ (take : Take). Some take),
      ap length told,
      length-map outcomes taken_of,
      length-map outcomes shot_of,
      ap length same,
      length-map shots source_and_store,
      ap length held,
      length-zip sources stores,
    );
    each = λ k source store take is-source is-store is-take.
        let at = made-from taken_of outcomes k (Some take)
        (sym (ap (λ l. slice_get l k) told) ∙ makes (λ (t : Take). Some t) takes k take is-take) in
        let o = at.0 in
        let shot = shot_of o in
        let there : slice_get shots k ≡ Some shot =
        sym (ap (λ l. slice_get l k) same) ∙ makes shot_of outcomes k o at.1 in
        let holds : source_and_store shot ≡ (source, store) =
        same-some (source_and_store shot) (source, store)
        (sym (makes source_and_store shots k shot there) ∙ ap (λ l. slice_get l k) held
        ∙ pair-at sources stores k source store is-source is-store) in
        recorded-by source store take shot o.filmed
        (all-at (IsOutcome medium GivesRecorded meaning AsksNothing (λ fault. ⊤) (false ≡ false)
        (λ (post : Post) n now. IsPeriod post.geometry n now) (λ post n. MayEnd post.frames n)) outcomes k o each at.1)
        at.2 (all-at (IsRecordingShot meaning frames) shots k shot ready there) holds;
  }
